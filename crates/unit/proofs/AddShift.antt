-- Add and shift, at every width.
use Rattle.std.proofs.Common.{◌≡◌, ℕ, zero, suc, ◌+◌, ◌-◌, ◌*◌, ◌/◌, ◌%◌, ◌^◌, ◌<◌, ◌≤◌, cond, eqb, ℤ, pos, ◌+ℤ◌, ◌-ℤ◌, ◌*ℤ◌, sym, ap, ◌∙◌, subst, mul_assoc, mul_comm, add-mul, mul-add, mul_left_comm, arith, lit<}
use Rattle.std.proofs.Math.Nat.{pow-succ'}
use Rattle.std.proofs.lemmas.Nat.{mod_below}
use Rattle.std.proofs.Math.Arith.{digits_div, digits_mod}
use Rattle.std.proofs.lemmas.Int.{ints}
use borrow.Author.Differences.{up, down, sum_is_lem, product_is, same_in}
use Rattle.unit.specs.declared.Pair.{Pair}
use Rattle.unit.specs.After.{after}
use Rattle.unit.specs.Steps.{half, odd, total, add_shift}
use Rattle.unit.specs.Exact.{OneStep, AddAndShift}
use Rattle.unit.proofs.Ints.{half_is}

total_by : (b : ℕ) (h n : ℤ) → b < 2 → up (cond (eqb b 0) h (h +ℤ n)) + down h + b * down n ≡ down (cond (eqb b 0) h (h +ℤ n)) + up h + b * up n
total_by zero h n lt = omega arith
total_by (suc zero) h n lt = omega (arith, sum_is_lem h n)
total_by (suc (suc b)) h n lt = absurd (omega arith)

-- the law of one step in naturals, each integer by its two sides
pub step_sides : (v : ℕ) (n : ℤ) (p : Pair) → 2 * (up (add_shift (suc v) n p).high * 2 ^ suc v + (add_shift (suc v) n p).low) + down p.high * 2 ^ suc v + (p.low % 2) * (down n * 2 ^ suc v) + p.low % 2 ≡ 2 * (down (add_shift (suc v) n p).high * 2 ^ suc v) + (up p.high * 2 ^ suc v + p.low) + (p.low % 2) * (up n * 2 ^ suc v)
step_sides v n p =
    let t = total n p in
    let W = 2 ^ suc v in
    let b = p.low % 2 in
    let e : 2 * up (half t) + odd t + down p.high + b * down n ≡ 2 * down (half t) + up p.high + b * up n = omega (arith, total_by b p.high n (omega arith), half_is t) in
    let k : suc v - 1 ≡ v = omega arith in
    let m = simp (add-mul, mul_assoc) at (ap (λ (x : ℕ). x * W) e) in
    let c : odd t * 2 ^ suc v ≡ 2 * (odd t * 2 ^ v) = ap (λ (x : ℕ). odd t * x) (pow-succ' 2 v) ∙ mul_left_comm (odd t) 2 (2 ^ v) in
    rw k (omega (arith, m, c))

bit_by : (b : ℕ) (n : ℤ) (W : ℕ) → b < 2 → up (pos b *ℤ (n *ℤ pos W -ℤ pos 1)) + b * (down n * W) + b ≡ down (pos b *ℤ (n *ℤ pos W -ℤ pos 1)) + b * (up n * W)
bit_by zero n W lt = omega (arith, ints)
bit_by (suc zero) n W lt = omega (arith, ints)
bit_by (suc (suc b)) n W lt = absurd (omega arith)

in_whole :
    (W b l l' : ℕ) (h z n : ℤ)
    → b < 2
    → 2 * (up z * W + l') + down h * W + b * (down n * W) + b ≡ 2 * (down z * W) + (up h * W + l) + b * (up n * W)
    → pos 2 *ℤ (z *ℤ pos W +ℤ pos l') ≡ h *ℤ pos W +ℤ pos l +ℤ pos b *ℤ (n *ℤ pos W -ℤ pos 1)
in_whole W b l l' h z n lt e =
    let x = pos b *ℤ (n *ℤ pos W -ℤ pos 1) in
    let bit = bit_by b n W lt in
    same_in _ _ (omega (arith, product_is (pos 2) (z *ℤ pos W +ℤ pos l'), sum_is_lem (z *ℤ pos W) (pos l'), product_is z (pos W), sum_is_lem (h *ℤ pos W +ℤ pos l) x, sum_is_lem (h *ℤ pos W) (pos l), product_is h (pos W)))

pub one_step : OneStep
one_step zero n p lt = absurd (omega arith)
one_step (suc v) n p lt =
    in_whole (2 ^ suc v) (p.low % 2) p.low (add_shift (suc v) n p).low p.high (add_shift (suc v) n p).high n (mod_below p.low 2 (lit< tt)) (step_sides v n p)

-- one step more in the sum: P is 2^k, u the bits of l so far, and this step adds its own m
chain :
    (P u b X Y X' Y' nu nd mu md l : ℕ)
    → 2 * X' + Y + b * md + b ≡ 2 * Y' + X + b * mu
    → P * X + u * nd + u ≡ P * Y + u * nu + l
    → 2 * P * X' + u * nd + P * b * md + (u + P * b) ≡ 2 * P * Y' + u * nu + P * b * mu + l
chain P u b X Y X' Y' nu nd mu md l h e =
    let m = simp mul-add at (ap (λ (x : ℕ). P * x) h) in
    simp mul_assoc (omega (arith, m, mul_left_comm P 2 X', mul_left_comm P 2 Y'))

-- the two parts of a number over W are its own
unique : (W A B r s : ℕ) → r < W → s < W → A * W + r ≡ B * W + s → (A ≡ B) × (r ≡ s)
unique W A B r s hr hs e =
    (sym (digits_div A hr) ∙ ap (λ (x : ℕ). x / W) e ∙ digits_div B hs, sym (digits_mod A hr) ∙ ap (λ (x : ℕ). x % W) e ∙ digits_mod B hs)

-- after k steps
abbrev Sum : ℕ → ℕ → ℤ → ℕ → ℕ → Pair → Type 0
Sum W P n l u p = P * (up p.high * W + p.low) + u * (down n * W) + u ≡ P * (down p.high * W) + u * (up n * W) + l

-- a bit more of l
wider : (P u b : ℕ) → u < P → b < 2 → u + P * b < 2 * P
wider P u zero hu hb = omega arith
wider P u (suc zero) hu hb = omega arith
wider P u (suc (suc b)) hu hb = absurd (omega arith)

module _ (v : ℕ) (n : ℤ) (l k u : ℕ) (p : Pair) (lt : u < 2 ^ k) (e : Sum (2 ^ suc v) (2 ^ k) n l u p) where
  grow : (u' : ℕ) × (u' < 2 ^ suc k) × Sum (2 ^ suc v) (2 ^ suc k) n l u' (add_shift (suc v) n p)
  grow =
      let q = add_shift (suc v) n p in
      let W = 2 ^ suc v in
      let b = p.low % 2 in
      let more = chain (2 ^ k) u b (up p.high * W + p.low) (down p.high * W) (up q.high * W + q.low) (down q.high * W) (up n * W) (down n * W) (up n * W) (down n * W) l (step_sides v n p) e in
      (u + 2 ^ k * b, rw (pow-succ' 2 k) (wider (2 ^ k) u b lt (mod_below p.low 2 (lit< tt))), rw (pow-succ' 2 k, add-mul u (2 ^ k * b) (up n * W), add-mul u (2 ^ k * b) (down n * W)) (omega (arith, more)))

module _ (v : ℕ) (n : ℤ) (a : ℕ → ℤ) (l : ℕ) (agree : (s : ℕ) → s < v → a s ≡ n) where
  abbrev at : ℕ → Pair
  at = after (λ s. add_shift (suc v) (a s)) (record { high = pos 0; low = l })

  sums : (k : ℕ) → k ≤ v → (u : ℕ) × (u < 2 ^ k) × Sum (2 ^ suc v) (2 ^ k) n l u (at k)
  unfolding after
  sums zero h = (0, lit< tt, omega arith)
  sums (suc k) h =
      let r = sums k (omega arith) in
      let P : ℤ → Type 0 = λ x. (u : ℕ) × (u < 2 ^ suc k) × Sum (2 ^ suc v) (2 ^ suc k) n l u (add_shift (suc v) x (at k)) in
      subst P (sym (agree k h)) (grow v n l k r.0 (at k) r.1 r.2)

factor :
    (W A B u t nu nd mu md l : ℕ)
    → W * A + u * (nd * W) + t * (md * W) + (u + t) ≡ W * B + u * (nu * W) + t * (mu * W) + l
    → (A + u * nd + t * md) * W + (u + t) ≡ (B + u * nu + t * mu) * W + l
factor W A B u t nu nd mu md l e = simp (add-mul, mul_assoc) (omega (arith, e, mul_comm W A, mul_comm W B))

-- the last step, which adds m
module _ (v : ℕ) (n m : ℤ) (l u : ℕ) (p : Pair) (small : l < 2 ^ suc v) (lt : u < 2 ^ v) (e : Sum (2 ^ suc v) (2 ^ v) n l u p) where
  abbrev q : Pair
  q = add_shift (suc v) m p

  last : (up q.high * 2 ^ suc v + q.low + u * down n + 2 ^ v * (p.low % 2) * down m ≡ down q.high * 2 ^ suc v + u * up n + 2 ^ v * (p.low % 2) * up m) × (u + 2 ^ v * (p.low % 2) ≡ l)
  last =
      let W = 2 ^ suc v in
      let t = 2 ^ v * (p.low % 2) in
      let more = chain (2 ^ v) u (p.low % 2) (up p.high * W + p.low) (down p.high * W) (up q.high * W + q.low) (down q.high * W) (up n * W) (down n * W) (up m * W) (down m * W) l (step_sides v m p) e in
      let A = up q.high * W + q.low in
      let B = down q.high * W in
      let below : u + t < W = rw (pow-succ' 2 v) (wider (2 ^ v) u (p.low % 2) lt (mod_below p.low 2 (lit< tt))) in
      let whole = factor W A B u t (up n) (down n) (up m) (down m) l (rw (← pow-succ' 2 v) at more) in
      unique W (A + u * down n + t * down m) (B + u * up n + t * up m) (u + t) l below small whole

in_product :
    (W l u t : ℕ) (z n m : ℤ)
    → up z * W + l + u * down n + t * down m ≡ down z * W + u * up n + t * up m
    → z *ℤ pos W +ℤ pos l ≡ n *ℤ pos u +ℤ m *ℤ pos t
in_product W l u t z n m e =
    same_in _ _ (omega (arith, e, sum_is_lem (z *ℤ pos W) (pos l), product_is z (pos W), sum_is_lem (n *ℤ pos u) (m *ℤ pos t), product_is n (pos u), product_is m (pos t), mul_comm u (up n), mul_comm u (down n), mul_comm t (up m), mul_comm t (down m)))

pub add_and_shift : AddAndShift
unfolding after
add_and_shift v n a l agree small =
    let r = sums v n a l agree v (omega arith) in
    let p = at v n a l agree v in
    let q = add_shift (suc v) (a v) p in
    let t = 2 ^ v * (p.low % 2) in
    let w = last v n (a v) l r.0 p small r.1 r.2 in
    let e = in_product (2 ^ suc v) q.low r.0 t q.high n (a v) w.0 in
    let low : l % 2 ^ v ≡ r.0 = ap (λ (x : ℕ). x % 2 ^ v) (sym w.1 ∙ omega (arith, mul_comm (2 ^ v) (p.low % 2))) ∙ digits_mod (p.low % 2) r.1 in
    let top : l - l % 2 ^ v ≡ t = omega (arith, low, w.1) in
    rw (top, low) e
