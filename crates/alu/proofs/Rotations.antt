-- A rotation, as the word twice, side by side, and shifted.
use Rattle.std.proofs.Common.{◌≡◌, ℕ, zero, suc, ◌+◌, ◌-◌, ◌*◌, ◌/◌, ◌%◌, ◌^◌, ◌<◌, bit_or, sym, refl, ap, ap₂, ◌∙◌, subst, add-mul, mul_assoc, pow-add, arith, w32}
use Rattle.std.proofs.Math.Nat.{mul-mod_left}
use Rattle.std.proofs.lemmas.Nat.{shl-shr, shr_split, mod-pow-add, div-mul-add, mod-mul-add, mod_below, pow_pos, shr_below, shr_high}
use Rattle.std.specs.Int.{rotate_right}
use Rattle.std.specs.Int.Bits.{or_self, or_shifted_r}
use Rattle.alu.specs.Arithmetic.{ror}

-- the upper part of a word of k + m bits goes down by k, and its low k bits go up by m
module _ (a k m : ℕ) (fits : a < 2 ^ (m + k)) where
  upper : a / 2 ^ k < 2 ^ m
  upper = shr_below a m k fits

  up_by : (a * 2 ^ m) % 2 ^ (k + m) ≡ a % 2 ^ k * 2 ^ m
  up_by = rw (mod-pow-add (a * 2 ^ m) k m, shl-shr a m, mul-mod_left a (2 ^ m)) (omega arith)

  joined : bit_or (a / 2 ^ k) ((a * 2 ^ m) % 2 ^ (k + m)) ≡ a % 2 ^ k * 2 ^ m + a / 2 ^ k
  joined = rw up_by (or_shifted_r (a % 2 ^ k) m (a / 2 ^ k) upper)

  twice : (a * 2 ^ m * 2 ^ k + a) / 2 ^ k ≡ a * 2 ^ m + a / 2 ^ k
  twice =
      let e : a * 2 ^ m * 2 ^ k + a ≡ (a * 2 ^ m + a / 2 ^ k) * 2 ^ k + a % 2 ^ k = omega (arith, add-mul (a * 2 ^ m) (a / 2 ^ k) (2 ^ k), shr_split a k) in
      ap (λ (x : ℕ). x / 2 ^ k) e ∙ shr_high (a * 2 ^ m + a / 2 ^ k) k (a % 2 ^ k) (mod_below a (2 ^ k) (pow_pos k))

  low : (a * 2 ^ m + a / 2 ^ k) % 2 ^ (k + m) ≡ a % 2 ^ k * 2 ^ m + a / 2 ^ k
  low = rw (mod-pow-add (a * 2 ^ m + a / 2 ^ k) k m, div-mul-add a (2 ^ m) (a / 2 ^ k) upper, mod-mul-add a (2 ^ m) (a / 2 ^ k) upper) refl

  whole : bit_or (a / 2 ^ k) ((a * 2 ^ m) % 2 ^ (k + m)) ≡ (a * 2 ^ m * 2 ^ k + a) / 2 ^ k % 2 ^ (k + m)
  whole = joined ∙ sym (ap (λ (x : ℕ). x % 2 ^ (k + m)) twice ∙ low)

by_count : (a k : ℕ) → k < 32 → a < 2 ^ 32 → bit_or (a / 2 ^ k) ((a * 2 ^ ((32 - k) % 32)) % 2 ^ 32) ≡ (a * 2 ^ 32 + a) / 2 ^ k % 2 ^ 32
by_count a zero l h =
    let down : a / 2 ^ 0 ≡ a = omega arith in
    let up : (a * 2 ^ ((32 - 0) % 32)) % 2 ^ 32 ≡ a = omega arith in
    let right : (a * 2 ^ 32 + a) / 2 ^ 0 % 2 ^ 32 ≡ a = omega arith in
    ap₂ (λ (x y : ℕ). bit_or x y) down up ∙ or_self a ∙ sym right
by_count a (suc i) l h =
    let k = suc i in
    let m = 32 - k in
    let sum : 32 ≡ k + m = omega arith in
    let turned : 32 ≡ m + k = omega arith in
    let up : (32 - k) % 32 ≡ m = omega arith in
    let product : a * 2 ^ m * 2 ^ k ≡ a * 2 ^ 32 = mul_assoc a (2 ^ m) (2 ^ k) ∙ ap (λ (x : ℕ). a * x) (sym (pow-add 2 m k) ∙ ap (λ (x : ℕ). 2 ^ x) (sym turned)) in
    let fits : a < 2 ^ (m + k) = subst (λ (x : ℕ). a < 2 ^ x) turned h in
    let at_32 : bit_or (a / 2 ^ k) ((a * 2 ^ m) % 2 ^ 32) ≡ (a * 2 ^ m * 2 ^ k + a) / 2 ^ k % 2 ^ 32 = subst (λ (x : ℕ). bit_or (a / 2 ^ k) ((a * 2 ^ m) % 2 ^ x) ≡ (a * 2 ^ m * 2 ^ k + a) / 2 ^ k % 2 ^ x) (sym sum) (whole a k m fits) in
    subst (λ (x : ℕ). bit_or (a / 2 ^ k) ((a * 2 ^ x) % 2 ^ 32) ≡ (a * 2 ^ 32 + a) / 2 ^ k % 2 ^ 32) (sym up) (at_32 ∙ ap (λ (x : ℕ). (x + a) / 2 ^ k % 2 ^ 32) product)

pub rotated : (a n : ℕ) → a < 2 ^ 32 → rotate_right w32 a n ≡ ror a n
rotated a n h = by_count a (n % 32) (omega arith) h
