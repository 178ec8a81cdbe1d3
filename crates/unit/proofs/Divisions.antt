-- What the divider gives after its 32 steps.
use Rattle.std.proofs.Common.{◌≡◌, ℕ, zero, suc, ◌+◌, ◌-◌, ◌*◌, ◌/◌, ◌%◌, ◌^◌, ◌<◌, ◌≤◌, Bool, true, false, cond, not, T, eqb, leb, pos, sym, refl, ap, ◌∙◌, subst, mul_assoc, add-mul, arith, lit<, leb→le, pow_mono}
use Rattle.std.proofs.Math.Nat.{pow-succ'}
use Rattle.std.proofs.Math.Arith.{digits_div, digits_mod}
use Rattle.std.proofs.Math.Dec.{nleb→lt}
use Rattle.std.proofs.lemmas.Bool.Decides.{nat_tests}
use Rattle.unit.specs.declared.Words.{Words}
use Rattle.unit.specs.declared.Division.{Division}
use Rattle.unit.specs.After.{after}
use Rattle.unit.specs.Steps.{div_start, div_step, div_answer}
use Rattle.unit.specs.Exact.{plain_step, as_pair, quotient, remainder, Divided, DivisionIsPlain, DivisionIsExact, DivisionWords}

-- After k steps: with W = r × 2^32 + d, W = 2^k b - q (n × 2^32 - 1), where q is the quotient so far.
record SoFar (n b P q r d : ℕ) : Type 0 where
  sum : r * 2 ^ 32 + d + q * n * 2 ^ 32 ≡ P * b + q
  quot : q < P
  word : d < 2 ^ 32
  small : r < P
  under : 0 < n → r < n
  ones : n ≡ 0 → suc q ≡ P

takes : (n b P q r d : ℕ) → SoFar n b P q r d → n ≤ 2 * r + d / 2 ^ 31 → SoFar n b (2 * P) (2 * q + 1) (2 * r + d / 2 ^ 31 - n) (2 * d % 2 ^ 32 + 1)
takes n b P q r d s h =
    record {
      sum = rw (add-mul (2 * q) 1 n, mul_assoc 2 q n, mul_assoc 2 P b) (omega (arith, s.sum));
      quot = omega (arith, s.quot);
      word = omega (arith, s.word);
      small = omega (arith, s.small, s.word);
      under = λ p. omega (arith, s.under p, s.word);
      ones = λ e. omega (arith, s.ones e);
    }

leaves : (n b P q r d : ℕ) → SoFar n b P q r d → 2 * r + d / 2 ^ 31 < n → SoFar n b (2 * P) (2 * q) (2 * r + d / 2 ^ 31) (2 * d % 2 ^ 32)
leaves n b P q r d s h =
    record {
      sum = rw (mul_assoc 2 q n, mul_assoc 2 P b) (omega (arith, s.sum));
      quot = omega (arith, s.quot);
      word = omega (arith, s.word);
      small = omega (arith, s.small, s.word);
      under = λ p. omega arith;
      ones = λ e. absurd (omega arith);
    }

abbrev Reached : ℕ → ℕ → ℕ → ℕ × ℕ → Type 0
Reached n b P p = (q : ℕ) × SoFar n b P q p.0 p.1

one_more : (n b P : ℕ) (p : ℕ × ℕ) → Reached n b P p → Reached n b (2 * P) (plain_step n p)
one_more n b P p (q, s) = by (leb n (2 * p.0 + p.1 / 2 ^ 31)) refl
  where
    by : (t : Bool) → leb n (2 * p.0 + p.1 / 2 ^ 31) ≡ t → Reached n b (2 * P) (cond t (2 * p.0 + p.1 / 2 ^ 31 - n, 2 * p.1 % 2 ^ 32 + 1) (2 * p.0 + p.1 / 2 ^ 31, 2 * p.1 % 2 ^ 32))
    by true e = (2 * q + 1, takes n b P q p.0 p.1 s (leb→le n (2 * p.0 + p.1 / 2 ^ 31) (subst T (sym e) tt)))
    by false e = (2 * q, leaves n b P q p.0 p.1 s (nleb→lt n (2 * p.0 + p.1 / 2 ^ 31) (subst (λ (t : Bool). T (not t)) (sym e) tt)))

abbrev plain : (n b k : ℕ) → ℕ × ℕ
plain n b = after (λ _. plain_step n) (0, b)

reached : (n b k : ℕ) → b < 2 ^ 32 → Reached n b (2 ^ k) (plain n b k)
unfolding after
reached n b zero h = (0, record { sum = omega arith; quot = lit< tt; word = h; small = lit< tt; under = λ p. p; ones = λ e. refl })
reached n b (suc k) h = rw (pow-succ' 2 k) (one_more n b (2 ^ k) (plain n b k) (reached n b k h))

-- a step from a rest that is a word
same_step : (f : Division) (s : ℕ) (p : ℕ × ℕ) → p.0 < 2 ^ 32 → div_step f s (as_pair p) ≡ as_pair (plain_step f.divisor p)
same_step f s p h = rw e (by (leb f.divisor (2 * p.0 + p.1 / 2 ^ 31)))
  where
    e : p.0 % 2 ^ 32 ≡ p.0
    e = omega arith

    by : (t : Bool) → cond t (record { high = pos (2 * p.0 + p.1 / 2 ^ 31 - f.divisor); low = 2 * p.1 % 2 ^ 32 + 1 }) (record { high = pos (2 * p.0 + p.1 / 2 ^ 31); low = 2 * p.1 % 2 ^ 32 }) ≡ as_pair (cond t (2 * p.0 + p.1 / 2 ^ 31 - f.divisor, 2 * p.1 % 2 ^ 32 + 1) (2 * p.0 + p.1 / 2 ^ 31, 2 * p.1 % 2 ^ 32))
    by true = refl
    by false = refl

is_plain : (f : Division) (s : ℕ) → f.dividend < 2 ^ 32 → s ≤ 32 → after (div_step f) (div_start f) s ≡ as_pair (plain f.divisor f.dividend s)
unfolding after
is_plain f zero h k = refl
is_plain f (suc s) h k =
    let p = plain f.divisor f.dividend s in
    let r = (reached f.divisor f.dividend s h).1 in
    let le : s ≤ 32 = omega arith in
    let m : 2 ^ s ≤ 2 ^ 32 = pow_mono le in
    ap (div_step f s) (is_plain f s h (omega arith)) ∙ same_step f s p (omega (arith, r.small))

pub division_is_plain : DivisionIsPlain
division_is_plain f s h k = (is_plain f s h k, (reached f.divisor f.dividend s h).1.small)

ended : (n b q r d : ℕ) → SoFar n b (2 ^ 32) q r d → (d ≡ q) × (r + q * n ≡ b)
ended n b q r d s = omega (arith, s.sum, s.quot, s.word)

-- of a pair that has been reached after 32 steps
divided_by : (f : Division) (p : ℕ × ℕ) → Reached f.divisor f.dividend (2 ^ 32) p → Divided f p.1 p.0
divided_by f p (q, s) =
    let e = ended f.divisor f.dividend q p.0 p.1 s in
    (λ h. (rw e.0 (omega (arith, e.1)), s.under h), λ z. (omega (arith, e.0, s.ones z), omega (arith, e.1, ap (λ (n : ℕ). q * n) z)))

answer_of : (f : Division) (p : ℕ × ℕ) → p.0 < 2 ^ 32 → div_answer f (as_pair p) ≡ record { low = p.1; high = p.0 }
answer_of f p h = let e : p.0 % 2 ^ 32 ≡ p.0 = omega arith in rw e

answer_is : (f : Division) → f.dividend < 2 ^ 32 → div_answer f (after (div_step f) (div_start f) 32) ≡ record { low = (plain f.divisor f.dividend 32).1; high = (plain f.divisor f.dividend 32).0 }
answer_is f h =
    ap (div_answer f) (is_plain f 32 h (omega arith)) ∙ answer_of f (plain f.divisor f.dividend 32) (reached f.divisor f.dividend 32 h).1.small

pub division_is_exact : DivisionIsExact
division_is_exact f h =
    let P : Words → Type 0 = λ w. Divided f w.low w.high in
    subst P (sym (answer_is f h)) (divided_by f (plain f.divisor f.dividend 32) (reached f.divisor f.dividend 32 h))

from_divided : (n b q r : ℕ) → Divided (record { dividend = b; divisor = n }) q r → ◌≡◌ {A = Words} (record { low = q; high = r }) (record { low = quotient (record { dividend = b; divisor = n }); high = remainder (record { dividend = b; divisor = n }) })
from_divided zero b q r d = let e = d.1 refl in rw (e.0, e.1)
from_divided (suc n) b q r d =
    let e = d.0 (omega arith) in
    let i : b / suc n ≡ q = ap (λ (x : ℕ). x / suc n) (sym e.0) ∙ digits_div q e.1 in
    let j : b % suc n ≡ r = ap (λ (x : ℕ). x % suc n) (sym e.0) ∙ digits_mod q e.1 in
    let z : eqb (suc n) 0 ≡ false = grind (arith, nat_tests) in
    rw (z, i, j)

pub division_words : DivisionWords
division_words f h =
    let a = div_answer f (after (div_step f) (div_start f) 32) in
    from_divided f.divisor f.dividend a.low a.high (division_is_exact f h)
