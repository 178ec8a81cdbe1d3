-- What the steps come to.
use Rattle.std.specs.Prelude.{◌≡◌, ℕ, suc, ◌+◌, ◌-◌, ◌*◌, ◌/◌, ◌%◌, ◌^◌, ◌<◌, ◌≤◌, cond, ℤ, pos, ◌+ℤ◌, ◌-ℤ◌, ◌*ℤ◌, ◌==◌, nat_le}
use Rattle.std.specs.Int.Signed.{shr_z}
use Rattle.unit.specs.declared.Pair.{Pair}
use Rattle.unit.specs.declared.Words.{Words}
use Rattle.unit.specs.declared.Factors.{Factors}
use Rattle.unit.specs.declared.Division.{Division}
use Rattle.unit.specs.After.{after}
use Rattle.unit.specs.Steps.{word, read, add_shift, mul_start, mul_step, mul_answer, div_start, div_step, div_answer}

-- h × 2^w + l
abbrev pub value : ℕ → Pair → ℤ
value w p = p.high *ℤ pos (2 ^ w) +ℤ pos p.low

-- ---- add and shift, at every width

-- With V = h × 2^w + l and b = l mod 2, one step gives 2 V' = V + b (n × 2^w - 1).
abbrev pub OneStep : Type 0
OneStep =
    (w : ℕ) (n : ℤ) (p : Pair)
    → 0 < w
    → pos 2 *ℤ value w (add_shift w n p) ≡ value w p +ℤ pos (p.low % 2) *ℤ (n *ℤ pos (2 ^ w) -ℤ pos 1)

-- At width v + 1, v steps that add n and a last one that adds m = a v: the low v bits of l count by n, and its top bit by m.
abbrev pub AddAndShift : Type 0
AddAndShift =
    (v : ℕ) (n : ℤ) (a : ℕ → ℤ) (l : ℕ)
    → ((s : ℕ) → s < v → a s ≡ n)
    → l < 2 ^ suc v
    → value (suc v) (after (λ s. add_shift (suc v) (a s)) (record { high = pos 0; low = l }) (suc v)) ≡ n *ℤ pos (l % 2 ^ v) +ℤ a v *ℤ pos (l - l % 2 ^ v)

-- ---- the multiplier

-- the two words of a number, each modulo 2^32
abbrev pub words_of : ℤ → Words
words_of z = record { low = word z; high = word (shr_z z (2 ^ 32)) }

abbrev pub product : Factors → ℤ
product f = read f.signed f.first *ℤ read f.signed f.second

abbrev pub ProductIsExact : Type 0
ProductIsExact = (f : Factors) → f.first < 2 ^ 32 → value 32 (after (mul_step f) (mul_start f) 32) ≡ product f

abbrev pub ProductWords : Type 0
ProductWords = (f : Factors) → f.first < 2 ^ 32 → mul_answer f (after (mul_step f) (mul_start f) 32) ≡ words_of (product f)

-- ---- the divider

-- The divider's rule on a rest and d in whole numbers, with nothing taken modulo but d.
abbrev pub plain_step : ℕ → ℕ × ℕ → ℕ × ℕ
plain_step n p =
    let t = 2 * p.0 + p.1 / 2 ^ 31 in
    let d = 2 * p.1 % 2 ^ 32 in
    cond (nat_le n t) (t - n, d + 1) (t, d)

abbrev pub as_pair : ℕ × ℕ → Pair
as_pair p = record { high = pos p.0; low = p.1 }

-- Every pair of a division is the one of that rule, and its rest after s steps is below 2^s.
abbrev pub DivisionIsPlain : Type 0
DivisionIsPlain =
    (f : Division) (s : ℕ)
    → f.dividend < 2 ^ 32
    → s ≤ 32
    → (after (div_step f) (div_start f) s ≡ as_pair (after (λ _. plain_step f.divisor) (0, f.dividend) s)) × ((after (λ _. plain_step f.divisor) (0, f.dividend) s).0 < 2 ^ s)

abbrev pub quotient : Division → ℕ
quotient f = cond (f.divisor == 0) (2 ^ 32 - 1) (f.dividend / f.divisor)

abbrev pub remainder : Division → ℕ
remainder f = cond (f.divisor == 0) f.dividend (f.dividend % f.divisor)

-- q × n + r is the dividend, with r below n; by 0, q is FFFFFFFFH and r the dividend
abbrev pub Divided : Division → ℕ → ℕ → Type 0
Divided f q r = (0 < f.divisor → (q * f.divisor + r ≡ f.dividend) × (r < f.divisor)) × (f.divisor ≡ 0 → (q ≡ 2 ^ 32 - 1) × (r ≡ f.dividend))

abbrev pub DivisionIsExact : Type 0
DivisionIsExact = (f : Division) → f.dividend < 2 ^ 32 → let w = div_answer f (after (div_step f) (div_start f) 32) in Divided f w.low w.high

abbrev pub DivisionWords : Type 0
DivisionWords = (f : Division) → f.dividend < 2 ^ 32 → div_answer f (after (div_step f) (div_start f) 32) ≡ record { low = quotient f; high = remainder f }
