-- What the step units do, step by step, and what they give. Numbers are whole, and nothing wraps but where a line says so.
use Rattle.std.specs.Prelude.{ℕ, ◌+◌, ◌-◌, ◌*◌, ◌/◌, ◌%◌, ◌^◌, Bool, cond, ◌&&◌, ℤ, pos, ◌+ℤ◌, neg_ℤ, ◌==◌, nat_le, unsigned_abs}
use Rattle.std.specs.Int.Signed.{shr_z}
use Rattle.std.proofs.Common.{to_z}
use Rattle.std.specs.Int.{int_rem_euclid, w32}
use Rattle.unit.specs.declared.Pair.{Pair}
use Rattle.unit.specs.declared.Words.{Words}
use Rattle.unit.specs.declared.Factors.{Factors}
use Rattle.unit.specs.declared.Division.{Division}

-- a half, rounded down
abbrev pub half : ℤ → ℤ
half z = shr_z z 2

-- 1 if z is odd, else 0
abbrev pub odd : ℤ → ℕ
odd z = unsigned_abs (int_rem_euclid z (pos 2))

-- z modulo 2^32
abbrev pub word : ℤ → ℕ
word z = unsigned_abs (int_rem_euclid z (pos (2 ^ 32)))

-- ---- add and shift, at width w

-- t is h if l is even, and h + n if it is odd
abbrev pub total : ℤ → Pair → ℤ
total n p = cond (p.low % 2 == 0) p.high (p.high +ℤ n)

-- h becomes t / 2 and l becomes l / 2, both rounded down, with 2^(w-1) added to l if t is odd
abbrev pub add_shift : ℕ → ℤ → Pair → Pair
add_shift w n p = let t = total n p in record { high = half t; low = p.low / 2 + odd t * 2 ^ (w - 1) }

-- ---- the multiplier

-- a word, read as signed or not
abbrev pub read : Bool → ℕ → ℤ
read signed x = cond signed (to_z w32 x) (pos x)

-- what an odd low part adds at step s: the second factor n, but -n at the last step of a signed multiply
abbrev pub addend : Factors → ℕ → ℤ
addend f s = cond (f.signed && s == 31) (neg_ℤ (read f.signed f.second)) (read f.signed f.second)

abbrev pub mul_start : Factors → Pair
mul_start f = record { high = pos 0; low = f.first }

abbrev pub mul_step : Factors → ℕ → Pair → Pair
mul_step f s p = add_shift 32 (addend f s) p

abbrev pub mul_answer : Factors → Pair → Words
mul_answer f p = record { low = p.low; high = word p.high }

-- ---- the divider

-- The rest so far. It is below 2^32 in every pair that a division reaches (`DivisionIsPlain`), so that the modulo leaves it as it is.
abbrev pub rest : Pair → ℕ
rest p = word p.high

abbrev pub div_start : Division → Pair
div_start f = record { high = pos 0; low = f.dividend }

-- t is twice the rest, and bit 31 of d; d doubles modulo 2^32; if t reaches the divisor, that is taken from it and d rises by 1
abbrev pub div_step : Division → ℕ → Pair → Pair
div_step f s p =
    let t = 2 * rest p + p.low / 2 ^ 31 in
    let d = 2 * p.low % 2 ^ 32 in
    cond (nat_le f.divisor t) (record { high = pos (t - f.divisor); low = d + 1 }) (record { high = pos t; low = d })

abbrev pub div_answer : Division → Pair → Words
div_answer f p = record { low = p.low; high = rest p }
