-- The two words of a number, from its rest modulo 2^64.
use Rattle.std.proofs.Common.{◌≡◌, ℕ, ◌/◌, ◌%◌, ◌^◌, ◌<◌, ℤ, pos, negsuc, ◌*ℤ◌, ap, ap₂, ◌∙◌, arith, w64, of_z, unsigned_abs, SFits}
use Rattle.std.proofs.lemmas.Int.{of_z-to_z, wrapping_mul_is}
use Rattle.std.specs.Int.{int_rem_euclid, int_wrap, int_wrapping_mul}
use Rattle.std.specs.Int.Signed.{shr_z}
use Rattle.unit.specs.Steps.{word}
use Rattle.unit.specs.declared.Words.{Words}
use Rattle.unit.specs.Exact.{words_of}

abbrev rest : ℤ → ℕ
rest z = unsigned_abs (int_rem_euclid z (pos (2 ^ 64)))

rest_fits : (z : ℤ) → rest z < 2 ^ 64
rest_fits (pos a) = omega arith
rest_fits (negsuc a) = omega arith

low : (z : ℤ) → rest z % 2 ^ 32 ≡ word z
low (pos a) = omega arith
low (negsuc a) = omega arith

high : (z : ℤ) → rest z / 2 ^ 32 ≡ word (shr_z z (2 ^ 32))
high (pos a) = omega arith
high (negsuc a) = omega arith

pub wrapped_words : (x y : ℤ) → SFits w64 x → SFits w64 y → ◌≡◌ {A = Words} (record { low = of_z w64 (int_wrapping_mul w64 x y) % 2 ^ 32; high = of_z w64 (int_wrapping_mul w64 x y) / 2 ^ 32 }) (words_of (x *ℤ y))
unfolding int_wrap
wrapped_words x y f g =
    let z = x *ℤ y in
    let u : of_z w64 (int_wrapping_mul w64 x y) ≡ rest z = ap (of_z w64) (wrapping_mul_is w64 x y f g) ∙ of_z-to_z w64 (rest z) (rest_fits z) in
    ap (λ (n : ℕ). record { low = n % 2 ^ 32; high = n / 2 ^ 32 }) u ∙ ap₂ (λ (l h : ℕ). record { low = l; high = h }) (low z) (high z)
