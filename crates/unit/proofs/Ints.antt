-- Halves of integers, for `omega`.
use Rattle.std.proofs.Common.{◌≡◌, ◌+◌, ◌-◌, ◌*◌, ◌^◌, ◌<◌, ◌≤◌, ℤ, pos, negsuc, ◌*ℤ◌, arith, w32, w64, SFits}
use Rattle.std.proofs.lemmas.Nat.{mul-le}
use Rattle.std.proofs.lemmas.Int.{ints}
use borrow.Author.Differences.{up, down, product_is, fits_in}
use Rattle.unit.specs.Steps.{half, odd}

pub half_is : (z : ℤ) → (up z + 2 * down (half z) ≡ down z + 2 * up (half z) + odd z) × (odd z < 2)
half_is (pos a) = omega arith
half_is (negsuc a) = omega arith

sides : (z : ℤ) → up z < down z + 2 ^ 31 → down z ≤ up z + 2 ^ 31 → (up z ≤ 2 ^ 31 - 1) × (down z ≤ 2 ^ 31)
sides (pos n) h k = omega arith
sides (negsuc n) h k = omega arith

-- a product of two words that are read as signed
pub product_fits : (a b : ℤ) → SFits w32 a → SFits w32 b → SFits w64 (a *ℤ b)
product_fits a b f g =
    let s = sides a (omega (arith, ints)) (omega (arith, ints)) in
    let t = sides b (omega (arith, ints)) (omega (arith, ints)) in
    fits_in w64 (a *ℤ b) (omega (arith, product_is a b, mul-le (up a) (up b) (2 ^ 31 - 1) (2 ^ 31 - 1) s.0 t.0, mul-le (down a) (down b) (2 ^ 31) (2 ^ 31) s.1 t.1, mul-le (up a) (down b) (2 ^ 31 - 1) (2 ^ 31) s.0 t.1, mul-le (down a) (up b) (2 ^ 31) (2 ^ 31 - 1) s.1 t.0))
