-- Sums and differences with a carry, as their word and the carry out.
use Rattle.std.proofs.Common.{◌≡◌, ℕ, ◌+◌, ◌-◌, ◌*◌, ◌^◌, ◌<◌, Bool, true, false, pos, negsuc, ◌-ℤ◌, sym, arith}
use Rattle.std.proofs.lemmas.Bool.Decides.{nat_tests}
use Rattle.std.proofs.lemmas.Int.{ints}
use Rattle.std.specs.Int.{from_bool}
use Rattle.isa.specs.Numbers.{modulo}
use Rattle.alu.specs.Arithmetic.{sum, sum_carries, difference, difference_borrows}

pub sums : (a n v : ℕ) (k c : Bool) → v < 2 ^ 32 → v + from_bool c * 2 ^ 32 ≡ a + n + from_bool k → (v ≡ sum a n k) × (c ≡ sum_carries a n k)
sums a n v true true h e = (omega arith, grind (arith, nat_tests))
sums a n v true false h e = (omega arith, grind (arith, nat_tests))
sums a n v false true h e = (omega arith, grind (arith, nat_tests))
sums a n v false false h e = (omega arith, grind (arith, nat_tests))

-- a word less 2^32 or not, modulo 2^32
back : (v : ℕ) (c : Bool) → v < 2 ^ 32 → modulo (pos v -ℤ pos (from_bool c * 2 ^ 32)) (2 ^ 32) ≡ v
back v true h = let e : pos v -ℤ pos (from_bool true * 2 ^ 32) ≡ negsuc (2 ^ 32 - 1 - v) = omega (arith, ints) in rw e (omega arith)
back v false h = omega arith

word_of : (a n v o : ℕ) (c : Bool) → v < 2 ^ 32 → v + n + o ≡ a + from_bool c * 2 ^ 32 → modulo (pos a -ℤ pos n -ℤ pos o) (2 ^ 32) ≡ v
word_of a n v o c h e = let d : pos a -ℤ pos n -ℤ pos o ≡ pos v -ℤ pos (from_bool c * 2 ^ 32) = omega (arith, ints) in rw d (back v c h)

pub differences : (a n v : ℕ) (k c : Bool) → a < 2 ^ 32 → v < 2 ^ 32 → v + n + from_bool k ≡ a + from_bool c * 2 ^ 32 → (v ≡ difference a n k) × (c ≡ difference_borrows a n k)
differences a n v true true g h e = (sym (word_of a n v 1 true h e), grind (arith, nat_tests))
differences a n v true false g h e = (sym (word_of a n v 1 false h e), grind (arith, nat_tests))
differences a n v false true g h e = (sym (word_of a n v 0 true h e), grind (arith, nat_tests))
differences a n v false false g h e = (sym (word_of a n v 0 false h e), grind (arith, nat_tests))
