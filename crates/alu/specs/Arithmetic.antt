-- Arithmetic on words, in exact numbers. A word is a number below 2^32.
use Rattle.std.specs.Prelude.{ℕ, ◌+◌, ◌-◌, ◌*◌, ◌/◌, ◌%◌, ◌^◌, Bool, cond, not, ◌&&◌, ℤ, pos, negsuc, ◌+ℤ◌, ◌-ℤ◌, bit_and, int_le, nat_le, nat_lt}
use Rattle.std.specs.Int.Signed.{shr_z}
use Rattle.std.specs.Int.{w32}
use Rattle.std.proofs.Common.{to_z}
use Rattle.isa.specs.Numbers.{modulo}

-- 1 for a flag that is up, else 0
abbrev pub one : Bool → ℕ
one flag = cond flag 1 0

-- a word read as a signed number: from 2^31 on, less 2^32
abbrev pub signed : ℕ → ℤ
signed x = to_z w32 x

-- a whole number fits 32 bits as a signed number, from -2^31 to 2^31 - 1
abbrev pub fits : ℤ → Bool
fits z = int_le (negsuc 0x7FFF_FFFF) z && int_le z (pos 0x7FFF_FFFF)

-- ---- sums: a + n, and 1 more with a carry in

abbrev pub sum : ℕ → ℕ → Bool → ℕ
sum a n carry = (a + n + one carry) % 2 ^ 32

-- the exact unsigned sum reaches 2^32
abbrev pub sum_carries : ℕ → ℕ → Bool → Bool
sum_carries a n carry = nat_le (2 ^ 32) (a + n + one carry)

-- the exact signed sum does not fit
abbrev pub sum_overflows : ℕ → ℕ → Bool → Bool
sum_overflows a n carry = not (fits (signed a +ℤ signed n +ℤ pos (one carry)))

-- ---- differences: a - n, and 1 less with a carry in

abbrev pub difference : ℕ → ℕ → Bool → ℕ
difference a n carry = modulo (pos a -ℤ pos n -ℤ pos (one carry)) (2 ^ 32)

-- the exact unsigned difference is negative
abbrev pub difference_borrows : ℕ → ℕ → Bool → Bool
difference_borrows a n carry = nat_lt a (n + one carry)

-- the exact signed difference does not fit
abbrev pub difference_overflows : ℕ → ℕ → Bool → Bool
difference_overflows a n carry = not (fits (signed a -ℤ signed n -ℤ pos (one carry)))

-- ---- shifts, by the low five bits of n

abbrev pub lsl : ℕ → ℕ → ℕ
lsl a n = (a * 2 ^ (n % 32)) % 2 ^ 32

-- divided by the power of 2 as a signed number, rounded down
abbrev pub asr : ℕ → ℕ → ℕ
asr a n = modulo (shr_z (signed a) (2 ^ (n % 32))) (2 ^ 32)

-- the bits that go out on the right come in on the left: the word twice, side by side, and shifted
abbrev pub ror : ℕ → ℕ → ℕ
ror a n = (a * 2 ^ 32 + a) / 2 ^ (n % 32) % 2 ^ 32

-- a and the inverse of n
abbrev pub ann : ℕ → ℕ → ℕ
ann a n = bit_and a (2 ^ 32 - 1 - n)
