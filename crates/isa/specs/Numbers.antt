-- Whole numbers, fields of bits, and tests.
use Rattle.std.specs.Prelude.{ℕ, ◌-◌, ◌/◌, ◌%◌, ◌^◌, Bool, true, false, cond, not, ℤ, pos, ◌-ℤ◌, ◌==◌, nat_lt, unsigned_abs}
use Rattle.std.specs.Int.{int_rem_euclid}

-- the k bits of x from bit i on, as a number
abbrev pub field : ℕ → ℕ → ℕ → ℕ
field i k x = x / 2 ^ i % 2 ^ k

-- whether bit i of x is 1
abbrev pub bit : ℕ → ℕ → Bool
bit i x = x / 2 ^ i % 2 == 1

-- a field of k bits, read as a signed number
abbrev pub signed_field : ℕ → ℕ → ℤ
signed_field k x = cond (nat_lt x (2 ^ (k - 1))) (pos x) (pos x -ℤ pos (2 ^ k))

-- a whole number modulo k, from 0 to k - 1
abbrev pub modulo : ℤ → ℕ → ℕ
modulo z k = unsigned_abs (int_rem_euclid z (pos k))

-- one of two is so, and not both
abbrev pub differ : Bool → Bool → Bool
differ true b = not b
differ false b = b
