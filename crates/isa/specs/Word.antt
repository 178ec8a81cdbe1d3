-- The fields of an instruction word.
use Rattle.std.specs.Prelude.{ℕ, ◌+◌, Bool, cond}
use Rattle.isa.specs.Numbers.{field, bit}

-- bits 31 to 28 are p, q, u, v
abbrev pub q : ℕ → Bool
q w = bit 30 w

abbrev pub u : ℕ → Bool
u w = bit 29 w

abbrev pub v : ℕ → Bool
v w = bit 28 w

-- the numbers of the registers R.a, R.b and R.c
abbrev pub a : ℕ → ℕ
a w = field 24 4 w

abbrev pub b : ℕ → ℕ
b w = field 20 4 w

abbrev pub c : ℕ → ℕ
c w = field 0 4 w

-- the immediate operand
abbrev pub imm : ℕ → ℕ
imm w = field 0 16 w

-- the operand n of a word whose q is 1: imm below sixteen copies of v
abbrev pub constant : ℕ → ℕ
constant w = cond (v w) (0xFFFF_0000 + imm w) (imm w)
