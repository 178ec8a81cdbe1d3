-- What the register operations give, but for multiplying and dividing, and how they leave the flags.
use Rattle.std.specs.Prelude.{ℕ, ◌+◌, ◌*◌, ◌^◌, Bool, cond, ◌&&◌, ◌==◌, bit_and, bit_or, bit_xor, nat_le}
use Rattle.isa.specs.declared.Flags.{Flags}
use Rattle.isa.specs.declared.Operation.{Operation}
use Rattle.isa.specs.declared.Operation.TheVariants.{Mov, Lsl, Asr, Ror, And, Ann, Ior, Xor, Add, Sub, Zero}
use Rattle.isa.specs.Word.{q, u, v, imm}
use Rattle.alu.specs.declared.Inputs.{Inputs}
use Rattle.alu.specs.declared.Outcome.{Outcome}
use Rattle.alu.specs.Arithmetic.{one, sum, sum_carries, sum_overflows, difference, difference_borrows, difference_overflows, lsl, asr, ror, ann}

-- the flags after a register write: N is bit 31 of the value, Z says that it is 0; C and V stay
abbrev pub written : ℕ → Flags → Flags
written value f = record { n = nat_le (2 ^ 31) value; z = (value == 0); c = f.c; v = f.v }

-- a value that is written with C and V as they were, or with others
abbrev pub plain : ℕ → Flags → Outcome
plain value f = record { value = value; flags = written value f }

abbrev pub arithmetic : ℕ → Bool → Bool → Flags → Outcome
arithmetic value carry overflow f = plain value (record { n = f.n; z = f.z; c = carry; v = overflow })

-- N, Z, C and V in bits 31 to 28, 53H in the low byte, 0 between them
abbrev pub flag_word : Flags → ℕ
flag_word f = one f.n * 2 ^ 31 + one f.z * 2 ^ 30 + one f.c * 2 ^ 29 + one f.v * 2 ^ 28 + 0x53

-- MOV: n; but with u, imm times 65,536 if q, else the flag word if v, else H
abbrev pub moved : ℕ → Inputs → ℕ
moved w i = cond (u w) (cond (q w) (imm w * 65536) (cond (v w) (flag_word i.flags) i.h)) i.n

-- the carry in of ADD and SUB: C with u, else none
abbrev pub carry_in : ℕ → Flags → Bool
carry_in w f = u w && f.c

abbrev pub added : ℕ → ℕ → Bool → Flags → Outcome
added b n carry f = arithmetic (sum b n carry) (sum_carries b n carry) (sum_overflows b n carry) f

abbrev pub subtracted : ℕ → ℕ → Bool → Flags → Outcome
subtracted b n carry f = arithmetic (difference b n carry) (difference_borrows b n carry) (difference_overflows b n carry) f

-- the value that an operation writes, and the flags after it
abbrev pub outcome : Operation → ℕ → Inputs → Outcome
outcome Mov w i = plain (moved w i) i.flags
outcome Lsl w i = plain (lsl i.b i.n) i.flags
outcome Asr w i = plain (asr i.b i.n) i.flags
outcome Ror w i = plain (ror i.b i.n) i.flags
outcome And w i = plain (bit_and i.b i.n) i.flags
outcome Ann w i = plain (ann i.b i.n) i.flags
outcome Ior w i = plain (bit_or i.b i.n) i.flags
outcome Xor w i = plain (bit_xor i.b i.n) i.flags
outcome Add w i = added i.b i.n (carry_in w i.flags) i.flags
outcome Sub w i = subtracted i.b i.n (carry_in w i.flags) i.flags
outcome Zero w i = plain 0 i.flags
