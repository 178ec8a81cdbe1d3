-- What instruction words do to the registers.
use Rattle.std.specs.Prelude.{cond, ◌&&◌, ℕ, ◌%◌, ◌^◌, slice_index, slice_set}
use Rattle.isa.specs.declared.Sent.{Sent}
use Rattle.isa.specs.declared.Operation.{Operation}
use Rattle.isa.specs.Word.{q, v, a, b, c, constant}
use Rattle.isa.specs.Access.{address_of, word_of}
use Rattle.isa.specs.Access as word
use Rattle.isa.specs.Branch.{taken_by, following, target_of, link_of}
use Rattle.alu.specs.declared.Inputs.{Inputs}
use Rattle.alu.specs.declared.Outcome.{Outcome}
use Rattle.alu.specs.Operations.{written, outcome}
use Rattle.unit.specs.declared.Words.{Words}
use Rattle.machine.specs.declared.Registers.{Registers}

-- Register i. It is read modulo 2^32, which changes no word.
abbrev pub at : Registers → ℕ → ℕ
at g i = slice_index g.r (i % 16) % 2 ^ 32

-- A register write sets N and Z.
abbrev pub put : Registers → ℕ → ℕ → Registers
put g i x = record { r = slice_set g.r (i % 16) x; h = g.h; flags = written x g.flags }

-- the operand n: a constant if q is 1, else R.c
unfoldable pub operand : ℕ → Registers → ℕ
operand w g = cond (q w) (constant w) (at g (c w))

-- ---- register operations

abbrev pub inputs : ℕ → Registers → Inputs
inputs w g = record { b = at g (b w); n = operand w g; h = g.h; flags = g.flags }

unfoldable pub operated : Operation → ℕ → Registers → Registers
operated op w g =
    let o : Outcome = outcome op w (inputs w g) in record { r = slice_set g.r (a w % 16) o.value; h = g.h; flags = o.flags }

-- a step unit's low word goes to R.a, its high word to H
unfoldable pub given : ℕ → Registers → Words → Registers
given w g words = put (record { r = g.r; h = words.high; flags = g.flags }) (a w) words.low

-- ---- loads and stores

abbrev pub byte_at : ℕ → Registers → ℕ
byte_at w g = address_of w (at g (b w))

unfoldable pub place : ℕ → Registers → ℕ
place w g = word_of (byte_at w g)

unfoldable pub loaded : ℕ → Registers → ℕ → Registers
loaded w g shown = put g (a w) (word.loaded w (byte_at w g) shown)

unfoldable pub sent : ℕ → Registers → Sent
sent w g = word.sent w (byte_at w g) (at g (a w))

-- ---- branches

-- a taken branch with v writes R15
unfoldable pub linked : ℕ → ℕ → Registers → Registers
linked w pc g = cond (taken_by w g.flags && v w) (put g 15 (link_of pc)) g

unfoldable pub branched : ℕ → ℕ → Registers → ℕ
branched w pc g = cond (taken_by w g.flags) (target_of w pc (at g (c w))) (following pc)
