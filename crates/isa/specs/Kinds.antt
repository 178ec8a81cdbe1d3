-- The 256 kinds of instruction words, what the core does with each, and how many clocks each takes.
use Rattle.std.specs.Prelude.{ℕ, ◌+◌, ◌*◌, ◌%◌, cond, ◌==◌}
use Rattle.isa.specs.declared.Kind.{Kind}
use Rattle.isa.specs.declared.Kind.TheVariants.{Register, Multiply, Divide, Load, Store, Branch}
use Rattle.isa.specs.declared.Operation.{Operation}
use Rattle.isa.specs.declared.Operation.TheVariants.{Mov, Lsl, Asr, Ror, And, Ann, Ior, Xor, Add, Sub, Zero}
use Rattle.isa.specs.Numbers.{field, bit}

-- the number of a word's kind: its bits 31 to 28, then its bits 19 to 16
abbrev pub code_of : ℕ → ℕ
code_of w = field 28 4 w * 16 + field 16 4 w

-- the operations 0 to 9; the others give 0
abbrev pub operation_at : ℕ → Operation
operation_at op =
    cond (op == 0) Mov
    (cond (op == 1) Lsl
    (cond (op == 2) Asr
    (cond (op == 3) Ror
    (cond (op == 4) And
    (cond (op == 5) Ann
    (cond (op == 6) Ior
    (cond (op == 7) Xor
    (cond (op == 8) Add
    (cond (op == 9) Sub Zero)))))))))

-- with p = 0: operation 10 multiplies, 11 divides
abbrev pub register_kind : ℕ → Kind
register_kind op = cond (op == 10) Multiply (cond (op == 11) Divide (Register (operation_at op)))

-- the kind with number k, whose bits are p, q, u, v and four of op
abbrev pub kind_at : ℕ → Kind
kind_at k = cond (bit 7 k) (cond (bit 6 k) Branch (cond (bit 5 k) Store Load)) (register_kind (k % 16))

unfoldable pub kind_of : ℕ → Kind
kind_of w = kind_at (code_of w)

-- the clocks of a kind
abbrev pub clocks_by : Kind → ℕ
clocks_by (Register operation) = 1
clocks_by Multiply = 32
clocks_by Divide = 32
clocks_by Load = 2
clocks_by Store = 2
clocks_by Branch = 1

abbrev pub clocks_of : ℕ → ℕ
clocks_of w = clocks_by (kind_of w)
