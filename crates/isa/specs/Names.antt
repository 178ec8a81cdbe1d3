-- The names that operations and kinds are printed by.
use Rattle.std.specs.Prelude.{ℕ, List, codes}
use Rattle.isa.specs.declared.Kind.{Kind}
use Rattle.isa.specs.declared.Kind.TheVariants.{Register, Multiply, Divide, Load, Store, Branch}
use Rattle.isa.specs.declared.Operation.{Operation}
use Rattle.isa.specs.declared.Operation.TheVariants.{Mov, Lsl, Asr, Ror, And, Ann, Ior, Xor, Add, Sub, Zero}

abbrev pub operation_name : Operation → List ℕ
operation_name Mov = codes "MOV"
operation_name Lsl = codes "LSL"
operation_name Asr = codes "ASR"
operation_name Ror = codes "ROR"
operation_name And = codes "AND"
operation_name Ann = codes "ANN"
operation_name Ior = codes "IOR"
operation_name Xor = codes "XOR"
operation_name Add = codes "ADD"
operation_name Sub = codes "SUB"
operation_name Zero = codes "zero"

-- a register operation by its own name
abbrev pub kind_name : Kind → List ℕ
kind_name (Register operation) = operation_name operation
kind_name Multiply = codes "MUL"
kind_name Divide = codes "DIV"
kind_name Load = codes "load"
kind_name Store = codes "store"
kind_name Branch = codes "branch"
