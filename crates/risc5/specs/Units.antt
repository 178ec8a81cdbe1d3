-- The step units at work on the registers: what they take, what one clock makes of their pair, and what they give.
use Rattle.std.specs.Prelude.{not, ℕ}
use Rattle.isa.specs.Word.{u, b}
use Rattle.unit.specs.declared.Pair.{Pair}
use Rattle.unit.specs.declared.Factors.{Factors}
use Rattle.unit.specs.declared.Division.{Division}
use Rattle.unit.specs.Waiting.{carried}
use Rattle.unit.specs.Steps.{mul_start, mul_step, mul_answer, div_start, div_step, div_answer}
use Rattle.unit.specs.Exact.{product, words_of, quotient, remainder}
use Rattle.machine.specs.declared.Registers.{Registers}
use Rattle.risc5.specs.Registers.{at, operand, given}

-- the multiplier multiplies R.b by n, both signed if u is 0; the divider divides R.b by n
unfoldable pub factors : ℕ → Registers → Factors
factors w g = record { first = at g (b w); second = operand w g; signed = not (u w) }

unfoldable pub division : ℕ → Registers → Division
division w g = record { dividend = at g (b w); divisor = operand w g }

-- one clock at step number s: no lead-in clocks
unfoldable pub multiplying : ℕ → Registers → ℕ → Pair → Pair
multiplying w g s p = let f : Factors = factors w g in carried (mul_start f) (mul_step f) 32 0 s p

unfoldable pub dividing : ℕ → Registers → ℕ → Pair → Pair
dividing w g s p = let f : Division = division w g in carried (div_start f) (div_step f) 32 0 s p

-- the registers after the last clock, from its pair
unfoldable pub multiplied_by : ℕ → Registers → Pair → Registers
multiplied_by w g p = given w g (mul_answer (factors w g) p)

unfoldable pub divided_by : ℕ → Registers → Pair → Registers
divided_by w g p = given w g (div_answer (division w g) p)

-- the exact effect
unfoldable pub multiplied : ℕ → Registers → Registers
multiplied w g = given w g (words_of (product (factors w g)))

unfoldable pub divided : ℕ → Registers → Registers
divided w g = given w g (record { low = quotient (division w g); high = remainder (division w g) })
