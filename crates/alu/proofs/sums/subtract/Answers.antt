use Rattle.std.proofs.Common.{arith}
use Rattle.std.proofs.lemmas.Int.{to_z-of_z}
use Rattle.alu.proofs.Carries.{differences}
use Rattle.alu.proofs.sums.subtract.Goals as goal

pub returns-clause-value : goal.returns-clause-value
returns-clause-value c = let both = differences c.args.a c.args.n c.borrowing_sub-value.result.0 c.args.carry c.borrowing_sub-value.result.1 (omega arith) (omega arith) c.borrowing_sub-value.ensures in grind (arith, both.0)

pub returns-clause-carry : goal.returns-clause-carry
returns-clause-carry c = let both = differences c.args.a c.args.n c.borrowing_sub-value.result.0 c.args.carry c.borrowing_sub-value.result.1 (omega arith) (omega arith) c.borrowing_sub-value.ensures in grind (arith, both.1)

pub returns-clause-overflow : goal.returns-clause-overflow
returns-clause-overflow c = grind (arith, to_z-of_z)
