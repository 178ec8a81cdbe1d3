use Rattle.std.proofs.Common.{arith}
use Rattle.std.proofs.lemmas.Int.{to_z-of_z}
use Rattle.alu.proofs.Carries.{sums}
use Rattle.alu.proofs.sums.add.Goals as goal

pub returns-clause-value : goal.returns-clause-value
returns-clause-value c = let both = sums c.args.a c.args.n c.carrying_add-value.result.0 c.args.carry c.carrying_add-value.result.1 (omega arith) c.carrying_add-value.ensures in grind (arith, both.0)

pub returns-clause-carry : goal.returns-clause-carry
returns-clause-carry c = let both = sums c.args.a c.args.n c.carrying_add-value.result.0 c.args.carry c.carrying_add-value.result.1 (omega arith) c.carrying_add-value.ensures in grind (arith, both.1)

pub returns-clause-overflow : goal.returns-clause-overflow
returns-clause-overflow c = grind (arith, to_z-of_z)
