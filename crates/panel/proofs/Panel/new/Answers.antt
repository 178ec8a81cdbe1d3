use Rattle.std.proofs.Common.{arith}
use Rattle.panel.specs.Numbers.{numbers}
use Rattle.panel.proofs.Handing.{new_hands_out}
use Rattle.panel.proofs.Panel.new.Goals as goal

pub returns-clause-hands_out : goal.returns-clause-hands_out
returns-clause-hands_out g c =
    new_hands_out g.B.Bus.meaning c.args.feed.now (g.B.Bus.contents c.args.below) (numbers c.new.result) c.new.ensures (λ i. omega (arith, c.type_inv.feed i))
