use Rattle.unit.proofs.Waitings.{waits}
use Rattle.unit.proofs.waiting.waiting_serves.Goals as goal

pub returns : goal.returns
returns g c =
    let m = g.U.StepUnit in
    waits (m.started c.args.operands) (m.stepped c.args.operands) m.STEPS
