use Rattle.unit.proofs.AddShift.{one_step}
use Rattle.unit.proofs.laws.one_step.Goals as goal

pub returns : goal.returns
returns c = one_step
