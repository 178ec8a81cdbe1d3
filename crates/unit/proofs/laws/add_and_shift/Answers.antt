use Rattle.unit.proofs.AddShift.{add_and_shift}
use Rattle.unit.proofs.laws.add_and_shift.Goals as goal

pub returns : goal.returns
returns c = add_and_shift
