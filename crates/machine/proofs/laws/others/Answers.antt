use Rattle.machine.proofs.Waits.{others_pass}
use Rattle.machine.proofs.laws.others.Goals as goal

pub returns : goal.returns
returns c = others_pass
