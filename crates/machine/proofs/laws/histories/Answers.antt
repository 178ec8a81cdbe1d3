use Rattle.machine.proofs.Stalls.{law}
use Rattle.machine.proofs.laws.histories.Goals as goal

pub returns : goal.returns
returns c = law
