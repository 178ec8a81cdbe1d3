use Rattle.machine.proofs.Runs.{stops}
use Rattle.machine.proofs.laws.stops.Goals as goal

pub returns : goal.returns
returns c = stops
