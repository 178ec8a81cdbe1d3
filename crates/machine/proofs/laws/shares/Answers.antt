use Rattle.machine.proofs.Cuts.{shortest, no_share}
use Rattle.machine.proofs.laws.shares.Goals as goal

pub returns : goal.returns
returns c = record { shortest = shortest; none = no_share }
