use Rattle.machine.proofs.Finishing.{rise_lost, no_step, store_first}
use Rattle.machine.proofs.laws.finishing.Goals as goal

pub returns : goal.returns
returns c = record { rise = rise_lost; stall = no_step; store = store_first }
