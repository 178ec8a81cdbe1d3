use Rattle.machine.proofs.Stalls.{law}
use Rattle.risc5.specs.Set.{card, pace}
use Rattle.risc5.proofs.Fitting.{fits}
use Rattle.cpu.proofs.laws.Goals as goal

pub returns : goal.returns
returns c M b = law M card pace fits b
