use Rattle.history.specs.Asked.{wrote}
use Rattle.history.proofs.Parts.{replaced_behind}
use Rattle.history.proofs.ask_behind.Goals as goal

pub returns-clause-behind : goal.returns-clause-behind
returns-clause-behind g c = replaced_behind c.args.records c.args.trace.now c.ask.new.trace c.requires (wrote c.ask.result) c.ask.ensures.trace
