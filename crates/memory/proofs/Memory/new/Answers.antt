use Rattle.memory.proofs.Keeping.{memory_keeps}
use Rattle.memory.proofs.Memory.new.Goals as goal

pub returns-clause-keeps : goal.returns-clause-keeps
returns-clause-keeps c = memory_keeps
