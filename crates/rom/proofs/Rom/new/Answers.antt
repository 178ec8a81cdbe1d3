use Rattle.bus.specs.Over.{over_none}
use Rattle.rom.proofs.Rom.new.Goals as goal

pub returns-clause-still : goal.returns-clause-still
returns-clause-still g c = λ still h n. over_none 512 (λ below. g.B.Bus.meaning.passed below n) (λ below. still below n) h
