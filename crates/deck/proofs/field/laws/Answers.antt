use Rattle.deck.proofs.Writing.{reads_as_written}
use Rattle.deck.proofs.field.laws.Goals as goal

pub returns : goal.returns
returns c = reads_as_written
