use Rattle.unit.proofs.Divisions.{division_is_plain, division_is_exact, division_words}
use Rattle.unit.proofs.laws.division_exact.Goals as goal

pub returns : goal.returns
returns c = record { plain = division_is_plain; exact = division_is_exact; words = division_words }
