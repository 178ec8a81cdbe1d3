use Rattle.std.proofs.Common.{◌≡◌, ◌≤◌, Ok}
use Rattle.deck.specs.Decks.{first_deeds, counted}
use Rattle.deck.proofs.rows.Deck.check.Given as goal

abbrev pub invariant-loop-row : goal.invariant-loop-row
invariant-loop-row l = (counted (first_deeds l.self.bytes.now l.words l.room l.row) ≡ Ok l.used) × (l.used ≤ 65535)
