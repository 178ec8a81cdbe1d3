use Rattle.std.proofs.Common.{◌≡◌, length, Ok}
use Rattle.deck.specs.Decks.{first_deeds, counted}
use Rattle.deck.specs.Loaded.{words_after, registers_after, lines_after}
use Rattle.deck.proofs.rows.Deck.write.Given as goal

abbrev pub invariant-loop-row : goal.invariant-loop-row
invariant-loop-row l =
    let deeds = first_deeds l.self.bytes.now (length l.initial.words) (length l.initial.lines) l.row in
    record {
      used : counted deeds ≡ Ok l.used;
      words : l.words ≡ words_after deeds l.initial.words;
      registers : l.registers ≡ registers_after deeds l.initial.registers;
      lines : l.lines ≡ lines_after deeds l.initial.lines;
    }
