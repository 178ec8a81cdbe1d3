use Rattle.deck.specs.Loaded.{word_of, register_of}
use Rattle.deck.proofs.Lasting.{last_wins, lines_follow}
use Rattle.deck.proofs.Lowest.{lowest_told}
use Rattle.deck.proofs.Sequence.{in_order, first_fault}
use Rattle.deck.proofs.loading.laws.Goals as goal

pub returns : goal.returns
returns c = record { in_order = in_order; first_fault = first_fault; lowest_told = lowest_told; last_word = last_wins word_of; last_register = last_wins register_of; lines_follow = lines_follow }
