use Rattle.std.proofs.Common.{◌≡◌, ◌^◌, take, fold}
use Rattle.deck.specs.declared.field.Seen.TheVariants.{Blanks}
use Rattle.deck.specs.Field.{after, Small}
use Rattle.deck.proofs.field.number.Given as goal

abbrev pub invariant-loop-byte : goal.invariant-loop-byte
invariant-loop-byte l = (l.seen ≡ fold after Blanks (take l.byte-index l.columns)) × Small l.seen (10 ^ l.byte-index)
