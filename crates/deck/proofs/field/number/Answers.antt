use Rattle.std.proofs.Common.{get_or}
use Rattle.std.proofs.lemmas.List.Sums.{fold_more}
use Rattle.deck.specs.Field.{after}
use Rattle.deck.specs.declared.field.Seen.TheVariants.{Blanks}
use Rattle.deck.proofs.Scans.{small_more}
use Rattle.deck.proofs.field.number.Goals as goal

pub loop-byte-preserved : goal.loop-byte-preserved
loop-byte-preserved c =
    let i = c.loop-byte.byte-index in
    let xs = c.args.columns.now in
    let more = fold_more after Blanks xs i 0 c.loop-byte-test.true in
    let small = small_more c.loop-byte.seen (get_or xs i 0) i c.loop-byte.invariant.1 in
    (cc, rw c.next-seen.ensures small)
