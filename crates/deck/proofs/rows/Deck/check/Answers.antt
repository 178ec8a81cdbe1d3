use Rattle.std.proofs.Common.{rules}
use Rattle.std.proofs.lemmas.Result.{err_from_is_err_and}
use Rattle.refusal.specs.Heard.{told}
use Rattle.deck.specs.Rows.{row_count}
use Rattle.deck.proofs.Counting.{at_row, at_room, goes_on}
use Rattle.deck.proofs.rows.Deck.check.Goals as goal

pub returns-in_err-deed : goal.returns-in_err-deed
returns-in_err-deed c =
    let p = err_from_is_err_and c.from_residual.result c.from_residual.ensures.1 in
    let bs = c.args.self.now.bytes.now in
    rw (p.1, p.2)
    (at_row bs c.args.words c.args.room c.loop-row.row c.loop-row.used (row_count bs) (told c.in_err-deed.field-0.0) c.loop-row.invariant.0
    c.in_err-deed.ensures.answer (search rules))

pub returns-in_err-used : goal.returns-in_err-used
returns-in_err-used c =
    let p = err_from_is_err_and c.from_residual-in_err-used.result c.from_residual-in_err-used.ensures.1 in
    let bs = c.args.self.now.bytes.now in
    rw (p.1, p.2)
    (at_room bs c.args.words c.args.room c.loop-row.row c.loop-row.used (row_count bs) c.in_ok-deed.deed (told c.in_err-used.field-0.0)
    c.loop-row.invariant.0 c.in_ok-deed.ensures.answer c.in_err-used.ensures (search rules))

pub loop-row-preserved : goal.loop-row-preserved
loop-row-preserved c =
    goes_on c.args.self.now.bytes.now c.args.words c.args.room c.loop-row.row c.loop-row.used c.in_ok-used.used c.in_ok-deed.deed
    c.loop-row.invariant.0 c.in_ok-deed.ensures.answer c.in_ok-used.ensures
