use Rattle.std.proofs.Common.{ℕ, ◌+◌, ◌<◌, List, ◌++◌, length, drop, Ok, sym, ap, ◌∙◌, arith, rules}
use Rattle.deck.specs.Rows.{row_count}
use Rattle.deck.specs.Decks.{lines_of}
use Rattle.deck.proofs.Storing.{has_deed, has_room, used_more, words_more, registers_more, lines_written}
use Rattle.deck.proofs.rows.Deck.write.Goals as goal

pub unwrap-deed-requires : goal.unwrap-deed-requires
unwrap-deed-requires c =
    let bs = c.args.self.now.bytes.now in
    has_deed bs (length c.args.words.now) (length c.args.lines.now) (row_count bs) c.loop-row.row c.loop-row.used c.deed.result (length c.loop-row.words) c.requires (search rules)
    c.loop-row.invariant.used c.deed.ensures.answer c.loop-row.auto.words

pub split_at_mut-free-requires : goal.split_at_mut-free-requires
split_at_mut-free-requires c =
    let bs = c.args.self.now.bytes.now in
    let w = length c.args.words.now in
    let m = length c.args.lines.now in
    let k = c.loop-row.row in
    let u = c.loop-row.used in
    let below : k < row_count bs = search rules in
    let row = has_room bs w m (row_count bs) k u c.deed.result c.unwrap-deed.result _ c.requires below c.loop-row.invariant.used c.deed.ensures.answer c.loop-row.auto.words c.unwrap-deed.ensures in
    omega (arith, row.within, c.loop-row.auto.lines)

pub apply-requires : goal.apply-requires
apply-requires c =
    let bs = c.args.self.now.bytes.now in
    let w = length c.args.words.now in
    let m = length c.args.lines.now in
    let k = c.loop-row.row in
    let u = c.loop-row.used in
    let below : k < row_count bs = search rules in
    let row = has_room bs w m (row_count bs) k u c.deed.result c.unwrap-deed.result _ c.requires below c.loop-row.invariant.used c.deed.ensures.answer c.loop-row.auto.words c.unwrap-deed.ensures in
    (rw c.unwrap-deed.ensures at c.deed.ensures.fits, omega (arith, row.within, c.loop-row.auto.lines, c.split_at_mut-free.ensures.back_len))

pub loop-row-preserved : goal.loop-row-preserved
loop-row-preserved c =
    let bs = c.args.self.now.bytes.now in
    let w = length c.args.words.now in
    let m = length c.args.lines.now in
    let k = c.loop-row.row in
    let u = c.loop-row.used in
    let d = c.unwrap-deed.result in
    let before = c.loop-row.invariant in
    let below : k < row_count bs = search rules in
    let row = has_room bs w m (row_count bs) k u c.deed.result d _ c.requires below before.used c.deed.ensures.answer c.loop-row.auto.words c.unwrap-deed.ensures in
    record {
      used = used_more bs w m k u d before.used row ∙ ap (λ (n : ℕ). Ok (u + n)) (sym c.lines-used.ensures.value);
      words = words_more bs w m k u d before.used row c.args.words.now c.loop-row.words c.apply.new.words before.words c.apply.ensures.words;
      registers = registers_more bs w m k u d before.used row c.args.registers.now c.loop-row.registers c.apply.new.registers before.registers c.apply.ensures.registers;
      lines =
          lines_written bs w m k u d before.used row c.args.lines.now c.loop-row.lines _ c.apply.new.free before.lines c.split_at_mut-free.ensures.front
          (c.apply.ensures.lines ∙ ap (λ (l : List ℕ). lines_of d ++ drop (length (lines_of d)) l) c.split_at_mut-free.ensures.back);
    }
