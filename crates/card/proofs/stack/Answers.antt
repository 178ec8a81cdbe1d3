use Rattle.std.proofs.Common.{◌≡◌, take, vec_items}
use Rattle.rom.specs.Boot.{boot_image}
use Rattle.panel.specs.Cells.{new_feed}
use Rattle.card.specs.Stack.{card_contents, new_card}
use Rattle.card.proofs.Cards.{memory_below, new_shows_boot, stacked}
use Rattle.card.proofs.stack.Goals as goal

pub returns : goal.returns
returns c =
    let feed = c.args.feed.now in
    let given = vec_items c.args.words in
    let new = c.new.ensures in
    let boot = c.boot-rom.ensures in
    let words : vec_items c.new-memory.result.words ≡ take 262144 given = c.new-memory.ensures.words in
    let contents : card_contents c.new.result ≡ new_card given feed =
    stacked c.new.result c.boot-rom.result c.new-memory.result (new_feed feed) boot_image (take 262144 given)
    new.feed new.below boot.table boot.below words in
    record {
      contents = contents;
      shows_boot = new_shows_boot (card_contents c.new.result) given feed contents;
      memory_below = memory_below;
    }
