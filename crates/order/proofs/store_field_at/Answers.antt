use Rattle.std.proofs.Common.{ℕ, ◌+◌, ◌<◌, List, length, get_or, sym, ap, ◌∙◌, rules}
use Rattle.bus.specs.Calls.{called}
use Rattle.order.specs.Quantity.{byte_store}
use Rattle.order.proofs.Storing.{stored_more, wrapped}
use Rattle.order.proofs.store_field_at.Goals as goal

pub loop-place-preserved : goal.loop-place-preserved
loop-place-preserved g c =
    let m = g.B.Bus.meaning in
    let a = c.args.address in
    let i = c.loop-place.place in
    let bytes = c.from-bytes.result in
    let within : i < length bytes = search rules in
    c.store_byte.ensures
    ∙ ap (called m _) (wrapped (a + i) (get_or bytes i 0))
    ∙ ap (λ (h : List ℕ). called m h (byte_store (a + i) (get_or bytes i 0))) c.loop-place.invariant
    ∙ sym (stored_more m (g.B.Bus.contents c.args.bus.now) a bytes i within)
