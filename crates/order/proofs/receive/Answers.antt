use Rattle.std.proofs.Common.{◌<◌, ◌∙◌, rules}
use Rattle.card.specs.Stack.{card_contents}
use Rattle.order.proofs.Receiving.{word_received, bytes_received, same_field}
use Rattle.order.proofs.receive.Goals as goal

pub returns : goal.returns
returns c =
    let f = c.args.field in
    let f0 : f.b0 < 256 = search rules in
    let f1 : f.b1 < 256 = search rules in
    let f2 : f.b2 < 256 = search rules in
    let f3 : f.b3 < 256 = search rules in
    let h = card_contents c.in_ok-bus.bus in
    let new = c.in_ok-bus.ensures in
    let got = c.pass_through.ensures in
    record {
      word = got.word ∙ word_received f.b0 f.b1 f.b2 f.b3 f0 f1 f2 f3 h new;
      bytes = same_field _ _ (got.bytes ∙ bytes_received f.b0 f.b1 f.b2 f.b3 f0 f1 f2 f3 h new);
    }
