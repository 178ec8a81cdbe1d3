use Rattle.std.proofs.Common.{◌≡◌, ℕ, ◌%◌, List, ◌++◌, Some, sym, ap, ◌∙◌, rules}
use Rattle.panel.specs.Cells.{cell_at}
use Rattle.panel.proofs.Panels.{cell_shown, cell_read, other_shown, other_read}
use Rattle.panel.proofs.PanelBus.read.Goals as goal

pub returns-in-Some : goal.returns-in-Some
returns-in-Some g c =
    let m = g.B.Bus.meaning in
    let d = c.args.self.now.feed in
    let q = g.B.Bus.contents c.args.self.now.below in
    let a = c.args.at % 4194304 in
    let k = c.in-Some.cell in
    let own : cell_at a ≡ Some k = sym c.own_cell.ensures ∙ c.in-Some.is in
    record {
      word = c.show-word.ensures ∙ cell_shown m d.age d.taken d.count d.bytes q a d.whole k own;
      after = ap (λ (f : List ℕ). f ++ q) c.take.ensures ∙ cell_read m d.age d.taken d.count d.bytes q a d.whole k own;
    }

pub returns-in-None : goal.returns-in-None
returns-in-None g c = record { word = search (rules, other_shown); after = search (rules, other_read) }
