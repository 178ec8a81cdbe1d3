use Rattle.std.proofs.Common.{List, ℕ, ◌++◌, ap, ◌∙◌}
use Rattle.panel.specs.Cells.{feed_passed}
use Rattle.panel.specs.Numbers.{numbers}
use Rattle.panel.proofs.Panels.{both_passed}
use Rattle.panel.proofs.PanelBus.pass.Goals as goal

pub returns : goal.returns
returns g c =
    let d = c.args.self.now.feed in
    let q = g.B.Bus.contents c.args.self.now.below in
    ap (λ (f : List ℕ). f ++ g.B.Bus.contents c.pass-2.new.self) c.pass.ensures
    ∙ ap (λ (below : List ℕ). feed_passed (numbers d) c.args.clocks ++ below) c.pass-2.ensures
    ∙ both_passed g.B.Bus.meaning d.age d.taken d.count d.bytes q c.args.clocks d.whole
