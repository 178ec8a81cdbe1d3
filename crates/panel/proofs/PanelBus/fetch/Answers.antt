use Rattle.std.proofs.Common.{◌%◌, sym, ◌∙◌, rules}
use Rattle.panel.proofs.Panels.{cell_shown, other_shown}
use Rattle.panel.proofs.PanelBus.fetch.Goals as goal

pub returns-in-Some : goal.returns-in-Some
returns-in-Some g c =
    let d = c.args.self.now.feed in
    c.show.ensures
    ∙ cell_shown g.B.Bus.meaning d.age d.taken d.count d.bytes _ (c.args.at % 4194304) d.whole c.in-Some.cell (sym c.own_cell.ensures ∙ c.in-Some.is)

pub returns-in-None : goal.returns-in-None
returns-in-None g c = search (rules, other_shown)
