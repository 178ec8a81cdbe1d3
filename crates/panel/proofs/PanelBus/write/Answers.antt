use Rattle.std.proofs.Common.{rules}
use Rattle.panel.proofs.Panels.{other_write}
use Rattle.panel.proofs.PanelBus.write.Goals as goal

pub returns-then-is_none : goal.returns-then-is_none
returns-then-is_none g c = search (rules, other_write)
