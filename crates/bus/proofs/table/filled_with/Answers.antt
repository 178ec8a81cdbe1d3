use Rattle.std.proofs.Common.{rules}
use Rattle.bus.proofs.Copied.{filled_copied}
use Rattle.bus.proofs.table.filled_with.Goals as goal

pub returns : goal.returns
returns g c = filled_copied c.args.rest g.row.N c.args.items.now c.min-n.result c.copy_from_slice.new.self (search rules) (search rules)
