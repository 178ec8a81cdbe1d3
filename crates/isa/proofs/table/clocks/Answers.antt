-- The table is the rule at the 256 kinds, one after the other: both lists are computed and compared.
use Rattle.std.proofs.Common.{arith}
use Rattle.std.proofs.lemmas.List.FromFn.{get_or-map-range_with_len}
use Rattle.isa.specs.Kinds.{clocks_by, kind_at}
use Rattle.isa.proofs.table.clocks.Goals as goal

pub returns : goal.returns
returns c = get_or-map-range_with_len (λ k. clocks_by (kind_at k)) 0 256 c.from.result c.args.code 0 (omega arith) (omega arith)
