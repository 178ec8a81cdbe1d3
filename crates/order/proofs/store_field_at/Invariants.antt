use Rattle.std.proofs.Common.{◌≡◌, take}
use Rattle.bus.specs.Calls.{after}
use Rattle.order.specs.Quantity.{byte_stores}
use Rattle.order.proofs.store_field_at.Given as goal

abbrev pub invariant-loop-place : goal.invariant-loop-place
invariant-loop-place g l =
    g.B.Bus.contents l.bus ≡ after g.B.Bus.meaning (g.B.Bus.contents l.initial.bus) (byte_stores l.address (take l.place l.byte-items))
