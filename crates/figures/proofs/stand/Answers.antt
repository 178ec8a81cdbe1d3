use mathlib.Core.Path.{refl}
use Rattle.unit.specs.After.{after}
use Rattle.machine.proofs.Finishing.{rise_lost, no_step, store_first}
use Rattle.risc5.specs.Set.{card, pace}
use Rattle.figures.proofs.stand.Goals as goal

pub returns : goal.returns
unfolding after
returns c =
    record {
      wraps = refl;
      wraps_carries = refl;
      wraps_overflows = refl;
      tops_carries = refl;
      tops_overflows = refl;
      asr_31 = refl;
      asr_32 = refl;
      squared_signed = refl;
      squared_unsigned = refl;
      by_zero = refl;
      big_endian = refl;
      rise = λ M. rise_lost M card pace;
      store = λ M. store_first M card;
      stall = λ M. no_step M card pace;
    }
