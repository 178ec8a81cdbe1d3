use Rattle.risc5.proofs.Fitting.{fits}
use Rattle.risc5.proofs.pace_fits.Goals as goal

pub returns : goal.returns
returns c = fits
