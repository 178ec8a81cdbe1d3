use Rattle.std.proofs.Common.{rules}
use Rattle.rom.proofs.Roms.{below_shown, below_read}
use Rattle.rom.proofs.RomBus.read.Goals as goal

pub returns-in-None : goal.returns-in-None
returns-in-None g c = record { word = search (rules, below_shown); after = search (rules, below_read) }
