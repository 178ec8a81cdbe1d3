use Rattle.std.proofs.Common.{rules}
use Rattle.rom.proofs.Roms.{below_shown}
use Rattle.rom.proofs.RomBus.fetch.Goals as goal

pub returns-in-None : goal.returns-in-None
returns-in-None g c = search (rules, below_shown)
