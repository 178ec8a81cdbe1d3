use Rattle.std.proofs.Common.{◌≡◌, refl}
use Rattle.rom.specs.Boot.{boot_image}
use Rattle.rom.proofs.Roms.{boot_shown}
use Rattle.rom.proofs.Rom.boot.Goals as goal

pub returns : goal.returns
returns g c =
    let table : c.boot_image-table.result ≡ boot_image = c.boot_image-table.ensures in
    record { table = table; below = refl; shows_boot = boot_shown g.B.Bus.meaning _ (g.B.Bus.contents c.args.below) table }
