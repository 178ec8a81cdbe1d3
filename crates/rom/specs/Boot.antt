-- The standard boot image.
use Rattle.std.specs.Prelude.{◌≡◌, ℕ, ◌+◌, ◌<◌, List, ◌∷◌, replicate, slice_index}
use Rattle.bus.specs.Meaning.{Meaning}

-- a branch to address 0, and 511 zeros
abbrev pub boot_image : List ℕ
boot_image = 0xE70007FF ∷ replicate 511 0

-- a bus with these contents shows the boot image's 512 words at the ROM's addresses
abbrev pub ShowsBoot : Meaning → List ℕ → Type 0
ShowsBoot m h = (k : ℕ) → k < 512 → m.shown h (0x3FF800 + k) ≡ slice_index boot_image k
