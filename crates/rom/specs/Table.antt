-- What a ROM over a bus means: its contents are its 512 words, and then the contents below.
use Rattle.std.specs.Prelude.{ℕ, ◌+◌, ◌-◌, ◌%◌, ◌^◌, ◌<◌, Bool, if◌then◌else◌, ◌&&◌, List, drop, Option, Some, None, nat_le, nat_lt, slice_index}
use Rattle.std.proofs.Common.{arith}
use Rattle.std.proofs.lemmas.Bool.{cond_both}
use Rattle.refusal.specs.Heard.{Told, refused, nothing}
use Rattle.bus.specs.declared.Marks.{Marks}
use Rattle.bus.specs.Meaning.{Meaning, Still}
use Rattle.bus.specs.Over.{over, over_none, over_more}

-- what is told of an image of so many words
abbrev pub image_refusal : ℕ → Option Told
image_refusal n = if nat_lt 512 n then refused 2 1 0 else nothing

-- the ROM's own word addresses, 512 from 3FF800H
abbrev pub in_rom : ℕ → Bool
in_rom at = nat_le 0x3FF800 at && nat_lt at 0x3FFA00

-- the place of an address among the ROM's words, if it is the ROM's own
abbrev pub place_of : ℕ → Option ℕ
place_of at = if in_rom at then Some (at - 0x3FF800) else None

-- its own words at its own addresses, elsewhere what the bus below shows
abbrev pub rom_shown : Meaning → List ℕ → ℕ → ℕ
rom_shown m h at = if in_rom at then slice_index h (at - 0x3FF800) % 2 ^ 32 else m.shown (drop 512 h) at

-- reads and writes at its own addresses do nothing; others go to the bus below
abbrev pub rom_read : Meaning → List ℕ → ℕ → List ℕ
rom_read m h at = if in_rom at then h else over 512 (λ below. m.read below at) h

abbrev pub rom_write : Meaning → List ℕ → ℕ → ℕ → Marks → List ℕ
rom_write m h at word marks = if in_rom at then h else over 512 (λ below. m.write below at word marks) h

-- every clock goes to the bus below
abbrev pub rom_passed : Meaning → List ℕ → ℕ → List ℕ
rom_passed m h n = over 512 (λ below. m.passed below n) h

pub rom_fits : (m : Meaning) (h : List ℕ) (at : ℕ) → rom_shown m h at < 2 ^ 32
rom_fits m h at = cond_both (in_rom at) _ _ (λ x. x < 2 ^ 32) (λ e. omega arith) (λ e. m.fits (drop 512 h) at)

abbrev pub rom_meaning : Meaning → Meaning
rom_meaning m = record {
  shown = rom_shown m;
  read = rom_read m;
  write = rom_write m;
  passed = rom_passed m;
  fits = rom_fits m;
  none = λ h. over_none 512 (λ below. m.passed below 0) m.none h;
  more = λ h a b. over_more 512 (λ x. m.passed x a) (λ x. m.passed x b) (λ x. m.passed x (a + b)) (λ x. m.more x a b) h;
}

-- a ROM over a still bus is still
abbrev pub StaysStill : Meaning → Type 0
StaysStill m = Still m → Still (rom_meaning m)
