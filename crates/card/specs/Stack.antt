-- The card's bus: the panel over the boot ROM over a memory.
use Rattle.std.specs.Prelude.{◌≡◌, ℕ, ◌<◌, List, ◌∷◌, ◌++◌, take, drop, vec_items}
use Rattle.bus.specs.declared.Marks.{Marks}
use Rattle.bus.specs.Meaning.{Meaning}
use Rattle.bus.specs.Over.{over}
use Rattle.memory.specs.declared.Memory.{Memory}
use Rattle.memory.specs.Words.{memory_meaning}
use Rattle.rom.specs.declared.Rom.{Rom}
use Rattle.rom.specs.Boot.{boot_image}
use Rattle.rom.specs.Table.{rom_meaning}
use Rattle.panel.specs.declared.Panel.{Panel}
use Rattle.panel.specs.Cells.{panel_meaning, new_panel}

abbrev pub card_meaning : Meaning
card_meaning = panel_meaning (rom_meaning memory_meaning)

-- the panel's 67 numbers, the ROM's 512 words, and the memory's words
abbrev pub card_contents : Panel (Rom Memory) → List ℕ
card_contents s =
    s.feed.age ∷ s.feed.taken ∷ s.feed.count ∷ (s.feed.bytes ++ (s.below.table ++ vec_items s.below.below.words))

-- a new card: the first 64 bytes of a feed, the boot image, and the first 262,144 words
abbrev pub new_card : List ℕ → List ℕ → List ℕ
new_card words feed = new_panel feed (boot_image ++ take 262144 words)

-- Below the ROM's addresses the card is its memory, which stands after 579 numbers.
pub record MemoryBelow : Type 0 where
  pub shown : (h : List ℕ) (at : ℕ) → at < 0x3FF800 → card_meaning.shown h at ≡ memory_meaning.shown (drop 579 h) at
  pub read : (h : List ℕ) (at : ℕ) → at < 0x3FF800 → card_meaning.read h at ≡ h
  pub write : (h : List ℕ) (at word : ℕ) (marks : Marks) → at < 0x3FF800 →
      card_meaning.write h at word marks ≡ over 579 (λ words. memory_meaning.write words at word marks) h
