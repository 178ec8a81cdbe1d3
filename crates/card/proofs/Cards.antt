-- What the card's meaning is below the ROM, and at the ROM's addresses.
use Rattle.std.proofs.Common.{◌≡◌, ℕ, ◌+◌, ◌<◌, min, false, List, ◌++◌, length, take, vec_items, sym, refl, ap, ◌∙◌, arith, drop-drop}
use Rattle.std.proofs.lemmas.Bool.{cond-false, and_left, lt-leb}
use Rattle.bus.specs.Filled.{filled}
use Rattle.bus.specs.Over.{over, over_none}
use Rattle.bus.proofs.Layers.{over_same, over-over}
use Rattle.memory.specs.Words.{memory_meaning}
use Rattle.rom.specs.Boot.{boot_image, ShowsBoot}
use Rattle.rom.specs.Table.{in_rom, rom_meaning, rom_read, rom_write}
use Rattle.panel.specs.Cells.{on_panel}
use Rattle.rom.proofs.Roms.{boot_shown}
use Rattle.panel.proofs.Handing.{table_long}
use Rattle.panel.proofs.Panels.{below_shown}
use Rattle.memory.specs.declared.Memory.{Memory}
use Rattle.rom.specs.declared.Rom.{Rom}
use Rattle.panel.specs.declared.Panel.{Panel}
use Rattle.panel.specs.Numbers.{numbers}
use Rattle.card.specs.Stack.{card_meaning, card_contents, new_card, MemoryBelow}

off_panel : (at : ℕ) → at < 0x3FFFF0 → on_panel at ≡ false
off_panel at lt = and_left _ _ (lt-leb 0x3FFFF0 at lt)

off_rom : (at : ℕ) → at < 0x3FF800 → in_rom at ≡ false
off_rom at lt = and_left _ _ (lt-leb 0x3FF800 at lt)

pub memory_below : MemoryBelow
memory_below = record {
  shown = λ h at lt.
      cond-false _ _ _ (off_panel at (omega arith)) ∙ cond-false _ _ _ (off_rom at lt) ∙ ap (λ x. memory_meaning.shown x at) (drop-drop 512 67 h);
  read = λ h at lt.
      cond-false _ _ _ (off_panel at (omega arith))
      ∙ over_none 67 (λ x. rom_read memory_meaning x at) (λ x. cond-false _ _ _ (off_rom at lt) ∙ over_none 512 (λ w. w) (λ w. refl) x) h;
  write = λ h at word marks lt.
      cond-false _ _ _ (off_panel at (omega arith))
      ∙ over_same 67 (λ x. rom_write memory_meaning x at word marks) (over 512 (λ w. memory_meaning.write w at word marks)) (λ x. cond-false _ _ _ (off_rom at lt)) h
      ∙ over-over 67 512 (λ w. memory_meaning.write w at word marks) h;
}

-- the panel shows what the ROM below it shows
pub new_shows_boot : (h words feed : List ℕ) → h ≡ new_card words feed → ShowsBoot card_meaning h
new_shows_boot h words feed is k lt =
    let below = boot_image ++ take 262144 words in
    ap (λ x. card_meaning.shown x (0x3FF800 + k)) is
    ∙ sym (below_shown (rom_meaning memory_meaning) 0 0 (min 64 (length feed)) (filled 64 feed) below (0x3FF800 + k) (table_long feed) (off_panel (0x3FF800 + k) (omega arith)))
    ∙ boot_shown memory_meaning boot_image (take 262144 words) refl k lt

-- the contents by its layers
pub stacked : (s : Panel (Rom Memory)) (r : Rom Memory) (y : Memory) (own table words : List ℕ) →
    numbers s.feed ≡ own → s.below ≡ r → r.table ≡ table → r.below ≡ y → vec_items y.words ≡ words →
    card_contents s ≡ own ++ (table ++ words)
stacked s r y own table words f below tab under ws =
    let rest = λ (x : Rom Memory). x.table ++ vec_items x.below.words in
    ap (λ x. x ++ rest s.below) f
    ∙ ap (λ x. own ++ rest x) below
    ∙ ap (λ x. own ++ (x ++ vec_items r.below.words)) tab
    ∙ ap (λ x. own ++ (table ++ vec_items x.words)) under
    ∙ ap (λ x. own ++ (table ++ x)) ws
