-- What a panel over a bus means. Its contents are its age in clocks, how many bytes of its feed were taken, how many the feed has,
-- the feed's 64 places, and then the contents below.
use Rattle.std.specs.Prelude.{◌≡◌, ℕ, ◌+◌, ◌-◌, ◌*◌, ◌%◌, ◌^◌, ◌<◌, min, Bool, if◌then◌else◌, ◌&&◌, List, [], ◌∷◌, ◌++◌, length, take, drop, Option, Some, None, ◌==◌, nat_le, nat_lt, slice_index, slice_set, refl}
use Rattle.std.proofs.Common.{ap, ◌∙◌, arith}
use Rattle.std.proofs.lemmas.Bool.{cond_both}
use Rattle.refusal.specs.Heard.{Told, refused, nothing}
use Rattle.bus.specs.declared.Marks.{Marks}
use Rattle.bus.specs.Filled.{filled}
use Rattle.bus.specs.Meaning.{Meaning}
use Rattle.bus.specs.Over.{over, over_none, over_more}

-- the panel's own numbers when it is new: age 0, nothing taken, the first 64 bytes of a feed
abbrev pub new_feed : List ℕ → List ℕ
new_feed feed = 0 ∷ 0 ∷ min 64 (length feed) ∷ filled 64 feed

-- a new panel over a bus with these contents
abbrev pub new_panel : List ℕ → List ℕ → List ℕ
new_panel feed below = new_feed feed ++ below

-- what is told of a feed of so many bytes
abbrev pub feed_refusal : ℕ → Option Told
feed_refusal n = if nat_lt 64 n then refused 3 1 0 else nothing

-- the panel's own word addresses, 16 cells from 3FFFF0H
abbrev pub on_panel : ℕ → Bool
on_panel at = nat_le 0x3FFFF0 at && nat_lt at 0x400000

-- the cell at an address, if it is the panel's own
abbrev pub cell_at : ℕ → Option ℕ
cell_at at = if on_panel at then Some (at - 0x3FFFF0) else None

-- whether the byte after those taken is there: it is in the feed, and its 13,030 clocks have passed
abbrev pub arrived : ℕ → ℕ → ℕ → Bool
arrived age taken count = nat_lt taken count && nat_le (13030 * (taken + 1)) age

-- that byte, if it is there
abbrev pub next_byte : ℕ → ℕ → ℕ → List ℕ → Option ℕ
next_byte age taken count feed = if arrived age taken count then Some (slice_index feed taken) else None

-- what a cell shows: cell 2 the oldest byte that arrived and was not taken, cell 3 whether there is one
abbrev pub cell : ℕ → ℕ → ℕ → List ℕ → ℕ → ℕ
cell age taken count feed k =
    if k == 2 then (if arrived age taken count then slice_index feed taken % 256 else 0)
    else (if k == 3 then (if arrived age taken count then 1 else 0) else 0)

-- how many bytes are taken after a read of a cell: a read of cell 2 takes the byte that it shows
abbrev pub taken_after : ℕ → ℕ → ℕ → ℕ → ℕ
taken_after age taken count k = if k == 2 && arrived age taken count then taken + 1 else taken

-- the age counts clocks and stops at 833,920, when a feed of 64 bytes has arrived
abbrev pub aged : ℕ → ℕ → ℕ
aged age n = age + min n (833920 - age)

-- by the panel's own numbers: what a cell shows, and the numbers after a read of it and after clocks
abbrev pub feed_shown : List ℕ → ℕ → ℕ
feed_shown f k = cell (slice_index f 0) (slice_index f 1) (slice_index f 2) (drop 3 f) k

abbrev pub feed_read : List ℕ → ℕ → List ℕ
feed_read f k = slice_set f 1 (taken_after (slice_index f 0) (slice_index f 1) (slice_index f 2) k)

abbrev pub feed_passed : List ℕ → ℕ → List ℕ
feed_passed f n = slice_set f 0 (aged (slice_index f 0) n)

abbrev pub panel_shown : Meaning → List ℕ → ℕ → ℕ
panel_shown m h at =
    if on_panel at then cell (slice_index h 0) (slice_index h 1) (slice_index h 2) (take 64 (drop 3 h)) (at - 0x3FFFF0) else m.shown (drop 67 h) at

abbrev pub panel_read : Meaning → List ℕ → ℕ → List ℕ
panel_read m h at =
    if on_panel at then slice_set h 1 (taken_after (slice_index h 0) (slice_index h 1) (slice_index h 2) (at - 0x3FFFF0)) else over 67 (λ below. m.read below at) h

-- a write to a cell does nothing
abbrev pub panel_write : Meaning → List ℕ → ℕ → ℕ → Marks → List ℕ
panel_write m h at word marks = if on_panel at then h else over 67 (λ below. m.write below at word marks) h

-- every clock adds to the age, and goes to the bus below
abbrev pub panel_passed : Meaning → List ℕ → ℕ → List ℕ
panel_passed m [] n = []
panel_passed m (age ∷ h) n = aged age n ∷ over 66 (λ below. m.passed below n) h

cell_fits : (age taken count : ℕ) (feed : List ℕ) (k : ℕ) → cell age taken count feed k < 2 ^ 32
cell_fits age taken count feed k =
    let P : ℕ → Type 0 = λ x. x < 2 ^ 32 in
    let w = arrived age taken count in
    cond_both (k == 2) _ _ P
    (λ e. cond_both w _ _ P (λ f. omega arith) (λ f. omega arith))
    (λ e. cond_both (k == 3) _ _ P (λ f. cond_both w _ _ P (λ j. omega arith) (λ j. omega arith)) (λ f. omega arith))

pub panel_fits : (m : Meaning) (h : List ℕ) (at : ℕ) → panel_shown m h at < 2 ^ 32
panel_fits m h at =
    cond_both (on_panel at) _ _ (λ x. x < 2 ^ 32) (λ e. cell_fits (slice_index h 0) (slice_index h 1) (slice_index h 2) (take 64 (drop 3 h)) (at - 0x3FFFF0)) (λ e. m.fits (drop 67 h) at)

pub aged_none : (age : ℕ) → aged age 0 ≡ age
aged_none age = omega arith

pub aged_more : (age a b : ℕ) → aged (aged age a) b ≡ aged age (a + b)
aged_more age a b = omega arith

pub panel_none : (m : Meaning) (h : List ℕ) → panel_passed m h 0 ≡ h
panel_none m [] = refl
panel_none m (age ∷ h) =
    ap (λ x. x ∷ over 66 (λ below. m.passed below 0) h) (aged_none age) ∙ ap (λ x. age ∷ x) (over_none 66 (λ below. m.passed below 0) m.none h)

pub panel_more : (m : Meaning) (h : List ℕ) (a b : ℕ) → panel_passed m (panel_passed m h a) b ≡ panel_passed m h (a + b)
panel_more m [] a b = refl
panel_more m (age ∷ h) a b =
    ap (λ x. x ∷ over 66 (λ y. m.passed y b) (over 66 (λ y. m.passed y a) h)) (aged_more age a b)
    ∙ ap (λ x. aged age (a + b) ∷ x) (over_more 66 (λ x. m.passed x a) (λ x. m.passed x b) (λ x. m.passed x (a + b)) (λ x. m.more x a b) h)

abbrev pub panel_meaning : Meaning → Meaning
panel_meaning m = record {
  shown = panel_shown m;
  read = panel_read m;
  write = panel_write m;
  passed = panel_passed m;
  fits = panel_fits m;
  none = panel_none m;
  more = panel_more m;
}
