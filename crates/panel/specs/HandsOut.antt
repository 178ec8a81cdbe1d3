-- What a panel promises of its feed, over any calls made of it.
use Rattle.std.specs.Prelude.{◌≡◌, ℕ, ◌*◌, ◌≤◌, if◌then◌else◌, ◌&&◌, List, [], ◌∷◌, ◌++◌, length, take, ◌==◌, slice_index}
use Rattle.bus.specs.Meaning.{Meaning}
use Rattle.bus.specs.Calls.{Call, after, called, clocks}
use Rattle.bus.specs.Calls.Call.{passes, reads, writes}
use Rattle.panel.specs.Cells.{arrived}

-- the byte that one call hands out: a read of cell 2 while cell 3 shows 1
abbrev pub handed_by : Meaning → List ℕ → Call → List ℕ
handed_by m h (passes n) = []
handed_by m h (reads at) = if at == 0x3FFFF2 && m.shown h 0x3FFFF3 == 1 then m.shown h 0x3FFFF2 ∷ [] else []
handed_by m h (writes at word marks) = []

-- the bytes that calls hand out, in their order
abbrev pub handed : Meaning → List ℕ → List Call → List ℕ
handed m h [] = []
handed m h (c ∷ cs) = handed_by m h c ++ handed m (called m h c) cs

-- Whatever calls are made of a bus with these contents, it hands out the feed in order, each byte once and none before its clock.
pub record HandsOut (m : Meaning) (h feed : List ℕ) : Type 0 where
  -- what was handed out is the beginning of the feed
  pub in_order : (cs : List Call) → handed m h cs ≡ take (length (handed m h cs)) feed
  -- byte k is handed out only once 13,030 × (k + 1) clocks have passed
  pub none_early : (cs : List Call) → 13030 * length (handed m h cs) ≤ clocks cs
  -- and as soon as they have, the next byte is shown until it is read
  pub shows_byte : (cs : List Call) →
      m.shown (after m h cs) 0x3FFFF2
      ≡ (if arrived (clocks cs) (length (handed m h cs)) (length feed) then slice_index feed (length (handed m h cs)) else 0)
  pub shows_ready : (cs : List Call) →
      m.shown (after m h cs) 0x3FFFF3 ≡ (if arrived (clocks cs) (length (handed m h cs)) (length feed) then 1 else 0)
