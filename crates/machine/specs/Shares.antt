-- An instruction's share: the shortest beginning of some lines that has as many unstalled lines as the instruction has clocks.
use Rattle.std.specs.Prelude.{ℕ, zero, suc, pred, Bool, true, false, List, [], ◌∷◌}
use Rattle.machine.specs.Lines.{stalled}

-- Lines cut after a share: the share's lines before its last, its last line, the lines left. Or there is no whole share.
pub data Cut : Type 0 where
  short : Cut
  whole : List ℕ → ℕ → List ℕ → Cut

abbrev pub behind : ℕ → Cut → Cut
behind x short = short
behind x (whole b l ls) = whole (x ∷ b) l ls

abbrev pub last_by : Bool → ℕ → List ℕ → Cut → Cut
last_by true x ls later = behind x later
last_by false x ls later = whole [] x ls

abbrev pub fewer : Bool → ℕ → ℕ
fewer true n = suc n
fewer false n = n

-- cut after the first n + 1 unstalled lines
unfoldable pub cut_after : ℕ → List ℕ → Cut
cut_after n [] = short
cut_after zero (x ∷ ls) = last_by (stalled x) x ls (cut_after zero ls)
cut_after (suc n) (x ∷ ls) = behind x (cut_after (fewer (stalled x) n) ls)

-- cut after the share of an instruction of n clocks, n at least 1
abbrev pub cut : ℕ → List ℕ → Cut
cut n ls = cut_after (pred n) ls

-- how many stalled lines stand in front: the place of the first unstalled line
abbrev pub ahead_by : Bool → ℕ → ℕ
ahead_by true n = suc n
ahead_by false n = 0

abbrev pub ahead : List ℕ → ℕ
ahead [] = 0
ahead (x ∷ b) = ahead_by (stalled x) (ahead b)

-- 1 if a share remains
abbrev pub remains : Cut → ℕ
remains short = 0
remains (whole b l ls) = 1
