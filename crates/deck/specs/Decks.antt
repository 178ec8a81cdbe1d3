-- What a deck says: the deeds of its rows, in their order, or the refusal of the first faulty row.
use Rattle.std.specs.Prelude.{ℕ, zero, suc, ◌+◌, min, if◌then◌else◌, List, [], ◌∷◌, ◌++◌, length, replicate, Ok, Err, Result, nat_le}
use Rattle.std.specs.List.{flat_map}
use Rattle.refusal.specs.Heard.{Told}
use Rattle.deck.specs.declared.rows.Deed.{Deed}
use Rattle.deck.specs.declared.rows.Deed.TheVariants.{Sets, Presets, Adds}
use Rattle.deck.specs.Rows.{refused_at, and_then, whole, row_count, row_says}

-- the lines that a deed adds
abbrev pub lines_of : Deed → List ℕ
lines_of (Sets address word) = []
lines_of (Presets register value) = []
lines_of (Adds value count) = replicate count value

-- the lines of deeds, one after the other
abbrev pub all_lines : List Deed → List ℕ
all_lines ds = flat_map lines_of ds

-- one deed more; where the lines so far then pass the caller's buffer or 65,535, its row is refused with 12
abbrev pub with_deed : ℕ → ℕ → List Deed → Deed → Result (List Deed) Told
with_deed room row ds d = if nat_le (length (all_lines (ds ++ (d ∷ [])))) (min room 65535) then Ok (ds ++ (d ∷ [])) else refused_at 12 row

-- the lines so far with one deed more, or the refusal, by their number alone
abbrev pub room_for : ℕ → ℕ → ℕ → Deed → Result ℕ Told
room_for room row used d = if nat_le (used + length (lines_of d)) (min room 65535) then Ok (used + length (lines_of d)) else refused_at 12 row

-- the deeds of the first rows, over a memory of so many words and a buffer of so many lines
abbrev pub first_deeds : List ℕ → ℕ → ℕ → ℕ → Result (List Deed) Told
first_deeds bs words room zero = Ok []
first_deeds bs words room (suc k) = and_then (first_deeds bs words room k) (λ ds. and_then (row_says bs words k) (λ d. with_deed room k ds d))

abbrev pub all_deeds : List ℕ → ℕ → ℕ → Result (List Deed) Told
all_deeds bs words room = first_deeds bs words room (row_count bs)

-- a deck of other size is refused with 8, before any row
abbrev pub deck_says : List ℕ → ℕ → ℕ → Result (List Deed) Told
deck_says bs words room = if whole bs then all_deeds bs words room else refused_at 8 0

-- how many lines deeds add, or the refusal
abbrev pub counted : Result (List Deed) Told → Result ℕ Told
counted (Ok ds) = Ok (length (all_lines ds))
counted (Err e) = Err e
