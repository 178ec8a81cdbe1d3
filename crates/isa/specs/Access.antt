-- Loads and stores: where they go, what a load takes from a word and what a store sends.
use Rattle.std.specs.Prelude.{ℕ, ◌%◌, ◌^◌, cond, pos, ◌+ℤ◌}
use Rattle.bus.specs.Lanes.{in_lane, placed, all_marked, only_marked}
use Rattle.isa.specs.declared.Sent.{Sent}
use Rattle.isa.specs.Numbers.{field, signed_field, modulo}
use Rattle.isa.specs.Word.{v}

-- the byte address, from the value of R.b: the offset is signed
abbrev pub address_of : ℕ → ℕ → ℕ
address_of w base = modulo (pos base +ℤ signed_field 20 (field 0 20 w)) (2 ^ 24)

-- the word that a byte address lies in, and the lane of the byte in it
abbrev pub word_of : ℕ → ℕ
word_of address = field 2 22 address

abbrev pub lane_of : ℕ → ℕ
lane_of address = address % 4

-- what a load gives of the word shown: with v the byte in its lane, else all of it
abbrev pub loaded : ℕ → ℕ → ℕ → ℕ
loaded w address shown = cond (v w) (in_lane shown (lane_of address)) shown

-- what a store of a value sends: with v the low byte in its lane and 0 in the others, under that byte's mark alone
abbrev pub sent : ℕ → ℕ → ℕ → Sent
sent w address value =
    cond (v w) (record { word = placed (value % 256) (lane_of address); marks = only_marked (lane_of address) })
    (record { word = value; marks = all_marked })
