-- A quantity field of four bytes, as it is sent and as the card loads it.
use Rattle.std.specs.Prelude.{ℕ, ◌+◌, ◌*◌, ◌/◌, ◌%◌, ◌^◌, List, [], ◌∷◌, slice_index}
use Rattle.bus.specs.Calls.{Call, called}
use Rattle.bus.specs.Calls.Call.{reads, writes}
use Rattle.bus.specs.Lanes.{in_lane, joined, placed, only_marked}
use Rattle.bus.specs.Meaning.{Meaning}
use Rattle.order.specs.declared.Field.{Field}

-- the four bytes, in the order in which they are sent
abbrev pub bytes_of : Field → List ℕ
bytes_of f = f.b0 ∷ f.b1 ∷ f.b2 ∷ f.b3 ∷ []

-- the number that the four bytes are sent as: the first byte is the highest
abbrev pub sent_as : List ℕ → ℕ
sent_as bs = slice_index bs 0 * 16777216 + slice_index bs 1 * 65536 + slice_index bs 2 * 256 + slice_index bs 3

-- the number that a word load makes of them: the first byte is the lowest
abbrev pub loaded_as : List ℕ → ℕ
loaded_as bs = joined bs

-- what a byte store asks of the bus: the byte in its lane, the other bytes 0, under that byte's mark alone
abbrev pub byte_store : ℕ → ℕ → Call
byte_store address byte = writes (address / 4 % 2 ^ 22) (placed byte (address % 4)) (only_marked (address % 4))

-- the byte stores of some bytes, one after the other from a byte address on
abbrev pub byte_stores : ℕ → List ℕ → List Call
byte_stores address [] = []
byte_stores address (b ∷ bs) = byte_store address b ∷ byte_stores (address + 1) bs

-- the four byte stores of a field, at byte addresses 0 to 3
abbrev pub field_stores : List ℕ → List Call
field_stores bs = byte_store 0 (slice_index bs 0) ∷ byte_store 1 (slice_index bs 1) ∷ byte_store 2 (slice_index bs 2) ∷ byte_store 3 (slice_index bs 3) ∷ []

-- four byte loads there: each reads word address 0
abbrev pub field_loads : List Call
field_loads = reads 0 ∷ reads 0 ∷ reads 0 ∷ reads 0 ∷ []

-- and the bytes that they give
abbrev pub loaded_bytes : Meaning → List ℕ → List ℕ
loaded_bytes m h =
    let h1 = called m h (reads 0) in
    let h2 = called m h1 (reads 0) in
    let h3 = called m h2 (reads 0) in
    in_lane (m.shown h 0) 0 ∷ in_lane (m.shown h1 0) 1 ∷ in_lane (m.shown h2 0) 2 ∷ in_lane (m.shown h3 0) 3 ∷ []
