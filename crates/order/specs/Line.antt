-- An order line ends with its quantity field: four bytes, each as two hexadecimal digits, with one blank between them.
use Rattle.std.specs.Prelude.{◌≡◌, ℕ, ◌+◌, ◌-◌, ◌*◌, ◌/◌, ◌%◌, ◌<◌, Bool, if◌then◌else◌, ◌&&◌, List, [], ◌∷◌, ◌++◌, length, drop, Some, None, Option, ◌==◌, nat_le, nat_lt, slice_index}
use Rattle.std.specs.Option.{option_and_then}

abbrev pub between : ℕ → ℕ → ℕ → Bool
between low b high = nat_le low b && nat_le b high

-- the value of a hexadecimal digit: 0 to 9, A to F or a to f
abbrev pub digit_of : ℕ → Option ℕ
digit_of b =
    if between 48 b 57 then Some (b - 48)
    else (if between 65 b 70 then Some (b - 65 + 10) else (if between 97 b 102 then Some (b - 97 + 10) else None))

-- what is read next, where something was read before it
abbrev pub and_then : {X Y : Type 0} → Option X → (X → Option Y) → Option Y
and_then o f = option_and_then f o

-- the byte that two digits write
abbrev pub byte_of : ℕ → ℕ → Option ℕ
byte_of high low = and_then (digit_of high) (λ h. and_then (digit_of low) (λ l. Some (h * 16 + l)))

-- the field that eleven bytes of text write
abbrev pub field_in : List ℕ → Option (List ℕ)
field_in t =
    if slice_index t 2 == 32 && (slice_index t 5 == 32 && slice_index t 8 == 32)
    then
    and_then (byte_of (slice_index t 0) (slice_index t 1)) (λ a. and_then (byte_of (slice_index t 3) (slice_index t 4)) (λ b.
    and_then (byte_of (slice_index t 6) (slice_index t 7)) (λ c. and_then (byte_of (slice_index t 9) (slice_index t 10)) (λ d. Some (a ∷ b ∷ c ∷ d ∷ [])))))
    else None

-- the field at the end of a line
abbrev pub field_of : List ℕ → Option (List ℕ)
field_of line = if nat_le 11 (length line) then field_in (drop (length line - 11) line) else None

-- a digit, a byte and a field as they are written, with the digits A to F
abbrev pub written_digit : ℕ → ℕ
written_digit d = if nat_lt d 10 then 48 + d else 55 + d

abbrev pub written_byte : ℕ → List ℕ
written_byte b = written_digit (b / 16) ∷ written_digit (b % 16) ∷ []

abbrev pub written_field : ℕ → ℕ → ℕ → ℕ → List ℕ
written_field a b c d = written_byte a ++ (32 ∷ (written_byte b ++ (32 ∷ (written_byte c ++ (32 ∷ written_byte d)))))

-- Whatever text stands before it, a written field is read as the bytes that it writes.
pub record ReadsWhatIsWritten : Type 0 where
  pub reads : (text : List ℕ) (a b c d : ℕ) → a < 256 → b < 256 → c < 256 → d < 256 → field_of (text ++ written_field a b c d) ≡ Some (a ∷ b ∷ c ∷ d ∷ [])
