-- The settled examples as one table: what is asked, and what must come. A 7 in a buffer is what was there before. Assumes nothing.
use Rattle.std.specs.Prelude.{ℕ, List, [], ◌∷◌, ◌++◌, take, replicate}
use Rattle.settled.specs.Questions.{Question, joining, writing, opening, scanning, listing}
use Rattle.settled.specs.Registers.{two_rows, ten_rows, ten_codes, one_byte, no_rows, under, five}

-- a line of the table
pub record Example : Type 0 where
  pub asked : Question
  pub told : List ℕ

infix 10 ◌must-give◌
abbrev ◌must-give◌ : Question → List ℕ → Example
question must-give told = record { asked = question; told = told }

-- a reply's counts: those of the tests, and 0 in the slots after the last
abbrev counts : List ℕ → List ℕ
counts numbers = take 16 (numbers ++ replicate 16 0)

-- replies: number, place, need, then the values
abbrev refused : ℕ → ℕ → ℕ → List ℕ
refused number place need = number ∷ place ∷ need ∷ []

abbrev accepted : List ℕ → List ℕ
accepted values = 0 ∷ 0 ∷ 0 ∷ values

-- a scan's: matches, total, counts, and the result after it
abbrev scanned : ℕ → ℕ → List ℕ → List ℕ → List ℕ
scanned matches total numbers result = accepted (matches ∷ total ∷ counts numbers) ++ result

abbrev unscanned : ℕ → ℕ → ℕ → List ℕ → List ℕ
unscanned number place need result = refused number place need ++ (0 ∷ 0 ∷ counts []) ++ result

unfoldable pub table : List Example
table =
    -- P1: bytes with a clear pad, and with a full one
    (joining 11 (0x0F ∷ 0x80 ∷ []) must-give 124 ∷ [])
    ∷ (joining 11 (0x0F ∷ 0x9F ∷ []) must-give 124 ∷ [])
    -- P2: the file of two rows, in a buffer that is two longer; and that it opens
    ∷ (writing 2 (11 ∷ []) (5 ∷ 1024 ∷ []) (replicate 30 7) must-give accepted (28 ∷ []) ++ (two_rows ++ (7 ∷ 7 ∷ [])))
    ∷ (opening two_rows must-give accepted (2 ∷ 1 ∷ []))
    -- P3: without its last byte; P4: with a byte put in front
    ∷ (opening (take 27 two_rows) must-give refused 1 0 0 ++ (0 ∷ 0 ∷ []))
    ∷ (opening (0 ∷ two_rows) must-give refused 5 0 0 ++ (0 ∷ 0 ∷ []))
    -- P5: code 128 fails "< 127"; literal 255 is accepted, 256 gives 13
    ∷ (scanning one_byte 8 (under 127 ∷ []) (7 ∷ 7 ∷ []) must-give scanned 0 1 (1 ∷ []) (0 ∷ 7 ∷ []))
    ∷ (scanning one_byte 8 (under 255 ∷ []) (7 ∷ 7 ∷ []) must-give scanned 1 1 (1 ∷ []) (1 ∷ 7 ∷ []))
    ∷ (scanning one_byte 8 (under 256 ∷ []) (7 ∷ 7 ∷ []) must-give unscanned 13 0 0 (7 ∷ 7 ∷ []))
    -- P6: the ten rows, as written; both tests; the first alone
    ∷ (writing 10 (11 ∷ 3 ∷ []) ten_codes (replicate 62 7) must-give accepted (62 ∷ []) ++ ten_rows)
    ∷ (scanning ten_rows 8 (under 512 ∷ five ∷ []) (7 ∷ 7 ∷ 7 ∷ []) must-give scanned 3 22 (12 ∷ 10 ∷ []) (0xA1 ∷ 0x00 ∷ 7 ∷ []))
    ∷ (scanning ten_rows 8 (under 512 ∷ []) (7 ∷ 7 ∷ 7 ∷ []) must-give scanned 4 20 (20 ∷ []) (0xA3 ∷ 0x00 ∷ 7 ∷ []))
    -- P7: tests exchanged
    ∷ (scanning ten_rows 8 (five ∷ under 512 ∷ []) (7 ∷ 7 ∷ 7 ∷ []) must-give scanned 3 22 (10 ∷ 12 ∷ []) (0xA1 ∷ 0x00 ∷ 7 ∷ []))
    -- P8: segment 16
    ∷ (scanning ten_rows 16 (under 512 ∷ five ∷ []) (7 ∷ 7 ∷ 7 ∷ []) must-give scanned 3 30 (20 ∷ 10 ∷ []) (0xA1 ∷ 0x00 ∷ 7 ∷ []))
    -- P9: no tests
    ∷ (scanning ten_rows 8 [] (7 ∷ 7 ∷ 7 ∷ []) must-give scanned 10 0 [] (0xFF ∷ 0x03 ∷ 7 ∷ []))
    -- P10: the list of A1 00; P11: FF 07 has a bit past the last row
    ∷ (listing 10 (0xA1 ∷ 0x00 ∷ []) (7 ∷ 7 ∷ 7 ∷ 7 ∷ []) must-give accepted (3 ∷ []) ++ (0 ∷ 5 ∷ 7 ∷ 7 ∷ []))
    ∷ (listing 10 (0xFF ∷ 0x07 ∷ []) (7 ∷ []) must-give refused 16 0 0 ++ (0 ∷ 7 ∷ []))
    -- P12: no rows, one column
    ∷ (scanning no_rows 8 (under 127 ∷ []) (7 ∷ []) must-give scanned 0 0 (0 ∷ []) (7 ∷ []))
    ∷ []
