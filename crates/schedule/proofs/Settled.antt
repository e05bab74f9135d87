-- The settled examples of a scan over ten rows, by computation: rows found, counts, totals. Assumes nothing.
--   codes, register, first, second    the ten rows in two columns, and the tests "0 < 512" and "1 = 5"
--   Answer, scanned      what the definitions say of a query over them
--   SettledScans, settled_scans       the examples:
--     two_tests          both tests, segment 8: rows 0, 5 and 7, counts 12 and 10, total 22
--     first_alone        the first alone counts 20
--     exchanged          exchanged: the same rows, counts 10 and 12
--     longer_segment     segment 16: the same rows, counts 20 and 10
--     no_tests           no tests: every row, total 0
--     pad_ignored        a row whose pad is not clear meets "="
--     unsigned           code 128 fails "< 127"
use Prim.Native.Nat.{ℕ, zero, suc}
use mathlib.Core.Path.{◌≡◌, refl}
use mathlib.Core.List.{List, [], ◌∷◌, map}
use mathlib.Core.Bool.{Bool, true, false, cond}
use lib.ListN.{get_or}
use Rattle.basis.specs.Lists.{below}
use Rattle.codes.specs.Width.{slices_of, pad_of}
use Rattle.codes.specs.Bytes.{to_big, stored_of, bytes_of, byte_of}
use Rattle.codes.specs.Pad.{last_slice, cleared_byte}
use Rattle.query.specs.declared.Comparison.TheVariants.{Less, Equal}
use Rattle.schedule.specs.Segments.{segment_count, segment, segments}
use Rattle.schedule.specs.Schedule.{Bytes, standing, ruled_out, keeps_open, counts, count_in, count, total, found, matches}
use Rattle.schedule.specs.Comparisons.{ColumnTest, comparing}

-- the codes of the two columns, row after row
abbrev pub codes : ℕ → List ℕ
codes zero = 100 ∷ 511 ∷ 512 ∷ 513 ∷ 2047 ∷ 0 ∷ 600 ∷ 300 ∷ 520 ∷ 515 ∷ []
codes (suc n) = 5 ∷ 4 ∷ 4 ∷ 1 ∷ 5 ∷ 5 ∷ 0 ∷ 5 ∷ 5 ∷ 5 ∷ []

abbrev pub register : Bytes ColumnTest
register t j row = byte_of t.width (get_or (codes t.column) row 0) j

-- "0 < 512" and "1 = 5"
abbrev pub first : ColumnTest
first = record { column = 0; width = 11; comparison = Less 512 }

abbrev pub second : ColumnTest
second = record { column = 1; width = 3; comparison = Equal 5 }

-- the rows of a list that pass, in their order
abbrev pub passing : (ℕ → Bool) → List ℕ → List ℕ
passing test [] = []
passing test (row ∷ rows) = cond (test row) (row ∷ passing test rows) (passing test rows)

-- what a scan of the ten rows answers: the rows found, each test's count, the total and the number of matches
pub record Answer : Type 0 where
  pub rows : List ℕ
  pub counts : List ℕ
  pub total : ℕ
  pub matches : ℕ

unfoldable pub scanned : List ColumnTest → ℕ → Answer
scanned q size =
    record {
      rows = passing (found comparing register q) (below 10);
      counts = map (λ t. count comparing register q t (segments size 10)) q;
      total = total comparing register q (segments size 10);
      matches = matches comparing register q 10;
    }

pub record SettledScans : Type 0 where
  pub two_tests : scanned (first ∷ second ∷ []) 8 ≡ record { rows = 0 ∷ 5 ∷ 7 ∷ []; counts = 12 ∷ 10 ∷ []; total = 22; matches = 3 }
  pub first_alone : (scanned (first ∷ []) 8).counts ≡ 20 ∷ []
  pub exchanged : scanned (second ∷ first ∷ []) 8 ≡ record { rows = 0 ∷ 5 ∷ 7 ∷ []; counts = 10 ∷ 12 ∷ []; total = 22; matches = 3 }
  pub longer_segment : scanned (first ∷ second ∷ []) 16 ≡ record { rows = 0 ∷ 5 ∷ 7 ∷ []; counts = 20 ∷ 10 ∷ []; total = 30; matches = 3 }
  pub no_tests : scanned [] 8 ≡ record { rows = below 10; counts = []; total = 0; matches = 10 }
  -- a row of a file from elsewhere, whose pad is not clear, and a byte that a signed comparison would find less
  pub pad_ignored :
      found comparing (λ t j row. get_or (0x0F ∷ 0x9F ∷ []) j 0) (record { column = 0; width = 11; comparison = Equal 124 } ∷ []) 0 ≡ true
  pub unsigned : found comparing (λ t j row. 128) (record { column = 0; width = 8; comparison = Less 127 } ∷ []) 0 ≡ false

pub settled_scans : SettledScans
unfolding scanned standing ruled_out keeps_open counts count_in count total found matches segment_count segment segments
    slices_of pad_of to_big stored_of bytes_of byte_of last_slice cleared_byte
settled_scans =
    record {
      two_tests = refl;
      first_alone = refl;
      exchanged = refl;
      longer_segment = refl;
      no_tests = refl;
      pad_ignored = refl;
      unsigned = refl;
    }
