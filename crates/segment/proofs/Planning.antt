-- The plan of a query, test after test, and of a column, slice after slice. Assumes nothing.
--   fit_literal         the literal of a test that was judged fits its column
--   planned_nothing     before the first test
--   planned_one_more    a turn puts down the next test's column
--   bytes_one_more      a turn puts down the next slice's low and high byte
use Prim.Native.Nat.{ℕ, ◌+◌, ◌<◌}
use native.Mathlib.Omega.{arith}
use mathlib.Core.Path.{◌≡◌}
use mathlib.Core.List.{List}
use borrow.Author.Count.{below_more}
use lib.ListN.{length, set}
use lib.Seq.{get_or-set_same, get_or-set_other}
use Rattle.codes.specs.Bytes.{byte_of}
use Rattle.codes.specs.Pad.{high_of}
use Rattle.codes.proofs.Width.{below_the_limit}
use Rattle.register.specs.declared.Shape.{Shape}
use Rattle.directory.specs.File.{width_in, offset_in}
use Rattle.register.proofs.Fit.{width_as_opened}
use Rattle.query.specs.declared.Test.{Test}
use Rattle.query.specs.declared.Query.{Query}
use Rattle.query.specs.Tests.{literal_of, test_at}
use Rattle.asking.specs.Judged.{Judged}
use Rattle.segment.specs.declared.Bounds.{Bounds}
use Rattle.segment.specs.declared.Column.{Column}
use Rattle.segment.specs.declared.Plan.{Plan}
use Rattle.segment.specs.Steps.{FitLiteral, BytesPlanned, ColumnPlanned, Planned, no_bounds, no_column}

module _ (file : List ℕ) (shape : Shape) (query : Query) (fit : Judged file shape query) (t : ℕ)
    (h : t < query.count) where
  pub fit_literal : FitLiteral (width_in file (test_at query.tests t).column) (literal_of (test_at query.tests t).comparison)
  fit_literal =
      record {
        narrow = (width_as_opened file shape fit.opened _ (fit.columns t h)).1;
        small = below_the_limit _ _ (fit.literals t h);
      }

pub planned_nothing : (file : List ℕ) (tests : List Test) (plan : Plan) → Planned file tests 0 plan
planned_nothing file tests plan = record { columns = λ t h. absurd (omega arith) }

pub planned_one_more : {file : List ℕ} {tests : List Test} {t : ℕ} (columns : List Column) (column : Column) → t < length columns →
    Planned file tests t (record { columns = columns }) →
    ColumnPlanned (width_in file (test_at tests t).column) (literal_of (test_at tests t).comparison)
    (offset_in file (test_at tests t).column) column →
    Planned file tests (t + 1) (record { columns = set columns t column })
planned_one_more {t = t} columns column here before next =
    record {
      columns =
          below_more _ t (λ u h. rw (get_or-set_other columns t u column no_column (omega arith)) (before.columns u h))
          (rw (get_or-set_same columns t column no_column here) next);
    }

pub bytes_one_more : {width literal j : ℕ} (bounds : List Bounds) (next : Bounds) → j < length bounds →
    BytesPlanned width literal j bounds → next.low ≡ byte_of width literal j → next.high ≡ high_of width j (byte_of width literal j) →
    BytesPlanned width literal (j + 1) (set bounds j next)
bytes_one_more {j = j} bounds next here before low high =
    record {
      from_low =
          below_more _ j (λ k h. rw (get_or-set_other bounds j k next no_bounds (omega arith)) (before.from_low k h))
          (rw (get_or-set_same bounds j next no_bounds here) low);
      to_high =
          below_more _ j (λ k h. rw (get_or-set_other bounds j k next no_bounds (omega arith)) (before.to_high k h))
          (rw (get_or-set_same bounds j next no_bounds here) high);
    }
