-- What reading a text answers, by the text of a query. Assumes nothing.
use Rattle.std.specs.Prelude.{ℕ, ◌+◌, ◌<◌, ◌≤◌, length, Result, Ok, Err}
use mathlib.Core.List.{List, [], ◌++◌, Memᴰ}
use Rattle.refusals.specs.declared.Refusal.{Refusal}
use Rattle.refusals.specs.declared.Refusal.TheVariants.{TooManyTests, MalformedText}
use Rattle.query.specs.declared.Test.{Test}
use Rattle.limits.specs.Limits.{most_tests, decimal_limit}
use Rattle.query.specs.Tests.{empty_slot, slots_of}
use Rattle.text.specs.declared.Asked.{Asked}
use Rattle.query_lines.specs.Lines.{text_of, SmallTest, BeginsSegment, BeginsTest}

-- what is asked: the size and the tests
abbrev pub accepted : ℕ → List Test → Asked
accepted size tests = record {
  size = size;
  query = record { count = length tests; tests = slots_of empty_slot tests };
}

-- the fields of a reply; refused, size 0, count 0 and only empty slots
abbrev pub asked_in : Result Asked Refusal → Asked
asked_in (Ok asked) = asked
asked_in (Err refusal) = record { size = 0; query = record { count = 0; tests = slots_of empty_slot [] } }

-- lines that are well formed
pub record Formed (size : ℕ) (tests : List Test) : Type 0 where
  pub size_small : size < decimal_limit
  pub each_small : (test : Test) → Memᴰ test tests → SmallTest test

-- the reply to a text
pub data Reads : List ℕ → Result Asked Refusal → Type 0 where
  -- the text of a size and at most 16 tests: these
  read : (size : ℕ) (tests : List Test) → Formed size tests → length tests ≤ most_tests →
      Reads (text_of size tests) (Ok (accepted size tests))
  -- the text of a size and more than 16 tests: 11
  too_many : (size : ℕ) (tests : List Test) → Formed size tests → most_tests < length tests →
      Reads (text_of size tests) (Err TooManyTests)
  -- line 0 is malformed, or there is none: 17 at 0
  no_segment : (text : List ℕ) → (BeginsSegment text → ⊥) → Reads text (Err (MalformedText 0))
  -- well formed lines, and then one that is not: 17 at it
  no_test : (size : ℕ) (tests : List Test) (rest : List ℕ) → Formed size tests → 0 < length rest → (BeginsTest rest → ⊥) →
      Reads (text_of size tests ++ rest) (Err (MalformedText (1 + length tests)))
