-- What each step of the reader answers, by what stands at a place of the text. Assumes nothing.
use Rattle.std.specs.Prelude.{ℕ, ◌+◌, ◌<◌, ◌≤◌, ◌≡◌, List, ◌∷◌, ◌++◌, length, get_or, drop, Option, Some, None}
use Rattle.limits.specs.Limits.{decimal_limit}
use Rattle.query.specs.declared.Comparison.{Comparison}
use Rattle.query.specs.declared.Test.{Test}
use Rattle.query.specs.Tests.{literal_of}
use Rattle.decimals.specs.declared.After.TheVariants.{LineFeed}
use Rattle.decimals.specs.Decimals.{space, line_feed, decimal}
use Rattle.decimals.specs.Reading.{NumberAt}
use Rattle.query_lines.specs.Lines.{sign_of, segment_text, test_text, SmallTest, BeginsSegment}

-- line 0: the size and the place behind, or the text begins with none
abbrev pub SegmentAt : List ℕ → Option (ℕ × ℕ) → Type 0
SegmentAt text (Some (size, next)) = (size < decimal_limit) × (next ≤ length text) × (text ≡ segment_text size ++ drop next text)
SegmentAt text None = BeginsSegment text → ⊥

-- a sign, a space, a literal and a line feed: the comparison and the place behind, or there is none
abbrev pub ComparisonAt : List ℕ → ℕ → Option (Comparison × ℕ) → Type 0
ComparisonAt text at (Some (comparison, next)) =
    (literal_of comparison < decimal_limit) × (at < next) × (next ≤ length text)
    × (drop at text ≡ sign_of comparison ++ (space ∷ (decimal (literal_of comparison) ++ (line_feed ∷ drop next text))))
ComparisonAt text at None = (comparison : Comparison) (rest : List ℕ) → literal_of comparison < decimal_limit →
    drop at text ≡ sign_of comparison ++ (space ∷ (decimal (literal_of comparison) ++ (line_feed ∷ rest))) → ⊥

-- a space, a literal and a line feed: a comparison that is made of the literal and the place behind, or there is none
abbrev pub ComparedAt : (ℕ → Comparison → Type 0) → List ℕ → ℕ → Option (Comparison × ℕ) → Type 0
ComparedAt Made text at (Some (comparison, next)) =
    (literal : ℕ) × Made literal comparison × (get_or text at 0 ≡ space)
    × NumberAt decimal_limit text (at + 1) LineFeed (Some (literal, next))
ComparedAt Made text at None = get_or text at 0 ≡ space → NumberAt decimal_limit text (at + 1) LineFeed None

-- a line of a test: the test and the place behind, or it is malformed
abbrev pub LineAt : List ℕ → ℕ → Option (Test × ℕ) → Type 0
LineAt text at (Some (test, next)) =
    SmallTest test × (at < next) × (next ≤ length text) × (drop at text ≡ test_text test ++ drop next text)
LineAt text at None = (test : Test) (rest : List ℕ) → SmallTest test → drop at text ≡ test_text test ++ rest → ⊥
