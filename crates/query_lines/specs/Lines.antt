-- The text of a query: a line with the segment size, then a line for each test. One space between words, a line feed after
-- each line. Assumes nothing.
use Rattle.std.specs.Prelude.{ℕ, ◌<◌, ◌≡◌}
use mathlib.Core.List.{List, [], ◌∷◌, ◌++◌, map, flatten}
use Rattle.limits.specs.Limits.{decimal_limit}
use Rattle.query.specs.declared.Comparison.{Comparison}
use Rattle.query.specs.declared.Comparison.TheVariants.{Less, AtMost, More, AtLeast, Equal, Differs}
use Rattle.query.specs.declared.Test.{Test}
use Rattle.query.specs.Tests.{literal_of}
use Rattle.decimals.specs.Decimals.{space, line_feed, decimal}

-- the word "segment" and the space after it
abbrev pub segment_word : List ℕ
segment_word = 115 ∷ 101 ∷ 103 ∷ 109 ∷ 101 ∷ 110 ∷ 116 ∷ space ∷ []

-- the sign of a comparison: < <= > >= = !=
abbrev pub sign_of : Comparison → List ℕ
sign_of (Less _) = 60 ∷ []
sign_of (AtMost _) = 60 ∷ 61 ∷ []
sign_of (More _) = 62 ∷ []
sign_of (AtLeast _) = 62 ∷ 61 ∷ []
sign_of (Equal _) = 61 ∷ []
sign_of (Differs _) = 33 ∷ 61 ∷ []

-- line 0
unfoldable pub segment_text : ℕ → List ℕ
segment_text size = segment_word ++ (decimal size ++ (line_feed ∷ []))

-- the line of a test: its column, its comparison's sign, its literal
unfoldable pub test_text : Test → List ℕ
test_text test =
    decimal test.column
    ++ (space ∷ (sign_of test.comparison ++ (space ∷ (decimal (literal_of test.comparison) ++ (line_feed ∷ [])))))

-- all lines
unfoldable pub text_of : ℕ → List Test → List ℕ
text_of size tests = segment_text size ++ flatten (map test_text tests)

-- every decimal of a test is below the limit
pub record SmallTest (test : Test) : Type 0 where
  pub column : test.column < decimal_limit
  pub literal : literal_of test.comparison < decimal_limit

-- a text begins with a well formed line 0, or with a well formed line of a test
abbrev pub BeginsSegment : List ℕ → Type 0
BeginsSegment text = (size : ℕ) × (rest : List ℕ) × (size < decimal_limit) × (text ≡ segment_text size ++ rest)

abbrev pub BeginsTest : List ℕ → Type 0
BeginsTest text = (test : Test) × (rest : List ℕ) × SmallTest test × (text ≡ test_text test ++ rest)
