-- A line is read by its words: where each stands the line does, and where one is missing there is none. Assumes nothing.
--   ColumnAt, LiteralAt the number at a place, by what follows it
--   word_read           a text with the bytes of "segment " begins with them
--   word_missing        a text that does not begin with "segment " has no line 0
--   segment_read        line 0 is the word and the decimal after it, or there is none
--   column_missing      no column, no line
--   sign_missing        a column and no sign, no line
--   literal_missing     a column, a sign and no literal, no line
--   comparison_missing  a column and no comparison, no line
--   line_read           a column and a comparison are a line
use Prim.Native.Nat.{ℕ, ◌<◌, ◌≤◌}
use native.Mathlib.Omega.{arith}
use mathlib.Core.Path.{◌≡◌, sym, ap, ◌∙◌}
use mathlib.Core.List.{List, ◌∷◌, ◌++◌, append_cancel_left}
use lib.ListN.{length, get_or, drop}
use Rattle.std.specs.Prelude.{Option, Some, None}
use Rattle.limits.specs.Limits.{decimal_limit}
use Rattle.query.specs.declared.Comparison.{Comparison}
use Rattle.query.specs.declared.Test.{Test}
use Rattle.query.specs.Tests.{literal_of}
use Rattle.decimals.specs.declared.After.TheVariants.{Space, LineFeed}
use Rattle.decimals.specs.Decimals.{decimal, space, line_feed}
use Rattle.query_lines.specs.Lines.{segment_word, sign_of, test_text, SmallTest, BeginsSegment}
use Rattle.decimals.specs.Reading.{NumberAt}
use Rattle.query_lines.specs.Steps.{SegmentAt, ComparisonAt, LineAt}
use Rattle.decimals.proofs.Decimals.{same_decimal}
use Rattle.query_lines.proofs.Lines.{segment_line_then, test_line_then, same_sign}
use Rattle.query_lines.proofs.Signs.{SignAt}
use Rattle.decimals.proofs.Places.{front_by_bytes}

-- the number at a place: a column, which a space follows, or a literal, which a line feed follows
abbrev pub ColumnAt : List ℕ → ℕ → Option (ℕ × ℕ) → Type 0
ColumnAt text at = NumberAt decimal_limit text at Space

abbrev pub LiteralAt : List ℕ → ℕ → Option (ℕ × ℕ) → Type 0
LiteralAt text at = NumberAt decimal_limit text at LineFeed

module _ (text : List ℕ) where
  pub word_read : ((k : ℕ) → k < 8 → get_or text k 0 ≡ get_or segment_word k 0) → (8 ≤ length text) × (text ≡ segment_word ++ drop 8 text)
  word_read each = front_by_bytes segment_word text (omega arith) each

  pub word_missing : ((rest : List ℕ) → text ≡ segment_word ++ rest → ⊥) → BeginsSegment text → ⊥
  word_missing none begins = none _ (begins.3 ∙ segment_line_then begins.0 begins.1)

  module _ (word : text ≡ segment_word ++ drop 8 text) where
    pub segment_read : (read : Option (ℕ × ℕ)) → LiteralAt text 8 read → SegmentAt text read
    segment_read (Some (size, next)) number = (
      number.0,
      number.2,
      word ∙ ap (λ (rest : List ℕ). segment_word ++ rest) number.3 ∙ sym (segment_line_then size (drop next text)),
    )
    segment_read None none =
        λ begins. none begins.0 begins.1 begins.2
        (append_cancel_left segment_word _ _ (sym word ∙ begins.3 ∙ segment_line_then begins.0 begins.1))

module _ (text : List ℕ) (at : ℕ) where
  pub column_missing : ColumnAt text at None → LineAt text at None
  column_missing none test rest small e = none test.column _ small.column (e ∙ test_line_then test rest)

  module _ {column behind : ℕ} (number : ColumnAt text at (Some (column, behind))) where
    -- a line that stands at the place goes on behind its column
    behind_column : (test : Test) (rest : List ℕ) → SmallTest test → drop at text ≡ test_text test ++ rest →
        drop behind text ≡ sign_of test.comparison ++ (space ∷ (decimal (literal_of test.comparison) ++ (line_feed ∷ rest)))
    behind_column test rest small e =
        (same_decimal column test.column (omega arith) (omega (arith, small.column)) (λ d. omega arith) (λ d. omega arith)
        (sym number.3 ∙ e ∙ test_line_then test rest)).2

    pub sign_missing : SignAt text behind None → LineAt text at None
    sign_missing none test rest small e = none test.comparison _ (behind_column test rest small e)

    pub literal_missing : (comparison : Comparison) {next : ℕ} → SignAt text behind (Some (comparison, next)) → LiteralAt text next None →
        LineAt text at None
    literal_missing comparison sign none test rest small e =
        none (literal_of test.comparison) rest small.literal
        (same_sign comparison test.comparison (sym sign.2 ∙ behind_column test rest small e)).1

    pub comparison_missing : ComparisonAt text behind None → LineAt text at None
    comparison_missing none test rest small e = none test.comparison rest small.literal (behind_column test rest small e)

    pub line_read : (comparison : Comparison) {next : ℕ} → ComparisonAt text behind (Some (comparison, next)) →
        LineAt text at (Some (record { column = column; comparison = comparison }, next))
    line_read comparison {next} there = (
      record { column = number.0; literal = there.0 },
      omega arith,
      there.2,
      number.3
          ∙ ap (λ (rest : List ℕ). decimal column ++ (space ∷ rest)) there.3
          ∙ sym (test_line_then (record { column = column; comparison = comparison }) (drop next text)),
    )
