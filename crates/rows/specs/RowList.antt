-- Listing: 3, 16, 10, or the rows whose bit is set, rising. Assumes nothing.
use Rattle.std.specs.Prelude.{ℕ, List, [], ◌∷◌, ltb, length, Result}
use Rattle.basis.specs.Refusals.{Line, refuse, answer_of}
use Rattle.limits.specs.Limits.{most_rows}
use Rattle.refusals.specs.declared.Refusal.{Refusal}
use Rattle.refusals.specs.declared.Refusal.TheVariants.{TooManyRows, UnfitBits, OutputTooShort}
use Rattle.answers.specs.Answers as answers
use Rattle.bits.specs.Marked.{marked_below, unfit_bits}

module _ (rows : ℕ) (bits : List ℕ) (room : ℕ) where
  -- 3: too many rows; 16: unfit bits; 10: the output is too short; need: the rows whose bit is set
  unfoldable pub list_lines : List Line
  list_lines =
      refuse TooManyRows (ltb most_rows rows)
      ∷ refuse UnfitBits (unfit_bits rows bits)
      ∷ refuse (OutputTooShort (length (marked_below rows bits))) (ltb room (length (marked_below rows bits)))
      ∷ []

  -- the answer
  abbrev pub listed_of : Result ℕ Refusal
  listed_of = answer_of list_lines (length (marked_below rows bits))

  -- what is shown, from the same table
  abbrev pub shown_for : List ℕ
  shown_for = answers.shown_for list_lines (length (marked_below rows bits))

-- what the output then holds: the rows, and after them what was there before; refused, all that was there before
abbrev pub left_in : ℕ → List ℕ → List ℕ → List ℕ
left_in rows bits out = answers.left_by (list_lines rows bits (length out)) out (marked_below rows bits)
