-- From a table of refusals to the answer, what is shown of it and what the buffer holds. Assumes nothing.
--   Replied        an answer and a buffer that are the table's
--   refused_by     a line answers: its refusal, and the buffer as it was
--   accepted_by    none does: the elements, and the list at the front of the buffer
--   answer_refused, answer_accepted    the answer alone, of any value
--   no_line             a value is told by no line, and is the call's
--   some_line           a refusal is told by a line, and is that line's
--   told_is_accepted, refusal_told    so it is of the first line that holds
use Prim.Native.Nat.{ℕ}
use native.Mathlib.Omega.{arith}
use mathlib.Core.Path.{◌≡◌, refl}
use mathlib.Core.List.{List}
use mathlib.Core.Option.{Option, none, some}
use Rattle.std.specs.Prelude.{Result, Ok, Err}
use Rattle.refusals.specs.declared.Refusal.{Refusal}
use Rattle.basis.specs.Refusals.{Line, first_line, answer_by, answer_of}
use Rattle.basis.specs.Buffers.{laid}
use Rattle.answers.specs.Answers.{shown_of, shown_for, left_by}

module _ {A : Type 0} (lines : List Line) (elements : ℕ) (list out : List A) where
  -- what a call promises of its answer and of the buffer
  abbrev pub Replied : Result ℕ Refusal → List A → Type 0
  Replied reply after = record {
    answer : reply ≡ answer_of lines elements;
    shown : shown_of reply ≡ shown_for lines elements;
    left : after ≡ left_by lines out list;
  }

  pub refused_by : {line : Line} → first_line lines ≡ some line → Replied (Err line.refusal) out
  unfolding answer_of shown_for left_by
  refused_by first = rw first (record { answer = refl; shown = refl; left = refl })

  pub accepted_by : first_line lines ≡ none → {told : ℕ} {after : List A} → told ≡ elements → after ≡ laid out 0 list →
      Replied (Ok told) after
  unfolding answer_of shown_for left_by
  accepted_by first same written = rw (same, written, first) (record { answer = refl; shown = refl; left = refl })

-- the answer alone
module _ {A : Type 0} (lines : List Line) (value : A) where
  pub answer_refused : {line : Line} → first_line lines ≡ some line → answer_of lines value ≡ Err line.refusal
  unfolding answer_of
  answer_refused first = rw first refl

  pub answer_accepted : first_line lines ≡ none → answer_of lines value ≡ Ok value
  unfolding answer_of
  answer_accepted first = rw first refl

-- a refusal is no value
pub no_line : {A : Type 0} (first : Option Line) (value told : A) →
    answer_by (λ line. Err line.refusal) (Ok value) first ≡ Ok told → (first ≡ none) × (told ≡ value)
no_line none value told e = (refl, cc)
no_line (some line) value told e = let z : ◌≡◌ {A = ℕ} 0 1 = cc in absurd (omega arith)

pub told_is_accepted : {A : Type 0} (lines : List Line) (value told : A) → answer_of lines value ≡ Ok told →
    (first_line lines ≡ none) × (told ≡ value)
unfolding answer_of
told_is_accepted lines value told e = no_line (first_line lines) value told e

-- and a value is no refusal
pub some_line : {A : Type 0} (first : Option Line) (value : A) (refusal : Refusal) →
    answer_by (λ line. Err line.refusal) (Ok value) first ≡ Err refusal →
    (line : Line) × (first ≡ some line) × (line.refusal ≡ refusal)
some_line none value refusal e = let z : ◌≡◌ {A = ℕ} 0 1 = cc in absurd (omega arith)
some_line (some line) value refusal e = (line, refl, cc)

pub refusal_told : {A : Type 0} (lines : List Line) (value : A) (refusal : Refusal) → answer_of lines value ≡ Err refusal →
    (line : Line) × (first_line lines ≡ some line) × (line.refusal ≡ refusal)
unfolding answer_of
refusal_told lines value refusal e = some_line (first_line lines) value refusal e
