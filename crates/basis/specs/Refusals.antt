-- A call's refusals as a table in the order in which they are tried: the first line whose condition holds answers.
-- Assumes nothing.
use Rattle.std.specs.Prelude.{ℕ, List, [], ◌∷◌, ◌++◌, map, Bool, cond, Result, Ok, Err}
use Rattle.std.proofs.Math.Option.{Option, none, some}
use Rattle.refusals.specs.declared.Refusal.{Refusal}
use Rattle.refusals.specs.Numbers.{numbers_of}

-- a line of the table: whether its condition holds, and the refusal then
pub record Line : Type 0 where
  pub holds : Bool
  pub refusal : Refusal

-- a line, its refusal first
abbrev pub refuse : Refusal → Bool → Line
refuse refusal holds = record { holds = holds; refusal = refusal }

-- the first line whose condition holds
abbrev pub first_line : List Line → Option Line
first_line [] = none
first_line (line ∷ lines) = cond line.holds (some line) (first_line lines)

-- what follows from the first line, or from there being none
abbrev pub answer_by : {A : Type 0} → (Line → A) → A → Option Line → A
answer_by refused accepted none = accepted
answer_by refused accepted (some line) = refused line

-- the answer to a call: what it was asked for, or the refusal of the first line
unfoldable pub answer_of : {A : Type 0} → List Line → A → Result A Refusal
answer_of lines value = answer_by (λ line. Err line.refusal) (Ok value) (first_line lines)

-- what is shown of it, in numbers: 0 thrice and the values, or the refusal's number, place and need, and 0 for each value
abbrev pub shown_by : List ℕ → Option Line → List ℕ
shown_by values none = 0 ∷ 0 ∷ 0 ∷ values
shown_by values (some line) = numbers_of line.refusal ++ map (λ value. 0) values
