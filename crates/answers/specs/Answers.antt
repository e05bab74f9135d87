-- A call that writes answers how many elements it wrote, or its refusal, by its table: what a bench is shown of the answer, and what
-- the lent buffer then holds. Assumes nothing.
use Rattle.std.specs.Prelude.{ℕ, List, [], ◌∷◌, ◌++◌, Result, Ok, Err}
use Rattle.refusals.specs.declared.Refusal.{Refusal}
use Rattle.refusals.specs.Numbers.{numbers_of}
use Rattle.basis.specs.Refusals.{Line, first_line, answer_by, shown_by}
use Rattle.basis.specs.Buffers.{laid}

-- what is shown: number, place and need, and the elements, each 0 where there is none
abbrev pub shown_of : Result ℕ Refusal → List ℕ
shown_of (Ok elements) = 0 ∷ 0 ∷ 0 ∷ elements ∷ []
shown_of (Err refusal) = numbers_of refusal ++ 0 ∷ []

-- what is shown, from the table of the call
unfoldable pub shown_for : List Line → ℕ → List ℕ
shown_for lines elements = shown_by (elements ∷ []) (first_line lines)

-- what a buffer then holds: the list, and after it what was there before; refused, all that was there before
unfoldable pub left_by : {A : Type 0} → List Line → List A → List A → List A
left_by lines out list = answer_by (λ line. out) (laid out 0 list) (first_line lines)
