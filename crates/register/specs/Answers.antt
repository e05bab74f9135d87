-- What a bench is shown of the answer to opening. Assumes nothing.
use Rattle.std.specs.Prelude.{ℕ, List, [], ◌∷◌, ◌++◌, Result, Ok, Err}
use Rattle.refusals.specs.declared.Refusal.{Refusal}
use Rattle.refusals.specs.Numbers.{numbers_of}
use Rattle.register.specs.declared.Shape.{Shape}

-- number, place and need, then rows and columns, each 0 where there is none
abbrev pub shown_of : Result Shape Refusal → List ℕ
shown_of (Ok shape) = 0 ∷ 0 ∷ 0 ∷ shape.rows ∷ shape.columns ∷ []
shown_of (Err refusal) = numbers_of refusal ++ 0 ∷ 0 ∷ []
