-- A lent buffer after a list was written into it. Assumes nothing.
use Rattle.std.specs.Prelude.{ℕ, ◌+◌, List, ◌++◌, length, take, drop}

-- the list stands from a place on, and what was before it and after it is untouched
abbrev pub laid : {A : Type 0} → List A → ℕ → List A → List A
laid buffer at list = take at buffer ++ (list ++ drop (at + length list) buffer)
