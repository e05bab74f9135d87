-- Which tests pass because others do. Assumes nothing.
--   passed_or_failed             a test passes or its opposite does
--   both_pass                    two tests that pass, as one
--   left_passes, right_passes    one of two that passes is enough for "or"
--   one_passes                   and one of two has passed where "or" has
--   fails_before                 what would make a failed test pass has failed
--   same_outcome                 tests that pass together are the same
use mathlib.Core.Path.{◌≡◌, refl}
use mathlib.Core.Logic.{◌⊎◌, inl, inr}
use mathlib.Core.Bool.{Bool, true, false, not, ◌&&◌, ◌||◌}
use lib.Dec.{T}

pub passed_or_failed : (b : Bool) → T b ⊎ T (not b)
passed_or_failed true = inl tt
passed_or_failed false = inr tt

pub both_pass : (a b : Bool) → T a → T b → T (a && b)
both_pass true b first second = second
both_pass false b first second = absurd first

pub left_passes : (a b : Bool) → T a → T (a || b)
left_passes true b first = tt
left_passes false b first = absurd first

pub right_passes : (a b : Bool) → T b → T (a || b)
right_passes true b second = tt
right_passes false b second = second

pub one_passes : (a b : Bool) → T (a || b) → T a ⊎ T b
one_passes true b some = inl tt
one_passes false b some = inr some

pub fails_before : (a b : Bool) → (T a → T b) → T (not b) → T (not a)
fails_before true true makes failed = failed
fails_before true false makes failed = absurd (makes tt)
fails_before false b makes failed = tt

pub same_outcome : (a b : Bool) → (T a → T b) → (T b → T a) → a ≡ b
same_outcome true true there back = refl
same_outcome true false there back = absurd (there tt)
same_outcome false true there back = absurd (back tt)
same_outcome false false there back = refl
