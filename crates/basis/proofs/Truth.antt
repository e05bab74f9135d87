-- What the outcome of a test says of its parts. Assumes nothing.
--   either       a test holds or it does not
--   holds        what passes is true          passes       what is true passes
--   fails        what is refuted is false     refuted      what is false is refuted
--   neither      a failed "or" has failed on both sides, and
--   nor          what fails on both sides fails
--   both         a passed "and" has passed on both sides
--   left_holds, right_holds    an "or" holds where either side does
--   differs, agrees    the test that two numbers differ holds where they do, and fails where they are the same
--   hit, missed  what is chosen by a test that holds, and by one that does not
--   at_most_one  of 1 and 0, whichever is chosen first
use Prim.Native.Nat.{ℕ, ◌≤◌}
use native.Mathlib.Omega.{arith}
use mathlib.Core.Path.{◌≡◌, refl}
use mathlib.Core.Logic.{◌⊎◌, inl, inr}
use mathlib.Core.Bool.{Bool, true, false, not, ◌&&◌, ◌||◌, cond, true≢false}
use lib.Dec.{T, eqb}
use borrow.Author.Tests.{eq-eqb, ne_eqb}

pub either : (b : Bool) → (b ≡ true) ⊎ (b ≡ false)
either true = inl refl
either false = inr refl

pub holds : (b : Bool) → T b → b ≡ true
holds true h = refl
holds false h = absurd h

pub passes : (b : Bool) → b ≡ true → T b
passes b e = rw e tt

pub fails : (b : Bool) → T (not b) → b ≡ false
fails true h = absurd h
fails false h = refl

pub refuted : (b : Bool) → b ≡ false → T (not b)
refuted b e = rw e tt

pub neither : (a b : Bool) → (a || b) ≡ false → (a ≡ false) × (b ≡ false)
neither true b h = absurd (true≢false h)
neither false b h = (refl, h)

pub nor : (a b : Bool) → a ≡ false → b ≡ false → (a || b) ≡ false
nor a b e d = rw (e, d)

pub left_holds : (a b : Bool) → a ≡ true → (a || b) ≡ true
left_holds a b e = rw e

pub right_holds : (a b : Bool) → b ≡ true → (a || b) ≡ true
right_holds true b e = refl
right_holds false b e = e

pub differs : (m n : ℕ) → (m ≡ n → ⊥) → not (eqb m n) ≡ true
differs m n h = rw (ne_eqb m n h)

pub agrees : (m n : ℕ) → m ≡ n → not (eqb m n) ≡ false
agrees m n h = rw (eq-eqb m n h)

pub both : (a b : Bool) → T (a && b) → T a × T b
both true b h = (tt, h)
both false b h = absurd h

pub hit : {A : Type 0} (b : Bool) (x y : A) → b ≡ true → cond b x y ≡ x
hit b x y e = rw e

pub missed : {A : Type 0} (b : Bool) (x y : A) → b ≡ false → cond b x y ≡ y
missed b x y e = rw e

pub at_most_one : (b : Bool) → (cond b 1 0 ≤ 1) × (cond b 0 1 ≤ 1)
at_most_one true = (omega arith, omega arith)
at_most_one false = (omega arith, omega arith)
