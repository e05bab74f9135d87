-- The table's column "true at the end when", read of a code and the literal: a comparison is true of a code's standing exactly
-- when the code meets it. Assumes nothing.
--   true_when_met     line by line
use Prim.Native.Nat.{ℕ, compare, Ordering}
use native.Mathlib.Omega.{arith}
use mathlib.Core.Path.{◌≡◌, refl, sym, ap, ◌∙◌}
use mathlib.Core.Bool.{not, ◌||◌}
use lib.Dec.{ltb, leb, eqb}
use borrow.Author.Tests.{lt-ltb, le-ltb, le-leb, lt-leb, eq-eqb, ne_eqb}
use Rattle.codes.proofs.Compare.{less_of, same_of, more_of}
use Rattle.query.specs.declared.Comparison.{Comparison}
use Rattle.query.specs.declared.Comparison.TheVariants.{Less, AtMost, More, AtLeast, Equal, Differs}
use Rattle.query.specs.Tests.{literal_of, meets}
use Rattle.schedule.specs.Comparisons.{less, equal, greater, true_when}

-- what a standing says of a code and a literal that compare so
record Told (o : Ordering) (code literal : ℕ) : Type 0 where
  is_less : ltb code literal ≡ less o
  is_greater : ltb literal code ≡ greater o
  is_equal : eqb code literal ≡ equal o
  at_most : leb code literal ≡ (less o || equal o)
  at_least : leb literal code ≡ (greater o || equal o)

told : (o : Ordering) (code literal : ℕ) → compare code literal ≡ o → Told o code literal
told Ordering.lt code literal e =
    let h = less_of code literal e in
    record {
      is_less = lt-ltb code literal h;
      is_greater = le-ltb literal code (omega arith);
      is_equal = ne_eqb code literal (omega arith);
      at_most = le-leb code literal (omega arith);
      at_least = lt-leb literal code h;
    }
told Ordering.eq code literal e =
    let h = same_of code literal e in
    record {
      is_less = le-ltb code literal (omega arith);
      is_greater = le-ltb literal code (omega arith);
      is_equal = eq-eqb code literal h;
      at_most = le-leb code literal (omega arith);
      at_least = le-leb literal code (omega arith);
    }
told Ordering.gt code literal e =
    let h = more_of code literal e in
    record {
      is_less = le-ltb code literal (omega arith);
      is_greater = lt-ltb literal code h;
      is_equal = ne_eqb code literal (omega arith);
      at_most = lt-leb code literal h;
      at_least = le-leb literal code (omega arith);
    }

differs : (s : Ordering) → (less s || greater s) ≡ not (equal s)
differs Ordering.lt = refl
differs Ordering.eq = refl
differs Ordering.gt = refl

pub true_when_met : (c : Comparison) (code : ℕ) → true_when c (compare code (literal_of c)) ≡ meets c code
true_when_met (Less literal) code = sym (told (compare code literal) code literal refl).is_less
true_when_met (AtMost literal) code = sym (told (compare code literal) code literal refl).at_most
true_when_met (More literal) code = sym (told (compare code literal) code literal refl).is_greater
true_when_met (AtLeast literal) code = sym (told (compare code literal) code literal refl).at_least
true_when_met (Equal literal) code = sym (told (compare code literal) code literal refl).is_equal
true_when_met (Differs literal) code =
    differs (compare code literal) ∙ ap not (sym (told (compare code literal) code literal refl).is_equal)
