-- The table's column "ruled out when": it follows from the column "true at the end when". Assumes nothing.
--   standings                    less, equal, greater
--   ruled_out_when_hopeless      a row is ruled out exactly when the test is false of it whatever bytes follow
--   none_out_at_first            none is ruled out while it is equal so far
--   out_differs, out_is_false    so what is ruled out is not equal so far, and the test is not true of it
--   settled_stands               what is not equal so far is not changed by what follows
use Prim.Native.Nat.{Ordering}
use mathlib.Core.Path.{◌≡◌, refl}
use mathlib.Core.List.Memᴰ
use mathlib.Core.List.{List, [], ◌∷◌}
use mathlib.Core.Bool.{false, not}
use lib.Dec.{T}
use Rattle.basis.specs.Lists.{all}
use Rattle.basis.proofs.Members.{all_gives}
use Rattle.codes.specs.Order.{and_then}
use Rattle.codes.proofs.Compare.{each_ordering}
use Rattle.query.specs.declared.Comparison.{Comparison}
use Rattle.query.specs.declared.Comparison.TheVariants.{Less, AtMost, More, AtLeast, Equal, Differs}
use Rattle.schedule.specs.Comparisons.{equal, ruled_out_when, true_when}

abbrev pub standings : List Ordering
standings = Ordering.lt ∷ Ordering.eq ∷ Ordering.gt ∷ []

-- A test rules a row out exactly when it would be false of it whatever bytes follow.
pub ruled_out_when_hopeless : (c : Comparison) (s : Ordering) →
    ruled_out_when c s ≡ all (λ rest. not (true_when c (and_then s rest))) standings
ruled_out_when_hopeless (Less l) = each_ordering _ refl refl refl
ruled_out_when_hopeless (AtMost l) = each_ordering _ refl refl refl
ruled_out_when_hopeless (More l) = each_ordering _ refl refl refl
ruled_out_when_hopeless (AtLeast l) = each_ordering _ refl refl refl
ruled_out_when_hopeless (Equal l) = each_ordering _ refl refl refl
ruled_out_when_hopeless (Differs l) = each_ordering _ refl refl refl

pub none_out_at_first : (c : Comparison) → ruled_out_when c Ordering.eq ≡ false
none_out_at_first (Less l) = refl
none_out_at_first (AtMost l) = refl
none_out_at_first (More l) = refl
none_out_at_first (AtLeast l) = refl
none_out_at_first (Equal l) = refl
none_out_at_first (Differs l) = refl

pub settled_stands : (s rest : Ordering) → T (not (equal s)) → and_then s rest ≡ s
settled_stands Ordering.lt rest differs = refl
settled_stands Ordering.eq rest differs = absurd differs
settled_stands Ordering.gt rest differs = refl

pub out_differs : (c : Comparison) (s : Ordering) → T (ruled_out_when c s) → T (not (equal s))
out_differs c = each_ordering _ (λ out. tt) (λ out. rw none_out_at_first at out) (λ out. tt)

pub out_is_false : (c : Comparison) (s : Ordering) → T (ruled_out_when c s) → T (not (true_when c s))
out_is_false c s out =
    rw (settled_stands s Ordering.eq (out_differs c s out)) at
    (all_gives (λ rest. not (true_when c (and_then s rest))) {xs = standings} (Memᴰ.tail (Memᴰ.head refl))
    (rw (ruled_out_when_hopeless c s) at out))
