-- A standing that is kept as a byte, in the words of the table. Assumes nothing.
--   kept_rules_out       a kept standing rules a row out when the table says so
--   kept_fails           of what is not ruled out, what does not fail at the end is what the test is true of
--   kept_equal           a kept standing is 0 when it is equal so far
--   kept_stepped         a kept standing after one more byte
use Prim.Native.Nat.{ℕ, Ordering}
use mathlib.Core.Path.{◌≡◌, refl}
use mathlib.Core.Bool.{not}
use lib.Dec.{T, eqb}
use Rattle.codes.specs.Order.{and_then, against}
use Rattle.codes.proofs.Compare.{each_ordering}
use Rattle.query.specs.declared.Comparison.{Comparison}
use Rattle.query.specs.declared.Comparison.TheVariants.{Less, AtMost, More, AtLeast, Equal, Differs}
use Rattle.schedule.specs.Comparisons.{equal, ruled_out_when, true_when}
use Rattle.standings.specs.Standings.{kept, stepped_row, rules_out_kept, fails_kept}

-- ruled out when
pub kept_rules_out : (c : Comparison) (s : Ordering) → rules_out_kept c (kept s) ≡ ruled_out_when c s
kept_rules_out (Less l) = each_ordering _ refl refl refl
kept_rules_out (AtMost l) = each_ordering _ refl refl refl
kept_rules_out (More l) = each_ordering _ refl refl refl
kept_rules_out (AtLeast l) = each_ordering _ refl refl refl
kept_rules_out (Equal l) = each_ordering _ refl refl refl
kept_rules_out (Differs l) = each_ordering _ refl refl refl

-- true at the end when
pub kept_fails : (c : Comparison) (s : Ordering) → T (not (ruled_out_when c s)) → true_when c s ≡ not (fails_kept c (kept s))
kept_fails (Less l) = each_ordering _ (λ still. refl) (λ still. refl) (λ still. absurd still)
kept_fails (AtMost l) = each_ordering _ (λ still. refl) (λ still. refl) (λ still. absurd still)
kept_fails (More l) = each_ordering _ (λ still. absurd still) (λ still. refl) (λ still. refl)
kept_fails (AtLeast l) = each_ordering _ (λ still. absurd still) (λ still. refl) (λ still. refl)
kept_fails (Equal l) = each_ordering _ (λ still. absurd still) (λ still. refl) (λ still. absurd still)
kept_fails (Differs l) = each_ordering _ (λ still. refl) (λ still. refl) (λ still. refl)

-- equal so far
pub kept_equal : (s : Ordering) → eqb (kept s) 0 ≡ equal s
kept_equal = each_ordering _ refl refl refl

-- one more byte
pub kept_stepped : (s : Ordering) (low high b : ℕ) → stepped_row (kept s) low high b ≡ kept (and_then s (against low high b))
kept_stepped s low high b =
    each_ordering (λ s. stepped_row (kept s) low high b ≡ kept (and_then s (against low high b))) refl refl refl s
