-- The tests of a query by the numbers of their slots. Assumes nothing.
--   query_by_number       the tests of a query, slot after slot
--   slot_is_asked         the test in a slot before the count is one of them
--   asked_has_slot        and each of them stands in such a slot
--   any_by_number         some test of the query passes, as some slot
--   all_by_number         every test of the query passes, as every slot
use Prim.Native.Nat.{ℕ, ◌≤◌, ◌<◌}
use mathlib.Core.Path.{◌≡◌, ap, ◌∙◌}
use mathlib.Core.List.Memᴰ
use mathlib.Core.List.{List, map, map-map}
use mathlib.Core.Bool.{Bool}
use lib.ListN.{length}
use Rattle.basis.specs.Lists.{any, all, below}
use Rattle.basis.proofs.Members.{◌∈◌, any_mapped, all_mapped}
use Rattle.basis.proofs.Runs.{in_below, below_holds, taken_by_number}
use Rattle.query.specs.declared.Query.{Query}
use Rattle.query.specs.Tests.{empty_slot, test_at}
use Rattle.schedule.specs.Comparisons.{ColumnTest}
use Rattle.asking.specs.AtFile.{widened, tests_in}

module _ (file : List ℕ) (query : Query) (there : query.count ≤ length query.tests) where
  -- slot after slot
  query_by_number : tests_in file query ≡ map (λ t. widened file (test_at query.tests t)) (below query.count)
  query_by_number =
      ap (map (widened file)) (taken_by_number query.tests query.count empty_slot there)
      ∙ map-map (widened file) (test_at query.tests) (below query.count)

  -- a slot before the count
  pub slot_is_asked : (t : ℕ) → t < query.count → widened file (test_at query.tests t) ∈ tests_in file query
  slot_is_asked t h = rw query_by_number (Memᴰ.map (λ u. widened file (test_at query.tests u)) (below_holds query.count t h))

  -- each test's slot
  pub asked_has_slot : (test : ColumnTest) → test ∈ tests_in file query →
      (t : ℕ) × (t < query.count) × (widened file (test_at query.tests t) ≡ test)
  asked_has_slot test m =
      let slot = Memᴰ.of_map (λ t. widened file (test_at query.tests t)) (below query.count) (rw query_by_number at m) in
      (slot.0, in_below query.count slot.0 slot.1, slot.2)

  -- some of them
  pub any_by_number : (passes : ColumnTest → Bool) →
      any passes (tests_in file query) ≡ any (λ t. passes (widened file (test_at query.tests t))) (below query.count)
  any_by_number passes = ap (any passes) query_by_number ∙ any_mapped passes (λ t. widened file (test_at query.tests t)) (below query.count)

  -- all of them
  pub all_by_number : (passes : ColumnTest → Bool) →
      all passes (tests_in file query) ≡ all (λ t. passes (widened file (test_at query.tests t))) (below query.count)
  all_by_number passes = ap (all passes) query_by_number ∙ all_mapped passes (λ t. widened file (test_at query.tests t)) (below query.count)
