-- `bits::ones_of_rows` meets its contract: the sum of eight places of 0 or 1. Assumes nothing.
use Rattle.std.proofs.Common.{ℕ, ◌+◌, ◌-◌, ◌≡◌, ◌≤◌, ◌∙◌, List, ap, rules, length, take, drop, get_or, arith, sum_by}
use Rattle.std.proofs.iter.runs.Made.{chains}
use Rattle.std.proofs.lemmas.Iterator.Adapters.{fits_from_length, at_most_from_yields_List}
use Rattle.std.proofs.lemmas.Iterator.{YieldsList-from_slice}
use lib.ListN.{length-take, length-drop}
use lib.Seq.{get_or-drop}
use Rattle.basis.specs.Lists.{sum, below}
use Rattle.basis.proofs.Runs.{taken_by_number}
use Rattle.bits.proofs.ones_of_rows.Goals as goal

-- the sum of eight elements from a place on
eight_at : (list : List ℕ) (at : ℕ) → at + 8 ≤ length list →
    sum_by (λ x. x) (take 8 (drop at list)) ≡ sum (λ k. get_or list (at + k) 0) (below 8)
eight_at list at inside =
    ap (sum_by (λ x. x)) (taken_by_number (drop at list) 8 0 (omega (arith, length-drop at list)))
    ∙ simp get_or-drop (omega arith)

pub sum-requires-clause-fits : goal.sum-requires-clause-fits
sum-requires-clause-fits c =
    let a = c.args in
    let eight = take (a.at + 8 - a.at) (drop a.at a.found.now) in
    let few : length eight ≤ 8 = simp (length-take, length-drop) (omega arith) in
    fits_from_length _ _ 8 _ (at_most_from_yields_List (YieldsList-from_slice eight cc) few) c.map.ensures.closure (omega arith)
    (λ x r q k. search rules)

pub returns : goal.returns
returns c =
    let a = c.args in
    let total : c.sum.result ≡ sum_by (λ (x : ℕ). x) (take 8 (drop a.at a.found.now)) = search (rules, chains) in
    let counted = total ∙ eight_at a.found.now a.at (omega (arith, c.requires.found.all, c.requires.inside)) in
    record { counted = counted; few = omega (arith, counted, c.requires.found.each) }
