-- `replies::asked_reply` meets its contract: the slots stand behind the five numbers. Assumes nothing.
use Prim.Native.Nat.{ℕ}
use native.Mathlib.Omega.{arith}
use mathlib.Core.Path.{◌≡◌, refl, ap, ◌∙◌}
use mathlib.Core.List.{List, [], ◌∷◌, ◌++◌, map, flatten}
use lib.ListN.{length, get_or}
use borrow.Author.Rules.{rules}
use Rattle.limits.specs.Limits.{most_tests}
use Rattle.basis.specs.Lists.{below}
use Rattle.basis.proofs.Buffers.{filled_nothing}
use Rattle.query.specs.Tests.{empty_slot}
use Rattle.replies.specs.Replies.{read_reply}
use Rattle.replies.proofs.Behind.{behind, slot_at, each_slot, slot_more}
use Rattle.replies.proofs.asked_reply.Goals as goal

pub loop-t-init : goal.loop-t-init
unfolding flatten
loop-t-init c = (refl, filled_nothing _ _)

pub loop-t-preserved : goal.loop-t-preserved
loop-t-preserved c =
    let turn = c.loop-t in
    let tests = c.args.asked.query.tests in
    let slot : slot_at tests turn.t ≡ (get_or tests turn.t empty_slot).column ∷ c.kind_of.result ∷ c.literal_of.result ∷ [] =
    rw (c.kind_of.ensures, c.literal_of.ensures) in
    (turn.invariant.0, slot_more tests turn.t _ _ _ _ slot turn.invariant.1 (omega arith))

pub returns : goal.returns
unfolding read_reply flatten
returns c =
    let asked = c.args.asked in
    let turn = c.loop-t in
    let tests = asked.query.tests in
    let long : length tests ≡ most_tests = search rules in
    let all : turn.t ≡ most_tests = omega arith in
    let filled = rw all at turn.invariant.1 in
    let front : List ℕ = 0 ∷ 0 ∷ 0 ∷ asked.size ∷ asked.query.count ∷ [] in
    behind _ 5 (flatten (map (slot_at tests) (below most_tests))) filled turn.invariant.0
    ∙ ap (λ (numbers : List ℕ). front ++ numbers) (each_slot tests long)
