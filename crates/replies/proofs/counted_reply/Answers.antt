-- `replies::counted_reply` meets its contract: the counts stand behind the five numbers. Assumes nothing.
use Prim.Native.Nat.{ℕ}
use native.Mathlib.Omega.{arith}
use mathlib.Core.Path.{◌≡◌, refl, ap, ◌∙◌}
use mathlib.Core.List.{List, [], ◌∷◌, ◌++◌, map}
use lib.ListN.{length, get_or}
use Rattle.limits.specs.Limits.{most_tests}
use Rattle.basis.specs.Lists.{below}
use Rattle.basis.proofs.Buffers.{filled_nothing, filled_element}
use borrow.Author.Rules.{rules}
use Rattle.replies.specs.Replies.{scan_reply}
use Rattle.replies.proofs.Behind.{behind, each_number}
use Rattle.replies.proofs.counted_reply.Goals as goal

pub loop-t-init : goal.loop-t-init
loop-t-init c = (refl, filled_nothing _ _)

pub loop-t-preserved : goal.loop-t-preserved
loop-t-preserved c =
    let turn = c.loop-t in
    let counts = c.args.scanned.counts in
    (turn.invariant.0, filled_element _ 5 (λ i. get_or counts i 0) turn.t turn.invariant.1 (omega arith))

pub returns : goal.returns
unfolding scan_reply
returns c =
    let turn = c.loop-t in
    let counts = c.args.scanned.counts in
    let long : length counts ≡ most_tests = search rules in
    let all : turn.t ≡ most_tests = omega arith in
    let filled = rw all at turn.invariant.1 in
    let scanned = c.args.scanned in
    let front : List ℕ =
    0 ∷ 0 ∷ 0 ∷ scanned.matches ∷ scanned.total ∷ [] in
    behind _ 5 (map (λ i. get_or counts i 0) (below most_tests)) filled turn.invariant.0
    ∙ ap (λ (numbers : List ℕ). front ++ numbers) (each_number counts long)
