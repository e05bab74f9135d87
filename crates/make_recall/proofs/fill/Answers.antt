-- `make_recall::fill` meets its contract: the codes up to a place stand there. Assumes nothing.
use Rattle.std.proofs.Common.{ℕ, ◌≡◌, ap, ◌∙◌, map, length, arith}
use native.Mathlib.Nat.{zero-add}
use Rattle.basis.specs.Lists.{below}
use Rattle.basis.specs.Buffers.{laid}
use Rattle.basis.proofs.Buffers.{filled_nothing, filled_element}
use Rattle.make_recall.specs.Pickups.{code_at}
use Rattle.make_recall.proofs.fill.Goals as goal

pub loop-at-init : goal.loop-at-init
loop-at-init c = filled_nothing _ _

pub loop-at-preserved : goal.loop-at-preserved
loop-at-preserved c =
    let turn = c.loop-at in
    let stored = filled_element _ 0 code_at turn.at turn.invariant (omega (arith, turn.invariant.same_length)) in
    rw c.code_of.ensures (rw zero-add at stored)

pub returns : goal.returns
returns c =
    let turn = c.loop-at in
    let codes = c.args.codes.now in
    let all : turn.at ≡ length codes = omega (arith, turn.invariant.same_length) in
    turn.invariant.filled ∙ ap (λ (n : ℕ). laid codes 0 (map code_at (below n))) all
