-- `bits::put_bits` meets its contract: the bytes of the rows passed stand in the result, and the matches are the rows found among
-- them. Assumes nothing.
use Rattle.std.proofs.Common.{ℕ, ◌+◌, ◌*◌, ◌/◌, ◌≤◌, ◌≡◌, refl, ap, ap₂, ◌∙◌, map, false, eqb, get_or, arith}
use Rattle.basis.specs.Buffers.{laid}
use Rattle.basis.specs.Lists.{below}
use Rattle.basis.proofs.Runs.{sum_ends}
use Rattle.basis.proofs.Lists.{sum_continues}
use Rattle.basis.proofs.Buffers.{filled_nothing, filled_element}
use Rattle.bits.specs.Bits.{bytes_for, bits_at, bits_of}
use Rattle.bits.proofs.Packed.{byte_from}
use Rattle.bits.proofs.put_bits.Goals as goal

pub loop-i-init : goal.loop-i-init
unfolding bytes_for
loop-i-init c = (c.bytes_for-i-end.ensures, filled_nothing _ _, refl, omega arith)

pub loop-i-preserved : goal.loop-i-preserved
unfolding bytes_for
loop-i-preserved c =
    let turn = c.loop-i in
    let a = c.args in
    let place : ℕ → ℕ = λ k. get_or a.found.now k 0 in
    let none_past : (k : ℕ) → a.n ≤ k → eqb (place k) 1 ≡ false = λ k h. rw (c.requires.found.rest k h) in
    let byte = c.byte_of_rows.ensures ∙ byte_from (λ k. eqb (place k) 1) a.n turn.i none_past in
    let ones = c.ones_of_rows-matches.ensures in
    let next : 8 * (turn.i + 1) ≡ 8 * turn.i + 8 = omega arith in (
      turn.invariant.0,
      rw byte (filled_element a.res.now a.at _ turn.i turn.invariant.1 (omega (arith, c.requires.room))),
      rw (next, sum_continues place (8 * turn.i) 8) (ap₂ ◌+◌ turn.invariant.2 ones.counted),
      omega (arith, ones.few),
    )

pub returns : goal.returns
unfolding bits_of bytes_for
returns c =
    let turn = c.loop-i in
    let a = c.args in
    let end : turn.i ≡ (a.n + 7) / 8 = omega arith in
    record {
      counted = turn.invariant.2 ∙ sum_ends (λ k. get_or a.found.now k 0) (omega arith) c.requires.found.rest;
      left =
          turn.invariant.1.filled
          ∙ ap (λ (many : ℕ). laid a.res.now a.at (map (bits_at (λ k. eqb (get_or a.found.now k 0) 1) a.n) (below many))) end;
    }
