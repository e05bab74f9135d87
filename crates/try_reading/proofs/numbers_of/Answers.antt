-- `try_reading::numbers_of` meets its contract: the numbers are those in the output and those that the rest of the text holds.
-- Assumes nothing.
use Rattle.std.proofs.Common.{◌≡◌, ◌+◌, ◌-◌, ◌*◌, ◌^◌, ◌≤◌, sym, ◌∙◌, arith, get_or}
use Rattle.std.specs.Prelude.{unwrap_or}
use Rattle.try_reading.proofs.Requests.{digit_more, none_more, number_more, too_large, no_room, no_number, last_number}
use Rattle.try_reading.proofs.numbers_of.Goals as goal
use Rattle.try_reading.proofs.numbers_of.Goals.{then-is_ascii_digit+in_ok-more, else-is_ascii_digit+in-Some+in_ok-count}
use Rattle.try_reading.proofs.numbers_of.Goals.{else-is_ascii_digit+in_default}

pub returns-in_err-more : goal.returns-in_err-more
returns-in_err-more c =
    let digit = sym c.is_ascii_digit.ensures.value ∙ c.if-is_ascii_digit.true in
    let above : 2 ^ 64 ≤ unwrap_or c.loop-byte.begun 0 * 10 + (get_or c.args.text.now c.loop-byte.byte-index 0 - 48) =
    omega (arith, c.in_err-more.ensures, c.unwrap_or.ensures) in
    rw c.from_residual.ensures (too_large c.loop-byte.invariant (omega arith) digit above)

pub returns-in_err-count : goal.returns-in_err-count
returns-in_err-count c =
    let other = sym c.is_ascii_digit.ensures.value ∙ c.if-is_ascii_digit.false in
    rw c.from_residual-in_err-count.ensures
    (no_room c.loop-byte.invariant c.in-Some.is (omega arith) other c.in_err-count.ensures)

pub loop-byte-preserved : goal.loop-byte-preserved
loop-byte-preserved c =
    let kept = c.loop-byte.invariant in
    elim c.if-is_ascii_digit.branch [
      | then-is_ascii_digit+in_ok-more w ↦
          let digit = sym c.is_ascii_digit.ensures.value ∙ w.if-is_ascii_digit.true in
          let more : w.in_ok-more.more ≡ unwrap_or c.loop-byte.begun 0 * 10 + (get_or c.args.text.now c.loop-byte.byte-index 0 - 48) =
          omega (arith, w.in_ok-more.ensures, w.unwrap_or.ensures) in
          rw (w.out-is, w.count-is, w.begun-is) (digit_more kept (omega arith) digit more)
      | else-is_ascii_digit+in-Some+in_ok-count w ↦
          let other = sym c.is_ascii_digit.ensures.value ∙ w.if-is_ascii_digit.false in
          rw (w.out-is, w.count-is, w.begun-is) (number_more kept w.in-Some.is (omega arith) other w.in_ok-count.ensures)
      | else-is_ascii_digit+in_default w ↦
          let other = sym c.is_ascii_digit.ensures.value ∙ w.if-is_ascii_digit.false in
          rw (w.out-is, w.count-is, w.begun-is, w.in_default.is) (none_more kept (omega arith) other w.in_default.is)
    ]

pub returns-in-Some-begun : goal.returns-in-Some-begun
returns-in-Some-begun c =
    let put = c.push-in-Some-begun in
    last_number c.loop-byte.invariant c.in-Some-begun.is put.new.out put.result (omega arith) put.ensures

pub returns-in-None : goal.returns-in-None
returns-in-None c = no_number c.loop-byte.invariant (omega arith) c.in-None.is
