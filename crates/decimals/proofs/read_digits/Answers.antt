-- `decimals::read_digits` meets its contract: at each turn the digits so far are those of the number so far. Assumes nothing.
use Prim.Native.Nat.{◌+◌, ◌*◌, ◌<◌, ◌≤◌}
use native.Mathlib.Omega.{arith}
use mathlib.Core.Path.{◌≡◌, ◌∙◌}
use lib.ListN.{get_or}
use Rattle.std.specs.Prelude.{None}
use Rattle.decimals.specs.Decimals.{digit}
use Rattle.decimals.specs.Reading.{ended_by, NumberAt}
use Rattle.decimals.proofs.Decimals.{room}
use Rattle.decimals.proofs.Numbers.{first_digit, further_digit, number_ends, too_large_lem, text_ends, must_end}
use Rattle.decimals.proofs.read_digits.Goals as goal
use Rattle.decimals.proofs.read_digits.Goals.{in_default-via-then-byte-lt48, in_default-via-else-byte-lt48+else-this-lt58}
use Rattle.decimals.proofs.read_digits.Goals.{After-from-digit, At-loop-at}

bound : (c : At-loop-at) → c.args.most + 1 ≤ room
bound c = omega arith

digit_here : (c : After-from-digit) →
    (get_or c.args.text.now c.loop-at.at 0 ≡ digit c.from-digit.result) × (c.from-digit.result < 10)
digit_here c = omega arith

-- one digit more is too much
no_room : (c : After-from-digit) → c.args.most < c.loop-at.number * 10 + c.from-digit.result →
    NumberAt (c.args.most + 1) c.args.text.now c.args.from c.args.after None
no_room c large =
    let here = digit_here c in
    too_large_lem {limit = c.args.most + 1} (omega arith) c.args.text.now _ here.1 here.0 c.loop-at.invariant c.args.after (omega arith)

pub loop-at-init : goal.loop-at-init
loop-at-init c =
    first_digit (omega arith) _ _ c.requires.single c.requires.stands c.requires.some (omega arith)

pub returns-in_err-checked_mul-in-48-to-57 : goal.returns-in_err-checked_mul-in-48-to-57
returns-in_err-checked_mul-in-48-to-57 c =
    rw c.from_residual.ensures
    (no_room (goal.at.returns-in_err-checked_mul-in-48-to-57 c).After-from-digit (omega arith))

pub returns-in_err-longer-in-48-to-57 : goal.returns-in_err-longer-in-48-to-57
returns-in_err-longer-in-48-to-57 c =
    rw c.from_residual-in_err-longer-in-48-to-57.ensures
    (no_room (goal.at.returns-in_err-longer-in-48-to-57 c).After-from-digit
    (omega (arith, c.in_ok-checked_mul-in-48-to-57.ensures, c.in_err-longer-in-48-to-57.ensures)))

pub returns-then-most-longer : goal.returns-then-most-longer
returns-then-most-longer c = no_room (goal.at.returns-then-most-longer c).After-from-digit (omega arith)

-- the last digit: whatever stands behind it ends the number
pub returns-then-most-number : goal.returns-then-most-number
returns-then-most-number c =
    let place = goal.at.returns-then-most-number c in
    let here = digit_here place.After-from-digit in
    let last = further_digit (bound place.At-loop-at) c.args.text.now c.loop-at.at here.1 here.0 c.loop-at.invariant (omega arith) in
    let longer : c.in_ok-longer-in-48-to-57.longer ≡ c.loop-at.number * 10 + c.from-digit.result =
    omega (arith, c.in_ok-checked_mul-in-48-to-57.ensures, c.in_ok-longer-in-48-to-57.ensures) in
    let next : c.loop-at.at + 2 ≡ c.loop-at.at + 1 + 1 = omega arith in
    must_end (bound place.At-loop-at) last c.args.after (omega (arith, c.loop-at.invariant.some, c.if-most-number.true))
    (c.ended.ensures ∙ (λ i. ended_by c.args.after (c.byte_at.ensures i) (longer i) (next i)))

pub loop-at-preserved : goal.loop-at-preserved
loop-at-preserved c =
    let place = goal.at.loop-at-preserved c in
    let here = digit_here place.After-from-digit in
    further_digit (bound place.At-loop-at) c.args.text.now _ here.1 here.0 c.loop-at.invariant (omega (arith, c.if-most-number.false))

pub returns-in_default : goal.returns-in_default
returns-in_default c =
    number_ends (bound (goal.at.returns-in_default c).At-loop-at) c.loop-at.invariant c.args.after (omega arith)
    (λ d. elim c.in_default.branch [
      | in_default-via-then-byte-lt48 w ↦ omega arith
      | in_default-via-else-byte-lt48+else-this-lt58 w ↦ omega arith
    ]) c.ended-in_default.ensures

pub returns : goal.returns
returns c =
    text_ends (bound (goal.at.returns c).At-loop-at) c.loop-at.invariant c.args.after (omega arith)
