-- `try_calls::calls::list` meets its contract: what stood behind the rows and the bits was theirs or not. Assumes nothing.
use Rattle.try_calls.proofs.Requests.{gives_bits, slice_then, not_put, not_behind, number_then, not_behind_number, output, no_output}
use Rattle.try_calls.proofs.calls.list.Goals as goal

pub returns-in_err-bits : goal.returns-in_err-bits
returns-in_err-bits g c =
    rw c.from_residual-in_err-bits.ensures
    (not_behind_number c.in_ok-rows.ensures.cases.0 (not_put (gives_bits 8) c.in_err-bits.ensures))

pub returns-in_err-room : goal.returns-in_err-room
returns-in_err-room g c =
    rw c.from_residual-in_err-room.ensures
    (not_behind_number c.in_ok-rows.ensures.cases.0
    (not_behind (gives_bits 8) c.in_ok-bits.ensures (no_output c.in_err-room.ensures)))

pub returns-then-room-le-MOST_ELEMENTS : goal.returns-then-room-le-MOST_ELEMENTS
returns-then-room-le-MOST_ELEMENTS g c =
    (_, 0, number_then c.in_ok-rows.ensures.cases.0 (slice_then (gives_bits 8) c.in_ok-bits.ensures (output c.in_ok-room.ensures)))

pub returns-else-room-le-MOST_ELEMENTS : goal.returns-else-room-le-MOST_ELEMENTS
returns-else-room-le-MOST_ELEMENTS g c =
    (_, 0, number_then c.in_ok-rows.ensures.cases.0 (slice_then (gives_bits 8) c.in_ok-bits.ensures (output c.in_ok-room.ensures)))
