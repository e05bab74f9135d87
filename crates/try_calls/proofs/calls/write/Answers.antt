-- `try_calls::calls::write` meets its contract: what stood behind the rows, the widths and the codes was theirs or not. Assumes nothing.
use Rattle.try_calls.proofs.Requests.{gives_bits, slice_then, not_behind, any_slice_then, not_any_slice, not_behind_any, number_then, not_behind_number, output, no_output}
use Rattle.try_calls.proofs.calls.write.Goals as goal

pub returns-in_err-codes : goal.returns-in_err-codes
returns-in_err-codes g c =
    rw c.from_residual-in_err-codes.ensures
    (not_behind_number c.in_ok-rows.ensures.cases.0
    (not_behind (gives_bits 8) c.in_ok-widths.ensures (not_any_slice c.in_err-codes.ensures)))

pub returns-in_err-elements : goal.returns-in_err-elements
returns-in_err-elements g c =
    rw c.from_residual-in_err-elements.ensures
    (not_behind_number c.in_ok-rows.ensures.cases.0
    (not_behind (gives_bits 8) c.in_ok-widths.ensures
    (not_behind_any _ _ c.in_ok-codes.ensures (no_output c.in_err-elements.ensures))))

pub returns : goal.returns
returns g c = (
  0,
  _,
  number_then c.in_ok-rows.ensures.cases.0 (slice_then (gives_bits 8) c.in_ok-widths.ensures
      (any_slice_then _ _ c.in_ok-codes.ensures (output c.in_ok-elements.ensures))),
)
