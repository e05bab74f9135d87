-- `try_calls::calls::lookup` meets its contract: what stood behind the file, the column and the rows was theirs or not. Assumes nothing.
use Rattle.try_calls.proofs.Requests.{gives_bits, slice_then, not_put, not_behind, number_then, not_behind_number, output, no_output}
use Rattle.try_calls.proofs.calls.lookup.Goals as goal

pub returns-in_err-rows : goal.returns-in_err-rows
returns-in_err-rows g c =
    rw c.from_residual-in_err-rows.ensures
    (not_behind (gives_bits 8) c.in_ok-file.ensures
    (not_behind_number c.in_ok-column.ensures.cases.0 (not_put (gives_bits 32) c.in_err-rows.ensures)))

pub returns-in_err-elements : goal.returns-in_err-elements
returns-in_err-elements g c =
    rw c.from_residual-in_err-elements.ensures
    (not_behind (gives_bits 8) c.in_ok-file.ensures
    (not_behind_number c.in_ok-column.ensures.cases.0
    (not_behind (gives_bits 32) c.in_ok-rows.ensures (no_output c.in_err-elements.ensures))))

pub returns : goal.returns
returns g c = (
  _,
  _,
  slice_then (gives_bits 8) c.in_ok-file.ensures (number_then c.in_ok-column.ensures.cases.0
      (slice_then (gives_bits 32) c.in_ok-rows.ensures (output c.in_ok-elements.ensures))),
)
