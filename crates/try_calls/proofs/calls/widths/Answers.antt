-- `try_calls::calls::widths` meets its contract: behind the file there was an output or none. Assumes nothing.
use Rattle.try_calls.proofs.Requests.{gives_bits, slice_then, not_behind, output, no_output}
use Rattle.try_calls.proofs.calls.widths.Goals as goal

pub returns-in_err-elements : goal.returns-in_err-elements
returns-in_err-elements g c =
    rw c.from_residual-in_err-elements.ensures
    (not_behind (gives_bits 8) c.in_ok-file.ensures (no_output c.in_err-elements.ensures))

pub returns : goal.returns
returns g c = (_, 0, slice_then (gives_bits 8) c.in_ok-file.ensures (output c.in_ok-elements.ensures))
