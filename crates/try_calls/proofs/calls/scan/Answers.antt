-- `try_calls::calls::scan` meets its contract: what stood behind the file and the text was theirs or not. Assumes nothing.
use Rattle.try_calls.proofs.Requests.{gives_bits, slice_then, not_put, not_behind, output, no_output}
use Rattle.try_calls.proofs.calls.scan.Goals as goal

pub returns-in_err-text : goal.returns-in_err-text
returns-in_err-text g c =
    rw c.from_residual-in_err-text.ensures
    (not_behind (gives_bits 8) c.in_ok-file.ensures (not_put (gives_bits 8) c.in_err-text.ensures))

pub returns-in_err-elements : goal.returns-in_err-elements
returns-in_err-elements g c =
    rw c.from_residual-in_err-elements.ensures
    (not_behind (gives_bits 8) c.in_ok-file.ensures
    (not_behind (gives_bits 8) c.in_ok-text.ensures (no_output c.in_err-elements.ensures)))

pub returns : goal.returns
returns g c =
    (_, _, slice_then (gives_bits 8) c.in_ok-file.ensures (slice_then (gives_bits 8) c.in_ok-text.ensures (output c.in_ok-elements.ensures)))
