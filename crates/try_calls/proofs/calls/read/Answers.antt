-- `try_calls::calls::read` meets its contract: it was a text and no more. Assumes nothing.
use Rattle.std.proofs.Common.{◌≡◌, [], rules}
use Rattle.try_calls.proofs.Requests.{gives_bits, slice_then, no_more}
use Rattle.try_calls.proofs.calls.read.Goals as goal

pub returns : goal.returns
returns g c =
    let nothing : c.in_ok-text.rest.now ≡ [] = no_more _ (search rules) in
    (0, _, slice_then (gives_bits 8) c.in_ok-text.ensures nothing)
