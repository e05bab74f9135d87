-- `try_calls::calls::open` meets its contract: it was a file and no more. Assumes nothing.
use Rattle.std.proofs.Common.{◌≡◌, [], rules}
use Rattle.try_calls.proofs.Requests.{gives_bits, slice_then, no_more}
use Rattle.try_calls.proofs.calls.open.Goals as goal

pub returns : goal.returns
returns g c =
    let nothing : c.in_ok-file.rest.now ≡ [] = no_more _ (search rules) in
    (_, 0, slice_then (gives_bits 8) c.in_ok-file.ensures nothing)
