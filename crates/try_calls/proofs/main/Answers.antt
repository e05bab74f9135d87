-- `try_calls::main` makes two buffers and lends them whole. Assumes nothing.
use Rattle.std.proofs.Common.{ℕ, sym}
use Rattle.std.proofs.Math.ListN.{length-replicate}
use Rattle.try_calls.proofs.main.Goals as goal

pub slice_bounds-take_requests-end : goal.slice_bounds-take_requests-end
slice_bounds-take_requests-end c = sym (length-replicate {A = ℕ} 1048577 0)

pub slice_bounds-take_requests-end-2 : goal.slice_bounds-take_requests-end-2
slice_bounds-take_requests-end-2 c = sym (length-replicate {A = ℕ} 131200 0)
