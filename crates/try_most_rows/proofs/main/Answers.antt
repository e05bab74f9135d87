-- `try_most_rows::main` makes two buffers and lends them whole. Assumes nothing.
use Rattle.std.proofs.Common.{ℕ, sym}
use Rattle.std.proofs.Math.ListN.{length-replicate}
use Rattle.try_most_rows.proofs.main.Goals as goal

pub slice_bounds-show_all-end : goal.slice_bounds-show_all-end
slice_bounds-show_all-end c = sym (length-replicate {A = ℕ} 2097176 0)

pub slice_bounds-show_all-end-2 : goal.slice_bounds-show_all-end-2
slice_bounds-show_all-end-2 c = sym (length-replicate {A = ℕ} 131073 77)
