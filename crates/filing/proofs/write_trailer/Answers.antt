-- `filing::write_trailer` meets its contract: five numbers, one behind the other. Assumes nothing.
use Prim.Native.Nat.{ℕ, ◌+◌, ◌≤◌}
use native.Mathlib.Omega.{arith}
use mathlib.Core.Path.{◌≡◌, ap, ◌∙◌}
use mathlib.Core.List.{List, ◌++◌, append_assoc}
use lib.ListN.{length, length-append}
use Rattle.limits.specs.Limits.{trailer_bytes}
use Rattle.basis.specs.Buffers.{laid}
use Rattle.basis.specs.Numbers.{little, to_little}
use Rattle.basis.proofs.Buffers.{Filled, filled_at_once, filled_more}
use Rattle.basis.proofs.Numbers.{length_to_little, to_little_little}
use Rattle.directory.specs.File.{mark_bytes, mark}
use Rattle.filing.specs.Layout.{trailer_with}
use Rattle.filing.proofs.write_trailer.Goals as goal

-- the mark's number in bytes
mark_written : to_little 4 mark ≡ mark_bytes
unfolding mark
mark_written = to_little_little mark_bytes tt

-- five lists, one behind the other
regroup : (a b c d e : List ℕ) → (((a ++ b) ++ c) ++ d) ++ e ≡ a ++ (b ++ (c ++ (d ++ e)))
regroup a b c d e = simp append_assoc

module _ (out : List ℕ) (at : ℕ) where
  -- a number right behind a list
  next : (list : List ℕ) (long bytes number : ℕ) {before after : List ℕ} → length list ≡ long → at + long + bytes ≤ length out →
      Filled out at list before → after ≡ laid before (at + long) (to_little bytes number) →
      Filled out at (list ++ to_little bytes number) after
  next list long bytes number counted room before said =
      filled_more out at list (at + long) (to_little bytes number) before (omega arith) (omega (arith, length_to_little bytes number)) said

  -- the trailer's five numbers, each written right behind the one before
  five_numbers : (rows columns directory : ℕ) {one two three four all : List ℕ} → at + trailer_bytes ≤ length out →
      one ≡ laid out at (to_little 4 rows) → two ≡ laid one (at + 4) (to_little 2 columns) → three ≡ laid two (at + 6) (to_little 2 1) →
      four ≡ laid three (at + 8) (to_little 4 directory) → all ≡ laid four (at + 12) (to_little 4 mark) →
      all ≡ laid out at (trailer_with rows columns directory)
  unfolding trailer_with
  five_numbers rows columns directory room said-1 said-2 said-3 said-4 said-5 =
      let a = to_little 4 rows in
      let b = to_little 2 columns in
      let c = to_little 2 1 in
      let d = to_little 4 directory in
      let upto-1 = filled_at_once out at a (omega (arith, length_to_little 4 rows)) said-1 in
      let upto-2 = next a 4 2 columns (length_to_little 4 rows) (omega arith) upto-1 said-2 in
      let upto-3 = next (a ++ b) 6 2 1 (simp (length-append, length_to_little)) (omega arith) upto-2 said-3 in
      let upto-4 = next ((a ++ b) ++ c) 8 4 directory (simp (length-append, length_to_little)) (omega arith) upto-3 said-4 in
      let upto-5 = next (((a ++ b) ++ c) ++ d) 12 4 mark (simp (length-append, length_to_little)) (omega arith) upto-4 said-5 in
      rw mark_written at (upto-5.filled ∙ ap (laid out at) (regroup a b c d (to_little 4 mark)))

pub returns : goal.returns
unfolding mark little
returns c =
    five_numbers _ _ _ _ _ c.requires c.write_number.ensures c.write_number-2.ensures c.write_number-3.ensures
    c.write_number-4.ensures c.write_number-5.ensures
