-- What is printed of the fronts that the answers count is printed of what was taken. Assumes nothing.
use Prim.Native.Nat.{ℕ, ◌≤◌}
use mathlib.Core.Path.{◌≡◌}
use mathlib.Core.List.{List}
use mathlib.Core.Bool.{Bool}
use lib.ListN.{length, take}
use lib.Seq.{length-take-le}
use Rattle.std.specs.Prelude.{Option, Result, is_some}
use Rattle.files.specs.Taking.{count_of}
use Rattle.listing.specs.Inputs.{unread_inputs}
use Rattle.printing.specs.declared.CutShort.{CutShort}
use Rattle.printing.specs.Printing.{PrintedOf}

module _ (taken given : Option ℕ) (file text : List ℕ) (in-file : count_of taken ≤ length file) (in-text : count_of given ≤ length text) where
  pub printed_of_taken : {read has : Bool} {n m : ℕ} {printed : Result ℕ CutShort} → read ≡ is_some taken → has ≡ is_some given →
      n ≡ count_of taken → m ≡ count_of given →
      PrintedOf (unread_inputs read (length (take n file)) has (length (take m text))) (take n file) (take m text) printed →
      PrintedOf (unread_inputs (is_some taken) (count_of taken) (is_some given) (count_of given)) (take (count_of taken) file)
      (take (count_of given) text) printed
  printed_of_taken was had so_many as_many printed =
      let of-file = length-take-le (count_of taken) file in-file in
      let of-text = length-take-le (count_of given) text in-text in
      rw (was, had, so_many, as_many, of-file, of-text) at printed
