-- What is known past each test of `register::open`, of a trailer as it was read. Assumes nothing.
--   known            the last bytes, as they were cut out, are the trailer
--   past_1 .. past_6    the lines of the table that have been passed over
--   first_unfit      how far the directory is fit
--   body             where all columns are fit, their slices are the body
use Prim.Native.Nat.{ℕ, ◌+◌, ◌-◌, ◌*◌, ◌≤◌}
use native.Mathlib.Omega.{arith}
use mathlib.Core.Path.{◌≡◌, sym, ap, ap₂, subst, ◌∙◌}
use mathlib.Core.List.{List}
use lib.ListN.{length, take, drop, length-drop}
use lib.Seq.{take_all}
use Rattle.limits.specs.Limits.{trailer_bytes, entry_bytes, most_rows, most_columns}
use Rattle.basis.specs.Numbers.{little}
use Rattle.basis.specs.Places.{first_place}
use Rattle.basis.proofs.Places.{first_at_most}
use Rattle.std.specs.Prelude.{Result, Ok, Err, MatchResult}
use Rattle.directory.specs.declared.FirstUnfit.{FirstUnfit}
use Rattle.directory.specs.declared.Trailer.{Trailer}
use Rattle.directory.specs.Layout.{slices_before, bytes_before}
use Rattle.directory.specs.File.{trailer_in, rows_in, columns_in, mark, width_in, unfit_column}
use Rattle.directory.specs.Trailer.{TrailerRead}
use Rattle.directory.specs.Fitting.{AllFit, FitUpTo}
use Rattle.register.specs.Opening.{first_unfit_column}
use Rattle.register.proofs.Opening as opening
use Rattle.register.proofs.Opening.{Passed}

-- the part from a place to the end is all that is there
to_the_end : (file : List ℕ) (from : ℕ) → take (length file - from) (drop from file) ≡ drop from file
to_the_end file from = take_all (length file - from) (drop from file) (rw length-drop (omega arith))

pub known : (file : List ℕ) (trailer : Trailer) →
    TrailerRead (take (length file - (length file - trailer_bytes)) (drop (length file - trailer_bytes) file)) trailer →
    TrailerRead (trailer_in file) trailer
unfolding trailer_in
known file trailer read =
    subst (λ (last : List ℕ). TrailerRead last trailer) (to_the_end file (length file - trailer_bytes)) read

-- past each test, the lines before it have been passed over
module _ (file : List ℕ) (trailer : Trailer) (read : TrailerRead (trailer_in file) trailer) (long : trailer_bytes ≤ length file) where
  pub past_1 : trailer.mark ≡ 827085634 → Passed file 1
  unfolding mark little
  past_1 marked = opening.marked file long (sym read.mark ∙ marked)

  module _ (marked : trailer.mark ≡ 827085634) (right : trailer.version ≡ 1) where
    pub past_2 : Passed file 2
    past_2 = opening.right_version _ (past_1 marked) (sym read.version ∙ right)

    module _ (few_rows : trailer.rows ≤ most_rows) where
      pub past_3 : Passed file 3
      past_3 = opening.few_rows _ past_2 (omega (arith, read.rows))

      module _ (some : trailer.columns ≡ 0 → ⊥) (few : trailer.columns ≤ most_columns) where
        pub past_4 : Passed file 4
        past_4 =
            let columns = read.columns in
            opening.few_columns _ past_3 (omega (arith, some)) (omega arith)

        module _ (last : trailer.directory + entry_bytes * trailer.columns + trailer_bytes ≡ length file) where
          pub past_5 : Passed file 5
          past_5 =
              let columns = read.columns in
              opening.directory_last _ past_4 (omega (arith, read.directory, last))

          -- how far the directory is fit: the first unfit column, or the number of columns
          pub first_unfit : (fit : Result ℕ FirstUnfit) → FitUpTo file trailer.columns fit →
              MatchResult fit (λ slices. trailer.columns ≡ first_unfit_column file) (λ unfit. unfit.column ≡ first_unfit_column file)
          first_unfit (Ok slices) said = sym said.none_unfit ∙ ap (first_place (unfit_column file)) read.columns
          first_unfit (Err unfit) said = said.first_unfit ∙ ap (first_place (unfit_column file)) read.columns

          -- past 6: all columns are fit
          module _ (slices : ℕ) (said : AllFit file trailer.columns slices) where
            pub past_6 : Passed file 6
            past_6 =
                let columns = read.columns in
                let none_unfit = said.none_unfit in
                opening.all_fit _ past_5 (rw (← columns) (omega arith))

            -- and their slices are the body
            pub body : trailer.rows * slices ≡ bytes_before (rows_in file) (width_in file) (columns_in file)
            body = ap₂ ◌*◌ read.rows (said.counted ∙ ap (slices_before (width_in file)) read.columns)
