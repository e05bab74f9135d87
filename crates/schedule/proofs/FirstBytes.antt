-- After j slices a row stands to a comparison as its first j bytes, pads cleared, to the literal's. Assumes nothing.
--   test_bytes            a row's bytes in the column of a test
--   length_test_bytes, test_bytes_bytes    as many as the column has slices, each a byte
--   order_one_more     one byte more decides where those before are equal
--   standing_is_order  after j slices
--   standing_at_last   after all of them
use Prim.Native.Nat.{ℕ, zero, suc, ◌≤◌, ◌<◌, compare, Ordering}
use native.Mathlib.Omega.{arith}
use native.Mathlib.Nat.{suc_inj, le_refl, le_of_lt}
use mathlib.Core.Path.{◌≡◌, refl, sym, ap, ap₂, ◌∙◌}
use mathlib.Core.List.Memᴰ
use mathlib.Core.List.{List, [], ◌∷◌, ◌++◌, map}
use lib.Dec.{T, ltb, lt→ltb}
use lib.ListN.{length, get_or, take, length-map}
use lib.Seq.{take-suc, take_all, length-take-le}
use Rattle.basis.specs.Lists.{below}
use Rattle.basis.specs.Numbers.{are_bytes}
use Rattle.basis.proofs.Lists.{length_run}
use Rattle.basis.proofs.Members.{all_from}
use Rattle.basis.proofs.Runs.{in_below, mapped_at}
use Rattle.codes.specs.Width.{slices_of}
use Rattle.codes.specs.Bytes.{bytes_of, byte_of}
use Rattle.codes.specs.Pad.{cleared_byte, cleared}
use Rattle.codes.specs.Order.{and_then, order}
use Rattle.codes.proofs.Pads.{length_cleared, cleared_at}
use Rattle.codes.proofs.RoundTrip.{length_bytes_of}
use Rattle.query.specs.Tests.{literal_of}
use Rattle.schedule.specs.Schedule.{Bytes, standing}
use Rattle.schedule.specs.Comparisons.{ColumnTest, comparing}
use Rattle.schedule.proofs.Standing.{standing_next}

-- a row's bytes in the column of a test
abbrev pub test_bytes : Bytes ColumnTest → ColumnTest → ℕ → List ℕ
test_bytes R t row = map (λ j. R t j row) (below (slices_of t.width))

pub length_test_bytes : (R : Bytes ColumnTest) (t : ColumnTest) (row : ℕ) → length (test_bytes R t row) ≡ slices_of t.width
length_test_bytes R t row = length-map (below (slices_of t.width)) (λ j. R t j row) ∙ length_run 0 (slices_of t.width)

pub test_bytes_bytes : (R : Bytes ColumnTest) (t : ColumnTest) (row : ℕ) →
    ((j : ℕ) → j < slices_of t.width → R t j row < 256) → T (are_bytes (test_bytes R t row))
test_bytes_bytes R t row small =
    all_from (λ b. ltb b 256) (test_bytes R t row)
    (λ b m.
    let from = Memᴰ.of_map (λ j. R t j row) (below (slices_of t.width)) m in
    rw (← from.2) (lt→ltb (R t from.0 row) 256 (small from.0 (in_below (slices_of t.width) from.0 from.1))))

and_then_nothing : (a : Ordering) → and_then a Ordering.eq ≡ a
and_then_nothing Ordering.lt = refl
and_then_nothing Ordering.eq = refl
and_then_nothing Ordering.gt = refl

and_then_twice : (a b c : Ordering) → and_then a (and_then b c) ≡ and_then (and_then a b) c
and_then_twice Ordering.lt b c = refl
and_then_twice Ordering.eq b c = refl
and_then_twice Ordering.gt b c = refl

order_one_more : (xs ys : List ℕ) (x y : ℕ) → length xs ≡ length ys →
    order (xs ++ (x ∷ [])) (ys ++ (y ∷ [])) ≡ and_then (order xs ys) (compare x y)
unfolding order
order_one_more [] [] x y long = and_then_nothing (compare x y)
order_one_more [] (b ∷ ys) x y long = absurd (omega arith)
order_one_more (a ∷ xs) [] x y long = absurd (omega arith)
order_one_more (a ∷ xs) (b ∷ ys) x y long =
    ap (and_then (compare a b)) (order_one_more xs ys x y (suc_inj long)) ∙ and_then_twice (compare a b) (order xs ys) (compare x y)

module _ (R : Bytes ColumnTest) (t : ColumnTest) (row : ℕ) where
  -- the row's bytes with their pads cleared, and the literal's
  abbrev row_bytes : List ℕ
  row_bytes = cleared t.width (test_bytes R t row)

  abbrev literal_bytes : List ℕ
  literal_bytes = bytes_of t.width (literal_of t.comparison)

  row_long : length row_bytes ≡ slices_of t.width
  row_long = length_cleared t.width (test_bytes R t row) ∙ length_test_bytes R t row

  literal_long : length literal_bytes ≡ slices_of t.width
  literal_long = length_bytes_of t.width (literal_of t.comparison)

  row_byte : (j : ℕ) → j < slices_of t.width → get_or row_bytes j 0 ≡ cleared_byte t.width j (R t j row)
  row_byte j h =
      cleared_at t.width (test_bytes R t row) j (omega (arith, length_test_bytes R t row))
      ∙ ap (cleared_byte t.width j) (mapped_at (λ i. R t i row) (slices_of t.width) j 0 h)

  standing_is_order : (j : ℕ) → j ≤ slices_of t.width →
      standing comparing R t j row
      ≡ order (take j (cleared t.width (test_bytes R t row))) (take j (bytes_of t.width (literal_of t.comparison)))
  unfolding standing order byte_of
  standing_is_order zero h = refl
  standing_is_order (suc j) h =
      let in_row : j < length row_bytes = omega (arith, row_long) in
      let in-literal : j < length literal_bytes = omega (arith, literal_long) in
      let before : length (take j row_bytes) ≡ length (take j literal_bytes) =
      length-take-le j row_bytes (le_of_lt in_row) ∙ sym (length-take-le j literal_bytes (le_of_lt in-literal)) in
      standing_next comparing R t j row h
      ∙ ap₂ and_then (standing_is_order j (le_of_lt h)) (ap (λ (b : ℕ). compare b (get_or literal_bytes j 0)) (sym (row_byte j h)))
      ∙ sym (order_one_more (take j row_bytes) (take j literal_bytes) (get_or row_bytes j 0) (get_or literal_bytes j 0) before)
      ∙ ap₂ order (sym (take-suc row_bytes j 0 in_row)) (sym (take-suc literal_bytes j 0 in-literal))

  pub standing_at_last : standing comparing R t (slices_of t.width) row
      ≡ order (cleared t.width (test_bytes R t row)) (bytes_of t.width (literal_of t.comparison))
  standing_at_last =
      standing_is_order (slices_of t.width) (le_refl (slices_of t.width))
      ∙ ap₂ order (take_all (slices_of t.width) row_bytes (omega (arith, row_long)))
      (take_all (slices_of t.width) literal_bytes (omega (arith, literal_long)))
