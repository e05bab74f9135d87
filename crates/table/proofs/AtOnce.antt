-- Many codes judged at once: joined bit by bit, they make a number that is at least each of them. Assumes nothing.
--   raised_nothing, raised_one_more    joining codes to what is held, one a turn
--   covers_nothing, covers_one_more    periods of codes, one a turn
--   below_none, below_covered          where what is held is below the limits, so are all codes that it covers
--   below_fits                         a code below its column's limit is not too large
use Prim.Native.Nat.{ℕ, ◌+◌, ◌*◌, ◌/◌, ◌%◌, ◌^◌, ◌≤◌, ◌<◌}
use native.Mathlib.Omega.{arith}
use native.Mathlib.Nat.{mod-lt, div-add-mod', div-lt_iff_lt-mul, mul-add-mod_self_right}
use mathlib.Core.Path.{◌≡◌, refl, sym, ap, ◌∙◌}
use mathlib.Core.Logic.{◌⊎◌, inl, inr}
use mathlib.Core.List.{List}
use mathlib.Core.Bool.{not, false}
use borrow.Author.Tests.{lt-ltb}
use lib.Bits.{bit_or, or_add_and, and_le_l, and_le_r}
use lib.ListN.{length, get_or, set, length-set}
use lib.Seq.{get_or-set_same, get_or-set_other}
use Rattle.basis.proofs.Runs.{within_or_past}
use Rattle.codes.specs.Width.{too_large}
use Rattle.table.specs.Table.{width_of}
use Rattle.table.specs.ManyAtOnce.{Holds, Below, Covers, Raised}

-- what is joined is at least either part
left_joined : (a b : ℕ) → a ≤ bit_or a b
left_joined a b = omega (arith, or_add_and a b, and_le_r a b)

right_joined : (a b : ℕ) → b ≤ bit_or a b
right_joined a b = omega (arith, or_add_and a b, and_le_l a b)

module _ (codes : List ℕ) (at : ℕ) where
  pub raised_nothing : (joined : List ℕ) → Raised codes at 0 joined joined
  raised_nothing joined = record { same_length = refl; kept = λ place. omega arith; over = λ place h. absurd (omega arith) }

  pub raised_one_more : (n : ℕ) {before : List ℕ} (after : List ℕ) → Raised codes at n before after → n < length after →
      Raised codes at (n + 1) before (set after n (bit_or (get_or after n 0) (get_or codes (at + n) 0)))
  raised_one_more n {before} after so_far room =
      record {
        same_length = length-set after n value ∙ so_far.same_length;
        kept = λ place. omega (arith, so_far.kept place, rises place (within_or_past place n) (within_or_past n place));
        over = λ place h. reaches place h (within_or_past place n);
      }
    where
      value : ℕ
      value = bit_or (get_or after n 0) (get_or codes (at + n) 0)

      here : get_or (set after n value) n 0 ≡ value
      here = get_or-set_same after n value 0 room

      rises : (place : ℕ) → (place < n) ⊎ (n ≤ place) → (n < place) ⊎ (place ≤ n) →
          get_or after place 0 ≤ get_or (set after n value) place 0
      rises place (inl sooner) either = rw (get_or-set_other after n place value 0 (omega arith)) (omega arith)
      rises place (inr reached) (inl later) = rw (get_or-set_other after n place value 0 (omega arith)) (omega arith)
      rises place (inr reached) (inr early) =
          let own : place ≡ n = omega arith in
          rw (own, here) (left_joined (get_or after n 0) (get_or codes (at + n) 0))

      reaches : (place : ℕ) → place < n + 1 → (place < n) ⊎ (n ≤ place) → get_or codes (at + place) 0 ≤ get_or (set after n value) place 0
      reaches place h (inl sooner) = rw (get_or-set_other after n place value 0 (omega arith)) (so_far.over place sooner)
      reaches place h (inr reached) =
          let own : place ≡ n = omega arith in
          rw (own, here) (right_joined (get_or after n 0) (get_or codes (at + n) 0))

module _ (codes : List ℕ) (period : ℕ) where
  pub covers_nothing : (joined : List ℕ) → Covers codes period 0 joined
  covers_nothing joined = record { each = λ i place h k. absurd (omega arith) }

  pub covers_one_more : (i : ℕ) {before after : List ℕ} → Covers codes period i before → Raised codes (i * period) period before after →
      Covers codes period (i + 1) after
  covers_one_more i {before} {after} so_far raised = record { each = λ j place h k. go j place h k (within_or_past j i) }
    where
      go : (j place : ℕ) → j < i + 1 → place < period → (j < i) ⊎ (i ≤ j) → get_or codes (j * period + place) 0 ≤ get_or after place 0
      go j place h k (inl sooner) = omega (arith, so_far.each j place sooner k, raised.kept place)
      go j place h k (inr last) =
          let own : j ≡ i = omega arith in
          rw own (raised.over place k)

module _ (limits codes : List ℕ) (columns : ℕ) where
  pub below_none : Below limits codes columns 0
  below_none = record { each = λ i h. absurd (omega arith) }

  pub below_covered : (eights : ℕ) (joined : List ℕ) → Covers codes (8 * columns) eights joined →
      ((place : ℕ) → place < 8 * columns → get_or joined place 0 < get_or limits (place % columns) 0) → 0 < columns →
      Below limits codes columns (8 * eights)
  below_covered eights joined covers low some = record { each = λ i h. go i h }
    where
      go : (i : ℕ) → i < 8 * eights * columns → get_or codes i 0 < get_or limits (i % columns) 0
      go i h =
          let period = 8 * columns in
          let turn = i / period in
          let place = i % period in
          let whole : turn * period + place ≡ i = div-add-mod' i period in
          let room : 0 < period = omega arith in
          let inside : place < period = mod-lt i room in
          let all : 8 * eights * columns ≡ eights * period = omega arith in
          let among : turn < eights = (div-lt_iff_lt-mul room).1 (rw all at h) in
          let apart : 8 * turn * columns + place ≡ i = omega arith in
          let same : i % columns ≡ place % columns =
          ap (λ (n : ℕ). n % columns) (sym apart) ∙ mul-add-mod_self_right (8 * turn) columns place in
          rw same (omega (arith, rw whole at (covers.each turn place among inside), low place inside))

pub below_fits : (widths codes limits : List ℕ) (rows : ℕ) → Holds (λ k. 2 ^ width_of widths k) (length widths) limits →
    0 < length widths → Below limits codes (length widths) rows → (i : ℕ) → i < rows * length widths →
    too_large (width_of widths (i % length widths)) (get_or codes i 0) ≡ false
unfolding too_large
below_fits widths codes limits rows made some below i h =
    let column = i % length widths in
    let limit = made.each column (mod-lt i some) in
    ap not (lt-ltb (get_or codes i 0) (2 ^ width_of widths column) (rw limit at (below.each i h)))
