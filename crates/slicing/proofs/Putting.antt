-- A body put into a buffer by runs of right bytes, in any order: where a byte is right, another right byte does no harm.
-- Assumes nothing.
--   put_nothing    at first no slice is put
--   put_no_rows    and no row
--   put_slices     some slices, and then those that follow, in the same rows
--   put_rows       some rows, and then those that follow, in the same slices
--   put_run        a run of right bytes puts its rows in its slice
--   put_all        all rows in all slices: the body stands in front, and what was behind it is untouched
use Prim.Native.Nat.{ℕ, ◌+◌, ◌-◌, ◌*◌, ◌/◌, ◌%◌, ◌≤◌, ◌<◌}
use native.Mathlib.Omega.{arith}
use native.Mathlib.Nat.{mod-lt, div-add-mod', mul_comm, mul-le-mul_right, div-lt_iff_lt-mul}
use mathlib.Core.Path.{◌≡◌, refl, sym, ap, ◌∙◌}
use mathlib.Core.Logic.{◌⊎◌, inl, inr}
use mathlib.Core.List.{List, ◌++◌}
use lib.ListN.{length, get_or, take, drop, get_or-append}
use lib.Seq.{get_or-take, get_or-drop, get_or-append-add, length-take-le, ext_get_or}
use Rattle.basis.specs.Buffers.{laid}
use Rattle.basis.proofs.Buffers.{length_laid}
use Rattle.basis.proofs.Runs.{within_or_past}
use Rattle.slicing.specs.Putting.{BodyPut}

-- what stands at a place of a buffer with a list laid into it
module _ (buffer : List ℕ) (at : ℕ) (list : List ℕ) (room : at + length list ≤ length buffer) where
  laid_before : (place : ℕ) → place < at → get_or (laid buffer at list) place 0 ≡ get_or buffer place 0
  laid_before place h =
      let long = length-take-le at buffer (omega arith) in
      get_or-append (take at buffer) _ 0 place (omega arith) ∙ get_or-take at buffer place 0 h

  laid_inside : (k : ℕ) → k < length list → get_or (laid buffer at list) (at + k) 0 ≡ get_or list k 0
  laid_inside k h =
      let long : length (take at buffer) ≡ at = length-take-le at buffer (omega arith) in
      let rest = list ++ drop (at + length list) buffer in
      ap (λ (n : ℕ). get_or (take at buffer ++ rest) (n + k) 0) (sym long)
      ∙ get_or-append-add (take at buffer) rest k 0
      ∙ get_or-append list _ 0 k h

  laid_behind : (k : ℕ) → get_or (laid buffer at list) (at + (length list + k)) 0 ≡ get_or buffer (at + length list + k) 0
  laid_behind k =
      let long : length (take at buffer) ≡ at = length-take-le at buffer (omega arith) in
      let rest = list ++ drop (at + length list) buffer in
      ap (λ (n : ℕ). get_or (take at buffer ++ rest) (n + (length list + k)) 0) (sym long)
      ∙ get_or-append-add (take at buffer) rest (length list + k) 0
      ∙ get_or-append-add list (drop (at + length list) buffer) k 0
      ∙ get_or-drop (at + length list) buffer k 0

  laid_past : (place : ℕ) → at + length list ≤ place → get_or (laid buffer at list) place 0 ≡ get_or buffer place 0
  laid_past place h =
      let k = place - (at + length list) in
      let one : at + (length list + k) ≡ place = omega arith in
      let other : at + length list + k ≡ place = omega arith in
      rw (one, other) at (laid_behind k)

module _ (rows : ℕ) (body : List ℕ) where
  pub put_nothing : (out : List ℕ) (first past slice : ℕ) → BodyPut rows body out out first past slice slice
  put_nothing out first past slice =
      record { same_length = refl; kept = λ place h. h; put = λ s row h k. absurd (omega arith); behind = λ place h. refl }

  pub put_no_rows : (out : List ℕ) (first from to : ℕ) → BodyPut rows body out out first first from to
  put_no_rows out first from to =
      record { same_length = refl; kept = λ place h. h; put = λ s row h k l m. absurd (omega arith); behind = λ place h. refl }

  module _ {before mid after : List ℕ} {first past from to : ℕ} where
    pub put_slices : {via : ℕ} → BodyPut rows body before mid first past from via → BodyPut rows body mid after first past via to →
        BodyPut rows body before after first past from to
    put_slices {via} one two =
        record {
          same_length = two.same_length ∙ one.same_length;
          kept = λ place h. two.kept place (one.kept place h);
          put = λ slice row low high within early. go slice row low high within early (within_or_past slice via);
          behind = λ place h. two.behind place h ∙ one.behind place h;
        }
      where
        go : (slice row : ℕ) → from ≤ slice → slice < to → first ≤ row → row < past → (slice < via) ⊎ (via ≤ slice) →
            get_or after (rows * slice + row) 0 ≡ get_or body (rows * slice + row) 0
        go slice row low high within early (inl sooner) =
            two.kept (rows * slice + row) (one.put slice row low sooner within early)
        go slice row low high within early (inr later) = two.put slice row later high within early

    pub put_rows : {via : ℕ} → BodyPut rows body before mid first via from to → BodyPut rows body mid after via past from to →
        BodyPut rows body before after first past from to
    put_rows {via} one two =
        record {
          same_length = two.same_length ∙ one.same_length;
          kept = λ place h. two.kept place (one.kept place h);
          put = λ slice row low high within early. go slice row low high within early (within_or_past row via);
          behind = λ place h. two.behind place h ∙ one.behind place h;
        }
      where
        go : (slice row : ℕ) → from ≤ slice → slice < to → first ≤ row → row < past → (row < via) ⊎ (via ≤ row) →
            get_or after (rows * slice + row) 0 ≡ get_or body (rows * slice + row) 0
        go slice row low high within early (inl sooner) =
            two.kept (rows * slice + row) (one.put slice row low high within sooner)
        go slice row low high within early (inr later) = two.put slice row low high later early

  pub put_run : (before : List ℕ) {after : List ℕ} (first slice : ℕ) (run : List ℕ) →
      ((k : ℕ) → k < length run → get_or run k 0 ≡ get_or body (rows * slice + (first + k)) 0) →
      rows * slice + first + length run ≤ length body → length body ≤ length before →
      after ≡ laid before (rows * slice + first) run →
      BodyPut rows body before after first (first + length run) slice (slice + 1)
  put_run before first slice run right within room said = rw said whole
    where
      at : ℕ
      at = rows * slice + first

      fits : at + length run ≤ length before
      fits = omega arith

      here : (k : ℕ) → k < length run → get_or (laid before at run) (at + k) 0 ≡ get_or body (at + k) 0
      here k h =
          let place : rows * slice + (first + k) ≡ at + k = omega arith in
          laid_inside before at run fits k h ∙ rw place at (right k h)

      kept_there : (place : ℕ) → get_or before place 0 ≡ get_or body place 0 → (place < at) ⊎ (at ≤ place) →
          (place < at + length run) ⊎ (at + length run ≤ place) → get_or (laid before at run) place 0 ≡ get_or body place 0
      kept_there place h (inl sooner) either = laid_before before at run fits place sooner ∙ h
      kept_there place h (inr reached) (inl inside) =
          let k = place - at in
          let own : at + k ≡ place = omega arith in
          rw own at (here k (omega arith))
      kept_there place h (inr reached) (inr later) = laid_past before at run fits place later ∙ h

      whole : BodyPut rows body before (laid before at run) first (first + length run) slice (slice + 1)
      whole =
          record {
            same_length = length_laid before at run fits;
            kept = λ place h. kept_there place h (within_or_past place at) (within_or_past place (at + length run));
            put = λ s row low high reached early. put_there s row low high reached early;
            behind = λ place h. laid_past before at run fits place (omega arith);
          }
        where
          put_there : (s row : ℕ) → slice ≤ s → s < slice + 1 → first ≤ row → row < first + length run →
              get_or (laid before at run) (rows * s + row) 0 ≡ get_or body (rows * s + row) 0
          put_there s row low high reached early =
              let only : s ≡ slice = omega arith in
              let k = row - first in
              let own : at + k ≡ rows * slice + row = omega arith in
              rw only (rw own at (here k (omega arith)))

  pub put_all : (before : List ℕ) {after : List ℕ} (slices : ℕ) → length body ≡ rows * slices → length body ≤ length before →
      BodyPut rows body before after 0 rows 0 slices → after ≡ laid before 0 body
  put_all before {after} slices long room all =
      ext_get_or 0 after (laid before 0 body) (all.same_length ∙ sym (length_laid before 0 body (omega arith)))
      (λ place h. go place (within_or_past place (length body)))
    where
      some_rows : (place : ℕ) → place < rows * slices → (0 < rows) ⊎ (rows ≤ 0) → 0 < rows
      some_rows place h (inl some) = some
      some_rows place h (inr none) = absurd (omega (arith, mul-le-mul_right slices none))

      right : (place : ℕ) → place < rows * slices → 0 < rows → get_or after place 0 ≡ get_or body place 0
      right place h some =
          let own : rows * (place / rows) + place % rows ≡ place = rw (mul_comm rows) (div-add-mod' place rows) in
          rw own at (all.put (place / rows) (place % rows) (omega arith)
          ((div-lt_iff_lt-mul some).1 (rw mul_comm h)) (omega arith) (mod-lt place some))

      go : (place : ℕ) → (place < length body) ⊎ (length body ≤ place) → get_or after place 0 ≡ get_or (laid before 0 body) place 0
      go place (inl inside) =
          let own : 0 + place ≡ place = omega arith in
          right place (omega arith) (some_rows place (omega arith) (within_or_past 0 rows))
          ∙ sym (rw own at (laid_inside before 0 body (omega arith) place inside))
      go place (inr past) = all.behind place past ∙ sym (laid_past before 0 body (omega arith) place (omega arith))
