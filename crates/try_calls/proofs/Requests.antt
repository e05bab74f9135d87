-- What reading a slice says of the numbers that a call takes. Assumes nothing.
--   Gives                  a conversion makes elements of so many bits, and of every number that has no more
--   same, same_rest        numbers begin with one slice alone, and one rest stands behind it
--   slice_then             a slice was put, and what stands behind it is so
--   not_put                none was
--   not_behind             one was, and what stands behind it is not so
--   any_slice_then, not_any_slice, not_behind_any     the like of a slice that is only looked at
--   number_then, not_behind_number                    and of a number
--   output, no_output      and of an output
--   gives_bits             the conversion to an unsigned type is such a one
--   no_more                an empty rest is none
use Rattle.std.proofs.Common.{◌≡◌, ℕ, ◌^◌, ◌<◌, List, [], ◌∷◌, length, get_or, subst, refl, arith}
use Rattle.std.specs.Prelude.{Result, Ok, Err, OkIff, pos}
use Rattle.std.specs.Int.{FitsUnsignedBits}
use Rattle.std.specs.declared.num.TryFromIntError.{TryFromIntError}
use lib.Seq.{take-append_seam, drop-append_seam}
use Rattle.try_reading.specs.Requests.{IsSlice, NoSlice, SlicePut, NoSlicePut, no_slice, too_many, unmade, IsRoom, NoRoom}
use Rattle.try_calls.specs.Requests.{SliceThen, AnySliceThen, NumberThen, Output}

pub record Gives {E : Type 0} (bits : ℕ) (gives : ℕ → Result ℕ E → Type 0) : Type 0 where
  pub fits : (x r : ℕ) → gives x (Ok r) → x < 2 ^ bits
  pub none : (x : ℕ) (e : E) → gives x (Err e) → x < 2 ^ bits → ⊥

module _ (numbers a behind_a b behind_b : List ℕ) (is_a : IsSlice numbers a behind_a) (is_b : IsSlice numbers b behind_b) where
  pub same : a ≡ b
  same = cc (take-append_seam a behind_a, take-append_seam b behind_b)

  pub same_rest : behind_a ≡ behind_b
  same_rest = cc (drop-append_seam a behind_a, drop-append_seam b behind_b)

module _ {E : Type 0} {bits : ℕ} {gives : ℕ → Result ℕ E → Type 0} (is : Gives bits gives) {Then : List ℕ → Type 0} {numbers : List ℕ} where
  pub slice_then : {front rest : List ℕ} (put : SlicePut gives numbers front rest) → Then rest → SliceThen bits (length put.elements) Then numbers
  slice_then {rest = rest} put behind =
      record {
        elements = put.elements;
        rest = rest;
        slice = put.slice;
        fit = λ k inside. is.fits _ _ (put.made.made k 0 inside);
        at_most = omega arith;
        behind = behind;
      }

  pub not_put : {most : ℕ} → NoSlicePut gives numbers most → SliceThen bits most Then numbers → ⊥
  not_put (no_slice none) s = none s.elements s.rest s.slice
  not_put {most} (too_many elements rest slice more) s =
      let one : elements ≡ s.elements = same numbers elements rest s.elements s.rest slice s.slice in
      let long : most < length s.elements = rw (← one) more in
      omega (arith, long, s.at_most)
  not_put (unmade elements rest slice bad) s =
      let one : s.elements ≡ elements = same numbers s.elements s.rest elements rest s.slice slice in
      let inside : bad.at < length s.elements = rw one bad.within in
      let fit : get_or elements bad.at 0 < 2 ^ bits = rw (← one) (s.fit bad.at inside) in
      is.none _ _ bad.none fit

  pub not_behind : {front rest : List ℕ} {most : ℕ} → SlicePut gives numbers front rest → (Then rest → ⊥) → SliceThen bits most Then numbers → ⊥
  not_behind {rest = rest} put not s = not (subst Then (same_rest numbers s.elements s.rest put.elements rest s.slice put.slice) s.behind)

module _ {Then : List ℕ → Type 0} {numbers : List ℕ} where
  pub any_slice_then : (elements rest : List ℕ) → IsSlice numbers elements rest → Then rest → AnySliceThen Then numbers
  any_slice_then elements rest slice behind = record { elements = elements; rest = rest; slice = slice; behind = behind }

  pub not_any_slice : NoSlice numbers → AnySliceThen Then numbers → ⊥
  not_any_slice none s = none s.elements s.rest s.slice

  pub not_behind_any : (elements rest : List ℕ) → IsSlice numbers elements rest → (Then rest → ⊥) → AnySliceThen Then numbers → ⊥
  not_behind_any elements rest slice not s = not (subst Then (same_rest numbers s.elements s.rest elements rest s.slice slice) s.behind)

  pub number_then : {number : ℕ} {rest : List ℕ} → numbers ≡ number ∷ rest → Then rest → NumberThen Then numbers
  number_then {number} {rest} begins behind = record { number = number; rest = rest; begins = begins; behind = behind }

  pub not_behind_number : {number : ℕ} {rest : List ℕ} → numbers ≡ number ∷ rest → (Then rest → ⊥) → NumberThen Then numbers → ⊥
  not_behind_number {number} {rest} begins not s = let one : s.rest ≡ rest = cc (begins, s.begins) in not (subst Then one s.behind)

module _ {most : ℕ} {numbers : List ℕ} where
  pub output : {elements lent : ℕ} → IsRoom most numbers elements lent → Output most numbers
  output {elements} {lent} room = record { elements = elements; lent = lent; room = room }

  pub no_output : NoRoom most numbers → Output most numbers → ⊥
  no_output none o = none o.elements o.lent o.room

-- the conversion that `try_from` makes to an unsigned type of so many bits
abbrev pub to_bits : (bits : ℕ) → ℕ → Result ℕ TryFromIntError → Type 0
to_bits bits x r = OkIff r (FitsUnsignedBits bits (pos x)) x

pub gives_bits : (bits : ℕ) → Gives bits (to_bits bits)
gives_bits bits = record { fits = λ x r h. h.0; none = λ x e h. h }

pub no_more : (rest : List ℕ) → length rest ≡ 0 → rest ≡ []
no_more [] none = refl
no_more (n ∷ rest) none = absurd (omega arith)
