-- A list that stands in a longer one from a place on. Assumes nothing.
--   PartAt            the longer list, cut in front of the part and behind it
--   part_itself       a list is a part of itself
--   part_in_front     what is put behind the longer list changes nothing
--   part_first        a list is a part of itself with others behind it
--   part_behind       what is put in front of it moves the place
--   part_of_part      a part of a part, its places added
--   part_cut          cutting the part out
--   element_of_part   an element of the part, in the longer list
--   number_of_part    a number written there is the number read there
use Prim.Native.Nat.{ℕ, ◌+◌, ◌^◌, ◌<◌}
use mathlib.Core.Path.{◌≡◌, refl, sym, ◌∙◌}
use mathlib.Core.List.{List, [], ◌++◌, append-nil, append_assoc}
use lib.ListN.{length, get_or, take, drop, length-append, get_or-append}
use lib.Seq.{take_at, drop_at, get_or-append-add}
use Rattle.basis.specs.Numbers.{to_little, number_at}
use Rattle.basis.proofs.Numbers.{length_to_little, little_to_little}

pub record PartAt {A : Type 0} (whole : List A) (at : ℕ) (part : List A) : Type 0 where
  pub front : List A
  pub behind : List A
  pub cut : whole ≡ front ++ (part ++ behind)
  pub before : length front ≡ at

module _ {A : Type 0} where
  pub part_itself : (part : List A) → PartAt part 0 part
  part_itself part = record { front = []; behind = []; cut = sym (append-nil part); before = refl }

  pub part_in_front : {whole part : List A} {at : ℕ} (rest : List A) → PartAt whole at part → PartAt (whole ++ rest) at part
  part_in_front rest p =
      record { front = p.front; behind = p.behind ++ rest; cut = rw p.cut (simp append_assoc); before = p.before }

  pub part_first : (part rest : List A) → PartAt (part ++ rest) 0 part
  part_first part rest = part_in_front rest (part_itself part)

  pub part_behind : {whole part : List A} {at : ℕ} (front : List A) (long : ℕ) → length front ≡ long → PartAt whole at part →
      PartAt (front ++ whole) (long + at) part
  part_behind front long is p =
      record {
        front = front ++ p.front;
        behind = p.behind;
        cut = rw p.cut (simp append_assoc);
        before = rw (length-append, is, p.before);
      }

  pub part_of_part : {whole part smaller : List A} {at inner : ℕ} → PartAt whole at part → PartAt part inner smaller →
      PartAt whole (at + inner) smaller
  part_of_part {at} p q = rw p.cut (part_behind p.front at p.before (part_in_front p.behind q))

  pub part_cut : {whole part : List A} {at : ℕ} (long : ℕ) → length part ≡ long → PartAt whole at part →
      take long (drop at whole) ≡ part
  part_cut {part} {at} long is p =
      rw (p.cut, drop_at p.front (part ++ p.behind) at p.before) (take_at part p.behind long is)

  pub element_of_part : {whole part : List A} {at : ℕ} (i : ℕ) (none : A) → i < length part → PartAt whole at part →
      get_or whole (at + i) none ≡ get_or part i none
  element_of_part {part} i none inside p =
      rw (p.cut, ← p.before)
      (get_or-append-add p.front (part ++ p.behind) i none ∙ get_or-append part p.behind none i inside)

pub number_of_part : {whole : List ℕ} {at : ℕ} (n number : ℕ) → number < 256 ^ n → PartAt whole at (to_little n number) →
    number_at whole at n ≡ number
unfolding number_at
number_of_part n number fits p = rw (part_cut n (length_to_little n number) p) (little_to_little n number fits)
