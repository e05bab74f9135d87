-- So many slots: the first elements of a list, and then empty ones. Assumes nothing.
--   filled            the slots of a list
--   filled_one_more   an element more goes into the slot behind the others
--   filled_past_last  where every slot is taken, an element more changes none
--   filled_front      where the list is no longer than the slots, it is what stands in the first of them
--   length_filled     they are so many
--   filled_at         an element of the list stands in its slot
--   filled_after      behind the list the slots are empty
use Prim.Native.Nat.{ℕ, zero, suc, ◌<◌, ◌≤◌}
use native.Mathlib.Omega.{arith}
use native.Mathlib.Nat.{le_dest}
use native.Mathlib.Numerals.{add-one}
use mathlib.Core.Path.{◌≡◌, sym, ap, ◌∙◌}
use mathlib.Core.List.{List, [], ◌∷◌, ◌++◌, append_assoc}
use lib.ListN.{length, get_or, take, set, replicate, length-append, length-take, length-replicate, get_or-replicate}
use lib.ListN.{get_or-append, replicate-append-replicate}
use lib.Seq.{get_or-take, get_or-append-add, take-append-le, take-append_seam, take-take, take-set-lt, set-append_seam}

abbrev pub filled : {A : Type 0} → A → ℕ → List A → List A
filled empty many list = take many (list ++ replicate many empty)

module _ {A : Type 0} (empty : A) where
  pub filled_one_more : (many : ℕ) (list : List A) (x : A) → length list < many →
      set (filled empty many list) (length list) x ≡ filled empty many (list ++ (x ∷ []))
  filled_one_more zero list x room = absurd (omega arith)
  filled_one_more (suc many) list x room =
      let taken = list ++ (x ∷ replicate many empty) in
      let longer : taken ++ (empty ∷ []) ≡ (list ++ (x ∷ [])) ++ replicate (suc many) empty =
      append_assoc list (x ∷ replicate many empty) (empty ∷ [])
      ∙ ap (λ (rest : List A). list ++ (x ∷ rest))
      (replicate-append-replicate many 1 empty ∙ ap (λ (n : ℕ). replicate n empty) (add-one many))
      ∙ sym (append_assoc list (x ∷ []) (replicate (suc many) empty)) in
      sym (take-set-lt (suc many) (list ++ replicate (suc many) empty) (length list) x room)
      ∙ ap (take (suc many)) (set-append_seam list empty (replicate many empty) x)
      ∙ sym (take-append-le (suc many) taken (empty ∷ []) (rw length-append (omega (arith, length-replicate many empty))))
      ∙ ap (take (suc many)) longer

  pub filled_past_last : (many : ℕ) (list : List A) (x : A) → many ≤ length list →
      filled empty many (list ++ (x ∷ [])) ≡ filled empty many list
  filled_past_last many list x full =
      ap (take many) (append_assoc list (x ∷ []) (replicate many empty))
      ∙ take-append-le many list (x ∷ replicate many empty) full
      ∙ sym (take-append-le many list (replicate many empty) full)

  pub filled_front : (many : ℕ) (list : List A) → length list ≤ many → take (length list) (filled empty many list) ≡ list
  filled_front many list fits =
      take-take (length list) many (list ++ replicate many empty) fits ∙ take-append_seam list (replicate many empty)

  pub length_filled : (many : ℕ) (list : List A) → length (filled empty many list) ≡ many
  length_filled many list = rw (length-take, length-append, length-replicate) (omega arith)

  pub filled_at : (many : ℕ) (list : List A) (k : ℕ) → k < length list → length list ≤ many →
      get_or (filled empty many list) k empty ≡ get_or list k empty
  filled_at many list k h few =
      get_or-take many (list ++ replicate many empty) k empty (omega arith) ∙ get_or-append list (replicate many empty) empty k h

  pub filled_after : (many : ℕ) (list : List A) (k : ℕ) → length list ≤ k → k < many → get_or (filled empty many list) k empty ≡ empty
  filled_after many list k past h =
      let more = le_dest past in
      get_or-take many (list ++ replicate many empty) k empty h
      ∙ ap (λ (place : ℕ). get_or (list ++ replicate many empty) place empty) (sym more.1)
      ∙ get_or-append-add list (replicate many empty) more.0 empty
      ∙ get_or-replicate many more.0 empty empty (omega (arith, more.1))
