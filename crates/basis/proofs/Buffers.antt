-- Writing lists into a lent buffer, one after the other. Assumes nothing.
--   length_laid        the buffer keeps its length
--   laid_nothing       an empty list leaves the buffer as it was
--   laid_then          a list, and right after it another, is both as one
--   laid_front         at the front: the list, and then what was behind it
--   laid_store         storing one element right after a list is that list with the element
--   laid_each          storing what is made of a list's next element goes on with what is made of those before
--   Filled             a buffer as a list written into it has left it, its length with it
--   filled_nothing     at first, with the empty list
--   filled_at_once     after a call that writes it
--   filled_store       after one more store
--   filled_more        after a call that writes one more list
--   filled_element     a list of something made of each number below n, after one more store
--   filled_list        lists made of each number below n, after one more call
use Prim.Native.Nat.{ℕ, ◌+◌, ◌≤◌, ◌<◌}
use native.Mathlib.Omega.{arith}
use native.Mathlib.Nat.{add-zero, zero-add}
use native.Mathlib.Numerals.{add-one}
use mathlib.Core.Path.{◌≡◌, refl, sym, ap, ◌∙◌}
use mathlib.Core.List.{List, [], ◌∷◌, ◌++◌, map, map-append, append_assoc, flatten}
use lib.ListN.{length, get_or, take, drop, set, length-append, length-take, length-drop, length-map, length-set, take-append-drop}
use lib.Seq.{take_at, take-suc, drop_at, drop-drop, set_split, length-take-le}
use Rattle.basis.specs.Lists.{below}
use Rattle.basis.specs.Buffers.{laid}
use Rattle.basis.proofs.Lists.{length_run, map_one_more, joined_one_more}

module _ {A : Type 0} (buffer : List A) (at : ℕ) where
  -- the front of the buffer with the list behind it
  length_head : (list : List A) → at + length list ≤ length buffer → length (take at buffer ++ list) ≡ at + length list
  length_head list room = rw (length-append, length-take) (omega arith)

  pub length_laid : (list : List A) → at + length list ≤ length buffer → length (laid buffer at list) ≡ length buffer
  length_laid list room = simp (length-append, length-take, length-drop) (omega arith)

  pub laid_nothing : laid buffer at [] ≡ buffer
  laid_nothing = rw (add-zero at) (take-append-drop at buffer)

  laid_then : (list more : List A) → at + length list ≤ length buffer →
      laid (laid buffer at list) (at + length list) more ≡ laid buffer at (list ++ more)
  laid_then list more room =
      let head = take at buffer ++ list in
      let end = at + length list in
      let long = length_head list room in
      let whole : laid buffer at list ≡ head ++ drop end buffer = sym (append_assoc (take at buffer) list (drop end buffer)) in
      let front : take end (laid buffer at list) ≡ head = rw whole (take_at head (drop end buffer) end long) in
      let behind : drop end (laid buffer at list) ≡ drop end buffer = rw whole (drop_at head (drop end buffer) end long) in
      let further : drop (end + length more) (laid buffer at list) ≡ drop (end + length more) buffer =
      sym (drop-drop (length more) end (laid buffer at list)) ∙ ap (drop (length more)) behind ∙ drop-drop (length more) end buffer in
      let last : at + length (list ++ more) ≡ end + length more = rw length-append (omega arith) in
      rw (front, further, last, append_assoc list more, append_assoc (take at buffer) list)

  pub laid_front : (list : List A) → laid buffer 0 list ≡ list ++ drop (length list) buffer
  laid_front list = rw zero-add

-- one element
laid_one : {A : Type 0} (buffer : List A) (at : ℕ) (x : A) → at < length buffer → set buffer at x ≡ laid buffer at (x ∷ [])
laid_one buffer at x room = rw add-one (set_split buffer at x room)

pub laid_store : {A : Type 0} (buffer : List A) (at : ℕ) (list : List A) (x : A) → at + length list < length buffer →
    set (laid buffer at list) (at + length list) x ≡ laid buffer at (list ++ (x ∷ []))
laid_store buffer at list x room =
    let fits : at + length list ≤ length buffer = omega arith in
    let long = length_laid buffer at list fits in
    laid_one (laid buffer at list) (at + length list) x (omega arith) ∙ laid_then buffer at list (x ∷ []) fits

pub laid_each : {A B : Type 0} (f : A → B) (buffer : List B) (list : List A) (i : ℕ) (none : A) → i < length list →
    length list ≤ length buffer → set (laid buffer 0 (map f (take i list))) i (f (get_or list i none)) ≡
    laid buffer 0 (map f (take (i + 1) list))
laid_each f buffer list i none inside room =
    let so_far = map f (take i list) in
    let long : length so_far ≡ i = length-map (take i list) f ∙ length-take-le i list (omega arith) in
    let end : 0 + length so_far ≡ i = omega arith in
    let longer : take (i + 1) list ≡ take i list ++ (get_or list i none ∷ []) = rw add-one (take-suc list i none inside) in
    let next : map f (take (i + 1) list) ≡ so_far ++ (f (get_or list i none) ∷ []) =
    ap (map f) longer ∙ map-append f (take i list) (get_or list i none ∷ []) in
    ap (λ (at : ℕ). set (laid buffer 0 so_far) at (f (get_or list i none))) (sym end)
    ∙ laid_store buffer 0 so_far (f (get_or list i none)) (omega arith)
    ∙ ap (laid buffer 0) (sym next)

-- what a loop or a row of calls knows of the buffer that it fills
pub record Filled {A : Type 0} (buffer : List A) (at : ℕ) (list out : List A) : Type 0 where
  pub filled : out ≡ laid buffer at list
  pub same_length : length out ≡ length buffer

module _ {A : Type 0} (buffer : List A) (at : ℕ) where
  pub filled_nothing : Filled buffer at [] buffer
  filled_nothing = record { filled = sym (laid_nothing buffer at); same_length = refl }

  pub filled_at_once : (list : List A) {after : List A} → at + length list ≤ length buffer → after ≡ laid buffer at list →
      Filled buffer at list after
  filled_at_once list room said = record { filled = said; same_length = ap length said ∙ length_laid buffer at list room }

  pub filled_store : (list : List A) {out : List A} (place : ℕ) (x : A) → Filled buffer at list out →
      place ≡ at + length list → place < length buffer → Filled buffer at (list ++ (x ∷ [])) (set out place x)
  filled_store list {out} place x before right room =
      record {
        filled = rw (before.filled, right) (laid_store buffer at list x (omega arith));
        same_length = length-set out place x ∙ before.same_length;
      }

  pub filled_more : (list : List A) {out after : List A} (place : ℕ) (more : List A) → Filled buffer at list out →
      place ≡ at + length list → place + length more ≤ length buffer → after ≡ laid out place more →
      Filled buffer at (list ++ more) after
  filled_more list {out} place more before right room said =
      let fits : place + length more ≤ length out = omega (arith, before.same_length) in
      let behind = laid_then buffer at list more (omega arith) in
      record {
        filled = said ∙ rw (before.filled, right) behind;
        same_length = ap length said ∙ length_laid out place more fits ∙ before.same_length;
      }

  pub filled_element : (f : ℕ → A) (n : ℕ) {out : List A} → Filled buffer at (map f (below n)) out → at + n < length buffer →
      Filled buffer at (map f (below (n + 1))) (set out (at + n) (f n))
  filled_element f n before room =
      let long = length-map (below n) f ∙ length_run 0 n in
      rw (add-one n, map_one_more f n) (filled_store (map f (below n)) (at + n) (f n) before (omega arith) room)

  pub filled_list : (f : ℕ → List A) (n : ℕ) {out after : List A} (place : ℕ) → Filled buffer at (flatten (map f (below n))) out →
      place ≡ at + length (flatten (map f (below n))) → place + length (f n) ≤ length buffer → after ≡ laid out place (f n) →
      Filled buffer at (flatten (map f (below (n + 1)))) after
  filled_list f n place before right room said =
      rw (add-one n, joined_one_more f n)
      (filled_more (flatten (map f (below n))) place (f n) before right room said)
