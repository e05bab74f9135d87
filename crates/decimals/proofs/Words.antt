-- A word is a run of bytes of one kind, and it ends where a byte of no such kind stands: a text splits at its first word in
-- one way. Assumes nothing.
--   AllOf           every byte of a word is of the kind
--   joined_word     two words of a kind, joined, are one
--   byte_of_word    each byte of a word is of the kind
--   word_at_front   what begins with some bytes of the kind has a first word that begins with them
--   same_word       two spellings of a text by its first word, the byte after it and the rest are the same
use Prim.Native.Nat.{ℕ, zero, suc, ◌<◌}
use native.Mathlib.Omega.{arith}
use mathlib.Core.Path.{◌≡◌, refl, sym, ap₂, subst}
use mathlib.Core.List.{List, [], ◌∷◌, ◌++◌, head-eq_of_cons-eq, tail-eq_of_cons-eq}
use lib.ListN.{length, get_or}

abbrev pub AllOf : (ℕ → Type 0) → List ℕ → Type 0
AllOf Kind [] = Unit {0}
AllOf Kind (b ∷ word) = Kind b × AllOf Kind word

module _ (Kind : ℕ → Type 0) where
  pub joined_word : (word more : List ℕ) → AllOf Kind word → AllOf Kind more → AllOf Kind (word ++ more)
  joined_word [] more w m = m
  joined_word (b ∷ word) more w m = (w.0, joined_word word more w.1 m)

  pub byte_of_word : (word : List ℕ) → AllOf Kind word → (k : ℕ) → k < length word → Kind (get_or word k 0)
  byte_of_word [] w k within = absurd (omega arith)
  byte_of_word (b ∷ word) w zero within = w.0
  byte_of_word (b ∷ word) w (suc k) within = byte_of_word word w.1 k (omega arith)

  pub word_at_front : (begun word : List ℕ) {end : ℕ} {left rest : List ℕ} → AllOf Kind begun → (Kind end → ⊥) →
      begun ++ left ≡ word ++ (end ∷ rest) →
      (more : List ℕ) × (word ≡ begun ++ more) × (left ≡ more ++ (end ∷ rest))
  word_at_front [] word b ends e = (word, refl, e)
  word_at_front (x ∷ begun) [] b ends e = absurd (ends (subst Kind (head-eq_of_cons-eq e) b.0))
  word_at_front (x ∷ begun) (y ∷ word) b ends e =
      let front = word_at_front begun word b.1 ends (tail-eq_of_cons-eq e) in
      (front.0, ap₂ ◌∷◌ (sym (head-eq_of_cons-eq e)) front.1, front.2)

  pub same_word : (word other : List ℕ) {end ending : ℕ} {rest left : List ℕ} → AllOf Kind word → AllOf Kind other →
      (Kind end → ⊥) → (Kind ending → ⊥) → word ++ (end ∷ rest) ≡ other ++ (ending ∷ left) →
      (word ≡ other) × (end ≡ ending) × (rest ≡ left)
  same_word [] [] w o ends stops e = (refl, head-eq_of_cons-eq e, tail-eq_of_cons-eq e)
  same_word [] (y ∷ other) w o ends stops e = absurd (ends (subst Kind (sym (head-eq_of_cons-eq e)) o.0))
  same_word (x ∷ word) [] w o ends stops e = absurd (stops (subst Kind (head-eq_of_cons-eq e) w.0))
  same_word (x ∷ word) (y ∷ other) w o ends stops e =
      let after = same_word word other w.1 o.1 ends stops (tail-eq_of_cons-eq e) in
      (ap₂ ◌∷◌ (head-eq_of_cons-eq e) after.0, after.1, after.2)
