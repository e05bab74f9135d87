-- The bytes from a place of a text on. Past the end of a text its bytes are 0. Assumes nothing.
--   byte_within      a byte that is not 0 stands within the text
--   byte_then        from a place on, its byte and then the rest
--   byte_stands      a byte that is not 0: both
--   byte_further     the bytes from a place on, by their distance
--   front_by_bytes   a text that has the bytes of a word, none of them 0, begins with it
--   by_byte          what is chosen by whether a byte is another: what holds of either holds of it
use Prim.Native.Nat.{ℕ, suc, ◌+◌, ◌<◌, ◌≤◌}
use native.Mathlib.Omega.{arith}
use native.Mathlib.Numerals.{add-one}
use mathlib.Core.Path.{◌≡◌, refl, sym, ap, ap₂, subst, ◌∙◌}
use mathlib.Core.Logic.{⊎_elim}
use mathlib.Core.Bool.{true, false, cond}
use mathlib.Core.List.{List, [], ◌∷◌, ◌++◌}
use lib.Dec.{eqb}
use lib.ListN.{length, get_or, drop, get_or-eq_default}
use lib.Seq.{drop-cons, get_or-drop}
use borrow.Author.Tests.{eqb-true, eqb-false}
use Rattle.basis.proofs.Runs.{within_or_past}
use Rattle.basis.proofs.Truth.{either, hit, missed}
use Rattle.decimals.proofs.Words.{AllOf}

module _ (text : List ℕ) where
  pub byte_within : (at b : ℕ) → get_or text at 0 ≡ b → 0 < b → at < length text
  byte_within at b is some =
      ⊎_elim
      (λ (within : at < length text). within)
      (λ (past : length text ≤ at). absurd (omega (arith, get_or-eq_default text 0 past)))
      (within_or_past at (length text))

  pub byte_then : (at next b : ℕ) → next ≡ at + 1 → at < length text → get_or text at 0 ≡ b → drop at text ≡ b ∷ drop next text
  byte_then at next b follows within is =
      drop-cons text at 0 within ∙ ap₂ (λ (byte place : ℕ). byte ∷ drop place text) is (sym (follows ∙ add-one at))

  pub byte_stands : (at next b : ℕ) → next ≡ at + 1 → 0 < b → get_or text at 0 ≡ b →
      (at < length text) × (drop at text ≡ b ∷ drop next text)
  byte_stands at next b follows some is =
      let within = byte_within at b is some in
      (within, byte_then at next b follows within is)

  pub byte_further : (at i place : ℕ) {rest : List ℕ} → place ≡ at + i → drop at text ≡ rest → get_or text place 0 ≡ get_or rest i 0
  byte_further at i place far e =
      ap (λ (k : ℕ). get_or text k 0) far ∙ sym (get_or-drop at text i 0) ∙ ap (λ (bytes : List ℕ). get_or bytes i 0) e

pub front_by_bytes : (word text : List ℕ) → AllOf (λ b. 0 < b) word → ((k : ℕ) → k < length word → get_or text k 0 ≡ get_or word k 0) →
    (length word ≤ length text) × (text ≡ word ++ drop (length word) text)
front_by_bytes [] text some each = (omega arith, refl)
front_by_bytes (b ∷ word) [] some each = absurd (omega (arith, some.0, each 0 (omega arith)))
front_by_bytes (b ∷ word) (x ∷ text) some each =
    let rest = front_by_bytes word text some.1 (λ k within. each (suc k) (omega arith)) in
    (omega arith, ap₂ ◌∷◌ (each 0 (omega arith)) rest.1)

pub by_byte : {A : Type 0} (Holds : A → Type 0) (byte other : ℕ) {there missing chosen : A} →
    chosen ≡ cond (eqb byte other) there missing → (byte ≡ other → Holds there) → ((byte ≡ other → ⊥) → Holds missing) → Holds chosen
by_byte Holds byte other said same differs =
    ⊎_elim
    (λ (is : eqb byte other ≡ true). subst Holds (sym (said ∙ hit _ _ _ is)) (same (eqb-true byte other is)))
    (λ (is : eqb byte other ≡ false). subst Holds (sym (said ∙ missed _ _ _ is)) (differs (eqb-false byte other is)))
    (either (eqb byte other))
