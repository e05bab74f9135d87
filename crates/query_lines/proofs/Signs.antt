-- What the bytes at a place say of the sign that stands there. Assumes nothing.
--   SignAt           a sign and a space stand at a place, or none does
--   spaced_at        a comparison whose sign has been read, if a space follows
--   NotSigned        the bytes at a place, and at the two after it, are those of no sign and its space
--   no_sign          where they are so, no sign stands there
--   short_sign       a sign of one byte, and a space
--   long_sign        a sign of two bytes, and a space
--   sign_if_spaced   a sign whose bytes stand there, if a space follows
use Prim.Native.Nat.{ℕ, ◌+◌, ◌<◌, ◌≤◌}
use native.Mathlib.Omega.{arith}
use mathlib.Core.Path.{◌≡◌, refl, ◌∙◌}
use mathlib.Core.Bool.{cond}
use mathlib.Core.List.{List, [], ◌∷◌, ◌++◌}
use lib.Dec.{eqb}
use lib.ListN.{length, get_or, drop}
use Rattle.std.specs.Prelude.{Option, Some, None}
use Rattle.query.specs.declared.Comparison.{Comparison}
use Rattle.query.specs.declared.Comparison.TheVariants.{Less, AtMost, More, AtLeast, Equal, Differs}
use Rattle.decimals.specs.Decimals.{space}
use Rattle.query_lines.specs.Lines.{sign_of}
use Rattle.decimals.proofs.Places.{byte_stands, byte_further, by_byte}

-- a sign and a space: a comparison with that sign and the place behind, or there is none
abbrev pub SignAt : List ℕ → ℕ → Option (Comparison × ℕ) → Type 0
SignAt text at (Some (comparison, next)) =
    (at < next) × (next ≤ length text) × (drop at text ≡ sign_of comparison ++ (space ∷ drop next text))
SignAt text at None = (comparison : Comparison) (rest : List ℕ) → drop at text ≡ sign_of comparison ++ (space ∷ rest) → ⊥

-- a comparison whose sign has been read, if a space follows
abbrev pub spaced_at : List ℕ → ℕ → Comparison → Option (Comparison × ℕ)
spaced_at text at comparison = cond (eqb (get_or text at 0) space) (Some (comparison, at + 1)) None

pub record NotSigned (first second third : ℕ) : Type 0 where
  pub less : first ≡ 60 → second ≡ 32 → ⊥
  pub at_most : first ≡ 60 → second ≡ 61 → third ≡ 32 → ⊥
  pub more : first ≡ 62 → second ≡ 32 → ⊥
  pub at_least : first ≡ 62 → second ≡ 61 → third ≡ 32 → ⊥
  pub equal : first ≡ 61 → second ≡ 32 → ⊥
  pub differs : first ≡ 33 → second ≡ 61 → third ≡ 32 → ⊥

module _ (text : List ℕ) (at : ℕ) where
  pub no_sign : NotSigned (get_or text at 0) (get_or text (at + 1) 0) (get_or text (at + 2) 0) → SignAt text at None
  no_sign none comparison rest e =
      refuted comparison
      (byte_further text at 0 at (omega arith) e)
      (byte_further text at 1 (at + 1) refl e)
      (byte_further text at 2 (at + 2) refl e)
    where
      refuted : (sign : Comparison) → get_or text at 0 ≡ get_or (sign_of sign ++ (space ∷ rest)) 0 0 →
          get_or text (at + 1) 0 ≡ get_or (sign_of sign ++ (space ∷ rest)) 1 0 →
          get_or text (at + 2) 0 ≡ get_or (sign_of sign ++ (space ∷ rest)) 2 0 → ⊥
      refuted (Less _) b c d = none.less b c
      refuted (AtMost _) b c d = none.at_most b c d
      refuted (More _) b c d = none.more b c
      refuted (AtLeast _) b c d = none.at_least b c d
      refuted (Equal _) b c d = none.equal b c
      refuted (Differs _) b c d = none.differs b c d

  module _ (comparison : Comparison) (first : ℕ) (some : 0 < first) (is : get_or text at 0 ≡ first) where
    first_stands : (at < length text) × (drop at text ≡ first ∷ drop (at + 1) text)
    first_stands = byte_stands text at (at + 1) first refl some is

    pub short_sign : (next : ℕ) → sign_of comparison ≡ first ∷ [] → next ≡ at + 2 → get_or text (at + 1) 0 ≡ space →
        SignAt text at (Some (comparison, next))
    short_sign next sign follows spaced =
        let behind = byte_stands text (at + 1) next space (omega arith) (omega arith) spaced in
        (omega arith, omega arith, first_stands.1 ∙ rw (sign, behind.1))

    pub long_sign : (next : ℕ) → sign_of comparison ≡ first ∷ (61 ∷ []) → next ≡ at + 3 → get_or text (at + 1) 0 ≡ 61 →
        get_or text (at + 2) 0 ≡ space → SignAt text at (Some (comparison, next))
    long_sign next sign follows second spaced =
        let middle = byte_stands text (at + 1) (at + 2) 61 (omega arith) (omega arith) second in
        let behind = byte_stands text (at + 2) next space (omega arith) (omega arith) spaced in
        (omega arith, omega arith, first_stands.1 ∙ rw (sign, middle.1, behind.1))

  pub sign_if_spaced : (next : ℕ) (comparison : Comparison) {sign : Option (Comparison × ℕ)} → sign ≡ spaced_at text next comparison →
      (get_or text next 0 ≡ space → SignAt text at (Some (comparison, next + 1))) →
      ((get_or text next 0 ≡ space → ⊥) → SignAt text at None) → SignAt text at sign
  sign_if_spaced next comparison said there missing = by_byte (SignAt text at) (get_or text next 0) space said there missing
