-- What is found of inputs, by whether both are taken, and what is printed of that. Assumes nothing.
--   bytes_or_none               an input's bytes, or none where it was not taken
--   told_18                     what is listed then is its line
--   listed_of_inputs            a piece of what was found is a piece of what is printed
--   length_of_inputs            and is as long in all
--   inputs_can_be_listed        and can be written
use Prim.Native.Nat.{ℕ}
use mathlib.Core.Path.{◌≡◌, refl, sym, ap, subst, ◌∙◌}
use mathlib.Core.List.{List, []}
use mathlib.Core.Bool.{Bool, true, false}
use lib.ListN.{length}
use Rattle.pieces.specs.Pieces.{PieceWritten}
use Rattle.lines.specs.Lines.{refused_line}
use Rattle.std.specs.Prelude.{Option, Some, None, Result, Err, unwrap_or}
use Rattle.std.specs.Borrow.{Bor}
use Rattle.refusals.specs.declared.Refusal.{Refusal}
use Rattle.refusals.specs.declared.Refusal.TheVariants.{InputNotTaken}
use Rattle.finding.specs.declared.Found.{Found}
use Rattle.listing.specs.Found.{Listable, found_lines}
use Rattle.listing.specs.Inputs.{bytes_of, FoundRead, ListedRead, PrintLength}
use Rattle.listing.proofs.FoundListing.{same_listing, can_be_listed, listed_in}

-- an empty slice stands for one that was not taken
pub bytes_or_none : (input : Option (Bor (List ℕ))) (empty : Bor (List ℕ)) {bytes : Bor (List ℕ)} →
    bytes ≡ unwrap_or input empty → empty.now ≡ [] → bytes.now ≡ bytes_of input
bytes_or_none (Some taken) empty is none = ap (λ bytes. bytes.now) is
bytes_or_none None empty is none = ap (λ bytes. bytes.now) is ∙ none

module _ (file text filled bits : List ℕ) (found : Result Found Refusal) where
  pub told_18 : found ≡ Err InputNotTaken → found_lines file bits found ≡ refused_line InputNotTaken
  told_18 told = ap (found_lines file bits) told

  pub listed_of_inputs : (unread : Bool) → FoundRead unread file text filled bits found → (from : ℕ) (before : List ℕ) {after : List ℕ}
      {answer : ℕ} → PieceWritten (found_lines file bits found) from before after answer →
      ListedRead unread file text from before after answer
  listed_of_inputs true made from before piece = rw (told_18 (made.refused refl).0) at piece
  listed_of_inputs false made from before piece = listed_in file text filled bits found (made.listed refl) from before piece

  pub length_of_inputs : (unread : Bool) → FoundRead unread file text filled bits found → {all : ℕ} →
      all ≡ length (found_lines file bits found) → PrintLength unread file text all
  length_of_inputs true made is = is ∙ ap length (told_18 (made.refused refl).0)
  length_of_inputs false made is =
      let listed = made.listed refl in
      (listed.0, (listed.1.0, is ∙ ap length (same_listing file filled bits found listed.0 listed.1.1)))

  pub inputs_can_be_listed : (unread : Bool) → FoundRead unread file text filled bits found → Listable file found
  inputs_can_be_listed true made = subst (Listable file) (sym (made.refused refl).0) tt
  inputs_can_be_listed false made =
      let listed = made.listed refl in
      can_be_listed file filled bits found listed.0 listed.1.0 listed.1.1
