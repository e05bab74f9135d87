-- How long what is printed is. Assumes nothing.
--   told_length    a piece from any place on is told with the length of the whole
--   one_length     inputs have one
use Prim.Native.Nat.{ℕ}
use mathlib.Core.Path.{◌≡◌, sym, ◌∙◌}
use mathlib.Core.List.{List}
use mathlib.Core.Bool.{Bool, true, false}
use Rattle.text.proofs.SingleReply.{single_reply}
use Rattle.listing.specs.Inputs.{ListedRead, PrintLength}

module _ (file text : List ℕ) where
  pub told_length : (unread : Bool) (from : ℕ) (before after : List ℕ) (answer : ℕ) →
      ListedRead unread file text from before after answer → PrintLength unread file text answer
  told_length true from before after answer listed = listed.whole
  told_length false from before after answer listed = (listed.0, (listed.1.0, listed.1.1.whole))

  pub one_length : (unread : Bool) (bytes number : ℕ) → PrintLength unread file text bytes → PrintLength unread file text number →
      bytes ≡ number
  one_length true bytes number first second = first ∙ sym second
  one_length false bytes number first second =
      let same = single_reply first.1.0 second.1.0 in
      (rw same at first.1.1) ∙ sym second.1.1
