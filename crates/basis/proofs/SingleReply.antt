-- A promise of the form "the reply is this definition of what was lent" admits one reply. Assumes nothing.
use mathlib.Core.Path.{◌≡◌, sym, ◌∙◌}

-- two replies that both meet it are the same
pub single_reply : {A : Type 0} {promised first second : A} → first ≡ promised → second ≡ promised → first ≡ second
single_reply first second = first ∙ sym second
