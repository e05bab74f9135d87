-- `try_most_rows::put_ending` meets its contract: the bytes stand behind the body. Assumes nothing.
use Rattle.std.proofs.Common.{ℕ, ◌+◌, ◌≡◌, List, ◌++◌, sym, ap, ◌∙◌, length, take, drop, drop-drop}
use borrow.Author.Tests.{le-ltb}
use borrow.Rule.Slice.PartMut.{put_mid}
use lib.Dec.{ltb}
use Rattle.basis.specs.Buffers.{laid}
use Rattle.basis.specs.Numbers.{to_little}
use Rattle.basis.proofs.Truth.{missed}
use Rattle.try_most_rows.specs.Made.{body_bytes, file_bytes, ending}
use Rattle.try_most_rows.proofs.put_ending.Goals as goal

put_is_laid : (at many : ℕ) (list bytes : List ℕ) → many ≡ length bytes → put_mid at many list bytes ≡ laid list at bytes
put_is_laid at many list bytes long =
    ap (λ (rest : List ℕ). take at list ++ (bytes ++ rest)) (drop-drop many at list ∙ ap (λ (n : ℕ). drop (at + n) list) long)

pub returns : goal.returns
unfolding ending to_little
returns c =
    let file = c.args.file.now in
    let put : put_mid 2097152 24 file c.copy_from_slice.new.self ≡ laid file body_bytes ending =
    rw c.copy_from_slice.ensures.after (put_is_laid 2097152 24 file ending (cc)) in
    put ∙ sym (missed (ltb (length file) file_bytes) _ _ (le-ltb _ _ c.if-file-lt-FILE.false))
