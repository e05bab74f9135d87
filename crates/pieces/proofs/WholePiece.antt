-- Writing a whole list from its first byte on leaves its piece in the buffer. Assumes nothing.
--   whole_piece    so it does
use Prim.Native.Nat.{ℕ, suc, ◌+◌, ◌-◌, ◌≤◌, ◌<◌}
use native.Mathlib.Omega.{arith}
use mathlib.Core.Path.{◌≡◌, sym, ap, ◌∙◌}
use mathlib.Core.Logic.{◌⊎◌, inl, inr}
use mathlib.Core.List.{List, [], ◌∷◌, ◌++◌, append_assoc, append-nil}
use lib.ListN.{length, set, take, drop, length-take, length-drop, length-append, drop_of_length-le}
use lib.Seq.{take_all, take-append-le, drop-append-le}
use Rattle.basis.specs.Buffers.{laid}
use Rattle.basis.proofs.Buffers.{length_laid, laid_nothing, laid_store}
use Rattle.basis.proofs.Runs.{within_or_past}
use Rattle.pieces.specs.Pieces.{piece_of, put_at, write_at}
use Rattle.pieces.proofs.Writing.{put_within, put_before, put_behind}

module _ (buffer : List ℕ) (from : ℕ) where
  length_piece : (list : List ℕ) → length (piece_of buffer from list) ≡ length buffer
  unfolding piece_of
  length_piece list = length_laid buffer 0 (take (length buffer) (drop from list)) (rw length-take (omega arith))

  -- nothing has been reached yet
  piece_before : (list : List ℕ) → length list ≤ from → piece_of buffer from list ≡ buffer
  unfolding piece_of
  piece_before list early =
      let none : 0 ≤ length buffer = omega arith in
      let nothing : take (length buffer) (drop from list) ≡ [] =
      ap (take (length buffer)) (drop_of_length-le list early) ∙ take_all {A = ℕ} (length buffer) [] none in
      rw nothing (laid_nothing buffer 0)

  module _ (list : List ℕ) (byte : ℕ) where
    abbrev longer : List ℕ
    longer = list ++ (byte ∷ [])

    -- one byte more: not reached yet, in the piece, or behind it
    more_before : length list < from → piece_of buffer from longer ≡ put_at (piece_of buffer from list) from (length list) byte
    more_before early =
        let long : length longer ≤ from = rw length-append (omega arith) in
        piece_before longer long
        ∙ sym (put_before (piece_of buffer from list) from (length list) byte early ∙ piece_before list (omega arith))

    more_within : from ≤ length list → length list - from < length buffer →
        piece_of buffer from longer ≡ put_at (piece_of buffer from list) from (length list) byte
    unfolding piece_of
    more_within late room =
        let so_far = drop from list in
        let long : length so_far ≡ length list - from = length-drop from list in
        let end : 0 + length so_far ≡ length list - from = omega arith in
        let split : drop from longer ≡ so_far ++ (byte ∷ []) = drop-append-le from list (byte ∷ []) late in
        let fits : length (so_far ++ (byte ∷ [])) ≤ length buffer = rw length-append (omega arith) in
        let all : take (length buffer) (drop from longer) ≡ so_far ++ (byte ∷ []) =
        ap (take (length buffer)) split ∙ take_all (length buffer) (so_far ++ (byte ∷ [])) fits in
        let before : take (length buffer) so_far ≡ so_far = take_all (length buffer) so_far (omega arith) in
        let kept = length_piece list in
        ap (laid buffer 0) all
        ∙ sym (laid_store buffer 0 so_far byte (omega arith))
        ∙ ap (λ (place : ℕ). set (laid buffer 0 so_far) place byte) end
        ∙ sym (put_within (piece_of buffer from list) from (length list) byte late (omega arith) ∙ rw before)

    more_behind : from ≤ length list → length buffer ≤ length list - from →
        piece_of buffer from longer ≡ put_at (piece_of buffer from list) from (length list) byte
    unfolding piece_of
    more_behind late full =
        let so_far = drop from list in
        let long : length so_far ≡ length list - from = length-drop from list in
        let split : drop from longer ≡ so_far ++ (byte ∷ []) = drop-append-le from list (byte ∷ []) late in
        let cut : take (length buffer) (drop from longer) ≡ take (length buffer) so_far =
        ap (take (length buffer)) split ∙ take-append-le (length buffer) so_far (byte ∷ []) (omega arith) in
        let kept = length_piece list in
        ap (laid buffer 0) cut ∙ sym (put_behind (piece_of buffer from list) from (length list) byte late (omega arith))

    one_more : piece_of buffer from longer ≡ put_at (piece_of buffer from list) from (length list) byte
    one_more = go (within_or_past (length list) from)
      where
        reached : from ≤ length list → (length list - from < length buffer) ⊎ (length buffer ≤ length list - from) →
            piece_of buffer from longer ≡ put_at (piece_of buffer from list) from (length list) byte
        reached late (inl room) = more_within late room
        reached late (inr full) = more_behind late full

        go : (length list < from) ⊎ (from ≤ length list) →
            piece_of buffer from longer ≡ put_at (piece_of buffer from list) from (length list) byte
        go (inl early) = more_before early
        go (inr late) = reached late (within_or_past (length list - from) (length buffer))

  -- from any place on
  on_from : (done list : List ℕ) → write_at (piece_of buffer from done) from (length done) list ≡ piece_of buffer from (done ++ list)
  unfolding write_at
  on_from done [] = rw (append-nil done)
  on_from done (byte ∷ list) =
      let next : suc (length done) ≡ length (done ++ (byte ∷ [])) = rw length-append (omega arith) in
      ap (λ (piece : List ℕ). write_at piece from (suc (length done)) list) (sym (one_more done byte))
      ∙ ap (λ (at : ℕ). write_at (piece_of buffer from (done ++ (byte ∷ []))) from at list) next
      ∙ on_from (done ++ (byte ∷ [])) list
      ∙ ap (piece_of buffer from) (append_assoc done (byte ∷ []) list)

  pub whole_piece : (list : List ℕ) → write_at buffer from 0 list ≡ piece_of buffer from list
  whole_piece list = ap (λ (piece : List ℕ). write_at piece from 0 list) (sym (piece_before [] (omega arith))) ∙ on_from [] list
