-- Storing more entries of a byte's row than it has set bits does no harm before the end of what is to be written. Assumes nothing.
--   put_ahead    any number of entries from its set bits on
use Prim.Native.Nat.{ℕ, ◌+◌, ◌-◌, ◌≤◌}
use native.Mathlib.Omega.{arith}
use mathlib.Core.Path.{◌≡◌, sym, ap, ◌∙◌}
use mathlib.Core.List.{List, ◌++◌, map, map-append, append_assoc}
use lib.ListN.{length, take, drop, length-append, length-map}
use lib.Seq.{take_at, drop_at, drop-drop, take-append-le, take-append-add, length-take-le}
use Rattle.basis.specs.Lists.{run, below}
use Rattle.basis.specs.Buffers.{laid}
use Rattle.basis.proofs.Lists.{length_run}
use Rattle.basis.proofs.Runs.{run_joined}
use Rattle.basis.proofs.Buffers.{length_laid}
use Rattle.bits.specs.SetBits.{places_of}
use Rattle.positions.specs.Steps.{row_at, BytePut}
use Rattle.positions.proofs.TableRule.{places_by_number}

-- the first of what is made of the numbers below n
first_of : (f : ℕ → ℕ) (few n : ℕ) → few ≤ n → take few (map f (below n)) ≡ map f (below few)
first_of f few n h =
    let more = n - few in
    let whole : n ≡ few + more = omega arith in
    let long = length-map (below few) f ∙ length_run 0 few in
    ap (λ (m : ℕ). take few (map f (below m))) whole
    ∙ ap (λ (rows : List ℕ). take few (map f rows)) (sym (run_joined 0 few more))
    ∙ ap (take few) (map-append f (below few) (run (0 + few) more))
    ∙ take_at (map f (below few)) (map f (run (0 + few) more)) few long

pub put_ahead : (byte first at end n : ℕ) (before : List ℕ) {after : List ℕ} → length (places_of byte) ≤ n → at + n ≤ end →
    end ≤ length before → after ≡ laid before at (map (row_at byte first) (below n)) → BytePut byte first at end before after
put_ahead byte first at end n before enough room fits said =
    let few = length (places_of byte) in
    let list = map (row_at byte first) (below n) in
    let long : length list ≡ n = length-map (below n) (row_at byte first) ∙ length_run 0 n in
    let head = take at before ++ list in
    let rest = drop (at + length list) before in
    let short : length (take at before) ≡ at = length-take-le at before (omega arith) in
    let head-long : length head ≡ at + length list = rw length-append (omega arith) in
    let split : laid before at list ≡ head ++ rest = sym (append_assoc (take at before) list rest) in
    let left : end ≡ (at + length list) + (end - (at + length list)) = omega arith in
    record {
      front =
          ap (take (at + few)) said
          ∙ ap (λ (m : ℕ). take (m + few) (take at before ++ (list ++ rest))) (sym short)
          ∙ take-append-add (take at before) (list ++ rest) few
          ∙ ap (λ (rows : List ℕ). take at before ++ rows)
          (take-append-le few list rest (omega arith) ∙ first_of (row_at byte first) few n enough ∙ places_by_number byte first);
      behind =
          ap (drop end) (said ∙ split)
          ∙ ap (λ (m : ℕ). drop m (head ++ rest)) left
          ∙ sym (drop-drop (end - (at + length list)) (at + length list) (head ++ rest))
          ∙ ap (drop (end - (at + length list))) (drop_at head rest (at + length list) head-long)
          ∙ drop-drop (end - (at + length list)) (at + length list) before
          ∙ ap (λ (m : ℕ). drop m before) (sym left);
      same_length = ap length said ∙ length_laid before at list (omega arith);
    }
