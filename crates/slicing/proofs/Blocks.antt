-- The bytes of a block of rows in a slice: where they stand, and that they are the body's. Assumes nothing.
--   run_of         the bytes at so many bits from the end of so many numbers
--   length_run_of  there are as many
--   run_within    the run of a block in a slice lies in the body
--   run_right     made from stored numbers, its bytes are the body's
--   run_put       so laying it puts the block's rows in the slice
use Prim.Native.Nat.{ℕ, suc, ◌+◌, ◌-◌, ◌*◌, ◌/◌, ◌%◌, ◌^◌, ◌≤◌, ◌<◌}
use native.Mathlib.Omega.{arith}
use native.Mathlib.Nat.{mul-le-mul_left, mul-suc}
use mathlib.Core.Path.{◌≡◌, sym, ap₂, ◌∙◌}
use mathlib.Core.List.{List, map}
use lib.ListN.{length, get_or, length-map}
use Rattle.basis.specs.Lists.{below}
use Rattle.basis.proofs.Lists.{length_run}
use Rattle.basis.proofs.Runs.{mapped_at}
use Rattle.codes.specs.Width.{slices_of}
use Rattle.codes.specs.Bytes.{stored_of}
use Rattle.codes.proofs.Width.{bytes_of_bits}
use Rattle.codes.proofs.RoundTrip.{byte_of_digit}
use Rattle.directory.specs.Layout.{slices_before, bytes_before}
use Rattle.register.proofs.Body.{among_all}
use Rattle.table.specs.Table.{width_of, code_of}
use Rattle.slicing.specs.Body.{body_of}
use Rattle.basis.specs.Buffers.{laid}
use Rattle.table.specs.ManyAtOnce.{Holds}
use Rattle.slicing.specs.Putting.{BodyPut}
use Rattle.slicing.proofs.Lengths.{length_body_of}
use Rattle.slicing.proofs.Body.{byte_in_body}
use Rattle.slicing.proofs.Putting.{put_run}

abbrev pub run_of : List ℕ → ℕ → ℕ → List ℕ
run_of stored n shift = map (λ k. get_or stored k 0 / 2 ^ shift % 256) (below n)

pub length_run_of : (stored : List ℕ) (n shift : ℕ) → length (run_of stored n shift) ≡ n
length_run_of stored n shift = length-map (below n) _ ∙ length_run 0 n

module _ (rows : ℕ) (widths codes : List ℕ) (column slice first n : ℕ) (column_there : column < length widths)
    (slice-there : slice < slices_of (width_of widths column)) (within : first + n ≤ rows) where
  pub run_within : (slices : ℕ) → slices ≡ slices_before (width_of widths) column →
      rows * (slices + slice) + first + n ≤ bytes_before rows (width_of widths) (length widths)
  run_within slices counted =
      let among = among_all (width_of widths) column (length widths) column_there in
      let fewer : suc (slices + slice) ≤ slices_before (width_of widths) (length widths) = omega arith in
      omega (arith, mul-le-mul_left rows fewer, mul-suc rows (slices + slice))

  pub run_right : (stored : List ℕ) → Holds (λ k. stored_of (width_of widths column) (code_of widths codes (first + k) column)) n stored →
      (k : ℕ) → k < n → get_or (run_of stored n (8 * (slices_of (width_of widths column) - 1 - slice))) k 0 ≡
      get_or (body_of rows widths codes) (rows * (slices_before (width_of widths) column + slice) + (first + k)) 0
  run_right stored copied k h =
      let after = slices_of (width_of widths column) - 1 - slice in
      mapped_at (λ j. get_or stored j 0 / 2 ^ (8 * after) % 256) n k 0 h
      ∙ ap₂ (λ (number power : ℕ). number / power % 256) (copied.each k h) (bytes_of_bits after)
      ∙ sym (byte_of_digit (width_of widths column) (code_of widths codes (first + k) column) slice slice-there)
      ∙ sym (byte_in_body rows widths codes column slice (first + k) column_there slice-there (omega arith))

  pub run_put : (slices own : ℕ) (stored before : List ℕ) {after : List ℕ} → slices ≡ slices_before (width_of widths) column →
      own ≡ slices_of (width_of widths column) →
      Holds (λ k. stored_of (width_of widths column) (code_of widths codes (first + k) column)) n stored →
      bytes_before rows (width_of widths) (length widths) ≤ length before →
      after ≡ laid before (rows * (slices + slice) + first) (run_of stored n (8 * (own - 1 - slice))) →
      BodyPut rows (body_of rows widths codes) before after first (first + n) (slices + slice) (slices + (slice + 1))
  run_put slices own stored before counted owned copied room said =
      let run = run_of stored n (8 * (own - 1 - slice)) in
      let long = length_run_of stored n (8 * (own - 1 - slice)) in
      let next : slices + (slice + 1) ≡ slices + slice + 1 = omega arith in
      let right : (k : ℕ) → k < length run → get_or run k 0 ≡ get_or (body_of rows widths codes) (rows * (slices + slice) + (first + k)) 0 =
      λ k h. rw (counted, owned) (run_right stored copied k (omega arith)) in
      let inside : rows * (slices + slice) + first + length run ≤ length (body_of rows widths codes) =
      rw (long, length_body_of rows widths codes) (run_within slices counted) in
      rw next (rw long at (put_run rows (body_of rows widths codes) before first (slices + slice) run right inside
      (rw (length_body_of rows widths codes) room) said))
