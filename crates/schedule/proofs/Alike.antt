-- Two registers that agree on the bytes counted in a segment treat its rows alike, slice after slice: a row is ruled out in
-- both, or stands the same to every test. Assumes nothing.
--   counts_alike    each slice counts in both or in neither
--   found_alike     each row is found in both or in neither
use Prim.Native.Nat.{ℕ, zero, suc, ◌≤◌, ◌<◌}
use mathlib.Core.Path.{◌≡◌, refl, sym, ◌∙◌}
use mathlib.Core.Logic.{◌⊎◌, inl, inr}
use mathlib.Core.List.{List}
use mathlib.Core.Bool.{not, ◌&&◌}
use lib.Dec.{T, ltb, lt→ltb, T_not}
use Rattle.basis.specs.Lists.{any}
use Rattle.basis.proofs.Truth.{both}
use Rattle.basis.proofs.Passing.{passed_or_failed, both_pass, fails_before, same_outcome}
use Rattle.basis.proofs.Members.{◌∈◌, any_from, any_makes, all_gives, all_from}
use Rattle.basis.proofs.Runs.{within_or_past}
use Rattle.schedule.specs.Machine.{Machine, Lawful}
use Rattle.schedule.specs.Schedule.{Bytes, standing, ruled_out, keeps_open, counts, found}
use Rattle.schedule.proofs.Standing.{standing_next, standing_past, settled_next, ruled_out_next, ruled_out_is_not_found}

module _ {Test : Type 0} (M : Machine Test) (q : List Test) where
  -- a row stands the same to every test after j slices
  abbrev Same : Bytes Test → Bytes Test → ℕ → ℕ → Type 0
  Same R R' j row = (t : Test) → t ∈ q → standing M R t j row ≡ standing M R' t j row

  -- or is ruled out in both
  abbrev Alike : Bytes Test → Bytes Test → ℕ → ℕ → Type 0
  Alike R R' j row = (T (ruled_out M R q j row) × T (ruled_out M R' q j row)) ⊎ Same R R' j row

  turned : (R R' : Bytes Test) (j row : ℕ) → Alike R R' j row → Alike R' R j row
  turned R R' j row (inl out) = inl (out.1, out.0)
  turned R R' j row (inr same) = inr (λ t m. sym (same t m))

  -- equal standings rule out alike
  ruled_out_alike : (R R' : Bytes Test) (j row : ℕ) → Same R R' j row → T (ruled_out M R q j row) → T (ruled_out M R' q j row)
  unfolding ruled_out
  ruled_out_alike R R' j row same = any_makes _ _ q (λ t m out. rw (same t m) at out)

  keeps_open_alike : (R R' : Bytes Test) (j row : ℕ) → Alike R R' j row → (t : Test) → t ∈ q →
      T (keeps_open M R q t j row) → T (keeps_open M R' q t j row)
  unfolding keeps_open
  keeps_open_alike R R' j row alike t m kept =
      go alike (both (M.equal t (standing M R t j row)) (not (ruled_out M R q j row)) kept)
    where
      go : Alike R R' j row → T (M.equal t (standing M R t j row)) × T (not (ruled_out M R q j row)) →
          T (M.equal t (standing M R' t j row) && not (ruled_out M R' q j row))
      go (inl out) parts = absurd (T_not (ruled_out M R q j row) parts.1 out.0)
      go (inr same) parts =
          both_pass (M.equal t (standing M R' t j row)) (not (ruled_out M R' q j row)) (rw (same t m) at parts.0)
          (fails_before (ruled_out M R' q j row) (ruled_out M R q j row)
          (ruled_out_alike R' R j row (λ u i. sym (same u i)))
          parts.1)

  counts_where_alike : (R R' : Bytes Test) (j : ℕ) (rows : List ℕ) → ((row : ℕ) → row ∈ rows → Alike R R' j row) →
      (t : Test) → t ∈ q → T (counts M R q t j rows) → T (counts M R' q t j rows)
  unfolding counts
  counts_where_alike R R' j rows alike t m counted =
      let parts = both (ltb j (M.slices t)) (any (keeps_open M R q t j) rows) counted in
      both_pass (ltb j (M.slices t)) (any (keeps_open M R' q t j) rows) parts.0
      (any_makes (keeps_open M R q t j) (keeps_open M R' q t j) rows
      (λ row i. keeps_open_alike R R' j row (alike row i) t m)
      parts.1)

  module _ (L : Lawful M) where
    found_where_alike : (R R' : Bytes Test) (row : ℕ) → ((j : ℕ) → Alike R R' j row) → T (found M R q row) → T (found M R' q row)
    unfolding found
    found_where_alike R R' row alike every = all_from _ q (λ t m. go t m (alike (M.slices t)))
      where
        go : (t : Test) → t ∈ q → Alike R R' (M.slices t) row → T (M.holds t (standing M R' t (M.slices t) row))
        go t m (inl out) = absurd (T_not (found M R q row) (ruled_out_is_not_found M L R q (M.slices t) row out.0) every)
        go t m (inr same) = rw (same t m) at (all_gives (λ u. M.holds u (standing M R u (M.slices u) row)) m every)

    module _ (R R' : Bytes Test) (rows : List ℕ)
        (agree : (t : Test) → t ∈ q → (j : ℕ) → T (counts M R q t j rows) → (row : ℕ) → row ∈ rows → R t j row ≡ R' t j row) where
      -- a row that is not ruled out is fed a byte that counted, or has settled
      same_next : (j row : ℕ) → row ∈ rows → Same R R' j row → T (not (ruled_out M R q j row)) → Same R R' (suc j) row
      unfolding counts keeps_open
      same_next j row i same kept t m = go (within_or_past j (M.slices t)) (passed_or_failed (M.equal t (standing M R t j row)))
        where
          go : (j < M.slices t) ⊎ (M.slices t ≤ j) →
              T (M.equal t (standing M R t j row)) ⊎ T (not (M.equal t (standing M R t j row))) →
              standing M R t (suc j) row ≡ standing M R' t (suc j) row
          go (inr past) equal = standing_past M R t j row past ∙ same t m ∙ sym (standing_past M R' t j row past)
          go (inl within) (inr differs) =
              settled_next M L R t j row differs ∙ same t m ∙ sym (settled_next M L R' t j row (rw (same t m) at differs))
          go (inl within) (inl equal) =
              let keeps = both_pass (M.equal t (standing M R t j row)) (not (ruled_out M R q j row)) equal kept in
              let counted =
              both_pass (ltb j (M.slices t)) (any (keeps_open M R q t j) rows) (lt→ltb j (M.slices t) within)
              (any_from (keeps_open M R q t j) i keeps) in
              rw (standing_next M R t j row within, standing_next M R' t j row within, same t m, agree t m j counted row i)

      alike : (j row : ℕ) → row ∈ rows → Alike R R' j row
      unfolding standing
      alike zero row i = inr (λ t m. refl)
      alike (suc j) row i = go (alike j row i) (passed_or_failed (ruled_out M R q j row))
        where
          go : Alike R R' j row → T (ruled_out M R q j row) ⊎ T (not (ruled_out M R q j row)) → Alike R R' (suc j) row
          go (inl out) either = inl (ruled_out_next M L R q j row out.0, ruled_out_next M L R' q j row out.1)
          go (inr same) (inl out) =
              inl (ruled_out_next M L R q j row out, ruled_out_next M L R' q j row (ruled_out_alike R R' j row same out))
          go (inr same) (inr kept) = inr (same_next j row i same kept)

      pub counts_alike : (t : Test) → t ∈ q → (j : ℕ) → counts M R q t j rows ≡ counts M R' q t j rows
      counts_alike t m j =
          same_outcome (counts M R q t j rows) (counts M R' q t j rows)
          (counts_where_alike R R' j rows (λ row i. alike j row i) t m)
          (counts_where_alike R' R j rows (λ row i. turned R R' j row (alike j row i)) t m)

      pub found_alike : (row : ℕ) → row ∈ rows → found M R q row ≡ found M R' q row
      found_alike row i =
          same_outcome (found M R q row) (found M R' q row)
          (found_where_alike R R' row (λ j. alike j row i))
          (found_where_alike R' R row (λ j. turned R R' j row (alike j row i)))
