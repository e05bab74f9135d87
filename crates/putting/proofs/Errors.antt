-- What the error of a write says. Assumes nothing.
--   later_by, failed_by    an error that passes, and one that does not
--   passing_numbers        of the system's error numbers 11 passes, that the reader is behind, and 4, that a signal came, and no other
use Rattle.std.proofs.Common.{rules, ◌≡◌, ℕ, true, false, ◌||◌, eqb, ◌↔◌, ◌⊎◌, inl, inr, pos, List, [], ◌∷◌, nat_lt, arith}
use borrow.Author.Tests.{le-ltb}
use Rattle.std.proofs.lemmas.Bool.{eqb-true}
use Rattle.std.proofs.lemmas.Bool.Decides.{eqb_tells}
use Rattle.std.specs.IoError.{error_kind, os_error_kind, os_error_kinds, kind_in}
use Rattle.std.specs.declared.io.Error.{Error}
use Rattle.std.specs.declared.io.ErrorKind.{ErrorKind}
use Rattle.putting.specs.declared.Put.TheVariants.{Later, Failed}
use Rattle.putting.specs.Putting.{passing, put_for}

pub later_by : (error : Error) → passing (error_kind error) ≡ true → Later error ≡ put_for error
later_by error pass = rw pass

pub failed_by : (error : Error) → passing (error_kind error) ≡ false → Failed error ≡ put_for error
failed_by error fails = rw fails

-- in each row of a table the kind passes where the number is one of the two
abbrev Fit : List (ℕ × ErrorKind) → Type 0
Fit [] = Unit {0}
Fit (row ∷ rows) = (passing row.1 ≡ (eqb row.0 11 || eqb row.0 4)) × Fit rows

one_of : (n : ℕ) → (eqb n 11 || eqb n 4) ≡ true → (n ≡ 11) ⊎ (n ≡ 4)
one_of n e = elim (eqb_tells n 11) [ inl w ↦ inl w.1 | inr w ↦ inr (eqb-true n 4 (rw w.0 at e)) ]

in_table : (rows : List (ℕ × ErrorKind)) (n : ℕ) → Fit rows → passing (kind_in rows n) ≡ true → (n ≡ 11) ⊎ (n ≡ 4)
in_table [] n fit pass = cc
in_table (row ∷ rows) n fit pass =
    elim (eqb_tells n row.0) [
      | inl w ↦ let here : passing row.1 ≡ true = rw w.0 at pass in one_of n (rw w.1 (cc))
      | inr w ↦ in_table rows n fit.1 (rw w.0 at pass)
    ]

table_fits : Fit os_error_kinds
table_fits = search rules depth 60

-- no number is below 0
not_below : (n : ℕ) → nat_lt n 0 ≡ false
not_below n = le-ltb _ _ (omega arith)

pub passing_numbers : (n : ℕ) → (passing (os_error_kind (pos n)) ≡ true) ↔ ((n ≡ 11) ⊎ (n ≡ 4))
unfolding os_error_kind
passing_numbers n =
    (λ pass. in_table os_error_kinds n table_fits (rw (not_below n) at pass), λ one. elim one [ inl e ↦ rw e | inr e ↦ rw e ])
