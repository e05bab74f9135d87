-- What std's answer says: an error that it failed. Assumes nothing.
--   failed, came      a read's answer
--   opened            what opening answered, where it is no error
use Rattle.std.proofs.Common.{◌≡◌, ℕ, min, Result, Ok, Err, Option, Some, None}
use Rattle.files.specs.Taking.{taken_by, NotOpened}

pub failed : {E : Type 0} (got : Result ℕ E) (most : ℕ) (error : E) → got ≡ Err error → ◌≡◌ {A = Option ℕ} None (taken_by got most)
failed (Ok n) most error same = cc
failed (Err e) most error same = cc

pub came : {E : Type 0} (got : Result ℕ E) (most : ℕ) {n k : ℕ} → got ≡ Ok k → n ≡ min k most → Some n ≡ taken_by got most
came (Ok k) most same counted = cc
came (Err e) most same counted = cc

pub opened : {A E : Type 0} (answer : Result A E) (file : A) → answer ≡ Ok file → NotOpened answer → ⊥
opened (Ok found) file same none = none
opened (Err e) file same none = cc
