-- The trailer as it is read once, and kept by number. Assumes nothing.
use Rattle.std.specs.Prelude.{ℕ, ◌<◌, ◌≡◌, List}
use Rattle.limits.specs.Limits.{four_bytes}
use Rattle.basis.specs.Numbers.{number_at}
use Rattle.directory.specs.declared.Trailer.{Trailer}

-- the numbers are those that stand in the last 16 bytes, and each fits four bytes
pub record TrailerRead (last : List ℕ) (trailer : Trailer) : Type 0 where
  pub rows : trailer.rows ≡ number_at last 0 4
  pub columns : trailer.columns ≡ number_at last 4 2
  pub version : trailer.version ≡ number_at last 6 2
  pub directory : trailer.directory ≡ number_at last 8 4
  pub mark : trailer.mark ≡ number_at last 12 4
  pub directory_small : trailer.directory < four_bytes
