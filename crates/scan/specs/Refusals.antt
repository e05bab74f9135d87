-- The refusals of a scan: those of the query held to the file, then 10. Assumes nothing.
use Rattle.std.specs.Prelude.{ℕ, List, [], ◌∷◌, ◌++◌, ltb}
use Rattle.refusals.specs.declared.Refusal.TheVariants.{OutputTooShort}
use Rattle.basis.specs.Refusals.{Line, refuse}
use Rattle.directory.specs.File.{rows_in}
use Rattle.query.specs.declared.Query.{Query}
use Rattle.asking.specs.Refusals.{ask_lines}
use Rattle.bits.specs.Bits.{bytes_for}

-- the query is held to the file first; 10: the result is too short; need: its bytes
abbrev pub scan_lines : List ℕ → ℕ → Query → ℕ → List Line
scan_lines file size query room =
    ask_lines file size query ++ (refuse (OutputTooShort (bytes_for (rows_in file))) (ltb room (bytes_for (rows_in file))) ∷ [])
