-- The rows that tests take out, by their standings. Assumes nothing.
use Rattle.std.specs.Prelude.{ℕ, ◌+◌, ◌*◌, List, Bool, eqb, get_or}
use Rattle.limits.specs.Limits.{longest_segment}
use Rattle.basis.specs.Lists.{any, below}
use Rattle.query.specs.declared.Comparison.{Comparison}
use Rattle.query.specs.declared.Test.{Test}
use Rattle.query.specs.Tests.{test_at}
use Rattle.standings.specs.Standings.{left_row}

-- a row whose standing is the bad one is taken out
abbrev pub taken_out_by : ℕ → ℕ → ℕ → ℕ
taken_out_by standing bad in_still = left_row (eqb standing bad) in_still

-- the rows that one test takes out, by its standings from a base on
abbrev pub taken_out : (Comparison → ℕ → Bool) → Comparison → List ℕ → ℕ → List ℕ → ℕ → ℕ
taken_out rule comparison standings base in_still k = left_row (rule comparison (get_or standings (base + k) 0)) (get_or in_still k 0)

-- the rows that the first tests take out; the standings to test t are kept from 64 x t on
abbrev pub taken_out_by_all : (Comparison → ℕ → Bool) → List Test → ℕ → List ℕ → List ℕ → ℕ → ℕ
taken_out_by_all rule tests count standings in_still k =
    left_row (any (λ t. rule (test_at tests t).comparison (get_or standings (t * longest_segment + k) 0)) (below count)) (get_or in_still k 0)
