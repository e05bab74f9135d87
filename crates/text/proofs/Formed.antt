-- Well formed lines, made up test by test. Assumes nothing.
--   no_tests      line 0 alone
--   test_before   a test more in front
--   test_behind   a test more at the end
use Prim.Native.Nat.{ℕ, ◌<◌}
use mathlib.Core.Path.{sym, subst}
use mathlib.Core.Logic.{⊎_elim}
use mathlib.Core.List.Memᴰ
use mathlib.Core.List.{
  List,
  [],
  ◌∷◌,
  ◌++◌,
}
use Rattle.limits.specs.Limits.{decimal_limit}
use Rattle.query.specs.declared.Test.{Test}
use Rattle.query_lines.specs.Lines.{SmallTest}
use Rattle.text.specs.Reading.{Formed}

pub no_tests : {size : ℕ} → size < decimal_limit → Formed size []
no_tests small = record { size_small = small; each_small = λ test there. absurd (Memᴰ.not-nil there) }

module _ {size : ℕ} (tests : List Test) (test : Test) (small : SmallTest test) (formed : Formed size tests) where
  pub test_before : Formed size (test ∷ tests)
  test_before = record {
    size_small = formed.size_small;
    each_small = λ other there. ⊎_elim (λ is. subst SmallTest (sym is) small) (formed.each_small other) (Memᴰ.cases_cons there);
  }

  pub test_behind : Formed size (tests ++ (test ∷ []))
  test_behind = record {
    size_small = formed.size_small;
    each_small =
        λ other there. ⊎_elim (formed.each_small other)
        (λ last. subst SmallTest (sym (Memᴰ.eq_of_singleton last)) small)
        (Memᴰ.append_cases tests there);
  }
