-- Three siblings.
use Rattle.std.specs.Prelude.{List, ℕ}
use Rattle.certificate.specs.Certificate.{ChildOf}

-- children of one parent
pub record Three (bs : List ℕ) (a b c : ℕ) : Type 0 where
  pub parent : ℕ
  pub first : ChildOf bs parent a
  pub second : ChildOf bs parent b
  pub third : ChildOf bs parent c
