-- Document 02, W5: "The steps, the answer for each of the 49 pairs of arcs [...] are unchanged": the
-- table of all 49, by computation. The law that turns it into each pair is `arcs-as-numbered` in
-- laws/proofs/RankLaws.antt. Assumes nothing.
use mathlib.Core.Path.{◌≡◌, refl}
use mathlib.Core.Bool.{Bool, true}
use Prim.Native.Nat.{ℕ}
use lib.Dec.{eqb}
use Rattle.model.specs.Lists.{all_below}
use Rattle.model.specs.Answers.{ordering_number}
use Rattle.model.specs.Strength.{arc_rank, smaller}

-- whether two arcs have by the page's sequence the answer that they had by their numbers
abbrev pub answers_alike : ℕ → ℕ → Bool
answers_alike a b = eqb (ordering_number (smaller (arc_rank a) (arc_rank b))) (ordering_number (smaller a b))

pub forty-nine : all_below (λ a. all_below (answers_alike a) 7) 7 ≡ true
unfolding arc_rank smaller
forty-nine = refl
