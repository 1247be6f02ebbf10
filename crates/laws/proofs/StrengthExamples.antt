-- Document 01's ring has a legal view, so that the laws of strength are not about nothing
-- (`looks-like-itself` of StrengthLaws.antt is such a case of `LooksLike`). Its comparisons are in
-- Examples.antt. Assumes nothing.
use Prim.Native.Nat.{ℕ, ◌<◌}
use mathlib.Core.Path.{◌≡◌, refl}
use mathlib.Core.Bool.{Bool, true, ◌||◌, ◌&&◌, and-eq-true_iff}
use native.Mathlib.Omega.{arith}
use lib.Dec.{eqb, ltb}
use borrow.Author.Tests.{ne_eqb, ltb-true}
use Rattle.model.specs.Lists.{all_below}
use Rattle.model.specs.Path.{well_formed, is_name_start}
use Rattle.model.specs.Graph.{with_node, is_local_root}
use Rattle.model.specs.Calls.{init_root, add_child}
use Rattle.model.specs.Strength.{View, view}
use Rattle.laws.proofs.Views.{LegalView}
use Rattle.laws.proofs.ListLaws.{all-below}
use Rattle.model.proofs.ExampleGraphs.{from, ring}

-- ---- Legality by a test of each node

abbrev pub links_fall : View → ℕ → Bool
links_fall u c = eqb c 0 || (ltb (u.parent c) c && ltb (u.origin c) c)

pub legal-by-test : (n : ℕ) (u : View) → all_below (links_fall u) n ≡ true → LegalView n u
legal-by-test n u e = record {
  parent-lower = λ c h p. ltb-true (u.parent c) c (falls c h p).0;
  origin-lower = λ c h p. ltb-true (u.origin c) c (falls c h p).1;
}
  where
    falls : (c : ℕ) → 0 < c → c < n → (ltb (u.parent c) c ≡ true) × (ltb (u.origin c) c ≡ true)
    falls c h p =
        let test : (ltb (u.parent c) c && ltb (u.origin c) c) ≡ true = rw (ne_eqb c 0 (omega arith)) at ((all-below (links_fall u) n).0 e c p) in
        (and-eq-true_iff (ltb (u.parent c) c) (ltb (u.origin c) c)).0 test

-- ---- The ring

ring-legal : LegalView 6 (view (from ring).nodes)
unfolding init_root add_child with_node well_formed is_name_start is_local_root
ring-legal = legal-by-test 6 (view (from ring).nodes) refl
