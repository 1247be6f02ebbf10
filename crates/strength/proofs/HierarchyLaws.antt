-- The answers of `starting_node_of_class_hierarchy`, beside laws/proofs/ArenaCallLaws.antt. Assumes
-- nothing.
use Rattle.std.specs.Prelude.{Some, Ok, Err}
use mathlib.Core.Path.{◌≡◌, sym, ap, ◌∙◌}
use mathlib.Core.List.{List}
use Prim.Native.Nat.{ℕ}
use borrow.Author.Tests.{eq-eqb, ne_eqb}
use Rattle.model.specs.Answers.{node_option}
use Rattle.model.specs.Node.{optional}
use Rattle.model.specs.Refusals.{refusal_number, Question, refusal}
use Rattle.model.specs.declared.Refusal.{Refusal}
use Rattle.laws.proofs.ArenaCallLaws.{refusal-some}
use Rattle.strength.specs.declared.calls.Hierarchy.{Hierarchy}
use Rattle.strength.specs.Hierarchies.{HierarchyAnswers}

module _ (questions : List Question) (instance class : ℕ) where
  pub no-hierarchy : (r : Refusal) → refusal_number r ≡ refusal questions → HierarchyAnswers questions instance class (Err r)
  no-hierarchy r e =
      let no = ne_eqb (refusal questions) 0 (λ z. refusal-some r (e ∙ z)) in
      record { refused = e; instance-node = rw no; class-node = rw no }

  pub one-hierarchy : (x : Hierarchy) → refusal questions ≡ 0 → x.instance.0 ≡ instance → node_option x.class_node ≡ optional class
      → HierarchyAnswers questions instance class (Ok x)
  one-hierarchy x e p q =
      let asked = eq-eqb (refusal questions) 0 e in
      record { refused = sym e; instance-node = rw asked (ap Some p); class-node = rw asked q }
