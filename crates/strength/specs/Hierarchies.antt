-- What the calls of this crate answer, beside model/specs/ArenaCalls.antt's `AnsweredTest` and
-- `AnsweredNode`: where a class hierarchy starts. The definitions that they cite are in
-- model/specs.
use Rattle.std.specs.Prelude.{◌≡◌, cond, Option, None, Some, Result, Ok, Err, List, ℕ, eqb}
use Rattle.model.specs.declared.Refusal.{Refusal}
use Rattle.model.specs.Answers.{node_option, answer_refusal}
use Rattle.model.specs.Node.{optional}
use Rattle.model.specs.Refusals.{Question, refusal}
use Rattle.model.specs.Calls.{reads_node}
use Rattle.model.specs.Strength.{view, starting_node_of_class_hierarchy}
use Rattle.model.specs.Hierarchy.{topmost_class_node}
use Rattle.model.specs.Arena.{decode}
use Rattle.model.specs.ArenaCalls.{ask_arena}
use Rattle.strength.specs.declared.calls.Hierarchy.{Hierarchy}

-- the node that inherits or specializes, and its topmost class; none where the call is refused
abbrev pub hierarchy_instance : Result Hierarchy Refusal → Option ℕ
hierarchy_instance (Ok x) = Some x.instance.0
hierarchy_instance (Err r) = None

abbrev pub hierarchy_class : Result Hierarchy Refusal → Option ℕ
hierarchy_class (Ok x) = node_option x.class_node
hierarchy_class (Err r) = None

pub record HierarchyAnswers (questions : List Question) (instance class : ℕ) (r : Result Hierarchy Refusal) : Type 0 where
  pub refused : answer_refusal r ≡ refusal questions
  pub instance-node : hierarchy_instance r ≡ cond (eqb (refusal questions) 0) (Some instance) None
  pub class-node : hierarchy_class r ≡ cond (eqb (refusal questions) 0) (optional class) None

abbrev pub HierarchyAnswered : List ℕ → ℕ → Result Hierarchy Refusal → Type 0
HierarchyAnswered bs n r =
    let u = view (decode bs).nodes in
    HierarchyAnswers (ask_arena bs (reads_node (decode bs) n)) (starting_node_of_class_hierarchy u n) (topmost_class_node u n) r
