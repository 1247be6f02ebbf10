-- The calls that set fields of one node leave a graph legal, ordered and finalized as it was: they
-- set nothing that a comparison sees. Assumes nothing.
use Rattle.std.specs.Prelude.{None, Option, Some}
use mathlib.Core.Path.{◌≡◌, refl, ◌∙◌}
use mathlib.Core.Bool.{Bool, true, false, ◌&&◌, cond, and-eq-true_iff}
use mathlib.Core.List.{List, [], ◌∷◌}
use Prim.Native.Nat.{ℕ, ◌≤◌, ◌<◌}
use native.Mathlib.Omega.{arith}
use lib.Dec.{eqb, ltb}
use lib.ListN.{length-set}
use borrow.Author.Tests.{eq-eqb, ltb-true, not-true}
use Rattle.model.specs.Node.{root_arc, inert_flag, culled_flag, has_specializes_flag, has_flag, with_flag, Node, is_inert, is_culled}
use Rattle.model.specs.Graph.{Graph, size, node_at}
use Rattle.model.specs.Setting.{with_site, with_given, with_flags, marked, may_mark, with_first_spec, restricted_at, with_record}
use Rattle.model.specs.Refusals.{Question, ask}
use Rattle.model.specs.Calls.{has_node_zero, sets, mark, set_first_spec, set_has_specs, set_restriction_depth}
use Rattle.laws.proofs.FlagLaws.{given-keeps}
use Rattle.laws.proofs.SeenLaws.{SameSeen, seen-itself, node-set}
use Rattle.laws.proofs.LegalGraphs.{Legal}
use Rattle.laws.proofs.LegalAlike.{OnlySet, only-set-legal}
use Rattle.laws.proofs.AcceptedQuestions.{Accepted, numbered, decided-keeps}

-- ---- Flags

-- INERT is bit 0, CULLED 1, PROHIBITED_CHILDREN 2 and HAS_SPECIALIZES 3
module _ (given f : ℕ) where
  -- with INERT, and with CULLED too, if they are given
  abbrev inert : ℕ
  inert = with_given inert_flag given f

  abbrev culled : ℕ
  culled = with_given culled_flag given inert

  special-kept : has_flag has_specializes_flag (with_flags given f) ≡ has_flag has_specializes_flag f
  special-kept =
      given-keeps 2 3 given culled (λ e. omega arith) ∙ given-keeps 1 3 given inert (λ e. omega arith)
      ∙ given-keeps 0 3 given f (λ e. omega arith)

  inert-stays : has_flag inert_flag f ≡ true → has_flag inert_flag (with_flags given f) ≡ true
  inert-stays e =
      given-keeps 2 0 given culled (λ e. omega arith) ∙ given-keeps 1 0 given inert (λ e. omega arith)
      ∙ go (has_flag inert_flag given)
    where
      go : (b : Bool) → has_flag inert_flag (cond b (with_flag inert_flag f) f) ≡ true
      go true = rw e e
      go false = e

  unculled-stays : has_flag culled_flag given ≡ false → has_flag culled_flag (with_flags given f) ≡ has_flag culled_flag f
  unculled-stays e = given-keeps 2 1 given culled (λ e. omega arith) ∙ rw e (given-keeps 0 1 given f (λ e. omega arith))

-- ---- One record more

-- x may stand for node n
pub record Settable (g : Graph) (n : ℕ) (x : Node) : Type 0 where
  pub below : n < size g
  pub seen : SameSeen (node_at g.nodes n) x
  pub inert : is_inert (node_at g.nodes n) ≡ true → is_inert x ≡ true
  pub specs : x.has_specs ≤ 1
  pub root-unculled : (node_at g.nodes n).arc ≡ root_arc → is_culled x ≡ false

pub record-only-set : (g : Graph) (n : ℕ) (x : Node) → Legal g → Settable g n x → OnlySet g (with_record g n x)
unfolding with_record
record-only-set g n x legal new = record {
  seen = record {
    same_length = length-set g.nodes n x;
    node = λ m. node-set g.nodes n m x (SameSeen (node_at g.nodes m)) (λ e. rw e new.seen) (seen-itself (node_at g.nodes m));
  };
  children = refl;
  order = refl;
  ordered = refl;
  finalized = refl;
  shallow = refl;
  inert = λ some-node.
      let old = (legal.node-0 some-node).inert in
      node-set g.nodes n 0 x (λ y. is_inert y ≡ true) (λ e. new.inert (rw (← e) old)) old;
  specs = λ m l. node-set g.nodes n m x (λ y. y.has_specs ≤ 1) (λ e. new.specs) (legal.node m l).has-specs;
  root-unculled = λ m l r.
      node-set g.nodes n m x (λ y. is_culled y ≡ false) (λ e. new.root-unculled (rw (← e) r)) ((legal.node m l).root-unculled r);
}

-- ---- The calls

sets-keeps-legal : (n : ℕ) (questions : List Question) (f : Node → Node) (g : Graph) → numbered questions ≡ true
    → (Accepted (has_node_zero g ∷ ask 4 (ltb n (size g)) ∷ questions) → Legal g → Settable g n (f (node_at g.nodes n)))
    → Legal g → Legal (sets n questions f g).graph
sets-keeps-legal n questions f g numbers new legal =
    decided-keeps (has_node_zero g ∷ ask 4 (ltb n (size g)) ∷ questions) g 0 (with_record g n (f (node_at g.nodes n))) Legal numbers
    (λ a. only-set-legal g (with_record g n (f (node_at g.nodes n))) legal
    (record-only-set g n (f (node_at g.nodes n)) legal (new a legal))) legal

-- other fields that no comparison sees, with the same flags
site-settable : (g : Graph) (n restriction spec_from has_specs : ℕ) → Legal g → n < size g → has_specs ≤ 1
    → Settable g n (with_site (node_at g.nodes n).flags restriction spec_from has_specs (node_at g.nodes n))
site-settable g n restriction spec_from has_specs legal l small = record {
  below = l;
  seen = record { arc = refl; special = refl; stack = refl; parent = refl; origin = refl; depth = refl; sibling = refl; path = refl };
  inert = λ e. e;
  specs = small;
  root-unculled = (legal.node n l).root-unculled;
}

pub marking-keeps-legal : (n flags : ℕ) (g : Graph) → Legal g → Legal (mark n flags g).graph
unfolding mark
marking-keeps-legal n flags g =
    sets-keeps-legal n (ask 6 (may_mark flags (node_at g.nodes n).arc) ∷ []) (marked flags) g refl
    (λ a legal. settable legal (ltb-true n (size g) (a 4)) (a 6))
  where
    x : Node
    x = node_at g.nodes n

    settable : Legal g → n < size g → may_mark flags x.arc ≡ true → Settable g n (marked flags x)
    settable legal l may = record {
      below = l;
      seen = record {
        arc = refl;
        special = special-kept flags x.flags;
        stack = refl;
        parent = refl;
        origin = refl;
        depth = refl;
        sibling = refl;
        path = refl;
      };
      inert = inert-stays flags x.flags;
      specs = (legal.node n l).has-specs;
      root-unculled = λ root.
          let clear = not-true (eqb x.arc root_arc && has_flag culled_flag flags) ((and-eq-true_iff (ltb flags 8) _).0 may).1 in
          unculled-stays flags x.flags (rw (eq-eqb x.arc root_arc root) at clear) ∙ (legal.node n l).root-unculled root;
    }

pub first-spec-keeps-legal : (n : ℕ) (first : Option ℕ) (g : Graph) → Legal g → Legal (set_first_spec n first g).graph
unfolding set_first_spec
first-spec-keeps-legal n first g =
    sets-keeps-legal n [] (with_first_spec first) g refl (λ a legal. settable first legal (ltb-true n (size g) (a 4)))
  where
    settable : (o : Option ℕ) → Legal g → n < size g → Settable g n (with_first_spec o (node_at g.nodes n))
    settable None legal l = site-settable g n (node_at g.nodes n).restriction 0 0 legal l (omega arith)
    settable (Some p) legal l = site-settable g n (node_at g.nodes n).restriction p 1 legal l (omega arith)

pub has-specs-keeps-legal : (n : ℕ) (authored : Bool) (g : Graph) → Legal g → Legal (set_has_specs n authored g).graph
unfolding set_has_specs
has-specs-keeps-legal n authored = first-spec-keeps-legal n (cond authored (Some 0) None)

pub restriction-keeps-legal : (n depth : ℕ) (g : Graph) → Legal g → Legal (set_restriction_depth n depth g).graph
unfolding set_restriction_depth
restriction-keeps-legal n depth g =
    sets-keeps-legal n [] (restricted_at depth) g refl (λ a legal.
    let l = ltb-true n (size g) (a 4) in
    site-settable g n depth (node_at g.nodes n).spec_from (node_at g.nodes n).has_specs legal l (legal.node n l).has-specs)
