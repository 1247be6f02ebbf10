-- The questions that the two calls put are document 01's: `start-accepted`, `add-accepted`; the
-- records that they append are the definitions' nodes: `start-node`, `added-node`. Assumes nothing.
use Rattle.std.specs.Prelude.{Err, None, Ok, Option, Some}
use mathlib.Core.Path.{◌≡◌, refl, sym, ap, ◌∙◌}
use mathlib.Core.Bool.{Bool, true, false, not, ◌&&◌, and-eq-true_iff}
use mathlib.Core.List.{List, [], ◌∷◌}
use Prim.Native.Nat.{ℕ, ◌+◌, ◌≤◌, ◌<◌}
use native.Mathlib.Omega.{arith}
use lib.Dec.{eqb, leb}
use lib.ListN.{length}
use borrow.Author.Tests.{eq-eqb, ne_eqb, lt-ltb, ltb-true, le-leb}
use Rattle.model.specs.Path.{well_formed, prim_count}
use Rattle.model.specs.Node as model
use Rattle.model.specs.Node.{root_arc, is_culled}
use Rattle.model.specs.Graph.{Graph, size, with_node}
use Rattle.model.specs.Refusals.{refusal_number, Question, ask, refusal, path_bytes, arc_allowed, links_allowed, record_questions}
use Rattle.model.specs.Calls as calls
use Rattle.model.specs.Answers.{node_option}
use Rattle.model.specs.Calls.{decided, has_node_zero, init_root, given_or, prims_over, given_below, default_depth, added_node, root_node, add_child}
use Rattle.model.specs.Arena.{count_in, decode, encode}
use Rattle.model.specs.ArenaCalls.{ValidArena, ValidNode, on_arena, Wrote, ask_arena}
use Rattle.model.specs.declared.NodeId.{NodeId}
use Rattle.model.specs.declared.Refusal.{Refusal}
use Rattle.model.specs.declared.Refusal.TheVariants.{NodeZero, Path}
use Rattle.laws.proofs.ArenaCallLaws.{refused-before, asked-on, on-arena-asks, wrote-decided-refused, wrote-decided}
use Rattle.laws.proofs.AcceptedQuestions.{none-refused-accepted}
use Rattle.laws.proofs.PathGrammar.{well-formed-length}
use Rattle.arena.specs.Slot.{node_of}
use Rattle.arena.proofs.HeldArenas.{held}
use Rattle.arena.proofs.ReadNodes.{sizes, has-slot, node-read}
use Rattle.validate.proofs.AskingLaws.{node-zero-passed}
use Rattle.child_lists.specs.Append.{CanAppend}
use Rattle.nodes.specs.declared.description.NodeDesc.{NodeDesc}
use Rattle.nodes.specs.Describing.{desc_of, add_questions, HasSlotIn, prims_read, added_record}
use Rattle.nodes.proofs.DescribingLaws.{links-asked}
use Rattle.nodes.specs.Adding.{start_record}

-- ---- Starting

pub start-accepted : (g : Graph) (stack layer : ℕ) (path : List ℕ) → size g ≡ 0 → path_bytes g.nodes ≡ 0 → well_formed path ≡ true
    → refusal (record_questions g (root_node stack layer path)) ≡ 0
start-accepted g stack layer path new empty formed =
    rw (
      eq-eqb (size g) 0 new,
      formed,
      lt-ltb (size g) 1024 (omega arith),
      le-leb (path_bytes g.nodes + length path) 32768 (omega (arith, well-formed-length path formed)),
    )

pub start-node : (stack layer prims : ℕ) (path : List ℕ) → prims ≡ prim_count path → node_of (start_record stack layer prims (length path)) path ≡ root_node stack layer path
start-node stack layer prims path e = ap (λ (n : ℕ). node_of (start_record stack layer n (length path)) path) e

-- ---- Adding

module _ (g : Graph) (d : calls.NodeDesc) (some-node : 0 < size g) where
  abbrev x : model.Node
  x = added_node g d

  -- what may be added may be read
  pub add-accepted : refusal (add_questions g d) ≡ 0 → refusal (record_questions g x) ≡ 0
  add-accepted e =
      let passes = none-refused-accepted (add_questions g d) refl e in
      let links : links_allowed g x ≡ true = rw (ne_eqb (size g) 0 (λ z. omega arith)) (links-asked g d some-node ∙ passes 4) in
      rw (links, passes 5, added-read (arc_allowed g x) (is_culled x) (leb x.has_specs 1) (passes 6), passes 7)
    where
      added-read : (arcs culled specs : Bool) → (arcs && (not culled && specs)) ≡ true → (arcs && (not (eqb x.arc root_arc && culled) && specs)) ≡ true
      added-read true true specs k = absurd (let z : ◌≡◌ {A = ℕ} 0 1 = cc in omega arith)
      added-read true false specs k = go (eqb x.arc root_arc)
        where
          go : (a : Bool) → (not (a && false) && specs) ≡ true
          go true = k
          go false = k
      added-read false culled specs k = k

-- ---- The record of a node that is added

module _ (bs : List ℕ) (o : ValidArena bs) (desc : NodeDesc) (path : List ℕ) (some-node : 0 < count_in bs) where
  abbrev d : calls.NodeDesc
  d = desc_of desc path

  abbrev g : Graph
  g = decode bs

  parent-asked : refusal (add_questions g d) ≡ 0 → given_below (size g) (node_option desc.parent) ≡ true
  parent-asked e =
      ((and-eq-true_iff (given_below (size g) d.parent) (given_below (size g) d.origin)).0
      (none-refused-accepted (add_questions g d) refl e 4)).0

  -- a parent that is given is a node
  parent-below : (parent : NodeId) → given_below (size g) (Some parent.0) ≡ true → ValidNode bs parent.0
  parent-below parent e =
      record { opened = o; below = omega (arith, ltb-true parent.0 (size g) e, sizes bs o) }

  pub parent-slot : refusal (add_questions g d) ≡ 0 → HasSlotIn desc.parent
  parent-slot e = go desc.parent (parent-asked e)
    where
      go : (parent : Option NodeId) → given_below (size g) (node_option parent) ≡ true → HasSlotIn parent
      go (Some parent) t = (has-slot bs parent.0 (parent-below parent t)).within
      go None t = tt

  -- the depth that a missing one becomes
  default-read : (prims : ℕ) → refusal (add_questions g d) ≡ 0 → prims ≡ prim_count path → prims_read bs desc.parent prims ≡ default_depth g d
  default-read prims e p = go desc.parent (parent-asked e)
    where
      go : (parent : Option NodeId) → given_below (size g) (node_option parent) ≡ true
          → prims_read bs parent prims ≡ prims_over g.nodes (node_option parent) path
      go (Some parent) t =
          let there = parent-below parent t in
          ((held bs o.holds).node parent.0 there.below).prim-count
          ∙ ap (λ (y : model.Node). prim_count y.path) (sym (node-read bs parent.0 there))
      go None t = p

  pub added-node : (prims : ℕ) → refusal (add_questions g d) ≡ 0 → prims ≡ prim_count path
      → node_of (added_record bs desc prims (length path)) path ≡ added_node g d
  added-node prims e p =
      let depth = ap (given_or desc.depth) (default-read prims e p) in
      λ i. record {
        arc = desc.arc;
        flags = desc.flags;
        stack = desc.stack;
        layer = desc.layer;
        parent = (added_node g d).parent;
        origin = (added_node g d).origin;
        depth = depth i;
        sibling = desc.sibling;
        restriction = desc.restriction;
        spec_from = desc.spec_from;
        has_specs = desc.has_specs;
        path = path;
      }

  pub can-add : (prims count : ℕ) → refusal (add_questions g d) ≡ 0 → prims ≡ prim_count path → count ≡ count_in bs
      → CanAppend bs count (added_record bs desc prims (length path)) path
  can-add prims count e p c = record {
    opened = o;
    counted = c;
    accepted = ap (λ (y : model.Node). refusal (record_questions g y)) (added-node prims e p) ∙ add-accepted g d (omega (arith, sizes bs o)) e;
    named = p;
    long = refl;
  }

  pub short-path : refusal (add_questions g d) ≡ 0 → length path ≤ 255
  short-path e = well-formed-length path (none-refused-accepted (add_questions g d) refl e 5)

-- ---- The ways that the calls end

module _ (bs : List ℕ) (d : calls.NodeDesc) where
  -- questions 1 and 2 and the call's own, in one list
  abbrev add_asked : List Question
  add_asked = ask_arena bs (has_node_zero (decode bs) ∷ add_questions (decode bs) d)

  abbrev added : Graph
  added = with_node (decode bs) (added_node (decode bs) d)

  add-asks : on_arena (add_child d) bs ≡ decided add_asked (decode bs) (size (decode bs)) added
  unfolding add_child
  add-asks = on-arena-asks bs (add_child d) (has_node_zero (decode bs) ∷ add_questions (decode bs) d) (size (decode bs)) added refl

  refused-by : (r : Refusal) → refusal_number r ≡ refusal add_asked → Wrote (on_arena (add_child d) bs) bs (Err r) bs
  refused-by r e = rw add-asks (wrote-decided-refused add_asked (decode bs) (size (decode bs)) added bs r e)

  -- by questions 1 to 3
  pub add-refused-first : (r : Refusal) → refusal_number r ≡ refusal (ask_arena bs (has_node_zero (decode bs) ∷ []))
      → Wrote (on_arena (add_child d) bs) bs (Err r) bs
  add-refused-first r e = refused-by r (refused-before r (ask_arena bs (has_node_zero (decode bs) ∷ [])) (add_questions (decode bs) d) e)

  module _ (o : ValidArena bs) (some-node : 0 < count_in bs) where
    node-left : refusal add_asked ≡ refusal (add_questions (decode bs) d)
    node-left = node-zero-passed bs (add_questions (decode bs) d) o some-node

    pub add-refused : (r : Refusal) → refusal_number r ≡ refusal (add_questions (decode bs) d) → Wrote (on_arena (add_child d) bs) bs (Err r) bs
    add-refused r e = refused-by r (e ∙ sym node-left)

    pub add_done : (after : List ℕ) (n : ℕ) → refusal (add_questions (decode bs) d) ≡ 0 → n ≡ count_in bs → after ≡ encode added bs
        → Wrote (on_arena (add_child d) bs) bs (Ok n) after
    add_done after n e c a =
        rw add-asks (wrote-decided add_asked (decode bs) (size (decode bs)) added bs after n (node-left ∙ e) (c ∙ sym (sizes bs o)) a)

module _ (bs : List ℕ) (stack layer : ℕ) (path : List ℕ) where
  abbrev start_questions : List Question
  start_questions = ask 3 (eqb (size (decode bs)) 0) ∷ ask 5 (well_formed path) ∷ []

  abbrev started : Graph
  started = with_node (decode bs) (root_node stack layer path)

  start-asks : on_arena (init_root stack layer path) bs ≡ decided (ask_arena bs start_questions) (decode bs) 0 started
  unfolding init_root
  start-asks = on-arena-asks bs (init_root stack layer path) start_questions 0 started refl

  refused-start : (r : Refusal) → refusal_number r ≡ refusal (ask_arena bs start_questions)
      → Wrote (on_arena (init_root stack layer path) bs) bs (Err r) bs
  refused-start r e = rw start-asks (wrote-decided-refused (ask_arena bs start_questions) (decode bs) 0 started bs r e)

  -- by questions 1 and 2
  pub start-refused : (r : Refusal) → refusal_number r ≡ refusal (ask_arena bs []) → Wrote (on_arena (init_root stack layer path) bs) bs (Err r) bs
  start-refused r e = refused-start r (refused-before r (ask_arena bs []) start_questions e)

  module _ (o : ValidArena bs) where
    pub start-over : (count_in bs ≡ 0 → ⊥) → Wrote (on_arena (init_root stack layer path) bs) bs (Err NodeZero) bs
    start-over e =
        refused-start NodeZero (sym (asked-on bs start_questions o ∙ rw (ne_eqb (size (decode bs)) 0 (λ z. e (sym (sizes bs o) ∙ z)))))

    module _ (None : count_in bs ≡ 0) where
      empty : size (decode bs) ≡ 0
      empty = sizes bs o ∙ None

      path-left : refusal (ask_arena bs start_questions) ≡ refusal (ask 5 (well_formed path) ∷ [])
      path-left = asked-on bs start_questions o ∙ rw (eq-eqb (size (decode bs)) 0 empty)

      pub start-malformed : well_formed path ≡ false → Wrote (on_arena (init_root stack layer path) bs) bs (Err Path) bs
      start-malformed e = refused-start Path (sym (path-left ∙ rw e))

      pub start-done : (after : List ℕ) → well_formed path ≡ true → after ≡ encode started bs
          → Wrote (on_arena (init_root stack layer path) bs) bs (Ok 0) after
      start-done after e a = rw start-asks (wrote-decided (ask_arena bs start_questions) (decode bs) 0 started bs after 0 (path-left ∙ rw e) refl a)

      no_bytes : (ns : List model.Node) → length ns ≡ 0 → path_bytes ns ≡ 0
      no_bytes [] e = refl
      no_bytes (y ∷ ns) e = absurd (omega arith)

      pub can-start : (prims : ℕ) → well_formed path ≡ true → prims ≡ prim_count path → CanAppend bs 0 (start_record stack layer prims (length path)) path
      can-start prims e p = record {
        opened = o;
        counted = sym None;
        accepted = ap (λ (y : model.Node). refusal (record_questions (decode bs) y)) (start-node stack layer prims path p)
            ∙ start-accepted (decode bs) stack layer path empty (no_bytes (decode bs).nodes empty) e;
        named = p;
        long = refl;
      }
