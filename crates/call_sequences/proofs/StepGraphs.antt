-- What each call of specs/Demand3.antt does to the graph: it is a call of model/specs/Calls.antt,
-- but that an erase set of another size is refused (`graph_step`); and the arena after a list of
-- them holds what they make of the graph: `steps-arena`. Assumes nothing.
use Rattle.std.specs.Prelude.{Option}
use Rattle.std.specs.Prelude.{None, Some}
use mathlib.Core.Path.{◌≡◌, refl, sym, ap, subst, ◌∙◌}
use mathlib.Core.Bool.{Bool, true, false, cond}
use mathlib.Core.List.{List, [], ◌∷◌}
use Prim.Native.Nat.{ℕ, zero, suc}
use native.Mathlib.Omega.{arith}
use lib.Dec.{eqb}
use lib.ListN.{length}
use borrow.Author.Tests.{eq-eqb, ne_eqb}
use Rattle.model.specs.Graph.{Graph, empty_graph}
use Rattle.model.specs.Calls as calls
use Rattle.model.specs.Calls.{Outcome, unchanged, Call, call, read_into, erase_set}
use Rattle.model.specs.Arena.{arena_bytes, decode, encode}
use Rattle.model.specs.ArenaCalls.{on_arena, into_arena, arena_after}
use Rattle.laws.proofs.SnapshotReadLaws.{accepted-read, grown-read, refused-read-keeps}
use Rattle.nodes.specs.Describing.{desc_of}
use Rattle.nodes.specs.declared.description.NodeDesc.{NodeDesc}
use Rattle.erasing.specs.Erasures.{erase_in}
use Rattle.call_sequences.proofs.AddingKeeps.{DepthFits}
use Rattle.call_sequences.proofs.ReadingKeeps.{reading-encodable}
use Rattle.call_sequences.proofs.KeepEncodable.{CallFits, Arena, ArenaOf, encoded-arena, call-arena}
use Rattle.call_sequences.specs.Demand3 as bytes
use Rattle.call_sequences.specs.Demand3.{U16, number_in, Slice, DescFits, Write, starting, adding, ordering, culling, erasing, deepening, reading, marking, setting_first_spec, setting_has_specs, setting_restriction, step, steps}

abbrev pub call_of : Write → Call
call_of (starting stack layer path) = calls.starting stack.number layer.number path.bytes
call_of (adding desc fits path) = calls.adding (desc_of desc path.bytes)
call_of ordering = calls.orders
call_of culling = calls.culls
call_of (erasing set) = calls.erasing set.bytes
call_of (deepening child) = calls.deepening child.bytes
call_of (reading snapshot) = calls.reading snapshot.bytes
call_of (marking n flags) = calls.marking n.number flags.number
call_of (setting_first_spec n first) = calls.setting_first_spec n.number (number_in first)
call_of (setting_has_specs n authored) = calls.setting_has_specs n.number authored
call_of (setting_restriction n depth) = calls.setting_restriction n.number depth.number

-- question 1 of a second buffer
abbrev pub is_sized : Write → Bool
is_sized (starting stack layer path) = true
is_sized (adding desc fits path) = true
is_sized ordering = true
is_sized culling = true
is_sized (erasing set) = eqb (length set.bytes) 1024
is_sized (deepening child) = true
is_sized (reading snapshot) = true
is_sized (marking n flags) = true
is_sized (setting_first_spec n first) = true
is_sized (setting_has_specs n authored) = true
is_sized (setting_restriction n depth) = true

abbrev pub graph_step : Write → Graph → Graph
graph_step c g = cond (is_sized c) (call (call_of c) g).graph g

abbrev pub graph_steps : List Write → Graph → Graph
graph_steps [] g = g
graph_steps (c ∷ cs) g = graph_steps cs (graph_step c g)

-- ---- The numbers

desc-fits : (d : NodeDesc) → DescFits d → (path : Slice) → CallFits (calls.adding (desc_of d path.bytes))
desc-fits d fits path = (
  record {
    flags = fits.flags;
    stack = fits.stack;
    layer = fits.layer;
    depth = omega arith;
    sibling = fits.sibling;
    restriction = fits.restriction;
    spec_from = fits.spec-from;
    path_bytes = path.each;
  },
  deep d.depth fits.depth,
)
  where
    deep : (x : Option ℕ) → bytes.DepthFits x → DepthFits x
    deep (Some n) h = h
    deep None h = tt

first_fits : (first : Option U16) → DepthFits (number_in first)
first_fits None = tt
first_fits (Some n) = n.small

pub call_fits : (c : Write) → CallFits (call_of c)
call_fits (starting stack layer path) = (stack.small, layer.small, path.each)
call_fits (adding desc fits path) = desc-fits desc fits path
call_fits ordering = tt
call_fits culling = tt
call_fits (erasing set) = tt
call_fits (deepening child) = child.each
call_fits (reading snapshot) = snapshot.each
call_fits (marking n flags) = tt
call_fits (setting_first_spec n first) = first_fits first
call_fits (setting_has_specs n authored) = tt
call_fits (setting_restriction n depth) = depth.small

-- ---- Reading: what was there does not matter

-- an outcome that is accepted, and one that is not
pub left-accepted : (o : Outcome) (bs : List ℕ) → o.refused ≡ 0 → arena_after o bs ≡ encode o.graph bs
left-accepted o bs e = rw (eq-eqb o.refused 0 e)

left-refused : (o : Outcome) (bs : List ℕ) → (o.refused ≡ 0 → ⊥) → arena_after o bs ≡ bs
left-refused o bs h = rw (ne_eqb o.refused 0 h)

read-anywhere : (bytes : List ℕ) (old other : Graph) → (read_into bytes old).refused ≡ 0 → read_into bytes other ≡ read_into bytes old
read-anywhere bytes old other e =
    let read = accepted-read bytes old e in
    grown-read bytes other read.nodes read.read read.grow ∙ sym read.answer

pub into-whole : (o : Outcome) (bs : List ℕ) → length bs ≡ arena_bytes → into_arena o bs ≡ o
unfolding into_arena
into-whole o bs whole = rw (eq-eqb (length bs) arena_bytes whole)

read-arena : (snapshot : Slice) (bs : List ℕ) → Arena bs → ArenaOf (read_into snapshot.bytes (decode bs)).graph (step (reading snapshot) bs)
read-arena snapshot bs a = rw (into-whole o bs a.opened.whole) (go (read_into snapshot.bytes (decode bs)).refused refl)
  where
    o : Outcome
    o = read_into snapshot.bytes empty_graph

    go : (r : ℕ) → (read_into snapshot.bytes (decode bs)).refused ≡ r → ArenaOf (read_into snapshot.bytes (decode bs)).graph (arena_after o bs)
    go zero e =
        let same = read-anywhere snapshot.bytes (decode bs) empty_graph e in
        rw (left-accepted o bs (ap (λ (o : Outcome). o.refused) same ∙ e), same)
        (encoded-arena (read_into snapshot.bytes (decode bs)).graph bs (reading-encodable snapshot.bytes snapshot.each (decode bs) e) a.bytes
        a.opened.whole)
    go (suc r) e =
        let refused : o.refused ≡ 0 → ⊥ =
        λ z. let same = ap (λ (o : Outcome). o.refused) (read-anywhere snapshot.bytes empty_graph (decode bs) z) in omega arith in
        rw (left-refused o bs refused)
        (record { arena = a; graph = sym (ap (λ (o : Outcome). o.graph) (refused-read-keeps snapshot.bytes (decode bs) (λ z. omega arith))) })

-- ---- The arena after a call, and after a list

erase-arena : (set : Slice) (bs : List ℕ) → Arena bs → ArenaOf (graph_step (erasing set) (decode bs)) (step (erasing set) bs)
unfolding erase_in
erase-arena set bs a = rw (eq-eqb (length bs) arena_bytes a.opened.whole) (go (eqb (length set.bytes) 1024))
  where
    go : (t : Bool) → ArenaOf (cond t (erase_set set.bytes (decode bs)).graph (decode bs))
        (arena_after (cond t (on_arena (erase_set set.bytes) bs) (unchanged 1 (decode bs))) bs)
    go true = call-arena (calls.erasing set.bytes) bs tt a
    go false = record { arena = a; graph = refl }

step-arena : (c : Write) (bs : List ℕ) → Arena bs → ArenaOf (graph_step c (decode bs)) (step c bs)
step-arena (starting stack layer path) bs a = call-arena (call_of (starting stack layer path)) bs (call_fits (starting stack layer path)) a
step-arena (adding desc fits path) bs a = call-arena (call_of (adding desc fits path)) bs (call_fits (adding desc fits path)) a
step-arena ordering bs a = call-arena calls.orders bs tt a
step-arena culling bs a = call-arena calls.culls bs tt a
step-arena (erasing set) bs a = erase-arena set bs a
step-arena (deepening child) bs a = call-arena (call_of (deepening child)) bs (call_fits (deepening child)) a
step-arena (reading snapshot) bs a = read-arena snapshot bs a
step-arena (marking n flags) bs a = call-arena (call_of (marking n flags)) bs tt a
step-arena (setting_first_spec n first) bs a = call-arena (call_of (setting_first_spec n first)) bs (first_fits first) a
step-arena (setting_has_specs n authored) bs a = call-arena (call_of (setting_has_specs n authored)) bs tt a
step-arena (setting_restriction n depth) bs a = call-arena (call_of (setting_restriction n depth)) bs depth.small a

pub steps-arena : (cs : List Write) (bs : List ℕ) → Arena bs → ArenaOf (graph_steps cs (decode bs)) (steps cs bs)
steps-arena [] bs a = record { arena = a; graph = refl }
steps-arena (c ∷ cs) bs a =
    let here = step-arena c bs a in
    subst (λ (g : Graph). ArenaOf (graph_steps cs g) (steps cs (step c bs))) here.graph (steps-arena cs (step c bs) here.arena)
