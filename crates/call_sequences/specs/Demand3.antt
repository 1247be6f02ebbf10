-- Demand 3 (document 00), of the bytes of an arena: the calls that write a graph, what a list of
-- them leaves, where it may begin, and the claim. Its clauses about the graph, with the demand's
-- words, are those of laws/specs/Demand3Clauses.antt. Each call is the one function that its
-- contract cites (crates/call_sequences); what an arena holds is `decode`. The theorem is `demand3`
-- in proofs/Demand3Proof.antt.
use Rattle.std.specs.Prelude.{None, Option, Some}
use Rattle.model.specs.declared.NodeId.{NodeId}
use Rattle.std.specs.Prelude.{◌≡◌, Bool, true, List, [], ◌∷◌, ℕ, ◌<◌, length}
use Rattle.model.specs.Lists.{All}
use Rattle.model.specs.Graph.{empty_graph, size}
use Rattle.model.specs.Erasing.{erasable}
use Rattle.model.specs.Calls.{Outcome, init_root, add_child, finalize_strength_order, cull, append_child_name, read_into, mark, set_first_spec, set_has_specs, set_restriction_depth}
use Rattle.model.specs.Arena.{arena_bytes, count_in, decode, holds_graph}
use Rattle.model.specs.ArenaCalls.{ValidArena, on_arena, into_arena, arena_after}
use Rattle.laws.specs.Demand3Clauses.{Listed, Erased, Deepened}
use Rattle.nodes.specs.Describing.{desc_of}
use Rattle.nodes.specs.declared.description.NodeDesc.{NodeDesc}
use Rattle.erasing.specs.Erasures.{erase_in}
use Rattle.deepening.specs.ChildNames.{seed_from}

-- ---- What a call is given: numbers that fit their types, and lent bytes of any length

pub record Below (m : ℕ) : Type 0 where
  pub number : ℕ
  pub small : number < m

abbrev pub U8 : Type 0
U8 = Below 256

abbrev pub U16 : Type 0
U16 = Below 65536

abbrev pub U32 : Type 0
U32 = Below 4294967296

-- a number that may be missing
abbrev pub number_in : Option U16 → Option ℕ
number_in None = None
number_in (Some n) = Some n.number

pub record Slice : Type 0 where
  pub bytes : List ℕ
  pub each : All (λ b. b < 256) bytes

abbrev pub NodeFits : Option NodeId → Type 0
NodeFits (Some n) = n.0 < 4294967296
NodeFits None = Unit {0}

abbrev pub DepthFits : Option ℕ → Type 0
DepthFits (Some d) = d < 65536
DepthFits None = Unit {0}

-- crates/nodes's `NodeDesc`
pub record DescFits (d : NodeDesc) : Type 0 where
  pub arc : d.arc < 256
  pub flags : d.flags < 256
  pub stack : d.stack < 4294967296
  pub layer : d.layer < 4294967296
  pub parent : NodeFits d.parent
  pub origin : NodeFits d.origin
  pub depth : DepthFits d.depth
  pub sibling : d.sibling < 65536
  pub restriction : d.restriction < 65536
  pub spec-from : d.spec_from < 65536
  pub has-specs : d.has_specs < 256

-- ---- "The calls that write a graph (starting, adding, ordering, culling, erasing, deepening, reading a snapshot)"

-- "new calls that write the room join the list" (document 01): those that set fields of one node
pub data Write : Type 0 where
  starting : (stack layer : U32) (path : Slice) → Write
  adding : (desc : NodeDesc) → DescFits desc → (path : Slice) → Write
  ordering : Write
  culling : Write
  erasing : (set : Slice) → Write
  deepening : (child : Slice) → Write
  reading : (snapshot : Slice) → Write
  marking : (n : U32) (flags : U8) → Write
  setting_first_spec : (n : U32) (first : Option U16) → Write
  setting_has_specs : (n : U32) (authored : Bool) → Write
  setting_restriction : (n : U32) (depth : U16) → Write

-- what a call comes to on an arena: refusal, value and graph
abbrev pub outcome : Write → List ℕ → Outcome
outcome (starting stack layer path) bs = on_arena (init_root stack.number layer.number path.bytes) bs
outcome (adding desc fits path) bs = on_arena (add_child (desc_of desc path.bytes)) bs
outcome ordering bs = on_arena finalize_strength_order bs
outcome culling bs = on_arena cull bs
outcome (erasing set) bs = erase_in set.bytes bs
outcome (deepening child) bs = on_arena (append_child_name child.bytes) bs
outcome (reading snapshot) bs = into_arena (read_into snapshot.bytes empty_graph) bs
outcome (marking n flags) bs = on_arena (mark n.number flags.number) bs
outcome (setting_first_spec n first) bs = on_arena (set_first_spec n.number (number_in first)) bs
outcome (setting_has_specs n authored) bs = on_arena (set_has_specs n.number authored) bs
outcome (setting_restriction n depth) bs = on_arena (set_restriction_depth n.number depth.number) bs

-- the arena after a call, refused ones included, and after a list: "Each call, with any arguments,
-- gets the room as the last left it"
abbrev pub step : Write → List ℕ → List ℕ
step c bs = arena_after (outcome c bs) bs

abbrev pub steps : List Write → List ℕ → List ℕ
steps [] bs = bs
steps (c ∷ cs) bs = steps cs (step c bs)

-- ---- "From an empty room or one just filled by reading or seeding"

-- what seeding comes to, from one arena into a second
abbrev pub seeding : Slice → List ℕ → List ℕ → Outcome
seeding child from into = into_arena (seed_from child.bytes from) into

-- bytes of an arena's length, of any content
pub record Lent (bs : List ℕ) : Type 0 where
  pub bytes : All (λ b. b < 256) bs
  pub whole : length bs ≡ arena_bytes

pub data Start : List ℕ → Type 0 where
  -- question 2 passes with no node; "A room whose bytes are all zero is the empty graph"
  -- (proofs/Demand3Proof.antt, `zeros-start`)
  empty : {bs : List ℕ} → Lent bs → holds_graph bs ≡ true → count_in bs ≡ 0 → Start bs
  read : {bs : List ℕ} (snapshot : Slice) (into : List ℕ) → Lent into → (outcome (reading snapshot) into).refused ≡ 0
      → bs ≡ step (reading snapshot) into → Start bs
  -- "Seeding fills from a graph that such a list left"
  seeded : {bs : List ℕ} (from : List ℕ) (cs : List Write) (child : Slice) (into : List ℕ) → Start from → Lent into
      → (seeding child (steps cs from) into).refused ≡ 0 → bs ≡ arena_after (seeding child (steps cs from) into) into → Start bs

-- ---- The calls that the clauses name

-- the erasable set is given to erasing; the arena after it
abbrev pub erasing_all : List ℕ → Outcome
erasing_all bs = erase_in (erasable (decode bs)) bs

abbrev pub rest : List ℕ → List ℕ
rest bs = arena_after (erasing_all bs) bs

-- of the bytes, that "ordering afresh changes nothing": the call is accepted and leaves every byte
pub record AfreshBytes (bs : List ℕ) : Type 0 where
  pub accepted : (outcome ordering bs).refused ≡ 0
  pub bytes : step ordering bs ≡ bs

-- ---- The claim

pub record Demand3 (bs : List ℕ) : Type 0 where
  -- questions 1 and 2 never refuse the arena
  pub opened : ValidArena bs
  pub listed : (decode bs).ordered ≡ true → Listed (decode bs)
  -- without a node 0 erasing is refused 3, and there is nothing to erase
  pub erased : 0 < size (decode bs) → Erased (decode bs) (erasing_all bs).refused (erasing_all bs).value (decode (rest bs))
  pub afresh : 0 < size (decode bs) → (decode bs).ordered ≡ true → AfreshBytes (rest bs)
  pub deepened : (decode bs).finalized ≡ true → (child : Slice) → Deepened (decode bs) (decode (step (deepening child) bs))

-- "For every list of the calls that write a graph ..., refused ones included, ... this holds after
-- it."
abbrev pub Demand3AfterEveryList : Type 0
Demand3AfterEveryList = (bs : List ℕ) → Start bs → (cs : List Write) → Demand3 (steps cs bs)
