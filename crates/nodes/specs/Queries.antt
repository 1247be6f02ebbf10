-- What the calls that only read answer, beside model/specs/ArenaCalls.antt's `Answered`: a node,
-- and what the header tells. The definitions that they cite are in model/specs.
use Rattle.std.specs.Prelude.{Option, None, Some, Result, IfOk}
use Rattle.model.specs.declared.Refusal.{Refusal}
use Rattle.std.specs.Prelude.{◌≡◌, cond, List, [], ℕ, ◌+◌, length}
use Rattle.model.specs.Path.{prim_count}
use Rattle.model.specs.Graph.{Graph, size, node_at, children_of, has_local_root}
use Rattle.model.specs.Answers.{node_option, answer_refusal}
use Rattle.model.specs.Refusals.{refusal}
use Rattle.model.specs.Calls.{reads_node}
use Rattle.model.specs.Arena.{first_of, last_of, after_in, local_root_of, decode}
use Rattle.model.specs.ArenaCalls.{ask_arena}
use Rattle.arena.specs.declared.Node.{Node}
use Rattle.arena.specs.Slot.{node_of}
use Rattle.nodes.specs.declared.calls.GraphInfo.{GraphInfo}

-- ---- A node

-- x has the fields of node n and its links: the first and last of its children, and the one after
-- it among its parent's; `invalid` for none
pub record NodeShown (g : Graph) (n : ℕ) (x : Node) : Type 0 where
  pub fields : node_of x (node_at g.nodes n).path ≡ node_at g.nodes n
  pub «first-child» : x.first_child.0 ≡ first_of (children_of g n)
  pub «last-child» : x.last_child.0 ≡ last_of (children_of g n)
  pub «next-sibling» : x.next_sibling.0 ≡ after_in n (children_of g (node_at g.nodes n).parent)
  pub «prim-count» : x.prim_count ≡ prim_count (node_at g.nodes n).path
  pub «record-length» : x.record_length ≡ 27 + length (node_at g.nodes n).path

pub record NodeAnswered (bs : List ℕ) (n : ℕ) (r : Result Node Refusal) : Type 0 where
  pub refused : answer_refusal r ≡ refusal (ask_arena bs (reads_node (decode bs) n))
  pub node : IfOk r (NodeShown (decode bs) n)

-- ---- What the header tells

-- the local root's number, where there is one
abbrev pub local_root_option : Graph → Option ℕ
local_root_option g = cond (has_local_root g.nodes) (Some (local_root_of g.nodes)) None

pub record GraphShown (g : Graph) (x : GraphInfo) : Type 0 where
  pub count : x.count ≡ size g
  pub ordered : x.ordered ≡ g.ordered
  pub finalized : x.finalized ≡ g.finalized
  pub shallow : x.shallow ≡ g.shallow
  pub «local-root» : node_option x.local_root ≡ local_root_option g

pub record GraphAnswered (bs : List ℕ) (r : Result GraphInfo Refusal) : Type 0 where
  pub refused : answer_refusal r ≡ refusal (ask_arena bs [])
  pub graph : IfOk r (GraphShown (decode bs))
