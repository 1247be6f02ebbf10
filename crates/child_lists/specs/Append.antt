-- What `append_node` asks, and what each of its parts leaves in the arena. The graph with a node
-- more is model/specs/Graph.antt's `with_node`.
use Rattle.std.specs.Prelude.{◌≡◌, Bool, false, ◌||◌, ◌&&◌, cond, List, ◌++◌, ℕ, ◌+◌, ◌<◌, eqb, ltb, length}
use Rattle.model.specs.Arena.{arena_bytes, slot_at, count_in, shallow_in, first_child_in, last_child_in, next_sibling_in, prim_count_in, decode}
use Rattle.model.specs.ArenaCalls.{ValidArena}
use Rattle.model.specs.Bytes.{stored}
use Rattle.model.specs.Node.{invalid, root_arc}
use Rattle.model.specs.Path.{prim_count}
use Rattle.model.specs.Refusals.{refusal, record_questions}
use Rattle.model.specs.Snapshot.{big_endian}
use Rattle.arena.specs.Header.{count_stored, marks_stored, local_root_stored}
use Rattle.arena.specs.Slot.{node_of}
use Rattle.arena.specs.declared.Node.{Node}

-- a node that may come next: x with this path is what the questions of a record accept
pub record CanAppend (bs : List ℕ) (count : ℕ) (x : Node) (path : List ℕ) : Type 0 where
  pub opened : ValidArena bs
  pub counted : count ≡ count_in bs
  pub accepted : refusal (record_questions (decode bs) (node_of x path)) ≡ 0
  pub named : x.prim_count ≡ prim_count path
  pub long : x.record_length ≡ 27 + length path

-- ---- The header

-- the mark "shallow" with a node of this parent and depth as number n
abbrev pub shallow_with : ℕ → ℕ → ℕ → List ℕ → Bool
shallow_with n parent depth bs = eqb (shallow_in bs) 1 || (ltb 0 n && ltb (prim_count_in bs parent) depth)

-- one node more, not ordered and not finalized; a node of arc Root is the local root, and node 0 is
-- none
abbrev pub header_stored : ℕ → ℕ → Bool → List ℕ → List ℕ
header_stored n arc shallow bs =
    let marked = marks_stored false false shallow (count_stored (n + 1) bs) in
    cond (eqb arc root_arc) (local_root_stored n marked) marked

-- ---- The child list of the parent

abbrev pub three_links : ℕ → ℕ → ℕ → ℕ → List ℕ → List ℕ
three_links n first last next bs = stored (slot_at n) (big_endian 4 first ++ (big_endian 4 last ++ big_endian 4 next)) bs

-- node n after the child that is the last
abbrev pub sibling_linked : ℕ → ℕ → List ℕ → List ℕ
sibling_linked last n bs = three_links last (first_child_in bs last) (last_child_in bs last) n bs

-- the parent of node n, and the last of its children, have slots
pub record CanLink (bs : List ℕ) (parent n : ℕ) : Type 0 where
  pub whole : length bs ≡ arena_bytes
  pub parent-within : 0 < n → parent < 1024
  pub last_within : 0 < n → (last_child_in bs parent ≡ invalid → ⊥) → last_child_in bs parent < 1024

-- node n as the only child of the parent, or as its last; node 0 has no parent
abbrev pub child_linked : ℕ → ℕ → List ℕ → List ℕ
child_linked parent n bs =
    cond (eqb n 0) bs
    (cond (eqb (last_child_in bs parent) invalid) (three_links parent n n (next_sibling_in bs parent) bs)
    (sibling_linked (last_child_in bs parent) n (three_links parent (first_child_in bs parent) n (next_sibling_in bs parent) bs)))
