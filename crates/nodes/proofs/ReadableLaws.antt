-- What the fields of an arena that holds a graph say of it: of one node (`shown`) and of the header
-- (`graph-shown`). Assumes nothing.
use Rattle.std.specs.Prelude.{None, Some}
use mathlib.Core.Path.{◌≡◌, refl, sym, ap, ◌∙◌}
use mathlib.Core.Bool.{Bool, true, false, not, cond}
use mathlib.Core.List.{List}
use Prim.Native.Nat.{ℕ}
use native.Mathlib.Omega.{arith}
use lib.Dec.{eqb}
use lib.ListN.{length}
use borrow.Author.Tests.{eqb-true, eqb-false}
use Rattle.model.specs.Lists.{any_below}
use Rattle.model.specs.Node as model
use Rattle.model.specs.Answers.{node_option}
use Rattle.model.specs.Graph.{is_local_root}
use Rattle.model.specs.Arena.{count_in, local_root_below, local_root_of, local_root_in, ordered_in, finalized_in, shallow_in, decode}
use Rattle.model.specs.ArenaCalls.{ValidArena, ValidNode}
use Rattle.arena.specs.declared.Node.{Node}
use Rattle.arena.specs.Slot.{Loaded}
use Rattle.arena.proofs.SlotLaws.{loaded-node, path-length}
use Rattle.arena.proofs.HeldArenas.{held-chain}
use Rattle.arena.proofs.ArenaBack.{children-decode, next-decode}
use Rattle.arena.proofs.ReadNodes.{sizes, all, has-path, node-read, root-found, root-held}
use Rattle.nodes.specs.declared.calls.GraphInfo.{GraphInfo}
use Rattle.nodes.specs.Queries.{NodeShown, local_root_option, GraphShown}

-- ---- One node

pub shown : (bs : List ℕ) (n : ℕ) (r : ValidNode bs n) (x : Node) → Loaded bs n x → NodeShown (decode bs) n x
shown bs n r x l =
    let every = all bs n r in
    let node = every.node n r.below in
    let chain = held-chain bs every n r.below in
    let children = children-decode bs every n r.below in
    record {
      fields = rw (node-read bs n r) (loaded-node bs n (has-path bs n r).numbered x l);
      «first-child» = rw children (l.first_child ∙ sym chain.first);
      «last-child» = rw children (l.last_child ∙ node.last-child);
      «next-sibling» = l.next_sibling ∙ sym (next-decode bs every n r.below);
      «prim-count» = rw (node-read bs n r) (l.prim_count ∙ node.prim-count);
      «record-length» = rw (node-read bs n r) (l.record_length ∙ path-length bs n (has-path bs n r));
    }

-- ---- The header

-- 0 is the number of no local root
none-or-found : (ns : List model.Node) (k : ℕ)
    → cond (eqb (local_root_below ns k) 0) None (Some (local_root_below ns k)) ≡ cond (any_below (is_local_root ns) k) (Some (local_root_below ns k)) None
none-or-found ns k = rw (sym (root-found ns k)) (turned (eqb (local_root_below ns k) 0))
  where
    turned : (t : Bool) → cond t None (Some (local_root_below ns k)) ≡ cond (not t) (Some (local_root_below ns k)) None
    turned true = refl
    turned false = refl

module _ (bs : List ℕ) (o : ValidArena bs) where
  pub root-read : (root : ℕ) → root ≡ cond (eqb (count_in bs) 0) 0 (local_root_in bs) → cond (eqb root 0) None (Some root) ≡ local_root_option (decode bs)
  root-read root e = go (eqb (count_in bs) 0) refl e
    where
      nodes : length (decode bs).nodes ≡ count_in bs
      nodes = sizes bs o

      same : root ≡ local_root_of (decode bs).nodes → cond (eqb root 0) None (Some root) ≡ local_root_option (decode bs)
      same r = rw r (none-or-found (decode bs).nodes (length (decode bs).nodes))

      go : (t : Bool) → eqb (count_in bs) 0 ≡ t → root ≡ cond t 0 (local_root_in bs) → cond (eqb root 0) None (Some root) ≡ local_root_option (decode bs)
      go true c r =
          let None : length (decode bs).nodes ≡ 0 = nodes ∙ eqb-true (count_in bs) 0 c in
          same (r ∙ sym (ap (local_root_below (decode bs).nodes) None))
      go false c r = same (r ∙ root-held bs o (omega (arith, eqb-false (count_in bs) 0 c)))

  pub graph-shown : (x : GraphInfo) → x.count ≡ count_in bs → x.ordered ≡ eqb (ordered_in bs) 1 → x.finalized ≡ eqb (finalized_in bs) 1
      → x.shallow ≡ eqb (shallow_in bs) 1 → node_option x.local_root ≡ local_root_option (decode bs) → GraphShown (decode bs) x
  unfolding decode
  graph-shown x count ordered finalized shallow root =
      record { count = count ∙ sym (sizes bs o); ordered = ordered; finalized = finalized; shallow = shallow; «local-root» = root }
