-- What the fields of a node say of the graph that an arena holds, where questions 1 to 4 pass:
-- `node-read`, `fields_read`; and of its local root: `root-found`, `root-held`. Assumes nothing.
use mathlib.Core.Path.{◌≡◌, refl, ap, ◌∙◌}
use mathlib.Core.Bool.{Bool, true, false, not, ◌||◌, cond}
use mathlib.Core.List.{List, [], ◌∷◌}
use Prim.Native.Nat.{ℕ, zero, suc, ◌<◌}
use native.Mathlib.Omega.{arith}
use lib.Dec.{eqb, ltb}
use lib.ListN.{length}
use borrow.Author.Tests.{eqb-true, ne_eqb, lt-ltb, le-ltb, ltb-true}
use Rattle.model.specs.Lists.{any_below}
use Rattle.model.specs.Node.{Node}
use Rattle.model.specs.Graph.{size, node_at, is_local_root}
use Rattle.model.specs.Refusals.{ask, refusal}
use Rattle.model.specs.Calls.{reads_node}
use Rattle.model.specs.Arena.{arena_bytes, count_in, node_in, local_root_below, local_root_of, local_root_in, decode, holds_graph}
use Rattle.model.specs.ArenaCalls.{is_arena, ValidArena, ValidNode, ask_arena}
use Rattle.arena.specs.Slot.{HasSlot, HasPath, parent_in}
use Rattle.arena.proofs.SlotLaws.{SameFields, same-fields}
use Rattle.arena.proofs.HeldArenas.{Held, held}
use Rattle.arena.proofs.ArenaBack.{size-decode, node-decode, parent-lower}

pub sizes : (bs : List ℕ) → ValidArena bs → size (decode bs) ≡ count_in bs
sizes bs o = size-decode bs (held bs o.holds)

-- the count answers question 3
pub node-zero : (bs : List ℕ) → ValidArena bs → 0 < count_in bs → ltb 0 (size (decode bs)) ≡ true
node-zero bs o some = lt-ltb 0 (size (decode bs)) (omega (arith, some, sizes bs o))

pub no_node : (bs : List ℕ) → ValidArena bs → count_in bs ≡ 0 → ltb 0 (size (decode bs)) ≡ false
no_node bs o none = le-ltb 0 (size (decode bs)) (omega (arith, none, sizes bs o))

-- where questions 1 to 4 pass, the node can be read
pub readable : (bs : List ℕ) (n : ℕ) → refusal (ask_arena bs (reads_node (decode bs) n)) ≡ 0 → ValidNode bs n
readable bs n e = go (is_arena bs) refl (holds_graph bs) refl (ltb 0 (size (decode bs))) (ltb n (size (decode bs))) refl e
  where
    go : (s : Bool) → is_arena bs ≡ s → (h : Bool) → holds_graph bs ≡ h → (z t : Bool) → ltb n (size (decode bs)) ≡ t
        → refusal (ask 1 s ∷ ask 2 h ∷ ask 3 z ∷ ask 4 t ∷ []) ≡ 0 → ValidNode bs n
    go true s true h true true t e =
        let o : ValidArena bs = record { whole = eqb-true (length bs) arena_bytes s; holds = h } in
        record { opened = o; below = omega (arith, ltb-true n (size (decode bs)) t, sizes bs o) }
    go true s true h true false t e = absurd (omega arith)
    go true s true h false t q e = absurd (omega arith)
    go true s false h z t q e = absurd (omega arith)
    go false s h q z t r e = absurd (omega arith)

module _ (bs : List ℕ) (n : ℕ) (r : ValidNode bs n) where
  pub all : Held bs
  all = held bs r.opened.holds

  pub has-slot : HasSlot bs n
  has-slot = record { whole = r.opened.whole; within = omega (arith, all.few, r.below) }

  pub has-path : HasPath bs n
  has-path =
      let node = all.node n r.below in
      record { slot = has-slot; numbered = omega (arith, node.record-named); short = node.record-short }

  pub node-read : node_at (decode bs).nodes n ≡ node_in bs n
  node-read = node-decode bs all n r.below

  pub fields_read : SameFields bs n
  fields_read = same-fields bs n has-path.numbered

  pub parent-read : 0 < n → ValidNode bs (parent_in bs n)
  parent-read h =
      let lower = parent-lower bs all n h r.below in
      record { opened = r.opened; below = omega (arith, r.below, fields_read.parent) }

-- ---- The local root

root-above : (ns : List Node) (k : ℕ) → is_local_root ns k ≡ true → k ≡ 0 → ⊥
unfolding is_local_root
root-above ns zero e z = let q : ◌≡◌ {A = ℕ} 0 1 = cc in omega arith
root-above ns (suc k) e z = omega arith

-- there is one where its number is not 0
pub root-found : (ns : List Node) (k : ℕ) → not (eqb (local_root_below ns k) 0) ≡ any_below (is_local_root ns) k
root-found ns zero = refl
root-found ns (suc k) = go (is_local_root ns k) refl (root-found ns k)
  where
    go : (t : Bool) → is_local_root ns k ≡ t → not (eqb (local_root_below ns k) 0) ≡ any_below (is_local_root ns) k
        → not (eqb (cond t k (local_root_below ns k)) 0) ≡ (t || any_below (is_local_root ns) k)
    go true e below = rw (ne_eqb k 0 (root-above ns k e))
    go false e below = below

-- two lists of nodes of one length that have it at one place
root-below-kept : (ns ms : List Node) (k : ℕ) → ((n : ℕ) → is_local_root ms n ≡ is_local_root ns n)
    → local_root_below ms k ≡ local_root_below ns k
root-below-kept ns ms zero same = refl
root-below-kept ns ms (suc k) same = λ i. cond (same k i) k (root-below-kept ns ms k same i)

pub root_kept : (ns ms : List Node) → length ms ≡ length ns → ((n : ℕ) → is_local_root ms n ≡ is_local_root ns n)
    → local_root_of ms ≡ local_root_of ns
root_kept ns ms long same = root-below-kept ns ms (length ms) same ∙ ap (local_root_below ns) long

pub root-held : (bs : List ℕ) → ValidArena bs → 0 < count_in bs → local_root_in bs ≡ local_root_of (decode bs).nodes
unfolding decode
root-held bs o h = (held bs o.holds).local-root h
