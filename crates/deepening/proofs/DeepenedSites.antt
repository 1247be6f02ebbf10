-- One site with the name appended (`CanJoin`): where its path ends, its prim count, and that the
-- record loaded becomes the deepened node's. Then the sites of the first nodes stored one after the
-- other (`sites-run`): what lies behind them is as it was, so the next node can still be joined
-- (`join-next`, `sites-next`). Assumes nothing.
use mathlib.Core.Path.{◌≡◌, refl, sym, ap, subst, ◌∙◌}
use mathlib.Core.List.{List, ◌∷◌}
use Prim.Native.Nat.{ℕ, suc, ◌+◌, ◌≤◌, ◌<◌}
use native.Mathlib.Omega.{arith}
use lib.ListN.{length, take, drop}
use Rattle.model.specs.Arena.{arena_bytes, slot_at, prim_count_in, record_length_in, node_in}
use Rattle.model.specs.Deepening.{deepened}
use Rattle.model.specs.Node as model
use Rattle.model.specs.Path.{prim_count, separator, append_name}
use Rattle.model.specs.Snapshot.{value, read_record, record_bytes}
use Rattle.laws.proofs.PathGrammar.{Name, well-formed-may-end}
use Rattle.laws.proofs.PathLaws.{append-prim-count, last-name-is-name, prim-count-half}
use Rattle.laws.proofs.PathParts.{name-not-empty}
use Rattle.laws.proofs.SnapshotLaws.{record-length}
use Rattle.arena.specs.Slot.{Loaded, node_of}
use Rattle.arena.specs.declared.Node.{Node}
use Rattle.arena.proofs.EncodeSteps.{SlotRun, run_length, run-behind}
use Rattle.arena.proofs.SlotLaws.{loaded-node}
use Rattle.path.proofs.JoinLaws.{length-append-name}
use Rattle.deepening.specs.Deepened.{ChildName, CanJoin, AllJoin, site_stored, sites_deepened}

pub child-is-name : (name : List ℕ) → ChildName name → Name name
child-is-name name c =
    subst Name (sym c.last) (last-name-is-name c.child (well-formed-may-end c.child c.right) c.ends)

-- ---- One site

-- where a path ends once the name is put after it
pub end-joined : (path name : List ℕ) {old : List ℕ} {at : ℕ} → at ≡ length old + length (separator old) → old ≡ path
    → at + length name ≡ length (append_name path name)
end-joined path name joint same =
    ap (λ (k : ℕ). k + length name) (joint ∙ ap (λ (p : List ℕ). length p + length (separator p)) same)
    ∙ sym (length-append-name path name)

module _ (bs name : List ℕ) (n : ℕ) (can : CanJoin bs name n) where
  abbrev path : List ℕ
  path = (node_in bs n).path

  pub name-some : 0 < length name
  name-some = name-not-empty name (child-is-name name can.named)

  pub prims-raised : prim_count_in bs n + 1 ≡ prim_count (append_name path name)
  prims-raised =
      ap (λ (k : ℕ). k + 1) can.counted
      ∙ sym (append-prim-count path name (well-formed-may-end path can.right) (child-is-name name can.named))

  pub few-prims : prim_count_in bs n < 255
  few-prims = omega (arith, prims-raised, prim-count-half (append_name path name), can.fits)

  pub node-joined : (x : Node) → Loaded bs n x → node_of x (append_name path name) ≡ deepened name (node_in bs n)
  node-joined x l = ap (deepened name) (loaded-node bs n can.stands.numbered x l)

-- ---- Sites

-- what lies from slot n on is the same in both
abbrev pub SameFrom : ℕ → List ℕ → List ℕ → Type 0
SameFrom n s t = (a w : ℕ) → slot_at n ≤ a → take w (drop a s) ≡ take w (drop a t)

module _ (s t : List ℕ) (n : ℕ) (same : SameFrom n s t) where
  same_length : record_length_in s n ≡ record_length_in t n
  same_length = ap value (same (slot_at n + 17) 2 (omega arith))

  pub same-node : node_in s n ≡ node_in t n
  same-node =
      ap (λ (w : ℕ). read_record (take w (drop (slot_at n + 19) s))) same_length
      ∙ ap read_record (same (slot_at n + 19) (record_length_in t n) (omega arith))

  pub same-join : (name : List ℕ) → length s ≡ arena_bytes → CanJoin t name n → CanJoin s name n
  same-join name whole can = record {
    stands = record {
      slot = record { whole = whole; within = can.stands.slot.within };
      numbered = omega (arith, same_length, can.stands.numbered);
      short = omega (arith, same_length, can.stands.short);
    };
    right = rw same-node can.right;
    counted = ap value (same (slot_at n + 16) 1 (omega arith)) ∙ rw same-node can.counted;
    named = can.named;
    fits = rw same-node can.fits;
  }

-- the site of node k, deepened
abbrev pub deepened_site : List ℕ → List ℕ → ℕ → List ℕ
deepened_site bs name k = let x = deepened name (node_in bs k) in prim_count x.path ∷ record_bytes x

module _ (bs name : List ℕ) (count : ℕ) (all : AllJoin bs name count) where
  pub sites-run : SlotRun (λ k. sites_deepened name k bs) (λ k. slot_at k + 16) (deepened_site bs name) count
  sites-run = record {
    whole = all.whole;
    few = all.few;
    step = λ k. refl;
    low = λ k. omega arith;
    high = λ k h. omega (arith, record-length (deepened name (node_in bs k)), (all.each k h).fits);
  }

  same-behind : (n : ℕ) → n ≤ count → SameFrom n (sites_deepened name n bs) bs
  same-behind n l a w h = ap (take w) (run-behind sites-run n a l h)

  pub join-next : (n : ℕ) → n < count → CanJoin (sites_deepened name n bs) name n
  join-next n h =
      same-join (sites_deepened name n bs) bs n (same-behind n (omega arith)) name (run_length sites-run n (omega arith))
      (all.each n h)

  pub sites-next : (n : ℕ) → n < count
      → site_stored n (deepened name (node_in (sites_deepened name n bs) n)) (sites_deepened name n bs) ≡ sites_deepened name (n + 1) bs
  sites-next n h =
      ap (λ (x : model.Node). site_stored n (deepened name x) (sites_deepened name n bs))
      (same-node (sites_deepened name n bs) bs n (same-behind n (omega arith)))
      ∙ ap (λ (k : ℕ). sites_deepened name k bs) (let e : suc n ≡ n + 1 = omega arith in e)
