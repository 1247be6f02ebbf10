-- What each field of an arena reads as after `encode`. Assumes nothing.
use mathlib.Core.Path.{◌≡◌, sym, ap, ◌∙◌}
use mathlib.Core.Bool.{Bool, true, false, cond}
use mathlib.Core.List.{List, [], ◌∷◌}
use Prim.Native.Nat.{ℕ, zero, suc, ◌+◌, ◌^◌, ◌≤◌, ◌<◌}
use native.Mathlib.Nat.{add-zero}
use native.Mathlib.Omega.{arith}
use lib.Dec.{eqb}
use lib.ListN.{length, take, drop, get_or}
use lib.Seq.{take-length}
use Rattle.model.specs.Lists.{All, bit}
use Rattle.model.specs.Path.{prim_count}
use Rattle.model.specs.Node.{Node}
use Rattle.model.specs.Graph.{Graph, size, node_at, children_of, is_local_root}
use Rattle.model.specs.Strength.{view}
use Rattle.model.specs.Snapshot.{value, field, record_body, read_record}
use Rattle.model.specs.Arena.{arena_bytes, slot_at, count_in, ordered_in, finalized_in, shallow_in, local_root_in, first_child_in, last_child_in, next_sibling_in, order_entry_in, prim_count_in, record_length_in, node_in, first_of, last_of, after_in, link_bytes, header_bytes, local_root_below, local_root_of, encode}
use Rattle.laws.proofs.BigEndianLaws.{value-big-endian}
use Rattle.laws.proofs.SnapshotLaws.{FieldsFit, record-length, record-range, written-record-read}
use Rattle.laws.proofs.ListLaws.{all-imp}
use Rattle.laws.proofs.Trees.{Child, all-children}
use Rattle.arena.proofs.Encodable.{Encodable, fit_at, order_below}
use Rattle.arena.proofs.ArenaParts.{header-part, root-part, entry-part, link-part, site-part}

-- ---- What the fields hold fits them

local-root-below : (ns : List Node) (n : ℕ) → local_root_below ns n ≤ n
local-root-below ns zero = omega arith
local-root-below ns (suc n) = go (is_local_root ns n) (local-root-below ns n)
  where
    go : (t : Bool) → local_root_below ns n ≤ n → cond t n (local_root_below ns n) ≤ suc n
    go true h = omega arith
    go false h = omega arith

first_fits : (cs : List ℕ) → All (λ c. c < 256 ^ 4) cs → first_of cs < 256 ^ 4
first_fits [] h = omega arith
first_fits (c ∷ cs) h = h.0

last_fits : (cs : List ℕ) → All (λ c. c < 256 ^ 4) cs → last_of cs < 256 ^ 4
last_fits [] h = omega arith
last_fits (c ∷ []) h = h.0
last_fits (c ∷ d ∷ cs) h = last_fits (d ∷ cs) h.1

after-fits : (n : ℕ) (cs : List ℕ) → All (λ c. c < 256 ^ 4) cs → after_in n cs < 256 ^ 4
after-fits n [] h = omega arith
after-fits n (c ∷ cs) h = go (eqb c n) (after-fits n cs h.1)
  where
    go : (t : Bool) → after_in n cs < 256 ^ 4 → cond t (first_of cs) (after_in n cs) < 256 ^ 4
    go true rest = first_fits cs h.1
    go false rest = rest

all_get_d : (P : ℕ → Type 0) (xs : List ℕ) (n : ℕ) → All P xs → n < length xs → P (get_or xs n 0)
all_get_d P [] n h l = absurd (omega arith)
all_get_d P (x ∷ xs) zero h l = h.0
all_get_d P (x ∷ xs) (suc n) h l = all_get_d P xs n h.1 (omega arith)

-- ---- The fields

module _ (g : Graph) (bs : List ℕ) (ok : Encodable g) (whole : length bs ≡ arena_bytes) where
  few : size g ≤ 1024
  few = ok.legal.few-nodes

  header-field : (a w : ℕ) → a + w ≤ 7 → field (0 + a) w (encode g bs) ≡ field a w (header_bytes g)
  header-field a w h = ap value (header-part g bs ok whole a w h)

  -- the header's
  pub count-encode : count_in (encode g bs) ≡ size g
  count-encode = header-field 0 4 (omega arith) ∙ value-big-endian 4 (size g) (omega (arith, few))

  pub ordered-encode : ordered_in (encode g bs) ≡ bit g.ordered
  ordered-encode = header-field 4 1 (omega arith) ∙ omega arith

  pub finalized-encode : finalized_in (encode g bs) ≡ bit g.finalized
  finalized-encode = header-field 5 1 (omega arith) ∙ omega arith

  pub shallow-encode : shallow_in (encode g bs) ≡ bit g.shallow
  shallow-encode = header-field 6 1 (omega arith) ∙ omega arith

  pub local-root-encode : 0 < size g → local_root_in (encode g bs) ≡ local_root_of g.nodes
  local-root-encode h =
      ap value (root-part g bs ok whole h)
      ∙ value-big-endian 4 (local_root_of g.nodes) (omega (arith, few, local-root-below g.nodes (size g)))

  pub order-entry-encode : (n : ℕ) → n < length g.order → order_entry_in (encode g bs) n ≡ get_or g.order n 0
  order-entry-encode n h =
      ap value (entry-part g bs ok whole n h)
      ∙ value-big-endian 4 (get_or g.order n 0)
      (omega (arith, few, all_get_d (λ x. x < size g) g.order n (order_below g ok).1 h))

  -- a slot's
  children-fit : (v : ℕ) → All (λ c. c < 256 ^ 4) (children_of g v)
  children-fit v =
      all-imp (Child (size g) (view g.nodes).parent v) (λ c. c < 256 ^ 4) (children_of g v) (λ c child. omega (arith, few, child.1))
      (all-children (size g) (view g.nodes).parent (children_of g) ok.legal.tree v)

  module _ (n : ℕ) (here : n < size g) where
    link-field : (a w : ℕ) → a + w ≤ 12 → field (slot_at n + a) w (encode g bs) ≡ field a w (link_bytes g n)
    link-field a w h = ap value (link-part g bs ok whole n here a w h)

    pub first-child-encode : first_child_in (encode g bs) n ≡ first_of (children_of g n)
    first-child-encode =
        ap (λ (at : ℕ). field at 4 (encode g bs)) (sym (add-zero (slot_at n))) ∙ link-field 0 4 (omega arith)
        ∙ value-big-endian 4 (first_of (children_of g n)) (first_fits (children_of g n) (children-fit n))

    pub last-child-encode : last_child_in (encode g bs) n ≡ last_of (children_of g n)
    last-child-encode =
        link-field 4 4 (omega arith) ∙ value-big-endian 4 (last_of (children_of g n)) (last_fits (children_of g n) (children-fit n))

    pub next-sibling-encode : next_sibling_in (encode g bs) n ≡ after_in n (children_of g (node_at g.nodes n).parent)
    next-sibling-encode =
        let siblings = children_of g (node_at g.nodes n).parent in
        link-field 8 4 (omega arith) ∙ value-big-endian 4 (after_in n siblings) (after-fits n siblings (children-fit (node_at g.nodes n).parent))

    pub prim-count-encode : prim_count_in (encode g bs) n ≡ prim_count (node_at g.nodes n).path
    prim-count-encode = ap value (site-part g bs ok whole n here 0 1 (omega arith)) ∙ omega arith

    fits : FieldsFit (node_at g.nodes n)
    fits = fit_at g.nodes ok.fit n here

    body-length-encode : record_length_in (encode g bs) n ≡ length (record_body (node_at g.nodes n))
    body-length-encode =
        ap value (site-part g bs ok whole n here 1 2 (omega arith))
        ∙ value-big-endian 2 (length (record_body (node_at g.nodes n))) (omega (arith, record-range (node_at g.nodes n) fits))

    pub record-length-encode : record_length_in (encode g bs) n ≡ 27 + length (node_at g.nodes n).path
    record-length-encode = body-length-encode ∙ record-length (node_at g.nodes n)

    pub node-encode : node_in (encode g bs) n ≡ node_at g.nodes n
    node-encode =
        let body = record_body (node_at g.nodes n) in
        ap (λ (w : ℕ). read_record (take w (drop (slot_at n + 19) (encode g bs)))) body-length-encode
        ∙ ap read_record (site-part g bs ok whole n here 3 (length body) (omega arith) ∙ take-length body)
        ∙ written-record-read (node_at g.nodes n) fits
