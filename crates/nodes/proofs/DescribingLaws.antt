-- The questions that a node to be added is put are document 01's: `add-questions`, `desc-checked`;
-- and the sum of the path bytes, one node after the other: `bytes-start`, `bytes-step`,
-- `bytes-end`. Assumes nothing.
use Rattle.std.specs.Prelude.{None, Option, Some}
use Rattle.std.specs.Prelude.{Result}
use Rattle.model.specs.declared.Refusal.{Refusal}
use mathlib.Core.Path.{◌≡◌, refl, sym, ap, ◌∙◌}
use mathlib.Core.Bool.{Bool, true, false, not, ◌&&◌}
use mathlib.Core.List.{List, [], ◌∷◌}
use Prim.Native.Nat.{ℕ, suc, ◌+◌, ◌-◌, ◌≤◌, ◌<◌}
use native.Mathlib.Omega.{arith}
use native.Mathlib.Numerals.{add-one}
use lib.Dec.{eqb, ltb}
use lib.ListN.{length}
use borrow.Author.Tests.{ne_eqb, lt-ltb}
use Rattle.model.specs.Path.{well_formed}
use Rattle.model.specs.Node as model
use Rattle.model.specs.Graph.{Graph, size, has_local_root}
use Rattle.model.specs.Refusals.{ask, refusal, path_bytes, has_room, added_kind}
use Rattle.model.specs.Calls as calls
use Rattle.model.specs.Calls.{given_or, given_below, added_node}
use Rattle.model.specs.Arena.{count_in, record_length_in, node_in, tabulate, decode, local_root_in}
use Rattle.model.specs.ArenaCalls.{ValidArena, ValidNode}
use Rattle.arena.proofs.HeldArenas.{held}
use Rattle.arena.proofs.ArenaBack.{fresh-legal, fresh-nodes}
use Rattle.arena.proofs.SlotLaws.{path-length}
use Rattle.arena.proofs.ReadNodes.{sizes, has-path, root-found, root-held}
use Rattle.validate.specs.declared.record.Before.{Before}
use Rattle.validate.specs.declared.record.RecordNumbers.{RecordNumbers}
use Rattle.validate.specs.RecordCheck.{numbers_of, before_next, links_at, questions_at, RecordChecked}
use Rattle.nodes.specs.declared.description.NodeDesc.{NodeDesc}
use Rattle.nodes.specs.Describing.{desc_of, add_questions, DescChecked}

-- ---- The path bytes

module _ (bs : List ℕ) where
  -- those of the nodes from n on
  abbrev pub bytes_from : ℕ → ℕ
  bytes_from n = path_bytes (tabulate (node_in bs) n (count_in bs - n))

  pub bytes-start : bytes_from 0 ≡ path_bytes (decode bs).nodes
  unfolding decode
  bytes-start =
      let whole : count_in bs - 0 ≡ count_in bs = omega arith in
      ap (λ (k : ℕ). path_bytes (tabulate (node_in bs) 0 k)) whole

  pub bytes-step : (n : ℕ) → ValidNode bs n → bytes_from n ≡ (record_length_in bs n - 27) + bytes_from (n + 1)
  bytes-step n r =
      let more : count_in bs - n ≡ suc (count_in bs - (n + 1)) = omega (arith, r.below) in
      let long : record_length_in bs n - 27 ≡ length (node_in bs n).path = omega (arith, path-length bs n (has-path bs n r)) in
      ap (λ (k : ℕ). path_bytes (tabulate (node_in bs) n k)) more
      ∙ ap (λ (m : ℕ). length (node_in bs n).path + path_bytes (tabulate (node_in bs) m (count_in bs - (n + 1)))) (sym (add-one n))
      ∙ ap (λ (l : ℕ). l + bytes_from (n + 1)) (sym long)

  pub bytes-end : (n : ℕ) → count_in bs ≤ n → bytes_from n ≡ 0
  bytes-end n h =
      let None : count_in bs - n ≡ 0 = omega arith in
      ap (λ (k : ℕ). path_bytes (tabulate (node_in bs) n k)) None

  pub few_bytes : ValidArena bs → path_bytes (decode bs).nodes ≤ 32768
  few_bytes o =
      let all = held bs o.holds in
      rw (fresh-nodes bs all) at (fresh-legal bs all).few-path-bytes

-- ---- The local root

has-root : (bs : List ℕ) → ValidArena bs → 0 < count_in bs → not (eqb (local_root_in bs) 0) ≡ has_local_root (decode bs).nodes
has-root bs o h = ap (λ (n : ℕ). not (eqb n 0)) (root-held bs o h) ∙ root-found (decode bs).nodes (length (decode bs).nodes)

-- ---- The questions

module _ (g : Graph) (d : calls.NodeDesc) (some-node : 0 < size g) where
  abbrev x : model.Node
  x = added_node g d

  -- question 4, of the parent and the origin that are there in the end
  pub links-asked : (ltb x.parent (size g) && ltb x.origin (size g)) ≡ (given_below (size g) d.parent && given_below (size g) d.origin)
  links-asked = go d.parent d.origin
    where
      same : (t : Bool) → (t && t) ≡ (t && true)
      same true = refl
      same false = refl

      go : (p o : Option ℕ)
          → (ltb (given_or p 0) (size g) && ltb (given_or o (given_or p 0)) (size g)) ≡ (given_below (size g) p && given_below (size g) o)
      go None None = rw (lt-ltb 0 (size g) some-node)
      go None (Some k) = rw (lt-ltb 0 (size g) some-node)
      go (Some n) None = same (ltb n (size g))
      go (Some n) (Some k) = refl

  pub add-questions : refusal (questions_at (before_next g false) (numbers_of x) x.path) ≡ refusal (add_questions g d)
  add-questions =
      let links : links_at (before_next g false) (numbers_of x) ≡ (given_below (size g) d.parent && given_below (size g) d.origin) =
      rw (ne_eqb (size g) 0 (λ z. omega arith)) links-asked in
      ap (λ (t : Bool). refusal (ask 4 t ∷ ask 5 (well_formed x.path) ∷ ask 6 (added_kind g x) ∷ ask 7 (has_room g x) ∷ [])) links

module _ (bs : List ℕ) (o : ValidArena bs) (desc : NodeDesc) (path : List ℕ) (some-node : 0 < count_in bs) where
  abbrev d : calls.NodeDesc
  d = desc_of desc path

  abbrev g : Graph
  g = decode bs

  -- what comes before a node that is added
  abbrev added : ℕ → ℕ → Bool → Before
  added count sum root = record { count = count; path_bytes = sum; has_root = root; culled_allowed = false }

  -- its numbers, with the parent and the origin that are put in
  abbrev numbers : ℕ → ℕ → RecordNumbers
  numbers parent origin = record { arc = desc.arc; flags = desc.flags; parent = parent; origin = origin; has_specs = desc.has_specs }

  -- the check of a record, put the node with what was missing put in, has put it `add_child`'s
  -- questions
  pub desc-checked : (count sum parent origin : ℕ) (root : Bool) (r : Result ℕ Refusal) → count ≡ count_in bs → sum ≡ path_bytes g.nodes
      → root ≡ not (eqb (local_root_in bs) 0) → parent ≡ given_or d.parent 0 → origin ≡ given_or d.origin parent
      → RecordChecked (questions_at (added count sum root) (numbers parent origin) path) path r → DescChecked g d r
  desc-checked count sum parent origin root r count-is sum_is_lem root_is parent_is origin-is checked =
      let counted : count ≡ size g = count-is ∙ sym (sizes bs o) in
      let rooted : root ≡ has_local_root g.nodes = root_is ∙ has-root bs o some-node in
      let from : origin ≡ (added_node g d).origin = origin-is ∙ ap (given_or d.origin) parent_is in
      let same : questions_at (added count sum root) (numbers parent origin) path ≡ questions_at (before_next g false) (numbers_of (added_node g d)) path =
      λ i. questions_at (added (counted i) (sum_is_lem i) (rooted i)) (numbers (parent_is i) (from i)) path in
      record {
        refused = checked.refused ∙ ap refusal same ∙ add-questions g d (omega (arith, sizes bs o));
        prims = checked.prims;
      }
