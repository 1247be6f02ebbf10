-- In an arena that holds a graph, to store a part of a node's record is to encode the graph with
-- another record there, since all else is there: `encode-set`; and for the flags, the restriction
-- depth and the specs: `encode-flags`, `encode-restriction`, `encode-specs`. Assumes nothing.
use mathlib.Core.Path.{◌≡◌, refl, sym, ap, subst, ◌∙◌}
use mathlib.Core.Logic.{inl}
use mathlib.Core.Bool.{Bool, true, false, ◌&&◌, cond}
use mathlib.Core.List.{List, [], ◌++◌, ◌∷◌}
use Prim.Native.Nat.{ℕ, zero, suc, ◌+◌, ◌≤◌, ◌<◌}
use native.Mathlib.Omega.{arith}
use lib.Dec.{eqb, ltb}
use lib.ListN.{length, take, drop, length-set, length-drop}
use lib.Seq.{take-length, length-take-le, get_or-set_same, get_or-set_other}
use borrow.Author.Tests.{eqb-true, eqb-false, ne_eqb}
use Rattle.model.specs.Bytes.{stored}
use Rattle.model.specs.Path.{prim_count}
use Rattle.model.specs.Node.{root_arc, Node, no_node}
use Rattle.model.specs.Graph.{Graph, size, node_at, children_of, is_local_root}
use Rattle.model.specs.Setting.{with_site, with_record}
use Rattle.model.specs.Snapshot.{big_endian, record_body, record_bytes}
use Rattle.model.specs.Arena.{slot_at, first_of, last_of, after_in, link_bytes, site_bytes, slot_stored, local_root_of, decode, encode}
use Rattle.model.specs.ArenaCalls.{ValidArena}
use Rattle.laws.proofs.BigEndianLaws.{Bytes}
use Rattle.laws.proofs.StoredLaws.{stored_there, stored-middle}
use Rattle.laws.proofs.SeenLaws.{node-set}
use Rattle.arena.specs.Header.{marks_stored}
use Rattle.arena.specs.Slot.{flags_stored, restriction_stored, specs_stored}
use Rattle.arena.proofs.Encodable.{Encodable}
use Rattle.arena.proofs.ArenaParts.{site-short}
use Rattle.arena.proofs.HeldEncodable.{held-encodable}
use Rattle.arena.proofs.EncodeSteps.{HasParts, held-parts, site-whole, marks-there, SlotRun, run_length, slot-before, links-there, encode-run-kept}
use Rattle.arena.proofs.ReadNodes.{root_kept}

-- a node's prim count and its record, as they stand in its slot
abbrev pub site_of : Node → List ℕ
site_of x = prim_count x.path ∷ record_bytes x

module _ (bs : List ℕ) (bytes : Bytes bs) (o : ValidArena bs) (n : ℕ) (here : n < size (decode bs)) where
  abbrev g : Graph
  g = decode bs

  abbrev old : Node
  old = node_at g.nodes n

  ok : Encodable g
  ok = held-encodable bs bytes o.whole o.holds

  parts : HasParts g bs
  parts = held-parts bs bytes o

  -- ---- Another record of node n, with its arc and its parent

  module _ (x : Node) (arc : x.arc ≡ (node_at (decode bs).nodes n).arc)
      (parent : x.parent ≡ (node_at (decode bs).nodes n).parent) where
    abbrev h : Graph
    h = with_record g n x

    same_size : size h ≡ size g
    unfolding with_record
    same_size = length-set g.nodes n x

    same-arc : (k : ℕ) → (node_at h.nodes k).arc ≡ (node_at g.nodes k).arc
    unfolding with_record
    same-arc k = node-set g.nodes n k x (λ y. y.arc ≡ (node_at g.nodes k).arc) (λ e. rw e arc) refl

    same-parent : (k : ℕ) → (node_at h.nodes k).parent ≡ (node_at g.nodes k).parent
    unfolding with_record
    same-parent k = node-set g.nodes n k x (λ y. y.parent ≡ (node_at g.nodes k).parent) (λ e. rw e parent) refl

    same-root : local_root_of h.nodes ≡ local_root_of g.nodes
    unfolding is_local_root
    same-root = root_kept g.nodes h.nodes same_size (λ k i. ltb 0 k && eqb (same-arc k i) root_arc)

    same-links : (k : ℕ) → link_bytes h k ≡ link_bytes g k
    unfolding with_record
    same-links k =
        ap (λ (p : ℕ). big_endian 4 (first_of (children_of g k)) ++ (big_endian 4 (last_of (children_of g k))
        ++ big_endian 4 (after_in k (children_of g p)))) (same-parent k)

    same-marks : bs ≡ marks_stored h.ordered h.finalized h.shallow bs
    unfolding with_record
    same-marks = marks-there bs bytes o

    same-order : h.order ≡ g.order
    unfolding with_record
    same-order = refl

    new-site : site_bytes h n ≡ site_of x
    unfolding with_record
    new-site = ap site_of (get_or-set_same g.nodes n x no_node here)

    other-site : (k : ℕ) → (k ≡ n → ⊥) → site_bytes h k ≡ site_bytes g k
    unfolding with_record
    other-site k e = ap site_of (get_or-set_other g.nodes n k x no_node e)

    -- ---- The bytes m in its site, from the place a on

    module _ (a : ℕ) (m : List ℕ) (within : a + length m ≤ length (site_bytes (decode bs) n))
        (site : site_of x ≡ take a (site_bytes (decode bs) n)
        ++ (m ++ drop (a + length m) (site_bytes (decode bs) n))) where
      -- stored in slot n, and nothing in the others
      abbrev piece : ℕ → List ℕ
      piece k = cond (eqb k n) m []

      abbrev at : ℕ → ℕ
      at k = slot_at k + (16 + a)

      abbrev done : ℕ → List ℕ
      done zero = bs
      done (suc k) = stored (at k) (piece k) (done k)

      short : length (site_bytes g n) ≤ 285
      short = site-short g ok n here

      run : SlotRun done at piece (size g)
      run = record {
        whole = o.whole;
        few = ok.legal.few-nodes;
        step = λ k. refl;
        low = λ k. omega arith;
        high = λ k l. high k;
      }
        where
          high : (k : ℕ) → at k + length (piece k) ≤ slot_at k + 320
          high k = go (eqb k n)
            where
              go : (t : Bool) → at k + length (cond t m []) ≤ slot_at k + 320
              go true = omega (arith, short, within)
              go false = omega (arith, short, within)

      done-before : (k : ℕ) → k ≤ n → done k ≡ bs
      done-before zero l = refl
      done-before (suc k) l =
          ap (λ (t : Bool). stored (at k) (cond t m []) (done k)) (ne_eqb k n (λ e. omega arith))
          ∙ stored_there (at k) 0 [] (done k) refl ∙ done-before k (omega arith)

      done-after : (k : ℕ) → n < k → done k ≡ stored (at n) m bs
      done-after zero l = absurd (omega arith)
      done-after (suc k) l = go (eqb k n) refl (done-after k)
        where
          go : (t : Bool) → eqb k n ≡ t → (n < k → done k ≡ stored (at n) m bs)
              → stored (at k) (cond t m []) (done k) ≡ stored (at n) m bs
          go true e earlier = let same = eqb-true k n e in λ i. stored (at (same i)) m (done-before k (omega arith) i)
          go false e earlier =
              let other = eqb-false k n e in stored_there (at k) 0 [] (done k) refl ∙ earlier (omega arith)

      -- what lies in slot k is as it was
      untouched : (k : ℕ) → k < size g → (b w : ℕ) → slot_at k ≤ b → take w (drop b (done k)) ≡ take w (drop b bs)
      untouched = slot-before bs bytes o h same_size same-root run same-marks

      new-stored : stored (slot_at n + 16) (site_bytes h n) (done n) ≡ stored (at n) m (done n)
      new-stored =
          let end = a + length m in
          let front = take a (site_bytes g n) in
          let rest = drop end (site_bytes g n) in
          let front_long : length front ≡ a = length-take-le a (site_bytes g n) (omega (arith, within)) in
          let rest-long : end + length rest ≡ length (site_bytes g n) =
          omega (arith, within, length-drop end (site_bytes g n)) in
          ap (λ (p : List ℕ). stored (slot_at n + 16) p (done n)) (new-site ∙ site)
          ∙ stored-middle (slot_at n + 16) (at n) (slot_at n + (16 + end)) front m rest (done n)
          (omega arith) (omega arith)
          (omega (arith, short, run_length run n (omega (arith, here)), ok.legal.few-nodes))
          (ap (λ (w : ℕ). take w (drop (slot_at n + 16) (done n))) front_long
          ∙ untouched n here (slot_at n + 16) a (omega arith) ∙ parts.site-part n here 0 a (omega (arith, within)))
          (untouched n here (slot_at n + (16 + end)) (length rest) (omega arith)
          ∙ parts.site-part n here end (length rest) (omega arith) ∙ take-length rest)

      site-stored : (k : ℕ) → k < size g → stored (slot_at k + 16) (site_bytes h k) (done k) ≡ done (suc k)
      site-stored k l = go (eqb k n) refl
        where
          go : (t : Bool) → eqb k n ≡ t
              → stored (slot_at k + 16) (site_bytes h k) (done k) ≡ stored (at k) (cond t m []) (done k)
          go true e =
              subst (λ (j : ℕ). stored (slot_at j + 16) (site_bytes h j) (done j) ≡ stored (at j) m (done j))
              (sym (eqb-true k n e)) new-stored
          go false e =
              let other = eqb-false k n e in
              ap (λ (p : List ℕ). stored (slot_at k + 16) p (done k)) (other-site k other)
              ∙ stored_there (slot_at k + 16) (length (site_bytes g k)) (site_bytes g k) (done k)
              (untouched k l (slot_at k + 16) (length (site_bytes g k)) (omega arith) ∙ site-whole g bs parts k l)
              ∙ sym (stored_there (at k) 0 [] (done k) refl)

      slot_step : (k : ℕ) → k < size g → slot_stored h k (done k) ≡ done (suc k)
      slot_step k l =
          ap (stored (slot_at k + 16) (site_bytes h k))
          (links-there bs bytes o h same_size same-root run same-marks k l (same-links k))
          ∙ site-stored k l

      pub encode-set : stored (slot_at n + (16 + a)) m bs ≡ encode (with_record (decode bs) n x) bs
      encode-set =
          sym (encode-run-kept bs bytes o h same_size same-root run same-marks (λ k. omega arith) (inl same-order)
          slot_step ∙ done-after (size g) here)

  -- ---- The flags, the restriction depth, and spec_from with has-specs

  -- the graph with these of node n
  abbrev pub with_other : ℕ → ℕ → ℕ → ℕ → Graph
  with_other flags restriction spec_from has_specs =
      with_record (decode bs) n (with_site flags restriction spec_from has_specs (node_at (decode bs).nodes n))

  pub encode-flags : (flags : ℕ)
      → flags_stored n flags bs ≡ encode (with_other flags old.restriction old.spec_from old.has_specs) bs
  unfolding record_body
  encode-flags flags =
      encode-set (with_site flags old.restriction old.spec_from old.has_specs old) refl refl
      4 (big_endian 1 flags) (omega arith) refl

  pub encode-restriction : (depth : ℕ)
      → restriction_stored n depth bs ≡ encode (with_other old.flags depth old.spec_from old.has_specs) bs
  unfolding record_body
  encode-restriction depth =
      encode-set (with_site old.flags depth old.spec_from old.has_specs old) refl refl
      25 (big_endian 2 depth) (omega arith) refl

  pub encode-specs : (spec_from has_specs : ℕ)
      → specs_stored n spec_from has_specs bs ≡ encode (with_other old.flags old.restriction spec_from has_specs) bs
  unfolding record_body
  encode-specs spec_from has_specs =
      encode-set (with_site old.flags old.restriction spec_from has_specs old) refl refl
      27 (big_endian 2 spec_from ++ big_endian 1 has_specs) (omega arith) refl
