-- The stores that seeding makes are those of `encode` in its order: the header, the slots and,
-- where the graph is finalized, the order (`encode-seeded`). Assumes nothing.
use mathlib.Core.Path.{◌≡◌, refl, sym, ap, ◌∙◌}
use mathlib.Core.Bool.{Bool, cond}
use mathlib.Core.List.{List, [], ◌∷◌, ◌++◌}
use Prim.Native.Nat.{ℕ, zero, suc, ◌+◌, ◌≤◌, ◌<◌}
use native.Mathlib.Omega.{arith}
use lib.Dec.{eqb}
use lib.ListN.{length}
use borrow.Author.Tests.{eq-eqb, ne_eqb}
use Rattle.model.specs.Bytes.{stored}
use Rattle.model.specs.Deepening.{deepen}
use Rattle.model.specs.Lists.{bit}
use Rattle.model.specs.Node.{Node}
use Rattle.model.specs.Graph.{Graph, size, children_of}
use Rattle.model.specs.Path.{prim_count}
use Rattle.model.specs.Snapshot.{big_endian, record_bytes}
use Rattle.model.specs.Arena.{arena_bytes, slot_at, count_in, ordered_in, finalized_in, shallow_in, first_child_in, last_child_in, next_sibling_in, order_entry_in, tabulate, first_of, last_of, local_root_of, link_bytes, slot_stored, slots_stored, order_stored, header_bytes, root_stored, decode, encode}
use Rattle.laws.proofs.BigEndianLaws.{Bytes}
use Rattle.laws.proofs.StoredLaws.{stored_next}
use Rattle.arena.proofs.ArenaBack.{children-decode, next-decode}
use Rattle.arena.proofs.HeldArenas.{Held, held, held-chain}
use Rattle.arena.proofs.ReadNodes.{root-held}
use Rattle.deepening.specs.Deepened.{CanDeepen, order_kept, header_seeded, slots_seeded}
use Rattle.deepening.proofs.EncodeDeepened.{same_count, same-links, same-root, node-there}

module _ (bs name : List ℕ) (bytes : Bytes bs) (can : CanDeepen bs name) (s : List ℕ) (whole : length s ≡ arena_bytes) where
  abbrev g : Graph
  g = decode bs

  abbrev h : Graph
  h = deepen name g

  facts : Held bs
  facts = held bs can.opened.holds

  header-seeded : header_seeded bs (count_in bs) s ≡ root_stored h (stored 0 (header_bytes h) s)
  unfolding decode deepen
  header-seeded =
      let marks = bit (order_kept bs) ∷ bit (eqb (finalized_in bs) 1) ∷ bit (eqb (shallow_in bs) 1) ∷ [] in
      let root = root-held bs can.opened can.some-node ∙ sym (same-root bs name bytes can) in
      (λ i. stored 8 (big_endian 4 (root i)) (stored 4 marks (stored 0 (big_endian 4 (sym (same_count bs name bytes can) i)) s)))
      ∙ ap (stored 8 (big_endian 4 (local_root_of h.nodes))) (stored_next 0 (big_endian 4 (size h)) marks s (omega arith))
      ∙ sym (ap (λ (t : Bool). cond t (stored 0 (header_bytes h) s) (stored 8 (big_endian 4 (local_root_of h.nodes)) (stored 0 (header_bytes h) s)))
      (ne_eqb (size h) 0 (λ e. omega (arith, same_count bs name bytes can, can.some-node))))

  links-read : (n : ℕ) → n < count_in bs
      → link_bytes h n ≡ big_endian 4 (first_child_in bs n) ++ (big_endian 4 (last_child_in bs n) ++ big_endian 4 (next_sibling_in bs n))
  links-read n here =
      let first : first_of (children_of g n) ≡ first_child_in bs n = ap first_of (children-decode bs facts n here) ∙ (held-chain bs facts n here).first in
      let last : last_of (children_of g n) ≡ last_child_in bs n = ap last_of (children-decode bs facts n here) ∙ sym (facts.node n here).last-child in
      same-links bs name bytes can n here
      ∙ (λ i. big_endian 4 (first i) ++ (big_endian 4 (last i) ++ big_endian 4 (next-decode bs facts n here i)))

  slots-seeded : (t : List ℕ) (k : ℕ) → k ≤ count_in bs → slots_seeded bs name k t ≡ slots_stored h k t
  slots-seeded t zero l = refl
  slots-seeded t (suc k) l =
      let here : k < count_in bs = omega arith in
      sym (ap (slot_stored h k) (sym (slots-seeded t k (omega arith)))
      ∙ (λ i. let x : Node = node-there bs name bytes can k here i in
      stored (slot_at k + 16) (prim_count x.path ∷ record_bytes x) (stored (slot_at k) (links-read k here i) (slots_seeded bs name k t))))

  abbrev pub seeded : List ℕ
  seeded = slots_seeded bs name (count_in bs) (header_seeded bs (count_in bs) s)

  slots-right : seeded ≡ slots_stored h (size h) (root_stored h (stored 0 (header_bytes h) s))
  slots-right =
      ap (slots_seeded bs name (count_in bs)) header-seeded ∙ slots-seeded _ (count_in bs) (omega arith)
      ∙ ap (λ (k : ℕ). slots_stored h k (root_stored h (stored 0 (header_bytes h) s))) (sym (same_count bs name bytes can))

  pub encode-seeded : finalized_in bs ≡ 1 → order_stored (tabulate (order_entry_in bs) 0 (count_in bs)) 0 seeded ≡ encode h s
  unfolding encode decode deepen
  encode-seeded final =
      ap (λ (l : List ℕ). order_stored l 0 seeded) (sym kept) ∙ ap (order_stored h.order 0) slots-right
    where
      kept : h.order ≡ tabulate (order_entry_in bs) 0 (count_in bs)
      kept = rw (eq-eqb (finalized_in bs) 1 final, eq-eqb (ordered_in bs) 1 (facts.final final).0)

  pub encode-seeded-unordered : (finalized_in bs ≡ 1 → ⊥) → seeded ≡ encode h s
  unfolding encode decode deepen
  encode-seeded-unordered other =
      slots-right ∙ ap (λ (l : List ℕ). order_stored l 0 (slots_stored h (size h) (root_stored h (stored 0 (header_bytes h) s)))) (sym none)
    where
      none : h.order ≡ []
      none = rw (ne_eqb (finalized_in bs) 1 other)
