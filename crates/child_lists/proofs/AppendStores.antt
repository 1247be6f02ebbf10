-- In an arena that is the encoding of a graph, encoding the graph with a node more is a few stores:
-- the header, the local root where the arc is Root, the links of the parent and of its old last
-- child, and the new slot (`append-stores`). Assumes nothing.
use mathlib.Core.Path.{◌≡◌, refl, sym, ap, subst, ◌∙◌}
use mathlib.Core.Logic.{inr}
use mathlib.Core.Bool.{Bool, true, false, cond, ◌||◌, ◌&&◌, and-false}
use mathlib.Core.List.{List, [], ◌∷◌, ◌++◌}
use Prim.Native.Nat.{ℕ, zero, suc, ◌+◌, ◌≤◌, ◌<◌}
use native.Mathlib.Omega.{arith}
use lib.Dec.{eqb, ltb}
use lib.ListN.{length, take, drop}
use borrow.Author.Tests.{eqb-true, eqb-false, eq-eqb, ne_eqb, lt-ltb}
use Rattle.model.specs.Bytes.{stored}
use Rattle.model.specs.Lists.{bit}
use Rattle.model.specs.Node.{invalid, root_arc, Node}
use Rattle.model.specs.Graph.{Graph, size, node_at, children_of, with_node, is_local_root}
use Rattle.model.specs.Path.{prim_count}
use Rattle.model.specs.Snapshot.{big_endian, value, record_bytes}
use Rattle.model.specs.Arena.{arena_bytes, slot_at, shallow_in, first_of, last_of, first_child_in, last_child_in, next_sibling_in, prim_count_in, link_bytes, site_bytes, slot_stored, slots_stored, header_bytes, root_stored, local_root_below, local_root_of, encode}
use Rattle.laws.proofs.StoredLaws.{stored_next, stored_there, field-after-stored, length-stored}
use Rattle.laws.proofs.Trees.{size-with-node, node-old, node-new, children-else}
use Rattle.laws.proofs.LegalAdded.{Addable}
use Rattle.arena.proofs.Encodable.{Encodable}
use Rattle.arena.proofs.ArenaParts.{apart-kept}
use Rattle.arena.proofs.EncodeSteps.{HasParts, encoded-parts, site-whole, SlotStands, slots-stand}
use Rattle.arena.proofs.ArenaFields.{shallow-encode, first-child-encode, last-child-encode, next-sibling-encode, prim-count-encode}
use Rattle.child_lists.specs.Append.{CanLink, shallow_with, header_stored, three_links, sibling_linked, child_linked}
use Rattle.child_lists.proofs.EncodeOver.{added-unordered, unordered-encode, same-site}
use Rattle.child_lists.proofs.AppendLinks.{first_child_of, last_child_of, next_sibling_of, new-childless, new-next, parent-last, last-child, first-only, first-still, next_last, next-else}

-- ---- The local root

local-root-same : (g : Graph) (x : Node) (k : ℕ) → k ≤ size g → local_root_below (with_node g x).nodes k ≡ local_root_below g.nodes k
unfolding is_local_root
local-root-same g x zero l = refl
local-root-same g x (suc k) l = rw (node-old g x k (omega arith), local-root-same g x k (omega arith))

root-new : (g : Graph) (x : Node) → x.arc ≡ root_arc → local_root_of (with_node g x).nodes ≡ size g
unfolding is_local_root
root-new g x root = rw (size-with-node g x, node-new g x, eq-eqb x.arc root_arc root) (go (size g))
  where
    go : (n : ℕ) → cond (ltb 0 n && true) n (local_root_below (with_node g x).nodes n) ≡ n
    go zero = refl
    go (suc n) = rw (lt-ltb 0 (suc n) (omega arith))

root-old : (g : Graph) (x : Node) → (x.arc ≡ root_arc → ⊥) → local_root_of (with_node g x).nodes ≡ local_root_of g.nodes
unfolding is_local_root
root-old g x other =
    rw (size-with-node g x, node-new g x, ne_eqb x.arc root_arc other, and-false (ltb 0 (size g))) (local-root-same g x (size g) (omega arith))

-- ---- The stores, one after the other

module _ (g : Graph) (x : Node) (bs : List ℕ) (ok : Encodable g) (more : Encodable (with_node g x)) (new : Addable g x)
    (whole : length bs ≡ arena_bytes) (back : encode g bs ≡ bs) where
  abbrev n : ℕ
  n = size g

  abbrev h : Graph
  h = with_node g x

  abbrev p : ℕ
  p = x.parent

  few : size h ≤ 1024
  few = more.legal.few-nodes

  larger : size h ≡ suc n
  larger = size-with-node g x

  parts : HasParts g bs
  parts = subst (HasParts g) back (encoded-parts g bs ok whole)

  -- ---- The header

  abbrev headed : List ℕ
  headed = stored 0 (header_bytes h) bs

  abbrev root : List ℕ
  root = big_endian 4 (local_root_of h.nodes)

  abbrev opened : List ℕ
  opened = stored 8 root headed

  headed-length : length headed ≡ arena_bytes
  headed-length = length-stored 0 (header_bytes h) bs (omega arith) ∙ whole

  -- the local root is stored where it is new
  root-written : cond (eqb x.arc root_arc) (stored 8 (big_endian 4 n) headed) headed ≡ opened
  root-written = go (eqb x.arc root_arc) refl n refl
    where
      go : (t : Bool) → eqb x.arc root_arc ≡ t → (k : ℕ) → n ≡ k
          → cond t (stored 8 (big_endian 4 n) headed) headed ≡ opened
      go true e k z = ap (λ (r : ℕ). stored 8 (big_endian 4 r) headed) (sym (root-new g x (eqb-true x.arc root_arc e)))
      go false e zero z = absurd (eqb-false x.arc root_arc e (new.first z).arc)
      go false e (suc k) z =
          sym (stored_there 8 4 root headed
          (apart-kept 0 (header_bytes h) bs 8 4 (omega arith) (inr (omega arith)) ∙ parts.root (omega arith)
          ∙ ap (big_endian 4) (sym (root-old g x (eqb-false x.arc root_arc e)))))

  -- t is as the arena was from the place b on
  record Rest (b : ℕ) (t : List ℕ) : Type 0 where
    pub long : length t ≡ arena_bytes
    pub same : (a w : ℕ) → b ≤ a → take w (drop a t) ≡ take w (drop a bs)

  opened-rest : Rest 12 opened
  opened-rest = record {
    long = length-stored 8 root headed (omega (arith, headed-length)) ∙ headed-length;
    same = λ a w l. apart-kept 8 root headed a w (omega (arith, headed-length)) (inr (omega arith))
        ∙ apart-kept 0 (header_bytes h) bs a w (omega arith) (inr (omega arith));
  }

  -- ---- The links of the nodes before

  same-links : (k : ℕ) → first_child_of h k ≡ first_child_of g k → last_child_of h k ≡ last_child_of g k → next_sibling_of h k ≡ next_sibling_of g k
      → link_bytes h k ≡ link_bytes g k
  same-links k first last next = λ i. big_endian 4 (first i) ++ (big_endian 4 (last i) ++ big_endian 4 (next i))

  -- a node that is not the parent, nor its last child
  abbrev Else : ℕ → Type 0
  Else k = (k ≡ p → ⊥) × (k ≡ last_child_of g p → ⊥)

  module _ (b : ℕ) (t : List ℕ) (rest : Rest b t) (k : ℕ) (old : k < n) where
    site-stands : b ≤ slot_at k + 16 → take (length (site_bytes h k)) (drop (slot_at k + 16) t) ≡ site_bytes h k
    site-stands l = subst (λ (q : List ℕ). take (length q) (drop (slot_at k + 16) t) ≡ q) (sym (same-site g x k old))
        (rest.same (slot_at k + 16) (length (site_bytes g k)) l ∙ site-whole g bs parts k old)

    else-stands : b ≤ slot_at k → Else k → SlotStands h k t
    else-stands l else = record {
      links = rest.same (slot_at k) 12 l ∙ parts.links k old
          ∙ sym (same-links k (ap first_of (children-else g x k else.0)) (ap last_of (children-else g x k else.0))
          (next-else g x ok (new.parent-lower (omega arith)) k old else.1));
      site = site-stands (omega arith);
    }

    linked-rest : b ≤ slot_at k → Rest (slot_at k + 12) (stored (slot_at k) (link_bytes h k) t)
    linked-rest l =
        let fits : slot_at k + 12 ≤ length t = omega (arith, few, larger, rest.long) in
        record {
          long = length-stored (slot_at k) (link_bytes h k) t fits ∙ rest.long;
          same = λ a w q. apart-kept (slot_at k) (link_bytes h k) t a w fits (inr (omega arith))
              ∙ rest.same a w (omega arith);
        }

  -- of the slots j to k - 1 only c has other links
  slots-pass : (b j c k : ℕ) (t : List ℕ) → Rest b t → slots_stored h j opened ≡ t → b ≤ slot_at j → j ≤ c → c < k → k ≤ n
      → ((m : ℕ) → j ≤ m → m < k → (m ≡ c → ⊥) → Else m) → slots_stored h k opened ≡ stored (slot_at c) (link_bytes h c) t
  slots-pass b j c k t rest e low l r q else =
      let after = stored (slot_at c) (link_bytes h c) t in
      let old : c < n = omega arith in
      let later = linked-rest b t rest c old (omega arith) in
      slots-stand h (suc c) k opened after (omega arith)
      (ap (slot_stored h c)
      (slots-stand h j c opened t l e
      (λ m a d. else-stands b t rest m (omega arith) (omega arith) (else m a (omega arith) (λ z. omega arith))))
      ∙ stored_there (slot_at c + 16) (length (site_bytes h c)) (site_bytes h c) after
      (site-stands (slot_at c + 12) after later c old (omega arith)))
      (λ m a d. else-stands (slot_at c + 12) after later m (omega arith) (omega arith)
      (else m (omega arith) d (λ z. omega arith)))

  -- what is read in the arena with the new header
  module _ (k : ℕ) (old : k < n) where
    first_read : first_child_in opened k ≡ first_child_of g k
    first_read =
        ap value (opened-rest.same (slot_at k) 4 (omega arith)) ∙ ap (λ (s : List ℕ). first_child_in s k) (sym back)
        ∙ first-child-encode g bs ok whole k old

    last-read : last_child_in opened k ≡ last_child_of g k
    last-read =
        ap value (opened-rest.same (slot_at k + 4) 4 (omega arith)) ∙ ap (λ (s : List ℕ). last_child_in s k) (sym back)
        ∙ last-child-encode g bs ok whole k old

    next-read : next_sibling_in opened k ≡ next_sibling_of g k
    next-read =
        ap value (opened-rest.same (slot_at k + 8) 4 (omega arith)) ∙ ap (λ (s : List ℕ). next_sibling_in s k) (sym back)
        ∙ next-sibling-encode g bs ok whole k old

  three-links : (k first last next : ℕ) (s : List ℕ) → first ≡ first_child_of h k → last ≡ last_child_of h k → next ≡ next_sibling_of h k
      → three_links k first last next s ≡ stored (slot_at k) (link_bytes h k) s
  three-links k first last next s a b c = λ i. stored (slot_at k) (big_endian 4 (a i) ++ (big_endian 4 (b i) ++ big_endian 4 (c i))) s

  module _ (lower : p < n) where
    abbrev after-parent : List ℕ
    after-parent = stored (slot_at p) (link_bytes h p) opened

    higher : (last_child_of g p ≡ invalid → ⊥) → (p < last_child_of g p) × (last_child_of g p < n)
    higher some =
        let child = last-child g x ok lower some in
        (omega (arith, ok.legal.tree.lower (last_child_of g p) child.0 child.1, child.2), child.1)

    only_child : last_child_of g p ≡ invalid → three_links p n n (next_sibling_in opened p) opened ≡ after-parent
    only_child none =
        three-links p n n (next_sibling_in opened p) opened (sym (first-only g x ok lower none)) (sym (parent-last g x ok lower))
        (next-read p lower ∙ sym (next-else g x ok lower p lower (λ e. omega (arith, few, larger))))

    later-child : (some : last_child_of g p ≡ invalid → ⊥)
        → sibling_linked (last_child_in opened p) n (three_links p (first_child_in opened p) n (next_sibling_in opened p) opened)
        ≡ stored (slot_at (last_child_of g p)) (link_bytes h (last_child_of g p)) after-parent
    later-child some =
        let above = higher some in
        let last = last_child_of g p in
        let same : children_of h last ≡ children_of g last = children-else g x last (λ e. omega (arith, above)) in
        let parent : three_links p (first_child_in opened p) n (next_sibling_in opened p) opened ≡ after-parent =
        three-links p (first_child_in opened p) n (next_sibling_in opened p) opened (first_read p lower ∙ sym (first-still g x ok lower some))
        (sym (parent-last g x ok lower)) (next-read p lower ∙ sym (next-else g x ok lower p lower (λ e. omega (arith, above)))) in
        let fits : slot_at p + 12 ≤ length opened = omega (arith, few, larger, opened-rest.long) in
        let kept = field-after-stored (slot_at p) (link_bytes h p) opened fits in
        (λ i. sibling_linked (last-read p lower i) n (parent i))
        ∙ three-links last (first_child_in after-parent last) (last_child_in after-parent last) n after-parent
        (kept (slot_at last) 4 (omega (arith, above)) ∙ first_read last above.1 ∙ sym (ap first_of same))
        (kept (slot_at last + 4) 4 (omega (arith, above)) ∙ last-read last above.1 ∙ sym (ap last_of same))
        (sym (next_last g x ok lower some))

  slots-linked : slots_stored h n opened ≡ child_linked p n opened
  slots-linked = go (eqb n 0) refl (eqb (last_child_in opened p) invalid) refl
    where
      go : (t : Bool) → eqb n 0 ≡ t → (none : Bool) → eqb (last_child_in opened p) invalid ≡ none
          → slots_stored h n opened ≡ cond t opened (cond none (three_links p n n (next_sibling_in opened p) opened)
          (sibling_linked (last_child_in opened p) n
          (three_links p (first_child_in opened p) n (next_sibling_in opened p) opened)))
      go true e none f = ap (λ (k : ℕ). slots_stored h k opened) (eqb-true n 0 e)
      go false e true f =
          let lower = new.parent-lower (omega (arith, eqb-false n 0 e)) in
          let no_last : last_child_of g p ≡ invalid = sym (last-read p lower) ∙ eqb-true (last_child_in opened p) invalid f in
          slots-pass 12 0 p n opened opened-rest refl (omega arith) (omega arith) lower (omega arith)
          (λ m a b np. (np, λ s. omega (arith, few, larger)))
          ∙ sym (only_child lower no_last)
      go false e false f =
          let lower = new.parent-lower (omega (arith, eqb-false n 0 e)) in
          let last = last_child_of g p in
          let some : last ≡ invalid → ⊥ = λ s. eqb-false (last_child_in opened p) invalid f (last-read p lower ∙ s) in
          let above = higher lower some in
          slots-pass (slot_at p + 12) last last n (after-parent lower)
          (linked-rest 12 opened opened-rest p lower (omega arith))
          (slots-pass 12 0 p last opened opened-rest refl (omega arith) (omega arith) above.0 (omega (arith, above))
          (λ m a b np. (np, λ s. omega arith)))
          (omega (arith, above)) (omega arith) above.1 (omega arith) (λ m a b nl. (λ s. omega (arith, above), nl))
          ∙ sym (later-child lower some)

  -- ---- The header as it is written

  bit-mark : (t : Bool) (m : ℕ) → m ≡ bit t → eqb m 1 ≡ t
  bit-mark true m e = eq-eqb m 1 e
  bit-mark false m e = ne_eqb m 1 (λ q. omega arith)

  abbrev shallow : Bool
  shallow = shallow_with n p x.depth bs

  shallow-right : shallow ≡ h.shallow
  unfolding with_node
  shallow-right =
      ap (λ (t : Bool). t || (ltb 0 n && ltb (prim_count_in bs p) x.depth))
      (bit-mark g.shallow (shallow_in bs) (ap shallow_in (sym back) ∙ shallow-encode g bs ok whole))
      ∙ ap (λ (t : Bool). g.shallow || t) (go n refl)
    where
      go : (k : ℕ) → n ≡ k → (ltb 0 k && ltb (prim_count_in bs p) x.depth) ≡ (ltb 0 k && ltb (prim_count (node_at g.nodes p).path) x.depth)
      go zero z = refl
      go (suc k) z =
          ap (λ (m : ℕ). ltb 0 (suc k) && ltb m x.depth)
          (ap (λ (s : List ℕ). prim_count_in s p) (sym back) ∙ prim-count-encode g bs ok whole p (new.parent-lower (omega arith)))

  unmarked : big_endian 4 (size h) ++ (0 ∷ 0 ∷ bit h.shallow ∷ []) ≡ header_bytes h
  unfolding with_node
  unmarked = refl

  header-written : big_endian 4 (n + 1) ++ (0 ∷ 0 ∷ bit shallow ∷ []) ≡ header_bytes h
  header-written =
      let one_more : n + 1 ≡ size h = omega (arith, larger) in
      (λ i. big_endian 4 (one_more i) ++ (0 ∷ 0 ∷ bit (shallow-right i) ∷ [])) ∙ unmarked

  header-stored : header_stored n x.arc shallow bs ≡ opened
  header-stored =
      ap (λ (s : List ℕ). cond (eqb x.arc root_arc) (stored 8 (big_endian 4 n) s) s)
      (stored_next 0 (big_endian 4 (n + 1)) (0 ∷ 0 ∷ bit shallow ∷ []) bs (omega arith) ∙ ap (λ (b : List ℕ). stored 0 b bs) header-written)
      ∙ root-written

  pub linkable : CanLink (header_stored n x.arc shallow bs) p n
  linkable = subst (λ (s : List ℕ). CanLink s p n) (sym header-stored) (record {
    whole = opened-rest.long;
    parent-within = λ some-node. omega (arith, few, larger, new.parent-lower some-node);
    last_within = λ some-node some.
        let lower = new.parent-lower some-node in
        omega (arith, few, larger, last-read p lower, higher lower (λ none. some (last-read p lower ∙ none)));
  })

  -- ---- All the stores

  abbrev linked : List ℕ
  linked = child_linked p n (header_stored n x.arc shallow bs)

  linked-right : linked ≡ child_linked p n opened
  linked-right = ap (child_linked p n) header-stored

  new-stored : three_links n invalid invalid invalid (child_linked p n opened) ≡ stored (slot_at n) (link_bytes h n) (child_linked p n opened)
  new-stored =
      let root : n ≡ 0 → p ≡ invalid = λ none. (new.first none).no-parent in
      let childless = new-childless g x ok new.parent-lower root in
      three-links n invalid invalid invalid (child_linked p n opened) (sym (ap first_of childless)) (sym (ap last_of childless))
      (sym (new-next g x ok new.parent-lower root))

  site-right : site_bytes h n ≡ prim_count x.path ∷ record_bytes x
  site-right = ap (λ (y : Node). prim_count y.path ∷ record_bytes y) (node-new g x)

  pub append-stores : encode h bs ≡ stored (slot_at n + 16) (prim_count x.path ∷ record_bytes x) (three_links n invalid invalid invalid linked)
  append-stores =
      unordered-encode h bs (added-unordered g x) ∙ ap (λ (k : ℕ). slots_stored h k (root_stored h headed)) larger
      ∙ ap (λ (t : Bool). slot_stored h n (slots_stored h n (cond t headed opened)))
      (ne_eqb (size h) 0 (λ e. omega (arith, larger)))
      ∙ ap (slot_stored h n) slots-linked
      ∙ ap
      (λ (b : List ℕ). stored (slot_at n + 16) b (stored (slot_at n) (link_bytes h n) (child_linked p n opened))) site-right
      ∙ ap (stored (slot_at n + 16) (prim_count x.path ∷ record_bytes x))
      (sym (ap (three_links n invalid invalid invalid) linked-right ∙ new-stored))
