-- Encoding a graph over the same graph with one node less is encoding it alone: `encode-over`, and
-- for a loop `encode-next`. Each byte the encoding of the larger graph sets, or both leave it as it
-- was (`Over`). Assumes nothing.
use mathlib.Core.Path.{◌≡◌, refl, sym, ap, subst, ◌∙◌}
use mathlib.Core.Logic.{◌⊎◌, inl, inr}
use mathlib.Core.Bool.{Bool, true, false, cond}
use mathlib.Core.List.{List, [], ◌∷◌}
use Prim.Native.Nat.{ℕ, zero, suc, ◌+◌, ◌-◌, ◌≤◌, ◌<◌}
use native.Mathlib.Omega.{arith}
use lib.Dec.{eqb, ltb}
use lib.ListN.{length, get_or}
use lib.Seq.{ext_get_or}
use borrow.Author.Tests.{ltb-true, ltb-false, ne_eqb}
use Rattle.model.specs.Bytes.{stored}
use Rattle.model.specs.Node.{Node}
use Rattle.model.specs.Graph.{Graph, size, with_node}
use Rattle.model.specs.Snapshot.{big_endian, record_bytes}
use Rattle.model.specs.Path.{prim_count}
use Rattle.model.specs.Arena.{arena_bytes, slot_at, link_bytes, site_bytes, slots_stored, header_bytes, root_stored, local_root_of, decode, encode}
use Rattle.laws.proofs.StoredLaws.{length-stored, byte-before-stored, byte-in-stored, byte-after-stored}
use Rattle.laws.proofs.Trees.{size-with-node, node-old}
use Rattle.arena.proofs.Encodable.{Encodable}
use Rattle.arena.proofs.ArenaLaws.{decode-encode}
use Rattle.arena.proofs.ArenaParts.{site-short}

-- ---- One way of writing an arena over another

-- byte i is the same whatever was there, or what was there
abbrev Sets : ℕ → (List ℕ → List ℕ) → Type 0
Sets i e = (s t : List ℕ) → length s ≡ arena_bytes → length t ≡ arena_bytes → get_or (e s) i 0 ≡ get_or (e t) i 0

abbrev Keeps : ℕ → (List ℕ → List ℕ) → Type 0
Keeps i e = (s : List ℕ) → length s ≡ arena_bytes → get_or (e s) i 0 ≡ get_or s i 0

-- e sets the byte, or neither does
abbrev At : ℕ → (List ℕ → List ℕ) → (List ℕ → List ℕ) → Type 0
At i e f = Sets i e ⊎ (Keeps i e × Keeps i f)

record Over (e f : List ℕ → List ℕ) : Type 0 where
  pub long : (s : List ℕ) → length s ≡ arena_bytes → length (e s) ≡ arena_bytes
  pub also : (s : List ℕ) → length s ≡ arena_bytes → length (f s) ≡ arena_bytes
  pub byte : (i : ℕ) → At i e f

over-lost : (e f : List ℕ → List ℕ) → Over e f → (s : List ℕ) → length s ≡ arena_bytes → e (f s) ≡ e s
over-lost e f over s whole =
    ext_get_or 0 (e (f s)) (e s) (over.long (f s) (over.also s whole) ∙ sym (over.long s whole))
    (λ i l. go i (over.byte i))
  where
    go : (i : ℕ) → At i e f → get_or (e (f s)) i 0 ≡ get_or (e s) i 0
    go i (inl sets) = sets (f s) s (over.also s whole) whole
    go i (inr keeps) = keeps.0 (f s) (over.also s whole) ∙ keeps.1 s whole ∙ sym (keeps.0 s whole)

-- nothing under it
over-alone : {e f : List ℕ → List ℕ} → Over e f → Over e (λ s. s)
over-alone {e = e} {f = f} over = record { long = over.long; also = λ s w. w; byte = λ i. go i (over.byte i) }
  where
    go : (i : ℕ) → At i e f → At i e (λ s. s)
    go i (inl sets) = inl sets
    go i (inr keeps) = inr (keeps.0, λ s w. refl)

-- one after the other
over-then : {e f e' f' : List ℕ → List ℕ} → Over e f → Over e' f' → Over (λ s. e' (e s)) (λ s. f' (f s))
over-then {e = e} {f = f} {e' = e'} {f' = f'} first second = record {
  long = λ s w. second.long (e s) (first.long s w);
  also = λ s w. second.also (f s) (first.also s w);
  byte = λ i. go i (first.byte i) (second.byte i);
}
  where
    go : (i : ℕ) → At i e f → At i e' f' → At i (λ s. e' (e s)) (λ s. f' (f s))
    go i any (inl sets) = inl (λ s t v w. sets (e s) (e t) (first.long s v) (first.long t w))
    go i (inl sets) (inr keeps) =
        inl (λ s t v w. keeps.0 (e s) (first.long s v) ∙ sets s t v w ∙ sym (keeps.0 (e t) (first.long t w)))
    go i (inr kept) (inr keeps) =
        inr
        (λ s w. keeps.0 (e s) (first.long s w) ∙ kept.0 s w, λ s w. keeps.1 (f s) (first.also s w) ∙ kept.1 s w)

over-stored : (at : ℕ) (p q : List ℕ) → length q ≤ length p → at + length p ≤ arena_bytes
    → Over (stored at p) (stored at q)
over-stored at p q short fits = record {
  long = λ s w. length-stored at p s (omega arith) ∙ w;
  also = λ s w. length-stored at q s (omega arith) ∙ w;
  byte = λ i. go i (ltb i at) refl (ltb i (at + length p)) refl;
}
  where
    go : (i : ℕ) (b : Bool) → ltb i at ≡ b → (c : Bool) → ltb i (at + length p) ≡ c → At i (stored at p) (stored at q)
    go i true e c d =
        let l = ltb-true i at e in
        inr (λ s w. byte-before-stored at p s (omega arith) i l, λ s w. byte-before-stored at q s (omega arith) i l)
    go i false e true d =
        let within : i - at < length p = omega (arith, ltb-false i at e, ltb-true i (at + length p) d) in
        let place : i ≡ at + (i - at) = omega (arith, ltb-false i at e) in
        let there : (s : List ℕ) → length s ≡ arena_bytes → get_or (stored at p s) i 0 ≡ get_or p (i - at) 0 =
        λ s w. ap (λ (n : ℕ). get_or (stored at p s) n 0) place ∙ byte-in-stored at p s (omega arith) (i - at) within in
        inl (λ s t v w. there s v ∙ sym (there t w))
    go i false e false d =
        let l = ltb-false i (at + length p) d in
        let m : at + length q ≤ i = omega arith in
        inr (λ s w. byte-after-stored at p s (omega arith) i l, λ s w. byte-after-stored at q s (omega arith) i m)

-- ---- The encoding of the graph with one node less

pub added-unordered : (g : Graph) (x : Node) → (with_node g x).order ≡ []
unfolding with_node
added-unordered g x = refl

pub unordered-encode : (g : Graph) (bs : List ℕ) → g.order ≡ [] → encode g bs ≡ slots_stored g (size g) (root_stored g (stored 0 (header_bytes g) bs))
unfolding encode
unordered-encode g bs e = rw e

pub same-site : (g : Graph) (x : Node) (k : ℕ) → k < size g → site_bytes (with_node g x) k ≡ site_bytes g k
same-site g x k here = ap (λ (y : Node). prim_count y.path ∷ record_bytes y) (node-old g x k here)

module _ (g : Graph) (x : Node) (more : Encodable (with_node g x)) where
  abbrev h : Graph
  h = with_node g x

  larger : size h ≡ suc (size g)
  larger = size-with-node g x

  root_over : Over (root_stored h) (root_stored g)
  root_over =
      subst (λ (b : Bool). Over (λ s. cond b s (stored 8 (root h) s)) (root_stored g))
      (sym (ne_eqb (size h) 0 (λ e. omega (arith, larger))))
      (go (eqb (size g) 0))
    where
      root : Graph → List ℕ
      root k = big_endian 4 (local_root_of k.nodes)

      go : (b : Bool) → Over (stored 8 (root h)) (λ s. cond b s (stored 8 (root g) s))
      go true = over-alone (over-stored 8 (root h) (root h) (omega arith) (omega arith))
      go false = over-stored 8 (root h) (root g) (omega arith) (omega arith)

  links-over : (k : ℕ) → k < size h → Over (stored (slot_at k) (link_bytes h k)) (stored (slot_at k) (link_bytes g k))
  links-over k here =
      over-stored (slot_at k) (link_bytes h k) (link_bytes g k) (omega arith) (omega (arith, more.legal.few-nodes))

  site-over : (k : ℕ) (q : List ℕ) → k < size h → length q ≤ length (site_bytes h k)
      → Over (stored (slot_at k + 16) (site_bytes h k)) (stored (slot_at k + 16) q)
  site-over k q here short =
      over-stored (slot_at k + 16) (site_bytes h k) q short
      (omega (arith, more.legal.few-nodes, site-short h more k here))

  -- what is stored up to slot k
  abbrev up_to : Graph → ℕ → List ℕ → List ℕ
  up_to j k s = slots_stored j k (root_stored j (stored 0 (header_bytes j) s))

  slots-over : (k : ℕ) → k ≤ size g → Over (up_to h k) (up_to g k)
  slots-over zero l = over-then (over-stored 0 (header_bytes h) (header_bytes g) (omega arith) (omega arith)) root_over
  slots-over (suc k) l =
      over-then (over-then (slots-over k (omega arith)) (links-over k (omega (arith, larger))))
      (site-over k (site_bytes g k) (omega (arith, larger)) (omega (arith, ap length (same-site g x k (omega arith)))))

  all-over : Over (up_to h (size h)) (up_to g (size g))
  all-over =
      let n = size g in
      subst (λ (k : ℕ). Over (up_to h k) (up_to g n)) (sym larger)
      (over-then (over-then (slots-over n (omega arith)) (over-alone (links-over n (omega (arith, larger)))))
      (over-alone (site-over n (site_bytes h n) (omega (arith, larger)) (omega arith))))

  pub encode-over : (bs : List ℕ) → length bs ≡ arena_bytes → g.order ≡ [] → encode h (encode g bs) ≡ encode h bs
  encode-over bs whole e =
      ap (encode h) (unordered-encode g bs e) ∙ unordered-encode h _ (added-unordered g x)
      ∙ over-lost _ _ all-over bs whole
      ∙ sym (unordered-encode h bs (added-unordered g x))

-- as a loop meets it: an arena that is the encoding of g, and one node more
pub encode-next : (g : Graph) (x : Node) (bs s : List ℕ) → Encodable g → Encodable (with_node g x) → length bs ≡ arena_bytes → g.order ≡ []
    → s ≡ encode g bs → encode (with_node (decode s) x) s ≡ encode (with_node g x) bs
encode-next g x bs s ok more whole e here =
    ap (λ (t : List ℕ). encode (with_node (decode t) x) t) here
    ∙ ap (λ (k : Graph). encode (with_node k x) (encode g bs)) (decode-encode g bs ok whole)
    ∙ encode-over g x more bs whole e
