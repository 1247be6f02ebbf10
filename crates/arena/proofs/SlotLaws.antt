-- For callers: where the record's length covers its 27 bytes of numbers, the fields read one at a
-- time, and the record loaded, with its path, are those of the node that the bytes hold. Each field
-- is one case of `field-of-record`, over place and width. Assumes nothing.
use mathlib.Core.Path.{◌≡◌, sym, ap, ◌∙◌}
use mathlib.Core.List.{List, [], ◌∷◌}
use Prim.Native.Nat.{ℕ, zero, suc, ◌+◌, ◌-◌, ◌≤◌}
use native.Mathlib.Nat.{zero-add, suc-add}
use native.Mathlib.Omega.{arith}
use lib.ListN.{length, length-drop, take, drop}
use lib.Seq.{take-nil, take-take, drop-drop, length-take-le}
use Rattle.model.specs.Arena.{slot_at, record_length_in, node_in}
use Rattle.model.specs.Snapshot.{value, field, read_record}
use Rattle.arena.specs.declared.Node.{Node}
use Rattle.arena.specs.Slot.{HasPath, arc_in, flags_in, stack_in, layer_in, parent_in, origin_in, depth_in, sibling_in, restriction_in, spec_from_in, has_specs_in, Loaded, node_of}

-- ---- A part of a part

drop-of-sum : (a w : ℕ) (s : List ℕ) → drop a (take (a + w) s) ≡ take w (drop a s)
drop-of-sum zero w s = ap (λ (k : ℕ). take k s) (zero-add w)
drop-of-sum (suc a) w [] = ap (drop (suc a)) (take-nil (suc a + w)) ∙ sym (take-nil w)
drop-of-sum (suc a) w (x ∷ s) = ap (λ (k : ℕ). drop (suc a) (take k (x ∷ s))) (suc-add a w) ∙ drop-of-sum a w s

-- len bytes from `base` on, without their first a
pub rest-of-part : (base len a : ℕ) (s : List ℕ) → a ≤ len → drop a (take len (drop base s)) ≡ take (len - a) (drop (base + a) s)
rest-of-part base len a s h =
    let whole : len ≡ a + (len - a) = omega arith in
    ap (λ (k : ℕ). drop a (take k (drop base s))) whole
    ∙ drop-of-sum a (len - a) (drop base s) ∙ ap (take (len - a)) (drop-drop a base s)

-- a field of the record that stands at `base`, by its place `at` in the arena
field-of-record : (base len a w at : ℕ) (bs : List ℕ) → a + w ≤ len → base + a ≡ at → field a w (take len (drop base bs)) ≡ field at w bs
field-of-record base len a w at bs h e =
    ap (λ (l : List ℕ). value (take w l)) (rest-of-part base len a bs (omega arith))
    ∙ ap value (take-take w (len - a) (drop (base + a) bs) (omega arith)) ∙ ap (λ (k : ℕ). field k w bs) e

-- ---- The node in slot n

-- each field as a single reader gives it
pub record SameFields (bs : List ℕ) (n : ℕ) : Type 0 where
  pub arc : (node_in bs n).arc ≡ arc_in bs n
  pub flags : (node_in bs n).flags ≡ flags_in bs n
  pub stack : (node_in bs n).stack ≡ stack_in bs n
  pub layer : (node_in bs n).layer ≡ layer_in bs n
  pub parent : (node_in bs n).parent ≡ parent_in bs n
  pub origin : (node_in bs n).origin ≡ origin_in bs n
  pub depth : (node_in bs n).depth ≡ depth_in bs n
  pub sibling : (node_in bs n).sibling ≡ sibling_in bs n
  pub restriction : (node_in bs n).restriction ≡ restriction_in bs n
  pub spec_from : (node_in bs n).spec_from ≡ spec_from_in bs n
  pub has_specs : (node_in bs n).has_specs ≡ has_specs_in bs n

module _ (bs : List ℕ) (n : ℕ) (numbered : 27 ≤ record_length_in bs n) where
  node-field : (a w k : ℕ) → a + w ≤ 27 → 19 + a ≡ k
      → field a w (take (record_length_in bs n) (drop (slot_at n + 19) bs)) ≡ field (slot_at n + k) w bs
  node-field a w k h e = field-of-record (slot_at n + 19) (record_length_in bs n) a w (slot_at n + k) bs (omega arith) (omega arith)

  pub same-fields : SameFields bs n
  unfolding read_record
  same-fields = record {
    arc = node-field 0 1 19 (omega arith) (omega arith);
    flags = node-field 1 1 20 (omega arith) (omega arith);
    stack = node-field 2 4 21 (omega arith) (omega arith);
    layer = node-field 6 4 25 (omega arith) (omega arith);
    parent = node-field 10 4 29 (omega arith) (omega arith);
    origin = node-field 14 4 33 (omega arith) (omega arith);
    depth = node-field 18 2 37 (omega arith) (omega arith);
    sibling = node-field 20 2 39 (omega arith) (omega arith);
    restriction = node-field 22 2 41 (omega arith) (omega arith);
    spec_from = node-field 24 2 43 (omega arith) (omega arith);
    has_specs = node-field 26 1 45 (omega arith) (omega arith);
  }

  pub loaded-node : (x : Node) → Loaded bs n x → node_of x (node_in bs n).path ≡ node_in bs n
  loaded-node x l = λ i. record {
    arc = (l.arc ∙ sym same-fields.arc) i;
    flags = (l.flags ∙ sym same-fields.flags) i;
    stack = (l.stack ∙ sym same-fields.stack) i;
    layer = (l.layer ∙ sym same-fields.layer) i;
    parent = (l.parent ∙ sym same-fields.parent) i;
    origin = (l.origin ∙ sym same-fields.origin) i;
    depth = (l.depth ∙ sym same-fields.depth) i;
    sibling = (l.sibling ∙ sym same-fields.sibling) i;
    restriction = (l.restriction ∙ sym same-fields.restriction) i;
    spec_from = (l.spec_from ∙ sym same-fields.spec_from) i;
    has_specs = (l.has_specs ∙ sym same-fields.has_specs) i;
    path = (node_in bs n).path;
  }

-- the record's length counts its numbers and its path
pub path-length : (bs : List ℕ) (n : ℕ) → HasPath bs n → record_length_in bs n ≡ 27 + length (node_in bs n).path
unfolding read_record
path-length bs n p =
    let rest : length (node_in bs n).path ≡ record_length_in bs n - 27 =
    ap length (rest-of-part (slot_at n + 19) (record_length_in bs n) 27 bs p.numbered)
    ∙ length-take-le (record_length_in bs n - 27) _ (rw length-drop (omega (arith, p.slot.whole, p.slot.within, p.short))) in
    omega (arith, p.numbered)
