-- What the proof of the reader's second pass cites. Its state is `CheckedTo`: the reading from
-- here, of the graph of the records that passed, is refused as all of it is; and `path_bytes`,
-- `has_root` and `prims` are those of that graph. Start and step. Assumes nothing.
use Rattle.std.specs.Prelude.{Option, Result, Ok, Err}
use mathlib.Core.Path.{◌≡◌, refl, sym, ap, ◌∙◌}
use mathlib.Core.Logic.{◌⊎◌, inl, inr}
use mathlib.Core.Bool.{Bool, false, ◌&&◌, ◌||◌, and-eq-true_iff}
use mathlib.Core.List.{List, [], ◌∷◌, ◌++◌, foldl}
use Prim.Native.Nat.{ℕ, zero, suc, ◌+◌, ◌-◌, ◌≤◌, ◌<◌}
use native.Mathlib.Nat.{eq-or-lt_of_le}
use native.Mathlib.Numerals.{add-one}
use native.Mathlib.Omega.{arith}
use lib.Dec.{eqb, ltb}
use lib.ListN.{length, take, drop, get_or, set, length-drop, length-set, get_or-append}
use lib.Seq.{take_all, take-suc, drop-cons, length-take-le, get_or-append_seam, get_or-set_same, get_or-set_other}
use borrow.Author.Tests.{ltb-true, leb-true}
use Rattle.model.specs.Lists.{any_below}
use Rattle.model.specs.Path.{prim_count}
use Rattle.model.specs.Node.{root_arc, Node, no_node}
use Rattle.model.specs.Graph.{Graph, empty_graph, node_at, with_node, is_local_root, has_local_root}
use Rattle.model.specs.Snapshot.{field, read_record}
use Rattle.model.specs.Refusals.{refusal_number, refusal, most_nodes, most_path_bytes, path_bytes, record_questions}
use Rattle.model.specs.Calls.{Outcome, read_if, read_on, read_or12, read_into}
use Rattle.model.specs.declared.Refusal.{Refusal}
use Rattle.laws.proofs.PathLemmas.{length-snoc}
use Rattle.laws.proofs.ListLaws.{any-below-cong}
use Rattle.laws.proofs.SnapshotReadLaws.{built, built-nodes, record-passes}
use Rattle.laws.proofs.LegalAdded.{path-bytes-append}
use Rattle.laws.proofs.ArenaCallLaws.{refusal-some}
use Rattle.validate.specs.declared.record.Before.{Before}
use Rattle.validate.specs.declared.record.RecordNumbers.{RecordNumbers}
use Rattle.validate.specs.RecordCheck.{questions_at, checked_refusal, checked_prims, RecordChecked}
use Rattle.validate.proofs.RecordCheckLaws.{questions-at}
use Rattle.snapshot.specs.SnapshotReading.{nodes_read, Exact, before_read, questions_of, RecordsChecked}
use Rattle.snapshot.proofs.SnapshotRecords.{record_part, Reached, reached-none, node-lent, piece-long, reached-more}

-- ---- The graph of the first records

pub built-more : (g : Graph) (xs : List Node) (n : ℕ) → n < length xs
    → foldl with_node g (take (suc n) xs) ≡ with_node (foldl with_node g (take n xs)) (node_at xs n)
built-more g [] n h = absurd (omega arith)
built-more g (x ∷ xs) zero h = refl
built-more g (x ∷ xs) (suc n) h = built-more (with_node g x) xs n (omega arith)

pub built-sized : (xs : List Node) (n : ℕ) → n ≤ length xs → length (built (take n xs)).nodes ≡ n
built-sized xs n h = ap length (built-nodes (take n xs)) ∙ length-take-le n xs h

questions-here : (xs : List Node) (n : ℕ) (x : Node) → n ≤ length xs
    → record_questions (built (take n xs)) x ≡ questions_of (before_read n (path_bytes (take n xs)) (has_local_root (take n xs))) x
questions-here xs n x h =
    questions-at (built (take n xs)) x
    ∙ ap (λ (ns : List Node). questions_of (before_read (length ns) (path_bytes ns) (has_local_root ns)) x) (built-nodes (take n xs))
    ∙ ap (λ (k : ℕ). questions_of (before_read k (path_bytes (take n xs)) (has_local_root (take n xs))) x) (length-take-le n xs h)

paths-more : (xs : List Node) (n : ℕ) → n < length xs → path_bytes (take (suc n) xs) ≡ path_bytes (take n xs) + length (node_at xs n).path
paths-more xs n h =
    ap path_bytes (take-suc xs n no_node h) ∙ path-bytes-append (take n xs) (node_at xs n ∷ []) ∙ omega arith

root-snoc : (ns : List Node) (x : Node) → has_local_root (ns ++ (x ∷ [])) ≡ (ltb 0 (length ns) && eqb x.arc root_arc) || has_local_root ns
unfolding is_local_root
root-snoc ns x =
    ap (any_below (is_local_root (ns ++ (x ∷ [])))) (length-snoc ns x)
    ∙ rw (get_or-append_seam ns x [] no_node)
    (ap (λ (t : Bool). (ltb 0 (length ns) && eqb x.arc root_arc) || t)
    (any-below-cong (is_local_root (ns ++ (x ∷ []))) (is_local_root ns) (length ns)
    (λ i l. ap (λ (y : Node). ltb 0 i && eqb y.arc root_arc) (get_or-append ns (x ∷ []) no_node i l))))

root-more : (xs : List Node) (n : ℕ) → n < length xs
    → has_local_root (take (suc n) xs) ≡ (ltb 0 n && eqb (node_at xs n).arc root_arc) || has_local_root (take n xs)
root-more xs n h =
    ap has_local_root (take-suc xs n no_node h) ∙ root-snoc (take n xs) (node_at xs n)
    ∙ ap (λ (k : ℕ). (ltb 0 k && eqb (node_at xs n).arc root_arc) || has_local_root (take n xs)) (length-take-le n xs (omega arith))

-- ---- A record that is refused, and its first byte

if-refused : (r : ℕ) (rest : Outcome) (old : Graph) → (r ≡ 0 → ⊥) → (read_if r rest old).refused ≡ r
if-refused zero rest old h = absurd (h refl)
if-refused (suc r) rest old h = refl

first_byte : (s : List ℕ) → 0 < length s → get_or s 0 0 ≡ field 0 1 s
first_byte [] h = absurd (omega arith)
first_byte (b ∷ s) h = omega arith

-- ---- One record's questions

-- they are put to what its bytes say
pub one-checked : (body : List ℕ) (b : Before) (x : RecordNumbers) (r : Result ℕ Refusal) → 27 ≤ length body
    → x.arc ≡ field 0 1 body → x.flags ≡ field 1 1 body → x.parent ≡ field 10 4 body → x.origin ≡ field 14 4 body → x.has_specs ≡ field 26 1 body
    → RecordChecked (questions_at b x (take (length body - 27) (drop 27 body))) (take (length body - 27) (drop 27 body)) r
    → RecordChecked (questions_of b (read_record body)) (read_record body).path r
unfolding read_record
one-checked body b x r long a f p o s checked =
    let path : take (length body - 27) (drop 27 body) ≡ drop 27 body = take_all (length body - 27) (drop 27 body) (rw length-drop (omega arith)) in
    let same : questions_at b x (take (length body - 27) (drop 27 body)) ≡ questions_of b (read_record body) =
    λ i. questions_at b (record { arc = a i; flags = f i; parent = p i; origin = o i; has_specs = s i }) (path i) in
    record { refused = checked.refused ∙ ap refusal same; prims = λ z. checked.prims z ∙ ap prim_count path }

arc-read : (s : List ℕ) → field 0 1 s ≡ (read_record s).arc
unfolding read_record
arc-read s = refl

-- ---- The loop's state

pub record CheckedTo (bytes prims : List ℕ) (at paths : ℕ) (root : Bool) (n : ℕ) : Type 0 where
  pub reached : Reached bytes at n
  pub same : (read_on empty_graph (built (take n (nodes_read bytes))) (drop n (nodes_read bytes))).refused ≡ (read_into bytes empty_graph).refused
  pub path_bytes : paths ≡ path_bytes (take n (nodes_read bytes))
  pub few_bytes : paths ≤ most_path_bytes
  pub has-root : root ≡ has_local_root (take n (nodes_read bytes))
  pub named : (k : ℕ) → k < n → get_or prims k 0 ≡ prim_count (node_at (nodes_read bytes) k).path
  pub whole : length prims ≡ 1024

pub checked-none : (bytes prims : List ℕ) (count : ℕ) → Exact bytes count → length prims ≡ 1024 → CheckedTo bytes prims 7 0 false 0
unfolding read_into
checked-none bytes prims count exact whole = record {
  reached = reached-none bytes count exact;
  same = ap (λ (o : Option (List Node)). (read_or12 o empty_graph).refused) (sym exact.read);
  path_bytes = refl;
  few_bytes = omega arith;
  has-root = refl;
  named = λ k h. absurd (omega arith);
  whole = whole;
}

module _ (bytes prims : List ℕ) (at paths : ℕ) (root : Bool) (n : ℕ) (to : CheckedTo bytes prims at paths root n) where
  abbrev nodes : List Node
  nodes = nodes_read bytes

  abbrev graph : Graph
  graph = built (take n nodes)

  -- the next record, lent as `piece`, and what its check answered
  module _ (h : n < length nodes) (piece : List ℕ) (e : piece ≡ record_part at bytes) where
    abbrev x : Node
    x = node_at nodes n

    node : read_record piece ≡ x
    node = node-lent bytes at n to.reached h piece e

    questions : questions_of (before_read n paths root) (read_record piece) ≡ record_questions graph x
    questions =
        (λ i. questions_of (before_read n (to.path_bytes i) (to.has-root i)) (node i)) ∙ sym (questions-here nodes n x (omega arith))

    next : read_on empty_graph graph (drop n nodes)
        ≡ read_if (refusal (record_questions graph x)) (read_on empty_graph (with_node graph x) (drop (suc n) nodes)) empty_graph
    next = ap (read_on empty_graph graph) (drop-cons nodes n no_node h)

    module _ (r : Result ℕ Refusal) (checked : RecordChecked (questions_of (before_read n paths root) (read_record piece)) (read_record piece).path r) where
      refused : checked_refusal r ≡ refusal (record_questions graph x)
      refused = checked.refused ∙ ap refusal questions

      pub refused-here : (q : Refusal) → r ≡ Err q → RecordsChecked bytes (Err q) prims
      refused-here q s =
          let number : refusal_number q ≡ refusal (record_questions graph x) = ap checked_refusal (sym s) ∙ refused in
          record {
            refused =
                number ∙ sym (if-refused (refusal (record_questions graph x)) _ empty_graph (λ z. refusal-some q (number ∙ z)))
                ∙ sym (ap (λ (o : Outcome). o.refused) next) ∙ to.same;
            named = λ z. absurd (refusal-some q z);
          }

      module _ (p : ℕ) (s : r ≡ Ok p) where
        accepted : refusal (record_questions graph x) ≡ 0
        accepted = sym refused ∙ ap checked_refusal s

        named_here : p ≡ prim_count x.path
        named_here = sym (ap checked_prims s) ∙ checked.prims (ap checked_refusal s) ∙ ap (λ (y : Node). prim_count y.path) node

        path-long : length x.path ≡ length piece - 27
        unfolding read_record
        path-long = sym (ap (λ (y : Node). length y.path) node) ∙ length-drop 27 piece

        capacity : (length graph.nodes < most_nodes) × (path_bytes graph.nodes + length x.path ≤ most_path_bytes)
        capacity =
            let both = (and-eq-true_iff _ _).0 (record-passes graph x accepted).room in
            (ltb-true _ _ both.0, leb-true _ _ both.1)

        pub fits-prims : n < 1024
        fits-prims = omega (arith, built-sized nodes n to.reached.few, capacity.0)

        paths-fit : paths + (length piece - 27) ≤ most_path_bytes
        paths-fit = omega (arith, to.path_bytes, ap path_bytes (built-nodes (take n nodes)), path-long, capacity.1)

        pub checked-more : CheckedTo bytes (set prims n p) (at + (2 + length piece)) (paths + (length piece - 27))
            ((ltb 0 n && eqb (get_or piece 0 0) 0) || root) (n + 1)
        checked-more = record {
          reached = reached-more bytes at n to.reached h piece e;
          same =
              ap (λ (k : ℕ). (read_on empty_graph (built (take k nodes)) (drop k nodes)).refused) (add-one n)
              ∙ ap (λ (g : Graph). (read_on empty_graph g (drop (suc n) nodes)).refused) (built-more empty_graph nodes n h)
              ∙ sym (ap (λ (k : ℕ). (read_if k (read_on empty_graph (with_node graph x) (drop (suc n) nodes)) empty_graph).refused) accepted)
              ∙ sym (ap (λ (o : Outcome). o.refused) next) ∙ to.same;
          path_bytes = omega (arith, to.path_bytes, path-long, paths-more nodes n h, ap (λ (k : ℕ). path_bytes (take k nodes)) (add-one n));
          few_bytes = paths-fit;
          has-root =
              ap (λ (t : Bool). (ltb 0 n && eqb (get_or piece 0 0) 0) || t) to.has-root
              ∙ ap (λ (k : ℕ). (ltb 0 n && eqb k 0) || has_local_root (take n nodes)) first-arc
              ∙ sym (root-more nodes n h) ∙ ap (λ (k : ℕ). has_local_root (take k nodes)) (sym (add-one n));
          named = λ k l. go k (eq-or-lt_of_le {n = k} {m = n} (omega arith));
          whole = length-set prims n p ∙ to.whole;
        }
          where
            first-arc : get_or piece 0 0 ≡ x.arc
            first-arc = first_byte piece (omega (arith, piece-long bytes at n to.reached h piece e)) ∙ arc-read piece ∙ ap (λ (y : Node). y.arc) node

            go : (k : ℕ) → (k ≡ n) ⊎ (k < n) → get_or (set prims n p) k 0 ≡ prim_count (node_at nodes k).path
            go k (inl q) =
                rw q (get_or-set_same prims n p 0 (omega (arith, fits-prims, to.whole)) ∙ named_here)
            go k (inr l) = get_or-set_other prims n k p 0 (λ q. omega arith) ∙ to.named k l
