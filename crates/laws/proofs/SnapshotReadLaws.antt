-- The laws of reading a snapshot into a graph: what the graph `built` of a list of nodes is; that a
-- graph whose records pass their questions, written and read, comes back as the graph built of its
-- nodes; that an accepted read leaves such a graph, and a refused one leaves the graph as it was.
-- Assumes nothing.
use Rattle.std.specs.Prelude.{None, Option, Some}
use mathlib.Core.Path.{◌≡◌, refl, sym, ap, ◌∙◌}
use mathlib.Core.Logic.{◌≢◌}
use mathlib.Core.Bool.{Bool, true, false, ◌&&◌, ◌||◌, and-eq-true_iff, or_comm}
use mathlib.Core.List.{List, [], ◌∷◌, ◌++◌, foldl, append-nil}
use Prim.Native.Nat.{ℕ, zero, suc, ◌+◌, ◌≤◌, ◌<◌}
use native.Mathlib.Omega.{arith}
use lib.Dec.{eqb, ltb}
use lib.ListN.{length, get_or, set, length-append, length-set, get_or-append}
use lib.Seq.{append_snoc, get_or-append_seam, get_or-set_same, get_or-set_other, ext_get_or}
use borrow.Author.Tests.{ltb-true, lt-ltb, eqb-true, eqb-false, ne_eqb}
use Rattle.model.specs.Lists.{pick, filter, any_below}
use Rattle.model.specs.Path.{well_formed}
use Rattle.model.specs.Node.{Node, no_node}
use Rattle.model.specs.Graph.{Graph, empty_graph, size, node_at, children_of, is_shallow, with_node}
use Rattle.model.specs.Snapshot.{write_snapshot, read_snapshot}
use Rattle.model.specs.Refusals.{ask, refusal, has_room, read_kind, links_allowed, record_questions}
use Rattle.model.specs.Calls.{Outcome, unchanged, read_if, read_on, read_or12, read_into}
use Rattle.laws.proofs.BigEndianLaws.{Bytes}
use Rattle.laws.proofs.SnapshotLaws.{NodesFit, written-reads-back, read-is-written}
use Rattle.laws.proofs.PathLemmas.{length-snoc}
use Rattle.laws.proofs.Trees.{size-with-node}

-- ---- The graph built of a list of nodes

abbrev pub built : List Node → Graph
built xs = foldl with_node empty_graph xs

-- the numbers 0 to n - 1, rising
abbrev pub below : ℕ → List ℕ
below zero = []
below (suc n) = below n ++ (n ∷ [])

-- c is not node 0, and v is its parent
abbrev pub has_parent : List Node → ℕ → ℕ → Bool
has_parent ns v c = ltb 0 c && eqb (node_at ns c).parent v

-- "Chains come back in node order, not ordered, shallow found anew"
pub record Fresh (g : Graph) : Type 0 where
  pub parents-lower : (c : ℕ) → 0 < c → c < size g → (node_at g.nodes c).parent < c
  pub lists : length g.children ≡ size g
  pub children : (v : ℕ) → children_of g v ≡ filter (has_parent g.nodes v) (below (size g))
  pub shallow : g.shallow ≡ any_below (λ c. is_shallow g.nodes c (node_at g.nodes c)) (size g)
  pub order : g.order ≡ []
  pub not-ordered : g.ordered ≡ false
  pub not-finalized : g.finalized ≡ false

built-nodes-from : (g : Graph) (xs : List Node) → (foldl with_node g xs).nodes ≡ g.nodes ++ xs
unfolding with_node
built-nodes-from g [] = sym (append-nil g.nodes)
built-nodes-from g (x ∷ xs) = built-nodes-from (with_node g x) xs ∙ append_snoc g.nodes x xs

pub built-nodes : (xs : List Node) → (built xs).nodes ≡ xs
built-nodes xs = built-nodes-from empty_graph xs

-- ---- What a node more does

pick-append : (t : Bool) (x : ℕ) (xs ys : List ℕ) → pick t (x ∷ (xs ++ ys)) (xs ++ ys) ≡ pick t (x ∷ xs) xs ++ ys
pick-append true x xs ys = refl
pick-append false x xs ys = refl

filter-snoc : (k : ℕ → Bool) (xs : List ℕ) (c : ℕ) → filter k (xs ++ (c ∷ [])) ≡ filter k xs ++ pick (k c) (c ∷ []) []
filter-snoc k [] c = refl
filter-snoc k (x ∷ xs) c = rw (filter-snoc k xs c) (pick-append (k x) x (filter k xs) (pick (k c) (c ∷ []) []))

filter_same : (p q : ℕ → Bool) (n : ℕ) → ((c : ℕ) → c < n → p c ≡ q c) → filter p (below n) ≡ filter q (below n)
filter_same p q zero h = refl
filter_same p q (suc n) h =
    rw (filter-snoc p (below n) n, filter-snoc q (below n) n, filter_same p q n (λ c l. h c (omega arith)), h n (omega arith))

any_same : (p q : ℕ → Bool) (n : ℕ) → ((c : ℕ) → c < n → p c ≡ q c) → any_below p n ≡ any_below q n
any_same p q zero h = refl
any_same p q (suc n) h = rw (h n (omega arith), any_same p q n (λ c l. h c (omega arith)))

padded : (cs : List (List ℕ)) (v : ℕ) → get_or (cs ++ ([] ∷ [])) v [] ≡ get_or cs v []
padded [] zero = refl
padded [] (suc v) = refl
padded (c ∷ cs) zero = refl
padded (c ∷ cs) (suc v) = padded cs v

-- the child n goes to the end of p's list
child-last : (cs : List (List ℕ)) (p n v : ℕ) → p < length cs
    → get_or (set cs p (get_or cs p [] ++ (n ∷ []))) v [] ≡ get_or cs v [] ++ pick (eqb p v) (n ∷ []) []
child-last cs p n v h = go (eqb p v) refl
  where
    go : (t : Bool) → eqb p v ≡ t → get_or (set cs p (get_or cs p [] ++ (n ∷ []))) v [] ≡ get_or cs v [] ++ pick t (n ∷ []) []
    go true e = rw (← eqb-true p v e) (get_or-set_same cs p (get_or cs p [] ++ (n ∷ [])) [] h)
    go false e =
        get_or-set_other cs p v (get_or cs p [] ++ (n ∷ [])) [] (λ q. eqb-false p v e (sym q)) ∙ sym (append-nil (get_or cs v []))

child-joins : (cs : List (List ℕ)) (p n v : ℕ) → length cs ≡ n → (0 < n → p < n)
    → get_or (set cs p (get_or cs p [] ++ (n ∷ [])) ++ ([] ∷ [])) v [] ≡ get_or cs v [] ++ pick (ltb 0 n && eqb p v) (n ∷ []) []
child-joins [] p n v e h = rw (← e) (padded [] v)
child-joins (c ∷ cs) p n v e h =
    let l : p < n = h (omega arith) in
    rw (lt-ltb 0 n (omega arith))
    (padded (set (c ∷ cs) p (get_or (c ∷ cs) p [] ++ (n ∷ []))) v ∙ child-last (c ∷ cs) p n v (omega arith))

shallow-same : (ns : List Node) (x y : Node) (c : ℕ) → (0 < c → y.parent < length ns)
    → is_shallow (ns ++ (x ∷ [])) c y ≡ is_shallow ns c y
shallow-same ns x y zero h = refl
shallow-same ns x y (suc c) h = rw (get_or-append ns (x ∷ []) no_node y.parent (h (omega arith)))

-- a fresh graph stays fresh
module _ (g : Graph) (x : Node) (f : Fresh g) (p : 0 < size g → x.parent < size g) where
  abbrev more : List Node
  more = g.nodes ++ (x ∷ [])

  earlier : (c : ℕ) → c < size g → node_at more c ≡ node_at g.nodes c
  earlier c l = get_or-append g.nodes (x ∷ []) no_node c l

  latest : node_at more (size g) ≡ x
  latest = get_or-append_seam g.nodes x [] no_node

  lower-step : (c : ℕ) → 0 < c → c < length more → (node_at more c).parent < c
  lower-step c l u = go (eqb c (size g)) refl
    where
      go : (t : Bool) → eqb c (size g) ≡ t → (node_at more c).parent < c
      go true e = rw (eqb-true c (size g) e, latest) (p (omega (arith, eqb-true c (size g) e)))
      go false e =
          let before : c < size g = omega (arith, length-snoc g.nodes x, eqb-false c (size g) e) in
          rw (earlier c before) (f.parents-lower c l before)

  children-step : (v : ℕ) → filter (has_parent more v) (below (length more))
      ≡ filter (has_parent g.nodes v) (below (size g)) ++ pick (ltb 0 (size g) && eqb x.parent v) (size g ∷ []) []
  children-step v =
      rw (
        length-snoc g.nodes x,
        filter-snoc (has_parent more v) (below (size g)) (size g),
        latest,
        filter_same (has_parent more v) (has_parent g.nodes v) (size g) (λ c l. ap (λ (y : Node). ltb 0 c && eqb y.parent v) (earlier c l)),
      )

  shallow-step : any_below (λ c. is_shallow more c (node_at more c)) (length more)
      ≡ is_shallow g.nodes (size g) x || any_below (λ c. is_shallow g.nodes c (node_at g.nodes c)) (size g)
  shallow-step =
      rw (
        length-snoc g.nodes x,
        latest,
        shallow-same g.nodes x x (size g) p,
        any_same (λ c. is_shallow more c (node_at more c)) (λ c. is_shallow g.nodes c (node_at g.nodes c)) (size g)
            (λ c l. ap (λ (y : Node). is_shallow more c y) (earlier c l)
            ∙ shallow-same g.nodes x (node_at g.nodes c) c (λ z. omega (arith, f.parents-lower c z l))),
      )

  pub fresh_step : Fresh (with_node g x)
  unfolding with_node
  fresh_step = record {
    parents-lower = lower-step;
    lists = simp (length-append, length-set) (omega arith);
    children = λ v. child-joins g.children x.parent (size g) v f.lists p ∙ rw (f.children v) (sym (children-step v));
    shallow = rw f.shallow (or_comm _ (is_shallow g.nodes (size g) x) ∙ sym shallow-step);
    order = refl;
    not-ordered = refl;
    not-finalized = refl;
  }

fresh-from : (g : Graph) (xs : List Node) → Fresh g
    → ((c : ℕ) → 0 < size g + c → c < length xs → (node_at xs c).parent < size g + c) → Fresh (foldl with_node g xs)
fresh-from g [] f h = f
fresh-from g (x ∷ xs) f h =
    fresh-from (with_node g x) xs (fresh_step g x f (λ l. omega (arith, h 0 (omega arith) (omega arith))))
    (λ c l u. omega (arith, size-with-node g x, h (suc c) (omega arith) (omega arith)))

pub built-fresh : (xs : List Node) → ((c : ℕ) → 0 < c → c < length xs → (node_at xs c).parent < c) → Fresh (built xs)
built-fresh xs h =
    fresh-from empty_graph xs
    (record {
      parents-lower = λ c l u. absurd (omega arith);
      lists = refl;
      children = λ v. refl;
      shallow = refl;
      order = refl;
      not-ordered = refl;
      not-finalized = refl;
    })
    (λ c l u. omega (arith, h c (omega arith) u))

-- so a fresh graph is known by its nodes
pub fresh-is-built : (g : Graph) → Fresh g → built g.nodes ≡ g
fresh-is-built g f =
    let b = built-fresh g.nodes f.parents-lower in
    let same : (built g.nodes).nodes ≡ g.nodes = built-nodes g.nodes in
    let lists : (built g.nodes).children ≡ g.children =
    ext_get_or [] (built g.nodes).children g.children (b.lists ∙ ap length same ∙ sym f.lists)
    (λ v l. b.children v ∙ ap (λ (ns : List Node). filter (has_parent ns v) (below (length ns))) same ∙ sym (f.children v)) in
    let marks : (built g.nodes).shallow ≡ g.shallow =
    b.shallow ∙ ap (λ (ns : List Node). any_below (λ c. is_shallow ns c (node_at ns c)) (length ns)) same ∙ sym f.shallow in
    λ i. record {
      nodes = same i;
      children = lists i;
      order = (b.order ∙ sym f.order) i;
      ordered = (b.not-ordered ∙ sym f.not-ordered) i;
      finalized = (b.not-finalized ∙ sym f.not-finalized) i;
      shallow = marks i;
    }

-- ---- The questions of a record

pub record RecordPasses (g : Graph) (x : Node) : Type 0 where
  pub links : links_allowed g x ≡ true
  pub path : well_formed x.path ≡ true
  pub kind : read_kind g x ≡ true
  pub room : has_room g x ≡ true

all_pass : (a b c d : Bool) → refusal (ask 4 a ∷ ask 5 b ∷ ask 6 c ∷ ask 7 d ∷ []) ≡ 0
    → (a ≡ true) × (b ≡ true) × (c ≡ true) × (d ≡ true)
all_pass true true true true e = (refl, refl, refl, refl)
all_pass true true true false e = absurd (omega arith)
all_pass true true false d e = absurd (omega arith)
all_pass true false c d e = absurd (omega arith)
all_pass false b c d e = absurd (omega arith)

pub record-passes : (g : Graph) (x : Node) → refusal (record_questions g x) ≡ 0 → RecordPasses g x
record-passes g x e =
    let t = all_pass (links_allowed g x) (well_formed x.path) (read_kind g x) (has_room g x) e in
    record { links = t.0; path = t.1; kind = t.2; room = t.3 }

-- ---- Reading

-- each record, put to the graph that those before it were added to, passes its questions
abbrev pub GrowsFrom : Graph → List Node → Type 0
GrowsFrom g [] = Unit {0}
GrowsFrom g (x ∷ xs) = (refusal (record_questions g x) ≡ 0) × GrowsFrom (with_node g x) xs

abbrev pub Grows : List Node → Type 0
Grows xs = GrowsFrom empty_graph xs

abbrev pub accepted : Graph → Outcome
accepted g = record { refused = 0; value = size g; graph = g }

links-lower : (g : Graph) (x : Node) → refusal (record_questions g x) ≡ 0 → 0 < size g → (x.parent < size g) × (x.origin < size g)
links-lower g x e l =
    let lower : (ltb x.parent (size g) && ltb x.origin (size g)) ≡ true =
    rw (ne_eqb (size g) 0 (λ q. omega arith)) at (record-passes g x e).links in
    let both = (and-eq-true_iff _ _).0 lower in
    (ltb-true x.parent (size g) both.0, ltb-true x.origin (size g) both.1)

grows-lower-from : (g : Graph) (xs : List Node) → GrowsFrom g xs → (c : ℕ) → 0 < size g + c → c < length xs
    → ((node_at xs c).parent < size g + c) × ((node_at xs c).origin < size g + c)
grows-lower-from g [] h c l u = absurd (omega arith)
grows-lower-from g (x ∷ xs) h zero l u = omega (arith, links-lower g x h.0 (omega arith))
grows-lower-from g (x ∷ xs) h (suc c) l u =
    omega (arith, size-with-node g x, grows-lower-from (with_node g x) xs h.1 c (omega (arith, size-with-node g x)) (omega arith))

pub grows-lower : (xs : List Node) → Grows xs → (c : ℕ) → 0 < c → c < length xs → ((node_at xs c).parent < c) × ((node_at xs c).origin < c)
grows-lower xs h c l u = omega (arith, grows-lower-from empty_graph xs h c (omega arith) u)

grows-size-from : (g : Graph) (xs : List Node) → GrowsFrom g xs → size g ≤ 1024 → size g + length xs ≤ 1024
grows-size-from g [] h l = omega arith
grows-size-from g (x ∷ xs) h l =
    let room : size g < 1024 = ltb-true (size g) 1024 ((and-eq-true_iff _ _).0 (record-passes g x h.0).room).0 in
    omega (arith, size-with-node g x, grows-size-from (with_node g x) xs h.1 (omega (arith, size-with-node g x)))

pub grows-size : (xs : List Node) → Grows xs → length xs ≤ 1024
grows-size xs h = omega (arith, grows-size-from empty_graph xs h (omega arith))

pub grows-fresh : (xs : List Node) → Grows xs → Fresh (built xs)
grows-fresh xs h = built-fresh xs (λ c l u. (grows-lower xs h c l u).0)

-- the records are read to the end exactly if they grow
read-on-grows : (old g : Graph) (xs : List Node) → GrowsFrom g xs → read_on old g xs ≡ accepted (foldl with_node g xs)
read-on-grows old g [] h = refl
read-on-grows old g (x ∷ xs) h = rw h.0 (read-on-grows old (with_node g x) xs h.1)

if-accepted : (r : ℕ) (rest : Outcome) (old : Graph) → (read_if r rest old).refused ≡ 0 → (r ≡ 0) × (rest.refused ≡ 0)
if-accepted zero rest old e = (refl, e)
if-accepted (suc r) rest old e = absurd (omega arith)

read-on-accepted : (old g : Graph) (xs : List Node) → (read_on old g xs).refused ≡ 0 → GrowsFrom g xs
read-on-accepted old g [] e = tt
read-on-accepted old g (x ∷ xs) e =
    let passed = if-accepted (refusal (record_questions g x)) (read_on old (with_node g x) xs) old e in
    (passed.0, read-on-accepted old (with_node g x) xs passed.1)

if-refused : (r : ℕ) (rest : Outcome) (old : Graph) → (rest.refused ≢ 0 → rest ≡ unchanged rest.refused old)
    → (read_if r rest old).refused ≢ 0 → read_if r rest old ≡ unchanged (read_if r rest old).refused old
if-refused zero rest old f h = f h
if-refused (suc r) rest old f h = refl

read-on-refused : (old g : Graph) (xs : List Node) → (read_on old g xs).refused ≢ 0 → read_on old g xs ≡ unchanged (read_on old g xs).refused old
read-on-refused old g [] h = absurd (h refl)
read-on-refused old g (x ∷ xs) h =
    if-refused (refusal (record_questions g x)) (read_on old (with_node g x) xs) old (read-on-refused old (with_node g x) xs) h

or12-refused : (o : Option (List Node)) (old : Graph) → (read_or12 o old).refused ≢ 0 → read_or12 o old ≡ unchanged (read_or12 o old).refused old
or12-refused None old h = refl
or12-refused (Some xs) old h = read-on-refused old empty_graph xs h

-- "the first no is the answer, with value 0 and every lent byte unchanged"
pub refused-read-keeps : (bytes : List ℕ) (old : Graph) → (read_into bytes old).refused ≢ 0
    → read_into bytes old ≡ unchanged (read_into bytes old).refused old
unfolding read_into
refused-read-keeps bytes old h = or12-refused (read_snapshot bytes) old h

-- records that grow are read
pub grown-read : (bytes : List ℕ) (old : Graph) (xs : List Node) → read_snapshot bytes ≡ Some xs → Grows xs
    → read_into bytes old ≡ accepted (built xs)
unfolding read_into
grown-read bytes old xs e h = rw (e, read_or12) (read-on-grows old empty_graph xs h)

-- and there is no other way to be accepted
pub record AcceptedRead (bytes : List ℕ) (old : Graph) : Type 0 where
  pub nodes : List Node
  pub read : read_snapshot bytes ≡ Some nodes
  pub grow : Grows nodes
  pub answer : read_into bytes old ≡ accepted (built nodes)

pub accepted-read : (bytes : List ℕ) (old : Graph) → (read_into bytes old).refused ≡ 0 → AcceptedRead bytes old
unfolding read_into
accepted-read bytes old z = go (read_snapshot bytes) refl z
  where
    go : (o : Option (List Node)) → read_snapshot bytes ≡ o → (read_or12 o old).refused ≡ 0 → AcceptedRead bytes old
    go None e y = absurd (omega arith)
    go (Some xs) e y =
        let grow = read-on-accepted old empty_graph xs y in
        record { nodes = xs; read = e; grow = grow; answer = grown-read bytes old xs e grow }

module _ (bytes : List ℕ) (old : Graph) (z : (read_into bytes old).refused ≡ 0) where
  pub accepted-read-fresh : Fresh (read_into bytes old).graph
  accepted-read-fresh =
      let r = accepted-read bytes old z in
      rw r.answer (grows-fresh r.nodes r.grow)

  -- so writing after reading gives the same bytes
  pub accepted-read-written : Bytes bytes → write_snapshot (read_into bytes old).graph ≡ bytes
  accepted-read-written h =
      let r = accepted-read bytes old z in
      rw r.answer (read-is-written bytes r.nodes h r.read (built r.nodes) (built-nodes r.nodes))

-- a graph that is written and read comes back as the graph built of its nodes
pub written-grows-back : (g old : Graph) → NodesFit g.nodes → Grows g.nodes
    → read_into (write_snapshot g) old ≡ record { refused = 0; value = size g; graph = built g.nodes }
written-grows-back g old f h =
    grown-read (write_snapshot g) old g.nodes (written-reads-back g f (omega (arith, grows-size g.nodes h))) h
    ∙ ap (λ (ns : List Node). record { refused = 0; value = length ns; graph = built g.nodes }) (built-nodes g.nodes)

-- and a fresh graph as itself
pub written-fresh-reads-back : (g old : Graph) → NodesFit g.nodes → Grows g.nodes → Fresh g
    → read_into (write_snapshot g) old ≡ accepted g
written-fresh-reads-back g old f h k =
    written-grows-back g old f h ∙ ap (λ (b : Graph). record { refused = 0; value = size g; graph = b }) (fresh-is-built g k)
