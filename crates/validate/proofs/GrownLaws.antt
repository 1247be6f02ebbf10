-- The records of an arena, put one after the other to the graph of those before them
-- (model/specs/Arena.antt's `records_accepted`): each by its own number (`accepted-each`). Of that
-- graph a record's questions read only what the sums below its number say: `questions-grown`.
-- Assumes nothing.
use mathlib.Core.Path.{◌≡◌, refl, sym, ap, subst, ◌∙◌}
use mathlib.Core.Logic.{◌⊎◌, inl, inr, ◌↔◌}
use mathlib.Core.Bool.{true, not, and-eq-true_iff}
use mathlib.Core.List.{List, [], ◌∷◌, ◌++◌}
use Prim.Native.Nat.{ℕ, zero, suc, ◌+◌, ◌≤◌, ◌<◌}
use native.Mathlib.Nat.{add-zero, zero-add, eq-or-lt_of_le}
use native.Mathlib.Omega.{arith}
use lib.Dec.{eqb}
use lib.ListN.{length}
use borrow.Author.Tests.{eqb-true, eq-eqb}
use Rattle.model.specs.Lists.{any_below}
use Rattle.model.specs.Node.{Node, no_node}
use Rattle.model.specs.Graph.{Graph, empty_graph, size, node_at, with_node, is_local_root, has_local_root}
use Rattle.model.specs.Refusals.{refusal, path_bytes, record_questions}
use Rattle.model.specs.Arena.{arena_bytes, record_length_in, node_in, tabulate, local_root_below, records_accepted}
use Rattle.laws.proofs.LegalAdded.{path-bytes-append}
use Rattle.arena.specs.Slot.{HasPath, arc_in}
use Rattle.arena.proofs.TabulateLaws.{tabulate-length, tabulate-at}
use Rattle.arena.proofs.ReadNodes.{root-found}
use Rattle.arena.proofs.SlotLaws.{same-fields, path-length}
use Rattle.validate.specs.RecordCheck.{questions_at}
use Rattle.validate.proofs.RecordCheckLaws.{questions-at}
use Rattle.validate.specs.Validate.{path_bytes_below, root_with, root_below, before_in, questions_in}

-- ---- A list tabulated one longer

tabulate-from {ℓ} : {A : Type ℓ} (f : ℕ → A) (at n : ℕ) → tabulate f at (suc n) ≡ tabulate f at n ++ (f (at + n) ∷ [])
tabulate-from f at zero = ap (λ (k : ℕ). f k ∷ []) (sym (add-zero at))
tabulate-from {A = A} f at (suc n) =
    let next : suc at + n ≡ at + suc n = omega arith in
    ap (λ (l : List A). f at ∷ l) (tabulate-from f (suc at) n ∙ ap (λ (k : ℕ). tabulate f (suc at) n ++ (f k ∷ [])) next)

pub tabulate-more {ℓ} : {A : Type ℓ} (f : ℕ → A) (n : ℕ) → tabulate f 0 (suc n) ≡ tabulate f 0 n ++ (f n ∷ [])
tabulate-more f n = tabulate-from f 0 n ∙ ap (λ (k : ℕ). tabulate f 0 n ++ (f k ∷ [])) (zero-add n)

-- ---- The graph that the first k nodes make

abbrev pub grown : (ℕ → Node) → ℕ → Graph
grown f zero = empty_graph
grown f (suc k) = with_node (grown f k) (f k)

grown-nodes : (f : ℕ → Node) (k : ℕ) → (grown f k).nodes ≡ tabulate f 0 k
unfolding with_node
grown-nodes f zero = refl
grown-nodes f (suc k) = ap (λ (ns : List Node). ns ++ (f k ∷ [])) (grown-nodes f k) ∙ sym (tabulate-more f k)

-- record k passes the questions put to it
abbrev pub Passes : (ℕ → Node) → ℕ → Type 0
Passes f k = refusal (record_questions (grown f k) (f k)) ≡ 0

accepted-from : (f : ℕ → Node) (at n : ℕ)
    → (records_accepted (grown f at) (tabulate f at n) ≡ true) ↔ ((k : ℕ) → at ≤ k → k < at + n → Passes f k)
accepted-from f at zero = (λ e k l u. absurd (omega arith), λ h. refl)
accepted-from f at (suc n) = (
  λ e. let both = (and-eq-true_iff _ _).0 e in split (eqb-true _ 0 both.0) ((accepted-from f (suc at) n).0 both.1),
  λ h. (and-eq-true_iff _ _).1 (
    eq-eqb _ 0 (h at (omega arith) (omega arith)),
    (accepted-from f (suc at) n).1 (λ k l u. h k (omega arith) (omega arith)),
  ),
)
  where
    split : Passes f at → ((k : ℕ) → suc at ≤ k → k < suc at + n → Passes f k) → (k : ℕ) → at ≤ k → k < at + suc n → Passes f k
    split here later k l u = go (eq-or-lt_of_le {n = at} {m = k} l)
      where
        go : (at ≡ k) ⊎ (at < k) → Passes f k
        go (inl q) = subst (Passes f) q here
        go (inr m) = later k (omega arith) (omega arith)

pub accepted-each : (f : ℕ → Node) (n : ℕ)
    → (records_accepted empty_graph (tabulate f 0 n) ≡ true) ↔ ((k : ℕ) → k < n → Passes f k)
accepted-each f n = (
  λ e k u. (accepted-from f 0 n).0 e k (omega arith) (omega arith),
  λ h. (accepted-from f 0 n).1 (λ k l u. h k (omega arith)),
)

-- ---- What the records below a number come to

-- each has a record's length
abbrev pub Fit : List ℕ → ℕ → Type 0
Fit bs k = (n : ℕ) → n < k → (28 ≤ record_length_in bs n) × (record_length_in bs n ≤ 282)

module _ (bs : List ℕ) where
  pub root-tabulated : (m n : ℕ) → n ≤ m → Fit bs n → local_root_below (tabulate (node_in bs) 0 m) n ≡ root_below bs n
  unfolding is_local_root
  root-tabulated m zero l fit = refl
  root-tabulated m (suc n) l fit =
      let arc : (node_at (tabulate (node_in bs) 0 m) n).arc ≡ arc_in bs n =
      ap (λ (x : Node). x.arc) (tabulate-at (node_in bs) no_node m n (omega arith))
      ∙ (same-fields bs n (omega (arith, fit n (omega arith)))).arc in
      λ i. root_with n (arc i) (root-tabulated m n (omega arith) (λ k h. fit k (omega arith)) i)

  root-grown : (k : ℕ) → Fit bs k → has_local_root (grown (node_in bs) k).nodes ≡ not (eqb (root_below bs k) 0)
  root-grown k fit =
      ap has_local_root (grown-nodes (node_in bs) k)
      ∙ ap (any_below (is_local_root (tabulate (node_in bs) 0 k))) (tabulate-length (node_in bs) 0 k)
      ∙ sym (root-found (tabulate (node_in bs) 0 k) k) ∙ ap (λ (r : ℕ). not (eqb r 0)) (root-tabulated k k (omega arith) fit)

module _ (bs : List ℕ) (whole : length bs ≡ arena_bytes) where
  pub has-path : (n : ℕ) → n < 1024 → 28 ≤ record_length_in bs n → record_length_in bs n ≤ 282 → HasPath bs n
  has-path n few named short = record { slot = record { whole = whole; within = few }; numbered = omega arith; short = short }

  bytes-tabulated : (k : ℕ) → k ≤ 1024 → Fit bs k → path_bytes (tabulate (node_in bs) 0 k) ≡ path_bytes_below bs k
  bytes-tabulated zero few fit = refl
  bytes-tabulated (suc k) few fit =
      let last = fit k (omega arith) in
      let front = bytes-tabulated k (omega arith) (λ n h. fit n (omega arith)) in
      ap path_bytes (tabulate-more (node_in bs) k)
      ∙ omega (arith, path-bytes-append (tabulate (node_in bs) 0 k) (node_in bs k ∷ []), path-length bs k (has-path k (omega arith) last.0 last.1))

  pub questions-grown : (k : ℕ) → k < 1024 → Fit bs (suc k)
      → record_questions (grown (node_in bs) k) (node_in bs k) ≡ questions_in bs (before_in k (path_bytes_below bs k) (root_below bs k))
  questions-grown k few fit =
      let before : Fit bs k = λ n h. fit n (omega arith) in
      let nodes = grown-nodes (node_in bs) k in
      let same = same-fields bs k (omega (arith, fit k (omega arith))) in
      let sized : size (grown (node_in bs) k) ≡ k = ap length nodes ∙ tabulate-length (node_in bs) 0 k in
      let held : path_bytes (grown (node_in bs) k).nodes ≡ path_bytes_below bs k = ap path_bytes nodes ∙ bytes-tabulated k (omega arith) before in
      questions-at (grown (node_in bs) k) (node_in bs k)
      ∙ (λ i. questions_at
      (record { count = sized i; path_bytes = held i; has_root = root-grown bs k before i; culled_allowed = true })
      (record { arc = same.arc i; flags = same.flags i; parent = same.parent i; origin = same.origin i; has_specs = same.has_specs i })
      (node_in bs k).path)
