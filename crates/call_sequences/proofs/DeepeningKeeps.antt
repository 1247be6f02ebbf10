-- Deepening leaves a graph encodable, in its own arena (`deepening-keeps`) or in a second
-- (`seeding-leaves`): a path with a name appended is of bytes, and the order stays where it is
-- finalized and goes where it is not. Assumes nothing.
use mathlib.Core.Path.{◌≡◌, refl, sym}
use mathlib.Core.Bool.{Bool, true, false, ◌||◌, ◌&&◌, cond, and-eq-true_iff, true≢false}
use mathlib.Core.List.{List, [], ◌∷◌, ◌++◌}
use Prim.Native.Nat.{ℕ, ◌<◌}
use native.Mathlib.Omega.{arith}
use lib.ListN.{length}
use Rattle.model.specs.Path.{solidus, close_brace, ends_in, name_start, last_name, separator, append_name}
use Rattle.model.specs.Node.{Node}
use Rattle.model.specs.Graph.{Graph, size, node_at}
use Rattle.model.specs.Deepening.{deepened, deepen, append_child_name_to_all_sites}
use Rattle.model.specs.Calls.{deepen_questions, append_child_name, seed_child}
use Rattle.laws.proofs.BigEndianLaws.{Bytes}
use Rattle.laws.proofs.LengthLaws.{EachOnce}
use Rattle.laws.proofs.StoredLaws.{bytes_drop}
use Rattle.laws.proofs.ListLaws.{all_append}
use Rattle.laws.proofs.DeepenLaws.{size-deepened, node-deepened}
use Rattle.laws.proofs.LegalGraphs.{Legal}
use Rattle.laws.proofs.LegalAlike.{deepening-keeps-legal}
use Rattle.arena.proofs.Encodable.{unordered, Encodable}
use Rattle.child_lists.proofs.AppendEncodable.{NumbersFit}
use Rattle.call_sequences.proofs.KeptFits.{fit-numbers, legal-fits, Keeps, decided-encodable, decided-leaves}

-- ---- Paths

name-bytes : (child : List ℕ) → Bytes child → Bytes (last_name child)
unfolding last_name
name-bytes child h = bytes_drop (name_start child (length child)) child h

appended-bytes : (path name : List ℕ) → Bytes path → Bytes name → Bytes (append_name path name)
unfolding append_name separator
appended-bytes path name h k =
    all_append (λ b. b < 256) path (separator path ++ name) h
    (all_append (λ b. b < 256) (separator path) name (between (ends_in solidus path (length path) || ends_in close_brace path (length path))) k)
  where
    between : (t : Bool) → Bytes (cond t [] (solidus ∷ []))
    between true = tt
    between false = (omega arith, tt)

numbers-deepened : (name : List ℕ) (x : Node) → Bytes name → NumbersFit x → NumbersFit (deepened name x)
numbers-deepened name x h fit = record {
  flags = fit.flags;
  stack = fit.stack;
  layer = fit.layer;
  depth = fit.depth;
  sibling = fit.sibling;
  restriction = fit.restriction;
  spec_from = fit.spec_from;
  path_bytes = appended-bytes x.path name fit.path_bytes h;
}

-- ---- The graph

module _ (name : List ℕ) (bytes : Bytes name) (g : Graph) (ok : Encodable g) where
  abbrev after : Graph
  after = deepen name g

  numbers_after : (n : ℕ) → n < size after → NumbersFit (node_at after.nodes n)
  numbers_after n h =
      rw (node-deepened name g n (rw (size-deepened name g) at h))
      (numbers-deepened name (node_at g.nodes n) bytes (fit-numbers g.nodes ok.fit n))

  -- an order that stays is a finalized one
  kept-order : (f : Bool) → g.finalized ≡ f → (f ≡ true → (g.ordered && f ≡ true) × (g.shallow ≡ false))
      × (g.ordered && f ≡ false → cond f g.order [] ≡ []) × (g.ordered && f ≡ true → EachOnce (size g) (cond f g.order []))
  kept-order true e =
      let marks = ok.final e in (
        λ f. (rw marks.0, marks.1),
        λ o. absurd (true≢false (rw marks.0 at o)),
        λ o. ok.each-once marks.0,
      )
  kept-order false e = (
    λ f. absurd (true≢false (sym f)),
    λ o. refl,
    λ o. absurd (true≢false (sym ((and-eq-true_iff g.ordered false).0 o).1)),
  )

  marks-after : (after.finalized ≡ true → (after.ordered ≡ true) × (after.shallow ≡ false)) × (after.ordered ≡ false → after.order ≡ [])
      × (after.ordered ≡ true → EachOnce (size g) after.order)
  unfolding deepen
  marks-after = kept-order g.finalized refl

  deepened-encodable : Legal (unordered after) → Encodable after
  deepened-encodable legal = record {
    legal = legal;
    fit = legal-fits (unordered after) legal numbers_after;
    final = marks-after.0;
    no-order = marks-after.1;
    each-once = λ e. rw (size-deepened name g) (marks-after.2 e);
  }

module _ (child : List ℕ) (bytes : Bytes child) where
  pub deepening-keeps : (g : Graph) → Encodable g → Keeps g (append_child_name child g)
  unfolding append_child_name deepen
  deepening-keeps g ok =
      decided-encodable (deepen_questions child g) g 0 (append_child_name_to_all_sites child g) refl
      (deepening-keeps-legal child (unordered g) ok.legal) (λ a. deepened-encodable (last_name child) (name-bytes child bytes) g ok) ok

  pub seeding-leaves : (from into : Graph) → Encodable from → (seed_child child from into).refused ≡ 0 → Encodable (seed_child child from into).graph
  unfolding append_child_name seed_child deepen
  seeding-leaves from into ok =
      decided-leaves (deepen_questions child from) from 0 (append_child_name_to_all_sites child from) refl
      (deepening-keeps-legal child (unordered from) ok.legal) (λ a. deepened-encodable (last_name child) (name-bytes child bytes) from ok) into
