-- The calls that put a path into a lent buffer: where questions 1 to 4 pass, the buffer has 255
-- bytes and the node is there (`path-asked`), and the paths are no longer than that. Assumes
-- nothing.
use mathlib.Core.Path.{◌≡◌, refl, sym, ap, ◌∙◌}
use mathlib.Core.Bool.{Bool, true, false}
use mathlib.Core.List.{List}
use Prim.Native.Nat.{ℕ, ◌≤◌}
use native.Mathlib.Omega.{arith}
use lib.ListN.{length}
use borrow.Author.Tests.{eqb-true, ne_eqb}
use Rattle.model.specs.Path.{path_at_intro_depth, absolute_root}
use Rattle.model.specs.Node.{Node}
use Rattle.model.specs.Graph.{node_at, depth_below_introduction, path_at_introduction, intro_path}
use Rattle.model.specs.Refusals.{refusal}
use Rattle.model.specs.Calls.{reads_node}
use Rattle.model.specs.Arena.{decode, node_in}
use Rattle.model.specs.ArenaCalls.{ValidNode, is_path_buffer, ask_path}
use Rattle.laws.proofs.ArenaCallLaws.{buffer-refused, buffer-passed}
use Rattle.laws.proofs.PathLaws.{intro-no-longer}
use Rattle.arena.proofs.SlotLaws.{path-length}
use Rattle.arena.proofs.ReadNodes.{readable, has-path, node-read}
use Rattle.view.proofs.ViewLaws.{readable-parent}

module _ (bs buffer : List ℕ) (n : ℕ) where
  pub path-asked : refusal (ask_path bs buffer (reads_node (decode bs) n)) ≡ 0 → ValidNode bs n × (length buffer ≡ 255)
  path-asked e = go (is_path_buffer buffer) refl
    where
      go : (t : Bool) → is_path_buffer buffer ≡ t → ValidNode bs n × (length buffer ≡ 255)
      go true t = (
        readable bs n (sym (buffer-passed bs (is_path_buffer buffer) (reads_node (decode bs) n) t) ∙ e),
        eqb-true (length buffer) 255 t,
      )
      go false t = absurd (omega (arith, buffer-refused bs (is_path_buffer buffer) (reads_node (decode bs) n) t, e))

module _ (bs : List ℕ) (n : ℕ) (r : ValidNode bs n) where
  pub short-path : length (node_in bs n).path ≤ 255
  short-path = omega (arith, path-length bs n (has-path bs n r), (has-path bs n r).short)

  pub path-there : (node_in bs n).path ≡ (node_at (decode bs).nodes n).path
  path-there = ap (λ (x : Node). x.path) (sym (node-read bs n r))

  -- taken back by d steps
  pub short-intro : (d : ℕ) → length (path_at_intro_depth d (node_in bs n).path) ≤ 255
  short-intro d = omega (arith, short-path, intro-no-longer d (node_in bs n).path)

  -- the node's path at its introduction, of its parts as they are read
  pub taken_back : (d : ℕ) (p : List ℕ) → d ≡ depth_below_introduction (decode bs).nodes n → p ≡ (node_in bs n).path
      → path_at_intro_depth d p ≡ path_at_introduction (decode bs).nodes n
  unfolding path_at_introduction
  taken_back d p e q = λ i. path_at_intro_depth (e i) ((q ∙ path-there) i)

-- ---- The site that introduced a node

pub root-introduced : (ns : List Node) (n : ℕ) → n ≡ 0 → absolute_root ≡ intro_path ns n
unfolding intro_path
root-introduced ns n e = rw e

pub introduced : (bs : List ℕ) (n : ℕ) (r : ValidNode bs n) → (n ≡ 0 → ⊥) → (d parent : ℕ) (p : List ℕ)
    → d ≡ depth_below_introduction (decode bs).nodes n → parent ≡ (node_at (decode bs).nodes n).parent → p ≡ (node_in bs parent).path
    → path_at_intro_depth d p ≡ intro_path (decode bs).nodes n
unfolding intro_path
introduced bs n r some-parent d parent p e above q =
    rw (ne_eqb n 0 some-parent)
    (λ i. path_at_intro_depth (e i) ((q ∙ path-there bs parent there ∙ ap (λ (m : ℕ). (node_at (decode bs).nodes m).path) above) i))
  where
    there : ValidNode bs parent
    there = rw above (readable-parent bs n r (omega (arith, some-parent)))
