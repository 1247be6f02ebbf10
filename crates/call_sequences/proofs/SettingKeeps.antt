-- Setting fields of one node leaves a graph encodable where what is set fits its field
-- (`marking-keeps`, `first-spec-keeps`, `has-specs-keeps`, `restriction-keeps`): flags joined are
-- still a byte, whatever is given. Assumes nothing.
use Rattle.std.specs.Prelude.{None, Option, Some}
use mathlib.Core.Path.{◌≡◌, refl}
use mathlib.Core.Bool.{Bool, true, false, cond}
use mathlib.Core.List.{[], ◌∷◌}
use Prim.Native.Nat.{ℕ, ◌+◌, ◌/◌, ◌%◌, ◌^◌, ◌<◌}
use native.Mathlib.Omega.{arith}
use lib.Dec.{ltb}
use lib.ListN.{length-set}
use borrow.Author.Tests.{eqb-false}
use Rattle.model.specs.Node.{inert_flag, culled_flag, prohibited_children_flag, has_flag, Node}
use Rattle.model.specs.Graph.{Graph, size, node_at}
use Rattle.model.specs.Setting.{with_site, with_given, with_flags, marked, may_mark, with_first_spec, restricted_at, with_record}
use Rattle.model.specs.Refusals.{ask}
use Rattle.model.specs.Calls.{has_node_zero, mark, set_first_spec, set_has_specs, set_restriction_depth}
use Rattle.laws.proofs.SeenLaws.{node-set}
use Rattle.laws.proofs.LegalGraphs.{Legal}
use Rattle.laws.proofs.LegalSet.{marking-keeps-legal, first-spec-keeps-legal, restriction-keeps-legal}
use Rattle.arena.proofs.Encodable.{unordered, Encodable}
use Rattle.child_lists.proofs.AppendEncodable.{NumbersFit}
use Rattle.call_sequences.proofs.AddingKeeps.{DepthFits}
use Rattle.call_sequences.proofs.KeptFits.{Numbers, fit-numbers, legal-fits, Keeps, decided-encodable}

-- ---- The numbers

-- flags are a byte with one more where that was clear
given-fits : (flag given f : ℕ) → (has_flag flag f ≡ false → f + flag < 256) → f < 256 → with_given flag given f < 256
given-fits flag given f more fits = go (has_flag flag given) (has_flag flag f) refl
  where
    go : (b c : Bool) → has_flag flag f ≡ c → cond b (cond c f (f + flag)) f < 256
    go false c e = fits
    go true true e = fits
    go true false e = more e

flags-fit : (given f : ℕ) → f < 256 → with_flags given f < 256
flags-fit given f fits =
    let inert = with_given inert_flag given f in
    let culled = with_given culled_flag given inert in
    let one : inert < 256 = given-fits inert_flag given f (λ e. omega (arith, fits, eqb-false (f / 1 % 2) 1 e)) fits in
    let two : culled < 256 =
    given-fits culled_flag given inert (λ e. omega (arith, one, eqb-false (inert / 2 % 2) 1 e)) one in
    given-fits prohibited_children_flag given culled (λ e. omega (arith, two, eqb-false (culled / 4 % 2) 1 e)) two

numbers-with : (x : Node) (flags restriction spec_from has_specs : ℕ) → NumbersFit x → flags < 256 → restriction < 256 ^ 2
    → spec_from < 256 ^ 2 → NumbersFit (with_site flags restriction spec_from has_specs x)
numbers-with x flags restriction spec_from has_specs fit f r s = record {
  flags = f;
  stack = fit.stack;
  layer = fit.layer;
  depth = fit.depth;
  sibling = fit.sibling;
  restriction = r;
  spec_from = s;
  path_bytes = fit.path_bytes;
}

-- ---- The graph

module _ (n : ℕ) (g : Graph) (ok : Encodable g) where
  abbrev x : Node
  x = node_at g.nodes n

  numbers : Numbers g.nodes
  numbers = fit-numbers g.nodes ok.fit

  set-encodable : (y : Node) → NumbersFit y → Legal (unordered (with_record g n y)) → Encodable (with_record g n y)
  unfolding with_record
  set-encodable y fit legal = record {
    legal = legal;
    fit = legal-fits (unordered (with_record g n y)) legal
        (λ m h. node-set g.nodes n m y NumbersFit (λ e. fit) (numbers m));
    final = ok.final;
    no-order = ok.no-order;
    each-once = λ e. rw (length-set g.nodes n y) (ok.each-once e);
  }

  pub marking-keeps : (flags : ℕ) → Keeps g (mark n flags g)
  unfolding mark with_record
  marking-keeps flags =
      decided-encodable (has_node_zero g ∷ ask 4 (ltb n (size g)) ∷ ask 6 (may_mark flags x.arc) ∷ []) g 0
      (with_record g n (marked flags x)) refl (marking-keeps-legal n flags (unordered g) ok.legal)
      (λ a. set-encodable (marked flags x)
      (numbers-with x (with_flags flags x.flags) x.restriction x.spec_from x.has_specs (numbers n)
      (flags-fit flags x.flags (numbers n).flags) (numbers n).restriction (numbers n).spec_from)) ok

  pub first-spec-keeps : (first : Option ℕ) → DepthFits first → Keeps g (set_first_spec n first g)
  unfolding set_first_spec with_record
  first-spec-keeps first small =
      decided-encodable (has_node_zero g ∷ ask 4 (ltb n (size g)) ∷ []) g 0 (with_record g n (with_first_spec first x)) refl
      (first-spec-keeps-legal n first (unordered g) ok.legal)
      (λ a. set-encodable (with_first_spec first x) (fits first small)) ok
    where
      with-specs : (spec_from has_specs : ℕ) → spec_from < 256 ^ 2
          → NumbersFit (with_site x.flags x.restriction spec_from has_specs x)
      with-specs spec_from has_specs s =
          numbers-with x x.flags x.restriction spec_from has_specs (numbers n) (numbers n).flags
          (numbers n).restriction s

      fits : (o : Option ℕ) → DepthFits o → NumbersFit (with_first_spec o x)
      fits None h = with-specs 0 0 (omega arith)
      fits (Some k) h = with-specs k 1 h

  pub has-specs-keeps : (authored : Bool) → Keeps g (set_has_specs n authored g)
  unfolding set_has_specs
  has-specs-keeps true = first-spec-keeps (Some 0) (omega arith)
  has-specs-keeps false = first-spec-keeps None tt

  pub restriction-keeps : (depth : ℕ) → depth < 256 ^ 2 → Keeps g (set_restriction_depth n depth g)
  unfolding set_restriction_depth with_record
  restriction-keeps depth small =
      decided-encodable (has_node_zero g ∷ ask 4 (ltb n (size g)) ∷ []) g 0 (with_record g n (restricted_at depth x)) refl
      (restriction-keeps-legal n depth (unordered g) ok.legal)
      (λ a. set-encodable (restricted_at depth x)
      (numbers-with x x.flags depth x.spec_from x.has_specs (numbers n) (numbers n).flags small
      (numbers n).spec_from)) ok
