-- `link_child` meets its contract: a record that was loaded has the links that the arena has, so
-- storing it with one changed changes that one. Assumes nothing.
use mathlib.Core.Path.{◌≡◌, sym, ap, ◌∙◌}
use mathlib.Core.Bool.{false}
use mathlib.Core.List.{List}
use Prim.Native.Nat.{ℕ, ◌<◌}
use borrow.Author.Tests.{eq-eqb, ne_eqb}
use native.Mathlib.Omega.{arith}
use lib.Dec.{eqb}
use Rattle.model.specs.Arena.{first_child_in, last_child_in, next_sibling_in}
use Rattle.model.specs.Node.{invalid}
use Rattle.model.specs.declared.NodeId.{NodeId}
use Rattle.arena.specs.declared.Node.{Node}
use Rattle.arena.specs.Slot.{HasSlot, Loaded, with_first_child, with_last_child, with_next_sibling, links_stored}
use Rattle.child_lists.specs.Append.{three_links, sibling_linked}
use Rattle.child_lists.proofs.append.link_child.Goals as goal

-- ---- A record loaded, and stored with other links

module _ (bs : List ℕ) (k : ℕ) (x : Node) (id : NodeId) (loaded : Loaded bs k x) where
  only_child : links_stored k (with_first_child id (with_last_child id x)) bs ≡ three_links k id.0 id.0 (next_sibling_in bs k) bs
  only_child = ap (λ (next : ℕ). three_links k id.0 id.0 next bs) loaded.next_sibling

  last-child : links_stored k (with_last_child id x) bs ≡ three_links k (first_child_in bs k) id.0 (next_sibling_in bs k) bs
  last-child = λ i. three_links k (loaded.first_child i) id.0 (loaded.next_sibling i) bs

  next-sibling : links_stored k (with_next_sibling id x) bs ≡ sibling_linked k id.0 bs
  next-sibling = λ i. three_links k (loaded.first_child i) (loaded.last_child i) id.0 bs

-- ---- The needs
abbrev number : ℕ → NodeId
number n = record { 0 = n }

pub returns-then-n-eq0 : goal.returns-then-n-eq0
returns-then-n-eq0 c =
    rw (eq-eqb c.args.n 0 c.if-n-eq0.true)

pub load_node-node-requires : goal.load_node-node-requires
load_node-node-requires c =
    let parent-slot : HasSlot c.args.arena.now c.args.parent =
    let higher : 0 < c.args.n = omega (arith, c.if-n-eq0.false) in
    record { whole = c.requires.whole; within = c.requires.parent-within higher } in
    parent-slot

pub store_links-requires : goal.store_links-requires
store_links-requires c =
    let parent-slot : HasSlot c.args.arena.now c.args.parent =
    let higher : 0 < c.args.n = omega (arith, c.if-n-eq0.false) in
    record { whole = c.requires.whole; within = c.requires.parent-within higher } in
    parent-slot

pub returns-then-last : goal.returns-then-last
returns-then-last c =
    let not_first : eqb c.args.n 0 ≡ false =
    ne_eqb c.args.n 0 c.if-n-eq0.false in
    rw (not_first, eq-eqb (last_child_in c.args.arena.now c.args.parent) invalid (sym c.load_node-node.ensures.last_child ∙ c.if-last.true))
    (c.store_links.ensures
    ∙ ap (λ (x : Node). links_stored c.args.parent x c.args.arena.now)
    (c.with_first_child.ensures ∙ ap (with_first_child (number c.args.n)) c.with_last_child-grown.ensures)
    ∙ only_child c.args.arena.now c.args.parent c.load_node-node.result (number c.args.n) c.load_node-node.ensures)

pub store_links-requires-2 : goal.store_links-requires-2
store_links-requires-2 c =
    let parent-slot : HasSlot c.args.arena.now c.args.parent =
    let higher : 0 < c.args.n = omega (arith, c.if-n-eq0.false) in
    record { whole = c.requires.whole; within = c.requires.parent-within higher } in
    parent-slot

pub load_node-requires : goal.load_node-requires
load_node-requires c =
    let parent-slot : HasSlot c.args.arena.now c.args.parent =
    let higher : 0 < c.args.n = omega (arith, c.if-n-eq0.false) in
    record { whole = c.requires.whole; within = c.requires.parent-within higher } in
    let has_last : last_child_in c.args.arena.now c.args.parent ≡ invalid → ⊥ =
    λ e. c.if-last.false (c.load_node-node.ensures.last_child ∙ e) in
    let last_within : c.load_node-node.result.last_child.0 < 1024 =
    let higher : 0 < c.args.n = omega (arith, c.if-n-eq0.false) in
    omega (arith, c.load_node-node.ensures.last_child, c.requires.last_within higher has_last) in
    record {
      whole = c.store_links-2.auto.arena ∙ parent-slot.whole;
      within = last_within;
    }

pub store_links-requires-3 : goal.store_links-requires-3
store_links-requires-3 c =
    let parent-slot : HasSlot c.args.arena.now c.args.parent =
    let higher : 0 < c.args.n = omega (arith, c.if-n-eq0.false) in
    record { whole = c.requires.whole; within = c.requires.parent-within higher } in
    let has_last : last_child_in c.args.arena.now c.args.parent ≡ invalid → ⊥ =
    λ e. c.if-last.false (c.load_node-node.ensures.last_child ∙ e) in
    let last_within : c.load_node-node.result.last_child.0 < 1024 =
    let higher : 0 < c.args.n = omega (arith, c.if-n-eq0.false) in
    omega (arith, c.load_node-node.ensures.last_child, c.requires.last_within higher has_last) in
    record { whole = c.store_links-2.auto.arena ∙ parent-slot.whole; within = last_within }

pub returns : goal.returns
returns c =
    let not_first : eqb c.args.n 0 ≡ false =
    ne_eqb c.args.n 0 c.if-n-eq0.false in
    let has_last : last_child_in c.args.arena.now c.args.parent ≡ invalid → ⊥ =
    λ e. c.if-last.false (c.load_node-node.ensures.last_child ∙ e) in
    let last = c.load_node-node.ensures.last_child in
    let after = c.store_links-2.new.arena in
    let linked : after ≡ three_links c.args.parent (first_child_in c.args.arena.now c.args.parent) c.args.n (next_sibling_in c.args.arena.now c.args.parent) c.args.arena.now =
    c.store_links-2.ensures
    ∙ ap (λ (x : Node). links_stored c.args.parent x c.args.arena.now) c.with_last_child-grown.ensures
    ∙ last-child c.args.arena.now c.args.parent c.load_node-node.result (number c.args.n) c.load_node-node.ensures in
    rw (not_first, ne_eqb (last_child_in c.args.arena.now c.args.parent) invalid has_last)
    (c.store_links-3.ensures
    ∙ ap (λ (x : Node). links_stored c.load_node-node.result.last_child.0 x after) c.with_next_sibling-sibling.ensures
    ∙ next-sibling after c.load_node-node.result.last_child.0 c.load_node.result (number c.args.n) c.load_node.ensures
    ∙ (λ i. sibling_linked (last i) c.args.n (linked i)))
