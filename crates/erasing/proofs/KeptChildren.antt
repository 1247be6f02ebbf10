-- The loop that gathers the kept children of a node: `Walking`, with its two steps and its end, and
-- that each step leaves fewer (`walking-less`). Assumes nothing.
use mathlib.Core.Path.{◌≡◌, sym, ap, ◌∙◌}
use mathlib.Core.List.{List, [], ◌∷◌}
use Prim.Native.Nat.{ℕ, ◌+◌, ◌≤◌, ◌<◌}
use native.Mathlib.Omega.{arith}
use lib.ListN.{length, get_or, set}
use Rattle.model.specs.Node.{invalid}
use Rattle.model.specs.Graph.{children_of}
use Rattle.model.specs.Arena.{count_in, first_child_in, next_sibling_in, node_in, chain_in, decode}
use Rattle.model.specs.ArenaCalls.{ValidArena, ValidNode}
use Rattle.model.specs.Erasing.{stays, new_number}
use Rattle.laws.proofs.ListLaws.{all-imp}
use Rattle.arena.proofs.ChainLaws.{Chain, chain_length, chain-linked}
use Rattle.arena.proofs.HeldArenas.{held, held-chain}
use Rattle.arena.proofs.ArenaBack.{children-decode}
use Rattle.erasing.specs.KeptLists.{kept_list, Gathered}
use Rattle.erasing.proofs.KeepLaws.{Keeping, keeping_start, keeping-kept, keeping_gone, keeping-ends}

-- ---- The children that are left

-- how many there are: what the loop counts down
abbrev pub left : List ℕ → ℕ → ℕ
left bs child = length (chain_in bs (count_in bs) child)

left-read : {bs : List ℕ} {v n : ℕ} {cs : List ℕ} → ValidArena bs → Chain bs v n cs → length cs ≤ count_in bs → left bs n ≡ length cs
left-read {bs} {v} {n} {cs} o chain short =
    let few = (held bs o.holds).few in
    ap (left bs) (sym chain.first)
    ∙ ap length (chain-linked bs (count_in bs) cs (omega arith) short
    (all-imp (λ c. (c < count_in bs) × ((node_in bs c).parent ≡ v)) (λ c. c < count_in bs) cs (λ c h. h.0) chain.children) chain.linked)

-- ---- The loop

-- the children from `child` on are left: `rest`
pub record Walking (bs bytes : List ℕ) (v start : ℕ) (before : List ℕ) (child end : ℕ) (array : List ℕ) : Type 0 where
  pub rest : List ℕ
  pub chain : Chain bs v child rest
  pub short : length rest ≤ count_in bs
  pub keeping : Keeping bytes (children_of (decode bs) v) start before rest end array

module _ {bs : List ℕ} (o : ValidArena bs) {bytes : List ℕ} {v start : ℕ} {before : List ℕ} where
  pub walking_start : {child : ℕ} → v < count_in bs → start + length (children_of (decode bs) v) ≤ length before → child ≡ first_child_in bs v
      → Walking bs bytes v start before child start before
  walking_start h fits e =
      let facts = held bs o.holds in
      let same = children-decode bs facts v h in
      record {
        rest = children_of (decode bs) v;
        chain = rw (e, same) (held-chain bs facts v h);
        short = rw same (chain_length bs (count_in bs) (first_child_in bs v));
        keeping = keeping_start fits;
      }

  module _ {child end : ℕ} {array : List ℕ} (w : Walking bs bytes v start before child end array) where
    module _ (some : child ≡ invalid → ⊥) where
      -- what a child that is there says
      record Here : Type 0 where
        later : List ℕ
        chain : Chain bs v child (child ∷ later)
        short : length (child ∷ later) ≤ count_in bs
        keeping : Keeping bytes (children_of (decode bs) v) start before (child ∷ later) end array

      here : Here
      here = go w.rest w.chain w.short w.keeping
        where
          go : (rest : List ℕ) → Chain bs v child rest → length rest ≤ count_in bs
              → Keeping bytes (children_of (decode bs) v) start before rest end array → Here
          go [] chain short keeping = absurd (some (sym chain.first))
          go (c ∷ rest) chain short keeping =
              let same : c ≡ child = chain.first in
              record { later = rest; chain = rw same at chain; short = short; keeping = rw same at keeping }

      pub walking-readable : ValidNode bs child
      walking-readable = record { opened = o; below = here.chain.children.0.0 }

      module _ {next : ℕ} (n : next ≡ next_sibling_in bs child) where
        onward : Chain bs v next here.later
        onward = record {
          first = sym here.chain.linked.0 ∙ sym n;
          children = here.chain.children.1;
          linked = here.chain.linked.1;
        }

        shorter : length here.later ≤ count_in bs
        shorter = omega (arith, here.short)

        pub walking-less : left bs next < left bs child
        walking-less = omega (arith, left-read o onward shorter, left-read o here.chain here.short)

        pub walking-kept : {number : ℕ} → get_or bytes child 0 ≡ 0 → number ≡ new_number (stays bytes) child
            → Walking bs bytes v start before next (end + 1) (set array end number)
        walking-kept e new = record { rest = here.later; chain = onward; short = shorter; keeping = keeping-kept here.keeping e new }

        pub walking-gone : (get_or bytes child 0 ≡ 0 → ⊥) → Walking bs bytes v start before next end array
        walking-gone e = record { rest = here.later; chain = onward; short = shorter; keeping = keeping_gone here.keeping e }

    pub walking-ends : child ≡ invalid → Gathered (kept_list bytes (children_of (decode bs) v)) start end before array
    walking-ends none = go w.rest w.chain w.keeping
      where
        go : (rest : List ℕ) → Chain bs v child rest → Keeping bytes (children_of (decode bs) v) start before rest end array
            → Gathered (kept_list bytes (children_of (decode bs) v)) start end before array
        go [] chain keeping = keeping-ends keeping
        go (c ∷ rest) chain keeping = absurd (omega (arith, chain.first, chain.children.0.0, (held bs o.holds).few))
