-- The marks, by their bytes: what is left of their test at each way out of it. Assumes nothing.
use mathlib.Core.Path.{◌≡◌}
use mathlib.Core.Bool.{true, false}
use Prim.Native.Nat.{ℕ, ◌≤◌, ◌<◌}
use lib.Dec.{eqb, leb}
use borrow.Author.Tests.{le-leb, lt-leb, eq-eqb, ne_eqb}
use Rattle.validate.specs.Validate.{marks_at}

module _ (ordered finalized shallow : ℕ) where
  pub ordered-other : 1 < ordered → marks_at ordered finalized shallow ≡ false
  unfolding marks_at
  ordered-other h = rw (lt-leb ordered 1 h)

  module _ (o : ordered ≤ 1) where
    pub finalized-other : 1 < finalized → marks_at ordered finalized shallow ≡ false
    unfolding marks_at
    finalized-other h = rw (le-leb ordered 1 o, lt-leb finalized 1 h)

    module _ (f : finalized ≤ 1) where
      pub shallow-other : 1 < shallow → marks_at ordered finalized shallow ≡ false
      unfolding marks_at
      shallow-other h = rw (le-leb ordered 1 o, le-leb finalized 1 f, lt-leb shallow 1 h)

  -- each mark is 0 or 1: "finalized only if ordered and not shallow"
  module _ (bits : (ordered ≤ 1) × (finalized ≤ 1) × (shallow ≤ 1)) where
    o : leb ordered 1 ≡ true
    o = le-leb ordered 1 bits.0

    f : leb finalized 1 ≡ true
    f = le-leb finalized 1 bits.1

    s : leb shallow 1 ≡ true
    s = le-leb shallow 1 bits.2

    pub unfinalized : finalized ≡ 0 → marks_at ordered finalized shallow ≡ true
    unfolding marks_at
    unfinalized h = rw (o, f, s, eq-eqb finalized 0 h)

    module _ (final : finalized ≡ 0 → ⊥) where
      pub final-unordered : (ordered ≡ 1 → ⊥) → marks_at ordered finalized shallow ≡ false
      unfolding marks_at
      final-unordered h = rw (o, f, s, ne_eqb finalized 0 final, ne_eqb ordered 1 h)

      pub final-left : ordered ≡ 1 → marks_at ordered finalized shallow ≡ eqb shallow 0
      unfolding marks_at
      final-left h = rw (o, f, s, ne_eqb finalized 0 final, eq-eqb ordered 1 h)
