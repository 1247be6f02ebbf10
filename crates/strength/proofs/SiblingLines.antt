-- The lines on two siblings: the list settled by a line that differs, handed on where a line is
-- passed, or the origins asked. Assumes nothing.
use mathlib.Core.Path.{◌≡◌, sym}
use mathlib.Core.Bool.{true, false, ◌&&◌}
use mathlib.Core.List.{List}
use Prim.Native.Nat.{ℕ}
use Rattle.std.specs.declared.cmp.Ordering.{Ordering}
use Rattle.model.specs.Strength.{View, smaller, specializes_lines, plain_lines, sibling_lines}
use Rattle.view.specs.View.{view_in}
use Rattle.model.specs.declared.Verdict.{Verdict}
use Rattle.model.specs.declared.Verdict.TheVariants.{Settled, Ask}
use Rattle.strength.specs.Verdicts.{Pair, DecidedBy}
use Rattle.strength.proofs.VerdictNumbers.{by_sibling, passed, settles}
use Rattle.strength.proofs.VerdictLaws.{origins-asked}

module _ (u : View) (bs : List ℕ) (a b : ℕ) where
  -- "3. Larger depth."
  pub depths-differ : {o : Ordering} → (u.depth a ≡ u.depth b → ⊥) → o ≡ smaller (u.depth b) (u.depth a) → DecidedBy (plain_lines u) bs a b (Settled o)
  unfolding plain_lines
  depths-differ differ e = record { agrees = λ nodes. rw (settles (u.depth b) (u.depth a) _ (λ q. differ (sym q)), plain_lines) e; asks = tt }

  -- "1. Smaller arc."
  pub ranks-differ : {o : Ordering} → (u.rank a ≡ u.rank b → ⊥) → o ≡ smaller (u.rank a) (u.rank b) → DecidedBy (sibling_lines u) bs a b (Settled o)
  unfolding sibling_lines
  ranks-differ differ e = record { agrees = λ nodes. rw (settles (u.rank a) (u.rank b) _ differ, sibling_lines) e; asks = tt }

  -- "2. Both HAS_SPECIALIZES: go to the list below."
  pub both-special : {v : Verdict} → u.rank a ≡ u.rank b → (u.special a && u.special b) ≡ true → DecidedBy (specializes_lines u) bs a b v
      → DecidedBy (sibling_lines u) bs a b v
  unfolding sibling_lines
  both-special same e w = record { agrees = λ nodes. rw (passed (u.rank a) (u.rank b) _ same, e, sibling_lines) (w.agrees nodes); asks = w.asks }

  pub not-both-special : {v : Verdict} → u.rank a ≡ u.rank b → (u.special a && u.special b) ≡ false → DecidedBy (plain_lines u) bs a b v
      → DecidedBy (sibling_lines u) bs a b v
  unfolding sibling_lines
  not-both-special same e w = record { agrees = λ nodes. rw (passed (u.rank a) (u.rank b) _ same, e, sibling_lines) (w.agrees nodes); asks = w.asks }

-- "4. Node strength of the origins. 5. Smaller sibling number, then smaller node number."
pub origins-then-siblings : {bs : List ℕ} {root a b : ℕ} → Pair bs root a b → {x y : ℕ} {o : Ordering} → (view_in bs).depth a ≡ (view_in bs).depth b
    → x ≡ (view_in bs).origin a → y ≡ (view_in bs).origin b → o ≡ by_sibling (view_in bs) a b → DecidedBy (plain_lines (view_in bs)) bs a b (Ask x y o)
unfolding plain_lines
origins-then-siblings {bs} {root} {a} {b} pair same p q e = rw (p, q, e) record {
  agrees = λ nodes. rw (passed ((view_in bs).depth b) ((view_in bs).depth a) _ (sym same), plain_lines);
  asks = origins-asked pair;
}
