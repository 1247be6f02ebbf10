-- The lines for one origin and for one R: each from the tests that decide it, and the list settled
-- by a line that differs or handed on where a line is passed. Assumes nothing.
use mathlib.Core.Path.{◌≡◌, sym}
use mathlib.Core.Bool.{true, false, or-true, and-false}
use mathlib.Core.List.{List}
use Prim.Native.Nat.{ℕ}
use Rattle.std.specs.declared.cmp.Ordering.{Ordering}
use Rattle.std.specs.declared.cmp.Ordering.TheVariants.{Less, Equal, Greater}
use Rattle.model.specs.Strength.{View, first, smaller, is_authored, origin_hops, class_depth, implied_over, same_origin_lines, local_line, same_root_lines}
use Rattle.model.specs.declared.Verdict.{Verdict}
use Rattle.model.specs.declared.Verdict.TheVariants.{Settled}
use Rattle.strength.specs.Verdicts.{origins_then_numbers, DecidedBy}
use Rattle.strength.proofs.VerdictNumbers.{by_sibling, passed, settles}

-- ---- What the tests of one node or of two decide

module _ (u : View) (a b : ℕ) where
  -- "Same origin: authored, sibling number, then node number; else implied over not implied, then
  -- node number"

  pub authored-left : is_authored u a ≡ true → same_origin_lines u a b ≡ by_sibling u a b
  unfolding same_origin_lines
  authored-left e = rw (e, same_origin_lines)

  pub authored-right : is_authored u b ≡ true → same_origin_lines u a b ≡ by_sibling u a b
  unfolding same_origin_lines
  authored-right e = rw (e, or-true, same_origin_lines)

  pub neither-authored : is_authored u a ≡ false → is_authored u b ≡ false → same_origin_lines u a b ≡ first (implied_over u a b) (smaller a b)
  unfolding same_origin_lines
  neither-authored e f = rw (e, f, same_origin_lines)

  -- "if neither is authored and both have the local root's stack, implied over not"

  pub local-authored-left : is_authored u a ≡ true → local_line u a b ≡ Equal
  unfolding local_line
  local-authored-left e = rw (e, local_line)

  pub local-authored-right : is_authored u b ≡ true → local_line u a b ≡ Equal
  unfolding local_line
  local-authored-right e = rw (e, or-true, local_line)

  pub not-local-left : u.local_stack a ≡ false → local_line u a b ≡ Equal
  unfolding local_line
  not-local-left e = rw (e, and-false, local_line)

  pub not-local-right : u.local_stack b ≡ false → local_line u a b ≡ Equal
  unfolding local_line
  not-local-right e = rw (e, and-false, and-false, local_line)

  pub both-local : is_authored u a ≡ false → is_authored u b ≡ false → u.local_stack a ≡ true → u.local_stack b ≡ true → local_line u a b ≡ implied_over u a b
  unfolding local_line
  both-local e f g h = rw (e, f, g, h, local_line)

-- ---- Settled, or handed on

-- what is passed before the local line
pub record RootsAlike (u : View) (a b : ℕ) : Type 0 where
  pub classes : class_depth u a ≡ class_depth u b
  pub hops : origin_hops u a ≡ origin_hops u b

module _ (u : View) (bs : List ℕ) (a b : ℕ) where
  -- "4. Smaller class depth; more hops"
  pub classes-differ : {o : Ordering} → (class_depth u a ≡ class_depth u b → ⊥) → o ≡ smaller (class_depth u a) (class_depth u b)
      → DecidedBy (same_root_lines u) bs a b (Settled o)
  unfolding same_root_lines
  classes-differ differ e = record { agrees = λ nodes. rw (settles (class_depth u a) (class_depth u b) _ differ, same_root_lines) e; asks = tt }

  pub hops-differ : {o : Ordering} → class_depth u a ≡ class_depth u b → (origin_hops u a ≡ origin_hops u b → ⊥) → o ≡ smaller (origin_hops u b) (origin_hops u a)
      → DecidedBy (same_root_lines u) bs a b (Settled o)
  unfolding same_root_lines
  hops-differ same differ e = record {
    agrees = λ nodes. rw (passed (class_depth u a) (class_depth u b) _ same, settles (origin_hops u b) (origin_hops u a) _ (λ q. differ (sym q)), same_root_lines) e;
    asks = tt;
  }

  -- the local line
  pub alike-passed : RootsAlike u a b → (nodes : ℕ → ℕ → Ordering) → same_root_lines u nodes a b ≡ first (local_line u a b) (origins_then_numbers u nodes a b)
  unfolding same_root_lines
  alike-passed r nodes =
      rw (passed (class_depth u a) (class_depth u b) _ r.classes, passed (origin_hops u b) (origin_hops u a) _ (sym r.hops), same_root_lines)

  pub local-less : RootsAlike u a b → local_line u a b ≡ Less → DecidedBy (same_root_lines u) bs a b (Settled Less)
  local-less r e = record { agrees = λ nodes. rw (alike-passed r nodes, e); asks = tt }

  pub local-greater : RootsAlike u a b → local_line u a b ≡ Greater → DecidedBy (same_root_lines u) bs a b (Settled Greater)
  local-greater r e = record { agrees = λ nodes. rw (alike-passed r nodes, e); asks = tt }

  pub local-passed : {v : Verdict} → RootsAlike u a b → local_line u a b ≡ Equal → DecidedBy (origins_then_numbers u) bs a b v → DecidedBy (same_root_lines u) bs a b v
  local-passed r e w = record { agrees = λ nodes. rw (alike-passed r nodes, e) (w.agrees nodes); asks = w.asks }
