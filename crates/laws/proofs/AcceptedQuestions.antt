-- A call that is put questions (document 01, "The twelve questions"): not refused, every question
-- passes; refused, it leaves the graph. So what holds of the old graph, and of the new one where
-- every question passes, holds after the call: one law for all calls. Assumes nothing.
use mathlib.Core.Path.{◌≡◌, refl}
use mathlib.Core.Bool.{Bool, true, false, ◌&&◌, cond, and-eq-true_iff}
use mathlib.Core.List.{List, [], ◌∷◌}
use Prim.Native.Nat.{ℕ, zero, suc}
use native.Mathlib.Omega.{arith}
use lib.Dec.{eqb, ltb}
use borrow.Author.Tests.{ltb-true}
use Rattle.model.specs.Graph.{Graph}
use Rattle.model.specs.Refusals.{Question, refusal}
use Rattle.model.specs.Calls.{settled, decided}

-- the answer to question k: yes where it is not put (no call puts one twice)
abbrev pub answer : ℕ → List Question → Bool
answer k [] = true
answer k (q ∷ qs) = cond (eqb k q.number) q.passes (answer k qs)

-- every question passes
abbrev pub Accepted : List Question → Type 0
Accepted qs = (k : ℕ) → answer k qs ≡ true

-- no question has number 0, which says that none refused
abbrev pub numbered : List Question → Bool
numbered [] = true
numbered (q ∷ qs) = ltb 0 q.number && numbered qs

pub none-refused-accepted : (qs : List Question) → numbered qs ≡ true → refusal qs ≡ 0 → Accepted qs
none-refused-accepted [] n e k = refl
none-refused-accepted (q ∷ qs) n e k = go q.passes refl e (eqb k q.number) (none-refused-accepted qs both.1)
  where
    both : (ltb 0 q.number ≡ true) × (numbered qs ≡ true)
    both = (and-eq-true_iff (ltb 0 q.number) (numbered qs)).0 n

    go : (b : Bool) → q.passes ≡ b → cond b (refusal qs) q.number ≡ 0 → (here : Bool) → (refusal qs ≡ 0 → Accepted qs)
        → cond here q.passes (answer k qs) ≡ true
    go true p e true rest = p
    go true p e false rest = rest e k
    go false p e here rest = absurd (omega (arith, ltb-true 0 q.number both.0))

-- ---- What a call comes to

module _ (qs : List Question) (g : Graph) (value : ℕ) (result : Graph) (P : Graph → Type 0) (n : numbered qs ≡ true)
    (new : Accepted qs → P result) where
  -- refused or not
  pub decided-keeps : P g → P (decided qs g value result).graph
  decided-keeps old = go (refusal qs) refl
    where
      go : (r : ℕ) → refusal qs ≡ r → P (settled r g value result).graph
      go zero e = new (none-refused-accepted qs n e)
      go (suc r) e = old

  -- not refused, whatever the old graph
  pub decided-leaves : (decided qs g value result).refused ≡ 0 → P (decided qs g value result).graph
  decided-leaves = go (refusal qs) refl
    where
      go : (r : ℕ) → refusal qs ≡ r → (settled r g value result).refused ≡ 0 → P (settled r g value result).graph
      go zero e f = new (none-refused-accepted qs n e)
      go (suc r) e f = absurd (omega arith)
