-- Walks by `next` to lower nodes: `follow`, `steps` and `chain` of specs/Strength.antt and
-- `left_up_to` of specs/Hierarchy.antt, each as one `fold_up_to`. `fold-alike`: a walk whose steps look
-- the same under new numbers comes to the same, with any fuel that is enough on either side. One
-- walk and its own numbers: fuel does not matter, so a walk stops, or takes its step and goes on
-- from there, with no fuel in the law. Assumes nothing.
use mathlib.Core.Path.{◌≡◌, refl, sym}
use mathlib.Core.Bool.{Bool, true, false, ◌||◌, cond, or-true, or-false}
use mathlib.Core.List.{[], ◌∷◌, ◌++◌, map, map-append}
use Prim.Native.Nat.{ℕ, zero, suc, ◌≤◌, ◌<◌}
use native.Mathlib.Omega.{arith}
use lib.Dec.{eqb}
use borrow.Author.Tests.{eqb-false, ne_eqb}
use Rattle.model.specs.Node.{invalid}
use Rattle.model.specs.Strength.{follow_up_to, follow, steps_up_to, steps, chain_up_to, chain}
use Rattle.model.specs.Hierarchy.{later_or, left_up_to}

-- ---- One walk for the four

-- `last` is made of the node where it ends, `more` of each node that it leaves and of what comes
-- after
abbrev fold_up_to : {A : Type 0} → (ℕ → Bool) → (ℕ → ℕ) → (ℕ → A) → (ℕ → A → A) → ℕ → ℕ → A
fold_up_to stop next last more zero m = last m
fold_up_to stop next last more (suc k) m = cond (eqb m 0 || stop m) (last m) (more m (fold_up_to stop next last more k (next m)))

follow-folds : (stop : ℕ → Bool) (next : ℕ → ℕ) (k m : ℕ) → follow_up_to stop next k m ≡ fold_up_to stop next (λ c. c) (λ c x. x) k m
follow-folds stop next zero m = refl
follow-folds stop next (suc k) m = rw (follow-folds stop next k (next m))

steps-fold : (stop : ℕ → Bool) (next : ℕ → ℕ) (k m : ℕ) → steps_up_to stop next k m ≡ fold_up_to stop next (λ c. 0) (λ c x. suc x) k m
steps-fold stop next zero m = refl
steps-fold stop next (suc k) m = rw (steps-fold stop next k (next m))

chain-folds : (next : ℕ → ℕ) (k m : ℕ) → chain_up_to next k m ≡ fold_up_to (λ c. false) next (λ c. c ∷ []) (λ c x. x ++ (c ∷ [])) k m
chain-folds next zero m = refl
chain-folds next (suc k) m = rw (or-false, chain-folds next k (next m))

left-folds : (stop : ℕ → Bool) (next : ℕ → ℕ) (k m : ℕ) → left_up_to stop next k m ≡ fold_up_to stop next (λ c. invalid) later_or k m
left-folds stop next zero m = refl
left-folds stop next (suc k) m = rw (left-folds stop next k (next m))

-- node 0 ends a walk, with any fuel
fold-zero : {A : Type 0} (stop : ℕ → Bool) (next : ℕ → ℕ) (last : ℕ → A) (more : ℕ → A → A) (k : ℕ) → fold_up_to stop next last more k 0 ≡ last 0
fold-zero stop next last more zero = refl
fold-zero stop next last more (suc k) = refl

-- ---- Two walks that look the same

-- new numbers for the kept nodes: 0 stays 0, and the order stays
pub record Renumbers (keep : ℕ → Bool) (r : ℕ → ℕ) : Type 0 where
  pub root_kept : keep 0 ≡ true
  pub root-stays : r 0 ≡ 0
  pub rises : (a b : ℕ) → keep a ≡ true → keep b ≡ true → a < b → r a < r b

-- a step from each kept node to a lower one, and the same step under the new numbers
pub record StepsAlike (n : ℕ) (keep : ℕ → Bool) (r : ℕ → ℕ) (next next' : ℕ → ℕ) : Type 0 where
  pub lower : (c : ℕ) → 0 < c → c < n → keep c ≡ true → next c < c
  pub kept : (c : ℕ) → 0 < c → c < n → keep c ≡ true → keep (next c) ≡ true
  pub nexts : (c : ℕ) → 0 < c → c < n → keep c ≡ true → next' (r c) ≡ r (next c)

-- the same stops
pub record StopsAlike (n : ℕ) (keep : ℕ → Bool) (r : ℕ → ℕ) (stop stop' : ℕ → Bool) : Type 0 where
  pub stops : (c : ℕ) → 0 < c → c < n → keep c ≡ true → stop' (r c) ≡ stop c

pub cond_map : {A B : Type 0} (f : A → B) (b : Bool) (x y : A) → cond b (f x) (f y) ≡ f (cond b x y)
cond_map f true x y = refl
cond_map f false x y = refl

module _ {n : ℕ} {keep : ℕ → Bool} {r : ℕ → ℕ} (new : Renumbers keep r) where
  -- f gives what the one walk makes the new numbers
  module _ {A : Type 0} {stop stop' : ℕ → Bool} {next next' : ℕ → ℕ} (halts : StopsAlike n keep r stop stop')
      (goes : StepsAlike n keep r next next') (last : ℕ → A) (more : ℕ → A → A) (f : A → A)
      (lasts : (m : ℕ) → last (r m) ≡ f (last m)) (mores : (m : ℕ) (x : A) → more (r m) (f x) ≡ f (more m x)) where
    zero-alike : (l : ℕ) → fold_up_to stop' next' last more l (r 0) ≡ f (last 0)
    zero-alike l = rw (new.root-stays, fold-zero stop' next' last more l) (rw new.root-stays at (lasts 0))

    fold-alike : (k l m : ℕ) → m < n → keep m ≡ true → m ≤ k → r m ≤ l
        → fold_up_to stop' next' last more l (r m) ≡ f (fold_up_to stop next last more k m)
    fold-alike zero l zero p q hk hl = zero-alike l
    fold-alike zero l (suc m) p q hk hl = absurd (omega arith)
    fold-alike (suc k) l zero p q hk hl = zero-alike l
    fold-alike (suc k) zero (suc m) p q hk hl = absurd (omega (arith, new.rises 0 (suc m) new.root_kept q (omega arith)))
    fold-alike (suc k) (suc l) (suc m) p q hk hl =
        let d = goes.lower (suc m) (omega arith) p q in
        let t = goes.kept (suc m) (omega arith) p q in
        let v = new.rises 0 (suc m) new.root_kept q (omega arith) in
        let w = new.rises (next (suc m)) (suc m) t q d in
        rw (
          ne_eqb (suc m) 0 (omega arith),
          ne_eqb (r (suc m)) 0 (omega arith),
          halts.stops (suc m) (omega arith) p q,
          goes.nexts (suc m) (omega arith) p q,
          fold-alike k l (next (suc m)) (omega arith) t (omega arith) (omega arith),
          mores,
          lasts,
        )
        (cond_map f (stop (suc m)) _ _)

    -- with each node's own number for fuel
    own-alike : (m : ℕ) → m < n → keep m ≡ true → fold_up_to stop' next' last more (r m) (r m) ≡ f (fold_up_to stop next last more m m)
    own-alike m p q = fold-alike m (r m) m p q (omega arith) (omega arith)

  module _ {stop stop' : ℕ → Bool} {next next' : ℕ → ℕ} (halts : StopsAlike n keep r stop stop') (goes : StepsAlike n keep r next next')
      (m : ℕ) (p : m < n) (q : keep m ≡ true) where
    pub follow-alike : follow stop' next' (r m) ≡ r (follow stop next m)
    follow-alike =
        rw (follow-folds stop' next' (r m) (r m), follow-folds stop next m m)
        (own-alike halts goes (λ c. c) (λ c x. x) r (λ c. refl) (λ c x. refl) m p q)

    pub steps_alike : steps stop' next' (r m) ≡ steps stop next m
    steps_alike =
        rw (steps-fold stop' next' (r m) (r m), steps-fold stop next m m)
        (own-alike halts goes (λ c. 0) (λ c x. suc x) (λ x. x) (λ c. refl) (λ c x. refl) m p q)

  pub chain-alike : {next next' : ℕ → ℕ} → StepsAlike n keep r next next' → (m : ℕ) → m < n → keep m ≡ true
      → chain next' (r m) ≡ map r (chain next m)
  chain-alike {next} {next'} goes m p q =
      rw (chain-folds next' (r m) (r m), chain-folds next m m)
      (own-alike {stop = λ c. false} {stop' = λ c. false} (record { stops = λ c _ _ _. refl }) goes (λ c. c ∷ []) (λ c x. x ++ (c ∷ [])) (map r)
      (λ c. refl) (λ c x. sym (map-append r x (c ∷ []))) m p q)

-- ---- Fuel does not matter

-- below n each step goes to a lower node
abbrev pub Falls : ℕ → (ℕ → ℕ) → Type 0
Falls n next = (c : ℕ) → 0 < c → c < n → next c < c

module _ {n : ℕ} {next : ℕ → ℕ} (falls : Falls n next) where
  fold-fuel : {A : Type 0} (stop : ℕ → Bool) (last : ℕ → A) (more : ℕ → A → A) (k l m : ℕ) → m < n → m ≤ k → m ≤ l
      → fold_up_to stop next last more l m ≡ fold_up_to stop next last more k m
  fold-fuel stop last more k l m p hk hl =
      fold-alike {keep = λ c. true} {r = λ c. c} (record { root_kept = refl; root-stays = refl; rises = λ a b _ _ h. h })
      (record { stops = λ c _ _ _. refl }) (record { lower = λ c h i _. falls c h i; kept = λ c _ _ _. refl; nexts = λ c _ _ _. refl })
      last more (λ x. x) (λ c. refl) (λ c x. refl) k l m p refl hk hl

  fold_step : {A : Type 0} (stop : ℕ → Bool) (last : ℕ → A) (more : ℕ → A → A) (m : ℕ) → 0 < m → m < n → stop m ≡ false
      → fold_up_to stop next last more m m ≡ more m (fold_up_to stop next last more (next m) (next m))
  fold_step stop last more zero h p e = absurd (omega arith)
  fold_step stop last more (suc m) h p e =
      let d = falls (suc m) h p in
      rw (ne_eqb (suc m) 0 (omega arith), e, fold-fuel stop last more (next (suc m)) m (next (suc m)) (omega arith) (omega arith) (omega arith))

  pub follow-step : (stop : ℕ → Bool) (m : ℕ) → 0 < m → m < n → stop m ≡ false → follow stop next m ≡ follow stop next (next m)
  follow-step stop m h p e = rw (follow-folds stop next m m, follow-folds stop next (next m) (next m)) (fold_step stop (λ c. c) (λ c x. x) m h p e)

  pub steps-step : (stop : ℕ → Bool) (m : ℕ) → 0 < m → m < n → stop m ≡ false → steps stop next m ≡ suc (steps stop next (next m))
  steps-step stop m h p e = rw (steps-fold stop next m m, steps-fold stop next (next m) (next m)) (fold_step stop (λ c. 0) (λ c x. suc x) m h p e)

  pub left_step : (stop : ℕ → Bool) (m : ℕ) → 0 < m → m < n → stop m ≡ false
      → left_up_to stop next m m ≡ later_or m (left_up_to stop next (next m) (next m))
  left_step stop m h p e = rw (left-folds stop next m m, left-folds stop next (next m) (next m)) (fold_step stop (λ c. invalid) later_or m h p e)

  pub chain-step : (m : ℕ) → 0 < m → m < n → chain next m ≡ chain next (next m) ++ (m ∷ [])
  chain-step m h p = rw (chain-folds next m m, chain-folds next (next m) (next m)) (fold_step (λ c. false) (λ c. c ∷ []) (λ c x. x ++ (c ∷ [])) m h p refl)

-- a walk stops where `stop` says, and at node 0
module _ (stop : ℕ → Bool) (next : ℕ → ℕ) where
  pub follow-stop : (m : ℕ) → stop m ≡ true → follow stop next m ≡ m
  follow-stop zero e = refl
  follow-stop (suc m) e = rw (e, or-true)

  pub steps-stop : (m : ℕ) → stop m ≡ true → steps stop next m ≡ 0
  steps-stop zero e = refl
  steps-stop (suc m) e = rw (e, or-true)

  pub left-stop : (m : ℕ) → stop m ≡ true → left_up_to stop next m m ≡ invalid
  left-stop zero e = refl
  left-stop (suc m) e = rw (e, or-true)

  pub follow-zero : follow stop next 0 ≡ 0
  follow-zero = refl

  pub steps-zero : steps stop next 0 ≡ 0
  steps-zero = refl

  -- what each step keeps, the walk keeps
  pub follow-keeps : (P : ℕ → Type 0) → ((c : ℕ) → 0 < c → P c → P (next c)) → (k m : ℕ) → P m → P (follow_up_to stop next k m)
  follow-keeps P keeps zero m h = h
  follow-keeps P keeps (suc k) m h = go (eqb m 0) (stop m) refl (follow-keeps P keeps k (next m))
    where
      go : (z s : Bool) → eqb m 0 ≡ z → (P (next m) → P (follow_up_to stop next k (next m))) → P (cond (z || s) m (follow_up_to stop next k (next m)))
      go true s e ih = h
      go false true e ih = h
      go false false e ih = let q = eqb-false m 0 e in ih (keeps m (omega arith) h)

pub chain-zero : (next : ℕ → ℕ) → chain next 0 ≡ 0 ∷ []
chain-zero next = refl

-- a walk never rises, and from a node where it does not stop it falls
module _ {n : ℕ} {next : ℕ → ℕ} (falls : Falls n next) (stop : ℕ → Bool) where
  pub follow-le : (m : ℕ) → m < n → follow stop next m ≤ m
  follow-le m p = follow-keeps stop next (λ c. c ≤ m) (λ c h i. let d = falls c h (omega arith) in omega arith) m m (omega arith)

  pub follow-falls : (m : ℕ) → 0 < m → m < n → stop m ≡ false → follow stop next m < m
  follow-falls m h p e = let d = falls m h p in let l = follow-le (next m) (omega arith) in rw (follow-step falls stop m h p e) (omega arith)
