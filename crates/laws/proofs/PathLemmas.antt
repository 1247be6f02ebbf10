-- What the other path laws rest on: the automaton as a table of its edges, `run` and `names` over
-- two pieces, what the state says of the last byte, and the searches from the end (`after_last`,
-- `without_selections`), which see only the bytes before them. Assumes nothing.
use mathlib.Core.Path.{◌≡◌, refl, sym, ap, ◌∙◌}
use mathlib.Core.Bool.{Bool, true, false, not, cond, true≢false, false≢true, and-false, or-true}
use mathlib.Core.List.{List, [], ◌∷◌, ◌++◌, append-nil}
use Prim.Native.Nat.{ℕ, zero, suc, pred, ◌+◌, ◌*◌, ◌≤◌, ◌<◌, min, max}
use native.Mathlib.Nat.{zero-add, suc-add}
use native.Mathlib.Omega.{arith}
use lib.Dec.{eqb}
use lib.ListN.{length, get_or, take, length-append, get_or-append}
use lib.Seq.{append_snoc, get_or-append_seam, get_or-take}
use borrow.Author.Tests.{eqb-true, eq-eqb, ne_eqb, not-true}
use Rattle.model.specs.Path.{solidus, open_brace, close_brace, equals_sign, is_name_start, is_word_byte, is_selection_byte, State, start, root, slash, name, set_start, set, selection, closed, dead, step, run, may_end, enters, names, after_last, ends_in, before_name, name_start, without_selections, intro_step, intro_length, separator}

-- ---- Lists of bytes

-- each byte passes the test
abbrev pub AllPass : (ℕ → Bool) → List ℕ → Type 0
AllPass f [] = Unit {0}
AllPass f (b ∷ bs) = (f b ≡ true) × AllPass f bs

pub all-pass-append : (f : ℕ → Bool) (xs ys : List ℕ) → AllPass f xs → AllPass f ys → AllPass f (xs ++ ys)
all-pass-append f [] ys h k = k
all-pass-append f (x ∷ xs) ys h k = (h.0, all-pass-append f xs ys h.1 k)

pub all-pass-weaken : (f g : ℕ → Bool) → ((b : ℕ) → f b ≡ true → g b ≡ true) → (xs : List ℕ) → AllPass f xs → AllPass g xs
all-pass-weaken f g i [] h = tt
all-pass-weaken f g i (x ∷ xs) h = (i x h.0, all-pass-weaken f g i xs h.1)

-- lists that grow at the end
pub snoc-induction : (P : List ℕ → Type 0) → P [] → ((p : List ℕ) (b : ℕ) → P p → P (p ++ b ∷ [])) → (p : List ℕ) → P p
snoc-induction P none more p = go [] p none
  where
    go : (p bs : List ℕ) → P p → P (p ++ bs)
    go p [] h = rw append-nil h
    go p (b ∷ bs) h = rw (← append_snoc) (go (p ++ b ∷ []) bs (more p b h))

pub length-snoc {ℓ} : {A : Type ℓ} (xs : List A) (x : A) → length (xs ++ x ∷ []) ≡ suc (length xs)
length-snoc xs x = length-append xs (x ∷ []) ∙ omega arith

-- ---- The automaton

-- its steps: those that read on, and the others
pub data Edge : State → ℕ → State → Type 0 where
  begins : {b : ℕ} → eqb b solidus ≡ true → Edge start b root
  root-name : {b : ℕ} → is_name_start b ≡ true → Edge root b name
  slash-name : {b : ℕ} → is_name_start b ≡ true → Edge slash b name
  closed-name : {b : ℕ} → is_name_start b ≡ true → Edge closed b name
  in-name : {b : ℕ} → is_word_byte b ≡ true → Edge name b name
  name-slash : {b : ℕ} → eqb b solidus ≡ true → Edge name b slash
  name-opens : {b : ℕ} → eqb b open_brace ≡ true → Edge name b set_start
  closed-opens : {b : ℕ} → eqb b open_brace ≡ true → Edge closed b set_start
  set-begins : {b : ℕ} → is_name_start b ≡ true → Edge set_start b set
  in-set : {b : ℕ} → is_word_byte b ≡ true → Edge set b set
  set-ends : {b : ℕ} → eqb b equals_sign ≡ true → Edge set b selection
  in-selection : {b : ℕ} → is_selection_byte b ≡ true → Edge selection b selection
  closes : {b : ℕ} → eqb b close_brace ≡ true → Edge selection b closed
  fails : {q : State} {b : ℕ} → Edge q b dead

pick : (P : State → Type 0) (t : Bool) (x y : State) → (t ≡ true → P x) → P y → P (cond t x y)
pick P true x y f g = f refl
pick P false x y f g = g

pub edge : (q : State) (b : ℕ) → Edge q b (step q b)
edge start b = pick (Edge start b) (eqb b solidus) root dead begins fails
edge root b = pick (Edge root b) (is_name_start b) name dead root-name fails
edge slash b = pick (Edge slash b) (is_name_start b) name dead slash-name fails
edge name b =
    pick (Edge name b) (is_word_byte b) name (cond (eqb b solidus) slash (cond (eqb b open_brace) set_start dead)) in-name
    (pick (Edge name b) (eqb b solidus) slash (cond (eqb b open_brace) set_start dead) name-slash
    (pick (Edge name b) (eqb b open_brace) set_start dead name-opens fails))
edge set_start b = pick (Edge set_start b) (is_name_start b) set dead set-begins fails
edge set b =
    pick (Edge set b) (is_word_byte b) set (cond (eqb b equals_sign) selection dead) in-set
    (pick (Edge set b) (eqb b equals_sign) selection dead set-ends fails)
edge selection b =
    pick (Edge selection b) (is_selection_byte b) selection (cond (eqb b close_brace) closed dead) in-selection
    (pick (Edge selection b) (eqb b close_brace) closed dead closes fails)
edge closed b =
    pick (Edge closed b) (is_name_start b) name (cond (eqb b open_brace) set_start dead) closed-name
    (pick (Edge closed b) (eqb b open_brace) set_start dead closed-opens fails)
edge dead b = fails

-- the states in which a path may end
pub data Ended (q : State) : Type 0 where
  at-root : q ≡ root → Ended q
  at_name : q ≡ name → Ended q
  at-closed : q ≡ closed → Ended q

pub ended : (q : State) → may_end q ≡ true → Ended q
ended start e = absurd (false≢true e)
ended root e = at-root refl
ended slash e = absurd (false≢true e)
ended name e = at_name refl
ended set_start e = absurd (false≢true e)
ended set e = absurd (false≢true e)
ended selection e = absurd (false≢true e)
ended closed e = at-closed refl
ended dead e = absurd (false≢true e)

pub may-end-not-empty : (p : List ℕ) → may_end (run start p) ≡ true → 1 ≤ length p
may-end-not-empty [] e = absurd (false≢true e)
may-end-not-empty (b ∷ p) e = omega arith

pub run-append : (q : State) (xs ys : List ℕ) → run q (xs ++ ys) ≡ run (run q xs) ys
run-append q [] ys = refl
run-append q (x ∷ xs) ys = run-append (step q x) xs ys

pub names-append : (q : State) (xs ys : List ℕ) → names q (xs ++ ys) ≡ names q xs + names (run q xs) ys
names-append q [] ys = omega arith
names-append q (x ∷ xs) ys = omega (arith, names-append (step q x) xs ys)

-- Two bytes are spent on each name: `in_hand` is what a state has saved of them.
abbrev pub in_hand : State → ℕ
in_hand start = 0
in_hand root = 1
in_hand slash = 1
in_hand name = 0
in_hand set_start = 1
in_hand set = 1
in_hand selection = 1
in_hand closed = 1
in_hand dead = 0

edge-pays : {q : State} {b : ℕ} {r : State} → Edge q b r → 2 * enters q r + in_hand r ≤ 1 + in_hand q
edge-pays (begins e) = omega arith
edge-pays (root-name e) = omega arith
edge-pays (slash-name e) = omega arith
edge-pays (closed-name e) = omega arith
edge-pays (in-name e) = omega arith
edge-pays (name-slash e) = omega arith
edge-pays (name-opens e) = omega arith
edge-pays (closed-opens e) = omega arith
edge-pays (set-begins e) = omega arith
edge-pays (in-set e) = omega arith
edge-pays (set-ends e) = omega arith
edge-pays (in-selection e) = omega arith
edge-pays (closes e) = omega arith
edge-pays {q} fails = simp and-false (omega arith)

pub names-half : (q : State) (bs : List ℕ) → 2 * names q bs ≤ length bs + in_hand q
names-half q [] = omega arith
names-half q (b ∷ bs) = omega (arith, edge-pays (edge q b), names-half (step q b) bs)

-- ---- Words

pub name-start-is-word : (b : ℕ) → is_name_start b ≡ true → is_word_byte b ≡ true
unfolding is_word_byte
name-start-is-word b e = rw e

-- a byte that is not b
abbrev pub other : ℕ → ℕ → Bool
other b c = not (eqb c b)

-- b ends words: it is no byte of one
abbrev pub Marker : ℕ → Type 0
Marker b = is_word_byte b ≡ false

pub solidus-marks : Marker solidus
unfolding is_word_byte is_name_start
solidus-marks = refl

pub open-brace-marks : Marker open_brace
unfolding is_word_byte is_name_start
open-brace-marks = refl

pub close-brace-marks : Marker close_brace
unfolding is_word_byte is_name_start
close-brace-marks = refl

-- `|` stands between the braces, and is none
pub open-brace-no-selection : is_selection_byte open_brace ≡ false
unfolding is_selection_byte is_word_byte is_name_start
open-brace-no-selection = refl

-- what passes a test that b fails is another byte than b
module _ (f : ℕ → Bool) (b : ℕ) (m : f b ≡ false) where
  passed-other : (c : ℕ) → f c ≡ true → eqb c b ≡ false
  passed-other c e = ne_eqb c b (λ q. true≢false (sym e ∙ ap f q ∙ m))

  pub all-pass-other : (w : List ℕ) → AllPass f w → AllPass (other b) w
  all-pass-other = all-pass-weaken f (other b) (λ c e. ap not (passed-other c e))

-- ---- Searches from the end answer no more than they were given

cond-le : (t : Bool) {x y k : ℕ} → x ≤ k → y ≤ k → cond t x y ≤ k
cond-le true h l = h
cond-le false h l = l

module _ (p : List ℕ) where
  pub after-last-le : (b k : ℕ) → after_last b p k ≤ k
  after-last-le b zero = omega arith
  after-last-le b (suc k) = cond-le (eqb (get_or p k 0) b) (omega arith) (omega (arith, after-last-le b k))

  pub before-name-is : (k : ℕ)
      → before_name p k ≡ max (max (pred (after_last solidus p k)) (after_last close_brace p k)) (min (after_last solidus p k) 1)
  unfolding before_name
  before-name-is k = refl

  pub before-name-le : (k : ℕ) → before_name p k ≤ k
  before-name-le k = omega (arith, before-name-is k, after-last-le solidus k, after-last-le close_brace k)

  pub without-selections-le : (inside : Bool) (k : ℕ) → without_selections inside p k ≤ k
  without-selections-le inside zero = omega arith
  without-selections-le inside (suc k) =
      let outer : without_selections false p k ≤ suc k = omega (arith, without-selections-le false k) in
      let inner : without_selections true p k ≤ suc k = omega (arith, without-selections-le true k) in
      cond-le inside (cond-le (eqb (get_or p k 0) open_brace) outer inner) (cond-le (eqb (get_or p k 0) close_brace) inner (omega arith))

  pub intro-step-le : (k : ℕ) → intro_step p k ≤ k
  intro-step-le k = omega (arith, before-name-le (without_selections false p k), without-selections-le false k)

  pub intro-length-le : (d k : ℕ) → intro_length d p k ≤ k
  intro-length-le zero k = omega arith
  intro-length-le (suc d) k = omega (arith, intro-length-le d (intro_step p k), intro-step-le k)

-- ---- Searches from the end see only the bytes before it

-- the first k bytes are the same
abbrev pub SameBelow : ℕ → List ℕ → List ℕ → Type 0
SameBelow k p q = (i : ℕ) → i < k → get_or p i 0 ≡ get_or q i 0

pub same-below-append : (p r : List ℕ) (k : ℕ) → k ≤ length p → SameBelow k (p ++ r) p
same-below-append p r k h i l = get_or-append p r 0 i (omega arith)

pub same-below-take : (n : ℕ) (p : List ℕ) (k : ℕ) → k ≤ n → SameBelow k (take n p) p
same-below-take n p k h i l = get_or-take n p i 0 (omega arith)

module _ (p q : List ℕ) where
  pub after-last-local : (b k : ℕ) → SameBelow k p q → after_last b p k ≡ after_last b q k
  after-last-local b zero s = refl
  after-last-local b (suc k) s = rw (s k (omega arith), after-last-local b k (λ i l. s i (omega arith)))

  pub before-name-local : (k : ℕ) → SameBelow k p q → before_name p k ≡ before_name q k
  unfolding before_name
  before-name-local k s = rw (after-last-local solidus k s, after-last-local close_brace k s)

  pub without-selections-local : (inside : Bool) (k : ℕ) → SameBelow k p q → without_selections inside p k ≡ without_selections inside q k
  without-selections-local inside zero s = refl
  without-selections-local inside (suc k) s =
      rw (s k (omega arith), without-selections-local true k (λ i l. s i (omega arith)), without-selections-local false k (λ i l. s i (omega arith)))

  pub intro-step-local : (k : ℕ) → SameBelow k p q → intro_step p k ≡ intro_step q k
  intro-step-local k s =
      rw (without-selections-local false k s)
      (before-name-local (without_selections false q k) (λ i l. s i (omega (arith, without-selections-le q false k))))

  pub intro-length-local : (d k : ℕ) → SameBelow k p q → intro_length d p k ≡ intro_length d q k
  intro-length-local zero k s = refl
  intro-length-local (suc d) k s =
      rw (intro-step-local k s) (intro-length-local d (intro_step q k) (λ i l. s i (omega (arith, intro-step-le q k))))

-- ---- Searches from the end of a whole list

module _ (p : List ℕ) (c : ℕ) where
  last_byte : get_or (p ++ c ∷ []) (length p) 0 ≡ c
  last_byte = get_or-append_seam p c [] 0

  same-before-last : SameBelow (length p) (p ++ c ∷ []) p
  same-before-last = same-below-append p (c ∷ []) (length p) (omega arith)

  pub ends-in-snoc : (b : ℕ) → ends_in b (p ++ c ∷ []) (length (p ++ c ∷ [])) ≡ eqb c b
  ends-in-snoc b = rw (length-snoc p c, last_byte)

  pub after-last-snoc : (b : ℕ)
      → after_last b (p ++ c ∷ []) (length (p ++ c ∷ [])) ≡ cond (eqb c b) (suc (length p)) (after_last b p (length p))
  after-last-snoc b = rw (length-snoc p c, last_byte, after-last-local (p ++ c ∷ []) p b (length p) same-before-last)

  pub without-selections-snoc : (inside : Bool)
      → without_selections inside (p ++ c ∷ []) (length (p ++ c ∷ [])) ≡ cond inside
      (cond (eqb c open_brace) (without_selections false p (length p)) (without_selections true p (length p)))
      (cond (eqb c close_brace) (without_selections true p (length p)) (suc (length p)))
  without-selections-snoc inside =
      rw (
        length-snoc p c,
        last_byte,
        without-selections-local (p ++ c ∷ []) p true (length p) same-before-last,
        without-selections-local (p ++ c ∷ []) p false (length p) same-before-last,
      )

-- past bytes that are not b
pub after-last-past : (b : ℕ) (p bs : List ℕ) → AllPass (other b) bs → after_last b (p ++ bs) (length (p ++ bs)) ≡ after_last b p (length p)
after-last-past b p [] h = rw append-nil
after-last-past b p (c ∷ bs) h =
    rw (← append_snoc, after-last-past b (p ++ c ∷ []) bs h.1, after-last-snoc p c b, not-true (eqb c b) h.0)

-- past a word
module _ (p w : List ℕ) (h : AllPass is_word_byte w) where
  after-last-past-word : (b : ℕ) → Marker b → after_last b (p ++ w) (length (p ++ w)) ≡ after_last b p (length p)
  after-last-past-word b m = after-last-past b p w (all-pass-other is_word_byte b m w h)

  pub before-name-past : before_name (p ++ w) (length (p ++ w)) ≡ before_name p (length p)
  unfolding before_name
  before-name-past = rw (after-last-past-word solidus solidus-marks, after-last-past-word close_brace close-brace-marks)

  pub name-start-past : name_start (p ++ w) (length (p ++ w)) ≡ name_start p (length p)
  unfolding name_start
  name-start-past = rw (after-last-past-word solidus solidus-marks, after-last-past-word close_brace close-brace-marks)

-- back to b
pub after-last-at : (b : ℕ) (p bs : List ℕ) → AllPass (other b) bs → after_last b (p ++ b ∷ bs) (length (p ++ b ∷ bs)) ≡ suc (length p)
after-last-at b p bs h = rw (← append_snoc, after-last-past b (p ++ b ∷ []) bs h, after-last-snoc p b b, eq-eqb b b refl)

pub after-last-of-end : (b : ℕ) (p : List ℕ) (k : ℕ) → ends_in b p k ≡ true → after_last b p k ≡ k
after-last-of-end b p zero e = refl
after-last-of-end b p (suc k) e = rw e

-- past bytes of a selection
pub without-selections-past : (p bs : List ℕ) → AllPass (other open_brace) bs
    → without_selections true (p ++ bs) (length (p ++ bs)) ≡ without_selections true p (length p)
without-selections-past p [] h = rw append-nil
without-selections-past p (c ∷ bs) h =
    rw (← append_snoc, without-selections-past (p ++ c ∷ []) bs h.1, without-selections-snoc p c true, not-true (eqb c open_brace) h.0)

-- back over a selection
pub without-selections-over : (p bs : List ℕ) → AllPass (other open_brace) bs
    → without_selections false (p ++ open_brace ∷ bs ++ close_brace ∷ []) (length (p ++ open_brace ∷ bs ++ close_brace ∷ []))
    ≡ without_selections false p (length p)
without-selections-over p bs h =
    rw (without-selections-snoc (p ++ open_brace ∷ bs) close_brace false, ← append_snoc, without-selections-past (p ++ open_brace ∷ []) bs h)
    (without-selections-snoc p open_brace true)

pub without-selections-none : (p : List ℕ) (k : ℕ) → ends_in close_brace p k ≡ false → without_selections false p k ≡ k
without-selections-none p zero e = refl
without-selections-none p (suc k) e = rw e

pub intro-length-add : (d e : ℕ) (p : List ℕ) (k : ℕ) → intro_length (d + e) p k ≡ intro_length e p (intro_length d p k)
intro-length-add zero e p k = rw zero-add
intro-length-add (suc d) e p k = rw suc-add (intro-length-add d e p (intro_step p k))

-- ---- The last byte by the state

-- What is read is nothing in the state start, `/` in root, ends in `}` in closed, and in name ends
-- neither in `/` nor in `}`.
abbrev pub Ending : State → List ℕ → Type 0
Ending start p = p ≡ []
Ending root p = p ≡ solidus ∷ []
Ending slash p = Unit {0}
Ending name p = (ends_in solidus p (length p) ≡ false) × (ends_in close_brace p (length p) ≡ false)
Ending set_start p = Unit {0}
Ending set p = Unit {0}
Ending selection p = Unit {0}
Ending closed p = ends_in close_brace p (length p) ≡ true
Ending dead p = Unit {0}

word-ending : (p : List ℕ) (b : ℕ) → is_word_byte b ≡ true → Ending name (p ++ b ∷ [])
word-ending p b e = (
  ends-in-snoc p b solidus ∙ passed-other is_word_byte solidus solidus-marks b e,
  ends-in-snoc p b close_brace ∙ passed-other is_word_byte close_brace close-brace-marks b e,
)

edge-ending : (p : List ℕ) {q : State} {b : ℕ} {r : State} → Edge q b r → Ending q p → Ending r (p ++ b ∷ [])
edge-ending p {b} (begins e) h = rw (h, eqb-true b solidus e)
edge-ending p {b} (root-name e) h = word-ending p b (name-start-is-word b e)
edge-ending p {b} (slash-name e) h = word-ending p b (name-start-is-word b e)
edge-ending p {b} (closed-name e) h = word-ending p b (name-start-is-word b e)
edge-ending p {b} (in-name e) h = word-ending p b e
edge-ending p (name-slash e) h = tt
edge-ending p (name-opens e) h = tt
edge-ending p (closed-opens e) h = tt
edge-ending p (set-begins e) h = tt
edge-ending p (in-set e) h = tt
edge-ending p (set-ends e) h = tt
edge-ending p (in-selection e) h = tt
edge-ending p {b} (closes e) h = ends-in-snoc p b close_brace ∙ e
edge-ending p fails h = tt

ending : (p : List ℕ) → Ending (run start p) p
ending = snoc-induction (λ p. Ending (run start p) p) refl (λ p b h. rw (run-append start p (b ∷ [])) (edge-ending p (edge (run start p) b) h))

pub state-ending : (p : List ℕ) (q : State) → run start p ≡ q → Ending q p
state-ending p q e = rw e at (ending p)

-- ---- The separator by the state

module _ (p : List ℕ) where
  pub separator-root : run start p ≡ root → separator p ≡ []
  unfolding separator
  separator-root e = rw (state-ending p root e)

  pub separator-name : run start p ≡ name → separator p ≡ solidus ∷ []
  unfolding separator
  separator-name e = rw ((state-ending p name e).0, (state-ending p name e).1)

  pub separator-closed : run start p ≡ closed → separator p ≡ []
  unfolding separator
  separator-closed e = rw (state-ending p closed e, or-true)
