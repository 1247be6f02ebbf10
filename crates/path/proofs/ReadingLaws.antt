-- Reading from the front: one byte, a run of bytes, and where the reading fails. Each law is over
-- the state, so that names, sets and selections share it. Last, that reading a path from its start
-- is `count_prims`. Assumes nothing.
use Rattle.std.specs.Prelude.{None, Some, is_some}
use mathlib.Core.Path.{◌≡◌, refl, sym, ap, ◌∙◌}
use mathlib.Core.Bool.{Bool, true, false, not, ◌&&◌, cond, false≢true, and-eq-true_iff, and-true, and-false}
use mathlib.Core.List.{List, [], ◌∷◌}
use Prim.Native.Nat.{ℕ, zero, suc, ◌+◌, ◌-◌, ◌≤◌, ◌<◌}
use native.Mathlib.Nat.{add-zero, add-suc, zero-add}
use native.Mathlib.Numerals.{add-one}
use native.Mathlib.Omega.{arith}
use borrow.Author.Tests.{ltb-true, ltb-false, lt-ltb, le-leb, lt-leb, ne_eqb}
use lib.Dec.{eqb, ltb}
use lib.ListN.{length, get_or, drop, drop_of_length-le}
use lib.Seq.{drop-cons}
use Rattle.model.specs.Path.{State, start, root, slash, name, set_start, set, selection, closed, dead, step, run, may_end, in_name, names, is_name_start, is_word_byte, is_selection_byte, solidus, open_brace, equals_sign, close_brace, well_formed, prim_count, count_prims}
use Rattle.std.specs.Prelude.{Option, Some, None}
use Rattle.path.specs.declared.scan.Element.{Element}
use Rattle.path.specs.declared.scan.Element.TheVariants.{Name, Selection}
use Rattle.path.specs.PathReading.{counted, reading, Run, begins_name, stands_at, GoesOn, Fails, Stops, same, NameRead, SelectionRead, ElementRead, standing}

-- ---- One byte

reading-at : (q : State) (n : ℕ) (p : List ℕ) (at : ℕ) → at < length p
    → reading q n (drop at p) ≡ reading (step q (get_or p at 0)) (counted q (step q (get_or p at 0)) n) (drop (suc at) p)
reading-at q n p at h = ap (reading q n) (drop-cons p at 0 h)

reading-past : (q : State) (n : ℕ) (p : List ℕ) (at : ℕ) → length p ≤ at → reading q n (drop at p) ≡ cond (may_end q) (Some n) None
reading-past q n p at h = ap (reading q n) (drop_of_length-le p h)

pub goes : (q r : State) (p : List ℕ) (at : ℕ) → at < length p → step q (get_or p at 0) ≡ r
    → (n : ℕ) → reading q n (drop at p) ≡ reading r (counted q r n) (drop (suc at) p)
goes q r p at h e n = reading-at q n p at h ∙ ap (λ (s : State). reading s (counted q s n) (drop (suc at) p)) e

reading-dead : (n : ℕ) (bs : List ℕ) → reading dead n bs ≡ None
reading-dead n [] = refl
reading-dead n (b ∷ bs) = reading-dead n bs

-- a reading fails where the path may not end, and where the byte that stands there fits nowhere
pub fails : (q : State) (p : List ℕ) (at : ℕ) → may_end q ≡ false → (at < length p → step q (get_or p at 0) ≡ dead) → Fails p q at
fails q p at e f n = go (ltb at (length p)) refl
  where
    go : (t : Bool) → ltb at (length p) ≡ t → reading q n (drop at p) ≡ None
    go true h = goes q dead p at (ltb-true _ _ h) (f (ltb-true _ _ h)) n ∙ reading-dead _ (drop (suc at) p)
    go false h = reading-past q n p at (ltb-false _ _ h) ∙ ap (λ (t : Bool). cond t (Some n) None) e

-- ---- A run of bytes

still : (t : Bool) (n : ℕ) → cond (not t && t) (suc n) n ≡ n
still true n = refl
still false n = refl

skips : (q : State) (test : ℕ → Bool) → ((b : ℕ) → test b ≡ true → step q b ≡ q) → (n : ℕ) (p : List ℕ) (at m : ℕ) → at + m ≤ length p
    → ((k : ℕ) → at ≤ k → k < at + m → test (get_or p k 0) ≡ true) → reading q n (drop at p) ≡ reading q n (drop (at + m) p)
skips q test stay n p at zero h all = rw (add-zero at)
skips q test stay n p at (suc m) h all =
    let e : at + suc m ≡ suc (at + m) = add-suc at m in
    let l : at + m < length p = omega arith in
    skips q test stay n p at m (omega arith) (λ k a b. all k a (omega arith))
    ∙ goes q q p (at + m) l (stay (get_or p (at + m) 0) (all (at + m) (omega arith) (omega arith))) n
    ∙ ap (λ (j : ℕ). reading q j (drop (suc (at + m)) p)) (still (in_name q) n)
    ∙ ap (λ (j : ℕ). reading q n (drop j p)) (sym e)

-- the reading stays in its state over a run
pub run-stays : (q : State) (test : ℕ → Bool) → ((b : ℕ) → test b ≡ true → step q b ≡ q) → (p : List ℕ) (at e : ℕ) → Run test p at e
    → (n : ℕ) → reading q n (drop at p) ≡ reading q n (drop e p)
run-stays q test stay p at e r n =
    let m : at + (e - at) ≡ e = omega (arith, r.from) in
    skips q test stay n p at (e - at) (omega (arith, r.within)) (λ k a b. r.all k a (omega arith))
    ∙ ap (λ (j : ℕ). reading q n (drop j p)) m

-- ---- A word: a name or a set

and-fails : (a b : Bool) → a ≡ true → (a && b) ≡ false → b ≡ false
and-fails true b h e = e
and-fails false b h e = absurd (false≢true h)

pub begins-within : (p : List ℕ) (at : ℕ) → begins_name p at ≡ true → at < length p
begins-within p at e = ltb-true _ _ ((and-eq-true_iff (ltb at (length p)) (is_name_start (get_or p at 0))).0 e).0

pub stands-within : (p : List ℕ) (at x : ℕ) → stands_at p at x ≡ true → at < length p
stands-within p at x e = ltb-true _ _ ((and-eq-true_iff (ltb at (length p)) (eqb (get_or p at 0) x)).0 e).0

-- state q waits for a word, which state r is in
module _ (q r : State) (starts : (b : ℕ) → step q b ≡ cond (is_name_start b) r dead) (p : List ℕ) (at : ℕ) where
  pub word-missing : may_end q ≡ false → begins_name p at ≡ false → Fails p q at
  word-missing m e =
      fails q p at m (λ h. starts (get_or p at 0) ∙ ap (λ (t : Bool). cond t r dead) (and-fails _ _ (lt-ltb _ _ h) e))

  pub word-reads : ((b : ℕ) → is_word_byte b ≡ true → step r b ≡ r) → (e : ℕ) → begins_name p at ≡ true → Run is_word_byte p (at + 1) e
      → (n : ℕ) → reading q n (drop at p) ≡ reading r (counted q r n) (drop e p)
  word-reads stay e b w n =
      goes q r p at (begins-within p at b) (starts (get_or p at 0) ∙ ap (λ (t : Bool). cond t r dead) ((and-eq-true_iff (ltb at (length p)) (is_name_start (get_or p at 0))).0 b).1) n
      ∙ ap (λ (j : ℕ). reading r (counted q r n) (drop j p)) (sym (add-one at))
      ∙ run-stays r is_word_byte stay p (at + 1) e w (counted q r n)

-- state q goes on until the sign x, which leads to state r
module _ (q r : State) (test : ℕ → Bool) (x : ℕ) (ends : (b : ℕ) → step q b ≡ cond (test b) q (cond (eqb b x) r dead)) (p : List ℕ)
    (at : ℕ) (stop : at < length p → test (get_or p at 0) ≡ false) where
  at_sign : at < length p → step q (get_or p at 0) ≡ cond (eqb (get_or p at 0) x) r dead
  at_sign h = ends (get_or p at 0) ∙ ap (λ (t : Bool). cond t q (cond (eqb (get_or p at 0) x) r dead)) (stop h)

  pub sign-missing : may_end q ≡ false → stands_at p at x ≡ false → Fails p q at
  sign-missing m e = fails q p at m (λ h. at_sign h ∙ ap (λ (t : Bool). cond t r dead) (and-fails _ _ (lt-ltb _ _ h) e))

  pub sign_reads : stands_at p at x ≡ true → (n : ℕ) → reading q n (drop at p) ≡ reading r (counted q r n) (drop (suc at) p)
  sign_reads e n =
      goes q r p at (stands-within p at x e)
      (at_sign (stands-within p at x e) ∙ ap (λ (t : Bool). cond t r dead) ((and-eq-true_iff (ltb at (length p)) (eqb (get_or p at 0) x)).0 e).1) n

-- ---- What is in a name stays in it, and so for a set and a selection

name-stays : (b : ℕ) → is_word_byte b ≡ true → step name b ≡ name
name-stays b e = rw e

set-stays : (b : ℕ) → is_word_byte b ≡ true → step set b ≡ set
set-stays b e = rw e

selection-stays : (b : ℕ) → is_selection_byte b ≡ true → step selection b ≡ selection
selection-stays b e = rw e

-- ---- The name at a place

pub no_name : (p : List ℕ) (at : ℕ) → begins_name p at ≡ false → Fails p slash at
no_name p at e = word-missing slash name (λ b. refl) p at refl e

pub name-read : (p : List ℕ) (at e : ℕ) → begins_name p at ≡ true → Run is_word_byte p (at + 1) e → NameRead p slash at (Some e)
name-read p at e b w =
    (record { further = omega (arith, w.from); within = w.within; same = word-reads slash name (λ b. refl) p at name-stays e b w }, w.stops)

-- ---- The selection whose set begins at a place

pub no-set : (p : List ℕ) (at : ℕ) → begins_name p at ≡ false → Fails p set_start at
no-set p at e = word-missing set_start set (λ b. refl) p at refl e

module _ (p : List ℕ) (at sign : ℕ) (begun : begins_name p at ≡ true) (word : Run is_word_byte p (at + 1) sign) where
  set_reads : (n : ℕ) → reading set_start n (drop at p) ≡ reading set n (drop sign p)
  set_reads = word-reads set_start set (λ b. refl) p at set-stays sign begun word

  pub no_sign : stands_at p sign equals_sign ≡ false → Fails p set_start at
  no_sign e n = set_reads n ∙ sign-missing set selection is_word_byte equals_sign (λ b. refl) p sign word.stops refl e n

  module _ (signed : stands_at p sign equals_sign ≡ true) (last : ℕ) (value : Run is_selection_byte p (sign + 1) last) where
    value_read : (n : ℕ) → reading set_start n (drop at p) ≡ reading selection n (drop last p)
    value_read n =
        set_reads n ∙ sign_reads set selection is_word_byte equals_sign (λ b. refl) p sign word.stops signed n
        ∙ ap (λ (j : ℕ). reading selection n (drop j p)) (sym (add-one sign))
        ∙ run-stays selection is_selection_byte selection-stays p (sign + 1) last value n

    pub no-brace : stands_at p last close_brace ≡ false → Fails p set_start at
    no-brace e n = value_read n ∙ sign-missing selection closed is_selection_byte close_brace (λ b. refl) p last value.stops refl e n

    pub selection-read : stands_at p last close_brace ≡ true → SelectionRead p at (Some (last + 1))
    selection-read e =
        record {
          further = omega (arith, word.from, value.from);
          within = omega (arith, stands-within p last close_brace e);
          same = λ n. value_read n ∙ sign_reads selection closed is_selection_byte close_brace (λ b. refl) p last value.stops e n
              ∙ ap (λ (j : ℕ). reading closed n (drop j p)) (sym (add-one last));
        }

-- ---- An element: what a part read further on comes to at the place before it

module _ (p : List ℕ) (q r : State) (at from : ℕ) (le : at ≤ from) (leads : (n : ℕ) → reading q n (drop at p) ≡ reading r n (drop from p)) where
  fails-before : Fails p r from → Fails p q at
  fails-before f n = leads n ∙ f n

  goes_before : (s : State) (more : ℕ → ℕ) (e : ℕ) → GoesOn p r from s more e → GoesOn p q at s more e
  goes_before s more e g =
      record { further = omega (arith, g.further); within = g.within; same = λ n. leads n ∙ g.same n }

-- where a name or a selection ends, as an element of the path
abbrev pub as_name : Option ℕ → Option Element
as_name (Some e) = Some (Name e)
as_name None = None

abbrev pub as_selection : Option ℕ → Option Element
as_selection (Some e) = Some (Selection e)
as_selection None = None

name-element : (p : List ℕ) (q : State) (at from : ℕ) → at ≤ from → ((n : ℕ) → reading q n (drop at p) ≡ reading slash n (drop from p))
    → (t : Option ℕ) → NameRead p slash from t → ElementRead p q at (as_name t)
name-element p q at from le leads (Some e) h = (goes_before p q slash at from le leads name suc e h.0, h.1)
name-element p q at from le leads None h = fails-before p q slash at from le leads h

selection-element : (p : List ℕ) (q : State) (at from : ℕ) → at ≤ from → ((n : ℕ) → reading q n (drop at p) ≡ reading set_start n (drop from p))
    → (t : Option ℕ) → SelectionRead p from t → ElementRead p q at (as_selection t)
selection-element p q at from le leads (Some e) h = goes_before p q set_start at from le leads closed same e h
selection-element p q at from le leads None h = fails-before p q set_start at from le leads h

-- one byte that leads from q to r and into no name
leads-by : (p : List ℕ) (q r : State) (at : ℕ) → at < length p → step q (get_or p at 0) ≡ r → ((n : ℕ) → counted q r n ≡ n)
    → (n : ℕ) → reading q n (drop at p) ≡ reading r n (drop (at + 1) p)
leads-by p q r at h e c n =
    goes q r p at h e n ∙ ap (λ (j : ℕ). reading r j (drop (suc at) p)) (c n) ∙ ap (λ (j : ℕ). reading r n (drop j p)) (sym (add-one at))

opens : (t : Bool) → step (standing t) open_brace ≡ set_start
unfolding is_word_byte is_name_start
opens true = refl
opens false = refl

opens-no-name : (t : Bool) (n : ℕ) → counted (standing t) set_start n ≡ n
opens-no-name true n = refl
opens-no-name false n = refl

pub element-selection : (p : List ℕ) (t : Bool) (at : ℕ) → at < length p → get_or p at 0 ≡ open_brace → (part : Option ℕ) → SelectionRead p (at + 1) part
    → ElementRead p (standing t) at (as_selection part)
element-selection p t at h e part s =
    selection-element p (standing t) at (at + 1) (omega arith)
    (leads-by p (standing t) set_start at h (ap (step (standing t)) e ∙ opens t) (opens-no-name t)) part s

-- straight after a selection a name begins with no slash
pub element-bare : (p : List ℕ) (at : ℕ) → at < length p → (get_or p at 0 ≡ open_brace → ⊥) → (part : Option ℕ) → NameRead p slash at part
    → ElementRead p closed at (as_name part)
element-bare p at h d part s =
    name-element p closed at at (omega arith)
    (λ n. reading-at closed n p at h
    ∙ ap (λ (t : Bool). reading (cond (is_name_start (get_or p at 0)) name (cond t set_start dead)) (counted closed (cond (is_name_start (get_or p at 0)) name (cond t set_start dead)) n) (drop (suc at) p))
    (ne_eqb _ _ d)
    ∙ sym (reading-at slash n p at h)) part s

pub no-element : (p : List ℕ) (at : ℕ) → at < length p → Stops p at → (get_or p at 0 ≡ open_brace → ⊥) → (get_or p at 0 ≡ solidus → ⊥)
    → Fails p name at
no-element p at h stop d e n =
    goes name dead p at h (rw (stop h, ne_eqb _ _ d, ne_eqb _ _ e)) n ∙ reading-dead n (drop (suc at) p)

-- ---- The whole path

pub empty-fails : (p : List ℕ) → length p ≡ 0 → None ≡ reading start 0 p
empty-fails [] e = refl
empty-fails (b ∷ bs) e = absurd (omega arith)

pub unrooted-fails : (p : List ℕ) → (get_or p 0 0 ≡ solidus → ⊥) → None ≡ reading start 0 p
unrooted-fails p d = sym (fails start p 0 refl (λ h. ap (λ (t : Bool). cond t root dead) (ne_eqb _ _ d)) 0)

pub only-root : (p : List ℕ) → length p ≡ 1 → get_or p 0 0 ≡ solidus → Some 0 ≡ reading start 0 p
only-root p l e = sym (goes start root p 0 (omega arith) (ap (step start) e) 0 ∙ reading-past root 0 p 1 (omega arith))

-- after the first slash a name is read as after any other
pub rooted : (p : List ℕ) → 1 < length p → get_or p 0 0 ≡ solidus → reading start 0 p ≡ reading slash 0 (drop 1 p)
rooted p l e = goes start root p 0 (omega arith) (ap (step start) e) 0 ∙ reading-at root 0 p 1 l ∙ sym (reading-at slash 0 p 1 l)

adds : (t : Bool) (n m : ℕ) → cond t (suc n) n + m ≡ n + (cond t 1 0 + m)
adds true n m = omega arith
adds false n m = omega arith

reading-all : (q : State) (n : ℕ) (bs : List ℕ) → reading q n bs ≡ cond (may_end (run q bs)) (Some (n + names q bs)) None
reading-all q n [] = rw (add-zero n)
reading-all q n (b ∷ bs) =
    reading-all (step q b) (counted q (step q b) n) bs
    ∙ ap (λ (j : ℕ). cond (may_end (run (step q b) bs)) (Some j) None)
    (adds (not (in_name q) && in_name (step q b)) n (names (step q b) bs))

pub count-prims-reads : (p : List ℕ) → length p ≤ 255 → reading start 0 p ≡ count_prims p
unfolding count_prims well_formed prim_count
count-prims-reads p h =
    reading-all start 0 p ∙ ap (λ (j : ℕ). cond (may_end (run start p)) (Some j) None) (zero-add (names start p))
    ∙ ap (λ (t : Bool). cond t (Some (names start p)) None) (sym (ap (λ (t : Bool). may_end (run start p) && t) (le-leb (length p) 255 h) ∙ and-true (may_end (run start p))))

pub count-prims-long : (p : List ℕ) → 255 < length p → None ≡ count_prims p
unfolding count_prims well_formed
count-prims-long p h =
    ap (λ (t : Bool). cond t (Some (prim_count p)) None) (sym (ap (λ (t : Bool). may_end (run start p) && t) (lt-leb (length p) 255 h) ∙ and-false (may_end (run start p))))

-- the count tells whether the path is well formed
pub is-counted : (p : List ℕ) → is_some (count_prims p) ≡ well_formed p
unfolding count_prims
is-counted p = go (well_formed p)
  where
    go : (t : Bool) → is_some (cond t (Some (prim_count p)) None) ≡ t
    go true = refl
    go false = refl

pub counted-well-formed : (p : List ℕ) (n : ℕ) → count_prims p ≡ Some n → true ≡ well_formed p
unfolding count_prims
counted-well-formed p n e = go (well_formed p) e
  where
    go : (t : Bool) → cond t (Some (prim_count p)) None ≡ Some n → true ≡ t
    go true f = refl
    go false f = let z : ◌≡◌ {A = ℕ} 0 1 = cc in absurd (omega arith)

pub uncounted-malformed : (p : List ℕ) → count_prims p ≡ None → false ≡ well_formed p
unfolding count_prims
uncounted-malformed p e = go (well_formed p) e
  where
    go : (t : Bool) → cond t (Some (prim_count p)) None ≡ None → false ≡ t
    go true f = let z : ◌≡◌ {A = ℕ} 0 1 = cc in absurd (omega arith)
    go false f = refl

-- ---- The elements behind the first name

-- `at` is reached, with so many names met, straight after a selection or not
pub record ReadTo (p : List ℕ) (from at met : ℕ) (selected : Bool) : Type 0 where
  pub within : at ≤ length p
  pub few : met ≤ at
  pub same : reading (standing selected) met (drop at p) ≡ reading name 1 (drop from p)
  pub stops : selected ≡ false → Stops p at
