-- The laws of paths. A law that the limit of 255 bytes plays no part in asks only that the reading
-- of p may end; `well-formed-may-end` gives that of a well-formed path. Each law's hypotheses are
-- met by an example at the end.
-- Assumes nothing.
use mathlib.Core.Path.{◌≡◌, refl, sym, ap, ap₂, ◌∙◌}
use mathlib.Core.Logic.{◌≢◌}
use mathlib.Core.Bool.{true, and-eq-true_iff, false≢true}
use mathlib.Core.List.{List, [], ◌∷◌, ◌++◌}
use Prim.Native.Nat.{ℕ, zero, suc, ◌+◌, ◌-◌, ◌*◌, ◌≤◌}
use native.Mathlib.Omega.{arith}
use lib.Dec.{eqb}
use lib.ListN.{length, take, drop, length-take, take-append-drop}
use lib.Seq.{take-length, drop-length, drop-append_seam, take-take, length-take-le}
use borrow.Author.Tests.{eqb-true, eq-eqb, lt-leb}
use Rattle.model.specs.Path.{solidus, is_name_start, is_word_byte, is_selection_byte, start, run, may_end, well_formed, prim_count, before_name, parent_length, parent, name_start, last_name, ends_in_name, separator, append_name, intro_step, intro_length, path_at_intro_depth, same_path}
use Rattle.model.proofs.Text.{bytes}
use Rattle.laws.proofs.PathLemmas.{names-half, intro-step-le, intro-length-le, intro-length-local, intro-length-add, same-below-take}
use Rattle.laws.proofs.PathGrammar.{Name, Selection, select, Grammar, only-slash, named, selected, may-end-grammar, grammar-may-end, append-runs, select-runs, well-formed-may-end, well-formed-length, may-end-well-formed}
use Rattle.laws.proofs.PathParts.{append-parts, append-front, append-not-short, append-not-closed, append-name-start, append-before-name, append-intro-step, select-front, select-closed, select-opens, select-name-start, select-intro-step}

-- ---- Appending a name

module _ (p w : List ℕ) (e : may_end (run start p) ≡ true) (n : Name w) where
  pub append-well-formed : length (append_name p w) ≤ 255 → well_formed (append_name p w) ≡ true
  append-well-formed l = may-end-well-formed (append_name p w) (rw (append-runs p w e n).0) l

  pub append-prim-count : prim_count (append_name p w) ≡ prim_count p + 1
  unfolding prim_count
  append-prim-count = (append-runs p w e n).1

  pub parent-append : parent (append_name p w) ≡ p
  unfolding parent parent_length
  parent-append =
      rw (append-not-closed p w e n, lt-leb (length (append_name p w)) 1 (append-not-short p w e n), append-before-name p w e n) (append-front p w)

  pub last-name-append : last_name (append_name p w) ≡ w
  unfolding last_name
  last-name-append = rw (append-parts p w, append-name-start p w e n) (drop-append_seam (p ++ separator p) w)

pub append-injective : (p q w v : List ℕ) → may_end (run start p) ≡ true → may_end (run start q) ≡ true → Name w → Name v
    → append_name p w ≡ append_name q v → (p ≡ q) × (w ≡ v)
append-injective p q w v e f n m k = (
  sym (parent-append p w e n) ∙ ap parent k ∙ parent-append q v f m,
  sym (last-name-append p w e n) ∙ ap last_name k ∙ last-name-append q v f m,
)

-- ---- The prim count

-- so a well-formed path has at most 127 names
pub prim-count-half : (p : List ℕ) → 2 * prim_count p ≤ length p
unfolding prim_count
prim-count-half p = omega (arith, names-half start p)

-- ---- The path at an introduction depth

-- "The introduction path is handed back as the front part of the caller's path"
module _ (d : ℕ) (p : List ℕ) where
  pub intro-front : p ≡ path_at_intro_depth d p ++ drop (intro_length d p (length p)) p
  unfolding path_at_intro_depth
  intro-front = sym (take-append-drop (intro_length d p (length p)) p)

  pub intro-no-longer : length (path_at_intro_depth d p) ≤ length p
  unfolding path_at_intro_depth
  intro-no-longer = simp length-take (omega arith)

  pub intro-composes : (e : ℕ) → path_at_intro_depth (d + e) p ≡ path_at_intro_depth e (path_at_intro_depth d p)
  unfolding path_at_intro_depth
  intro-composes e =
      let k : ℕ = intro_length d p (length p) in
      let within : k ≤ length p = intro-length-le p d (length p) in
      rw (length-take-le k p within, intro-length-local (take k p) p e k (same-below-take k p k (omega arith)), intro-length-add d e p (length p))
      (sym (take-take (intro_length e p k) k p (intro-length-le p e k)))

pub intro-zero : (p : List ℕ) → path_at_intro_depth 0 p ≡ p
unfolding path_at_intro_depth
intro-zero = take-length

-- one step: "at `/` it stays"; it takes the parent; and it drops trailing selections
pub intro-root : path_at_intro_depth 1 (solidus ∷ []) ≡ solidus ∷ []
unfolding path_at_intro_depth before_name
intro-root = refl

pub intro-append : (p w : List ℕ) → may_end (run start p) ≡ true → Name w → path_at_intro_depth 1 (append_name p w) ≡ p
unfolding path_at_intro_depth
intro-append p w e n = rw (append-intro-step p w e n) (append-front p w)

pub intro-select : (p s v : List ℕ) → Name s → Selection v → path_at_intro_depth 1 (select p s v) ≡ path_at_intro_depth 1 p
unfolding path_at_intro_depth
intro-select p s v m n = rw (select-intro-step p s v m n) (select-front p s v (intro_step p (length p)) (intro-step-le p (length p)))

-- d steps up is a path, with d names fewer
abbrev IntroUp : ℕ → List ℕ → Type 0
IntroUp d p = Grammar (path_at_intro_depth d p) × (prim_count (path_at_intro_depth d p) ≡ prim_count p - d)

intro-up-one : {p : List ℕ} → Grammar p → IntroUp 1 p
unfolding prim_count
intro-up-one (only-slash k) = rw (k, intro-root) (only-slash refl, refl)
intro-up-one (named p w g n k) =
    let e : may_end (run start p) ≡ true = grammar-may-end g in
    rw (k, intro-append p w e n) (g, omega (arith, (append-runs p w e n).1))
intro-up-one (selected p s v g d m n k) =
    rw (k, intro-select p s v m n, (select-runs p s v (grammar-may-end g) d m n).1) (intro-up-one g)

intro-up : (d : ℕ) (p : List ℕ) → Grammar p → IntroUp d p
intro-up zero p g = rw (intro-zero p) (g, omega arith)
intro-up (suc d) p g =
    let one : IntroUp 1 p = intro-up-one g in
    let more : IntroUp d (path_at_intro_depth 1 p) = intro-up d (path_at_intro_depth 1 p) one.0 in
    let steps : suc d ≡ 1 + d = omega arith in
    rw (steps, intro-composes 1 p d) (more.0, omega arith)

module _ (d : ℕ) (p : List ℕ) (e : may_end (run start p) ≡ true) where
  pub intro-may-end : may_end (run start (path_at_intro_depth d p)) ≡ true
  intro-may-end = grammar-may-end (intro-up d p (may-end-grammar p e)).0

  pub intro-prim-count : prim_count (path_at_intro_depth d p) ≡ prim_count p - d
  intro-prim-count = (intro-up d p (may-end-grammar p e)).1

pub intro-well-formed : (d : ℕ) (p : List ℕ) → well_formed p ≡ true → well_formed (path_at_intro_depth d p) ≡ true
intro-well-formed d p e =
    may-end-well-formed (path_at_intro_depth d p) (intro-may-end d p (well-formed-may-end p e))
    (omega (arith, intro-no-longer d p, well-formed-length p e))

-- ---- The parent and the last name

pub parent-select : (p s v : List ℕ) → Name s → Selection v → parent (select p s v) ≡ p
unfolding parent parent_length
parent-select p s v m n =
    rw (select-closed p s v, select-opens p s v m n) (select-front p s v (length p) (omega arith) ∙ take-length p)

pub last-name-select : (p s v : List ℕ) → last_name (select p s v) ≡ []
unfolding last_name
last-name-select p s v = rw (select-name-start p s v) (drop-length (select p s v))

-- "`/` has none"
pub parent-root : parent (solidus ∷ []) ≡ []
unfolding parent parent_length
parent-root = refl

parent-grammar : {p : List ℕ} → Grammar p → p ≢ solidus ∷ [] → Grammar (parent p)
parent-grammar (only-slash k) d = absurd (d k)
parent-grammar (named p w g n k) d = rw (k, parent-append p w (grammar-may-end g) n) g
parent-grammar (selected p s v g f m n k) d = rw (k, parent-select p s v m n) g

parent-no-longer : (p : List ℕ) → length (parent p) ≤ length p
unfolding parent
parent-no-longer p = simp length-take (omega arith)

pub parent-well-formed : (p : List ℕ) → well_formed p ≡ true → p ≢ solidus ∷ [] → well_formed (parent p) ≡ true
parent-well-formed p e d =
    may-end-well-formed (parent p) (grammar-may-end (parent-grammar (may-end-grammar p (well-formed-may-end p e)) d))
    (omega (arith, parent-no-longer p, well-formed-length p e))

pub last-name-root : last_name (solidus ∷ []) ≡ []
unfolding last_name name_start
last-name-root = refl

no-last-name : (p : List ℕ) → last_name p ≡ [] → ends_in_name p ≢ true
unfolding ends_in_name
no-last-name p k e = false≢true (rw k at e)

last-name-appended : {p : List ℕ} → Grammar p → ends_in_name p ≡ true → Name (last_name p) × (p ≡ append_name (parent p) (last_name p))
last-name-appended {p = q} (only-slash k) e = absurd (no-last-name q (ap last_name k ∙ last-name-root) e)
last-name-appended (named p w g n k) e =
    rw (k, parent-append p w (grammar-may-end g) n, last-name-append p w (grammar-may-end g) n) (n, refl)
last-name-appended {p = q} (selected p s v g f m n k) e = absurd (no-last-name q (ap last_name k ∙ last-name-select p s v) e)

module _ (p : List ℕ) (e : may_end (run start p) ≡ true) (f : ends_in_name p ≡ true) where
  pub last-name-is-name : Name (last_name p)
  last-name-is-name = (last-name-appended (may-end-grammar p e) f).0

  pub append-last-name : p ≡ append_name (parent p) (last_name p)
  append-last-name = (last-name-appended (may-end-grammar p e) f).1

-- ---- Two paths

pub same-path-equal : (a b : List ℕ) → same_path a b ≡ true → a ≡ b
unfolding same_path
same-path-equal [] [] e = refl
same-path-equal [] (y ∷ ys) e = absurd (false≢true e)
same-path-equal (x ∷ xs) [] e = absurd (false≢true e)
same-path-equal (x ∷ xs) (y ∷ ys) e =
    let both = (and-eq-true_iff (eqb x y) (same_path xs ys)).0 e in
    ap₂ ◌∷◌ (eqb-true x y both.0) (same-path-equal xs ys both.1)

pub same-path-refl : (a : List ℕ) → same_path a a ≡ true
unfolding same_path
same-path-refl [] = refl
same-path-refl (x ∷ xs) = rw (eq-eqb x x refl) (same-path-refl xs)

pub equal-same-path : (a b : List ℕ) → a ≡ b → same_path a b ≡ true
equal-same-path a b e = rw e (same-path-refl b)

-- ---- Examples that meet the hypotheses

abbrev example : List ℕ
example = bytes "/A{v=x}B"

example-well-formed : well_formed example ≡ true
unfolding well_formed is_name_start is_word_byte is_selection_byte
example-well-formed = refl

example-may-end : may_end (run start example) ≡ true
example-may-end = well-formed-may-end example example-well-formed

example-name : Name (bytes "C")
unfolding is_name_start
example-name = (refl, tt)

example-selection : Selection (bytes "-|")
unfolding is_selection_byte is_word_byte is_name_start
example-selection = (refl, (refl, tt))

example-append : (well_formed (append_name example (bytes "C")) ≡ true) × (parent (append_name example (bytes "C")) ≡ example)
unfolding append_name separator
example-append = (
  append-well-formed example (bytes "C") example-may-end example-name (omega arith),
  parent-append example (bytes "C") example-may-end example-name,
)

example-intro : well_formed (path_at_intro_depth 1 example) ≡ true
example-intro = intro-well-formed 1 example example-well-formed

example-select : parent (select example (bytes "C") (bytes "-|")) ≡ example
example-select = parent-select example (bytes "C") (bytes "-|") example-name example-selection

example-select-nothing : parent (select example (bytes "C") []) ≡ example
example-select-nothing = parent-select example (bytes "C") [] example-name tt

example-parent : well_formed (parent example) ≡ true
example-parent = parent-well-formed example example-well-formed (λ e. omega (arith, ap length e))

example-last-name : example ≡ append_name (parent example) (last_name example)
unfolding ends_in_name last_name name_start
example-last-name = append-last-name example example-may-end refl

-- "After `}` a slash is malformed", and `/` takes no selection
example-not-in-grammar : (¬ Grammar (bytes "/A{v=x}/B")) × (¬ Grammar (bytes "/{v=x}"))
unfolding is_name_start is_word_byte is_selection_byte
example-not-in-grammar = (λ g. false≢true (grammar-may-end g), λ g. false≢true (grammar-may-end g))
