-- Document 01's grammar of paths, with the selections of document 02, W2, by the last element of a
-- path, and that the automaton of specs/Path.antt decides it: the reading of the paths of the
-- grammar may end (`grammar-may-end`), and that of no others (`may-end-grammar`); with the limit,
-- `well-formed-decides`. Assumes nothing.
use mathlib.Core.Path.{◌≡◌, refl, sym, ◌∙◌}
use mathlib.Core.Logic.{◌≢◌, ◌↔◌}
use mathlib.Core.Bool.{Bool, true, not, and-false, not-and_self, and-eq-true_iff, true≢false, false≢true}
use mathlib.Core.List.{List, [], ◌∷◌, ◌++◌, append_assoc}
use Prim.Native.Nat.{ℕ, ◌+◌, ◌≤◌}
use native.Mathlib.Omega.{arith}
use lib.Dec.{eqb, leb}
use lib.ListN.{length}
use borrow.Author.Tests.{eqb-true, leb-true, le-leb}
use Rattle.model.specs.Path.{solidus, open_brace, close_brace, equals_sign, is_name_start, is_word_byte, is_selection_byte, State, start, root, slash, name, set_start, set, selection, closed, dead, step, run, may_end, well_formed, in_name, enters, names, separator, append_name}
use Rattle.laws.proofs.PathLemmas.{AllPass, all-pass-append, all-pass-weaken, snoc-induction, Edge, begins, root-name, slash-name, closed-name, in-name, name-slash, name-opens, closed-opens, set-begins, in-set, set-ends, in-selection, closes, fails, edge, may-end-not-empty, Ended, at-root, at_name, at-closed, ended, run-append, names-append, name-start-is-word, state-ending, separator-root, separator-name, separator-closed}

-- ---- The grammar

-- a byte that passes one test, and any number of bytes that all pass another (`AllPass` is in
-- PathLemmas)
abbrev pub OneOrMore : (ℕ → Bool) → (ℕ → Bool) → List ℕ → Type 0
OneOrMore first more [] = ⊥
OneOrMore first more (b ∷ bs) = (first b ≡ true) × AllPass more bs

-- names and sets "are one or more ASCII letters, digits or `_`; names and sets do not begin with a
-- digit", and W2 lets them "remain as before"
abbrev pub Name : List ℕ → Type 0
Name = OneOrMore is_name_start is_word_byte

-- "a selection is any run, also of length nothing, of letters, digits, `_`, `-` and `|`" (W2)
abbrev pub Selection : List ℕ → Type 0
Selection = AllPass is_selection_byte

former-selection : (v : List ℕ) → OneOrMore is_word_byte is_word_byte v → Selection v
unfolding is_selection_byte
former-selection [] n = absurd n
former-selection (b ∷ v) n = all-pass-weaken is_word_byte is_selection_byte (λ c e. rw e) (b ∷ v) n

-- p{s=v}
abbrev pub select : List ℕ → List ℕ → List ℕ → List ℕ
select p s v = p ++ open_brace ∷ s ++ equals_sign ∷ v ++ close_brace ∷ []

-- "A path is `/`, or `/` then a prim name, then any run of: `/name`; `{set=selection}`; and,
-- straight after `}`, a name with no slash. After `}` a slash is malformed": `/`, or a path with a
-- name appended (by a slash, but not after `/` or `}`), or a path other than `/` with a selection.
-- What may be selected is given, so that the former grammar can be named too.
pub data GrammarOf (Selected : List ℕ → Type 0) : List ℕ → Type 0 where
  only-slash : {q : List ℕ} → q ≡ solidus ∷ [] → GrammarOf Selected q
  named : {q : List ℕ} (p w : List ℕ) → GrammarOf Selected p → Name w → q ≡ append_name p w → GrammarOf Selected q
  selected : {q : List ℕ} (p s v : List ℕ) → GrammarOf Selected p → p ≢ solidus ∷ [] → Name s → Selected v → q ≡ select p s v
      → GrammarOf Selected q

abbrev pub Grammar : List ℕ → Type 0
Grammar = GrammarOf Selection

-- Every path of document 01, whose selections "are one or more ASCII letters, digits or `_`", is one
-- still.
pub former-grammar : {p : List ℕ} → GrammarOf (OneOrMore is_word_byte is_word_byte) p → Grammar p
former-grammar (only-slash k) = only-slash k
former-grammar (named p w g n k) = named p w (former-grammar g) n k
former-grammar (selected p s v g d m n k) = selected p s v (former-grammar g) d m (former-selection v n) k

pub name-is-word : (w : List ℕ) → Name w → AllPass is_word_byte w
name-is-word [] n = absurd n
name-is-word (b ∷ w) n = (name-start-is-word b n.0, n.1)

-- ---- What may end is in the grammar

-- what has been read, by the state that it led to
data Reading : State → List ℕ → Type 0 where
  read-nothing : {q : List ℕ} → q ≡ [] → Reading start q
  read-root : {q : List ℕ} → q ≡ solidus ∷ [] → Reading root q
  read-slash : {q : List ℕ} (p : List ℕ) → Grammar p → run start p ≡ name → q ≡ p ++ solidus ∷ [] → Reading slash q
  read_name : {q : List ℕ} (p w : List ℕ) → Grammar p → Name w → q ≡ append_name p w → Reading name q
  read-brace : {q : List ℕ} (p : List ℕ) → Grammar p → p ≢ solidus ∷ [] → q ≡ p ++ open_brace ∷ [] → Reading set_start q
  read_set : {q : List ℕ} (p s : List ℕ) → Grammar p → p ≢ solidus ∷ [] → Name s → q ≡ p ++ open_brace ∷ s → Reading set q
  read-selection : {q : List ℕ} (p s v : List ℕ) → Grammar p → p ≢ solidus ∷ [] → Name s → Selection v
      → q ≡ p ++ open_brace ∷ s ++ equals_sign ∷ v → Reading selection q
  read-closed : {q : List ℕ} (p s v : List ℕ) → Grammar p → p ≢ solidus ∷ [] → Name s → Selection v → q ≡ select p s v → Reading closed q
  read-dead : {q : List ℕ} → Reading dead q

one_more : (first more : ℕ → Bool) (w : List ℕ) (b : ℕ) → OneOrMore first more w → more b ≡ true → OneOrMore first more (w ++ b ∷ [])
one_more first more [] b n e = absurd n
one_more first more (c ∷ w) b n e = (n.0, all-pass-append more w (b ∷ []) n.1 (e, tt))

append-with : (p s w : List ℕ) → separator p ≡ s → append_name p w ≡ p ++ (s ++ w)
unfolding append_name
append-with p s w e = rw e

-- the bytes read and one more: it belongs to the last piece, or it is a byte with a meaning
grows : (b : ℕ) (p w : List ℕ) {q : List ℕ} → q ≡ p ++ w → q ++ b ∷ [] ≡ p ++ (w ++ b ∷ [])
grows b p w k = rw k (append_assoc p w (b ∷ []))

name-grows : (b : ℕ) (p w : List ℕ) {q : List ℕ} → q ≡ append_name p w → q ++ b ∷ [] ≡ append_name p (w ++ b ∷ [])
unfolding append_name
name-grows b p w k = rw k (simp append_assoc)

then-byte : (b c : ℕ) (p : List ℕ) {q : List ℕ} → q ≡ p → eqb b c ≡ true → q ++ b ∷ [] ≡ p ++ c ∷ []
then-byte b c p k e = rw (k, eqb-true b c e)

-- the invariant: each step keeps it
edge-reads : {s : State} {b : ℕ} {r : State} {q : List ℕ} → run start q ≡ s → Edge s b r → Reading s q → Reading r (q ++ b ∷ [])
edge-reads {b} f (begins e) (read-nothing k) = read-root (then-byte b solidus [] k e)
edge-reads {b} {q} f (root-name e) (read-root k) = read_name q (b ∷ []) (only-slash k) (e, tt) (sym (append-with q [] (b ∷ []) (separator-root q f)))
edge-reads {b} f (slash-name e) (read-slash p g h k) =
    read_name p (b ∷ []) g (e, tt) (grows b p (solidus ∷ []) k ∙ sym (append-with p (solidus ∷ []) (b ∷ []) (separator-name p h)))
edge-reads {b} {q} f (closed-name e) (read-closed p s v g d m n k) =
    read_name q (b ∷ []) (selected p s v g d m n k) (e, tt) (sym (append-with q [] (b ∷ []) (separator-closed q f)))
edge-reads {b} f (in-name e) (read_name p w g n k) = read_name p (w ++ b ∷ []) g (one_more is_name_start is_word_byte w b n e) (name-grows b p w k)
edge-reads {b} {q} f (name-slash e) (read_name p w g n k) = read-slash q (named p w g n k) f (then-byte b solidus q refl e)
edge-reads {b} {q} f (name-opens e) (read_name p w g n k) =
    read-brace q (named p w g n k) (λ z. true≢false (rw z at (state-ending q name f).0)) (then-byte b open_brace q refl e)
edge-reads {b} {q} f (closed-opens e) (read-closed p s v g d m n k) =
    read-brace q (selected p s v g d m n k) (λ z. false≢true (rw z at (state-ending q closed f))) (then-byte b open_brace q refl e)
edge-reads {b} f (set-begins e) (read-brace p g d k) = read_set p (b ∷ []) g d (e, tt) (grows b p (open_brace ∷ []) k)
edge-reads {b} f (in-set e) (read_set p s g d m k) =
    read_set p (s ++ b ∷ []) g d (one_more is_name_start is_word_byte s b m e) (grows b p (open_brace ∷ s) k)
edge-reads {b} f (set-ends e) (read_set p s g d m k) = read-selection p s [] g d m tt (then-byte b equals_sign (p ++ open_brace ∷ s) k e)
edge-reads {b} f (in-selection e) (read-selection p s v g d m n k) =
    read-selection p s (v ++ b ∷ []) g d m (all-pass-append is_selection_byte v (b ∷ []) n (e, tt)) (grows b (p ++ open_brace ∷ s) (equals_sign ∷ v) k)
edge-reads {b} f (closes e) (read-selection p s v g d m n k) =
    read-closed p s v g d m n (then-byte b close_brace (p ++ open_brace ∷ s ++ equals_sign ∷ v) k e)
edge-reads f fails h = read-dead

reads : (p : List ℕ) → Reading (run start p) p
reads =
    snoc-induction (λ p. Reading (run start p) p) (read-nothing refl)
    (λ p b h. rw (run-append start p (b ∷ [])) (edge-reads refl (edge (run start p) b) h))

read-grammar : {s : State} {q : List ℕ} → may_end s ≡ true → Reading s q → Grammar q
read-grammar e (read-nothing k) = absurd (false≢true e)
read-grammar e (read-root k) = only-slash k
read-grammar e (read-slash p g h k) = absurd (false≢true e)
read-grammar e (read_name p w g n k) = named p w g n k
read-grammar e (read-brace p g d k) = absurd (false≢true e)
read-grammar e (read_set p s g d m k) = absurd (false≢true e)
read-grammar e (read-selection p s v g d m n k) = absurd (false≢true e)
read-grammar e (read-closed p s v g d m n k) = selected p s v g d m n k
read-grammar e read-dead = absurd (false≢true e)

pub may-end-grammar : (p : List ℕ) → may_end (run start p) ≡ true → Grammar p
may-end-grammar p e = read-grammar e (reads p)

-- ---- What is in the grammar may end

-- bytes that keep a state enter no name
reads_on : (more : ℕ → Bool) (q : State) → ((b : ℕ) → more b ≡ true → step q b ≡ q) → (w : List ℕ) → AllPass more w → (run q w ≡ q) × (names q w ≡ 0)
reads_on more q h [] n = (refl, refl)
reads_on more q h (b ∷ w) n = rw (h b n.0, not-and_self (in_name q)) (let r = reads_on more q h w n.1 in (r.0, omega arith))

-- a word leads from the state before it to the state in it
reads_word : (first more : ℕ → Bool) (q r : State) → ((b : ℕ) → first b ≡ true → step q b ≡ r) → ((b : ℕ) → more b ≡ true → step r b ≡ r)
    → (w : List ℕ) → OneOrMore first more w → (run q w ≡ r) × (names q w ≡ enters q r)
reads_word first more q r h l [] n = absurd n
reads_word first more q r h l (b ∷ w) n = rw (h b n.0) (let s = reads_on more r l w n.1 in (s.0, omega arith))

-- appending a name leads into it, and enters one name more
module _ (p w : List ℕ) (e : may_end (run start p) ≡ true) (n : Name w) where
  name_runs : (q : State) → ((b : ℕ) → is_name_start b ≡ true → step q b ≡ name) → (run q w ≡ name) × (names q w ≡ enters q name)
  name_runs q h = reads_word is_name_start is_word_byte q name h (λ b t. rw t) w n

  pub append-runs : (run start (append_name p w) ≡ name) × (names start (append_name p w) ≡ names start p + 1)
  unfolding append_name is_word_byte is_name_start
  append-runs = rw (run-append start p (separator p ++ w), names-append start p (separator p ++ w)) (go (ended (run start p) e))
    where
      go : Ended (run start p)
          → (run (run start p) (separator p ++ w) ≡ name) × (names start p + names (run start p) (separator p ++ w) ≡ names start p + 1)
      go (at-root k) = rw (separator-root p k, k) (let r = name_runs root (λ b t. rw t) in (r.0, omega arith))
      go (at_name k) = rw (separator-name p k, k) (let r = name_runs slash (λ b t. rw t) in (r.0, omega arith))
      go (at-closed k) = rw (separator-closed p k, k) (let r = name_runs closed (λ b t. rw t) in (r.0, omega arith))

-- a path other than `/` takes a selection, which enters no name
module _ (p s v : List ℕ) (e : may_end (run start p) ≡ true) (d : p ≢ solidus ∷ []) (m : Name s) (n : Selection v) where
  opens : step (run start p) open_brace ≡ set_start
  unfolding is_word_byte is_name_start
  opens = go (ended (run start p) e)
    where
      go : Ended (run start p) → step (run start p) open_brace ≡ set_start
      go (at-root k) = absurd (d (state-ending p root k))
      go (at_name k) = rw k
      go (at-closed k) = rw k

  set_runs : (run set_start s ≡ set) × (names set_start s ≡ 0)
  set_runs = reads_word is_name_start is_word_byte set_start set (λ b t. rw t) (λ b t. rw t) s m

  selection-runs : (run selection v ≡ selection) × (names selection v ≡ 0)
  selection-runs = reads_on is_selection_byte selection (λ b t. rw t) v n

  to_set : (run start (p ++ open_brace ∷ s) ≡ set) × (names start (p ++ open_brace ∷ s) ≡ names start p)
  to_set =
      rw (run-append start p (open_brace ∷ s), names-append start p (open_brace ∷ s), opens, and-false (not (in_name (run start p))))
      (set_runs.0, omega (arith, set_runs.1))

  to-selection : (run start (p ++ open_brace ∷ s ++ equals_sign ∷ v) ≡ selection) × (names start (p ++ open_brace ∷ s ++ equals_sign ∷ v) ≡ names start p)
  unfolding is_word_byte is_name_start
  to-selection =
      rw (run-append start (p ++ open_brace ∷ s) (equals_sign ∷ v), names-append start (p ++ open_brace ∷ s) (equals_sign ∷ v), to_set.0)
      (selection-runs.0, omega (arith, selection-runs.1, to_set.1))

  pub select-runs : (run start (select p s v) ≡ closed) × (names start (select p s v) ≡ names start p)
  unfolding is_selection_byte is_word_byte is_name_start
  select-runs =
      rw (
        run-append start (p ++ open_brace ∷ s ++ equals_sign ∷ v) (close_brace ∷ []),
        names-append start (p ++ open_brace ∷ s ++ equals_sign ∷ v) (close_brace ∷ []),
        to-selection.0,
      )
      (refl, omega (arith, to-selection.1))

pub grammar-may-end : {p : List ℕ} → Grammar p → may_end (run start p) ≡ true
grammar-may-end (only-slash k) = rw k
grammar-may-end (named p w g n k) = rw (k, (append-runs p w (grammar-may-end g) n).0)
grammar-may-end (selected p s v g d m n k) = rw (k, (select-runs p s v (grammar-may-end g) d m n).0)

-- ---- Well-formed paths: the grammar, and "A whole path has 1 to 255 bytes"

module _ (p : List ℕ) where
  pub well-formed-may-end : well_formed p ≡ true → may_end (run start p) ≡ true
  unfolding well_formed
  well-formed-may-end e = ((and-eq-true_iff (may_end (run start p)) (leb (length p) 255)).0 e).0

  pub well-formed-length : well_formed p ≡ true → length p ≤ 255
  unfolding well_formed
  well-formed-length e = leb-true (length p) 255 ((and-eq-true_iff (may_end (run start p)) (leb (length p) 255)).0 e).1

  pub may-end-well-formed : may_end (run start p) ≡ true → length p ≤ 255 → well_formed p ≡ true
  unfolding well_formed
  may-end-well-formed e l = rw (e, le-leb (length p) 255 l)

  pub well-formed-decides : (well_formed p ≡ true) ↔ (Grammar p × (1 ≤ length p) × (length p ≤ 255))
  well-formed-decides = (
    λ e. let m = well-formed-may-end e in (may-end-grammar p m, may-end-not-empty p m, well-formed-length e),
    λ g. may-end-well-formed (grammar-may-end g.0) g.2,
  )
