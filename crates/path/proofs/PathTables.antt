-- What the tables hold, by one computed test each: bytes of a kind are read alike, and a row takes
-- the steps of two kinds from each state. Then what a row does to a reading. Assumes nothing.
use Rattle.std.specs.Prelude.{None, Some}
use mathlib.Core.Path.{◌≡◌, refl, sym, ap, subst, ◌∙◌}
use mathlib.Core.Bool.{Bool, true, false, not, ◌||◌, ◌&&◌, cond, and-eq-true_iff}
use mathlib.Core.List.{List, [], ◌∷◌}
use Prim.Native.Nat.{ℕ, suc, ◌+◌, ◌*◌, ◌/◌, ◌%◌, ◌^◌, ◌≤◌, ◌<◌}
use native.Mathlib.Nat.{add-zero}
use native.Mathlib.Numerals.{add-one}
use native.Mathlib.Omega.{arith}
use borrow.Author.Tests.{eqb-true, eq-eqb, ne_eqb, ltb-true}
use lib.Dec.{eqb, ltb}
use lib.ListN.{length, get_or, drop, drop_of_length-le}
use Rattle.model.specs.Lists.{all_below}
use Rattle.model.specs.Path.{State, start, root, slash, name, set_start, set, selection, closed, dead, step, may_end, in_name, enters, is_name_start, is_word_byte, is_selection_byte}
use Rattle.laws.proofs.ListLaws.{all-below}
use Rattle.path.specs.PathReading.{reading}
use Rattle.path.proofs.ReadingLaws.{goes}
use Rattle.path.specs.Tables.{kind_list, kind_table, pair_table, Tables, kind_of, row_of, no_byte, number_of, Reached, ending, ends_as, is_names}

-- ---- States by their numbers

abbrev state_at : ℕ → State
state_at j = get_or (dead ∷ slash ∷ name ∷ set_start ∷ set ∷ selection ∷ closed ∷ start ∷ root ∷ []) j dead

state-numbered : (q : State) → state_at (number_of q) ≡ q
state-numbered dead = refl
state-numbered slash = refl
state-numbered name = refl
state-numbered set_start = refl
state-numbered set = refl
state-numbered selection = refl
state-numbered closed = refl
state-numbered start = refl
state-numbered root = refl

same_number : (q r : State) → number_of q ≡ number_of r → q ≡ r
same_number q r e = sym (state-numbered q) ∙ ap state_at e ∙ state-numbered r

-- ---- Kinds

-- a byte of the kind
abbrev like : ℕ → ℕ
like k = get_or (0x61 ∷ 0x30 ∷ 0x2f ∷ 0x7b ∷ 0x3d ∷ 0x7d ∷ 0x2d ∷ []) k 0

-- the step of a kind, and none where there is no byte
abbrev next : State → ℕ → State
next q k = cond (eqb k no_byte) q (step q (like k))

unfoldable alike : ℕ → ℕ → ℕ → Bool
alike b k j = eqb (number_of (step (state_at j) b)) (number_of (next (state_at j) k))

unfoldable kind_right : ℕ → Bool
kind_right b = let k = kind_of b in ltb k 8 && all_below (alike b k) 7

kinds-right : all_below kind_right 256 ≡ true
unfolding kind_right alike kind_of kind_table kind_list is_name_start is_word_byte is_selection_byte
kinds-right = refl

unfoldable nine_right : ℕ → Bool
nine_right b = eqb (get_or kind_table (256 + b) 0) (kind_of b * 9)

nines-right : all_below nine_right 256 ≡ true
unfolding nine_right kind_of kind_table kind_list
nines-right = refl

module _ (b : ℕ) (byte : b < 256) where
  nine-right : get_or kind_table (256 + b) 0 ≡ kind_of b * 9
  unfolding nine_right
  nine-right = eqb-true _ _ ((all-below nine_right 256).0 nines-right b byte)

  kind-right : (ltb (kind_of b) 8 ≡ true) × (all_below (alike b (kind_of b)) 7 ≡ true)
  unfolding kind_right
  kind-right = (and-eq-true_iff (ltb (kind_of b) 8) (all_below (alike b (kind_of b)) 7)).0 ((all-below kind_right 256).0 kinds-right b byte)

  pub kind-small : kind_of b < 8
  kind-small = ltb-true _ _ kind-right.0

  kind-steps : (q : State) → number_of q < 7 → step q b ≡ next q (kind_of b)
  unfolding alike
  kind-steps q low = subst (λ (r : State). step r b ≡ next r (kind_of b)) (state-numbered q) numbered
    where
      numbered : step (state_at (number_of q)) b ≡ next (state_at (number_of q)) (kind_of b)
      numbered = same_number _ _ (eqb-true _ _ ((all-below (alike b (kind_of b)) 7).0 kind-right.1 (number_of q) low))

-- ---- Rows

-- the word has what two kinds lead to from a state
record Leads (q : State) (k l word : ℕ) : Type 0 where
  coded : word % 64 ≡ 7 * number_of (next (next q k) l)
  met : word / 64 % 2 ≡ enters q (next q k) + enters (next q k) (next (next q k) l)
  low : number_of (next (next q k) l) < 7

unfoldable leads : State → ℕ → ℕ → ℕ → Bool
leads q k l word =
    eqb (word % 64) (7 * number_of (next (next q k) l))
    && (eqb (word / 64 % 2) (enters q (next q k) + enters (next q k) (next (next q k) l)) && ltb (number_of (next (next q k) l)) 7)

unfoldable row_right : ℕ → ℕ → ℕ → Bool
row_right k l j = leads (state_at j) k l (row_of k l / 2 ^ (7 * j))

unfoldable rows_right : ℕ → ℕ → Bool
rows_right k l = all_below (row_right k l) 7

unfoldable pairs_right : ℕ → Bool
pairs_right k = all_below (rows_right k) 9

pairs-right : all_below pairs_right 8 ≡ true
unfolding pairs_right rows_right row_right leads row_of pair_table is_name_start is_word_byte is_selection_byte
pairs-right = refl

led : (q : State) (k l word : ℕ) → leads q k l word ≡ true → Leads q k l word
unfolding leads
led q k l word e =
    let first = (and-eq-true_iff (eqb (word % 64) (7 * number_of (next (next q k) l))) _).0 e in
    let rest = (and-eq-true_iff (eqb (word / 64 % 2) (enters q (next q k) + enters (next q k) (next (next q k) l))) (ltb (number_of (next (next q k) l)) 7)).0 first.1 in
    record { coded = eqb-true _ _ first.0; met = eqb-true _ _ rest.0; low = ltb-true _ _ rest.1 }

row-leads : (q : State) → number_of q < 7 → (k l : ℕ) → k < 8 → l < 9 → Leads q k l (row_of k l / 2 ^ (7 * number_of q))
unfolding pairs_right rows_right row_right
row-leads q h k l a b = led q k l _ (subst (λ (r : State). leads r k l (row_of k l / 2 ^ (7 * number_of q)) ≡ true) (state-numbered q) tested)
  where
    tested : leads (state_at (number_of q)) k l (row_of k l / 2 ^ (7 * number_of q)) ≡ true
    tested = (all-below (row_right k l) 7).0 ((all-below (rows_right k) 9).0 ((all-below pairs_right 8).0 pairs-right k a) l b) (number_of q) h

-- ---- Tables that are lent

module _ (kinds pairs : List ℕ) (tables : Tables kinds pairs) where
  pub kinds-long : length kinds ≡ 512
  unfolding kind_table kind_list
  kinds-long = ap length tables.kinds-right

  pub pairs-long : length pairs ≡ 72
  unfolding pair_table
  pairs-long = ap length tables.pairs-right

  pub kind-read : (b : ℕ) → get_or kinds b 0 ≡ kind_of b
  unfolding kind_of
  kind-read b = ap (λ (t : List ℕ). get_or t b 0) tables.kinds-right

  pub nine-read : (b : ℕ) → b < 256 → get_or kinds (256 + b) 0 ≡ kind_of b * 9
  nine-read b h = ap (λ (t : List ℕ). get_or t (256 + b) 0) tables.kinds-right ∙ nine-right b h

  pub nine-fits : (b : ℕ) → b < 256 → get_or kinds (256 + b) 0 < 64
  nine-fits b h = omega (arith, nine-read b h, kind-small b h)

  pub kind_fits : (b : ℕ) → b < 256 → get_or kinds b 0 < 8
  kind_fits b h = omega (arith, kind-read b, kind-small b h)

  pub row_read : (k l : ℕ) → get_or pairs (k * 9 + l) 0 ≡ row_of k l
  unfolding row_of
  row_read k l = ap (λ (t : List ℕ). get_or t (k * 9 + l) 0) tables.pairs-right

-- ---- A reading by rows

counts : (t : Bool) (n : ℕ) → cond t (suc n) n ≡ n + cond t 1 0
counts true n = sym (add-one n)
counts false n = sym (add-zero n)

stays : (t : Bool) → ◌≡◌ {A = ℕ} (cond (not t && t) 1 0) 0
stays true = refl
stays false = refl

goes_on : (q r : State) (p : List ℕ) (at n : ℕ) → at < length p → step q (get_or p at 0) ≡ r
    → reading q n (drop at p) ≡ reading r (n + enters q r) (drop (at + 1) p)
goes_on q r p at n h e =
    goes q r p at h e n ∙ ap (λ (j : ℕ). reading r j (drop (suc at) p)) (counts (not (in_name q) && in_name r) n)
    ∙ ap (λ (j : ℕ). reading r (n + enters q r) (drop j p)) (sym (add-one at))

pub reached-none : (p : List ℕ) → 1 ≤ length p → Reached p 1 7 0
reached-none p h = record { state = slash; low = omega arith; coded = refl; within = h; few = omega arith; same = refl }

module _ (p : List ℕ) (at word met : ℕ) (r : Reached p at word met) where
  pub reached-two : at + 1 < length p → get_or p at 0 < 256 → get_or p (at + 1) 0 < 256
      → let next_word = row_of (kind_of (get_or p at 0)) (kind_of (get_or p (at + 1) 0)) / 2 ^ (word % 64) in
      Reached p (at + 2) next_word (met + next_word / 64 % 2)
  reached-two h ha hb =
      let q = r.state in
      let k = kind_of (get_or p at 0) in
      let l = kind_of (get_or p (at + 1) 0) in
      let one : Leads q k no_byte (row_of k no_byte / 2 ^ (7 * number_of q)) = row-leads q r.low k no_byte (kind-small _ ha) (omega arith) in
      let two : Leads q k l (row_of k l / 2 ^ (word % 64)) = rw r.coded (row-leads q r.low k l (kind-small _ ha) (omega (arith, kind-small _ hb))) in
      let n : met + row_of k l / 2 ^ (word % 64) / 64 % 2 ≡ met + enters q (next q k) + enters (next q k) (next (next q k) l) = omega (arith, two.met) in
      let e : at + 2 ≡ at + 1 + 1 = omega arith in
      record {
        state = next (next q k) l;
        low = two.low;
        coded = two.coded;
        within = omega arith;
        few = omega (arith, r.few);
        same = ap (λ (j : ℕ). reading (next (next q k) l) (met + row_of k l / 2 ^ (word % 64) / 64 % 2) (drop j p)) e
            ∙ ap (λ (j : ℕ). reading (next (next q k) l) j (drop (at + 1 + 1) p)) n
            ∙ sym (goes_on (next q k) (next (next q k) l) p (at + 1) _ h (kind-steps _ hb (next q k) one.low))
            ∙ sym (goes_on q (next q k) p at met (omega arith) (kind-steps _ ha q r.low)) ∙ r.same;
      }

  pub reached-one : at < length p → get_or p at 0 < 256
      → let next_word = row_of (kind_of (get_or p at 0)) no_byte / 2 ^ (word % 64) in
      Reached p (at + 1) next_word (met + next_word / 64 % 2)
  reached-one h hb =
      let q = r.state in
      let k = kind_of (get_or p at 0) in
      let one : Leads q k no_byte (row_of k no_byte / 2 ^ (word % 64)) = rw r.coded (row-leads q r.low k no_byte (kind-small _ hb) (omega arith)) in
      let n : met + row_of k no_byte / 2 ^ (word % 64) / 64 % 2 ≡ met + enters q (next q k) = omega (arith, one.met, stays (in_name (next q k))) in
      record {
        state = next q k;
        low = one.low;
        coded = one.coded;
        within = omega arith;
        few = omega (arith, r.few);
        same = ap (λ (j : ℕ). reading (next q k) j (drop (at + 1) p)) n
            ∙ sym (goes_on q (next q k) p at met h (kind-steps _ hb q r.low)) ∙ r.same;
      }

  ends : (q : State) → number_of q < 7
      → cond (eqb (7 * number_of q) 14 || eqb (7 * number_of q) 42) (Some met) None ≡ cond (may_end q) (Some met) None
  ends dead h = refl
  ends slash h = refl
  ends name h = refl
  ends set_start h = refl
  ends set h = refl
  ends selection h = refl
  ends closed h = refl
  ends start h = absurd (omega arith)
  ends root h = absurd (omega arith)

  pub reached-end : length p ≤ at → ending word met ≡ reading slash 0 (drop 1 p)
  reached-end h =
      ap (λ (j : ℕ). cond (eqb j 14 || eqb j 42) (Some met) None) r.coded ∙ ends r.state r.low
      ∙ sym (ap (reading r.state met) (drop_of_length-le p h)) ∙ r.same

-- two pairs, one after the other
module _ (p : List ℕ) (at word met : ℕ) (r : Reached p at word met) where
  pub reached-four : at + 3 < length p → ((k : ℕ) → get_or p k 0 < 256)
      → let half = row_of (kind_of (get_or p at 0)) (kind_of (get_or p (at + 1) 0)) / 2 ^ (word % 64) in
      let next_word = row_of (kind_of (get_or p (at + 2) 0)) (kind_of (get_or p (at + 3) 0)) / 2 ^ (half % 64) in
      Reached p (at + 4) next_word (met + half / 64 % 2 + next_word / 64 % 2)
  reached-four h byte =
      let half = row_of (kind_of (get_or p at 0)) (kind_of (get_or p (at + 1) 0)) / 2 ^ (word % 64) in
      let third : at + 2 + 1 ≡ at + 3 = omega arith in
      let fourth : at + 2 + 2 ≡ at + 4 = omega arith in
      rw (third, fourth) at (reached-two p (at + 2) half (met + half / 64 % 2)
      (reached-two p at word met r (omega arith) (byte at) (byte (at + 1))) (omega arith) (byte (at + 2)) (byte (at + 2 + 1)))

-- ---- The end of a reading as one number

pub joined-ends : (word met : ℕ) → ends_as (met * 64 + word % 64) ≡ ending word met
joined-ends word met =
    let low : (met * 64 + word % 64) % 64 ≡ word % 64 = omega arith in
    let high : (met * 64 + word % 64) / 64 ≡ met = omega arith in
    (λ i. cond (eqb (low i) 14 || eqb (low i) 42) (Some (high i)) None)

pub other-names : (n k : ℕ) → (n / 64 ≡ k → ⊥) → is_names k (ends_as n) ≡ false
other-names n k h = go (eqb (n % 64) 14 || eqb (n % 64) 42)
  where
    go : (t : Bool) → is_names k (cond t (Some (n / 64)) None) ≡ false
    go true = ne_eqb k (n / 64) (λ e. h (sym e))
    go false = refl

pub names-end : (n k : ℕ) → n / 64 ≡ k → is_names k (ends_as n) ≡ (eqb (n % 64) 14 || eqb (n % 64) 42)
names-end n k e = go (eqb (n % 64) 14 || eqb (n % 64) 42)
  where
    go : (t : Bool) → is_names k (cond t (Some (n / 64)) None) ≡ t
    go true = eq-eqb k (n / 64) (sym e)
    go false = refl
