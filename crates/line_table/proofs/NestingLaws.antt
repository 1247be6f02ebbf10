-- The loops over a row of nested nodes: `Inward` grows by a node, and what is met from r is marked
-- on the way outward (`Outgoing`). Assumes nothing.
use mathlib.Core.Path.{◌≡◌, refl, sym, ap, ◌∙◌}
use mathlib.Core.Bool.{Bool, true, false, ◌||◌, cond}
use mathlib.Core.List.{List}
use Prim.Native.Nat.{ℕ, ◌+◌, ◌*◌, ◌≤◌, ◌<◌}
use native.Mathlib.Omega.{arith}
use lib.Dec.{eqb}
use lib.ListN.{length, length-set, get_or, set}
use lib.Seq.{get_or-set_same, get_or-set_other}
use mir.Val.{bool_byte}
use borrow.Author.Tests.{eqb-true, eqb-false}
use Rattle.model.specs.Lists.{bit}
use Rattle.model.specs.Arena.{count_in}
use Rattle.model.specs.ArenaCalls.{ValidArena}
use Rattle.model.specs.Strength.{View, outward, is_nested_under, origins_are_nested}
use Rattle.laws.proofs.Views.{LegalView}
use Rattle.laws.proofs.StrengthFlips.{eqb-sym}
use Rattle.laws.proofs.StrengthWalks.{nested-self, nested-zero, nested-step, outward-lower}
use Rattle.view.specs.View.{view_in}
use Rattle.view.proofs.ViewLaws.{legal as legal_view}
use Rattle.line_table.specs.LineTable.{node_row, Tabled, Inward, NestedRow}
use Rattle.line_table.proofs.TableCells.{cell}

pub outward-cell : {bs t : List ℕ} {m : ℕ} → Tabled bs t → 0 < m → m < count_in bs → get_or t (m * 16 + 9) 0 ≡ outward (view_in bs) m
unfolding node_row
outward-cell {bs} {t} {m} f h l = cell f m 9 h (omega arith) (omega arith)

pub lawful : {bs : List ℕ} {count : ℕ} → ValidArena bs → count ≡ count_in bs → LegalView count (view_in bs)
lawful opened counted = rw counted (legal_view _ opened)

-- ---- Inward

pub bit_byte : (b : Bool) → bool_byte b ≡ bit b
bit_byte true = refl
bit_byte false = refl

module _ {u : View} {m r : ℕ} {row : List ℕ} (w : Inward u m r row) (here : m < length row) where
  inward-store : {v : ℕ} {after : List ℕ} → after ≡ set row m v → v ≡ bit (is_nested_under u m r) → Inward u (m + 1) r after
  inward-store {v} s e = rw s record {
    long = omega (arith, length-set row m v);
    marks = λ k l. go k l (eqb k m) refl;
  }
    where
      go : (k : ℕ) → k < m + 1 → (b : Bool) → eqb k m ≡ b → get_or (set row m v) k 0 ≡ bit (is_nested_under u k r)
      go k l true z = rw (eqb-true k m z) (get_or-set_same row m v 0 here ∙ e)
      go k l false z = let other = eqb-false k m z in get_or-set_other row m k v 0 other ∙ w.marks k (omega arith)

  pub inward-self : {after : List ℕ} → m ≡ r → after ≡ set row m 1 → Inward u (m + 1) r after
  inward-self e s = inward-store s (rw e (sym (ap bit (nested-self u r))))

  -- the node that an outward step leads to is lower, and so is marked already
  module _ {count : ℕ} (legal : LegalView count u) (above : 0 < m) (within : m < count) {out : ℕ} (e : out ≡ outward u m) where
    pub inward-falls : out < m
    inward-falls = rw e (outward-lower legal m above within)

    pub inward-step : {after : List ℕ} → (m ≡ r → ⊥) → after ≡ set row m (get_or row out 0) → Inward u (m + 1) r after
    inward-step other s =
        inward-store s (w.marks out inward-falls ∙ rw e (sym (ap bit (nested-step legal m above within r other))))

pub inward-start : (u : View) {r : ℕ} (v : ℕ) (row : List ℕ) → 0 < length row → v ≡ bit (eqb r 0) → Inward u 1 r (set row 0 v)
inward-start u {r} v row h e =
    inward-store {m = 0} {row = row} (record { long = omega arith; marks = λ k z. absurd (omega arith) }) h refl (rw (nested-zero u r, eqb-sym 0 r) e)

-- ---- Outward

-- the walk from r has come to x: with what is met from x on, `row` says what is nested with r
pub record Outgoing (u : View) (count r x : ℕ) (row : List ℕ) : Type 0 where
  pub long : count ≤ length row
  pub within : x < count
  pub marks : (m : ℕ) → m < count → cond (is_nested_under u x m) 1 (get_or row m 0) ≡ bit (origins_are_nested u r m)

either : (s t : Bool) → cond s 1 (bit t) ≡ bit (s || t)
either true t = refl
either false t = refl

marked : (s : Bool) → cond {A = ℕ} s 1 1 ≡ 1
marked true = refl
marked false = refl

pub outgoing-start : {u : View} {count r : ℕ} {row : List ℕ} → r < count → Inward u count r row → Outgoing u count r r row
unfolding origins_are_nested
outgoing-start {u} {count} {r} {row} h w = record {
  long = w.long;
  within = h;
  marks = λ m l. rw (w.marks m l) (either (is_nested_under u r m) (is_nested_under u m r));
}

module _ {u : View} {count r x : ℕ} {row : List ℕ} (w : Outgoing u count r x row) where
  -- the node where it stands
  met : bit (origins_are_nested u r x) ≡ 1
  met = sym (rw (nested-self u x) at (w.marks x w.within))

  module _ (legal : LegalView count u) (some : 0 < x) where
    pub outgoing-step : {next : ℕ} → next ≡ outward u x → Outgoing u count r next (set row x 1)
    outgoing-step {next} e = rw e record {
      long = omega (arith, w.long, length-set row x 1);
      within = omega (arith, outward-lower legal x some w.within, w.within);
      marks = λ m l. go m l (eqb x m) refl;
    }
      where
        go : (m : ℕ) → m < count → (b : Bool) → eqb x m ≡ b
            → cond (is_nested_under u (outward u x) m) 1 (get_or (set row x 1) m 0) ≡ bit (origins_are_nested u r m)
        go m l true z =
            rw (← eqb-true x m z, get_or-set_same row x 1 0 (omega (arith, w.long, w.within))) (marked (is_nested_under u (outward u x) x) ∙ sym met)
        go m l false z =
            let other = eqb-false x m z in
            rw (get_or-set_other row x m 1 0 (λ q. other (sym q)), ← nested-step legal x some w.within m other) (w.marks m l)

  pub outgoing-end : x ≡ 0 → NestedRow u count r (set row 0 1)
  outgoing-end z m l = go (eqb 0 m) refl
    where
      go : (b : Bool) → eqb 0 m ≡ b → get_or (set row 0 1) m 0 ≡ bit (origins_are_nested u r m)
      go true q = rw (← eqb-true 0 m q, get_or-set_same row 0 1 0 (omega (arith, w.long, w.within))) (sym (rw z at met))
      go false q =
          let other = eqb-false 0 m q in
          get_or-set_other row 0 m 1 0 (λ e. other (sym e)) ∙ (rw (z, nested-zero u m, q) at (w.marks m l))
