-- Record by record over bytes that pass question 12: the place of the next record (`Reached`), that
-- it is whole (`record-here`), the node that it is (`node-here`), and the place behind it
-- (`reached-more`). Assumes nothing.
use Rattle.std.specs.Prelude.{None, Option, Some}
use Rattle.std.specs.Prelude.{Ok}
use mathlib.Core.Path.{◌≡◌, refl, sym, ap, ◌∙◌}
use mathlib.Core.Bool.{Bool, true, false, cond}
use mathlib.Core.List.{List, ◌∷◌}
use Prim.Native.Nat.{ℕ, suc, ◌+◌, ◌-◌, ◌≤◌, ◌<◌}
use native.Mathlib.Numerals.{add-one}
use native.Mathlib.Omega.{arith}
use lib.ListN.{length, take, drop, length-drop}
use lib.Seq.{drop-cons, drop-drop, length-take-le}
use Rattle.model.specs.Node.{Node, no_node}
use Rattle.model.specs.Graph.{node_at}
use Rattle.model.specs.Snapshot.{field, read_record, fits_record, before, read_records, read_snapshot}
use Rattle.snapshot.specs.SnapshotReading.{counted_as, nodes_read, Exact, RecordAt}
use Rattle.snapshot.proofs.FieldLaws.{passes, length-here, fits-at, Front, front_valid, front-tested, front-right, passed_counted}

-- ---- The front

front_read : (bytes : List ℕ) (xs : List Node) → read_snapshot bytes ≡ Some xs → Front bytes
unfolding read_snapshot
front_read bytes xs e = go (front_valid bytes) refl e
  where
    go : (t : Bool) → front_valid bytes ≡ t → cond t (read_records (field 5 2 bytes) (drop 7 bytes)) None ≡ Some xs → Front bytes
    go true q r = front-tested bytes q
    go false q r = let z : ◌≡◌ {A = ℕ} 0 1 = cc in absurd (omega arith)

-- so many records as the front says
records-counted : (n : ℕ) (bs : List ℕ) (xs : List Node) → read_records n bs ≡ Some xs → n ≡ length xs
records-counted n bs xs e =
    let counted : Ok n ≡ Ok (length xs) = passed_counted n bs (ap passes e) ∙ ap counted_as e in
    cc

-- ---- One record

one-read : (t : Bool) (y x : Node) (o : Option (List Node)) (xs : List Node) → cond t (before y o) None ≡ Some (x ∷ xs)
    → (t ≡ true) × (x ≡ y) × (o ≡ Some xs)
one-read true y x None xs e = let z : ◌≡◌ {A = ℕ} 0 1 = cc in absurd (omega arith)
one-read true y x (Some ys) xs e = (refl, cc, cc)
one-read false y x o xs e = let z : ◌≡◌ {A = ℕ} 0 1 = cc in absurd (omega arith)

record-read : (n : ℕ) (bs : List ℕ) (x : Node) (xs : List Node) → read_records (suc n) bs ≡ Some (x ∷ xs)
    → (fits_record bs ≡ true) × (x ≡ read_record (take (field 0 2 bs) (drop 2 bs))) × (read_records n (drop (2 + field 0 2 bs) bs) ≡ Some xs)
unfolding read_records
record-read n bs x xs e =
    one-read (fits_record bs) (read_record (take (field 0 2 bs) (drop 2 bs))) x (read_records n (drop (2 + field 0 2 bs) bs)) xs e

-- ---- The place of the next record

-- the record at `at`, behind its length
abbrev pub record_part : ℕ → List ℕ → List ℕ
record_part at bytes = take (field at 2 bytes) (drop (at + 2) bytes)

-- n records are passed, and the others stand from `at` on
pub record Reached (bytes : List ℕ) (at n : ℕ) : Type 0 where
  pub few : n ≤ length (nodes_read bytes)
  pub within : at ≤ length bytes
  pub rest : read_records (length (nodes_read bytes) - n) (drop at bytes) ≡ Some (drop n (nodes_read bytes))

pub reached-none : (bytes : List ℕ) (count : ℕ) → Exact bytes count → Reached bytes 7 0
reached-none bytes count exact =
    let front = front_read bytes (nodes_read bytes) exact.read in
    let all : read_records (field 5 2 bytes) (drop 7 bytes) ≡ Some (nodes_read bytes) = sym (front-right bytes front) ∙ exact.read in
    let number : length (nodes_read bytes) - 0 ≡ field 5 2 bytes = omega (arith, records-counted (field 5 2 bytes) (drop 7 bytes) (nodes_read bytes) all) in
    record {
      few = omega arith;
      within = front.header;
      rest = ap (λ (k : ℕ). read_records k (drop 7 bytes)) number ∙ all;
    }

-- each number below the count is a node's
pub numbered : {bytes : List ℕ} {count n : ℕ} → Exact bytes count → n < count → n < length (nodes_read bytes)
numbered exact below = omega (arith, exact.counted)

module _ (bytes : List ℕ) (at n : ℕ) (reached : Reached bytes at n) (h : n < length (nodes_read bytes)) where
  abbrev node : Node
  node = node_at (nodes_read bytes) n

  here : (fits_record (drop at bytes) ≡ true) × (node ≡ read_record (take (field 0 2 (drop at bytes)) (drop 2 (drop at bytes))))
      × (read_records (length (nodes_read bytes) - (n + 1)) (drop (2 + field 0 2 (drop at bytes)) (drop at bytes)) ≡ Some (drop (suc n) (nodes_read bytes)))
  here =
      let left : length (nodes_read bytes) - n ≡ suc (length (nodes_read bytes) - (n + 1)) = omega arith in
      record-read (length (nodes_read bytes) - (n + 1)) (drop at bytes) node (drop (suc n) (nodes_read bytes))
      (ap (λ (k : ℕ). read_records k (drop at bytes)) (sym left) ∙ reached.rest ∙ ap Some (drop-cons (nodes_read bytes) n no_node h))

  pub record-here : RecordAt bytes at
  record-here = fits-at at bytes reached.within here.0

  part-long : length (record_part at bytes) ≡ field at 2 bytes
  part-long = length-take-le (field at 2 bytes) (drop (at + 2) bytes) (rw length-drop (omega (arith, record-here.within)))

  node-here : node ≡ read_record (record_part at bytes)
  node-here =
      here.1 ∙ ap (λ (k : ℕ). read_record (take k (drop 2 (drop at bytes)))) (length-here at bytes reached.within)
      ∙ ap (λ (l : List ℕ). read_record (take (field at 2 bytes) l)) (drop-drop 2 at bytes)

  -- the record, lent as `piece`
  pub node-lent : (piece : List ℕ) → piece ≡ record_part at bytes → read_record piece ≡ node
  node-lent piece e = ap read_record e ∙ sym node-here

  pub piece-long : (piece : List ℕ) → piece ≡ record_part at bytes → (28 ≤ length piece) × (length piece ≤ 282)
  piece-long piece e = let fits = record-here in omega (arith, ap length e, part-long)

  pub reached-more : (piece : List ℕ) → piece ≡ record_part at bytes → Reached bytes (at + (2 + length piece)) (n + 1)
  reached-more piece e =
      let long : length piece ≡ field at 2 bytes = ap length e ∙ part-long in
      record {
        few = omega arith;
        within = omega (arith, long, record-here.within);
        rest =
            ap (λ (k : ℕ). read_records (length (nodes_read bytes) - (n + 1)) (drop (at + (2 + k)) bytes)) long
            ∙ ap (read_records (length (nodes_read bytes) - (n + 1))) (sym (drop-drop (2 + field at 2 bytes) at bytes))
            ∙ ap (λ (k : ℕ). read_records (length (nodes_read bytes) - (n + 1)) (drop (2 + k) (drop at bytes))) (sym (length-here at bytes reached.within))
            ∙ here.2 ∙ ap (λ (k : ℕ). Some (drop k (nodes_read bytes))) (sym (add-one n));
      }
