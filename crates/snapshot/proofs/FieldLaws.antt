-- What the proofs of the reader's first pass cite: a field that is there and one that is missing; a
-- record that fits (`RecordAt`); the front of a snapshot (`Front`); and the loop over the records,
-- that the rest passes question 12 where all of it does (`Asked`). Assumes nothing.
use Rattle.std.specs.Prelude.{Err, Ok, Option}
use mathlib.Core.Path.{◌≡◌, refl, sym, ap, ◌∙◌}
use mathlib.Core.Bool.{Bool, true, false, ◌&&◌, cond, false≢true, true≢false}
use Rattle.std.specs.Prelude.{Some, None}
use Rattle.std.proofs.lemmas.Option.{cond_some, none-some}
use mathlib.Core.List.{List, [], ◌∷◌}
use Prim.Native.Nat.{ℕ, zero, suc, ◌+◌, ◌-◌, ◌≤◌, ◌<◌}
use native.Mathlib.Nat.{add-zero}
use native.Mathlib.Omega.{arith}
use lib.Dec.{eqb, leb}
use lib.ListN.{length, take, drop, length-drop}
use lib.Seq.{drop-drop}
use borrow.Author.Tests.{leb-true, leb-false, le-leb, eqb-true, eq-eqb}
use Rattle.model.specs.Node.{Node}
use Rattle.model.specs.Snapshot.{value, field, read_record, fits_record, before, read_records, read_snapshot}
use Rattle.model.specs.declared.Refusal.TheVariants.{Snapshot}
use Rattle.laws.proofs.SnapshotLaws.{and_first, and_second}
use Rattle.snapshot.specs.SnapshotReading.{field_at, length_at, counted_as, RecordAt}

-- ---- One field

not-picked : (t : Bool) (n : ℕ) → cond t (Some n) None ≡ None → t ≡ false
not-picked true n e = absurd (none-some n (sym e))
not-picked false n e = refl

module _ (at w : ℕ) (bytes : List ℕ) where
  pub taken : (v : ℕ) → field_at at w bytes ≡ Some v → (at + w ≤ length bytes) × (v ≡ field at w bytes)
  taken v e =
      let both = cond_some (leb (at + w) (length bytes)) (field at w bytes) v e in
      (leb-true (at + w) (length bytes) both.0, sym both.1)

  pub not_taken : field_at at w bytes ≡ None → length bytes < at + w
  not_taken e = leb-false (at + w) (length bytes) (not-picked (leb (at + w) (length bytes)) (field at w bytes) e)

field-drop : (at a w : ℕ) (bytes : List ℕ) → field a w (drop at bytes) ≡ field (at + a) w bytes
field-drop at a w bytes = ap (λ (l : List ℕ). value (take w l)) (drop-drop a at bytes)

-- ---- A record's length

module _ (at : ℕ) (bytes : List ℕ) (h : at ≤ length bytes) where
  rest-length : length (drop at bytes) + at ≡ length bytes
  rest-length = omega (arith, length-drop at bytes)

  pub length-here : field 0 2 (drop at bytes) ≡ field at 2 bytes
  length-here = field-drop at 0 2 bytes ∙ ap (λ (k : ℕ). field k 2 bytes) (add-zero at)

  fits-record : RecordAt bytes at → fits_record (drop at bytes) ≡ true
  fits-record fits =
      rw (
        length-here,
        le-leb 2 (length (drop at bytes)) (omega (arith, rest-length, fits.within)),
        le-leb 28 (field at 2 bytes) fits.long,
        le-leb (field at 2 bytes) 282 fits.short,
        le-leb (2 + field at 2 bytes) (length (drop at bytes)) (omega (arith, rest-length, fits.within)),
      )

  pub fits-at : fits_record (drop at bytes) ≡ true → RecordAt bytes at
  fits-at e =
      let e' : (leb 2 (length (drop at bytes)) && (leb 28 (field at 2 bytes) && (leb (field at 2 bytes) 282
      && leb (2 + field at 2 bytes) (length (drop at bytes))))) ≡ true = rw length-here at e in
      record {
        long = leb-true 28 (field at 2 bytes) (search (and_first, and_second));
        short = leb-true (field at 2 bytes) 282 (search (and_first, and_second));
        within = omega (arith, rest-length, leb-true (2 + field at 2 bytes) (length (drop at bytes)) (search (and_first, and_second)));
      }

  pub length_taken : (v : ℕ) → length_at at bytes ≡ Some v → RecordAt bytes at × (v ≡ field at 2 bytes)
  length_taken v e =
      let both = cond_some (fits_record (drop at bytes)) (field at 2 bytes) v e in
      (fits-at both.0, sym both.1)

-- ---- The front

pub record Front (bytes : List ℕ) : Type 0 where
  pub header : 7 ≤ length bytes
  pub counted : 4 + field 0 4 bytes ≡ length bytes
  pub version : field 4 1 bytes ≡ 1

-- its tests
abbrev pub front_valid : List ℕ → Bool
front_valid bytes = leb 7 (length bytes) && (eqb (4 + field 0 4 bytes) (length bytes) && eqb (field 4 1 bytes) 1)

module _ (bytes : List ℕ) where
  pub front-tested : front_valid bytes ≡ true → Front bytes
  front-tested e = record {
    header = leb-true 7 (length bytes) (search and_first);
    counted = eqb-true (4 + field 0 4 bytes) (length bytes) (search (and_first, and_second));
    version = eqb-true (field 4 1 bytes) 1 (search (and_first, and_second));
  }

  pub front-right : Front bytes → read_snapshot bytes ≡ read_records (field 5 2 bytes) (drop 7 bytes)
  unfolding read_snapshot
  front-right front =
      rw (
        le-leb 7 (length bytes) front.header,
        eq-eqb (4 + field 0 4 bytes) (length bytes) front.counted,
        eq-eqb (field 4 1 bytes) 1 front.version,
      )

  pub front-wrong : (Front bytes → ⊥) → Err Snapshot ≡ counted_as (read_snapshot bytes)
  unfolding read_snapshot
  front-wrong wrong = go (front_valid bytes) refl
    where
      go : (t : Bool) → front_valid bytes ≡ t → Err Snapshot ≡ counted_as (cond t (read_records (field 5 2 bytes) (drop 7 bytes)) None)
      go true e = absurd (wrong (front-tested e))
      go false e = refl

-- ---- The records

abbrev pub passes : Option (List Node) → Bool
passes None = false
passes (Some xs) = true

passes-before : (x : Node) (o : Option (List Node)) → passes (before x o) ≡ passes o
passes-before x None = refl
passes-before x (Some xs) = refl

failed-refused : (o : Option (List Node)) → passes o ≡ false → Err Snapshot ≡ counted_as o
failed-refused None e = refl
failed-refused (Some xs) e = absurd (true≢false e)

counted-before : (n : ℕ) (x : Node) (o : Option (List Node)) → (passes o ≡ true → Ok n ≡ counted_as o) → passes (before x o) ≡ true
    → Ok (suc n) ≡ counted_as (before x o)
counted-before n x None rest e = absurd (false≢true e)
counted-before n x (Some xs) rest e = let same = rest refl in cc

counted_if : (n : ℕ) (t : Bool) (x : Node) (o : Option (List Node)) → (passes o ≡ true → Ok n ≡ counted_as o)
    → passes (cond t (before x o) None) ≡ true → Ok (suc n) ≡ counted_as (cond t (before x o) None)
counted_if n true x o rest e = counted-before n x o rest e
counted_if n false x o rest e = absurd (false≢true e)

pub passed_counted : (n : ℕ) (bs : List ℕ) → passes (read_records n bs) ≡ true → Ok n ≡ counted_as (read_records n bs)
unfolding read_records
passed_counted zero [] e = refl
passed_counted zero (b ∷ bs) e = absurd (false≢true e)
passed_counted (suc n) bs e =
    counted_if n (fits_record bs) (read_record (take (field 0 2 bs) (drop 2 bs))) (read_records n (drop (2 + field 0 2 bs) bs))
    (passed_counted n (drop (2 + field 0 2 bs) bs)) e

-- a record that fits asks nothing more
record-asked : (n : ℕ) (bs : List ℕ) → fits_record bs ≡ true → passes (read_records (suc n) bs) ≡ passes (read_records n (drop (2 + field 0 2 bs) bs))
unfolding read_records
record-asked n bs e = rw e (passes-before (read_record (take (field 0 2 bs) (drop 2 bs))) (read_records n (drop (2 + field 0 2 bs) bs)))

nothing-asked : (bs : List ℕ) → length bs ≤ 0 → passes (read_records 0 bs) ≡ true
unfolding read_records
nothing-asked [] h = refl
nothing-asked (b ∷ bs) h = absurd (omega arith)

something-behind : (bs : List ℕ) → 0 < length bs → passes (read_records 0 bs) ≡ false
unfolding read_records
something-behind [] h = absurd (omega arith)
something-behind (b ∷ bs) h = refl

-- what is left from `at` on passes where all of it does
pub record Asked (bytes : List ℕ) (count at left : ℕ) : Type 0 where
  pub within : at ≤ length bytes
  pub same : passes (read_records left (drop at bytes)) ≡ passes (read_records count (drop 7 bytes))

module _ (bytes : List ℕ) (count at left : ℕ) (asked : Asked bytes count at left) where
  -- one record more
  pub asked-more : 0 < left → RecordAt bytes at → Asked bytes count (at + (2 + field at 2 bytes)) (left - 1)
  asked-more some_left fits = record { within = fits.within; same = go left some_left asked.same }
    where
      go : (k : ℕ) → 0 < k → passes (read_records k (drop at bytes)) ≡ passes (read_records count (drop 7 bytes))
          → passes (read_records (k - 1) (drop (at + (2 + field at 2 bytes)) bytes)) ≡ passes (read_records count (drop 7 bytes))
      go zero l q = absurd (omega arith)
      go (suc k) l q =
          ap (λ (m : ℕ). passes (read_records m (drop (at + (2 + field at 2 bytes)) bytes))) {x = suc k - 1} {y = k} (omega arith)
          ∙ ap (λ (bs : List ℕ). passes (read_records k bs)) behind
          ∙ sym (record-asked k (drop at bytes) (fits-record at bytes asked.within fits)) ∙ q
        where
          behind : drop (at + (2 + field at 2 bytes)) bytes ≡ drop (2 + field 0 2 (drop at bytes)) (drop at bytes)
          behind =
              sym (drop-drop (2 + field at 2 bytes) at bytes)
              ∙ ap (λ (m : ℕ). drop (2 + m) (drop at bytes)) (sym (length-here at bytes asked.within))

  -- a record that does not fit
  pub asked-missing : 0 < left → length_at at bytes ≡ None → Err Snapshot ≡ counted_as (read_records count (drop 7 bytes))
  unfolding read_records
  asked-missing some_left e = failed-refused (read_records count (drop 7 bytes)) (sym asked.same ∙ go left some_left)
    where
      go : (k : ℕ) → 0 < k → passes (read_records k (drop at bytes)) ≡ false
      go zero l = absurd (omega arith)
      go (suc k) l = rw (not-picked (fits_record (drop at bytes)) (field at 2 bytes) e)

  -- the end
  pub asked-all : left ≤ 0 → length bytes ≤ at → Ok count ≡ counted_as (read_records count (drop 7 bytes))
  asked-all none_left end =
      passed_counted count (drop 7 bytes)
      (sym asked.same ∙ ap (λ (k : ℕ). passes (read_records k (drop at bytes))) {x = left} {y = 0} (omega arith)
      ∙ nothing-asked (drop at bytes) (omega (arith, rest-length at bytes asked.within)))

  pub asked-behind : left ≤ 0 → at < length bytes → Err Snapshot ≡ counted_as (read_records count (drop 7 bytes))
  asked-behind none_left more =
      failed-refused (read_records count (drop 7 bytes))
      (sym asked.same ∙ ap (λ (k : ℕ). passes (read_records k (drop at bytes))) {x = left} {y = 0} (omega arith)
      ∙ something-behind (drop at bytes) (omega (arith, rest-length at bytes asked.within)))
