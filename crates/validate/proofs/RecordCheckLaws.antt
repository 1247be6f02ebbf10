-- The questions that this crate puts are those of model/specs/Refusals.antt, put to a graph and a
-- node (`questions-at`); and what the check may answer where they fail and where they pass. Assumes
-- nothing.
use Rattle.std.specs.Prelude.{Err, None, Ok, Some}
use mathlib.Core.Path.{◌≡◌, refl, sym}
use mathlib.Core.Bool.{Bool, true, false, cond}
use mathlib.Core.List.{List, [], ◌∷◌}
use Prim.Native.Nat.{ℕ, ◌≤◌}
use native.Mathlib.Omega.{arith}
use Rattle.model.specs.Path.{well_formed, prim_count, count_prims}
use Rattle.model.specs.Node.{Node}
use Rattle.model.specs.Graph.{Graph}
use Rattle.model.specs.Refusals.{refusal_number, Question, ask, refusal, record_questions}
use Rattle.model.specs.declared.Refusal.{Refusal}
use Rattle.model.specs.declared.Refusal.TheVariants.{Node as NodeNumber, Path, Kind, Capacity}
use Rattle.laws.proofs.PathLaws.{prim-count-half}
use Rattle.laws.proofs.PathGrammar.{well-formed-length}
use Rattle.path.proofs.ReadingLaws.{counted-well-formed}
use Rattle.validate.specs.RecordCheck.{numbers_of, before_next, questions_at, RecordChecked}

pub questions-at : (g : Graph) (x : Node) → record_questions g x ≡ questions_at (before_next g true) (numbers_of x) x.path
questions-at g x = refl

-- ---- A path that is counted

pub counted-names : (p : List ℕ) (n : ℕ) → count_prims p ≡ Some n → n ≡ prim_count p
unfolding count_prims
counted-names p n e = go (well_formed p) e
  where
    go : (t : Bool) → cond t (Some (prim_count p)) None ≡ Some n → n ≡ prim_count p
    go true f = cc
    go false f = let z : ◌≡◌ {A = ℕ} 0 1 = cc in absurd (omega arith)

pub few-names : (p : List ℕ) (n : ℕ) → count_prims p ≡ Some n → n ≤ 255
few-names p n e =
    omega (arith, counted-names p n e, prim-count-half p, well-formed-length p (sym (counted-well-formed p n e)))

-- ---- What the check may answer

refused-by : (qs : List Question) (path : List ℕ) (r : Refusal) → refusal_number r ≡ refusal qs → (refusal_number r ≡ 0 → ⊥) → RecordChecked qs path (Err r)
refused-by qs path r e some = record { refused = e; prims = λ z. absurd (some z) }

module _ (links formed kind fits : Bool) (path : List ℕ) where
  abbrev four : List Question
  four = ask 4 links ∷ ask 5 formed ∷ ask 6 kind ∷ ask 7 fits ∷ []

  pub refused-4 : links ≡ false → RecordChecked four path (Err NodeNumber)
  refused-4 e = refused-by four path NodeNumber (rw e) (λ z. omega arith)

  pub refused-5 : links ≡ true → formed ≡ false → RecordChecked four path (Err Path)
  refused-5 e f = refused-by four path Path (rw (e, f)) (λ z. omega arith)

  pub refused-6 : links ≡ true → formed ≡ true → kind ≡ false → RecordChecked four path (Err Kind)
  refused-6 e f g = refused-by four path Kind (rw (e, f, g)) (λ z. omega arith)

  pub refused-7 : links ≡ true → formed ≡ true → kind ≡ true → fits ≡ false → RecordChecked four path (Err Capacity)
  refused-7 e f g h = refused-by four path Capacity (rw (e, f, g, h)) (λ z. omega arith)

  pub accepted : (n : ℕ) → links ≡ true → formed ≡ true → kind ≡ true → fits ≡ true → n ≡ prim_count path → RecordChecked four path (Ok n)
  accepted n e f g h p = record { refused = rw (e, f, g, h); prims = λ z. p }
