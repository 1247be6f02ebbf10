-- The answers about paths by number and value (model/specs/Answers.antt): the prim count is refused
-- by question 5 alone, appending a child's name by 1, 5 and 7. Assumes nothing.
use Rattle.std.specs.Prelude.{Err, None, Ok, Some}
use mathlib.Core.Path.{refl}
use mathlib.Core.Bool.{Bool, true, false, not, ◌&&◌, cond}
use mathlib.Core.List.{List, [], ◌∷◌}
use Prim.Native.Nat.{ℕ}
use lib.Dec.{eqb, ltb}
use lib.ListN.{length}
use Rattle.model.specs.Path.{well_formed, prim_count, count_prims, ends_in_name, last_name, append_name, append_child_name}
use Rattle.model.specs.Answers.{prim_count_refusal, prim_count_value, answer_refusal, number_value}
use Rattle.model.specs.ArenaCalls.{Answers}
use Rattle.model.specs.Refusals.{ask}
use Rattle.model.specs.declared.Refusal.TheVariants.{Size, Path, Capacity}

pub prim-count-answers : (p : List ℕ) → Answers (ask 5 (well_formed p) ∷ []) (prim_count p) (prim_count_refusal (count_prims p)) (prim_count_value (count_prims p))
unfolding count_prims
prim-count-answers p = go (well_formed p)
  where
    go : (formed : Bool) → let r = cond formed (Some (prim_count p)) None in
        Answers (ask 5 formed ∷ []) (prim_count p) (prim_count_refusal r) (prim_count_value r)
    go true = record { refused = refl; value = refl }
    go false = record { refused = refl; value = refl }

module _ (p child out : List ℕ) where
  -- how long the new path is
  abbrev long : ℕ
  long = length (append_name p (last_name child))

  pub append-answers :
      Answers (ask 1 (eqb (length out) 255) ∷ ask 5 (well_formed p && (well_formed child && ends_in_name child)) ∷ ask 7 (not (ltb 255 long)) ∷ [])
      long (answer_refusal (append_child_name p child out)) (number_value (append_child_name p child out))
  unfolding append_child_name
  append-answers = go (eqb (length out) 255) (well_formed p && (well_formed child && ends_in_name child)) (ltb 255 long)
    where
      go : (sized formed over : Bool)
          → let r = cond (not sized) (Err Size) (cond (not formed) (Err Path) (cond over (Err Capacity) (Ok long))) in
          Answers (ask 1 sized ∷ ask 5 formed ∷ ask 7 (not over) ∷ []) long (answer_refusal r) (number_value r)
      go true true true = record { refused = refl; value = refl }
      go true true false = record { refused = refl; value = refl }
      go true false over = record { refused = refl; value = refl }
      go false formed over = record { refused = refl; value = refl }
