-- That a function of the code makes a call of specs/Demand3.antt: whatever arguments of `Write`
-- have these numbers and bytes, the arena after it is the step; and of seeding, which fills a
-- second arena, that it ends as `seeding` does.
use Rattle.std.specs.Prelude.{Option, Result, ⊤}
use Rattle.model.specs.declared.Refusal.{Refusal}
use Rattle.std.specs.Prelude.{◌≡◌, Bool, List, ℕ}
use Rattle.model.specs.ArenaCalls.{Finishes}
use Rattle.nodes.specs.declared.description.NodeDesc.{NodeDesc}
use Rattle.call_sequences.specs.Demand3.{U8, U16, U32, number_in, Slice, DescFits, starting, adding, ordering, culling, erasing, deepening, reading, marking, setting_first_spec, setting_has_specs, setting_restriction, step, seeding}

abbrev pub Starts : ℕ → ℕ → List ℕ → List ℕ → List ℕ → Type 0
Starts stack layer path before after =
    (s l : U32) (p : Slice) → s.number ≡ stack → l.number ≡ layer → p.bytes ≡ path → after ≡ step (starting s l p) before

abbrev pub Adds : NodeDesc → List ℕ → List ℕ → List ℕ → Type 0
Adds desc path before after = (fits : DescFits desc) (p : Slice) → p.bytes ≡ path → after ≡ step (adding desc fits p) before

abbrev pub Orders : List ℕ → List ℕ → Type 0
Orders before after = after ≡ step ordering before

abbrev pub Culls : List ℕ → List ℕ → Type 0
Culls before after = after ≡ step culling before

abbrev pub Erases : List ℕ → List ℕ → List ℕ → Type 0
Erases set before after = (s : Slice) → s.bytes ≡ set → after ≡ step (erasing s) before

abbrev pub Deepens : List ℕ → List ℕ → List ℕ → Type 0
Deepens child before after = (c : Slice) → c.bytes ≡ child → after ≡ step (deepening c) before

abbrev pub Reads : List ℕ → List ℕ → List ℕ → Type 0
Reads snapshot before after = (s : Slice) → s.bytes ≡ snapshot → after ≡ step (reading s) before

abbrev pub Marks : ℕ → ℕ → List ℕ → List ℕ → Type 0
Marks n flags before after = (m : U32) (f : U8) → m.number ≡ n → f.number ≡ flags → after ≡ step (marking m f) before

abbrev pub SetsFirstSpec : ℕ → Option ℕ → List ℕ → List ℕ → Type 0
SetsFirstSpec n first before after =
    (m : U32) (f : Option U16) → m.number ≡ n → number_in f ≡ first → after ≡ step (setting_first_spec m f) before

abbrev pub SetsHasSpecs : ℕ → Bool → List ℕ → List ℕ → Type 0
SetsHasSpecs n authored before after = (m : U32) → m.number ≡ n → after ≡ step (setting_has_specs m authored) before

abbrev pub SetsRestriction : ℕ → ℕ → List ℕ → List ℕ → Type 0
SetsRestriction n depth before after =
    (m : U32) (d : U16) → m.number ≡ n → d.number ≡ depth → after ≡ step (setting_restriction m d) before

abbrev pub Seeds : List ℕ → List ℕ → List ℕ → Result ⊤ Refusal → List ℕ → Type 0
Seeds child from before r after = (c : Slice) → c.bytes ≡ child → Finishes (seeding c from before) before r after
