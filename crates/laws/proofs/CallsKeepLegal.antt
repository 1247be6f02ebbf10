-- Every call keeps a graph legal, and so does every list of calls from every start of demand 3:
-- `every-list-legal`. A call that is refused leaves the graph; one that reads leaves a legal graph
-- whatever was there. Assumes nothing.
use mathlib.Core.Path.{◌≡◌}
use mathlib.Core.Logic.{inl, inr}
use mathlib.Core.List.{List, [], ◌∷◌}
use Prim.Native.Nat.{ℕ}
use native.Mathlib.Omega.{arith}
use Rattle.model.specs.Graph.{Graph}
use Rattle.model.specs.Calls.{Call, starting, adding, orders, culls, erasing, deepening, reading, marking, setting_first_spec, setting_has_specs, setting_restriction, call, calls, read_into}
use Rattle.laws.specs.GraphDemand3.{Start, empty, read, seeded}
use Rattle.laws.proofs.LegalGraphs.{Legal, empties-legal}
use Rattle.laws.proofs.LegalAdded.{LegalOrRefused, starting-keeps-legal, adding-keeps-legal, reading-legal-or-refused}
use Rattle.laws.proofs.LegalAlike.{ordering-keeps-legal, culling-keeps-legal, deepening-keeps-legal, seeding-legal}
use Rattle.laws.proofs.LegalSet.{marking-keeps-legal, first-spec-keeps-legal, has-specs-keeps-legal, restriction-keeps-legal}
use Rattle.laws.proofs.LegalErased.{erasing-keeps-legal}

-- ---- Reading

pub reading-keeps-legal : (bytes : List ℕ) (g : Graph) → Legal g → Legal (read_into bytes g).graph
reading-keeps-legal bytes g legal = go (reading-legal-or-refused bytes g)
  where
    go : LegalOrRefused g (read_into bytes g) → Legal (read_into bytes g).graph
    go (inl new) = new
    go (inr old) = rw old.1 legal

pub reading-legal : (bytes : List ℕ) (old : Graph) → (read_into bytes old).refused ≡ 0 → Legal (read_into bytes old).graph
reading-legal bytes old e = go (reading-legal-or-refused bytes old)
  where
    go : LegalOrRefused old (read_into bytes old) → Legal (read_into bytes old).graph
    go (inl new) = new
    go (inr refused) = absurd (omega (arith, refused.0))

-- ---- Every call, and every list of them

pub call-keeps-legal : (c : Call) (g : Graph) → Legal g → Legal (call c g).graph
call-keeps-legal (starting stack layer path) g legal = starting-keeps-legal stack layer path g legal
call-keeps-legal (adding d) g legal = adding-keeps-legal d g legal
call-keeps-legal orders g legal = ordering-keeps-legal g legal
call-keeps-legal culls g legal = culling-keeps-legal g legal
call-keeps-legal (erasing bytes) g legal = erasing-keeps-legal bytes g legal
call-keeps-legal (deepening child) g legal = deepening-keeps-legal child g legal
call-keeps-legal (reading bytes) g legal = reading-keeps-legal bytes g legal
call-keeps-legal (marking n flags) g legal = marking-keeps-legal n flags g legal
call-keeps-legal (setting_first_spec n first) g legal = first-spec-keeps-legal n first g legal
call-keeps-legal (setting_has_specs n authored) g legal = has-specs-keeps-legal n authored g legal
call-keeps-legal (setting_restriction n depth) g legal = restriction-keeps-legal n depth g legal

pub calls-keep-legal : (cs : List Call) (g : Graph) → Legal g → Legal (calls cs g)
calls-keep-legal [] g legal = legal
calls-keep-legal (c ∷ cs) g legal = calls-keep-legal cs (call c g).graph (call-keeps-legal c g legal)

pub start-legal : (g : Graph) → Start g → Legal g
start-legal g (empty e) = empties-legal g e
start-legal g (read bytes old accepted e) = rw e (reading-legal bytes old accepted)
start-legal g (seeded from into cs child start accepted e) =
    rw e (seeding-legal child (calls cs from) into (calls-keep-legal cs from (start-legal from start)) accepted)

pub every-list-legal : (g : Graph) → Start g → (cs : List Call) → Legal (calls cs g)
every-list-legal g start cs = calls-keep-legal cs g (start-legal g start)
