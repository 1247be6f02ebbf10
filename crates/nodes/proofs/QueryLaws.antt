-- The answers of the calls that give a node or the header, beside laws/proofs/ArenaCallLaws.antt.
-- Assumes nothing.
use Rattle.std.specs.Prelude.{Err, Ok}
use mathlib.Core.Path.{◌≡◌, sym}
use mathlib.Core.List.{List, []}
use Prim.Native.Nat.{ℕ}
use Rattle.model.specs.Refusals.{refusal_number, refusal}
use Rattle.model.specs.Calls.{reads_node}
use Rattle.model.specs.Arena.{decode}
use Rattle.model.specs.ArenaCalls.{ValidArena, ask_arena}
use Rattle.model.specs.declared.Refusal.{Refusal}
use Rattle.laws.proofs.ArenaCallLaws.{asked-on}
use Rattle.arena.specs.declared.Node.{Node}
use Rattle.nodes.specs.declared.calls.GraphInfo.{GraphInfo}
use Rattle.nodes.specs.Queries.{NodeShown, NodeAnswered, GraphShown, GraphAnswered}

pub no_node : (bs : List ℕ) (n : ℕ) (r : Refusal) → refusal_number r ≡ refusal (ask_arena bs (reads_node (decode bs) n)) → NodeAnswered bs n (Err r)
no_node bs n r e = record { refused = e; node = tt }

pub one-node : (bs : List ℕ) (n : ℕ) (x : Node) → refusal (ask_arena bs (reads_node (decode bs) n)) ≡ 0 → NodeShown (decode bs) n x
    → NodeAnswered bs n (Ok x)
one-node bs n x e s = record { refused = sym e; node = s }

pub no-graph : (bs : List ℕ) (r : Refusal) → refusal_number r ≡ refusal (ask_arena bs []) → GraphAnswered bs (Err r)
no-graph bs r e = record { refused = e; graph = tt }

pub one-graph : (bs : List ℕ) (x : GraphInfo) → ValidArena bs → GraphShown (decode bs) x → GraphAnswered bs (Ok x)
one-graph bs x o s = record { refused = sym (asked-on bs [] o); graph = s }
