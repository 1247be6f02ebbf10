-- What question 2 asks of a graph, every call keeps (`call-keeps-encodable`) whose numbers fit
-- their widths, as every argument of the code's types does (`CallFits`); so an arena that passes
-- question 2 passes it after every call (`call-holds`). Assumes nothing.
use mathlib.Core.Path.{◌≡◌, refl, sym, ◌∙◌}
use mathlib.Core.Bool.{Bool, true, false, cond}
use mathlib.Core.List.{List}
use Prim.Native.Nat.{ℕ, ◌^◌, ◌<◌}
use lib.Dec.{eqb}
use lib.ListN.{length}
use borrow.Author.Tests.{eqb-false}
use Rattle.model.specs.Graph.{Graph}
use Rattle.model.specs.Calls.{Outcome, Call, starting, adding, orders, culls, erasing, deepening, reading, marking, setting_first_spec, setting_has_specs, setting_restriction, call}
use Rattle.model.specs.Arena.{arena_bytes, decode, encode, holds_graph}
use Rattle.model.specs.ArenaCalls.{ValidArena, on_arena, arena_after}
use Rattle.laws.proofs.BigEndianLaws.{Bytes}
use Rattle.laws.proofs.ArenaCallLaws.{on-opened}
use Rattle.arena.proofs.Encodable.{Encodable}
use Rattle.arena.proofs.ArenaParts.{length-encode}
use Rattle.arena.proofs.ArenaLaws.{decode-encode}
use Rattle.arena.proofs.ArenaHolds.{holds-encoded}
use Rattle.arena.proofs.HeldEncodable.{held-encodable}
use Rattle.child_lists.proofs.AppendEncodable.{NumbersFit}
use Rattle.call_sequences.proofs.ArenaBytes.{bytes-encode}
use Rattle.call_sequences.proofs.KeptFits.{Keeps}
use Rattle.call_sequences.proofs.AddingKeeps.{DepthFits, starting-keeps, adding-keeps}
use Rattle.call_sequences.proofs.OrderingKeeps.{ordering-keeps}
use Rattle.call_sequences.proofs.CullingKeeps.{culling-keeps}
use Rattle.call_sequences.proofs.ErasingKeeps.{erasing-keeps}
use Rattle.call_sequences.proofs.DeepeningKeeps.{deepening-keeps}
use Rattle.call_sequences.proofs.ReadingKeeps.{reading-keeps}
use Rattle.call_sequences.proofs.SettingKeeps.{marking-keeps, first-spec-keeps, has-specs-keeps, restriction-keeps}

-- ---- The numbers that a call is given

-- u32 for stack and layer, u16 for a depth and a position, bytes for a path; of a node to be added
-- what `NumbersFit` says. Arc, links and has-specs are judged by the questions, and so are every
-- byte of an erase set and the flags that are marked.
abbrev pub CallFits : Call → Type 0
CallFits (starting stack layer path) = (stack < 256 ^ 4) × (layer < 256 ^ 4) × Bytes path
CallFits (adding d) = NumbersFit d.fields × DepthFits d.depth
CallFits orders = Unit {0}
CallFits culls = Unit {0}
CallFits (erasing bytes) = Unit {0}
CallFits (deepening child) = Bytes child
CallFits (reading bytes) = Bytes bytes
CallFits (marking n flags) = Unit {0}
CallFits (setting_first_spec n first) = DepthFits first
CallFits (setting_has_specs n authored) = Unit {0}
CallFits (setting_restriction n depth) = depth < 256 ^ 2

-- ---- The graph

-- accepted it leaves an encodable graph, and refused the graph that there was
pub call-keeps : (c : Call) (g : Graph) → CallFits c → Encodable g → Keeps g (call c g)
call-keeps (starting stack layer path) g fits ok = starting-keeps stack layer path fits.0 fits.1 fits.2 g ok
call-keeps (adding d) g fits ok = adding-keeps d fits.0 fits.1 g ok
call-keeps orders g fits ok = ordering-keeps g ok
call-keeps culls g fits ok = culling-keeps g ok
call-keeps (erasing bytes) g fits ok = erasing-keeps bytes g ok
call-keeps (deepening child) g fits ok = deepening-keeps child fits g ok
call-keeps (reading bytes) g fits ok = reading-keeps bytes fits g ok
call-keeps (marking n flags) g fits ok = marking-keeps n g ok flags
call-keeps (setting_first_spec n first) g fits ok = first-spec-keeps n g ok first fits
call-keeps (setting_has_specs n authored) g fits ok = has-specs-keeps n g ok authored
call-keeps (setting_restriction n depth) g fits ok = restriction-keeps n g ok depth fits

pub call-keeps-encodable : (c : Call) (g : Graph) → CallFits c → Encodable g → Encodable (call c g).graph
call-keeps-encodable c g fits ok = (call-keeps c g fits ok).encodable

-- ---- The arena

-- bytes of an arena's length that pass question 2
pub record Arena (bs : List ℕ) : Type 0 where
  pub bytes : Bytes bs
  pub opened : ValidArena bs

pub arena-encodable : (bs : List ℕ) → Arena bs → Encodable (decode bs)
arena-encodable bs a = held-encodable bs a.bytes a.opened.whole a.opened.holds

-- an arena that holds the graph g
pub record ArenaOf (g : Graph) (bs : List ℕ) : Type 0 where
  pub arena : Arena bs
  pub graph : decode bs ≡ g

-- any bytes of an arena's length, with the bytes of a graph put in
pub encoded-arena : (g : Graph) (bs : List ℕ) → Encodable g → Bytes bs → length bs ≡ arena_bytes → ArenaOf g (encode g bs)
encoded-arena g bs ok bytes whole = record {
  arena = record {
    bytes = bytes-encode g ok bs bytes;
    opened = record { whole = length-encode g bs ok whole ∙ whole; holds = holds-encoded g bs ok whole };
  };
  graph = decode-encode g bs ok whole;
}

-- what an outcome leaves of an arena
pub left-arena : (o : Outcome) (bs : List ℕ) → Arena bs → Keeps (decode bs) o → ArenaOf o.graph (arena_after o bs)
left-arena o bs a keeps = go (eqb o.refused 0) refl
  where
    go : (t : Bool) → eqb o.refused 0 ≡ t → ArenaOf o.graph (cond t (encode o.graph bs) bs)
    go true e = encoded-arena o.graph bs keeps.encodable a.bytes a.opened.whole
    go false e = record { arena = a; graph = sym (keeps.refused (eqb-false o.refused 0 e)) }

pub call-arena : (c : Call) (bs : List ℕ) → CallFits c → Arena bs → ArenaOf (call c (decode bs)).graph (arena_after (on_arena (call c) bs) bs)
call-arena c bs fits a =
    rw (on-opened bs (call c) a.opened) (left-arena (call c (decode bs)) bs a (call-keeps c (decode bs) fits (arena-encodable bs a)))

-- question 2 never refuses what a call left
pub call-holds : (c : Call) (bs : List ℕ) → CallFits c → Bytes bs → length bs ≡ arena_bytes → holds_graph bs ≡ true
    → holds_graph (arena_after (on_arena (call c) bs) bs) ≡ true
call-holds c bs fits bytes whole holds =
    (call-arena c bs fits (record { bytes = bytes; opened = record { whole = whole; holds = holds } })).arena.opened.holds
