-- Question 2, exactly: it passes at the bytes of encodable graphs and at no others
-- (`holds-exactly`), and each passing arena is the bytes of one graph only, the one that it holds
-- (`encoded-one`). Without a node it asks nothing but the marks (`empty-exactly`). Assumes nothing.
use mathlib.Core.Path.{◌≡◌, sym, ap, subst, ◌∙◌}
use mathlib.Core.Logic.{◌↔◌}
use mathlib.Core.Bool.{true, and-true}
use mathlib.Core.List.{List}
use Prim.Native.Nat.{ℕ}
use lib.ListN.{length}
use Rattle.model.specs.Graph.{Graph}
use Rattle.model.specs.Arena.{arena_bytes, count_in, decode, encode, state_valid, holds_graph}
use Rattle.laws.proofs.BigEndianLaws.{Bytes}
use Rattle.arena.proofs.Encodable.{Encodable}
use Rattle.arena.proofs.ArenaLaws.{decode-encode}
use Rattle.arena.proofs.ArenaHolds.{holds-encoded}
use Rattle.arena.proofs.ArenaBack.{encode-decode}
use Rattle.arena.proofs.HeldEncodable.{held-encodable}

pub holds-exactly : (bs : List ℕ) → Bytes bs → length bs ≡ arena_bytes
    → (holds_graph bs ≡ true) ↔ ((g : Graph) × Encodable g × (encode g bs ≡ bs))
holds-exactly bs bytes whole = (
  λ holds. (decode bs, held-encodable bs bytes whole holds, encode-decode bs bytes whole holds),
  λ k. subst (λ (s : List ℕ). holds_graph s ≡ true) k.2 (holds-encoded k.0 bs k.1 whole),
)

pub encoded-one : (g : Graph) (bs : List ℕ) → Encodable g → length bs ≡ arena_bytes → encode g bs ≡ bs → g ≡ decode bs
encoded-one g bs ok whole e = sym (decode-encode g bs ok whole) ∙ ap decode e

pub empty-exactly : (bs : List ℕ) → count_in bs ≡ 0 → holds_graph bs ≡ state_valid bs
unfolding holds_graph
empty-exactly bs none = rw none (and-true (state_valid bs))
