-- What erasing leaves of an arena, and the links that it finds.
use Rattle.std.specs.Prelude.{◌≡◌, List, ℕ}
use Rattle.model.specs.Graph.{Graph, children_of}
use Rattle.model.specs.Arena.{count_in, decode, encode}
use Rattle.model.specs.Erasing.{stays, new_number, erase}
use Rattle.child_lists.specs.Links.{Segments, Linked}

-- the arena has the erased graph's bytes, and the answer is how many nodes were kept
pub record ErasedArena (set before : List ℕ) (r : ℕ) (after : List ℕ) : Type 0 where
  pub kept : r ≡ new_number (stays set) (count_in before)
  pub bytes : after ≡ encode (erase set (decode before)) before

-- ---- The links, in arrays

-- those of a graph's first n nodes; `before` is what stood in `next`
pub record LinksFound (g : Graph) (n : ℕ) (first last before next : List ℕ) : Type 0 where
  pub lists : List ℕ
  pub ends : List ℕ
  pub segments : Segments (children_of g) n lists ends
  pub linked : Linked lists ends n first last before next
