-- What the certificate of an order reads, and what it shows: lists that stand in order by document
-- 01's lines, node strength being read off places (model/specs/Places.antt).
use Rattle.std.specs.Prelude.{◌≡◌, Bool, true, List, ℕ, suc, ◌≤◌, ◌<◌, length, get_or}
use Rattle.std.proofs.Math.Seq.{slice}
use Rattle.model.specs.Arena.{count_in, decode}
use Rattle.model.specs.ArenaCalls.{ValidArena}
use Rattle.model.specs.Lists.{All}
use Rattle.model.specs.Order.{is_less, Sorted}
use Rattle.model.specs.Places.{by_place, Fits}
use Rattle.model.specs.Strength.{View, sibling_lines}
use Rattle.laws.proofs.OrderCopies.{Follows}
use Rattle.view.specs.View.{view_in}
use Rattle.line_table.specs.declared.Entry.{Entry}
use Rattle.line_table.specs.LineTable.{EntryOf, NestedKnown, Tabled}
use Rattle.certificate.specs.Sorts.{Sorts}

-- the places that stand in an array
abbrev pub place_in : List ℕ → ℕ → ℕ
place_in places n = get_or places n 0

-- what an entry asks of has a place
pub record Placed (places : List ℕ) (e : Entry) : Type 0 where
  pub origin : e.origin < length places
  pub root : e.root < length places
  pub few : length places ≤ 1024

-- whether a is before b by the lines and the places, wherever the entries are the view's
abbrev pub IsBefore : List ℕ → Entry → Entry → Bool → Bool → Type 0
IsBefore places a b nested r =
    (u : View) → EntryOf u a → EntryOf u b → NestedKnown a b nested u → r ≡ is_less (sibling_lines u (by_place (place_in places)) a.node b.node)

-- b follows a by the lines that pass on from neighbour to neighbour, wherever the entries are the
-- view's
abbrev pub FollowsBy : List ℕ → Entry → Entry → Bool → Type 0
FollowsBy places a b r = r ≡ true → (u : View) → EntryOf u a → EntryOf u b → Follows u (place_in places) a.node b.node

-- two entries that the first of these lines do not part
pub record SameStack (a b : Entry) : Type 0 where
  pub root : a.root ≡ b.root
  pub class-depth : a.class_depth ≡ b.class_depth
  pub hops : a.hops ≡ b.hops
  pub local : a.local ≡ b.local

-- `next` is HAS_SPECIALIZES, follows `last`, and has its R where depths differ
pub record NextBy (places : List ℕ) (last next : Entry) (uneven r : Bool) : Type 0 where
  pub special : r ≡ true → next.special ≡ true
  pub root : r ≡ true → uneven ≡ true → next.root ≡ last.root
  pub follows : FollowsBy places last next r

-- e, if it is authored, comes after a sibling number and a node number
abbrev pub RisesOver : ℕ → ℕ → Entry → Type 0
RisesOver sibling node e = e.authored ≡ true → (sibling ≤ e.sibling) × (e.sibling ≤ sibling → node < e.node)

-- the arena holds a graph, and the table is of its nodes
pub record Given (bs table sorted : List ℕ) : Type 0 where
  pub opened : ValidArena bs
  pub tabled : Tabled bs table
  pub long : length sorted ≡ 1024

-- each of its nodes has a place
pub record Reaches (bs places : List ℕ) : Type 0 where
  pub reaches : count_in bs ≤ length places
  pub few : length places ≤ 1024

-- c is a child of v
abbrev pub ChildOf : List ℕ → ℕ → ℕ → Type 0
ChildOf bs v c = (0 < c) × (c < count_in bs) × ((view_in bs).parent c ≡ v)

-- children of v stand in `sorted` from `start` to `end`
pub record Part (bs sorted : List ℕ) (v start end : ℕ) : Type 0 where
  pub low : start ≤ end
  pub high : end ≤ 1024
  pub children : All (ChildOf bs v) (slice start end sorted)

-- a part has the depth of its first child
abbrev pub OneDepth : List ℕ → List ℕ → ℕ → ℕ → Type 0
OneDepth bs sorted start end = (k : ℕ) → start ≤ k → k < end → (view_in bs).depth (get_or sorted k 0) ≡ (view_in bs).depth (get_or sorted start 0)

-- and its rank
abbrev pub OneRank : List ℕ → List ℕ → ℕ → ℕ → Type 0
OneRank bs sorted start end = (k : ℕ) → start ≤ k → k < end → (view_in bs).rank (get_or sorted k 0) ≡ (view_in bs).rank (get_or sorted start 0)

-- each earlier is before each later
abbrev pub ByLines : List ℕ → List ℕ → List ℕ → Type 0
ByLines bs places xs = Sorted (λ a b. is_less (sibling_lines (view_in bs) (by_place (place_in places)) a b)) xs

-- true says so of the part from `start` to `end`
abbrev pub PartInOrder : List ℕ → List ℕ → List ℕ → ℕ → ℕ → Bool → Type 0
PartInOrder bs places sorted start end r = r ≡ true → ByLines bs places (slice start end sorted)

-- the part from `start` to `end` begins with a run of one rank, up to r
pub record RunEnd (bs sorted : List ℕ) (start end r : ℕ) : Type 0 where
  pub longer : start < r
  pub within : r ≤ end
  pub one_rank : OneRank bs sorted start r

-- the list of v stands from `start` to `end`, and the branches of its children have their places
-- after v's one by one
pub record FitsIn (bs sorted places stops : List ℕ) (v start end : ℕ) : Type 0 where
  pub part : Part bs sorted v start end
  pub fits : Fits (place_in places) (place_in stops) (suc (place_in places v)) (place_in stops v) (slice start end sorted)

-- what a certificate shows
abbrev pub Certifies : List ℕ → List ℕ → List ℕ → Bool → Type 0
Certifies bs sorted ends r = r ≡ true → Sorts (decode bs) true sorted ends
