-- What document 01's lines read of a node, as an entry and as a row of the table; what the lines
-- answer of two entries; and a row of nested nodes.
use Rattle.std.specs.Prelude.{◌≡◌, ◌⊎◌, Bool, true, cond, List, [], ◌∷◌, ℕ, ◌+◌, ◌*◌, ◌≤◌, ◌<◌, eqb, length, get_or}
use Rattle.std.specs.declared.cmp.Ordering.{Ordering}
use Rattle.model.specs.Lists.{bit}
use Rattle.model.specs.Graph.{depth_below_introduction}
use Rattle.model.specs.Arena.{count_in, decode}
use Rattle.model.specs.Strength.{View, is_authored, is_implied, origin_root_node, origin_hops, outward, is_nested_under, origins_are_nested, replaced, class_hierarchy_from, skip_relocates, class_depth, sibling_lines}
use Rattle.view.specs.View.{view_in, ValidNodeAndRoot}
use Rattle.model.specs.declared.Verdict.{Verdict}
use Rattle.model.specs.declared.Verdict.TheVariants.{Settled, Ask}
use Rattle.strength.specs.Verdicts.{resolve}
use Rattle.line_table.specs.declared.Entry.{Entry}

-- ---- Entries

-- what the lines read of the node, by the view
pub record EntryOf (u : View) (e : Entry) : Type 0 where
  pub rank : e.rank ≡ u.rank e.node
  pub depth : e.depth ≡ u.depth e.node
  pub sibling : e.sibling ≡ u.sibling e.node
  pub origin : e.origin ≡ u.origin e.node
  pub special : e.special ≡ u.special e.node
  pub authored : e.authored ≡ is_authored u e.node
  pub implied : e.implied ≡ is_implied u e.node
  pub local : e.local ≡ u.local_stack e.node
  pub root : e.root ≡ origin_root_node u e.node
  pub hops : e.hops ≡ origin_hops u e.node
  pub class-depth : e.class_depth ≡ class_depth u e.node

-- ---- The lines

-- what a verdict asks are both origins or both R
abbrev pub Asked : Entry → Entry → Verdict → Type 0
Asked a b (Settled o) = Unit {0}
Asked a b (Ask x y o) = ((x ≡ a.origin) × (y ≡ b.origin)) ⊎ ((x ≡ a.root) × (y ≡ b.root))

-- a verdict on two entries by a list of lines, wherever `given` holds of the view
pub record WeighsBy (lines : View → (ℕ → ℕ → Ordering) → ℕ → ℕ → Ordering) (given : View → Type 0) (a b : Entry) (r : Verdict) : Type 0 where
  pub agrees : (u : View) → EntryOf u a → EntryOf u b → given u → (nodes : ℕ → ℕ → Ordering) → resolve nodes r ≡ lines u nodes a.node b.node
  pub asks : Asked a b r

abbrev pub Always : View → Type 0
Always u = Unit {0}

-- `nested` is read only of two depths
abbrev pub NestedAtDepths : Entry → Entry → Bool → View → Type 0
NestedAtDepths a b nested u = (a.depth ≡ b.depth → ⊥) → nested ≡ origins_are_nested u a.root b.root

-- and only of two that are HAS_SPECIALIZES
abbrev pub NestedKnown : Entry → Entry → Bool → View → Type 0
NestedKnown a b nested u = a.special ≡ true → b.special ≡ true → NestedAtDepths a b nested u

-- the whole list
abbrev pub Weighs : Entry → Entry → Bool → Verdict → Type 0
Weighs a b nested r = WeighsBy sibling_lines (NestedKnown a b nested) a b r

-- an ordering of two entries by a line
abbrev pub Orders : (View → ℕ → ℕ → Ordering) → Entry → Entry → Ordering → Type 0
Orders line a b r = (u : View) → EntryOf u a → EntryOf u b → r ≡ line u a.node b.node

-- ---- The table: 16 numbers a node, row n at n * 16

-- D of document 01 begins with a replacement; this is what comes after it
abbrev pub skipped_depth : View → ℕ → ℕ
skipped_depth u n = u.depth (skip_relocates u n)

abbrev pub hierarchy_depth : View → ℕ → ℕ
hierarchy_depth u n = skipped_depth u (class_hierarchy_from u n)

-- four columns a line, from column 0; `below` is the depth below introduction
unfoldable pub node_row : View → (ℕ → ℕ) → ℕ → List ℕ
node_row u below n =
    u.origin n ∷ u.depth n ∷ u.sibling n ∷ u.rank n
    ∷ bit (u.special n) ∷ bit (is_authored u n) ∷ bit (u.local_stack n) ∷ bit (is_implied u n)
    ∷ replaced u n ∷ outward u n ∷ origin_root_node u n ∷ origin_hops u n
    ∷ below n ∷ skipped_depth u n ∷ hierarchy_depth u n ∷ class_depth u n ∷ []

-- node 0 has no origin, so only the second half of its row is read
unfoldable pub root_row : View → List ℕ
root_row u = 0 ∷ 0 ∷ 0 ∷ 0 ∷ 0 ∷ 0 ∷ 0 ∷ 0 ∷ 0 ∷ 0 ∷ 0 ∷ 0 ∷ 0 ∷ u.depth 0 ∷ u.depth 0 ∷ 0 ∷ []

abbrev pub row_in : List ℕ → ℕ → List ℕ
row_in bs n = cond (eqb n 0) (root_row (view_in bs)) (node_row (view_in bs) (depth_below_introduction (decode bs).nodes) n)

-- the table is filled from the second half of row 0 up to `end`
pub record Filled (bs table : List ℕ) (end : ℕ) : Type 0 where
  pub long : count_in bs * 16 ≤ length table
  pub cells : (n k : ℕ) → k < 16 → 8 ≤ n * 16 + k → n * 16 + k < end → get_or table (n * 16 + k) 0 ≡ get_or (row_in bs n) k 0

abbrev pub Tabled : List ℕ → List ℕ → Type 0
Tabled bs table = Filled bs table (count_in bs * 16)

-- a number that a cell can hold
pub record Cell (value r : ℕ) : Type 0 where
  pub same : r ≡ value
  pub fits : r < 65536

-- v is what comes next, in column k of row n
pub record Next (bs table : List ℕ) (n k v : ℕ) : Type 0 where
  pub filled : Filled bs table (n * 16 + k)
  pub below : n < count_in bs
  pub column : k < 16
  pub value : Cell (get_or (row_in bs n) k 0) v

-- row n is being filled, and `columns` of it are
pub record Filling (bs table : List ℕ) (root n columns : ℕ) : Type 0 where
  pub standing : ValidNodeAndRoot bs root n
  pub above : 0 < n
  pub filled : Filled bs table (n * 16 + columns)

-- ---- Nested nodes

-- `row` says of each node whether the walk outward from it meets r
pub record Inward (u : View) (count r : ℕ) (row : List ℕ) : Type 0 where
  pub long : count ≤ length row
  pub marks : (m : ℕ) → m < count → get_or row m 0 ≡ bit (is_nested_under u m r)

-- `row` says of each node whether it and r are nested
abbrev pub NestedRow : View → ℕ → ℕ → List ℕ → Type 0
NestedRow u count r row = (m : ℕ) → m < count → get_or row m 0 ≡ bit (origins_are_nested u r m)
