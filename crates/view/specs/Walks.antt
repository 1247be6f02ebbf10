-- What the answers of this crate's walks mean, by model/specs/Strength.antt and Hierarchy.antt.
use Rattle.std.specs.Prelude.{◌≡◌, List, ◌∷◌, ◌++◌, ℕ, ◌≤◌, ◌<◌}
use Rattle.std.specs.declared.cmp.Ordering.{Ordering}
use Rattle.std.specs.declared.cmp.Ordering.TheVariants.{Less, Equal, Greater}
use Rattle.model.specs.Strength.{View, origin_root_node, origin_hops, starting_node_of_class_hierarchy, chain}
use Rattle.model.specs.Hierarchy.{topmost_class_node}
use Rattle.view.specs.declared.origins.OriginRoot.{OriginRoot}
use Rattle.view.specs.declared.classes.ClassHierarchy.{ClassHierarchy}
use Rattle.view.specs.declared.parting.Parting.{Parting}
use Rattle.view.specs.declared.parting.Parting.TheVariants.{Same, Above, Below, Apart}

pub record RootOf (u : View) (n : ℕ) (r : OriginRoot) : Type 0 where
  pub node : r.node ≡ origin_root_node u n
  pub hops : r.hops ≡ origin_hops u n

pub record HierarchyOf (u : View) (n : ℕ) (r : ClassHierarchy) : Type 0 where
  pub instance : r.instance ≡ starting_node_of_class_hierarchy u n
  pub «class-node» : r.class_node ≡ topmost_class_node u n

-- ---- Where two chains part

-- x and y are different children of one parent, x in the chain of a and y in that of b
pub record Siblings (u : View) (a b x y : ℕ) : Type 0 where
  pub left : (0 < x) × (x ≤ a)
  pub right : (0 < y) × (y ≤ b)
  pub parents : u.parent x ≡ u.parent y
  pub differ : x ≡ y → ⊥

abbrev pub Apartness : View → ℕ → ℕ → Parting → Type 0
Apartness u a b Same = Unit {0}
Apartness u a b Above = Unit {0}
Apartness u a b Below = Unit {0}
Apartness u a b (Apart x y) = Siblings u a b x y

-- the second chain goes on where the first ends
pub record GoesOn (xs ys : List ℕ) : Type 0 where
  pub next : ℕ
  pub rest : List ℕ
  pub whole : ys ≡ xs ++ (next ∷ rest)

-- both have one front, and go on from there by x and by y
pub record SplitAt (xs ys : List ℕ) (x y : ℕ) : Type 0 where
  pub front : List ℕ
  pub left : List ℕ
  pub right : List ℕ
  pub first : xs ≡ front ++ (x ∷ left)
  pub second : ys ≡ front ++ (y ∷ right)

abbrev pub ChainsPart : List ℕ → List ℕ → Parting → Type 0
ChainsPart xs ys Same = xs ≡ ys
ChainsPart xs ys Above = GoesOn xs ys
ChainsPart xs ys Below = GoesOn ys xs
ChainsPart xs ys (Apart x y) = SplitAt xs ys x y

-- what `parting_by` says of two such chains (proofs/PartingLaws.antt, `parts-by`)
abbrev pub parted_at : {A : Type 0} → A → A → A → (ℕ → ℕ → A) → Parting → A
parted_at same above below siblings Same = same
parted_at same above below siblings Above = above
parted_at same above below siblings Below = below
parted_at same above below siblings (Apart x y) = siblings x y

-- "the same node is Equal; an ancestor is stronger (Less); else compare the siblings where the
-- chains part"
abbrev pub compared_at : (ℕ → ℕ → Ordering) → Parting → Ordering
compared_at siblings r = parted_at Equal Less Greater siblings r

pub record Parts (u : View) (a b : ℕ) (r : Parting) : Type 0 where
  pub chains : ChainsPart (chain u.parent a) (chain u.parent b) r
  pub apart : Apartness u a b r
