-- The examples of document 01's path section, in one table, and those of document 02's W2, in
-- another, by computation. Assumes nothing.
use mathlib.Core.Path.{◌≡◌, refl}
use mathlib.Core.Bool.{true, false}
use mathlib.Core.List.{[]}
use Rattle.model.proofs.Text.{bytes}
use Rattle.model.specs.Path.{is_name_start, is_word_byte, is_selection_byte, well_formed, prim_count, before_name, parent_length, parent, name_start, last_name, separator, append_name, path_at_intro_depth}

pub record Table : Type 0 where
  -- "The prim count is the number of names: `/` 0, `/A{v=x}` 1, `/A{v=x}B` 2"
  pub no_name : prim_count (bytes "/") ≡ 0
  pub one_name : prim_count (bytes "/A{v=x}") ≡ 1
  pub two-names : prim_count (bytes "/A{v=x}B") ≡ 2
  -- "`/A{v=x}B{w=y}` gives `/A{v=x}` for d = 1 and `/` for d = 2"
  pub one-back : path_at_intro_depth 1 (bytes "/A{v=x}B{w=y}") ≡ bytes "/A{v=x}"
  pub two_back : path_at_intro_depth 2 (bytes "/A{v=x}B{w=y}") ≡ bytes "/"
  -- "After `}` a slash is malformed"; "names and sets do not begin with a digit"
  pub bare-name : well_formed (bytes "/A{v=x}B") ≡ true
  pub slash-after-brace : well_formed (bytes "/A{v=x}/B") ≡ false
  pub digit-first : well_formed (bytes "/1") ≡ false
  pub digit-in-selection : well_formed (bytes "/A{v=1}") ≡ true
  -- "The parent of a path ending in `}` stops before the last `{`. Otherwise it stops before the
  -- last `/`, or after the last `}` if that is later; `/A` has parent `/`"
  pub selection-parent : parent (bytes "/A{v=x}") ≡ bytes "/A"
  pub slashed-parent : parent (bytes "/A/B") ≡ bytes "/A"
  pub bare-parent : parent (bytes "/A{v=x}B") ≡ bytes "/A{v=x}"
  pub first-parent : parent (bytes "/A") ≡ bytes "/"
  -- "Appending a name puts `/` between, except after `/` or `}`"
  pub slash-between : append_name (bytes "/A") (bytes "B") ≡ bytes "/A/B"
  pub none-after-root : append_name (bytes "/") (bytes "B") ≡ bytes "/B"
  pub none-after-brace : append_name (bytes "/A{v=x}") (bytes "B") ≡ bytes "/A{v=x}B"

pub table : Table
unfolding well_formed prim_count is_name_start is_word_byte is_selection_byte before_name parent_length parent separator append_name path_at_intro_depth
table = record {
  no_name = refl;
  one_name = refl;
  two-names = refl;
  one-back = refl;
  two_back = refl;
  bare-name = refl;
  slash-after-brace = refl;
  digit-first = refl;
  digit-in-selection = refl;
  selection-parent = refl;
  slashed-parent = refl;
  bare-parent = refl;
  first-parent = refl;
  slash-between = refl;
  none-after-root = refl;
  none-after-brace = refl;
}

-- "A maker sent `/Cell{drive=}` and another `/Cell{drive=ac-400|b}`"
pub record SelectionTable : Type 0 where
  pub empty : well_formed (bytes "/Cell{drive=}") ≡ true
  pub empty-count : prim_count (bytes "/Cell{drive=}") ≡ 1
  pub empty-parent : parent (bytes "/Cell{drive=}") ≡ bytes "/Cell"
  pub empty-no-name : last_name (bytes "/Cell{drive=}") ≡ []
  pub marked : well_formed (bytes "/Cell{drive=ac-400|b}") ≡ true
  pub marked-count : prim_count (bytes "/Cell{drive=ac-400|b}") ≡ 1
  pub marked-parent : parent (bytes "/Cell{drive=ac-400|b}") ≡ bytes "/Cell"
  pub marked-no-name : last_name (bytes "/Cell{drive=ac-400|b}") ≡ []
  -- a name with no slash straight after an empty selection
  pub name-behind : well_formed (bytes "/A{v=}B") ≡ true
  pub name-behind-count : prim_count (bytes "/A{v=}B") ≡ 2
  pub name-behind-parent : parent (bytes "/A{v=}B") ≡ bytes "/A{v=}"
  pub last_name : last_name (bytes "/A{v=}B") ≡ bytes "B"
  pub appended : append_name (bytes "/A{v=}") (bytes "B") ≡ bytes "/A{v=}B"
  pub one-back : path_at_intro_depth 1 (bytes "/A{v=}B{w=-|}") ≡ bytes "/A{v=}"
  pub two_back : path_at_intro_depth 2 (bytes "/A{v=}B{w=-|}") ≡ bytes "/"
  -- "any run": a selection may begin with each of its bytes
  pub hyphen-first : well_formed (bytes "/A{v=-}") ≡ true
  pub bar-first : well_formed (bytes "/A{v=|}") ≡ true
  -- "Names and sets remain as before"
  pub hyphen-in-name : well_formed (bytes "/A-B") ≡ false
  pub hyphen-in-set : well_formed (bytes "/A{v-w=x}") ≡ false
  pub bar-in-name : well_formed (bytes "/A|B") ≡ false
  pub no-set : well_formed (bytes "/A{=}") ≡ false
  -- the neighbours of `-` and `|` stay out
  pub comma : well_formed (bytes "/A{v=,}") ≡ false
  pub dot : well_formed (bytes "/A{v=.}") ≡ false
  pub open-brace : well_formed (bytes "/A{v={}") ≡ false
  pub close-brace : well_formed (bytes "/A{v=}}") ≡ false
  pub tilde : well_formed (bytes "/A{v=~}") ≡ false

pub selection-table : SelectionTable
unfolding well_formed prim_count is_name_start is_word_byte is_selection_byte before_name parent_length parent name_start last_name separator append_name path_at_intro_depth
selection-table = record {
  empty = refl;
  empty-count = refl;
  empty-parent = refl;
  empty-no-name = refl;
  marked = refl;
  marked-count = refl;
  marked-parent = refl;
  marked-no-name = refl;
  name-behind = refl;
  name-behind-count = refl;
  name-behind-parent = refl;
  last_name = refl;
  appended = refl;
  one-back = refl;
  two_back = refl;
  hyphen-first = refl;
  bar-first = refl;
  hyphen-in-name = refl;
  hyphen-in-set = refl;
  bar-in-name = refl;
  no-set = refl;
  comma = refl;
  dot = refl;
  open-brace = refl;
  close-brace = refl;
  tilde = refl;
}
