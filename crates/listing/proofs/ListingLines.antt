-- The lines of an ordered graph's nodes: that each entry of the order can be read
-- (`entry-readable`), a line by the fields that are read (`line_read`), and the loop over the order
-- (`Listed`). Assumes nothing.
use mathlib.Core.Path.{◌≡◌, refl, sym, ap, ◌∙◌}
use mathlib.Core.List.{List, [], ◌∷◌, ◌++◌, append_assoc, append-nil}
use Prim.Native.Nat.{ℕ, zero, suc, ◌+◌, ◌*◌, ◌≤◌, ◌<◌}
use native.Mathlib.Nat.{add-zero, zero-add}
use native.Mathlib.Numerals.{add-one}
use native.Mathlib.Omega.{arith}
use lib.ListN.{length, take, get_or, length-append, take-append-drop}
use lib.Seq.{take-suc, take_all}
use borrow.Author.Tests.{eq-eqb}
use Rattle.model.specs.Lists.{All}
use Rattle.model.specs.Bytes.{stored}
use Rattle.model.specs.Node.{Node}
use Rattle.model.specs.Graph.{size, node_at}
use Rattle.model.specs.Listing.{arc_letters, node_line, node_lines, listing}
use Rattle.model.specs.Arena.{count_in, ordered_in, order_entry_in, node_in, tabulate, order_in, decode}
use Rattle.model.specs.ArenaCalls.{ValidNode}
use Rattle.laws.proofs.LengthLaws.{once-nothing-else}
use Rattle.laws.proofs.StoredLaws.{length-stored}
use Rattle.arena.specs.Slot.{HasSlot}
use Rattle.arena.proofs.SlotLaws.{path-length}
use Rattle.arena.proofs.TabulateLaws.{tabulate-length, tabulate-at}
use Rattle.arena.proofs.HeldArenas.{held}
use Rattle.arena.proofs.ArenaBack.{size-decode, fresh-legal, fresh-nodes}
use Rattle.arena.proofs.ReadNodes.{has-slot, has-path, node-read}
use Rattle.view.specs.View.{view_in}
use Rattle.listing.specs.Texts.{number, head_line, line_of, line_front, line_rest, lines_of, Put, CanList}
use Rattle.listing.proofs.DecimalLaws.{number_short}
use Rattle.listing.proofs.PutLaws.{put_then, put_as}

-- ---- One line

pub front-short : (n arc depth : ℕ) → length (line_front n arc depth) ≤ 43
unfolding line_front
front-short n arc depth =
    omega (arith, length-append (number n) (0x20 ∷ get_or arc_letters arc 0 ∷ 0x20 ∷ number depth), number_short n, number_short depth)

front_rest : (n : ℕ) (x : Node) → line_front n x.arc x.depth ++ line_rest x.path ≡ node_line n x
unfolding line_front number
front_rest n x = append_assoc (number n) (0x20 ∷ get_or arc_letters x.arc 0 ∷ 0x20 ∷ number x.depth) (line_rest x.path)

module _ (bs : List ℕ) (n : ℕ) (r : ValidNode bs n) where
  pub arc-few : (view_in bs).arc n ≤ 6
  arc-few =
      let h = held bs r.opened.holds in
      let same = fresh-nodes bs h in
      rw same at ((fresh-legal bs h).node n (omega (arith, ap length same, size-decode bs h, r.below))).arc

  pub path-short : (path : List ℕ) → path ≡ (node_in bs n).path → length path ≤ 255
  path-short path e = omega (arith, ap length e, path-length bs n (has-path bs n r), (has-path bs n r).short)

  pub line_read : (arc depth : ℕ) (path : List ℕ) → arc ≡ (view_in bs).arc n → depth ≡ (view_in bs).depth n → path ≡ (node_in bs n).path
      → line_front n arc depth ++ line_rest path ≡ line_of bs n
  unfolding line_of
  line_read arc depth path a d p =
      rw (a, d, p ∙ ap (λ (x : Node). x.path) (sym (node-read bs n r))) (front_rest n (node_at (decode bs).nodes n))

  pub line-short : length (line_of bs n) ≤ 300
  line-short =
      let path = (node_in bs n).path in
      omega (
        arith,
        ap length (line_read ((view_in bs).arc n) ((view_in bs).depth n) path refl refl refl),
        length-append (line_front n ((view_in bs).arc n) ((view_in bs).depth n)) (line_rest path),
        front-short n ((view_in bs).arc n) ((view_in bs).depth n),
        length-append path (0xa ∷ []),
        path-short path refl,
      )

-- ---- The order

all-tabulate : (P : ℕ → Type 0) (f : ℕ → ℕ) (at n i : ℕ) → All P (tabulate f at n) → i < n → P (f (at + i))
all-tabulate P f at zero i all h = absurd (omega arith)
all-tabulate P f at (suc n) zero all h = rw add-zero all.0
all-tabulate P f at (suc n) (suc i) all h =
    let next : suc at + i ≡ at + suc i = omega arith in
    rw next at (all-tabulate P f (suc at) n i all.1 (omega arith))

lines-append : (ns : List Node) (xs ys : List ℕ) → node_lines ns (xs ++ ys) ≡ node_lines ns xs ++ node_lines ns ys
lines-append ns [] ys = refl
lines-append ns (x ∷ xs) ys =
    ap (λ (l : List ℕ). node_line x (node_at ns x) ++ l) (lines-append ns xs ys)
    ∙ sym (append_assoc (node_line x (node_at ns x)) (node_lines ns xs) (node_lines ns ys))

-- the lines of the first i entries
unfoldable pub lines_before : List ℕ → ℕ → List ℕ
lines_before bs i = node_lines (decode bs).nodes (take i (decode bs).order)

module _ (bs out : List ℕ) (can : CanList bs out) where
  entries : order_in bs ≡ tabulate (order_entry_in bs) 0 (count_in bs)
  entries = rw (eq-eqb (ordered_in bs) 1 can.ordered)

  order-read : (decode bs).order ≡ tabulate (order_entry_in bs) 0 (count_in bs)
  unfolding decode
  order-read = entries

  order-long : length (decode bs).order ≡ count_in bs
  order-long = ap length order-read ∙ tabulate-length (order_entry_in bs) 0 (count_in bs)

  lines-all : lines_before bs (count_in bs) ≡ lines_of bs
  unfolding lines_before lines_of
  lines-all = ap (node_lines (decode bs).nodes) (take_all (count_in bs) (decode bs).order (omega (arith, order-long)))

  module _ (i : ℕ) (h : i < count_in bs) where
    pub entry-slot : HasSlot bs i
    entry-slot = has-slot bs i (record { opened = can.opened; below = h })

    -- a marked order has each node once, and so nothing but nodes
    pub entry-readable : ValidNode bs (order_entry_in bs i)
    entry-readable =
        let nodes = (held bs can.opened.holds).node in
        let only : All (λ x. x < count_in bs) (order_in bs) =
        once-nothing-else (count_in bs) (order_in bs) (ap length entries ∙ tabulate-length (order_entry_in bs) 0 (count_in bs))
        (λ a l. (nodes a l).in_order can.ordered) in
        record {
          opened = can.opened;
          below = rw zero-add at (all-tabulate (λ x. x < count_in bs) (order_entry_in bs) 0 (count_in bs) i (rw entries at only) h);
        }

    lines_more : lines_before bs (suc i) ≡ lines_before bs i ++ line_of bs (order_entry_in bs i)
    unfolding lines_before line_of
    lines_more =
        let ns = (decode bs).nodes in
        let order = (decode bs).order in
        let entry : get_or order i 0 ≡ order_entry_in bs i =
        ap (λ (l : List ℕ). get_or l i 0) order-read ∙ tabulate-at (order_entry_in bs) 0 (count_in bs) i h in
        ap (node_lines ns) (take-suc order i 0 (omega (arith, order-long)))
        ∙ ap (λ (n : ℕ). node_lines ns (take i order ++ (n ∷ []))) entry
        ∙ lines-append ns (take i order) (order_entry_in bs i ∷ [])
        ∙ ap (λ (l : List ℕ). node_lines ns (take i order) ++ l) (append-nil (node_line (order_entry_in bs i) (node_at ns (order_entry_in bs i))))

-- ---- The loop over the order

-- the lines of i entries are put, at most 300 bytes each
pub record Listed (bs before after : List ℕ) (start at i : ℕ) : Type 0 where
  pub put : Put start (lines_before bs i) before at after
  pub short : at ≤ start + 300 * i

module _ (bs out : List ℕ) (can : CanList bs out) (start : ℕ) (early : start ≤ 27) where
  pub listed-none : Listed bs out out start start 0
  unfolding lines_before stored
  listed-none = record {
    put = record { place = omega arith; bytes = rw add-zero (sym (take-append-drop start out)) };
    short = omega arith;
  }

  module _ (after : List ℕ) (at i : ℕ) (within : i ≤ count_in bs) (listed : Listed bs out after start at i) where
    pub listed-short : at ≤ 307227
    listed-short = omega (arith, listed.short, (held bs can.opened.holds).few)

    pub listed-length : length after ≡ length out
    listed-length =
        ap length listed.put.bytes
        ∙ length-stored start (lines_before bs i) out (omega (arith, can.large, listed.put.place, listed-short))

    pub listed-all : count_in bs ≤ i → Put start (lines_of bs) out at after
    listed-all end =
        let all : i ≡ count_in bs = omega arith in
        put_as _ _ _ _ _ _ (ap (lines_before bs) all ∙ lines-all bs out can) listed.put

    module _ (h : i < count_in bs) where
      pub line-fits : at + 300 ≤ length after
      line-fits = omega (arith, can.large, listed-length, listed.short, (held bs can.opened.holds).few)

      pub listed_more : (end : ℕ) (next : List ℕ) (n : ℕ) → n ≡ order_entry_in bs i → Put at (line_of bs n) after end next
          → Listed bs out next start end (i + 1)
      listed_more end next n e line =
          let short = line-short bs n (rw e (entry-readable bs out can i h)) in
          record {
            put = put_as _ _ _ _ _ _
                (ap (λ (k : ℕ). lines_before bs i ++ line_of bs k) e ∙ sym (lines_more bs out can i h) ∙ ap (lines_before bs) (sym (add-one i)))
                (put_then _ _ _ _ _ _ _ _ listed.put line (omega (arith, listed.put.place, listed-length, line-fits)));
            short = omega (arith, line.place, listed.short);
          }

-- ---- The whole

listing-parts : (bs : List ℕ) → head_line (size (decode bs)) ++ lines_of bs ≡ listing (decode bs)
unfolding head_line lines_of listing number
listing-parts bs =
    ap (λ (l : List ℕ). 0x6f ∷ 0x72 ∷ 0x64 ∷ 0x65 ∷ 0x72 ∷ 0x20 ∷ l) (append_assoc (number (size (decode bs))) (0xa ∷ []) (lines_of bs))

pub listing-put : (bs out : List ℕ) (can : CanList bs out) (count start end : ℕ) (middle after : List ℕ) → count ≡ count_in bs
    → Put 0 (head_line count) out start middle → Put start (lines_of bs) middle end after → end ≤ 307227 → Put 0 (listing (decode bs)) out end after
listing-put bs out can count start end middle after e head lines short =
    let sized : count ≡ size (decode bs) = e ∙ sym (size-decode bs (held bs can.opened.holds)) in
    put_as _ _ _ _ _ _ (ap (λ (k : ℕ). head_line k ++ lines_of bs) sized ∙ listing-parts bs)
    (put_then _ _ _ _ _ _ _ _ head lines (omega (arith, can.large, head.place, lines.place)))

pub head-short : (count : ℕ) → length (head_line count) ≤ 27
unfolding head_line
head-short count = omega (arith, length-append (number count) (0xa ∷ []), number_short count)
