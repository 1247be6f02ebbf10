-- The loop that filters the order: `Filtering`, with its two steps and its end; and that a graph
-- without an order has none (`filtered-none`). Assumes nothing.
use mathlib.Core.Path.{◌≡◌, sym, ap, ◌∙◌}
use mathlib.Core.Bool.{true}
use mathlib.Core.List.{List, [], ◌∷◌}
use Prim.Native.Nat.{ℕ, suc, ◌+◌, ◌≤◌, ◌<◌}
use native.Mathlib.Numerals.{add-one}
use native.Mathlib.Omega.{arith}
use lib.ListN.{length, get_or, set, drop, drop_of_length-le}
use lib.Seq.{slice, drop-cons}
use borrow.Author.Tests.{eq-eqb, ne_eqb}
use Rattle.model.specs.Graph.{size}
use Rattle.model.specs.Arena.{count_in, ordered_in, order_entry_in, tabulate, decode}
use Rattle.model.specs.ArenaCalls.{ValidArena, ValidNode}
use Rattle.model.specs.Erasing.{stays, new_number, erase}
use Rattle.laws.proofs.EraseLaws.{order-erased}
use Rattle.arena.proofs.TabulateLaws.{tabulate-length, tabulate-at}
use Rattle.arena.proofs.HeldArenas.{held}
use Rattle.arena.proofs.HeldEncodable.{order-held}
use Rattle.arena.proofs.ReadNodes.{sizes}
use Rattle.child_lists.proofs.SegmentLaws.{all-place}
use Rattle.erasing.specs.KeptLists.{kept_list}
use Rattle.erasing.proofs.KeepLaws.{Keeping, keeping_start, keeping-room, keeping-kept, keeping_gone, keeping-ends}

-- the entries from n on are left
abbrev pub Filtering : List ℕ → List ℕ → List ℕ → ℕ → ℕ → List ℕ → Type 0
Filtering bs bytes before kept n array = Keeping bytes (decode bs).order 0 before (drop n (decode bs).order) kept array

pub filtered-none : (bs bytes : List ℕ) → (ordered_in bs ≡ 1 → ⊥) → [] ≡ (erase bytes (decode bs)).order
unfolding decode
filtered-none bs bytes e = sym (order-erased (stays bytes) (decode bs) ∙ ap (kept_list bytes) none)
  where
    none : (decode bs).order ≡ []
    none = rw (ne_eqb (ordered_in bs) 1 e)

module _ {bs : List ℕ} (o : ValidArena bs) (ordered : ordered_in bs ≡ 1) where
  order-read : (decode bs).order ≡ tabulate (order_entry_in bs) 0 (count_in bs)
  unfolding decode
  order-read = rw (eq-eqb (ordered_in bs) 1 ordered)

  order-long : length (decode bs).order ≡ count_in bs
  order-long = ap length order-read ∙ tabulate-length (order_entry_in bs) 0 (count_in bs)

  marked : (decode bs).ordered ≡ true
  unfolding decode
  marked = eq-eqb (ordered_in bs) 1 ordered

  entry_read : (n : ℕ) → n < count_in bs → get_or (decode bs).order n 0 ≡ order_entry_in bs n
  entry_read n h = ap (λ (l : List ℕ). get_or l n 0) order-read ∙ tabulate-at (order_entry_in bs) 0 (count_in bs) n h

  -- a marked order has each node once, and so nothing but nodes
  pub entry-readable : {n c : ℕ} → n < count_in bs → c ≡ order_entry_in bs n → ValidNode bs c
  entry-readable {n} {c} h e = record {
    opened = o;
    below =
        omega (
          arith,
          entry_read n h,
          sizes bs o,
          all-place (λ x. x < size (decode bs)) (decode bs).order n (order-held bs (held bs o.holds) marked).nothing-else (omega (arith, order-long)),
        );
  }

  module _ {bytes before : List ℕ} where
    pub filtering-start : length before ≡ 1024 → Filtering bs bytes before 0 0 before
    filtering-start long = keeping_start (omega (arith, order-long, (held bs o.holds).few))

    module _ {kept n : ℕ} {array : List ℕ} (w : Filtering bs bytes before kept n array) where
      module _ (h : n < count_in bs) {c : ℕ} (e : c ≡ order_entry_in bs n) where
        here : Keeping bytes (decode bs).order 0 before (c ∷ drop (suc n) (decode bs).order) kept array
        here =
            let first : get_or (decode bs).order n 0 ≡ c = entry_read n h ∙ sym e in
            rw (drop-cons (decode bs).order n 0 (omega (arith, order-long)), first) at w

        pub filtering-room : kept < length array
        filtering-room = keeping-room here

        pub filtering-kept : {number : ℕ} → get_or bytes c 0 ≡ 0 → number ≡ new_number (stays bytes) c
            → Filtering bs bytes before (kept + 1) (n + 1) (set array kept number)
        filtering-kept stay new = rw (add-one n) (keeping-kept here stay new)

        pub filtering-gone : (get_or bytes c 0 ≡ 0 → ⊥) → Filtering bs bytes before kept (n + 1) array
        filtering-gone go = rw (add-one n) (keeping_gone here go)

      pub filtering-ends : length before ≡ 1024 → count_in bs ≤ n → (kept ≤ 1024) × (slice 0 kept array ≡ (erase bytes (decode bs)).order)
      filtering-ends long h =
          let none = drop_of_length-le (decode bs).order {i = n} (omega (arith, order-long)) in
          let done : Keeping bytes (decode bs).order 0 before [] kept array = rw none at w in
          (omega (arith, done.room), (keeping-ends done).front ∙ sym (order-erased (stays bytes) (decode bs)))
