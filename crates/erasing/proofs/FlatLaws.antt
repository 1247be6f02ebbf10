-- The loop that gathers the child lists of all kept nodes, one after the other: `Listing`, with its
-- two steps and its end. Assumes nothing.
use mathlib.Core.Path.{◌≡◌, sym, ap, ◌∙◌}
use mathlib.Core.Bool.{Bool, true, false}
use mathlib.Core.List.{List, [], ◌∷◌, ◌++◌}
use Prim.Native.Nat.{ℕ, suc, ◌+◌, ◌≤◌, ◌<◌}
use native.Mathlib.Nat.{zero-add}
use native.Mathlib.Numerals.{add-one, one-add}
use native.Mathlib.Omega.{arith}
use lib.ListN.{length, get_or, set, take, length-set, length-append, length-map}
use borrow.Author.Tests.{eq-eqb, ne_eqb}
use Rattle.model.specs.Lists.{pick, filter}
use Rattle.model.specs.Graph.{size, children_of}
use Rattle.model.specs.Strength.{view}
use Rattle.model.specs.Arena.{count_in, decode}
use Rattle.model.specs.ArenaCalls.{ValidArena}
use Rattle.model.specs.Erasing.{stays, new_number, erase}
use Rattle.laws.proofs.EraseLists.{new-number-no-larger}
use Rattle.laws.proofs.EraseLaws.{children-erased}
use Rattle.arena.proofs.HeldArenas.{held}
use Rattle.arena.proofs.ArenaBack.{lists-decode}
use Rattle.arena.proofs.HeldEncodable.{tree-held}
use Rattle.arena.proofs.ReadNodes.{sizes}
use Rattle.child_lists.specs.Links.{flat, Segments}
use Rattle.child_lists.proofs.LinkLaws.{filled_more}
use Rattle.child_lists.proofs.SegmentLaws.{flat-within, segments-made}
use Rattle.erasing.specs.KeptLists.{kept_list, Gathered}

filter-length : (k : ℕ → Bool) (xs : List ℕ) → length (filter k xs) ≤ length xs
filter-length k [] = omega arith
filter-length k (x ∷ xs) = go (k x) (filter-length k xs)
  where
    go : (b : Bool) → length (filter k xs) ≤ length xs → length (pick b (x ∷ filter k xs) (filter k xs)) ≤ suc (length xs)
    go true later = omega arith
    go false later = omega arith

kept-length : (bytes xs : List ℕ) → length (kept_list bytes xs) ≤ length xs
kept-length bytes xs = omega (arith, length-map (filter (stays bytes) xs) (new_number (stays bytes)), filter-length (stays bytes) xs)

-- the child lists after erasing, by new numbers
abbrev lists : List ℕ → List ℕ → ℕ → List ℕ
lists bs bytes = children_of (erase bytes (decode bs))

-- the lists of the kept nodes below n stand up to `start`: no more than all lists of the nodes
-- below n
pub record Listing (bs bytes : List ℕ) (start n : ℕ) (array ends : List ℕ) : Type 0 where
  pub long : length array ≡ 1024
  pub as_long : length ends ≡ 1024
  pub started : start ≡ length (flat (lists bs bytes) (new_number (stays bytes) n))
  pub low : start ≤ length (flat (children_of (decode bs)) n)
  pub front : take start array ≡ flat (lists bs bytes) (new_number (stays bytes) n)
  pub ended : (p : ℕ) → p < new_number (stays bytes) n → get_or ends p 0 ≡ length (flat (lists bs bytes) (suc p))

module _ {bs : List ℕ} (o : ValidArena bs) {bytes : List ℕ} {start n : ℕ} {array ends : List ℕ} (w : Listing bs bytes start n array ends) where
  module _ (here : n < count_in bs) where
    abbrev children : List ℕ
    children = children_of (decode bs) n

    -- each node is in one child list, so all together have room
    pub listing-room : start + length children ≤ 1024
    listing-room =
        omega (
          arith,
          w.low,
          length-append (flat (children_of (decode bs)) n) children,
          flat-within (size (decode bs)) (view (decode bs).nodes).parent (children_of (decode bs)) (tree-held bs (held bs o.holds)) (suc n),
          sizes bs o,
          (held bs o.holds).few,
        )

    module _ (stay : get_or bytes n 0 ≡ 0) {end number : ℕ} {after : List ℕ} (gathered : Gathered (kept_list bytes children) start end array after)
        (new : number ≡ new_number (stays bytes) n) where
      counted : new_number (stays bytes) (suc n) ≡ suc number
      counted = rw (eq-eqb (get_or bytes n 0) 0 stay, new) (one-add (new_number (stays bytes) n))

      list_read : lists bs bytes number ≡ kept_list bytes children
      list_read =
          let facts = held bs o.holds in
          ap (lists bs bytes) new
          ∙ children-erased (stays bytes) (decode bs) (lists-decode bs facts ∙ sym (sizes bs o)) n (omega (arith, sizes bs o)) (eq-eqb (get_or bytes n 0) 0 stay)

      next-length : end ≡ length (flat (lists bs bytes) (suc number))
      next-length =
          omega (
            arith,
            gathered.ended,
            w.started,
            ap (λ (k : ℕ). length (flat (lists bs bytes) k)) new,
            ap length list_read,
            length-append (flat (lists bs bytes) number) (lists bs bytes number),
          )

      next-front : take end after ≡ flat (lists bs bytes) (suc number)
      next-front =
          gathered.front ∙ (λ i. (w.front ∙ ap (flat (lists bs bytes)) (sym new)) i ++ sym list_read i)

      pub listing-kept : Listing bs bytes end (n + 1) after (set ends number end)
      listing-kept =
          rw (add-one n) (record {
            long = gathered.long ∙ w.long;
            as_long = length-set ends number end ∙ w.as_long;
            started = next-length ∙ ap (λ (k : ℕ). length (flat (lists bs bytes) k)) (sym counted);
            low = omega (arith, gathered.ended, w.low, kept-length bytes children, length-append (flat (children_of (decode bs)) n) children);
            front = next-front ∙ ap (flat (lists bs bytes)) (sym counted);
            ended = λ p h. more p (omega (arith, counted));
          })
        where
          more : (p : ℕ) → p < number + 1 → get_or (set ends number end) p 0 ≡ length (flat (lists bs bytes) (suc p))
          more =
              filled_more ends number end (λ p. length (flat (lists bs bytes) (suc p)))
              (omega (arith, new, new-number-no-larger (stays bytes) n, w.as_long, (held bs o.holds).few)) (λ p h. w.ended p (omega (arith, new)))
              next-length

    pub listing-gone : (get_or bytes n 0 ≡ 0 → ⊥) → Listing bs bytes start (n + 1) array ends
    listing-gone goes =
        rw (add-one n) (record {
          long = w.long;
          as_long = w.as_long;
          started = w.started ∙ ap (λ (k : ℕ). length (flat (lists bs bytes) k)) (sym same);
          low = omega (arith, w.low, length-append (flat (children_of (decode bs)) n) children);
          front = w.front ∙ ap (flat (lists bs bytes)) (sym same);
          ended = λ p h. w.ended p (omega (arith, same));
        })
      where
        same : new_number (stays bytes) (suc n) ≡ new_number (stays bytes) n
        same = rw (ne_eqb (get_or bytes n 0) 0 goes) (zero-add (new_number (stays bytes) n))

  pub listing-ends : {count : ℕ} → n ≡ count → Segments (lists bs bytes) (new_number (stays bytes) count) array ends
  listing-ends all =
      rw all at (segments-made (lists bs bytes) (new_number (stays bytes) n) start array ends w.long w.as_long w.front w.ended)
