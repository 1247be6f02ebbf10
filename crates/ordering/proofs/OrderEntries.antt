-- The entries of the order in an arena: those of its graph (`order-entries`, `entry_read`), and
-- their bytes, which grow at the end by an entry (`Listed`). Assumes nothing.
use mathlib.Core.Path.{◌≡◌, refl, sym, ap, ◌∙◌}
use mathlib.Core.Bool.{true}
use mathlib.Core.List.{List, [], ◌∷◌, ◌++◌, append_assoc, append-nil}
use Prim.Native.Nat.{ℕ, zero, suc, ◌+◌, ◌*◌, ◌≤◌, ◌<◌}
use native.Mathlib.Nat.{add-zero, zero-add}
use native.Mathlib.Numerals.{add-one}
use native.Mathlib.Omega.{arith}
use lib.Dec.{eqb}
use lib.ListN.{length, get_or, length-append}
use Rattle.model.specs.Bytes.{stored}
use Rattle.model.specs.Snapshot.{big_endian}
use Rattle.model.specs.Arena.{count_in, ordered_in, order_entry_in, tabulate, decode}
use Rattle.model.specs.ArenaCalls.{ValidArena}
use Rattle.laws.proofs.StoredLaws.{stored_next}
use Rattle.arena.proofs.HeldArenas.{held}
use Rattle.arena.proofs.TabulateLaws.{tabulate-length, tabulate-at}
use Rattle.ordering.specs.OrderReading.{order_bytes, entries_in}

-- ---- The order of an ordered graph

pub ordered-read : (bs : List ℕ) → eqb (ordered_in bs) 1 ≡ (decode bs).ordered
unfolding decode
ordered-read bs = refl

module _ (bs : List ℕ) (e : (decode bs).ordered ≡ true) where
  pub order-entries : (decode bs).order ≡ entries_in bs
  unfolding decode
  order-entries = rw e

  pub order-length : length (decode bs).order ≡ count_in bs
  order-length = ap length order-entries ∙ tabulate-length (order_entry_in bs) 0 (count_in bs)

  pub entry_read : (place : ℕ) → place < count_in bs → get_or (decode bs).order place 0 ≡ order_entry_in bs place
  entry_read place h =
      ap (λ (l : List ℕ). get_or l place 0) order-entries ∙ tabulate-at (order_entry_in bs) 0 (count_in bs) place h

-- ---- Their bytes

order-bytes-length : (ns : List ℕ) → length (order_bytes ns) ≡ 4 * length ns
order-bytes-length [] = refl
order-bytes-length (n ∷ ns) = omega (arith, length-append (big_endian 4 n) (order_bytes ns), order-bytes-length ns)

order-bytes-more : (ns : List ℕ) (n : ℕ) → order_bytes (ns ++ (n ∷ [])) ≡ order_bytes ns ++ big_endian 4 n
order-bytes-more [] n = append-nil (big_endian 4 n)
order-bytes-more (m ∷ ns) n =
    ap (λ (l : List ℕ). big_endian 4 m ++ l) (order-bytes-more ns n) ∙ sym (append_assoc (big_endian 4 m) (order_bytes ns) (big_endian 4 n))

tabulate-more : (f : ℕ → ℕ) (at n : ℕ) → tabulate f at (suc n) ≡ tabulate f at n ++ (f (at + n) ∷ [])
tabulate-more f at zero = ap (λ (k : ℕ). f k ∷ []) (sym (add-zero at))
tabulate-more f at (suc n) =
    let next : suc at + n ≡ at + suc n = omega arith in
    ap (λ (l : List ℕ). f at ∷ l) (tabulate-more f (suc at) n) ∙ ap (λ (k : ℕ). f at ∷ (tabulate f (suc at) n ++ (f k ∷ []))) next

-- of the first n entries
abbrev pub bytes_before : List ℕ → ℕ → List ℕ
bytes_before bs n = order_bytes (tabulate (order_entry_in bs) 0 n)

before-length : (bs : List ℕ) (n : ℕ) → length (bytes_before bs n) ≡ 4 * n
before-length bs n =
    order-bytes-length (tabulate (order_entry_in bs) 0 n) ∙ ap (λ (k : ℕ). 4 * k) (tabulate-length (order_entry_in bs) 0 n)

before_more : (bs : List ℕ) (n : ℕ) → bytes_before bs (n + 1) ≡ bytes_before bs n ++ big_endian 4 (order_entry_in bs n)
before_more bs n =
    ap (bytes_before bs) (add-one n) ∙ ap order_bytes (tabulate-more (order_entry_in bs) 0 n)
    ∙ order-bytes-more (tabulate (order_entry_in bs) 0 n) (order_entry_in bs (0 + n))
    ∙ ap (λ (k : ℕ). bytes_before bs n ++ big_endian 4 (order_entry_in bs k)) (zero-add n)

-- ---- The loop that writes them

-- n entries are written
abbrev pub Listed : List ℕ → List ℕ → List ℕ → ℕ → Type 0
Listed bs before after n = after ≡ stored 0 (bytes_before bs n) before

module _ (bs out : List ℕ) (o : ValidArena bs) (large : length out ≡ 4096) where
  pub few : count_in bs ≤ 1024
  few = (held bs o.holds).few

  pub listed-none : Listed bs out out 0
  unfolding stored
  listed-none = refl

  module _ (after : List ℕ) (n : ℕ) (listed : Listed bs out after n) where
    pub listed_more : n < count_in bs → (next : List ℕ) → next ≡ stored (4 * n) (big_endian 4 (order_entry_in bs n)) after → Listed bs out next (n + 1)
    listed_more h next q =
        let entry = big_endian 4 (order_entry_in bs n) in
        let place : 4 * n ≡ 0 + length (bytes_before bs n) = omega (arith, before-length bs n) in
        q ∙ ap (λ (k : ℕ). stored k entry after) place ∙ ap (stored (0 + length (bytes_before bs n)) entry) listed
        ∙ stored_next 0 (bytes_before bs n) entry out (omega (arith, before-length bs n, few))
        ∙ ap (λ (l : List ℕ). stored 0 l out) (sym (before_more bs n))
