-- Storing some links of one slot: what a store of all three leaves where the others are there
-- already (`next-alone`, `ends-alone`), and over links that were stored before (`next-over`,
-- `ends-over`). Assumes nothing.
use mathlib.Core.Path.{◌≡◌, sym, ap, ◌∙◌}
use mathlib.Core.List.{List, ◌++◌}
use Prim.Native.Nat.{ℕ, ◌+◌, ◌≤◌, ◌<◌}
use native.Mathlib.Omega.{arith}
use lib.ListN.{length}
use Rattle.model.specs.Bytes.{stored}
use Rattle.model.specs.Snapshot.{big_endian}
use Rattle.model.specs.Arena.{arena_bytes, slot_at, first_child_in, last_child_in, next_sibling_in}
use Rattle.laws.proofs.BigEndianLaws.{Bytes}
use Rattle.laws.proofs.StoredLaws.{length-stored, stored-field-same, stored-apart, stored_next, stored-again}
use Rattle.child_lists.specs.Links.{next_stored, ends_stored}

-- a slot's links
abbrev pub three : ℕ → ℕ → ℕ → List ℕ
three first last next = big_endian 4 first ++ (big_endian 4 last ++ big_endian 4 next)

abbrev two : ℕ → ℕ → List ℕ
two first last = big_endian 4 first ++ big_endian 4 last

module _ (at : ℕ) (s : List ℕ) (fits : at + 12 ≤ length s) where
  split : (f l x : ℕ) → stored at (three f l x) s ≡ stored (at + 8) (big_endian 4 x) (stored at (two f l) s)
  split f l x = sym (stored_next at (two f l) (big_endian 4 x) s (omega arith))

  two-length : (f l : ℕ) → length (stored at (two f l) s) ≡ length s
  two-length f l = length-stored at (two f l) s (omega arith)

  pub next-over : (f l x y : ℕ) → stored (at + 8) (big_endian 4 y) (stored at (three f l x) s) ≡ stored at (three f l y) s
  next-over f l x y =
      ap (stored (at + 8) (big_endian 4 y)) (split f l x)
      ∙ stored-again (at + 8) (big_endian 4 x) (big_endian 4 y) (stored at (two f l) s) (omega arith) (omega (arith, two-length f l)) ∙ sym (split f l y)

  pub ends-over : (f l x a b : ℕ) → stored at (two a b) (stored at (three f l x) s) ≡ stored at (three a b x) s
  ends-over f l x a b =
      ap (stored at (two a b)) (split f l x)
      ∙ sym (stored-apart at (two a b) (at + 8) (big_endian 4 x) (stored at (two f l) s) (omega arith) (omega (arith, two-length f l)))
      ∙ ap (stored (at + 8) (big_endian 4 x)) (stored-again at (two f l) (two a b) s (omega arith) (omega arith)) ∙ sym (split a b x)

module _ (bs : List ℕ) (bytes : Bytes bs) (n : ℕ) (whole : length bs ≡ arena_bytes) (few : n < 1024) (f l x : ℕ) where
  pub next-alone : f ≡ first_child_in bs n → l ≡ last_child_in bs n → stored (slot_at n) (three f l x) bs ≡ next_stored n x bs
  next-alone e d =
      split (slot_at n) bs (omega arith) f l x
      ∙ ap (stored (slot_at n + 8) (big_endian 4 x))
      (sym (stored_next (slot_at n) (big_endian 4 f) (big_endian 4 l) bs (omega arith))
      ∙ ap (stored (slot_at n + 4) (big_endian 4 l))
      (ap (λ (k : ℕ). stored (slot_at n) (big_endian 4 k) bs) e ∙ stored-field-same (slot_at n) 4 bs bytes (omega arith))
      ∙ ap (λ (k : ℕ). stored (slot_at n + 4) (big_endian 4 k) bs) d ∙ stored-field-same (slot_at n + 4) 4 bs bytes (omega arith))

  pub ends-alone : x ≡ next_sibling_in bs n → stored (slot_at n) (three f l x) bs ≡ ends_stored n f l bs
  ends-alone e =
      split (slot_at n) bs (omega arith) f l x ∙ stored-apart (slot_at n) (two f l) (slot_at n + 8) (big_endian 4 x) bs (omega arith) (omega arith)
      ∙ ap (stored (slot_at n) (two f l))
      (ap (λ (k : ℕ). stored (slot_at n + 8) (big_endian 4 k) bs) e ∙ stored-field-same (slot_at n + 8) 4 bs bytes (omega arith))
