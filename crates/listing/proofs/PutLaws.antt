-- Text put after text is both put (`put_then`, `put-thrice`), and what is put may be named by an
-- equal text (`put_as`). Assumes nothing.
use mathlib.Core.Path.{◌≡◌, ap, ◌∙◌}
use mathlib.Core.List.{List, [], ◌∷◌, ◌++◌, append_assoc}
use Prim.Native.Nat.{ℕ, ◌+◌, ◌≤◌, ◌<◌}
use native.Mathlib.Omega.{arith}
use lib.ListN.{length, length-append}
use Rattle.model.specs.Bytes.{stored}
use Rattle.model.specs.Snapshot.{big_endian}
use Rattle.laws.proofs.StoredLaws.{stored_next}
use Rattle.listing.specs.Texts.{Put}

module _ (at : ℕ) (xs ys before : List ℕ) (mid end : ℕ) (middle after : List ℕ) where
  pub put_then : Put at xs before mid middle → Put mid ys middle end after → at + length xs + length ys ≤ length before
      → Put at (xs ++ ys) before end after
  put_then first second fits = record {
    place = omega (arith, first.place, second.place, length-append xs ys);
    bytes =
        second.bytes ∙ ap (λ (k : ℕ). stored k ys middle) first.place ∙ ap (stored (at + length xs) ys) first.bytes
        ∙ stored_next at xs ys before fits;
  }

pub put_as : (at : ℕ) (xs ys before : List ℕ) (end : ℕ) (after : List ℕ) → xs ≡ ys → Put at xs before end after → Put at ys before end after
put_as at xs ys before end after e put = rw e at put

module _ (at : ℕ) (xs ys zs before : List ℕ) (first second end : ℕ) (middle later after : List ℕ) where
  pub put-thrice : Put at xs before first middle → Put first ys middle second later → Put second zs later end after
      → at + length xs + length ys + length zs ≤ length before → Put at (xs ++ (ys ++ zs)) before end after
  put-thrice p q r fits =
      let both = put_then at xs ys before first second middle later p q (omega arith) in
      put_as at ((xs ++ ys) ++ zs) (xs ++ (ys ++ zs)) before end after (append_assoc xs ys zs)
      (put_then at (xs ++ ys) zs before second end later after both r (omega (arith, length-append xs ys)))

pub byte-own : (x : ℕ) → x < 256 → big_endian 1 x ≡ x ∷ []
byte-own x h = ap (λ (b : ℕ). b ∷ []) (omega arith)
