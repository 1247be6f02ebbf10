-- The bytes of a graph, put into bytes, are bytes: `bytes-encode`. Assumes nothing.
use mathlib.Core.Bool.{Bool, true, false, cond}
use mathlib.Core.List.{List, [], ◌∷◌, ◌++◌}
use Prim.Native.Nat.{ℕ, zero, suc, ◌+◌, ◌≤◌, ◌<◌}
use native.Mathlib.Omega.{arith}
use lib.Dec.{eqb}
use lib.ListN.{length}
use Rattle.model.specs.Bytes.{stored}
use Rattle.model.specs.Lists.{bit}
use Rattle.model.specs.Node.{Node}
use Rattle.model.specs.Graph.{Graph, size, node_at, children_of}
use Rattle.model.specs.Snapshot.{big_endian, record_body}
use Rattle.model.specs.Arena.{slot_at, first_of, last_of, after_in, local_root_of, link_bytes, site_bytes, slots_stored, order_stored, header_bytes, root_stored, encode}
use Rattle.laws.proofs.BigEndianLaws.{Bytes, big-endian-bytes}
use Rattle.laws.proofs.StoredLaws.{bytes-stored}
use Rattle.laws.proofs.ListLaws.{all_append}
use Rattle.laws.proofs.PathLaws.{prim-count-half}
use Rattle.laws.proofs.SnapshotLaws.{FieldsFit, record-bytes}
use Rattle.arena.proofs.Encodable.{Encodable, fit_at}

bytes-append : (xs ys : List ℕ) → Bytes xs → Bytes ys → Bytes (xs ++ ys)
bytes-append = all_append (λ b. b < 256)

bit_byte : (t : Bool) → bit t < 256
bit_byte true = omega arith
bit_byte false = omega arith

order-bytes : (ns : List ℕ) (at : ℕ) (bs : List ℕ) → Bytes bs → Bytes (order_stored ns at bs)
order-bytes [] at bs h = h
order-bytes (n ∷ ns) at bs h =
    order-bytes ns (suc at) (stored (slot_at at + 12) (big_endian 4 n) bs) (bytes-stored (slot_at at + 12) (big_endian 4 n) bs (big-endian-bytes 4 n) h)

module _ (g : Graph) where
  header-bytes : Bytes (header_bytes g)
  header-bytes =
      bytes-append (big_endian 4 (size g)) (bit g.ordered ∷ bit g.finalized ∷ bit g.shallow ∷ []) (big-endian-bytes 4 (size g))
      (bit_byte g.ordered, (bit_byte g.finalized, (bit_byte g.shallow, tt)))

  root-bytes : (bs : List ℕ) → Bytes bs → Bytes (root_stored g bs)
  root-bytes bs h = go (eqb (size g) 0)
    where
      go : (t : Bool) → Bytes (cond t bs (stored 8 (big_endian 4 (local_root_of g.nodes)) bs))
      go true = h
      go false = bytes-stored 8 (big_endian 4 (local_root_of g.nodes)) bs (big-endian-bytes 4 (local_root_of g.nodes)) h

  link-bytes : (n : ℕ) → Bytes (link_bytes g n)
  link-bytes n =
      bytes-append (big_endian 4 (first_of (children_of g n))) (big_endian 4 last ++ big_endian 4 next) (big-endian-bytes 4 (first_of (children_of g n)))
      (bytes-append (big_endian 4 last) (big_endian 4 next) (big-endian-bytes 4 last) (big-endian-bytes 4 next))
    where
      last : ℕ
      last = last_of (children_of g n)

      next : ℕ
      next = after_in n (children_of g (node_at g.nodes n).parent)

  module _ (ok : Encodable g) where
    site-bytes : (n : ℕ) → n < size g → Bytes (site_bytes g n)
    site-bytes n h =
        let x : Node = node_at g.nodes n in
        let fits : FieldsFit x = fit_at g.nodes ok.fit n h in (
          omega (arith, prim-count-half x.path, fits.path-short),
          bytes-append (big_endian 2 (length (record_body x))) (record_body x) (big-endian-bytes 2 (length (record_body x))) (record-bytes x fits.path_bytes),
        )

    slots-bytes : (n : ℕ) → n ≤ size g → (bs : List ℕ) → Bytes bs → Bytes (slots_stored g n bs)
    slots-bytes zero l bs h = h
    slots-bytes (suc n) l bs h =
        bytes-stored (slot_at n + 16) (site_bytes g n) (stored (slot_at n) (link_bytes g n) (slots_stored g n bs)) (site-bytes n (omega arith))
        (bytes-stored (slot_at n) (link_bytes g n) (slots_stored g n bs) (link-bytes n) (slots-bytes n (omega arith) bs h))

    pub bytes-encode : (bs : List ℕ) → Bytes bs → Bytes (encode g bs)
    unfolding encode
    bytes-encode bs h =
        order-bytes g.order 0 (slots_stored g (size g) (root_stored g (stored 0 (header_bytes g) bs)))
        (slots-bytes (size g) (omega arith) (root_stored g (stored 0 (header_bytes g) bs))
        (root-bytes (stored 0 (header_bytes g) bs) (bytes-stored 0 (header_bytes g) bs header-bytes h)))
