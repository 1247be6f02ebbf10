-- A valid arena, as answers have its bytes, holds a tree. Assumes nothing.
use Rattle.std.proofs.Common.{ℕ, List, get_or, Fits, w8}
use Rattle.model.specs.Arena.{decode}
use Rattle.model.specs.ArenaCalls.{ValidArena}
use Rattle.laws.proofs.StoredLaws.{bytes-by-place}
use Rattle.laws.proofs.Trees.{TreeOf}
use Rattle.certificate.proofs.CertificateChildren.{tree-read}

pub tree_held : {bs : List ℕ} → ((k : ℕ) → Fits w8 (get_or bs k 0)) → ValidArena bs → TreeOf (decode bs)
tree_held {bs} bytes opened = tree-read bs (bytes-by-place bs (λ k. (bytes k).fits)) opened
