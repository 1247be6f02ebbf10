-- What a store to the header leaves. The header's fields are read by model/specs/Arena.antt's
-- `count_in`, `ordered_in`, `finalized_in`, `shallow_in` and `local_root_in`; their bytes are the parts
-- of its `header_bytes` and `root_stored`.
use Rattle.std.specs.Prelude.{Bool, List, [], ◌∷◌, ℕ}
use Rattle.model.specs.Bytes.{stored}
use Rattle.model.specs.Lists.{bit}
use Rattle.model.specs.Snapshot.{big_endian}

abbrev pub count_stored : ℕ → List ℕ → List ℕ
count_stored count bs = stored 0 (big_endian 4 count) bs

abbrev pub marks_stored : Bool → Bool → Bool → List ℕ → List ℕ
marks_stored ordered finalized shallow bs = stored 4 (bit ordered ∷ bit finalized ∷ bit shallow ∷ []) bs

abbrev pub local_root_stored : ℕ → List ℕ → List ℕ
local_root_stored root bs = stored 8 (big_endian 4 root) bs
