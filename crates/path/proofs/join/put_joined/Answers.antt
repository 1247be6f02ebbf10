-- `put_joined` meets its contract: path, slash and name, each over what the last left. Assumes
-- nothing.
use native.Mathlib.Omega.{arith}
use mathlib.Core.Path.{◌∙◌, ap}
use Prim.Native.Nat.{ℕ, ◌+◌}
use lib.ListN.{length-set, length, take, drop, set}
use Rattle.path.proofs.JoinLaws.{put-name}
use native.Mathlib.Nat.{zero-add}
use mathlib.Core.List.{List, ◌++◌}
use Rattle.model.specs.Bytes.{stored}
use Rattle.model.specs.Path.{solidus}
use Rattle.path.proofs.join.put_joined.Goals as goal

pub write_bytes-requires-2 : goal.write_bytes-requires-2
write_bytes-requires-2 c =
    simp length-set (omega (arith, c.write_bytes.auto, c.requires))

pub shape_of-out : goal.shape_of-out
shape_of-out c =
    c.write_bytes-2.auto.out ∙ length-set c.write_bytes.new.out (length c.args.path.now) solidus
    ∙ c.write_bytes.auto.out

pub returns : goal.returns
unfolding stored
returns c =
    let path = c.args.path.now in
    let name = c.args.name.now in
    let at = c.args.at in
    let out = c.args.out.now in
    c.write_bytes-2.ensures
    ∙ ap (λ (l : List ℕ). take at (set l (length path) solidus) ++ (name ++ drop (at + length name) (set l (length path) solidus)))
    (c.write_bytes.ensures ∙ ap (λ (k : ℕ). path ++ drop k out) (zero-add (length path)))
    ∙ put-name path name out at c.requires.0 c.requires.1 c.requires.2
