-- `append_child_name` meets its contract: the questions in their order, and then the bytes. Assumes
-- nothing.
use Rattle.std.specs.Prelude.{Ok}
use native.Mathlib.Omega.{arith}
use Rattle.path.proofs.JoiningLaws.{joinable-short, refused-size, refused-path, refused-capacity, joinable, joinable-named, accepted}
use Rattle.path.proofs.JoinLaws.{length-append-name}
use mathlib.Core.Path.{refl, ◌∙◌, sym, ◌≡◌, ap}
use borrow.Author.Tests.{not-true, not-false}
use Prim.Native.Nat.{ℕ, ◌+◌}
use mathlib.Core.Bool.{true}
use mathlib.Core.List.{List, ◌++◌}
use lib.ListN.{length, drop}
use Rattle.model.specs.Path.{last_name, append_name}
use Rattle.path.proofs.append_child_name.Goals as goal

pub returns-then-out-ne255 : goal.returns-then-out-ne255
returns-then-out-ne255 c =
    record { value = refused-size c.args.path.now c.args.child.now c.args.out.now c.if-out-ne255.true; out_after = refl }

pub returns-then-not-can_join : goal.returns-then-not-can_join
returns-then-not-can_join c =
    record { value = refused-path c.args.path.now c.args.child.now c.args.out.now c.if-out-ne255.false (sym c.can_join.ensures ∙ not-true _ c.if-not-can_join.true-raw); out_after = refl }

pub overflow_add-end : goal.overflow_add-end
overflow_add-end c =
    let joins : joinable c.args.path.now c.args.child.now ≡ true =
    sym c.can_join.ensures ∙ not-false _ c.if-not-can_join.false-raw in
    let ends : c.joint-at.result + length c.last_name-name.result.now ≡ length (append_name c.args.path.now (last_name c.args.child.now)) =
    omega (arith, c.joint-at.ensures, ap length c.last_name-name.ensures, length-append-name c.args.path.now (last_name c.args.child.now)) in
    omega (arith, ends, joinable-short c.args.path.now c.args.child.now joins)

pub returns-then-end-gt255 : goal.returns-then-end-gt255
returns-then-end-gt255 c =
    let joins : joinable c.args.path.now c.args.child.now ≡ true =
    sym c.can_join.ensures ∙ not-false _ c.if-not-can_join.false-raw in
    let ends : c.joint-at.result + length c.last_name-name.result.now ≡ length (append_name c.args.path.now (last_name c.args.child.now)) =
    omega (arith, c.joint-at.ensures, ap length c.last_name-name.ensures, length-append-name c.args.path.now (last_name c.args.child.now)) in record { value = refused-capacity c.args.path.now c.args.child.now c.args.out.now c.if-out-ne255.false joins (omega (arith, ends)); out_after = refl }

pub put_joined-requires : goal.put_joined-requires
put_joined-requires c =
    let joins : joinable c.args.path.now c.args.child.now ≡ true =
    sym c.can_join.ensures ∙ not-false _ c.if-not-can_join.false-raw in (
      c.joint-at.ensures,
      rw c.last_name-name.ensures (joinable-named c.args.path.now c.args.child.now joins),
      omega (arith, c.if-end-gt255.false, c.if-out-ne255.false),
    )

pub returns : goal.returns
returns c =
    let joins : joinable c.args.path.now c.args.child.now ≡ true =
    sym c.can_join.ensures ∙ not-false _ c.if-not-can_join.false-raw in
    let ends : c.joint-at.result + length c.last_name-name.result.now ≡ length (append_name c.args.path.now (last_name c.args.child.now)) =
    omega (arith, c.joint-at.ensures, ap length c.last_name-name.ensures, length-append-name c.args.path.now (last_name c.args.child.now)) in record {
      value = ap Ok ends
          ∙ accepted c.args.path.now c.args.child.now c.args.out.now c.if-out-ne255.false joins (omega (arith, ends, c.if-end-gt255.false));
      out_after = c.put_joined.ensures
          ∙ ap (λ (l : List ℕ). append_name c.args.path.now l ++ drop (c.joint-at.result + length c.last_name-name.result.now) c.args.out.now)
          c.last_name-name.ensures;
    }
