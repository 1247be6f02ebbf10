-- `spares_one` meets its contract: a node that stays, then one that goes. Assumes nothing.
use native.Mathlib.Omega.{arith}
use Rattle.model.specs.Arena.{decode}
use Rattle.arena.proofs.ReadNodes.{has-slot}
use Rattle.view.proofs.ViewLaws.{readable-parent, readable-origin}
use Rattle.erasing.proofs.AcceptLaws.{accepts-node-0, refuses-parent, accepts-origin, refuses-other, accepts-gone}
use Rattle.erasing.proofs.sets.spares_one.Goals as goal

pub bounds-set-n : goal.bounds-set-n
bounds-set-n c =
    omega (arith, c.requires.set_len, (has-slot _ _ c.requires.valid_node).within)

pub returns-then-n-eq0 : goal.returns-then-n-eq0
returns-then-n-eq0 c =
    accepts-node-0 (decode c.args.arena.now) c.args.set.now c.args.n c.if-byte-eq0.true c.if-n-eq0.true

pub bounds-set-parent : goal.bounds-set-parent
bounds-set-parent c =
    let some = c.if-n-eq0.false in
    omega (arith, c.requires.set_len, c.parent-parent.ensures, (has-slot _ _ (readable-parent _ _ c.requires.valid_node (omega arith))).within)

pub returns-then-set-parent-ne0 : goal.returns-then-set-parent-ne0
returns-then-set-parent-ne0 c =
    refuses-parent (decode c.args.arena.now) c.args.set.now c.args.n c.parent-parent.result
    c.if-byte-eq0.true c.if-n-eq0.false c.parent-parent.ensures c.if-set-parent-ne0.true

pub bounds-set-origin : goal.bounds-set-origin
bounds-set-origin c =
    let some = c.if-n-eq0.false in
    omega (arith, c.requires.set_len, c.origin-origin.ensures, (has-slot _ _ (readable-origin _ _ c.requires.valid_node (omega arith))).within)

pub returns-then-byte-eq0 : goal.returns-then-byte-eq0
returns-then-byte-eq0 c =
    accepts-origin (decode c.args.arena.now) c.args.set.now c.args.n c.parent-parent.result c.origin-origin.result
    c.if-byte-eq0.true c.if-n-eq0.false
    c.parent-parent.ensures c.if-set-parent-ne0.false c.origin-origin.ensures

pub returns-then-byte-gt1 : goal.returns-then-byte-gt1
returns-then-byte-gt1 c =
    refuses-other (decode c.args.arena.now) c.args.set.now c.args.n c.if-byte-gt1.true

pub returns : goal.returns
returns c =
    accepts-gone (decode c.args.arena.now) c.args.set.now c.args.n c.arc.result c.if-byte-eq0.false c.if-byte-gt1.false c.arc.ensures
