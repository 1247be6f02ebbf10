-- `weigh_same_root` meets its contract: class depths, hops or the local line differ, or the origins
-- are asked. Assumes nothing.
use mathlib.Core.Path.{◌≡◌, sym, ◌∙◌}
use Rattle.model.specs.Strength.{class_depth}
use Rattle.view.specs.View.{view_in}
use Rattle.strength.proofs.VerdictNumbers.{read_same, read-other, read-smaller}
use Rattle.strength.proofs.SameRootLaws.{RootsAlike, classes-differ, hops-differ, local-less, local-greater, local-passed}
use Rattle.strength.proofs.same_root.weigh_same_root.Goals as goal

pub returns-then-x-y : goal.returns-then-x-y
returns-then-x-y c =
    let x = c.class_depth-x.ensures in
    let y = c.class_depth-y.ensures in
    classes-differ _ _ _ _ (read-other x y c.if-x-y.true) (read-smaller x y c.by_number.ensures)

pub returns-then-ra-rb : goal.returns-then-ra-rb
returns-then-ra-rb c =
    let classes-same : class_depth (view_in c.args.arena.now) c.args.a ≡ class_depth (view_in c.args.arena.now) c.args.b =
    read_same c.class_depth-x.ensures c.class_depth-y.ensures c.if-x-y.false in
    let left = c.requires.1.hops in
    let right = c.requires.2.hops in
    hops-differ _ _ _ _ classes-same (read-other left right c.if-ra-rb.true) (read-smaller right left c.by_number-then-ra-rb.ensures)

pub returns-in-Less : goal.returns-in-Less
returns-in-Less c =
    let classes-same : class_depth (view_in c.args.arena.now) c.args.a ≡ class_depth (view_in c.args.arena.now) c.args.b =
    read_same c.class_depth-x.ensures c.class_depth-y.ensures c.if-x-y.false in
    let alike : RootsAlike (view_in c.args.arena.now) c.args.a c.args.b =
    record { classes = classes-same; hops = read_same c.requires.1.hops c.requires.2.hops c.if-ra-rb.false } in
    local-less _ _ _ _ alike (sym c.local_line.ensures ∙ c.in-Less.is)

pub returns-in-Equal : goal.returns-in-Equal
returns-in-Equal c =
    let classes-same : class_depth (view_in c.args.arena.now) c.args.a ≡ class_depth (view_in c.args.arena.now) c.args.b =
    read_same c.class_depth-x.ensures c.class_depth-y.ensures c.if-x-y.false in
    let alike : RootsAlike (view_in c.args.arena.now) c.args.a c.args.b =
    record { classes = classes-same; hops = read_same c.requires.1.hops c.requires.2.hops c.if-ra-rb.false } in
    local-passed _ _ _ _ alike (sym c.local_line.ensures ∙ c.in-Equal.is) c.ask_origins.ensures

pub returns-in-Greater : goal.returns-in-Greater
returns-in-Greater c =
    let classes-same : class_depth (view_in c.args.arena.now) c.args.a ≡ class_depth (view_in c.args.arena.now) c.args.b =
    read_same c.class_depth-x.ensures c.class_depth-y.ensures c.if-x-y.false in
    let alike : RootsAlike (view_in c.args.arena.now) c.args.a c.args.b =
    record { classes = classes-same; hops = read_same c.requires.1.hops c.requires.2.hops c.if-ra-rb.false } in
    local-greater _ _ _ _ alike (sym c.local_line.ensures ∙ c.in-Greater.is)
