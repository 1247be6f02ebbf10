-- `standing::is_before` meets its contract: the first line that differs decides. Assumes nothing.
use mathlib.Core.Path.{◌≡◌, sym, ap₂, ◌∙◌}
use lib.Dec.{ltb}
use Rattle.strength.proofs.VerdictNumbers.{read_same, read-other}
use Rattle.view.specs.View.{view_in}
use Rattle.sorting.proofs.StandingLaws.{rank-decides, depth-decides, sibling-decides, number-decides}
use Rattle.sorting.proofs.standing.is_before.Goals as goal

pub returns-then-rank-other_rank : goal.returns-then-rank-other_rank
returns-then-rank-other_rank c =
    let x = c.rank-rank.ensures in
    let y = c.rank-other_rank.ensures in
    ap₂ ltb x y ∙ sym (rank-decides (view_in c.args.arena.now) c.args.x c.args.y (read-other x y c.if-rank-other_rank.true))

pub returns-then-depth-other_depth : goal.returns-then-depth-other_depth
returns-then-depth-other_depth c =
    let same_rank : let u = view_in c.args.arena.now in u.rank c.args.x ≡ u.rank c.args.y =
    read_same c.rank-rank.ensures c.rank-other_rank.ensures c.if-rank-other_rank.false in
    let x = c.depth-depth.ensures in
    let y = c.depth-other_depth.ensures in
    ap₂ ltb y x
    ∙ sym (depth-decides (view_in c.args.arena.now) c.args.x c.args.y same_rank (read-other y x (λ e. c.if-depth-other_depth.true (sym e))))

pub returns-then-sibling-other_sibling : goal.returns-then-sibling-other_sibling
returns-then-sibling-other_sibling c =
    let same_rank : let u = view_in c.args.arena.now in u.rank c.args.x ≡ u.rank c.args.y =
    read_same c.rank-rank.ensures c.rank-other_rank.ensures c.if-rank-other_rank.false in
    let same-depth : let u = view_in c.args.arena.now in u.depth c.args.y ≡ u.depth c.args.x =
    sym (read_same c.depth-depth.ensures c.depth-other_depth.ensures c.if-depth-other_depth.false) in
    let x = c.sibling-sibling.ensures in
    let y = c.sibling-other_sibling.ensures in
    ap₂ ltb x y
    ∙ sym (sibling-decides (view_in c.args.arena.now) c.args.x c.args.y same_rank same-depth (read-other x y c.if-sibling-other_sibling.true))

pub returns : goal.returns
returns c =
    let same_rank : let u = view_in c.args.arena.now in u.rank c.args.x ≡ u.rank c.args.y =
    read_same c.rank-rank.ensures c.rank-other_rank.ensures c.if-rank-other_rank.false in
    let same-depth : let u = view_in c.args.arena.now in u.depth c.args.y ≡ u.depth c.args.x =
    sym (read_same c.depth-depth.ensures c.depth-other_depth.ensures c.if-depth-other_depth.false) in
    sym (number-decides (view_in c.args.arena.now) c.args.x c.args.y same_rank same-depth
    (read_same c.sibling-sibling.ensures c.sibling-other_sibling.ensures c.if-sibling-other_sibling.false))
