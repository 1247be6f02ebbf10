-- `is_implied` meets its contract: the origin can be read. Assumes nothing.
use mathlib.Core.Path.{◌≡◌, sym, ap, ◌∙◌}
use mathlib.Core.Bool.{not}
use Rattle.arena.proofs.ReadNodes.{has-slot}
use Rattle.view.specs.View.{view_in}
use Rattle.view.proofs.ViewLaws.{readable-origin, seen}
use Rattle.view.proofs.relations.is_implied.Goals as goal

pub origin-origin-requires : goal.origin-origin-requires
origin-origin-requires c =
    has-slot _ _ c.requires.0

pub same_site-requires : goal.same_site-requires
same_site-requires c =
    let origin : c.origin-origin.result ≡ (view_in c.args.arena.now).origin c.args.n =
    c.origin-origin.ensures ∙ sym (seen _ _ c.requires.0).origin in
    (c.requires.0, rw origin (readable-origin _ _ c.requires.0 c.requires.1))

pub returns : goal.returns
returns c =
    let origin : c.origin-origin.result ≡ (view_in c.args.arena.now).origin c.args.n =
    c.origin-origin.ensures ∙ sym (seen _ _ c.requires.0).origin in
    ap not (c.same_site.ensures ∙ ap ((view_in c.args.arena.now).same_site c.args.n) origin)
