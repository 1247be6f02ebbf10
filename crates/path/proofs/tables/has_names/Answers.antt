-- `has_names` meets its contract: the number that the reading ends with has the names and a state
-- in which a path may end. Assumes nothing.
use mathlib.Core.Path.{◌≡◌, sym, ap, ◌∙◌}
use native.Mathlib.Omega.{arith}
use borrow.Author.Tests.{eq-eqb, ne_eqb}
use Rattle.model.specs.Path.{count_prims}
use Rattle.path.proofs.ReadingLaws.{unrooted-fails, only-root, rooted, count-prims-reads}
use Rattle.path.specs.Tables.{ends_as, is_names}
use Rattle.path.proofs.PathTables.{other-names, names-end}
use Rattle.path.proofs.tables.has_names.Goals as goal

pub returns-then-path-ne47 : goal.returns-then-path-ne47
returns-then-path-ne47 c =
    ap (is_names c.args.names) (unrooted-fails c.args.path.now c.if-path-ne47.true ∙ count-prims-reads c.args.path.now c.requires.in_bounds.1)

pub returns-then-path-eq1 : goal.returns-then-path-eq1
returns-then-path-eq1 c =
    ap (is_names c.args.names) (only-root c.args.path.now c.if-path-eq1.true c.if-path-ne47.false ∙ count-prims-reads c.args.path.now c.requires.in_bounds.1)

pub returns-then-word-names : goal.returns-then-word-names
returns-then-word-names c =
    let counted : count_prims c.args.path.now ≡ ends_as c.read_behind_slash-word.result =
    sym (c.read_behind_slash-word.ensures.same ∙ sym (rooted c.args.path.now (omega (arith, c.if-path-eq1.false, c.requires.in_bounds.0)) c.if-path-ne47.false)
    ∙ count-prims-reads c.args.path.now c.requires.in_bounds.1) in
    sym (ap (is_names c.args.names) counted ∙ other-names _ c.args.names c.if-word-names.true)

pub returns-then-end-eq14 : goal.returns-then-end-eq14
returns-then-end-eq14 c =
    let counted : count_prims c.args.path.now ≡ ends_as c.read_behind_slash-word.result =
    sym (c.read_behind_slash-word.ensures.same ∙ sym (rooted c.args.path.now (omega (arith, c.if-path-eq1.false, c.requires.in_bounds.0)) c.if-path-ne47.false)
    ∙ count-prims-reads c.args.path.now c.requires.in_bounds.1) in
    sym (ap (is_names c.args.names) counted ∙ names-end _ c.args.names c.if-word-names.false ∙ rw (eq-eqb _ _ c.if-end-eq14.true))

pub returns : goal.returns
returns c =
    let counted : count_prims c.args.path.now ≡ ends_as c.read_behind_slash-word.result =
    sym (c.read_behind_slash-word.ensures.same ∙ sym (rooted c.args.path.now (omega (arith, c.if-path-eq1.false, c.requires.in_bounds.0)) c.if-path-ne47.false)
    ∙ count-prims-reads c.args.path.now c.requires.in_bounds.1) in
    sym (ap (is_names c.args.names) counted ∙ names-end _ c.args.names c.if-word-names.false ∙ rw (ne_eqb _ _ c.if-end-eq14.false))
