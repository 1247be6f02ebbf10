-- `read_element` meets its contract: a brace opens a selection, a name follows a slash or stands
-- straight after a selection, and nothing else goes on. Assumes nothing.
use Rattle.path.proofs.ReadingLaws.{element-selection, element-bare, no-element}
use Rattle.std.specs.Prelude.{Some, None}
use Rattle.path.proofs.scan.read_element.Goals as goal

pub returns-then-b-eq123 : goal.returns-then-b-eq123
returns-then-b-eq123 c =
    element-selection c.args.path.now c.args.selected c.args.at c.requires.at_in_bounds c.if-b-eq123.true (Some c.in_ok-read_selection.field-0) c.in_ok-read_selection.ensures

pub returns-in_err-read_selection : goal.returns-in_err-read_selection
returns-in_err-read_selection c =
    rw c.from_residual.ensures
    (element-selection c.args.path.now c.args.selected c.args.at c.requires.at_in_bounds c.if-b-eq123.true None c.in_err-read_selection.ensures)

pub returns-in_err-read_name : goal.returns-in_err-read_name
returns-in_err-read_name c =
    rw (c.from_residual-in_err-read_name.ensures, c.if-selected.true) (element-bare c.args.path.now c.args.at c.requires.at_in_bounds c.if-b-eq123.false None c.in_err-read_name.ensures)

pub returns : goal.returns
returns c =
    rw c.if-selected.false (no-element c.args.path.now c.args.at c.requires.at_in_bounds (c.requires.stops c.if-selected.false) c.if-b-eq123.false c.if-b-eq47.false)
