-- `read_snapshot` meets its contract: refused by either pass that asks, the arena keeps its bytes;
-- else it is filled. Assumes nothing.
use Rattle.std.proofs.lemmas.Result.{err_from_is_err_and}
use mathlib.Core.Path.{refl, sym}
use Rattle.snapshot.proofs.ReaderLaws.{exact_read, not-exact, refused-read, filled-read}
use Rattle.snapshot.proofs.reader.read_snapshot.Goals as goal

pub returns-in_err-count : goal.returns-in_err-count
returns-in_err-count c =
    let p = err_from_is_err_and c.from_residual.result c.from_residual.ensures.1 in
    rw (p.1, p.2) (
    not-exact c.args.bytes.now c.args.arena.now _ (sym c.in_err-count.ensures))

pub check_records-requires : goal.check_records-requires
check_records-requires c =
    record { exact = exact_read c.args.bytes.now _ (sym c.in_ok-count.ensures); prims_len = refl }

pub returns-in_err-check_records : goal.returns-in_err-check_records
returns-in_err-check_records c =
    let p = err_from_is_err_and c.from_residual-in_err-check_records.result c.from_residual-in_err-check_records.ensures.1 in
    rw (p.1, p.2) (
    refused-read c.args.bytes.now _ c.args.arena.now _ c.in_err-check_records.ensures)

pub fill-requires : goal.fill-requires
fill-requires c =
    record {
      whole = c.requires;
      exact = exact_read c.args.bytes.now _ (sym c.in_ok-count.ensures);
      accepted = sym c.in_ok-check_records.ensures.refused;
      named = c.in_ok-check_records.ensures.named refl;
      long = c.check_records.auto.prims;
    }

pub returns : goal.returns
returns c =
    filled-read c.args.bytes.now c.args.arena.now _ _ (exact_read c.args.bytes.now _ (sym c.in_ok-count.ensures))
    (sym c.in_ok-check_records.ensures.refused) c.fill.ensures
