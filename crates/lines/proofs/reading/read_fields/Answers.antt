use Rattle.std.proofs.Common.{sym, ◌∙◌, arith}
use Rattle.std.proofs.lemmas.Result.{err_from_is_err_and}
use Rattle.lines.proofs.FieldLists.{one_refused}
use Rattle.lines.proofs.reading.read_fields.Goals as goal

pub returns-in_err-number : goal.returns-in_err-number
returns-in_err-number g c =
    let l = c.loop-number in
    let p = err_from_is_err_and c.from_residual.result c.from_residual.ensures.1 in
    rw (p.1, p.2) (sym (l.invariant.read ∙ one_refused g.row.N l.number-index l.number-items l.rest.now _ (omega arith) c.in_err-number.ensures))
