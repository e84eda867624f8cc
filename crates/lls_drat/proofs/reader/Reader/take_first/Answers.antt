use Rattle.std.proofs.Common.{◌≡◌, sym, ap, ◌∙◌}
use Rattle.lls_drat.proofs.ReaderParts.{taken_of, taken_first, meets_first, passed_on}
use Rattle.lls_drat.proofs.reader.Reader.take_first.Goals as goal
use Rattle.lls_drat.proofs.reader.Reader.take_first.Goals.{in-Some-kind, in-None}

pub returns-in_err-kind-clause-fault : goal.returns-in_err-kind-clause-fault
returns-in_err-kind-clause-fault c = λ fault e.
    let r = c.self.inside in
    let w = r.waiting in
    let read = c.in_err-kind.ensures fault (passed_on c.from_residual.result c.in_err-kind.field-0.0 fault c.from_residual.ensures.1 e) in
    rw (← c.self.view_is) (meets_first r.form w c.first_len.new.self c.bytes.result.now r.count r.before c.in-Some.len r.lits.items fault c.self.invariant.end c.first_len.ensures.same c.bytes.ensures c.in-Some.ensures.found read)

pub returns-clause-came : goal.returns-clause-came
returns-clause-came c =
    let r = c.self.inside in
    let w = r.waiting in
    let is : c.match-kind.result ≡ taken_of c.in_ok-kind.kind = elim c.match-kind.branch [ in-Some-kind v ↦ v.result-is ∙ sym (ap taken_of v.in-Some-kind.is) | in-None v ↦ v.result-is ∙ sym (ap taken_of v.in-None.is) ] in
    rw (← c.self.view_is) (taken_first r.form w c.first_len.new.self c.take.new.self c.bytes.result.now r.count r.before c.in-Some.len r.lits.items c.read_piece.new.lits.items c.in_ok-kind.kind c.match-kind.result c.self.invariant.end c.first_len.ensures.same c.bytes.ensures c.take.ensures c.in-Some.ensures.found c.in_ok-kind.ensures is)
