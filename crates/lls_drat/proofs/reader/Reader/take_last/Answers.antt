use Rattle.std.proofs.Common.{◌≡◌, ◌<◌, false, length, Some, None, ap, ◌∙◌, arith}
use Rattle.std.proofs.lemmas.Bool.Decides.{nat_tests}
use Rattle.lls_drat.specs.Reading.{Reading, has_end}
use Rattle.lls_drat.proofs.ReaderParts.{ends, taken_last, passed_on}
use Rattle.lls_drat.proofs.reader.Reader.take_last.Goals as goal

pub returns-in_err-kind-clause-fault : goal.returns-in_err-kind-clause-fault
returns-in_err-kind-clause-fault c = λ fault e.
    let r = c.self.inside in
    let none : has_end r.form r.waiting.bytes ≡ false = ap (λ (g : Reading). has_end g.form g.rest) c.self.view_is ∙ c.requires in
    let some : 0 < length c.bytes-bytes.result.now = grind (arith, nat_tests) in
    let read = c.in_err-kind.ensures fault (passed_on c.from_residual.result c.in_err-kind.field-0.0 fault c.from_residual.ensures.1 e) in
    rw (← c.self.view_is) (ends r.form r.waiting c.bytes-bytes.result.now r.count r.before r.lits.items _ c.bytes-bytes.ensures some none read)

pub returns-clause-none : goal.returns-clause-none
returns-clause-none c = λ e.
    let r = c.self.inside in
    let none : has_end r.form r.waiting.bytes ≡ false = ap (λ (g : Reading). has_end g.form g.rest) c.self.view_is ∙ c.requires in
    let some : 0 < length c.bytes-bytes.result.now = grind (arith, nat_tests) in
    let is : c.in_ok-kind.kind ≡ None = cc in
    let read = rw is at c.in_ok-kind.ensures in
    rw (← c.self.view_is) (ends r.form r.waiting c.bytes-bytes.result.now r.count r.before r.lits.items _ c.bytes-bytes.ensures some none read)

pub returns-clause-lemma : goal.returns-clause-lemma
returns-clause-lemma c = λ kind e.
    let r = c.self.inside in
    let none : has_end r.form r.waiting.bytes ≡ false = ap (λ (g : Reading). has_end g.form g.rest) c.self.view_is ∙ c.requires in
    let some : 0 < length c.bytes-bytes.result.now = grind (arith, nat_tests) in
    let is : c.in_ok-kind.kind ≡ Some kind = cc in
    let read = rw is at c.in_ok-kind.ensures in
    rw (← c.self.view_is) (taken_last r.form r.waiting c.take.new.self c.bytes-bytes.result.now r.count r.before r.lits.items c.read_tail.new.lits.items kind c.bytes-bytes.ensures some none read c.take.ensures)
