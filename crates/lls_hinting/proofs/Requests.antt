-- What a request comes to, by the readings of its inputs.
use Rattle.std.proofs.Common.{◌≡◌, ℕ, Bool, true, false, List, [], ◌∷◌, ◌++◌, length, Option, None, Some, refl, sym, ap, subst, ◌∙◌, nat_lt, if◌then◌else◌}
use Rattle.std.specs.Prelude.{Result, Ok, Err}
use Rattle.std.specs.FinMap as map
use Rattle.lls_base.specs.Results.{and_then}
use Rattle.lls_base.specs.Shelf.{Files}
use Rattle.lls_lit.specs.Formula.{Cnf}
use Rattle.lls_drat.specs.declared.form.Form.{Form}
use Rattle.lls_drat.specs.Lemma.{NumberedLemma}
use Rattle.lls_hinting.specs.declared.fault.Fault.{Fault}
use Rattle.lls_hinting.specs.declared.fault.Fault.TheVariants as faults
use Rattle.lls_hinting.specs.declared.outcome.Outcome.{Outcome}
use Rattle.lls_hinting.specs.declared.request.Request.{Request}
use Rattle.lls_hinting.specs.Asked.{asked_in, form_in, formula_in, formula_limit, input_from, input_of, lemmas_in, lemmas_read, proof_limit}
use Rattle.lls_hinting.specs.Judging.{IsProved, IsSurveyed, Surveyed}
use Rattle.lls_outside.specs.Moment.{ShelfMoment, files_at}
use Rattle.lls_hinting.specs.Outcome.{RequestComesTo}
use Rattle.lls_hinting.specs.Steps.{IsForm, IsFormula, Reads}
use Rattle.lls_hinting.proofs.Inputs.{input_some}
use Rattle.lls_hinting.proofs.Stopping.{reads_stopped, reads_then}

-- what is asked where there is a formula
asked_behind : (request : Request) (files : Files) (formula : Cnf) → Ok formula ≡ and_then (input_of files request.formula formula_limit) formula_in
    → asked_in request files ≡ and_then (and_then (input_of files request.proof proof_limit) (λ bytes. lemmas_in (form_in request.form bytes) bytes)) (λ lemmas. Ok (record { formula = formula; lemmas = lemmas }))
asked_behind request files formula is =
    ap (λ (r : Result Cnf Fault). and_then r (λ formula. and_then (and_then (input_of files request.proof proof_limit) (λ bytes. lemmas_in (form_in request.form bytes) bytes)) (λ lemmas. Ok (record { formula = formula; lemmas = lemmas })))) (sym is)

-- the form that was read is that of the bytes
one_input : (limit : ℕ) (bytes : List ℕ) (b : Bool) (f g : List ℕ → Result (List NumberedLemma) Fault) → f bytes ≡ g bytes
    → and_then (if b then Err (faults.TooLong limit) else Ok bytes) f ≡ and_then (if b then Err (faults.TooLong limit) else Ok bytes) g
one_input limit bytes true f g same = refl
one_input limit bytes false f g same = same

lemmas_given : (given : Option Form) (form : Form) (o : Option (List ℕ)) → ((bytes : List ℕ) → o ≡ Some bytes → form ≡ form_in given bytes)
    → and_then (input_from proof_limit o) (λ bytes. lemmas_in (form_in given bytes) bytes) ≡ and_then (input_from proof_limit o) (lemmas_in form)
lemmas_given given form None is = refl
lemmas_given given form (Some bytes) is =
    one_input proof_limit bytes (nat_lt proof_limit (length bytes)) (λ bs. lemmas_in (form_in given bs) bs) (lemmas_in form) (ap (λ (f : Form). lemmas_in f bytes) (sym (is bytes refl)))

-- the proof is refused
pub proof_refused : (request : Request) (files : Option Files) (formula : Cnf) (form : Form) (fault : Fault) → IsFormula files request.formula (Ok formula) → IsForm files request.proof request.form (Ok form)
    → IsSurveyed files request.proof form (Err fault) → RequestComesTo request files (Err fault)
proof_refused request None formula form fault is told surveyed = tt
proof_refused request (Some files) formula form fault is told surveyed =
    asked_behind request files formula is
    ∙ ap (λ (r : Result (List NumberedLemma) Fault). and_then r (λ lemmas. Ok (record { formula = formula; lemmas = lemmas }))) (lemmas_given request.form form (map.get files request.proof) told ∙ surveyed)

-- what is asked where the proof has no fault
asked_ok : (request : Request) (files : Files) (formula : Cnf) (form : Form) (vars : ℕ) (bytes : List ℕ) → Ok formula ≡ and_then (input_of files request.formula formula_limit) formula_in
    → IsForm (Some files) request.proof request.form (Ok form) → map.get files request.proof ≡ Some bytes → (surveyed : Surveyed vars form bytes)
    → asked_in request files ≡ Ok (record { formula = formula; lemmas = surveyed.lemmas })
asked_ok request files formula form vars bytes is told found surveyed =
    let read : and_then (input_from proof_limit (map.get files request.proof)) (lemmas_in form) ≡ Ok surveyed.lemmas =
    ap (λ (r : Result (List ℕ) Fault). and_then r (lemmas_in form)) (input_some proof_limit (map.get files request.proof) bytes found surveyed.fits)
    ∙ ap lemmas_read surveyed.lemmas_are ∙ ap (λ (ls : List NumberedLemma). Ok ls) (none_behind surveyed.lemmas) in
    asked_behind request files formula is
    ∙ ap (λ (r : Result (List NumberedLemma) Fault). and_then r (λ lemmas. Ok (record { formula = formula; lemmas = lemmas }))) (lemmas_given request.form form (map.get files request.proof) told ∙ read)
  where
    none_behind : (ls : List NumberedLemma) → ls ++ [] ≡ ls
    none_behind [] = refl
    none_behind (l ∷ ls) = ap (λ (more : List NumberedLemma). l ∷ more) (none_behind ls)

-- the proof was judged
pub request_judged : (request : Request) (files : Option Files) (formula : Cnf) (form : Form) (vars : ℕ) (result : Result Outcome Fault) → IsFormula files request.formula (Ok formula)
    → IsForm files request.proof request.form (Ok form) → IsSurveyed files request.proof form (Ok vars) → IsProved formula vars files request.proof form result → RequestComesTo request files result
request_judged request None formula form vars result is told surveyed proved = tt
request_judged request (Some files) formula form vars (Ok outcome) is told surveyed proved =
    (record { formula = formula; lemmas = surveyed.2.lemmas }, asked_ok request files formula form vars surveyed.0 is told surveyed.1 surveyed.2, proved surveyed.0 surveyed.1 surveyed.2)
request_judged request (Some files) formula form vars (Err fault) is told surveyed proved = absurd (proved surveyed.0 surveyed.1 surveyed.2)

-- the formula and the form were read
abbrev HasForm : Request → Option Files → Cnf → Result Form Fault → Type 0
HasForm request files formula form = IsFormula files request.formula (Ok formula) × IsForm files request.proof request.form form

-- and the proof was surveyed
abbrev HasVars : Request → Option Files → Cnf → Form → Result ℕ Fault → Type 0
HasVars request files formula form vars = HasForm request files formula (Ok form) × IsSurveyed files request.proof form vars

form_read : (request : Request) (formula : Cnf) (form : Form) (start one two : ShelfMoment) → Reads (IsFormula (files_at start) request.formula) (Ok formula) start one
    → Reads (IsForm (files_at one) request.proof request.form) (Ok form) one two → Reads (HasForm request (files_at start) formula) (Ok form) start two
form_read request formula form start one two first next =
    reads_then (IsFormula (files_at start) request.formula) (IsForm (files_at one) request.proof request.form) (HasForm request (files_at start) formula) formula (Ok form) start one two first
    (λ is told. (is, subst (λ (fs : Option Files). IsForm fs request.proof request.form (Ok form)) first.files told)) next

vars_read : (request : Request) (formula : Cnf) (form : Form) (vars : Result ℕ Fault) (start one two three : ShelfMoment) → Reads (IsFormula (files_at start) request.formula) (Ok formula) start one
    → Reads (IsForm (files_at one) request.proof request.form) (Ok form) one two → Reads (IsSurveyed (files_at two) request.proof form) vars two three
    → Reads (HasVars request (files_at start) formula form) vars start three
vars_read request formula form vars start one two three first next last =
    let both = form_read request formula form start one two first next in
    reads_then (HasForm request (files_at start) formula) (IsSurveyed (files_at two) request.proof form) (HasVars request (files_at start) formula form) form vars start two three both
    (λ has surveyed. (has, subst (λ (fs : Option Files). IsSurveyed fs request.proof form vars) both.files surveyed)) last

-- the proof has a fault
pub survey_refused : (request : Request) (formula : Cnf) (form : Form) (fault : Fault) (start one two three : ShelfMoment) → Reads (IsFormula (files_at start) request.formula) (Ok formula) start one
    → Reads (IsForm (files_at one) request.proof request.form) (Ok form) one two → Reads (IsSurveyed (files_at two) request.proof form) (Err fault) two three
    → Reads (RequestComesTo request (files_at start)) (Err fault) start three
survey_refused request formula form fault start one two three first next last =
    reads_stopped (HasVars request (files_at start) formula form) (RequestComesTo request (files_at start)) fault start three
    (λ has. proof_refused request (files_at start) formula form fault has.0.0 has.0.1 has.1) (vars_read request formula form (Err fault) start one two three first next last)

-- it has none, and was judged
pub surveyed_then : (request : Request) (formula : Cnf) (form : Form) (vars : ℕ) (result : Result Outcome Fault) (start one two three four : ShelfMoment)
    → Reads (IsFormula (files_at start) request.formula) (Ok formula) start one → Reads (IsForm (files_at one) request.proof request.form) (Ok form) one two
    → Reads (IsSurveyed (files_at two) request.proof form) (Ok vars) two three → Reads (IsProved formula vars (files_at three) request.proof form) result three four
    → Reads (RequestComesTo request (files_at start)) result start four
surveyed_then request formula form vars result start one two three four first next last judged =
    let all = vars_read request formula form (Ok vars) start one two three first next last in
    reads_then (HasVars request (files_at start) formula form) (IsProved formula vars (files_at three) request.proof form) (RequestComesTo request (files_at start)) vars result start three four all
    (λ has proved. request_judged request (files_at start) formula form vars result has.0.0 has.0.1 has.1
    (subst (λ (fs : Option Files). IsProved formula vars fs request.proof form result) all.files proved)) judged
