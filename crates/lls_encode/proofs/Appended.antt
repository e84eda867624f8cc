-- A formula put behind another, clause by clause.
use Rattle.std.proofs.Common.{◌≡◌, ◌<◌, ℕ, ◌+◌, ◌-◌, List, [], ◌∷◌, ◌++◌, length, take, Some, sym, ap, ◌∙◌, slice_get, append_assoc}
use Rattle.std.proofs.lemmas.List.{take_more}
use Rattle.std.proofs.lemmas.Option.{get_or_from_slice_get}
use Rattle.lls_lit.specs.Formula.{Clause, Cnf}

-- the formula with so many clauses of another behind its own, over the variables of both
abbrev pub with_first : Cnf → Cnf → ℕ → Cnf
with_first formula more k = record { vars = formula.vars + (more.vars - formula.vars); clauses = formula.clauses ++ take k more.clauses }

-- one clause more
pub with_first-more : (formula more : Cnf) (k : ℕ) (clause : Clause) → k < length more.clauses → slice_get more.clauses k ≡ Some clause
    → record (with_first formula more k) { clauses = (with_first formula more k).clauses ++ clause ∷ [] } ≡ with_first formula more (k + 1)
with_first-more formula more k clause inside at =
    ap (λ (all : List Clause). record (with_first formula more k) { clauses = all })
    (append_assoc formula.clauses (take k more.clauses) (clause ∷ [])
    ∙ ap (λ c. formula.clauses ++ (take k more.clauses ++ c ∷ [])) (sym (get_or_from_slice_get more.clauses k clause [] at))
    ∙ ap (λ rest. formula.clauses ++ rest) (sym (take_more more.clauses k [] inside)))
