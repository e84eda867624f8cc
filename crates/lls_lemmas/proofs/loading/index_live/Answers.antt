use Rattle.std.proofs.Common.{◌≡◌, true, false, Option, sym, ap, subst, ◌∙◌}
use Rattle.std.specs.Option.{is_some}
use Rattle.std.specs.FinSet as set
use Rattle.std.proofs.lemmas.Option.{same_Some}
use Rattle.lls_lit.specs.Formula.{is_within}
use Rattle.lls_lit.specs.Marked.{Marked}
use Rattle.lls_store.specs.Clauses.{LiveClause, clause_numbered}
use Rattle.lls_store.proofs.Live.{clause_numbered-contained}
use Rattle.lls_analyse.proofs.LiveClauses.{told}
use Rattle.lls_lemmas.specs.declared.index.Index.{Index}
use Rattle.lls_lemmas.specs.Indexed.{set_hash, IsIndexed, IsLinked}
use Rattle.lls_lemmas.proofs.Indexing.{below}
use Rattle.lls_lemmas.proofs.loading.index_live.Goals.{then-live+in_ok-put, else-live}
use Rattle.lls_lemmas.proofs.loading.index_live.Goals as goal

pub hash_of-hash-requires : goal.hash_of-hash-requires
hash_of-hash-requires g c =
    let is = told (g.S.Store.state c.args.store.now) c.loop-number.number c.lits.result.now c.count-number-end.ensures.live (sym c.if-live.ensures) c.lits.ensures in
    ap (λ n. is_within n c.lits.result.now) (c.loop-number.invariant.vars ∙ sym c.requires.vars) ∙ is.within

pub loop-number-preserved : goal.loop-number-preserved
loop-number-preserved g c =
    let i = c.loop-number.invariant in
    let s = g.S.Store.state c.args.store.now in
    let k = c.loop-number.number in
    let vars = c.args.marks.now.vars in
    elim c.if-live.branch [
      | then-live+in_ok-put w ↦ (
          let is = told s k w.lits.result.now c.count-number-end.ensures.live (sym w.if-live.ensures) w.lits.ensures in
          record {
            linked = subst IsLinked (sym w.index-is) w.put.ensures.linked;
            each = λ clause inside lt. subst (λ (x : Index). IsIndexed vars x clause) (sym w.index-is) (below clause.number k lt (λ less. w.put.ensures.keeps vars clause (i.each clause inside less)) (λ same.
                let equal = same_Some is.clause clause (sym is.is_live ∙ ap (clause_numbered s.live) (sym same) ∙ clause_numbered-contained s.live clause c.count-number-end.ensures.live.numbers inside) in
                w.in_ok-put.ensures.puts vars clause same (ap (λ (x : LiveClause). set_hash vars x.lits) (sym equal) ∙ ap (set_hash vars) (sym is.spelled) ∙ ap (λ n. set_hash n (set.from_list w.lits.result.now)) (sym i.vars) ∙ sym w.hash_of-hash.ensures.hash)));
            vars = ap (λ (m : Marked). m.vars) w.marks-is ∙ w.hash_of-hash.ensures.vars ∙ i.vars;
          })
      | else-live w ↦ (
          record {
            linked = subst IsLinked (sym w.index-is) i.linked;
            each = λ clause inside lt. subst (λ (x : Index). IsIndexed vars x clause) (sym w.index-is) (below clause.number k lt (λ less. i.each clause inside less) (λ same.
                let found = ap (clause_numbered s.live) (sym same) ∙ clause_numbered-contained s.live clause c.count-number-end.ensures.live.numbers inside in
                let clash : false ≡ true = w.if-live.ensures ∙ ap (λ (o : Option LiveClause). is_some o) found in
                absurd cc));
            vars = ap (λ (m : Marked). m.vars) w.marks-is ∙ i.vars;
          })
    ]
