use Rattle.std.proofs.Common.{◌≡◌, ◌∙◌, ap, sym, subst, arith}
use Rattle.lls_store.specs.Sound.{IsSound}
use Rattle.lls_store.specs.Store.{StoreState}
use Rattle.lls_solver.specs.Searching.{SearcherState}
use Rattle.lls_solver.proofs.Marks.{reason_given}
use Rattle.lls_solver.proofs.searcher.Searcher.mark_reasons.Goals as goal

pub mark_reasons-requires : goal.mark_reasons-requires
mark_reasons-requires g c =
    let s = g.S.Store.state c.self.inside.store in
    let t = c.course.inside.trail in
    let trail : t ≡ c.args.self.now.trail = c.course.view_is ∙ ap (λ (x : SearcherState). x.trail) c.self.view_is in
    let store : s ≡ c.args.self.now.store = ap (λ (x : SearcherState). x.store) c.self.view_is in
    let sound = subst (IsSound s.live) (sym trail) (subst (λ (x : StoreState). IsSound x.live c.args.self.now.trail) (sym store) c.requires.sound) in
    record { given = λ v reason is. let given = reason_given s t v reason c.count-count.ensures.live sound is in omega (arith, given, ap (λ (x : StoreState). x.count) store, c.requires.each) }
