use Rattle.std.proofs.Common.{◌≡◌, ◌<◌, ◌≤◌, ◌-◌, ap, sym, subst, ◌∙◌, arith, length, set, get_or}
use Rattle.std.specs.Prelude.{ℤ, ℕ, List, pos}
use Rattle.lls_analyse.specs.declared.visited.Seen.TheVariants.{Kept}
use Rattle.lls_analyse.specs.Visited.{VisitedState, is_seen}
use Rattle.lls_analyse.specs.Marked.{GivesWay}
use Rattle.lls_analyse.specs.Minimised.{IsGrown, Minimises}
use Rattle.lls_analyse.proofs.Grown.{grown_longer}
use Rattle.lls_analyse.proofs.Minimising.{releases, kept_again, minimises_same, is_true}
use Rattle.lls_analyse.proofs.Valued.{seen_has_value}
use Rattle.lls_analyse.proofs.minimise.release.Goals as goal

pub forget_behind-requires : goal.forget_behind-requires
forget_behind-requires g c =
    omega (arith, grown_longer c.args.trail.now.entries c.release.new.self c.follow_all.new.visited c.follow_all.ensures.grown, ap (λ (s : VisitedState). length s.lits) c.release.ensures, ap (λ (ls : List ℤ). length ls) c.lits-count.ensures.lits)

pub returns-then-not-follow_all : goal.returns-then-not-follow_all
returns-then-not-follow_all g c =
    let live = (g.S.Store.state c.args.store.now).live in
    let old = c.args.visited.now in
    let v = c.args.var in
    let size : length c.release.new.self.lits ≡ length c.lits-count.result.now = ap (λ (s : VisitedState). length s.lits) c.release.ensures ∙ ap (λ (ls : List ℤ). length ls) (sym c.lits-count.ensures.lits) in
    let back = c.forget_behind.ensures c.release.new.self c.follow_all.ensures.grown size ∙ c.release.ensures in
    let same : c.keep.new.self ≡ old = c.keep.ensures ∙ ap (λ (s : VisitedState). record s { seen = set s.seen (v - 1) Kept }) back ∙ kept_again old v c.requires.is_kept in
    let P : VisitedState → Type 0 = λ s. Minimises live c.args.trail.now old s in
    subst P (sym same) (minimises_same live c.args.trail.now old c.lits-count.ensures.visited c.requires.marked)

pub returns-else-not-follow_all : goal.returns-else-not-follow_all
returns-else-not-follow_all g c =
    let live = (g.S.Store.state c.args.store.now).live in
    let es = c.args.trail.now.entries in
    let old = c.args.visited.now in
    let new = c.follow_all.new.visited in
    let v = c.args.var in
    let yes_ = is_true c.follow_all.result c.if-not-follow_all.false in
    let P : VisitedState → Type 0 = λ s. IsGrown es s new in
    let Q : VisitedState → Type 0 = λ s. (k : ℕ) → length s.lits ≤ k → k < length new.lits → GivesWay live es new.seen (get_or new.lits k (pos 0)) in
    releases live c.args.trail.now old new v c.requires.kept c.lits-count.ensures.visited (c.follow_all.ensures.visited yes_) c.requires.marked c.requires.low (omega (arith, c.requires.within, c.requires.vars)) c.requires.is_kept
    (subst P c.release.ensures c.follow_all.ensures.grown) (c.follow_all.ensures.first yes_) (subst Q c.release.ensures (c.follow_all.ensures.rest yes_))

pub follow_all-requires-clause-has_value : goal.follow_all-requires-clause-has_value
follow_all-requires-clause-has_value g c =
    seen_has_value c.args.trail.now c.args.visited.now c.args.var c.lits-count.ensures.visited c.requires.marked c.requires.low (ap is_seen c.requires.is_kept)
