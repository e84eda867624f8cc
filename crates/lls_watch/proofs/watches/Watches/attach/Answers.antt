use Rattle.std.proofs.Common.{◌≡◌, ℕ, Some, sym, subst, ap, ◌∙◌}
use Rattle.std.specs.Prelude.{pos, slice_get, IfSome}
use Rattle.std.specs.Option.{option_map_or}
use Rattle.lls_arena.specs.Arena.{HeadState, place_of}
use Rattle.lls_watch.specs.Watches.{AttachedAt, IsNotIn, IsThreaded, Lists, WatchesAt, literal_of, watched, with_attached}
use Rattle.lls_watch.proofs.Changes.{read_some}
use Rattle.lls_watch.proofs.watches.Watches.attach.Goals as goal

same_number : (a b : ℕ) → Some a ≡ Some b → a ≡ b
same_number a b e = cc

pub put_first-requires-clause-clause : goal.put_first-requires-clause-clause
put_first-requires-clause-clause c = λ k is.
    let same : c.args.c ≡ k = same_number c.args.c k (sym c.to.ensures.clause ∙ is) in
    subst (λ w. WatchesAt c.args.self.now k w) (sym c.to.ensures.side) (subst (λ n. WatchesAt c.args.self.now n c.args.w) same c.requires.clause)

pub put_first-requires-clause-lit : goal.put_first-requires-clause-lit
put_first-requires-clause-lit c = λ k is.
    let known = c.requires.clause in
    let m = c.self.inside in
    let same : c.args.c ≡ k = same_number c.args.c k (sym c.to.ensures.clause ∙ is) in
    let here : slice_get m.arena.heads c.args.c ≡ Some known.head = ap (λ s. slice_get s.arena.heads c.args.c) c.self.view_is ∙ known.is_head in
    let read : watched c.args.w known.head ≡ c.watched-lit.result = read_some known.head.lits (place_of c.args.w) c.watched-lit.result (subst (λ o. IfSome o (λ (head : HeadState). slice_get head.lits (place_of c.args.w) ≡ Some c.watched-lit.result)) here c.watched-lit.ensures) in
    subst (λ w. literal_of c.args.self.now k w ≡ c.watched-lit.result) (sym c.to.ensures.side)
    (subst (λ n. literal_of c.args.self.now n c.args.w ≡ c.watched-lit.result) same (ap (λ o. option_map_or (watched c.args.w) o (pos 0)) known.is_head ∙ read))

pub returns-clause-state : goal.returns-clause-state
returns-clause-state c = subst (λ w. AttachedAt c.args.c w c.args.self.now c.put_first.new.self) c.to.ensures.side (c.put_first.ensures.state c.args.c c.to.ensures.clause)

pub returns-clause-threaded : goal.returns-clause-threaded
returns-clause-threaded c =
    subst (λ w. (lists : Lists) → IsThreaded c.args.self.now lists → IsNotIn lists c.args.self.now c.args.c w → IsThreaded c.put_first.new.self (with_attached lists c.args.self.now c.args.c w)) c.to.ensures.side
    (c.put_first.ensures.threaded c.args.c c.to.ensures.clause)
