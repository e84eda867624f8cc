use Rattle.std.proofs.Common.{◌≡◌, ◌*◌, ℕ, [], List, Option, map, ap, sym, subst, ◌∙◌, replicate}
use Rattle.lls_arena.specs.Links.{link_in}
use Rattle.lls_watch.specs.Watches.{IsThreaded}
use Rattle.lls_watch.proofs.Starts.{none_begins, starts_replicated}
use Rattle.lls_watch.proofs.watches.Watches.new.Goals as goal

pub returns-clause-first : goal.returns-clause-first
returns-clause-first c =
    let items : c.in_ok-first.first.items ≡ replicate (2 * c.args.vars) c.nowhere.result = c.in_ok-first.ensures.items_if_clones_equal (λ y same. same) in
    ap (map link_in) items ∙ starts_replicated c.nowhere.result (2 * c.args.vars) c.nowhere.ensures

pub returns-clause-threaded : goal.returns-clause-threaded
returns-clause-threaded c =
    subst (λ (os : List (Option ℕ)). IsThreaded (record { arena = c.new.result; first = os }) (λ _. [])) (sym (returns-clause-first c)) (none_begins c.new.result (2 * c.args.vars))
