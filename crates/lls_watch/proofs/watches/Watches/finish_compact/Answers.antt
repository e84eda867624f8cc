use Rattle.std.proofs.Common.{◌∙◌, ℕ, [], ap, map, List, Option, None, sym, subst}
use Rattle.std.proofs.lemmas.List.{length-map, with_items_is}
use Rattle.lls_arena.specs.declared.edges.Link.{Link}
use Rattle.lls_arena.specs.Links.{link_in}
use Rattle.lls_arena.specs.Arena.{ArenaState}
use Rattle.lls_watch.specs.Watches.{IsThreaded, WatchState}
use Rattle.lls_watch.specs.Anew.{CanBeListed}
use Rattle.lls_watch.proofs.Threading.{compacted_listable, none_threaded}
use Rattle.lls_watch.proofs.watches.Watches.finish_compact.Goals as goal

pub list_all-requires-clause-none : goal.list_all-requires-clause-none
list_all-requires-clause-none c =
    let old = map link_in c.self.inside.first.items in
    let firsts =
    ap (map link_in) (with_items_is c.self.inside.first c.empty_lists.new.first (c.empty_lists.auto.first ∙ c.deref_mut.ensures.len))
    ∙ c.empty_lists.ensures
    ∙ ap (λ (links : List Link). map (λ (_ : Option ℕ). None) (map link_in links)) c.deref_mut.ensures.value in
    subst (λ (os : List (Option ℕ)). IsThreaded (record { arena = c.finish_compact.new.self; first = os }) (λ _. [])) (sym firsts) (none_threaded c.finish_compact.new.self old)

pub list_all-requires-clause-listable : goal.list_all-requires-clause-listable
list_all-requires-clause-listable c =
    let old = map link_in c.self.inside.first.items in
    let firsts =
    ap (map link_in) (with_items_is c.self.inside.first c.empty_lists.new.first (c.empty_lists.auto.first ∙ c.deref_mut.ensures.len))
    ∙ c.empty_lists.ensures
    ∙ ap (λ (links : List Link). map (λ (_ : Option ℕ). None) (map link_in links)) c.deref_mut.ensures.value in
    let state : WatchState = record { arena = c.self.inside.arena; first = old } in
    subst (λ (os : List (Option ℕ)). CanBeListed (record { arena = c.finish_compact.new.self; first = os })) (sym firsts)
    (subst (λ (arena : ArenaState). CanBeListed (record { arena = arena; first = map (λ _. None) old })) (sym c.finish_compact.ensures)
    (compacted_listable state (map (λ _. None) old) (length-map old (λ _. None)) (subst CanBeListed (sym c.self.view_is) c.requires.listable)))
