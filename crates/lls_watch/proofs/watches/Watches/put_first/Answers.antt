use Rattle.std.proofs.Common.{◌≡◌, ◌<◌, ap, sym, subst, ◌∙◌, arith, length, map}
use Rattle.std.specs.Prelude.{pos, slice_set}
use Rattle.std.specs.Option.{option_map_or}
use Rattle.std.proofs.lemmas.List.{length-map}
use Rattle.std.proofs.lemmas.Option.{slice_get_within}
use Rattle.lls_lit.specs.Literal.{index_of, literal_at}
use Rattle.lls_lit.specs.Indices.{literal_at-index_of}
use Rattle.lls_arena.specs.Links.{link_in, side_in}
use Rattle.lls_arena.proofs.Paired.{led_to}
use Rattle.lls_watch.specs.Watches.{WatchState, AttachedAt, list_of, watched}
use Rattle.lls_watch.proofs.Lists.{attached_at}
use Rattle.lls_watch.proofs.Starts.{start_attached}
use Rattle.lls_watch.proofs.watches.Watches.put_first.Goals as goal

pub set_next-requires-clause-within : goal.set_next-requires-clause-within
set_next-requires-clause-within c = λ k is.
    let known = c.requires.clause k is in
    subst (λ (s : WatchState). k < length s.arena.heads) (sym c.self.view_is) (slice_get_within c.args.self.now.arena.heads k known.head known.is_head)

pub index-requires : goal.index-requires
index-requires c =
    let m = c.self.inside in
    let to = led_to (link_in c.args.edge) c.requires.leads in
    let known = c.requires.clause to.0 to.1 in
    let read : watched (side_in c.args.edge) known.head ≡ c.args.lit = sym (ap (λ o. option_map_or (watched (side_in c.args.edge)) o (pos 0)) known.is_head) ∙ c.requires.lit to.0 to.1 in
    omega (arith, known.within, ap index_of read, c.index-i.ensures.place, ap (λ (s : WatchState). length s.first) c.self.view_is, length-map m.first.items link_in)

pub index_mut-requires : goal.index_mut-requires
index_mut-requires c =
    let m = c.self.inside in
    let to = led_to (link_in c.args.edge) c.requires.leads in
    let known = c.requires.clause to.0 to.1 in
    let read : watched (side_in c.args.edge) known.head ≡ c.args.lit = sym (ap (λ o. option_map_or (watched (side_in c.args.edge)) o (pos 0)) known.is_head) ∙ c.requires.lit to.0 to.1 in
    omega (arith, known.within, ap index_of read, c.index-i.ensures.place, ap (λ (s : WatchState). length s.first) c.self.view_is, length-map m.first.items link_in)

pub returns-clause-state : goal.returns-clause-state
returns-clause-state c = λ k is.
    let m = c.self.inside in
    let w = side_in c.args.edge in
    let known = c.requires.clause k is in
    let read : watched w known.head ≡ c.args.lit = sym (ap (λ o. option_map_or (watched w) o (pos 0)) known.is_head) ∙ c.requires.lit k is in
    let list : list_of (record { arena = m.arena; first = map link_in m.first.items }) k w ≡ c.index-i.result =
    ap (λ (s : WatchState). list_of s k w) c.self.view_is ∙ ap index_of (c.requires.lit k is) ∙ sym c.index-i.ensures.place in
    let within : c.index-i.result < length m.first.items =
    omega (arith, known.within, ap index_of read, c.index-i.ensures.place, ap (λ (s : WatchState). length s.first) c.self.view_is, length-map m.first.items link_in) in
    subst (λ (s : WatchState). AttachedAt k w s (record { arena = c.set_next.new.self; first = map link_in (slice_set m.first.items c.index-i.result c.args.edge) })) c.self.view_is
    (start_attached m.arena c.set_next.new.self m.first.items k c.index-i.result w c.index.result.now c.args.edge list within c.index.ensures (c.set_next.ensures k is) is)

pub returns-clause-threaded : goal.returns-clause-threaded
returns-clause-threaded c = λ k is lists threaded absent.
    let w = side_in c.args.edge in
    let known = c.requires.clause k is in
    let read : watched w known.head ≡ c.args.lit = sym (ap (λ o. option_map_or (watched w) o (pos 0)) known.is_head) ∙ c.requires.lit k is in
    let literal : literal_at (index_of (watched w known.head)) ≡ watched w known.head =
    ap (λ l. literal_at (index_of l)) read ∙ literal_at-index_of c.args.lit c.index-i.ensures.literal ∙ sym read in
    rw (returns-clause-state c k is) (attached_at c.args.self.now lists k w known literal threaded absent)
