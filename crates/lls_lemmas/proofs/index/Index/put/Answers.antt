use Rattle.std.proofs.Common.{ℕ, List, ap, rules}
use Rattle.std.specs.Prelude.{◌==◌}
use Rattle.std.specs.Map.{lookup}
use Rattle.lls_lemmas.specs.declared.index.Entry.{Entry}
use Rattle.lls_lemmas.specs.declared.index.Index.{Index}
use Rattle.lls_lemmas.proofs.Indexing.{indexed_more, indexed_new, indexed_put, linked_put}
use Rattle.lls_lemmas.proofs.index.Index.put.Goals as goal

pub returns-in_err-insert-clause-keeps : goal.returns-in_err-insert-clause-keeps
returns-in_err-insert-clause-keeps c = λ vars clause i.
    let old = c.args.self.now in
    let new : Index = record { entries = c.push-2.new.self; newest = c.insert.new.self; numbers = c.push.new.self; spare = old.spare } in
    let e : Entry = record { number = c.args.number; before = c.newest-before.result } in
    indexed_more old new c.args.hash c.in-Ok.place e c.in_ok-push-2.ensures.items c.in_ok-push.ensures.items (λ q. ap (λ (es : List (ℕ × ℕ)). lookup (λ p. q == p) es) c.in_err-insert.ensures.err) vars clause i

pub returns-clause-linked : goal.returns-clause-linked
returns-clause-linked c =
    let old = c.args.self.now in
    let new : Index = record { entries = c.push-2.new.self; newest = c.insert.new.self; numbers = c.push.new.self; spare = old.spare } in
    let e : Entry = record { number = c.args.number; before = c.newest-before.result } in
    linked_put old new c.args.hash c.in-Ok.place e c.in_ok-push-2.ensures.items c.in_ok-push.ensures.items c.in_ok-insert.ensures.updates.0 (search rules) c.newest-before.ensures c.requires.linked

pub returns-clause-keeps : goal.returns-clause-keeps
returns-clause-keeps c = λ vars clause i.
    let old = c.args.self.now in
    let new : Index = record { entries = c.push-2.new.self; newest = c.insert.new.self; numbers = c.push.new.self; spare = old.spare } in
    let e : Entry = record { number = c.args.number; before = c.newest-before.result } in
    indexed_put old new c.args.hash c.in-Ok.place e c.in_ok-push-2.ensures.items c.in_ok-push.ensures.items c.in_ok-insert.ensures.updates.0 (search rules) c.newest-before.ensures vars clause i

pub returns-clause-puts : goal.returns-clause-puts
returns-clause-puts c = λ vars clause same is.
    let old = c.args.self.now in
    let new : Index = record { entries = c.push-2.new.self; newest = c.insert.new.self; numbers = c.push.new.self; spare = old.spare } in
    let e : Entry = record { number = c.args.number; before = c.newest-before.result } in
    indexed_new old new c.args.hash c.in-Ok.place e c.in_ok-push-2.ensures.items c.in_ok-push.ensures.items c.in_ok-insert.ensures.updates.0 (search rules) vars clause same is
