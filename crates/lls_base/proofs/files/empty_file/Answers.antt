use Rattle.std.proofs.Common.{◌≡◌, ℕ, Vec, Global, length, ◌∙◌, rules}
use Rattle.lls_base.proofs.NamedBytes.{files_of-written, IsFirst-written, files_of-pushed, IsFirst-pushed}
use Rattle.lls_base.proofs.files.empty_file.Goals as goal

pub returns-in-Some-clause-emptied : goal.returns-in-Some-clause-emptied
returns-in-Some-clause-emptied c =
    let first = rw c.deref.ensures.value at c.in-Some.ensures.first in
    let written = λ (new : Vec ℕ Global). files_of-written _ _ _ c.index_mut-file.ensures.value c.args.name.now new first in
    rw written (cc)

pub returns-in-Some-clause-first : goal.returns-in-Some-clause-first
returns-in-Some-clause-first c = IsFirst-written _ _ _ c.index_mut-file.ensures.value _ _ (rw c.deref.ensures.value at c.in-Some.ensures.first)

pub returns-clause-emptied : goal.returns-clause-emptied
returns-clause-emptied c =
    let nowhere = rw c.deref.ensures.value at c.in_default.ensures.nowhere in
    let same = c.new.ensures ∙ c.in_ok-text.ensures.ok in
    files_of-pushed _ _ _ _ nowhere c.in_ok-push.ensures.items same c.new-2.ensures.items

pub returns-clause-first : goal.returns-clause-first
returns-clause-first c =
    let nowhere = rw c.deref.ensures.value at c.in_default.ensures.nowhere in
    let same = c.new.ensures ∙ c.in_ok-text.ensures.ok in
    let end : c.len-at.result ≡ length c.args.files.now.items = search rules in
    IsFirst-pushed _ _ _ _ _ nowhere c.in_ok-push.ensures.items same end
