use Rattle.std.proofs.Common.{◌≡◌, ℕ, ◌+◌, ◌∷◌, ◌++◌, [], List, sym, ap, refl, subst, ◌∙◌, take, get_or, inl, inr, Vec, Global}
use Rattle.std.specs.Prelude.{Contains, IsSome}
use Rattle.std.proofs.lemmas.List.{take_all, take_more}
use Rattle.std.proofs.lemmas.List.Elements.{Contains-append_left, Contains-push, Contains-push_cases}
use Rattle.lls_store.specs.Clauses.{clause_numbered}
use Rattle.lls_analyse.proofs.Gathering.{nothing_there}
use Rattle.lls_lemmas.proofs.index.take_live.Goals.{then-is_live+in_ok-push, else-is_live}
use Rattle.lls_lemmas.proofs.index.take_live.Goals as goal

pub loop-number-init : goal.loop-number-init
loop-number-init g c = record {
  all = λ clause inside none. absurd (nothing_there clause.number none);
  alive = λ number inside. absurd (nothing_there number (let P : List ℕ → Type 0 = λ ns. Contains ns number in subst P c.requires inside));
}

pub loop-number-preserved : goal.loop-number-preserved
loop-number-preserved g c =
    let i = c.loop-number.invariant in
    let s = g.S.Store.state c.args.store.now in
    let numbers = c.args.numbers.now in
    let k = c.loop-number.number-index in
    let n = get_or numbers k 0 in
    let more : take (k + 1) numbers ≡ take k numbers ++ n ∷ [] = take_more numbers k 0 c.loop-number-test.true in
    elim c.if-is_live.branch [
      | then-is_live+in_ok-push w ↦ (
          let grown = ap (λ (v : Vec ℕ Global). v.items) w.taken-is ∙ w.in_ok-push.ensures.items in
          record {
            all = λ clause inside among. (let P : List ℕ → Type 0 = λ ns. Contains ns clause.number in subst P (sym grown) (elim (Contains-push_cases (take k numbers) n clause.number (subst P more among)) [
              | inl old ↦ Contains-append_left c.loop-number.taken.items (n ∷ []) clause.number (i.all clause inside old)
              | inr same ↦ (let Q : ℕ → Type 0 = λ m. Contains (c.loop-number.taken.items ++ n ∷ []) m in subst Q same (Contains-push c.loop-number.taken.items n))
            ]));
            alive = λ number there. (let P : List ℕ → Type 0 = λ ns. Contains ns number in elim (Contains-push_cases c.loop-number.taken.items n number (subst P grown there)) [
              | inl old ↦ i.alive number old
              | inr same ↦ (let Q : ℕ → Type 0 = λ m. IsSome (clause_numbered s.live m) in subst Q same (w.if-is_live.ensures.some refl))
            ]);
          })
      | else-is_live w ↦ (
          let same_taken = ap (λ (v : Vec ℕ Global). v.items) w.taken-is in
          record {
            all = λ clause inside among. (let P : List ℕ → Type 0 = λ ns. Contains ns clause.number in subst P (sym same_taken) (elim (Contains-push_cases (take k numbers) n clause.number (subst P more among)) [
              | inl old ↦ i.all clause inside old
              | inr same ↦ absurd (w.if-is_live.ensures.none refl clause inside (sym same))
            ]));
            alive = λ number there. (let P : List ℕ → Type 0 = λ ns. Contains ns number in i.alive number (subst P same_taken there));
          })
    ]

pub returns-clause-all : goal.returns-clause-all
returns-clause-all g c = λ clause inside listed.
    c.loop-number.invariant.all clause inside (let P : List ℕ → Type 0 = λ ns. Contains ns clause.number in subst P (sym (take_all c.loop-number.number-index c.args.numbers.now c.loop-number-test.false)) listed)

pub returns-clause-alive : goal.returns-clause-alive
returns-clause-alive g c = c.loop-number.invariant.alive
