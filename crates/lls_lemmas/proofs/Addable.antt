-- What keeps a lemma from being added, as it is seen from the log.
use Rattle.std.proofs.Common.{◌≡◌, ℕ, List, [], Some}
use Rattle.std.specs.Prelude.{ℤ, slice_get}
use Rattle.lls_lit.specs.Formula.{Cnf}
use Rattle.lls_prooflog.specs.Rat.{groups_of, rat_fault}
use Rattle.lls_prooflog.specs.Spent.{live_after}
use Rattle.lls_prooflog.specs.declared.step.Step.{Step}
use Rattle.lls_prooflog.proofs.Soundness.{adds_well}
use Rattle.lls_store.specs.Trail.{TrailState, IsTrail}
use Rattle.lls_store.specs.Closed.{IsClosed}
use Rattle.lls_store.specs.Store.{StoreState, AreLive}
use Rattle.lls_analyse.proofs.Gathering.{nothing_there}
use Rattle.lls_lemmas.specs.Assumed.{CanBeFalse}
use Rattle.lls_lemmas.specs.Behind.{HoldsLive}
use Rattle.lls_lemmas.specs.Lemmas.{IsNotAddable, IsNotImplied}
use Rattle.lls_lemmas.specs.Pivot.{IsUnresolved}
use Rattle.lls_lemmas.proofs.Open.{ends_false, no_hints}
use Rattle.lls_lemmas.proofs.Opposed.{never_added, never_empty}

module _ (formula : Cnf) (steps : List Step) (store : StoreState) (last : ℕ) (holds : HoldsLive formula steps store last) where
  -- literals that can be false are implied by no hints
  pub not_implied : (lits : List ℤ) → CanBeFalse store.live lits → IsNotImplied formula steps lits
  not_implied lits f = no_hints store.live f.trail lits f.is_trail f.is_open.closed f.is_open.all_false (live_after formula steps) holds.spelled

  -- the empty clause has no pivot
  pub empty_not_addable : (t : TrailState) → IsTrail t → IsClosed store.live t → IsNotAddable formula steps []
  empty_not_addable t kept closed = λ id hints good.
      let live = live_after formula steps in
      let end = ends_false store.live t [] kept closed (λ l inside. absurd (nothing_there l inside)) live holds.spelled (rat_fault live [] (groups_of hints)) hints (adds_well live id [] hints good).walk in
      never_empty live (groups_of hints) end.assumed end.ends

  module _ (live : AreLive store) (lits : List ℤ) (pivot : ℤ) (first : slice_get lits 0 ≡ Some pivot) where
    pub not_addable : IsUnresolved store.live pivot lits → IsNotAddable formula steps lits
    not_addable o = λ id hints good. never_added store.live (live_after formula steps) pivot lits holds.spelled live.ids live.numbers o first hints (adds_well (live_after formula steps) id lits hints good).walk
