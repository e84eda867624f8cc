-- The verdict, as a loop over the lines comes to it.
use Rattle.std.proofs.Common.{◌≡◌, ℕ, zero, suc, ◌+◌, Bool, true, false, cond, List, [], ◌∷◌, drop, Option, Some, None, refl, ap, ◌∙◌, arith}
use Rattle.std.specs.Prelude.{Ok, Err, fold, slice_get}
use Rattle.std.proofs.lemmas.Option.{same_Some}
use Rattle.lls_prooflog.specs.declared.step.Step.{Step}
use Rattle.lls_lrat.specs.Verdict.{Verdict, Accepted, BadLine, BadStep, NoEmpty, State, line_taken, take_line, step_taken, take_step, closing, answer_of}
use Rattle.lls_lrat.specs.UnderWay.{at_line, unless_ended, or_fault}
use Rattle.lls_lrat.specs.Checking.{Checking, progress_of}
use Rattle.lls_lrat.specs.declared.checker.Progress.TheVariants.{Going, Done}
use Rattle.lls_lrat.specs.declared.error.CheckError.{CheckError}

-- once there is an end, no line changes the state, and no step
pub line_taken-ended : (state : State) (end : Verdict) (line : List ℕ) → state.end ≡ Some end → line_taken state line ≡ state
line_taken-ended state end line e = ap (λ (o : Option Verdict). take_line state o line) e

pub step_taken-ended : (state : State) (end : Verdict) (step : Step) → state.end ≡ Some end → step_taken state step ≡ state
step_taken-ended state end step e = ap (λ (o : Option Verdict). take_step state o step) e

-- the fault that ended a state
end_of-fault : (state : State) (end : Option Verdict) (error : CheckError) → unless_ended state end ≡ Err error → (v : Verdict) × ((end ≡ Some v) × (answer_of v ≡ Err error))
end_of-fault state None error e = absurd cc
end_of-fault state (Some Accepted) error e = absurd cc
end_of-fault state (Some (BadLine number fault)) error e = (BadLine number fault, (refl, cc))
end_of-fault state (Some (BadStep number fault)) error e = (BadStep number fault, (refl, cc))
end_of-fault state (Some NoEmpty) error e = (NoEmpty, (refl, cc))

-- the state that stands where no fault ended it
pub same_state : (state : State) (end : Option Verdict) (s : State) → unless_ended state end ≡ Ok s → state ≡ s
same_state state None s e = cc
same_state state (Some Accepted) s e = cc
same_state state (Some (BadLine number fault)) s e = absurd cc
same_state state (Some (BadStep number fault)) s e = absurd cc
same_state state (Some NoEmpty) s e = absurd cc

pub is_going : (done : Bool) → Going ≡ progress_of done → done ≡ false
is_going false e = refl
is_going true e = absurd cc

pub is_done : (done : Bool) → Done ≡ progress_of done → done ≡ true
is_done true e = refl
is_done false e = absurd cc

-- a loop that takes lines or steps, and changes nothing once there is an end
module _ {X : Type 0} (taken : State → X → State) (stays : (state : State) (end : Verdict) (x : X) → state.end ≡ Some end → taken state x ≡ state) where
  pub fold-ended : (state : State) (end : Verdict) (xs : List X) → state.end ≡ Some end → fold taken state xs ≡ state
  fold-ended state end [] e = refl
  fold-ended state end (x ∷ xs) e = ap (λ (s : State). fold taken s xs) (stays state end x e) ∙ fold-ended state end xs e

  -- the fault that ended a state is the answer, whatever follows
  pub answer-fault : (state : State) (xs : List X) (error : CheckError) → or_fault state ≡ Err error → answer_of (closing ((fold taken state xs).end)) ≡ Err error
  answer-fault state xs error e =
      let end = end_of-fault state state.end error e in
      ap (λ (s : State). answer_of (closing s.end)) (fold-ended state end.0 xs end.1.0) ∙ ap (λ (o : Option Verdict). answer_of (closing o)) end.1.0 ∙ end.1.1

  -- a checker that is done has accepted, whatever follows
  pub answer-done : (state : State) (c : Checking) (n : ℕ) (xs : List X) → or_fault state ≡ Ok (at_line c n) → c.done ≡ true → answer_of (closing ((fold taken state xs).end)) ≡ Ok tt
  answer-done state c n xs e done =
      let same = same_state state state.end (at_line c n) e in
      let end : state.end ≡ Some Accepted = ap (λ (s : State). s.end) same ∙ ap (λ b. cond b (Some Accepted) None) done in
      ap (λ (s : State). answer_of (closing s.end)) (fold-ended state Accepted xs end) ∙ ap (λ (o : Option Verdict). answer_of (closing o)) end

-- what is left at a place, and behind it
pub drop-next : {X : Type 0} (xs : List X) (k : ℕ) (x : X) → slice_get xs k ≡ Some x → drop k xs ≡ x ∷ drop (k + 1) xs
drop-next [] k x e = absurd cc
drop-next (y ∷ ys) zero x e = ap (λ (z : _). z ∷ ys) (same_Some y x e)
drop-next (y ∷ ys) (suc k) x e = let next : suc k + 1 ≡ suc (k + 1) = omega arith in rw next (drop-next ys k x e)
