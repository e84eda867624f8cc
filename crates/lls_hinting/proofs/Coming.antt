-- Bytes of a proof that come piece by piece.
use Rattle.std.proofs.Common.{◌≡◌, ◌≤◌, ◌+◌, ℕ, List, [], ◌∷◌, ◌++◌, length, Option, None, Some, IfSome, refl, sym, ap, ◌∙◌, append_assoc, arith}
use Rattle.std.specs.Prelude.{Result, Ok, Err}
use Rattle.std.proofs.lemmas.List.{length-append}
use Rattle.lls_base.specs.Faults.{Counts}
use Rattle.lls_drat.specs.declared.drat_fault.DratFault.{DratFault}
use Rattle.lls_drat.specs.Lemma.{NumberedLemma}
use Rattle.lls_drat.specs.Proof.{at_fault, before_proof, no_more}
use Rattle.lls_drat.specs.Reading.{Keeps, taken, to_come}
use Rattle.lls_hinting.specs.declared.fault.Fault.{Fault}
use Rattle.lls_hinting.specs.declared.fault.Fault.TheVariants as faults
use Rattle.lls_hinting.specs.declared.proof_file.Next.{Next}
use Rattle.lls_hinting.specs.Asked.{proof_limit}
use Rattle.lls_outside.specs.Moment.{ShelfMoment, files_at}
use Rattle.lls_hinting.specs.Place.{Came, Ended, EndsBehind, FaultBehind, Faulty, IsAtEnd, LastSays, NextSays, Passed, Passes, Place}
use Rattle.lls_hinting.specs.Steps.{Reads}
use Rattle.lls_hinting.proofs.Passing.{at, known}

-- no byte came, and the same is still to come
pub came_none : (before after : Place) → Keeps before.reading after.reading → after.taken ≡ before.taken → after.rest ≡ before.rest → Came before after
came_none before after keeps taken rest = record {
  bytes = [];
  keeps = keeps;
  taken_then = omega (arith, taken);
  rest = known (λ left. (behind : List ℕ) × (after.rest ≡ Some behind) × (left ≡ [] ++ behind)) before.rest (λ left is. (left, rest ∙ is, refl));
}

pub came_more : (a b c : Place) → Came a b → Came b c → Came a c
came_more a b c one two = record {
  bytes = one.bytes ++ two.bytes;
  keeps = λ more. ap (to_come a.reading) (append_assoc one.bytes two.bytes more) ∙ one.keeps (two.bytes ++ more) ∙ two.keeps more;
  taken_then = omega (arith, one.taken_then, two.taken_then, length-append one.bytes two.bytes);
  rest = known (λ left. (behind : List ℕ) × (c.rest ≡ Some behind) × (left ≡ (one.bytes ++ two.bytes) ++ behind)) a.rest (λ left is.
      let p = at (λ left. (behind : List ℕ) × (b.rest ≡ Some behind) × (left ≡ one.bytes ++ behind)) a.rest left is one.rest in
      let q = at (λ left. (behind : List ℕ) × (c.rest ≡ Some behind) × (left ≡ two.bytes ++ behind)) b.rest p.0 p.1 two.rest in
      (q.0, q.1, p.2 ∙ ap (λ (bs : List ℕ). one.bytes ++ bs) q.2 ∙ sym (append_assoc one.bytes two.bytes q.0)));
}

-- what is to come behind bytes that came
came_left : (a b : Place) (came : Came a b) (left behind : List ℕ) → left ≡ came.bytes ++ behind → to_come a.reading left ≡ to_come b.reading behind
came_left a b came left behind is = ap (to_come a.reading) is ∙ came.keeps behind

same_length : (a b : Place) (came : Came a b) (left behind : List ℕ) → left ≡ came.bytes ++ behind → b.taken + length behind ≡ a.taken + length left
same_length a b came left behind is = omega (arith, came.taken_then, ap length is, length-append came.bytes behind)

-- the next lemma has come whole
pub next_passed : (a b c : Place) (l : NumberedLemma) → Came a b → ((more : List ℕ) → to_come b.reading more ≡ before_proof l (to_come c.reading more))
    → c.taken ≡ b.taken → c.rest ≡ b.rest → Passes (l ∷ []) a c
next_passed a b c l came takes taken rest = known (Passed (l ∷ []) a c) a.rest (λ left is.
    let p = at (λ left. (behind : List ℕ) × (b.rest ≡ Some behind) × (left ≡ came.bytes ++ behind)) a.rest left is came.rest in
    record {
      left_then = record { bytes = p.0; rest = rest ∙ p.1; same_length = ap (λ (n : ℕ). n + length p.0) taken ∙ same_length a b came left p.0 p.2 };
      lemmas = came_left a b came left p.0 p.2 ∙ takes p.0;
    })

none_behind : (bytes : List ℕ) → bytes ++ [] ≡ bytes
none_behind [] = refl
none_behind (b ∷ bs) = ap (λ (more : List ℕ). b ∷ more) (none_behind bs)

both_empty : (one two : List ℕ) → [] ≡ one ++ two → (one ≡ []) × (two ≡ [])
both_empty [] two is = (refl, sym is)
both_empty (b ∷ bs) two is = absurd cc

-- the bytes that came are all
pub record HasAll (before after : Place) (left : List ℕ) : Type 0 where
  pub rest : after.rest ≡ Some []
  pub none : to_come before.reading left ≡ to_come after.reading []
  pub same_length : after.taken ≡ before.taken + length left

pub all_came : (a b c : Place) → Came a b → Came b c → IsAtEnd b → IfSome a.rest (HasAll a c)
all_came a b c one two end = known (HasAll a c) a.rest (λ left is.
    let p = at (λ left. (behind : List ℕ) × (b.rest ≡ Some behind) × (left ≡ one.bytes ++ behind)) a.rest left is one.rest in
    let q = at (λ left. (behind : List ℕ) × (c.rest ≡ Some behind) × (left ≡ two.bytes ++ behind)) b.rest p.0 p.1 two.rest in
    let empty = at (λ left. left ≡ []) b.rest p.0 p.1 end in
    let none = both_empty two.bytes q.0 (sym empty ∙ q.2) in
    let behind : p.0 ≡ two.bytes ++ [] = empty ∙ sym (none_behind two.bytes ∙ none.0) in
    record {
      rest = q.1 ∙ ap Some none.1;
      none = ap (to_come a.reading) p.2 ∙ one.keeps p.0 ∙ ap (to_come b.reading) behind ∙ two.keeps [];
      same_length = omega (arith, one.taken_then, two.taken_then, ap length p.2, length-append one.bytes p.0, ap length empty, ap length none.0);
    })

-- the last lemma is taken at the end
pub last_passed : (a b c : Place) (l : NumberedLemma) → IfSome a.rest (HasAll a b) → to_come b.reading [] ≡ before_proof l (to_come c.reading [])
    → c.taken ≡ b.taken → c.rest ≡ b.rest → Passes (l ∷ []) a c
last_passed a b c l end takes taken rest = known (Passed (l ∷ []) a c) a.rest (λ left is.
    let p = at (HasAll a b) a.rest left is end in
    record {
      left_then = record { bytes = []; rest = rest ∙ p.rest; same_length = omega (arith, taken, p.same_length) };
      lemmas = p.none ∙ takes;
    })

-- none is taken there
pub last_ended : (a b : Place) → IfSome a.rest (HasAll a b) → to_come b.reading [] ≡ no_more → b.taken ≤ proof_limit → EndsBehind [] a
last_ended a b end none fits = known (Ended [] a) a.rest (λ left is.
    let p = at (HasAll a b) a.rest left is end in
    record { lemmas = p.none ∙ none; fits = omega (arith, p.same_length, fits) })

-- and a fault there
pub last_fault : (a b c : Place) (fault : DratFault) → IfSome a.rest (HasAll a b) → to_come b.reading [] ≡ at_fault fault → c.taken ≡ b.taken → c.rest ≡ b.rest → FaultBehind [] fault a c
last_fault a b c fault end meets taken rest = known (Faulty [] fault a c) a.rest (λ left is.
    let p = at (HasAll a b) a.rest left is end in
    record {
      left_then = record { bytes = []; rest = rest ∙ p.rest; same_length = omega (arith, taken, p.same_length) };
      lemmas = p.none ∙ meets;
    })

-- what the end says
pub last_said : (a b c : Place) (result : Result (Option Next) Fault) (before after : ShelfMoment) → IfSome a.rest (HasAll a b) → c.taken ≡ b.taken → c.rest ≡ b.rest → b.taken ≤ proof_limit
    → files_at after ≡ files_at before → Counts before.faults after.faults → after.faults ≡ before.faults → LastSays b.reading c.reading result → Reads (NextSays a c) result before after
last_said a b c (Ok (Some next)) before after end taken rest fits files counts same says =
    record { files = files; counts = counts; ok = ((says.0, last_passed a b c _ end says.1 taken rest), same); err = tt }
last_said a b c (Ok None) before after end taken rest fits files counts same says =
    record { files = files; counts = counts; ok = (last_ended a b end says fits, same); err = tt }
last_said a b c (Err (faults.Proof fault)) before after end taken rest fits files counts same says =
    record { files = files; counts = counts; ok = tt; err = (last_fault a b c fault end says taken rest, same) }
last_said a b c (Err faults.Memory) before after end taken rest fits files counts same says = record { files = files; counts = counts; ok = tt; err = tt }
last_said a b c (Err (faults.Dimacs f)) before after end taken rest fits files counts same says = absurd says
last_said a b c (Err (faults.Outside f)) before after end taken rest fits files counts same says = absurd says
last_said a b c (Err (faults.TooLong limit)) before after end taken rest fits files counts same says = absurd says
