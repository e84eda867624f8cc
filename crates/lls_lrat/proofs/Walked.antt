-- Walks along hints, as a loop goes through them.
use Rattle.std.proofs.Common.{◌≡◌, ℕ, ◌+◌, ◌<◌, ◌≤◌, true, false, cond, List, [], ◌∷◌, ◌++◌, length, get_or, drop, Option, Some, None, refl, sym, ap, ◌∙◌, append_assoc, arith}
use Rattle.std.specs.Prelude.{ℤ, pos, negsuc}
use Rattle.std.specs.List.{list_all}
use Rattle.std.specs.Ordering.{int_eq}
use Rattle.std.proofs.lemmas.List.{drop_more, drop_all}
use Rattle.lls_lit.specs.Literal.{variable_of, negation}
use Rattle.lls_lit.specs.Formula.{Clause}
use Rattle.lls_prooflog.specs.declared.step_fault.StepFault.{StepFault}
use Rattle.lls_prooflog.specs.declared.step_fault.StepFault.TheVariants.{NoClause, NotUnit}
use Rattle.lls_prooflog.specs.UnitWalk.{Live, find_clause, remaining, at_clause, at_hint, walk_on}
use Rattle.lls_prooflog.specs.Rat.{groups_of}
use Rattle.lls_prooflog.specs.Pieces.{Begins}
use Rattle.lls_lrat.specs.declared.walk.Left.{Left}
use Rattle.lls_lrat.specs.declared.walk.Left.TheVariants.{Nothing, One, More}
use Rattle.lls_lrat.specs.Left.{left_in}
use Rattle.lls_lrat.specs.Walked.{Walk, Closes, Stays, Stops, at_left, at_found, walk_from}
use Rattle.lls_lrat.specs.Grouped.{is_negative, begins_group, IsNextGroup}

-- what a walk says, where at its end something is said of what is taken as false
abbrev pub said : (List ℤ → Option StepFault) → Walk → Option StepFault
said at_end (Closes place) = None
said at_end (Stays place assumed) = at_end assumed
said at_end (Stops fault) = Some fault

said_left : (at_end : List ℤ → Option StepFault) (hint : ℤ) (place : ℕ) (lits : List ℤ) (one : ℤ → Option StepFault) (other : ℤ → Walk) → ((l : ℤ) → one l ≡ said at_end (other l)) → at_clause hint lits one ≡ said at_end (at_left hint place (left_in lits) other)
said_left at_end hint place [] one other each = refl
said_left at_end hint place (l ∷ ls) one other each =
    elim (list_all (int_eq l) ls) as (λ b. cond b (one l) (Some (NotUnit hint)) ≡ said at_end (at_left hint place (cond b (One l) More) other)) [
      | true ↦ each l
      | false ↦ refl
    ]

said_found : (at_end : List ℤ → Option StepFault) (hint : ℤ) (place : ℕ) (assumed : List ℤ) (found : Option Clause) (one : ℤ → Option StepFault) (other : ℤ → Walk) → ((l : ℤ) → one l ≡ said at_end (other l)) → at_hint hint assumed found one ≡ said at_end (at_found hint place assumed found other)
said_found at_end hint place assumed None one other each = refl
said_found at_end hint place assumed (Some clause) one other each = said_left at_end hint place (remaining assumed clause) one other each

pub walk_on-walk_from : (live : Live) (at_end : List ℤ → Option StepFault) (assumed : List ℤ) (place : ℕ) (hints : List ℤ) → walk_on live at_end assumed hints ≡ said at_end (walk_from live assumed place hints)
walk_on-walk_from live at_end assumed place [] = refl
walk_on-walk_from live at_end assumed place (pos id ∷ hints) =
    said_found at_end (pos id) place assumed (find_clause live id) (λ l. walk_on live at_end (assumed ++ negation l ∷ []) hints) (λ l. walk_from live (assumed ++ negation l ∷ []) (place + 1) hints) (λ l. walk_on-walk_from live at_end (assumed ++ negation l ∷ []) (place + 1) hints)
walk_on-walk_from live at_end assumed place (negsuc n ∷ hints) = refl

-- one hint of a walk
walk_at-negative : (live : Live) (assumed : List ℤ) (place : ℕ) (hint : ℤ) (rest : List ℤ) → is_negative hint ≡ true → walk_from live assumed place (hint ∷ rest) ≡ Stays place assumed
walk_at-negative live assumed place (pos n) rest e = absurd cc
walk_at-negative live assumed place (negsuc n) rest e = refl

walk_at : (live : Live) (assumed : List ℤ) (place : ℕ) (hint : ℤ) (rest : List ℤ) → is_negative hint ≡ false → walk_from live assumed place (hint ∷ rest) ≡ at_found hint place assumed (find_clause live (variable_of hint)) (λ l. walk_from live (assumed ++ negation l ∷ []) (place + 1) rest)
walk_at live assumed place (pos n) rest e = refl
walk_at live assumed place (negsuc n) rest e = absurd cc

groups_of-positive : (hint : ℤ) (rest : List ℤ) → is_negative hint ≡ false → groups_of (hint ∷ rest) ≡ groups_of rest
groups_of-positive (pos n) rest e = refl
groups_of-positive (negsuc n) rest e = absurd cc

begins_group-negative : (hint : ℤ) (rest : List ℤ) → is_negative hint ≡ true → begins_group (hint ∷ rest) ≡ true
begins_group-negative (pos n) rest e = absurd cc
begins_group-negative (negsuc n) rest e = refl

-- the hints from a place on, as far as no group begins
pub record Passed (hints : List ℤ) (from place : ℕ) : Type 0 where
  pub groups : groups_of (drop place hints) ≡ groups_of (drop from hints)
  pub behind : from ≤ place

pub passes_none : (hints : List ℤ) (from : ℕ) → Passed hints from from
passes_none hints from = record { groups = refl; behind = omega arith }

module _ (hints : List ℤ) (from place : ℕ) (p : Passed hints from place) where
  pub next_at_end : length hints ≤ place → place ≤ length hints → IsNextGroup hints from place
  next_at_end le within = record { groups = p.groups; begins = ap begins_group (drop_all place hints le); behind = p.behind; within = within }

  module _ (hint : ℤ) (lt : place < length hints) (is : hint ≡ get_or hints place (pos 0)) where
    pub rest_is : drop place hints ≡ hint ∷ drop (place + 1) hints
    rest_is = drop_more hints place (pos 0) lt ∙ ap (λ (h : ℤ). h ∷ drop (place + 1) hints) (sym is)

    pub next_here : is_negative hint ≡ true → IsNextGroup hints from place
    next_here e = record { groups = p.groups; begins = ap begins_group rest_is ∙ begins_group-negative hint (drop (place + 1) hints) e; behind = p.behind; within = omega (arith, lt) }

    pub passes_on : is_negative hint ≡ false → Passed hints from (place + 1)
    passes_on e = record { groups = sym (groups_of-positive hint (drop (place + 1) hints) e) ∙ sym (ap groups_of rest_is) ∙ p.groups; behind = omega (arith, p.behind) }

-- a walk from a place on, which came to another
pub record Follows (live : Live) (start : List ℤ) (hints : List ℤ) (from : ℕ) (assumed : List ℤ) (place : ℕ) : Type 0 where
  pub walk : walk_from live start from (drop from hints) ≡ walk_from live assumed place (drop place hints)
  pub passed : Passed hints from place
  pub begins : Begins start assumed

pub follows_none : (live : Live) (start hints : List ℤ) (from : ℕ) (none : Begins start start) → Follows live start hints from start from
follows_none live start hints from none = record { walk = refl; passed = passes_none hints from; begins = none }

module _ (live : Live) (start hints : List ℤ) (from : ℕ) (assumed : List ℤ) (place : ℕ) (f : Follows live start hints from assumed place) where
  pub stays_at_end : length hints ≤ place → walk_from live start from (drop from hints) ≡ Stays place assumed
  stays_at_end le = f.walk ∙ ap (walk_from live assumed place) (drop_all place hints le)

  module _ (hint : ℤ) (lt : place < length hints) (is : hint ≡ get_or hints place (pos 0)) where
    here : walk_from live start from (drop from hints) ≡ walk_from live assumed place (hint ∷ drop (place + 1) hints)
    here = f.walk ∙ ap (walk_from live assumed place) (rest_is hints from place f.passed hint lt is)

    pub stays_here : is_negative hint ≡ true → walk_from live start from (drop from hints) ≡ Stays place assumed
    stays_here e = here ∙ walk_at-negative live assumed place hint (drop (place + 1) hints) e

    module _ (positive : is_negative hint ≡ false) where
      at_clause_of : (found : Option Clause) → find_clause live (variable_of hint) ≡ found → walk_from live start from (drop from hints) ≡ at_found hint place assumed found (λ l. walk_from live (assumed ++ negation l ∷ []) (place + 1) (drop (place + 1) hints))
      at_clause_of found e = here ∙ walk_at live assumed place hint (drop (place + 1) hints) positive ∙ ap (λ o. at_found hint place assumed o (λ l. walk_from live (assumed ++ negation l ∷ []) (place + 1) (drop (place + 1) hints))) e

      pub stops_without : find_clause live (variable_of hint) ≡ None → walk_from live start from (drop from hints) ≡ Stops (NoClause hint)
      stops_without e = at_clause_of None e

      module _ (clause : Clause) (found : find_clause live (variable_of hint) ≡ Some clause) where
        with_left : (left : Left) → left ≡ left_in (remaining assumed clause) → walk_from live start from (drop from hints) ≡ at_left hint place left (λ l. walk_from live (assumed ++ negation l ∷ []) (place + 1) (drop (place + 1) hints))
        with_left left e = at_clause_of (Some clause) found ∙ ap (λ m. at_left hint place m (λ l. walk_from live (assumed ++ negation l ∷ []) (place + 1) (drop (place + 1) hints))) (sym e)

        pub closes_here : Nothing ≡ left_in (remaining assumed clause) → walk_from live start from (drop from hints) ≡ Closes (place + 1)
        closes_here e = with_left Nothing e

        pub stops_here : More ≡ left_in (remaining assumed clause) → walk_from live start from (drop from hints) ≡ Stops (NotUnit hint)
        stops_here e = with_left More e

        pub follows_on : (l : ℤ) → One l ≡ left_in (remaining assumed clause) → Follows live start hints from (assumed ++ negation l ∷ []) (place + 1)
        follows_on l e = record {
          walk = with_left (One l) e;
          passed = passes_on hints from place f.passed hint lt is positive;
          begins = (f.begins.0 ++ negation l ∷ [], ap (λ (ls : List ℤ). ls ++ negation l ∷ []) f.begins.1 ∙ append_assoc start f.begins.0 (negation l ∷ []));
        }
