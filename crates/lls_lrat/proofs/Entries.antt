-- Literals that are taken as false, as they are put and taken back.
use Rattle.std.proofs.Common.{◌≡◌, ℕ, ◌≤◌, Bool, true, false, not, ◌||◌, ◌&&◌, List, [], ◌∷◌, ◌++◌, take, refl, sym, ap, ◌∙◌, append_assoc}
use Rattle.std.specs.Prelude.{ℤ, nat_le}
use Rattle.std.specs.List.{list_all, take-map}
use Rattle.std.specs.Ordering.{int_cmp, int_eq}
use Rattle.std.specs.FinSet as set
use Rattle.std.proofs.lemmas.Cmp.{int_cmp_total}
use Rattle.std.proofs.lemmas.Bool.{and_parts, le-leb, not-true}
use Rattle.std.proofs.lemmas.Bool.Decides.{Decides-int_eq}
use Rattle.std.proofs.lemmas.List.{append-nil, map-append}
use Rattle.std.proofs.lemmas.List.Folds.{list_all-append}
use Rattle.lls_lit.specs.Literal.{variable_of}
use Rattle.lls_lit.specs.Marked.{Marked}
use Rattle.lls_prooflog.specs.UnitWalk.{is_among}
use Rattle.lls_lrat.specs.declared.assumed.Entry.{Entry}
use Rattle.lls_lrat.specs.Entered.{AssumedState, lits_of, AreFirsts, AreEntered}

pub among_entered : (marks : Marked) (entries : List Entry) (l : ℤ) → AreEntered marks entries → set.contains marks.lits l ≡ is_among (lits_of entries) l
among_entered marks entries l h = ap (λ (s : set.FinSet int_cmp). set.contains s l) h.marked ∙ set.contains-from_list int_cmp_total (lits_of entries) l

pub same_state : (a b : AssumedState) → a.vars ≡ b.vars → a.lits ≡ b.lits → a ≡ b
same_state a b e f = ap (λ v. record a { vars = v }) e ∙ ap (λ ls. record b { lits = ls }) f

pub lits_of-take : (n : ℕ) (entries : List Entry) → lits_of (take n entries) ≡ take n (lits_of entries)
lits_of-take n entries = sym (take-map (λ (e : Entry). e.lit) n entries)

pub AreEntered-none : (vars : ℕ) → AreEntered (record { vars = vars; lits = set.empty }) []
AreEntered-none vars = record { marked = refl; within = refl; firsts = tt }

lits_of-push : (entries : List Entry) (entry : Entry) → lits_of (entries ++ entry ∷ []) ≡ lits_of entries ++ entry.lit ∷ []
lits_of-push entries entry = map-append (λ (e : Entry). e.lit) entries (entry ∷ [])

AreFirsts-push : (before : List ℤ) (entries : List Entry) (entry : Entry) → AreFirsts before entries → entry.is_first ≡ not (is_among (before ++ lits_of entries) entry.lit) → AreFirsts before (entries ++ entry ∷ [])
AreFirsts-push before [] entry firsts is = (is ∙ ap (λ ls. not (is_among ls entry.lit)) (append-nil before), tt)
AreFirsts-push before (e ∷ es) entry firsts is = (firsts.0, AreFirsts-push (before ++ e.lit ∷ []) es entry firsts.1 (is ∙ ap (λ ls. not (is_among ls entry.lit)) (sym (append_assoc before (e.lit ∷ []) (lits_of es)))))

last_first : (before : List ℤ) (entries : List Entry) (entry : Entry) → AreFirsts before (entries ++ entry ∷ []) → AreFirsts before entries × (entry.is_first ≡ not (is_among (before ++ lits_of entries) entry.lit))
last_first before [] entry firsts = (tt, firsts.0 ∙ ap (λ ls. not (is_among ls entry.lit)) (sym (append-nil before)))
last_first before (e ∷ es) entry firsts =
    let rest = last_first (before ++ e.lit ∷ []) es entry firsts.1 in
    ((firsts.0, rest.0), rest.1 ∙ ap (λ ls. not (is_among ls entry.lit)) (append_assoc before (e.lit ∷ []) (lits_of es)))

pub AreEntered-put : (marks : Marked) (entries : List Entry) (entry : Entry) → AreEntered marks entries → entry.is_first ≡ not (set.contains marks.lits entry.lit) → variable_of entry.lit ≤ marks.vars → AreEntered (record { vars = marks.vars; lits = set.insert marks.lits entry.lit }) (entries ++ entry ∷ [])
AreEntered-put marks entries entry h is le = record {
  marked =
      ap (λ (s : set.FinSet int_cmp). set.insert s entry.lit) h.marked ∙ sym (set.from_list_push int_cmp_total set.int_cmp-IsAntisymmetric (lits_of entries) entry.lit)
      ∙ ap set.from_list (sym (lits_of-push entries entry));
  within = list_all-append (λ (e : Entry). nat_le (variable_of e.lit) marks.vars) entries (entry ∷ []) ∙ rw (h.within, le-leb (variable_of entry.lit) marks.vars le) refl;
  firsts = AreFirsts-push [] entries entry h.firsts (is ∙ ap not (among_entered marks entries entry.lit h));
}

-- a literal that is put where it wasn't, and taken out again
taken_back : (s : set.FinSet int_cmp) (l : ℤ) → set.contains s l ≡ false → set.remove (set.insert s l) l ≡ s
taken_back s l out = set.same_set int_cmp_total set.int_cmp-IsAntisymmetric _ _ (λ q.
    set.contains-remove int_cmp_total (set.insert s l) l q ∙ ap (λ b. not (int_eq q l) && b) (set.contains-insert int_cmp_total s l q) ∙ by_test (int_eq q l) q refl)
  where
    by_test : (b : Bool) (q : ℤ) → int_eq q l ≡ b → (not b && (b || set.contains s q)) ≡ set.contains s q
    by_test true q is = sym (ap (set.contains s) ((Decides-int_eq q l).0 is) ∙ out)
    by_test false q is = refl

-- one that is put where it was
put_again : (s : set.FinSet int_cmp) (l : ℤ) → set.contains s l ≡ true → set.insert s l ≡ s
put_again s l inside = set.same_set int_cmp_total set.int_cmp-IsAntisymmetric _ _ (λ q. set.contains-insert int_cmp_total s l q ∙ by_test (int_eq q l) q refl)
  where
    by_test : (b : Bool) (q : ℤ) → int_eq q l ≡ b → (b || set.contains s q) ≡ set.contains s q
    by_test true q is = sym (ap (set.contains s) ((Decides-int_eq q l).0 is) ∙ inside)
    by_test false q is = refl

-- the last literal is taken back
module _ (marks : Marked) (entries : List Entry) (entry : Entry) (h : AreEntered marks (entries ++ entry ∷ [])) where
  abbrev before : set.FinSet int_cmp
  before = set.from_list (lits_of entries)

  lits_are : marks.lits ≡ set.insert before entry.lit
  lits_are = h.marked ∙ ap set.from_list (lits_of-push entries entry) ∙ set.from_list_push int_cmp_total set.int_cmp-IsAntisymmetric (lits_of entries) entry.lit

  parts : (list_all (λ (e : Entry). nat_le (variable_of e.lit) marks.vars) entries ≡ true) × (list_all (λ (e : Entry). nat_le (variable_of e.lit) marks.vars) (entry ∷ []) ≡ true)
  parts = and_parts _ _ (sym (list_all-append (λ (e : Entry). nat_le (variable_of e.lit) marks.vars) entries (entry ∷ [])) ∙ h.within)

  pub last_within : nat_le (variable_of entry.lit) marks.vars ≡ true
  last_within = (and_parts (nat_le (variable_of entry.lit) marks.vars) true parts.1).0

  is_last : entry.is_first ≡ not (set.contains before entry.lit)
  is_last = (last_first [] entries entry h.firsts).1 ∙ ap not (sym (set.contains-from_list int_cmp_total (lits_of entries) entry.lit))

  pub AreEntered-taken : entry.is_first ≡ true → AreEntered (record { vars = marks.vars; lits = set.remove marks.lits entry.lit }) entries
  AreEntered-taken first = record {
    marked = ap (λ (s : set.FinSet int_cmp). set.remove s entry.lit) lits_are ∙ taken_back before entry.lit (not-true (set.contains before entry.lit) (sym is_last ∙ first));
    within = parts.0;
    firsts = (last_first [] entries entry h.firsts).0;
  }

  pub AreEntered-left : entry.is_first ≡ false → AreEntered marks entries
  AreEntered-left again = record {
    marked = lits_are ∙ put_again before entry.lit (is_true (set.contains before entry.lit) (sym is_last ∙ again));
    within = parts.0;
    firsts = (last_first [] entries entry h.firsts).0;
  } where
    is_true : (b : Bool) → not b ≡ false → b ≡ true
    is_true true e = refl
    is_true false e = absurd cc
