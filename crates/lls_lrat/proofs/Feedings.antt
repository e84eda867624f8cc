-- A check of a proof in pieces comes to what the whole text does, however it is cut.
use Rattle.std.proofs.Common.{◌≡◌, ℕ, Bool, true, false, cond, eqb, ◌||◌, List, [], ◌∷◌, ◌++◌, map, Option, Some, None, refl, sym, ap, ◌∙◌, append_assoc}
use Rattle.std.specs.Prelude.{fold}
use Rattle.std.specs.List.{onto_first}
use Rattle.std.specs.Str.Lines.{strip_carriage_return}
use Rattle.std.proofs.lemmas.List.{map-append}
use Rattle.std.proofs.lemmas.List.Folds.{list_any-append}
use Rattle.std.proofs.lemmas.List.Sums.{fold-append}
use Rattle.lls_text.specs.Lines.{is_line_feed, line_feed, cut_lines}
use Rattle.lls_lit.specs.Formula.{Cnf}
use Rattle.lls_prooflog.specs.FirstLine.{has_line}
use Rattle.lls_lrat.specs.Verdict.{Verdict, State, start, line_taken, closing, verdict}
use Rattle.lls_lrat.specs.Feeding.{before_lines, whole_lines, behind_lines, Feeding, begun, waiting, between, lines_taken, run_over, fed, last_taken, ending}
use Rattle.lls_lrat.proofs.Verdicts.{line_taken-ended, fold-ended}

-- without an LF no line is whole, and all stands behind
pub no_whole_lines : (bytes : List ℕ) → has_line bytes ≡ false → whole_lines bytes ≡ []
no_whole_lines [] e = refl
no_whole_lines (b ∷ bs) e =
    elim (eqb b 10) as (λ v. (v || has_line bs) ≡ false → cond v ([] ∷ whole_lines bs) (before_lines b (whole_lines bs)) ≡ []) [
      | true ↦ λ h. absurd cc
      | false ↦ λ h. ap (before_lines b) (no_whole_lines bs h)
    ] e

pub all_behind : (bytes : List ℕ) → has_line bytes ≡ false → behind_lines bytes ≡ bytes
all_behind [] e = refl
all_behind (b ∷ bs) e = ap (λ v. cond v (behind_lines bs) (b ∷ bs)) e

-- the first line is the first whole line
pub whole_lines-first : (line rest : List ℕ) → has_line line ≡ false → whole_lines (line ++ line_feed ∷ rest) ≡ line ∷ whole_lines rest
whole_lines-first [] rest e = refl
whole_lines-first (b ∷ bs) rest e =
    let all = bs ++ line_feed ∷ rest in
    elim (eqb b 10) as (λ v. (v || has_line bs) ≡ false → cond v ([] ∷ whole_lines all) (before_lines b (whole_lines all)) ≡ (b ∷ bs) ∷ whole_lines rest) [
      | true ↦ λ h. absurd cc
      | false ↦ λ h. ap (before_lines b) (whole_lines-first bs rest h)
    ] e

or_true : (b : Bool) → (b || true) ≡ true
or_true true = refl
or_true false = refl

pub behind_lines-first : (line rest : List ℕ) → behind_lines (line ++ line_feed ∷ rest) ≡ behind_lines rest
behind_lines-first [] rest = refl
behind_lines-first (b ∷ bs) rest =
    let all = bs ++ line_feed ∷ rest in
    let some : has_line (b ∷ all) ≡ true = list_any-append is_line_feed (b ∷ bs) (line_feed ∷ rest) ∙ or_true (has_line (b ∷ bs)) in
    ap (λ v. cond v (behind_lines all) (b ∷ all)) some ∙ behind_lines-first bs rest

-- with an LF some line is whole
some_whole_line : (bytes : List ℕ) → has_line bytes ≡ true → (line : List ℕ) × ((lines : List (List ℕ)) × (whole_lines bytes ≡ line ∷ lines))
some_whole_line [] e = absurd cc
some_whole_line (b ∷ bs) e =
    elim (eqb b 10) as (λ v. (v || has_line bs) ≡ true → (line : List ℕ) × ((lines : List (List ℕ)) × (cond v ([] ∷ whole_lines bs) (before_lines b (whole_lines bs)) ≡ line ∷ lines))) [
      | true ↦ λ _. ([], (whole_lines bs, refl))
      | false ↦ λ h. let more = some_whole_line bs h in (b ∷ more.0, (more.1.0, ap (before_lines b) more.1.1))
    ] e

before_lines-append : (b : ℕ) (lines more : List (List ℕ)) (line : List ℕ) (others : List (List ℕ)) → lines ≡ line ∷ others → before_lines b (lines ++ more) ≡ before_lines b lines ++ more
before_lines-append b lines more line others e = rw e refl

whole_lines-append : (front back : List ℕ) → whole_lines (front ++ back) ≡ whole_lines front ++ whole_lines (behind_lines front ++ back)
whole_lines-append [] back = refl
whole_lines-append (b ∷ bs) back =
    let all = whole_lines (bs ++ back) in
    let more = whole_lines (behind_lines bs ++ back) in
    let others : all ≡ whole_lines bs ++ more = whole_lines-append bs back in
    elim (eqb b 10) as (λ v. eqb b 10 ≡ v → cond v ([] ∷ all) (before_lines b all) ≡ cond v ([] ∷ whole_lines bs) (before_lines b (whole_lines bs)) ++ whole_lines (cond (v || has_line bs) (behind_lines bs) (b ∷ bs) ++ back)) [
      | true ↦ λ _. ap (λ (ls : List (List ℕ)). [] ∷ ls) others
      | false ↦ λ other.
          elim (has_line bs) as (λ w. has_line bs ≡ w → before_lines b all ≡ before_lines b (whole_lines bs) ++ whole_lines (cond w (behind_lines bs) (b ∷ bs) ++ back)) [
            | true ↦ λ some.
                let first = some_whole_line bs some in
                ap (before_lines b) others ∙ before_lines-append b (whole_lines bs) more first.0 first.1.0 first.1.1
            | false ↦ λ none.
                rw (no_whole_lines bs none) (sym (ap (λ v. cond v ([] ∷ all) (before_lines b all)) other))
          ] refl
    ] refl

behind_lines-append : (front back : List ℕ) → behind_lines (front ++ back) ≡ behind_lines (behind_lines front ++ back)
behind_lines-append [] back = refl
behind_lines-append (b ∷ bs) back =
    elim (has_line (b ∷ bs)) as (λ v. has_line (b ∷ bs) ≡ v → behind_lines (b ∷ (bs ++ back)) ≡ behind_lines (cond v (behind_lines bs) (b ∷ bs) ++ back)) [
      | true ↦ λ some.
          let whole : has_line (b ∷ (bs ++ back)) ≡ true = list_any-append is_line_feed (b ∷ bs) back ∙ ap (λ v. v || has_line back) some in
          ap (λ v. cond v (behind_lines (bs ++ back)) (b ∷ (bs ++ back))) whole ∙ behind_lines-append bs back
      | false ↦ λ _. refl
    ] refl

-- all lines are the whole ones, and then what stands behind them, if that is anything
abbrev line_of : List ℕ → List (List ℕ)
line_of [] = []
line_of (b ∷ bs) = (b ∷ bs) ∷ []

onto_line : (b : ℕ) (bs : List ℕ) → onto_first b (line_of bs) ≡ (b ∷ bs) ∷ []
onto_line b [] = refl
onto_line b (c ∷ cs) = refl

onto_first-append : (b : ℕ) (lines more : List (List ℕ)) (line : List ℕ) (others : List (List ℕ)) → lines ≡ line ∷ others → onto_first b (lines ++ more) ≡ before_lines b lines ++ more
onto_first-append b lines more line others e = rw e refl

cut_lines-whole : (bytes : List ℕ) → cut_lines bytes ≡ whole_lines bytes ++ line_of (behind_lines bytes)
cut_lines-whole [] = refl
cut_lines-whole (b ∷ bs) =
    let rest = line_of (behind_lines bs) in
    elim (eqb b 10) as (λ v. cond v ([] ∷ cut_lines bs) (onto_first b (cut_lines bs)) ≡ cond v ([] ∷ whole_lines bs) (before_lines b (whole_lines bs)) ++ line_of (cond (v || has_line bs) (behind_lines bs) (b ∷ bs))) [
      | true ↦ ap (λ (ls : List (List ℕ)). [] ∷ ls) (cut_lines-whole bs)
      | false ↦
          elim (has_line bs) as (λ w. has_line bs ≡ w → onto_first b (cut_lines bs) ≡ before_lines b (whole_lines bs) ++ line_of (cond w (behind_lines bs) (b ∷ bs))) [
            | true ↦ λ some.
                let first = some_whole_line bs some in
                ap (onto_first b) (cut_lines-whole bs) ∙ onto_first-append b (whole_lines bs) rest first.0 first.1.0 first.1.1
            | false ↦ λ none.
                ap (onto_first b) (cut_lines-whole bs) ∙ rw (no_whole_lines bs none, all_behind bs none) (onto_line b bs)
          ] refl
    ]

lines_taken-append : (check : State) (lines more : List (List ℕ)) → lines_taken check (lines ++ more) ≡ lines_taken (lines_taken check lines) more
lines_taken-append check lines more =
    ap (fold line_taken check) (map-append strip_carriage_return lines more) ∙ fold-append line_taken check (map strip_carriage_return lines) (map strip_carriage_return more)

pub lines_taken-ended : (check : State) (end : Verdict) (lines : List (List ℕ)) → check.end ≡ Some end → lines_taken check lines ≡ check
lines_taken-ended check end lines e = fold-ended line_taken line_taken-ended check end (map strip_carriage_return lines) e

-- nothing waits at an end
pub between-ended : (check : State) (end : Verdict) (bytes others : List ℕ) → check.end ≡ Some end → between check bytes ≡ between check others
between-ended check end bytes others e =
    let rests : (o : Option Verdict) → o ≡ Some end → waiting o bytes ≡ waiting o others = λ o is. rw is refl in
    ap (λ (rest : List ℕ). record { check = check; rest = rest }) (rests check.end e)

-- the whole lines of two pieces
run_over-append : (check : State) (front back : List ℕ) → fed (run_over check front) back ≡ run_over check (front ++ back)
run_over-append check front back =
    let now = lines_taken check (whole_lines front) in
    let behind = behind_lines front ++ back in
    let lines : lines_taken check (whole_lines (front ++ back)) ≡ lines_taken now (whole_lines behind) =
    ap (lines_taken check) (whole_lines-append front back) ∙ lines_taken-append check (whole_lines front) (whole_lines behind)
    in let whole : run_over check (front ++ back) ≡ run_over now behind =
    ap (λ (s : State). between s (behind_lines (front ++ back))) lines ∙ ap (between (lines_taken now (whole_lines behind))) (behind_lines-append front back)
    in elim now.end as (λ o. now.end ≡ o → run_over now (waiting o (behind_lines front) ++ back) ≡ run_over check (front ++ back)) [
      | None ↦ λ _. sym whole
      | Some end ↦ λ e.
          ap (λ (s : State). between s (behind_lines back)) (lines_taken-ended now end (whole_lines back) e)
          ∙ between-ended now end (behind_lines back) (behind_lines behind) e
          ∙ sym (ap (λ (s : State). between s (behind_lines behind)) (lines_taken-ended now end (whole_lines behind) e))
          ∙ sym whole
    ] refl

-- two pieces come to what both together do
pub fed_fed : (feeding : Feeding) (piece more : List ℕ) → fed (fed feeding piece) more ≡ fed feeding (piece ++ more)
fed_fed feeding piece more =
    run_over-append feeding.check (feeding.rest ++ piece) more ∙ ap (run_over feeding.check) (append_assoc feeding.rest piece more)

last_taken-line : (check : State) (rest : List ℕ) → last_taken check rest ≡ lines_taken check (line_of rest)
last_taken-line check [] = refl
last_taken-line check (b ∷ bs) = refl

pub last_taken-ended : (check : State) (end : Verdict) (rest : List ℕ) → check.end ≡ Some end → last_taken check rest ≡ check
last_taken-ended check end [] e = refl
last_taken-ended check end (b ∷ bs) e = line_taken-ended check end (strip_carriage_return (b ∷ bs)) e

-- the bytes that wait are the last line, and at an end it changes nothing
pub ending-between : (check : State) (bytes : List ℕ) → ending (between check bytes) ≡ closing (last_taken check bytes).end
ending-between check bytes =
    elim check.end as (λ o. check.end ≡ o → closing (last_taken check (waiting o bytes)).end ≡ closing (last_taken check bytes).end) [
      | None ↦ λ _. refl
      | Some end ↦ λ e. ap (λ (s : State). closing s.end) (sym (last_taken-ended check end bytes e))
    ] refl

-- a proof in one piece comes to what its text does
pub ending_fed : (formula : Cnf) (text : List ℕ) → ending (fed (begun formula) text) ≡ verdict formula text
ending_fed formula text =
    let now = lines_taken (start formula) (whole_lines text) in
    ending-between now (behind_lines text)
    ∙ ap (λ (s : State). closing s.end)
    (last_taken-line now (behind_lines text)
    ∙ sym (lines_taken-append (start formula) (whole_lines text) (line_of (behind_lines text)))
    ∙ ap (lines_taken (start formula)) (sym (cut_lines-whole text)))
