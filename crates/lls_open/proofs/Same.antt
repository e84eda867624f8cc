-- Rules between two ends have the low end's backgrounds, so histories mean the same by all of them but for the transitions.
use Rattle.std.proofs.Common.{◌≡◌, ℕ, zero, suc, ◌+◌, ◌<◌, ℤ, pos, ◌+ℤ◌, ◌-ℤ◌, List, [], ◌∷◌, Bool, true, false, refl, ap, ◌∙◌, sym, subst, arith}
use Rattle.std.specs.Prelude.{replicate, unwrap_or}
use Rattle.lls_rule.specs.Rule.{answer, successor, background}
use Rattle.lls_grid.specs.History.{History, place_cell, at, nine}
use Rattle.lls_symmetry.specs.Symmetry.{IsSymmetric}
use Rattle.lls_problem.specs.declared.demands.Period.{Period}
use Rattle.lls_problem.specs.Problem.{PosedProblem, part_of}
use Rattle.lls_problem.specs.Solution.{IsDifference}
use Rattle.lls_encode.specs.Parts.{MeetsBefore, MeetsAfter}
use Rattle.lls_open.specs.Between.{IsBetween, AreEnds, with_rule}

-- one background in all generations
abbrev pub HaveSame : List Bool → List Bool → Type 0
HaveSame rule other = (t : ℕ) → background rule t ≡ background other t

end_same : (low high rule : List Bool) (n : ℕ) → IsBetween low high rule → n < 512 → answer low n ≡ answer high n → answer rule n ≡ answer low n
end_same low high rule n between h ends =
    elim (answer low n) as (λ b. answer low n ≡ b → answer rule n ≡ b) [
      | true ↦ λ live. between.above n h live
      | false ↦ λ dead. between.below n h (sym ends ∙ dead)
    ] refl

pub same_backgrounds : (low high rule : List Bool) → AreEnds low high → IsBetween low high rule → HaveSame rule low
same_backgrounds low high rule ends between zero = refl
same_backgrounds low high rule ends between (suc t) =
    ap (λ b. successor rule (replicate 9 b)) (same_backgrounds low high rule ends between t)
    ∙ elim (background low t) as (λ b. successor rule (replicate 9 b) ≡ successor low (replicate 9 b)) [
      | true ↦ end_same low high rule 511 between (omega arith) ends.live
      | false ↦ end_same low high rule 0 between (omega arith) ends.dead
    ]

pub at-same : (rule other : List Bool) (h : History) (t : ℕ) (y x : ℤ) → HaveSame rule other → at rule h t y x ≡ at other h t y x
at-same rule other h t y x same = ap (unwrap_or (place_cell h t y x)) (same t)

-- a generation as a function of places
at-all : (rule other : List Bool) (h : History) (t : ℕ) → HaveSame rule other → at rule h t ≡ at other h t
at-all rule other h t same = let value : Bool → ℤ → ℤ → Bool = λ b y x. unwrap_or (place_cell h t y x) b in ap value (same t)

pub nine-same : (rule other : List Bool) (h : History) (t : ℕ) (y x : ℤ) → HaveSame rule other → nine rule h t y x ≡ nine other h t y x
nine-same rule other h t y x same =
    ap (λ (value : ℤ → ℤ → Bool). value (y -ℤ pos 1) (x -ℤ pos 1) ∷ value (y -ℤ pos 1) x ∷ value (y -ℤ pos 1) (x +ℤ pos 1) ∷ value y (x -ℤ pos 1) ∷ value y x ∷ value y (x +ℤ pos 1)
    ∷ value (y +ℤ pos 1) (x -ℤ pos 1) ∷ value (y +ℤ pos 1) x ∷ value (y +ℤ pos 1) (x +ℤ pos 1) ∷ [])
    (at-all rule other h t same)

pub MeetsBefore-same : (p : PosedProblem) (rule other : List Bool) (h : History) → HaveSame rule other → MeetsBefore (with_rule p other) h → MeetsBefore (with_rule p rule) h
MeetsBefore-same p rule other h same meets = record {
  cells = meets.cells;
  symmetric = λ t t_in. subst (IsSymmetric p.demands.symmetry p.posed.height p.posed.width) (sym (at-all rule other h t same)) (meets.symmetric t t_in);
  moved = λ period is t y x t_in. at-same rule other h (t + period.length) (y +ℤ period.dy) (x +ℤ period.dx) same ∙ meets.moved period is t y x t_in ∙ sym (at-same rule other h t y x same);
}

pub MeetsAfter-same : (p : PosedProblem) (rule other : List Bool) (h : History) → HaveSame rule other → MeetsAfter (with_rule p other) h → MeetsAfter (with_rule p rule) h
MeetsAfter-same p rule other h same meets = record {
  populated = meets.populated;
  differ = λ pair is.
      let found = meets.differ pair is in
      let y : ℕ = found.0 in
      let x : ℕ = found.1.0 in
      let cell : IsDifference (with_rule p other) h pair.0 pair.1 y x = found.1.1 in (
        y,
        (
          x,
          record {
            row = cell.row;
            column = cell.column;
            differs = λ e. cell.differs (sym (at-same rule other h pair.0 (pos y) (pos x) same) ∙ e ∙ at-same rule other h pair.1 (pos y) (pos x) same);
          },
        ),
      );
  exact = λ on period is q prime divides there.
      let part : Period = part_of period q in
      meets.exact on period is q prime divides (λ y x.
      sym (at-same rule other h part.length (y +ℤ part.dy) (x +ℤ part.dx) same) ∙ there y x ∙ at-same rule other h 0 y x same);
  unlisted = meets.unlisted;
}
