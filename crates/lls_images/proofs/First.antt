-- Of a problem that has a solution, some solution comes first.
use Rattle.std.proofs.Common.{◌≡◌, ◌<◌, ◌≤◌, ℕ, zero, suc, ◌+◌, ◌*◌, ◌^◌, Bool, true, false, List, [], ◌∷◌, length, refl, sym, subst, arith, inl, inr, cond}
use Rattle.std.specs.Prelude.{All, ◌⊎◌}
use Rattle.std.specs.List.{AllByRecursion as Each, filter}
use Rattle.std.proofs.lemmas.Bool.{and_parts, and_from, cases_lt}
use Rattle.std.proofs.lemmas.List.Elements.{All-from_recursion}
use Rattle.std.proofs.lemmas.List.Sums.{length-filter, count_by-le-length}
use Rattle.lls_rule.proofs.Numbers.{number_of-lt}
use Rattle.lls_grid.specs.History.{History, cells_of_rows, rows_at}
use Rattle.lls_search_file.specs.Posed.{IsPosed}
use Rattle.lls_symmetry.specs.declared.motion.Motion.{Motion}
use Rattle.lls_symmetry.specs.Motion.{exchanges}
use Rattle.lls_problem.specs.Problem.{PosedProblem, AreFitting}
use Rattle.lls_problem.specs.Solution.{IsSolution}
use Rattle.lls_images.specs.Same.{looks_the_same, tells_apart, motions, same_motions}
use Rattle.lls_images.specs.First.{beginning, IsFirstOfKind, FirstLaw}
use Rattle.lls_images.proofs.Everywhere.{imaged}
use Rattle.lls_images.proofs.Patterns.{length-beginning}
use Rattle.lls_images.proofs.Solutions.{IsSame-by_test, IsSolution-image}

-- what a filter leaves passes it
each_filtered : (f : Motion → Bool) (xs : List Motion) → Each (λ x. f x ≡ true) (filter f xs)
each_filtered f [] = tt
each_filtered f (x ∷ xs) =
    elim (f x) as (λ b. f x ≡ b → Each (λ x. f x ≡ true) (cond b (x ∷ filter f xs) (filter f xs))) [
      | true ↦ λ passes. (passes, each_filtered f xs)
      | false ↦ λ fails. each_filtered f xs
    ] refl

pub Each-mapped : {X : Type 0} (P Q : X → Type 0) (xs : List X) → ((x : X) → P x → Q x) → Each P xs → Each Q xs
Each-mapped P Q [] so each = tt
Each-mapped P Q (x ∷ xs) so each = (so x each.0, Each-mapped P Q xs so each.1)

pub few_motions : (p : PosedProblem) → length (same_motions p) ≤ 7
unfolding same_motions
few_motions p = subst (λ n. n ≤ 7) (sym (length-filter (tells_apart p) motions)) (count_by-le-length (tells_apart p) motions)

module _ (p : PosedProblem) (fitting : AreFitting p.posed p.demands) (posed : IsPosed p.posed) where
  all_look : Each (λ motion. looks_the_same p motion ≡ true) (same_motions p)
  unfolding same_motions
  all_look =
      Each-mapped (λ motion. tells_apart p motion ≡ true) (λ motion. looks_the_same p motion ≡ true) (same_motions p) (λ motion tells. (and_parts _ (looks_the_same p motion) tells).1)
      (each_filtered (tells_apart p) motions)

  -- they take the grid to itself
  pub squares : All (λ motion. exchanges motion ≡ true → p.posed.height ≡ p.posed.width) (same_motions p)
  squares =
      All-from_recursion (λ motion. exchanges motion ≡ true → p.posed.height ≡ p.posed.width) (same_motions p)
      (Each-mapped (λ motion. looks_the_same p motion ≡ true) (λ motion. exchanges motion ≡ true → p.posed.height ≡ p.posed.width) (same_motions p) (λ motion looks. (IsSame-by_test p motion looks).square) all_look)

  -- all images of a solution are solutions
  pub images : (h : History) → IsSolution p h → All (λ motion. IsSolution p (imaged p motion h)) (same_motions p)
  images h solution =
      All-from_recursion (λ motion. IsSolution p (imaged p motion h)) (same_motions p)
      (Each-mapped (λ motion. looks_the_same p motion ≡ true) (λ motion. IsSolution p (imaged p motion h)) (same_motions p) (λ motion looks. IsSolution-image p motion h fitting posed looks solution) all_look)

  -- a motion whose image comes before the history, or none
  found_before : (h : History) (ms : List Motion) → Each (λ motion. looks_the_same p motion ≡ true) ms
      → Each (λ motion. beginning (imaged p motion h) ≤ beginning h) ms ⊎ ((motion : Motion) × (looks_the_same p motion ≡ true) × (beginning h < beginning (imaged p motion h)))
  found_before h [] look = inl tt
  found_before h (motion ∷ ms) look =
      elim (cases_lt (beginning h) (beginning (imaged p motion h))) [
        | inl more ↦ inr (motion, look.0, more)
        | inr rest ↦ elim (found_before h ms look.1) [
          | inl all ↦ inl (rest, all)
          | inr found ↦ inr found
        ]
      ]

  abbrev most : ℕ
  most = 2 ^ (p.posed.width * p.posed.height)

  beginning-lt : (h : History) → IsSolution p h → beginning h < most
  beginning-lt h solution =
      subst (λ n. beginning h < 2 ^ n) (length-beginning p.posed.generations p.posed.height p.posed.width h solution.sizes posed.generations.0) (number_of-lt (cells_of_rows (rows_at h 0)))

  -- going on to an image that comes before ends, for numbers have an end
  descend : (room : ℕ) (h : History) → IsSolution p h → most ≤ beginning h + room → (first : History) × IsFirstOfKind p h first
  descend zero h solution enough = absurd (let less = beginning-lt h solution in omega (arith, less, enough))
  descend (suc room) h solution enough =
      elim (found_before h (same_motions p) all_look) [
        | inl all ↦ (h, record { kind = record { motions = []; same = refl; taken = refl }; solution = solution; first = All-from_recursion (λ motion. beginning (imaged p motion h) ≤ beginning h) (same_motions p) all })
        | inr found ↦
            let more = found.2 in
            let last = descend room (imaged p found.0 h) (IsSolution-image p found.0 h fitting posed found.1 solution) (omega (arith, more, enough)) in (
              last.0,
              record {
                kind = record {
                  motions = found.0 ∷ last.1.kind.motions;
                  same = and_from _ _ found.1 last.1.kind.same;
                  taken = last.1.kind.taken;
                };
                solution = last.1.solution;
                first = last.1.first;
              },
            )
      ]

  pub first_law : FirstLaw p
  first_law = λ h solution. descend most h solution (omega arith)
