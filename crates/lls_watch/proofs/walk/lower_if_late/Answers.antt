use Rattle.std.proofs.Common.{◌≡◌, ℕ, Some, refl, sym, ap, ◌∙◌, subst, arith, inl, inr}
use Rattle.std.specs.Option.{IsSome, option_map}
use Rattle.lls_store.specs.Trail.{Entry, entry_of, level_of}
use Rattle.lls_watch.proofs.Turns.{stands_false}
use Rattle.lls_watch.proofs.walk.lower_if_late.Goals as goal

pub known_level-requires : goal.known_level-requires
known_level-requires c =
    let false_at = stands_false c.args.trail.now c.args.progress.now.passed c.args.lit c.current-current.ensures.kept c.requires.lit in
    subst (λ v. IsSome (entry_of c.args.trail.now.entries v)) (sym c.var.ensures.var) (subst IsSome (sym false_at.by_variable) refl)

pub returns-then-known_level-current-clause-in_time : goal.returns-then-known_level-current-clause-in_time
returns-then-known_level-current-clause-in_time c = λ e found. inr c.lower.ensures.marked

pub returns-else-known_level-current-clause-in_time : goal.returns-else-known_level-current-clause-in_time
returns-else-known_level-current-clause-in_time c = λ e found.
    let false_at = stands_false c.args.trail.now c.args.progress.now.passed c.args.lit c.current-current.ensures.kept c.requires.lit in
    let level : Some c.known_level.result ≡ Some false_at.entry.level =
    sym c.known_level.ensures ∙ ap (level_of c.args.trail.now.entries) c.var.ensures.var ∙ ap (option_map (λ (x : Entry). x.level)) false_at.by_variable in
    let same : e ≡ false_at.entry = same_entry e false_at.entry (sym found ∙ false_at.found) in
    inl (omega (arith, same_number c.known_level.result false_at.entry.level level, ap (λ (x : Entry). x.level) same, c.current-current.ensures.current))
  where
    same_entry : (a b : Entry) → Some a ≡ Some b → a ≡ b
    same_entry a b e = cc

    same_number : (a b : ℕ) → Some a ≡ Some b → a ≡ b
    same_number a b e = cc
