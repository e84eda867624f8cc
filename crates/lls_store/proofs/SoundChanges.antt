-- A sound trail stays so when it is cut, when a literal is put at its end, and when a clause comes.
use Rattle.std.proofs.Common.{◌≡◌, ◌⊎◌, inl, inr, ℕ, List, [], ◌∷◌, ◌++◌, take, drop, Option, Some, refl, sym, ap, subst, ◌∙◌, append_assoc}
use Rattle.std.specs.Prelude.{ℤ, nat_le, ◌==◌}
use Rattle.std.specs.List.{prefix_len}
use Rattle.std.proofs.lemmas.List.{same_from_push, take-append-drop}
use Rattle.std.proofs.lemmas.List.Folds.{find-append}
use Rattle.std.specs.Option.{option_or}
use Rattle.lls_store.specs.Trail.{Entry, TrailState}
use Rattle.lls_store.specs.Changes.{cut_to, decided, forced, taken}
use Rattle.lls_store.specs.Clauses.{LiveClause, clause_numbered}
use Rattle.lls_store.specs.Sound.{IsForced, IsSound}

-- sound, of entries alone
abbrev AreSound : List LiveClause → List Entry → Type 0
AreSound live entries =
    (before after : List Entry) (e : Entry) (reason : ℕ)
    → entries ≡ before ++ e ∷ after
    → e.reason ≡ Some reason
    → IsForced live before e.lit reason

AreSound-front : (live : List LiveClause) (es more : List Entry) → AreSound live (es ++ more) → AreSound live es
AreSound-front live es more sound before after e reason splits is =
    sound before (after ++ more) e reason (ap (λ (all : List Entry). all ++ more) splits ∙ append_assoc before (e ∷ after) more) is

pub IsSound-cut_to : (live : List LiveClause) (t : TrailState) (level : ℕ) → IsSound live t → IsSound live (cut_to t level)
IsSound-cut_to live t level sound =
    let n = prefix_len (λ (e : Entry). nat_le e.level level) t.entries in
    AreSound-front live (take n t.entries) (drop n t.entries) (subst (AreSound live) (sym (take-append-drop n t.entries)) sound)

-- a list is empty or has a last element
by_last : (es : List Entry) → (es ≡ []) ⊎ ((front : List Entry) × (last : Entry) × (es ≡ front ++ last ∷ []))
by_last [] = inl refl
by_last (x ∷ xs) =
    elim (by_last xs) [
      | inl none ↦ inr ([], x, ap (λ (rest : List Entry). x ∷ rest) none)
      | inr some ↦ inr (x ∷ some.0, some.1, ap (λ (rest : List Entry). x ∷ rest) some.2)
    ]

AreSound-push : (live : List LiveClause) (es : List Entry) (x : Entry) → AreSound live es → ((reason : ℕ) → x.reason ≡ Some reason → IsForced live es x.lit reason) → AreSound live (es ++ x ∷ [])
AreSound-push live es x sound new before after e reason splits is =
    elim (by_last after) [
      | inl none ↦
          let parts = same_from_push es before x e (splits ∙ ap (λ (rest : List Entry). before ++ e ∷ rest) none) in
          let P : List Entry → Type 0 = λ front. IsForced live front e.lit reason in
          let Q : Entry → Type 0 = λ y. IsForced live es y.lit reason in
          subst P parts.0 (subst Q parts.1 (new reason (ap (λ (y : Entry). y.reason) parts.1 ∙ is)))
      | inr some ↦
          let parts = same_from_push es (before ++ e ∷ some.0) x some.1 (splits ∙ ap (λ (rest : List Entry). before ++ e ∷ rest) some.2 ∙ sym (append_assoc before (e ∷ some.0) (some.1 ∷ []))) in
          sound before some.0 e reason parts.0 is
    ]

pub IsSound-taken : (live : List LiveClause) (t : TrailState) (l : ℤ) (level : ℕ) (reason : Option ℕ) → IsSound live t → ((number : ℕ) → reason ≡ Some number → IsForced live t.entries l number) → IsSound live (taken t l level reason)
IsSound-taken live t l level reason sound new = AreSound-push live t.entries (record { lit = l; level = level; reason = reason }) sound new

pub IsSound-decided : (live : List LiveClause) (t : TrailState) (l : ℤ) → IsSound live t → IsSound live (decided t l)
IsSound-decided live t l sound = IsSound-taken live t l _ _ sound (λ number is. absurd cc)

pub IsSound-forced : (live : List LiveClause) (t : TrailState) (l : ℤ) (number : ℕ) → IsSound live t → IsForced live t.entries l number → IsSound live (forced t l number)
IsSound-forced live t l number sound is_forced =
    let P : ℕ → Type 0 = λ n. IsForced live t.entries l n in
    let same : (n : ℕ) → Some number ≡ Some n → number ≡ n = λ n is. cc in
    IsSound-taken live t l _ _ sound (λ n is. subst P (same n is) is_forced)

-- where each clause keeps its number
pub IsSound-kept : (live more : List LiveClause) (t : TrailState) → ((number : ℕ) (clause : LiveClause) → clause_numbered live number ≡ Some clause → clause_numbered more number ≡ Some clause) → IsSound live t → IsSound more t
IsSound-kept live more t kept sound before after e reason splits is =
    let old = sound before after e reason splits is in
    record { clause = old.clause; is_live = kept reason old.clause old.is_live; stands = old.stands; others_false = old.others_false }

pub clause_numbered-push : (live : List LiveClause) (new clause : LiveClause) (number : ℕ) → clause_numbered live number ≡ Some clause → clause_numbered (live ++ new ∷ []) number ≡ Some clause
clause_numbered-push live new clause number is =
    find-append (λ (c : LiveClause). c.number == number) live (new ∷ [])
    ∙ ap (λ (o : Option LiveClause). option_or o (clause_numbered (new ∷ []) number)) is

pub IsSound-push : (live : List LiveClause) (new : LiveClause) (t : TrailState) → IsSound live t → IsSound (live ++ new ∷ []) t
IsSound-push live new t sound = IsSound-kept live (live ++ new ∷ []) t (λ number clause. clause_numbered-push live new clause number) sound
