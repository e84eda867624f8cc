-- The words of a command line, one after another.
use Rattle.std.proofs.Common.{◌≡◌, ◌⊎◌, ℕ, ◌+◌, ◌<◌, List, [], ◌∷◌, Ok, Err, drop, get_or, length, sym, ap, ◌∙◌, inl, inr}
use Rattle.std.specs.Prelude.{Result}
use Rattle.std.proofs.lemmas.List.{drop_more}
use Rattle.lls_base.specs.Results.{and_then}
use Rattle.lls_hinting.specs.declared.status.Status.{Status}
use Rattle.lls_hinting.specs.declared.status.Status.TheVariants as statuses
use Rattle.lls_hinting.specs.declared.words_error.WordsError.{WordsError}
use Rattle.lls_hinting.specs.declared.words_error.WordsError.TheVariants as words
use Rattle.lls_hinting.specs.Fault.{words_status}
use Rattle.lls_hinting.specs.Words.{Taken, with_word, words_taken}

first_left : (place : ℕ) (taken : Taken) (word : List ℕ) (ws : List (List ℕ)) (k : ℕ) → k < length ws → get_or ws k [] ≡ word
    → words_taken place taken (drop k ws) ≡ and_then (with_word place taken word) (λ more. words_taken (place + 1) more (drop (k + 1) ws))
first_left place taken word ws k lt is = ap (words_taken place taken) (drop_more ws k [] lt ∙ ap (λ (w : List ℕ). w ∷ drop (k + 1) ws) is)

-- behind a word that was taken the others are left
pub taken_more : (place : ℕ) (taken more : Taken) (word : List ℕ) (ws : List (List ℕ)) (k : ℕ) → k < length ws → get_or ws k [] ≡ word → with_word place taken word ≡ Ok more
    → words_taken place taken (drop k ws) ≡ words_taken (place + 1) more (drop (k + 1) ws)
taken_more place taken more word ws k lt is took =
    first_left place taken word ws k lt is ∙ ap (λ (r : Result Taken WordsError). and_then r (λ m. words_taken (place + 1) m (drop (k + 1) ws))) took

-- a word at fault is that of all
pub taken_fault : (place : ℕ) (taken : Taken) (error : WordsError) (word : List ℕ) (ws : List (List ℕ)) (k : ℕ) → k < length ws → get_or ws k [] ≡ word → with_word place taken word ≡ Err error
    → words_taken place taken (drop k ws) ≡ Err error
taken_fault place taken error word ws k lt is took =
    first_left place taken word ws k lt is ∙ ap (λ (r : Result Taken WordsError). and_then r (λ m. words_taken (place + 1) m (drop (k + 1) ws))) took

-- the status of words comes for words alone
pub words_only : (error : WordsError) (status : Status) → (status ≡ words_status error) ⊎ (status ≡ statuses.Memory) → status ≡ statuses.Words → error ≡ words.Memory → ⊥
words_only error status (inl is) words same = let clash : statuses.Words ≡ statuses.Memory = sym words ∙ is ∙ ap words_status same in absurd cc
words_only error status (inr is) words same = let clash : statuses.Words ≡ statuses.Memory = sym words ∙ is in absurd cc

pub words_or_memory : (error : WordsError) (status : Status) → (status ≡ words_status error) ⊎ (status ≡ statuses.Memory) → (status ≡ statuses.Words) ⊎ (status ≡ statuses.Memory)
words_or_memory (words.BadWord place) status one = one
words_or_memory (words.RepeatedOption place) status one = one
words_or_memory (words.MissingValue place) status one = one
words_or_memory (words.BadValue place) status one = one
words_or_memory (words.Operands expected found) status one = one
words_or_memory (words.SameName place) status one = one
words_or_memory words.Memory status (inl is) = inr is
words_or_memory words.Memory status (inr is) = inr is
