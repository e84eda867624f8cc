-- The clause of a cube, written one input after another.
use Rattle.std.proofs.Common.{◌≡◌, ℕ, suc, ◌+◌, ◌-◌, ◌<◌, ◌≤◌, ℤ, List, [], ◌∷◌, ◌++◌, true, false, Option, None, Some, map, take, set, length, refl, ap, ◌∙◌, sym, arith, append_assoc}
use Rattle.std.specs.Option.{option_map}
use Rattle.std.specs.List.{range_with_len}
use Rattle.std.proofs.lemmas.List.{append-nil, take_more_set}
use Rattle.lls_lit.specs.Formula.{Clause}
use Rattle.lls_cube.specs.declared.cube.Cube.{Cube}
use Rattle.lls_transition.specs.declared.place.Place.{Place}
use Rattle.lls_transition.specs.declared.place.Place.TheVariants.{Known, Of}
use Rattle.lls_transition.specs.Clause.{clause_of, cube_place, cube_places, cube_clause}

-- the places from i on
unfoldable pub places_from : List Place → Cube → ℕ → List Place
places_from inputs cube i = map (cube_place inputs cube) (range_with_len i (length inputs - i))

one_less : (n i : ℕ) → i < n → n - i ≡ suc (n - (i + 1))
one_less n i inside = omega (arith, inside)

none_left : (n : ℕ) → n - n ≡ 0
none_left n = omega arith

all_left : (n : ℕ) → n ≡ n - 0
all_left n = omega arith

places_from-at : (inputs : List Place) (cube : Cube) (i : ℕ) (place : Place) → i < length inputs → place ≡ cube_place inputs cube i → places_from inputs cube i ≡ place ∷ places_from inputs cube (i + 1)
unfolding places_from
places_from-at inputs cube i place inside is =
    ap (λ n. map (cube_place inputs cube) (range_with_len i n)) (one_less (length inputs) i inside) ∙ ap (λ p. p ∷ map (cube_place inputs cube) (range_with_len (i + 1) (length inputs - (i + 1)))) (sym is)

places_from-end : (inputs : List Place) (cube : Cube) → places_from inputs cube (length inputs) ≡ []
unfolding places_from
places_from-end inputs cube = ap (λ n. map (cube_place inputs cube) (range_with_len (length inputs) n)) (none_left (length inputs))

-- the literals so far, before those of the inputs from i on, are the whole clause
abbrev pub Goes : List Place → Cube → ℕ → Clause → Type 0
Goes inputs cube i clause = cube_clause inputs cube ≡ option_map (λ rest. clause ++ rest) (clause_of (places_from inputs cube i))

nothing_before : (o : Option Clause) → o ≡ option_map (λ (rest : Clause). [] ++ rest) o
nothing_before None = refl
nothing_before (Some clause) = refl

pub goes_first : (inputs : List Place) (cube : Cube) → Goes inputs cube 0 []
unfolding places_from cube_places
goes_first inputs cube =
    nothing_before (clause_of (map (cube_place inputs cube) (range_with_len 0 (length inputs))))
    ∙ ap (λ n. option_map (λ rest. [] ++ rest) (clause_of (map (cube_place inputs cube) (range_with_len 0 n)))) (all_left (length inputs))

goes_with : (inputs : List Place) (cube : Cube) (i : ℕ) (place : Place) (clause : Clause) → i < length inputs → place ≡ cube_place inputs cube i → Goes inputs cube i clause
    → cube_clause inputs cube ≡ option_map (λ rest. clause ++ rest) (clause_of (place ∷ places_from inputs cube (i + 1)))
goes_with inputs cube i place clause inside is goes =
    goes ∙ ap (λ ps. option_map (λ rest. clause ++ rest) (clause_of ps)) (places_from-at inputs cube i place inside is)

pub goes_out : (inputs : List Place) (cube : Cube) (i : ℕ) (clause : Clause) → i < length inputs → Known true ≡ cube_place inputs cube i → Goes inputs cube i clause → cube_clause inputs cube ≡ None
goes_out inputs cube i clause inside is goes = goes_with inputs cube i (Known true) clause inside is goes

pub goes_past : (inputs : List Place) (cube : Cube) (i : ℕ) (clause : Clause) → i < length inputs → Known false ≡ cube_place inputs cube i → Goes inputs cube i clause → Goes inputs cube (i + 1) clause
goes_past inputs cube i clause inside is goes = goes_with inputs cube i (Known false) clause inside is goes

pushed : (o : Option Clause) (clause : Clause) (l : ℤ) → option_map (λ rest. clause ++ rest) (option_map (λ rest. l ∷ rest) o) ≡ option_map (λ rest. (clause ++ l ∷ []) ++ rest) o
pushed None clause l = refl
pushed (Some rest) clause l = ap Some (sym (append_assoc clause (l ∷ []) rest))

pub goes_on : (inputs : List Place) (cube : Cube) (i n : ℕ) (l : ℤ) (lits : List ℤ) → i < length inputs → n ≤ i → i < length lits → Of l ≡ cube_place inputs cube i
    → Goes inputs cube i (take n lits) → Goes inputs cube (i + 1) (take (n + 1) (set lits n l))
goes_on inputs cube i n l lits inside few room is goes =
    goes_with inputs cube i (Of l) (take n lits) inside is goes
    ∙ pushed (clause_of (places_from inputs cube (i + 1))) (take n lits) l
    ∙ ap (λ (clause : Clause). option_map (λ rest. clause ++ rest) (clause_of (places_from inputs cube (i + 1)))) (sym (take_more_set lits n l (omega (arith, few, room))))

pub goes_through : (inputs : List Place) (cube : Cube) (i : ℕ) (clause : Clause) → i ≡ length inputs → Goes inputs cube i clause → cube_clause inputs cube ≡ Some clause
goes_through inputs cube i clause all goes =
    goes ∙ ap (λ k. option_map (λ rest. clause ++ rest) (clause_of (places_from inputs cube k))) all ∙ ap (λ ps. option_map (λ rest. clause ++ rest) (clause_of ps)) (places_from-end inputs cube) ∙ ap Some (append-nil clause)
