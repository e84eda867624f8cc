-- The cubes of the forbidden rows of a table.
use Rattle.std.proofs.Common.{inl, inr, ◌≡◌, ℕ, zero, suc, ◌+◌, ◌-◌, ◌^◌, ◌<◌, ◌≤◌, List, [], ◌∷◌, ◌++◌, Bool, true, false, cond, ◌||◌, ◌&&◌, map, refl, ap, ◌∙◌, sym, nat_eq, bit_and, arith, add-one}
use Rattle.std.specs.Prelude.{All, filter}
use Rattle.std.specs.List.{range_with_len, list_any}
use Rattle.std.proofs.Math.Nat.{mod-eq_of_lt}
use Rattle.std.proofs.lemmas.List.{append-nil}
use Rattle.std.proofs.lemmas.List.Elements.{All-nil, All-cons}
use Rattle.std.proofs.lemmas.Nat.{and_mask, pow_pos}
use Rattle.std.proofs.lemmas.Bool.Decides.{eqb_tells, nat_tests}
use Rattle.lls_cube.specs.declared.cube.Cube.{Cube}
use Rattle.lls_cube.specs.Cube.{row_cube, contains}

-- the cubes of the passing numbers of a range
abbrev cubes_in : (ℕ → Bool) → ℕ → ℕ → ℕ → List Cube
cubes_in p k a n = map (row_cube k) (filter p (range_with_len a n))

with_first : (k a : ℕ) (b : Bool) (rows more : List ℕ) (last : List Cube) → map (row_cube k) more ≡ map (row_cube k) rows ++ last
    → map (row_cube k) (cond b (a ∷ more) more) ≡ map (row_cube k) (cond b (a ∷ rows) rows) ++ last
with_first k a true rows more last same = ap (λ cubes. row_cube k a ∷ cubes) same
with_first k a false rows more last same = same

only_one : (k a n : ℕ) (b : Bool) → a ≡ n → map (row_cube k) (cond b (a ∷ []) []) ≡ cond b (row_cube k n ∷ []) []
only_one k a n true at = ap (λ m. row_cube k m ∷ []) at
only_one k a n false at = refl

cubes_suc : (p : ℕ → Bool) (k a n j : ℕ) → a + n ≡ j → cubes_in p k a (suc n) ≡ cubes_in p k a n ++ cond (p j) (row_cube k j ∷ []) []
cubes_suc p k a zero j at = only_one k a j (p a) (omega arith) ∙ ap (λ m. cond (p m) (row_cube k j ∷ []) []) (omega arith)
cubes_suc p k a (suc n) j at =
    with_first k a (p a) (filter p (range_with_len (a + 1) n)) (filter p (range_with_len (a + 1) (suc n))) (cond (p j) (row_cube k j ∷ []) []) (cubes_suc p k (a + 1) n j (omega arith))

-- one row more
cubes-more : (p : ℕ → Bool) (k n : ℕ) → map (row_cube k) (filter p (range_with_len 0 (n + 1))) ≡ map (row_cube k) (filter p (range_with_len 0 n)) ++ cond (p n) (row_cube k n ∷ []) []
cubes-more p k n = rw add-one (cubes_suc p k 0 n n (omega arith))

pub cubes_pushed : (p : ℕ → Bool) (k n count : ℕ) (before after : List Cube) → count ≡ 2 ^ k → p n ≡ true → before ≡ map (row_cube k) (filter p (range_with_len 0 n))
    → after ≡ before ++ record { care = count - 1; value = n } ∷ [] → after ≡ map (row_cube k) (filter p (range_with_len 0 (n + 1)))
cubes_pushed p k n count before after all passes so_far pushed =
    pushed
    ∙ ap (λ cubes. cubes ++ record { care = count - 1; value = n } ∷ []) so_far
    ∙ ap (λ (m : ℕ). cubes_in p k 0 n ++ record { care = m - 1; value = n } ∷ []) all
    ∙ ap (λ b. cubes_in p k 0 n ++ cond b (row_cube k n ∷ []) []) (sym passes)
    ∙ sym (cubes-more p k n)

pub cubes_passed : (p : ℕ → Bool) (k n : ℕ) (before : List Cube) → p n ≡ false → before ≡ map (row_cube k) (filter p (range_with_len 0 n)) → before ≡ map (row_cube k) (filter p (range_with_len 0 (n + 1)))
cubes_passed p k n before fails so_far =
    so_far ∙ sym (append-nil (cubes_in p k 0 n)) ∙ ap (λ b. cubes_in p k 0 n ++ cond b (row_cube k n ∷ []) []) (sym fails) ∙ sym (cubes-more p k n)

-- a row of so many inputs under a mask of them all
pub masked : (k row : ℕ) → row < 2 ^ k → bit_and row (2 ^ k - 1) ≡ row
masked k row inside = and_mask row k ∙ mod-eq_of_lt inside

pub contains-row_cube : (k row other : ℕ) → row < 2 ^ k → other < 2 ^ k → contains row (row_cube k other) ≡ nat_eq row other
contains-row_cube k row other inside inside' =
    ap (λ n. nat_eq n (bit_and other (2 ^ k - 1))) (masked k row inside) ∙ ap (nat_eq row) (masked k other inside')

any_step : (k a row : ℕ) (b : Bool) (rows : List ℕ) → list_any (contains row) (map (row_cube k) (cond b (a ∷ rows) rows)) ≡ ((b && contains row (row_cube k a)) || list_any (contains row) (map (row_cube k) rows))
any_step k a row true rows = refl
any_step k a row false rows = refl

neither : (b here rest : Bool) → here ≡ false → rest ≡ false → ((b && here) || rest) ≡ false
neither b here rest e e' = grind (arith, nat_tests)

first : (b here rest : Bool) → here ≡ true → rest ≡ false → ((b && here) || rest) ≡ b
first b here rest e e' = grind (arith, nat_tests)

later : (b here rest answer : Bool) → here ≡ false → rest ≡ answer → ((b && here) || rest) ≡ answer
later b here rest answer e e' = grind (arith, nat_tests)

is_not : (n m : ℕ) → n < m → nat_eq n m ≡ false
is_not n m lt = grind (arith, nat_tests)

any_before : (p : ℕ → Bool) (k a n row : ℕ) → a + n ≤ 2 ^ k → row < 2 ^ k → row < a → list_any (contains row) (cubes_in p k a n) ≡ false
any_before p k a zero row within inside before = refl
any_before p k a (suc n) row within inside before =
    any_step k a row (p a) (filter p (range_with_len (a + 1) n))
    ∙ neither _ _ _ (contains-row_cube k row a inside (omega arith) ∙ is_not row a before) (any_before p k (a + 1) n row (omega arith) inside (omega arith))

any_at : (p : ℕ → Bool) (k a n row : ℕ) → a + n ≤ 2 ^ k → row < 2 ^ k → a ≤ row → row < a + n → list_any (contains row) (cubes_in p k a n) ≡ p row
any_at p k a zero row within inside low high = absurd (omega arith)
any_at p k a (suc n) row within inside low high =
    let here : contains row (row_cube k a) ≡ nat_eq row a = contains-row_cube k row a inside (omega arith) in
    any_step k a row (p a) (filter p (range_with_len (a + 1) n))
    ∙ elim (eqb_tells row a) [
      | inl t ↦ first _ _ _ (here ∙ t.0) (any_before p k (a + 1) n row (omega arith) inside (omega (arith, t.1))) ∙ ap p (sym t.1)
      | inr t ↦ later _ _ _ _ (here ∙ t.0) (any_at p k (a + 1) n row (omega arith) inside (omega (arith, t.1)) (omega arith))
    ]

-- a row passes exactly where a cube of a passing row contains it
pub list_any-cubes : (p : ℕ → Bool) (k n row : ℕ) → n ≡ 2 ^ k → row < 2 ^ k → list_any (contains row) (map (row_cube k) (filter p (range_with_len 0 n))) ≡ p row
list_any-cubes p k n row all inside = any_at p k 0 n row (omega arith) inside (omega arith) (omega arith)

-- the values of these cubes have no bit that isn't cared for
abbrev IsCared : Cube → Type 0
IsCared cube = bit_and cube.value cube.care ≡ cube.value

cared_from : (p : ℕ → Bool) (k a n : ℕ) → a + n ≤ 2 ^ k → All IsCared (cubes_in p k a n)
cared_from p k a zero within = All-nil IsCared
cared_from p k a (suc n) within =
    let rest = cared_from p k (a + 1) n (omega arith) in
    elim (p a) as (λ b. All IsCared (map (row_cube k) (cond b (a ∷ filter p (range_with_len (a + 1) n)) (filter p (range_with_len (a + 1) n))))) [ true ↦ All-cons IsCared (row_cube k a) (map (row_cube k) (filter p (range_with_len (a + 1) n))) (masked k a (omega arith)) rest | false ↦ rest ]

pub All-cubes : (p : ℕ → Bool) (k n : ℕ) → n ≡ 2 ^ k → All (λ cube. bit_and cube.value cube.care ≡ cube.value) (map (row_cube k) (filter p (range_with_len 0 n)))
All-cubes p k n all = cared_from p k 0 n (omega arith)

-- and these cubes care for the inputs alone
pub All-row_cubes : (k : ℕ) (rows : List ℕ) → All (λ (cube : Cube). cube.care < 2 ^ k) (map (row_cube k) rows)
All-row_cubes k [] = All-nil (λ (cube : Cube). cube.care < 2 ^ k)
All-row_cubes k (row ∷ rows) = All-cons (λ (cube : Cube). cube.care < 2 ^ k) (row_cube k row) (map (row_cube k) rows) (omega (arith, pow_pos k)) (All-row_cubes k rows)
