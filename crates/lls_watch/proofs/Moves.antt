-- Numbers of which the live ones are moved, one by one.
use Rattle.std.proofs.Common.{◌≡◌, ◌≤◌, ◌<◌, zero, suc, ℕ, Bool, true, false, ◌||◌, cond, List, [], ◌∷◌, Some, refl, sym, ap, ◌∙◌, arith, length, map, take}
use Rattle.std.specs.Prelude.{All, ◌==◌, slice_get, slice_index_or}
use Rattle.std.proofs.lemmas.Bool.{eq-eqb, eqb-true}
use Rattle.lls_arena.specs.Arena.{HeadState, live_before}
use Rattle.lls_watch.specs.Watches.{has}
use Rattle.lls_watch.specs.Renumbered.{is_live_at, live_among, moved_among}

abbrev moved_if : Bool → List HeadState → ℕ → List ℕ → List ℕ
moved_if b heads c cs = map (live_before heads) (cond b (c ∷ live_among heads cs) (live_among heads cs))

-- what holds of each where it goes to holds of all
pub all_moved : (P Q : ℕ → Type 0) (heads : List HeadState) (cs : List ℕ) → ((c : ℕ) → is_live_at heads c ≡ true → Q c → P (live_before heads c)) → All Q cs → All P (moved_among heads cs)
all_moved P Q heads [] each all = λ k d within. absurd (omega (arith, within))
all_moved P Q heads (c ∷ cs) each all = by_live (is_live_at heads c) refl (all_moved P Q heads cs each (λ k d within. all (suc k) d (omega (arith, within))))
  where
    by_live : (b : Bool) → is_live_at heads c ≡ b → All P (moved_among heads cs) → (k d : ℕ) → k < length (moved_if b heads c cs) → P (slice_index_or (moved_if b heads c cs) k d)
    by_live true is later zero d within = each c is (all 0 0 (omega arith))
    by_live true is later (suc k) d within = later k d (omega (arith, within))
    by_live false is later k d within = later k d within

-- a live one is found where it goes to
pub has_moved : (heads : List HeadState) (cs : List ℕ) (c : ℕ) → is_live_at heads c ≡ true → has cs c ≡ true → has (moved_among heads cs) (live_before heads c) ≡ true
has_moved heads [] c live among = absurd cc
has_moved heads (x ∷ xs) c live among = by_live (is_live_at heads x) refl (x == c) refl among (has_moved heads xs c live)
  where
    here : (a b : Bool) → a ≡ true → (a || b) ≡ true
    here true b is = refl
    here false b is = absurd cc

    later : (a : Bool) {b : Bool} → b ≡ true → (a || b) ≡ true
    later true is = refl
    later false is = is

    by_live : (b : Bool) → is_live_at heads x ≡ b → (e : Bool) → (x == c) ≡ e → (e || has xs c) ≡ true → (has xs c ≡ true → has (moved_among heads xs) (live_before heads c) ≡ true) → has (moved_if b heads x xs) (live_before heads c) ≡ true
    by_live true _ true is _ _ =
        here (live_before heads x == live_before heads c) (has (moved_among heads xs) (live_before heads c)) (eq-eqb (live_before heads x) (live_before heads c) (ap (live_before heads) (eqb-true x c is)))
    by_live true _ false _ there more = later (live_before heads x == live_before heads c) (more there)
    by_live false dead true is _ _ =
        let both : true ≡ false = sym live ∙ ap (is_live_at heads) (sym (eqb-true x c is)) ∙ dead in
        absurd cc
    by_live false _ false _ there more = more there

-- what is there at a place was live at a place, among the first ones where that place is among the first ones
pub record WasThere (heads : List HeadState) (cs : List ℕ) (n k to : ℕ) : Type 0 where
  pub place : ℕ
  pub number : ℕ
  pub before : place < n
  pub found : slice_get cs place ≡ Some number
  pub live : is_live_at heads number ≡ true
  pub goes : live_before heads number ≡ to

pub was_there : (heads : List HeadState) (cs : List ℕ) (n k to : ℕ) → k < length (live_among heads (take n cs)) → slice_get (moved_among heads cs) k ≡ Some to → WasThere heads cs n k to
was_there heads cs zero k to within found = absurd (omega (arith, within))
was_there heads [] (suc n) k to within found = absurd cc
was_there heads (c ∷ cs) (suc n) k to within found = by_live (is_live_at heads c) refl k within found (was_there heads cs n)
  where
    same_number : {a b : ℕ} → Some a ≡ Some b → a ≡ b
    same_number e = cc

    behind : {k : ℕ} → WasThere heads cs n k to → (j : ℕ) → WasThere heads (c ∷ cs) (suc n) j to
    behind it j = record { place = suc it.place; number = it.number; before = omega (arith, it.before); found = it.found; live = it.live; goes = it.goes }

    by_live : (b : Bool) → is_live_at heads c ≡ b → (k : ℕ) → k < length (cond b (c ∷ live_among heads (take n cs)) (live_among heads (take n cs))) → slice_get (moved_if b heads c cs) k ≡ Some to
        → ((k to : ℕ) → k < length (live_among heads (take n cs)) → slice_get (moved_among heads cs) k ≡ Some to → WasThere heads cs n k to) → WasThere heads (c ∷ cs) (suc n) k to
    by_live true is zero inside there later = record { place = 0; number = c; before = omega arith; found = refl; live = is; goes = same_number there }
    by_live true is (suc k) inside there later = behind (later k to (omega (arith, inside)) there) (suc k)
    by_live false is k inside there later = behind (later k to inside there) k

-- so many of the first ones are at most so many of all
pub fewer_live : (heads : List HeadState) (cs : List ℕ) (n : ℕ) → length (live_among heads (take n cs)) ≤ length (live_among heads cs)
fewer_live heads cs zero = omega arith
fewer_live heads [] (suc n) = omega arith
fewer_live heads (c ∷ cs) (suc n) = by_live (is_live_at heads c) (fewer_live heads cs n)
  where
    by_live : (b : Bool) → length (live_among heads (take n cs)) ≤ length (live_among heads cs)
        → length (cond b (c ∷ live_among heads (take n cs)) (live_among heads (take n cs))) ≤ length (cond b (c ∷ live_among heads cs) (live_among heads cs))
    by_live true later = omega (arith, later)
    by_live false later = later

pub fewer_among : (heads : List HeadState) (cs : List ℕ) → length (live_among heads cs) ≤ length cs
fewer_among heads [] = omega arith
fewer_among heads (c ∷ cs) = by_live (is_live_at heads c) (fewer_among heads cs)
  where
    by_live : (b : Bool) → length (live_among heads cs) ≤ length cs → length (cond b (c ∷ live_among heads cs) (live_among heads cs)) ≤ length (c ∷ cs)
    by_live true later = omega (arith, later)
    by_live false later = omega (arith, later)
