-- The places of a file's transitions can be read, and a file of few cells has few.
use Rattle.std.proofs.Common.{◌≡◌, ℕ, zero, suc, ◌+◌, ◌-◌, ◌*◌, ◌<◌, ◌≤◌, List, [], ◌∷◌, Bool, true, false, cond, length, arith, pos, ◌-ℤ◌}
use Rattle.std.specs.Prelude.{All}
use Rattle.std.specs.List.{flat_map, range_with_len}
use Rattle.std.proofs.lemmas.List.Elements.{All-nil, All-cons, All-append}
use Rattle.std.proofs.lemmas.Nat.{mul-le}
use Rattle.lls_search_file.specs.Posed.{IsPosed}
use Rattle.lls_problem.specs.declared.demands.Edge.{Edge}
use Rattle.lls_problem.specs.declared.demands.Edge.TheVariants.{Framed, Bare}
use Rattle.lls_problem.specs.Problem.{PosedProblem}
use Rattle.lls_problem.specs.Solution.{is_marked}
use Rattle.lls_encode.specs.Formula.{first_framed, framed_count}
use Rattle.lls_encode.proofs.Steps.{length-flat_map_most}
use Rattle.lls_open.specs.Targets.{place_targets, line_targets, generation_targets, targets_of, IsTarget}

All-range : {A : Type 0} (P : A → Type 0) (f : ℕ → List A) (a n : ℕ) → ((k : ℕ) → a ≤ k → k < a + n → All P (f k)) → All P (flat_map f (range_with_len a n))
All-range P f a zero each = All-nil P
All-range P f a (suc n) each =
    All-append P (f a) (flat_map f (range_with_len (a + 1) n)) (each a (omega arith) (omega arith)) (All-range P f (a + 1) n (λ k low high. each k (omega (arith, low)) (omega (arith, high))))

All-unless : {A : Type 0} (P : A → Type 0) (b : Bool) (x : A) → P x → All P (cond b [] (x ∷ []))
All-unless P true x px = All-nil P
All-unless P false x px = All-cons P x [] px (All-nil P)

framed_end : (edge : Edge) (size : ℕ) → first_framed edge + framed_count edge size ≤ size + 2
framed_end Framed size = omega arith
framed_end Bare size = omega arith

pub All-targets_of : (p : PosedProblem) → IsPosed p.posed → All (IsTarget p) (targets_of p)
unfolding targets_of
All-targets_of p kept =
    let edge = p.demands.edge in
    All-range (IsTarget p) _ 0 (p.posed.generations - 1) (λ t t_low t_high.
    All-range (IsTarget p) _ (first_framed edge) (framed_count edge p.posed.height) (λ line line_low line_high.
    All-range (IsTarget p) _ (first_framed edge) (framed_count edge p.posed.width) (λ column column_low column_high.
    All-unless (IsTarget p) (is_marked p.posed (t + 1) (pos line -ℤ pos 1) (pos column -ℤ pos 1)) (record { t = t; line = line; column = column }) (record {
      generation = omega (arith, t_high);
      line = omega (arith, line_high, framed_end edge p.posed.height, kept.height.1);
      column = omega (arith, column_high, framed_end edge p.posed.width, kept.width.1);
    }))))

-- how many places there are, by the sizes
one_at_most : {A : Type 0} (b : Bool) (x : A) → length (cond b [] (x ∷ [])) ≤ 1
one_at_most true x = omega arith
one_at_most false x = omega arith

framed_few : (edge : Edge) (size : ℕ) → framed_count edge size ≤ size + 2
framed_few Framed size = omega arith
framed_few Bare size = omega arith

length-line : (p : PosedProblem) (t line : ℕ) → length (line_targets p t line) ≤ p.posed.width + 2
length-line p t line =
    omega (arith, length-flat_map_most (place_targets p t line) 1 (λ column. one_at_most (is_marked p.posed (t + 1) (pos line -ℤ pos 1) (pos column -ℤ pos 1)) _) (first_framed p.demands.edge) (framed_count p.demands.edge p.posed.width), framed_few p.demands.edge p.posed.width)

length-generation : (p : PosedProblem) (t : ℕ) → length (generation_targets p t) ≤ (p.posed.width + 2) * (p.posed.height + 2)
length-generation p t =
    let most = length-flat_map_most (line_targets p t) (p.posed.width + 2) (length-line p t) (first_framed p.demands.edge) (framed_count p.demands.edge p.posed.height) in
    let wide = mul-le (p.posed.width + 2) (framed_count p.demands.edge p.posed.height) (p.posed.width + 2) (p.posed.height + 2) (omega arith) (framed_few p.demands.edge p.posed.height) in
    omega (arith, most, wide)

-- width and height are together at most one more than their product
sum_of : (w h : ℕ) → 1 ≤ w → 1 ≤ h → w + h ≤ w * h + 1
sum_of zero h one one' = absurd (omega arith)
sum_of (suc w) zero one one' = absurd (omega arith)
sum_of (suc w) (suc h) one one' = grind arith

with_ring : (w h : ℕ) → 1 ≤ w → 1 ≤ h → (w + 2) * (h + 2) ≤ 3 * (w * h) + 6
with_ring w h one one' = let sum = sum_of w h one one' in grind arith

few_places : (s g cells : ℕ) → s * g ≤ cells → cells ≤ 2048 → g ≤ 63 → (3 * s + 6) * g ≤ 6522
few_places s g cells all few short =
    let is : (3 * s + 6) * g ≡ 3 * (s * g) + 6 * g = grind arith in
    omega (arith, is, all, few, short)

pub length-targets_of : (p : PosedProblem) → IsPosed p.posed → length p.posed.cells ≤ 2048 → length (targets_of p) ≤ 6522
unfolding targets_of
length-targets_of p kept few =
    let w = p.posed.width in
    let h = p.posed.height in
    let g : ℕ = p.posed.generations - 1 in
    let most = length-flat_map_most (generation_targets p) ((w + 2) * (h + 2)) (length-generation p) 0 g in
    let ring = mul-le ((w + 2) * (h + 2)) g (3 * (w * h) + 6) g (with_ring w h kept.width.0 kept.height.0) (omega arith) in
    let shorter : (w * h) * g ≤ (w * h) * p.posed.generations = mul-le (w * h) g (w * h) p.posed.generations (omega arith) (omega arith) in
    let count : (w * h) * p.posed.generations ≡ w * (h * p.posed.generations) = grind arith in
    let all = few_places (w * h) g (length p.posed.cells) (omega (arith, shorter, count, kept.count)) few (omega (arith, kept.generations.1)) in
    omega (arith, most, ring, all)
