-- Values of a counter's variables that satisfy its clauses, behind any values of the other variables.
use Rattle.std.proofs.Common.{◌≡◌, ◌<◌, ◌≤◌, ℕ, zero, suc, ◌+◌, ◌*◌, ◌/◌, ◌%◌, ℤ, pos, negsuc, List, ◌++◌, Bool, true, false, not, cond, leb, leb-true, map, length, get_or, refl, sym, ap, ◌∙◌, arith, add-one}
use Rattle.std.specs.List.{range_with_len}
use Rattle.std.proofs.lemmas.Nat.{div-mul-add, mod-mul-add, mul-add-lt}
use Rattle.std.proofs.lemmas.Bool.{and_parts}
use Rattle.std.proofs.lemmas.List.{get_or_append_left, get_or-append-add}
use Rattle.std.proofs.lemmas.List.FromFn.{length-map-range_with_len, get_or-map-range_with_len}
use Rattle.lls_lit.specs.Formula.{is_true, is_literal_of, is_within}
use Rattle.lls_cardinality.specs.Counter.{at_least, live_among, HasCounts}
use Rattle.lls_cardinality.proofs.Count.{live_among-more, literal_at, satisfies-counts}

-- what the ith of the variables says
abbrev count_bit : List Bool → ℕ → List ℤ → ℕ → Bool
count_bit values top cells i = leb (i % top + 1) (live_among values cells (i / top + 1))

unfoldable counts_of : List Bool → ℕ → List ℤ → List Bool
counts_of values top cells = map (count_bit values top cells) (range_with_len 0 (length cells * top))

length-counts_of : (values : List Bool) (top : ℕ) (cells : List ℤ) → length (counts_of values top cells) ≡ length cells * top
unfolding counts_of
length-counts_of values top cells = length-map-range_with_len (count_bit values top cells) 0 (length cells * top)

get_or-counts_of : (values : List Bool) (top : ℕ) (cells : List ℤ) (k j : ℕ) → k < length cells → j < top
    → get_or (counts_of values top cells) (k * top + j) false ≡ leb (j + 1) (live_among values cells (k + 1))
unfolding counts_of
get_or-counts_of values top cells k j k_in j_in =
    let least : k * top + j < top * length cells = mul-add-lt k top j (length cells) k_in j_in in
    let inside : k * top + j < length cells * top = grind arith in
    get_or-map-range_with_len (count_bit values top cells) 0 (length cells * top) (k * top + j) (k * top + j) false inside (omega arith)
    ∙ ap (λ r. leb (r + 1) (live_among values cells ((k * top + j) / top + 1))) (mod-mul-add k top j j_in)
    ∙ ap (λ q. leb (j + 1) (live_among values cells (q + 1))) (div-mul-add k top j j_in)

-- the values before are kept
is_true-append : (values more : List Bool) (l : ℤ) → is_literal_of (length values) l ≡ true → is_true (values ++ more) l ≡ is_true values l
is_true-append values more (pos zero) within = refl
is_true-append values more (pos (suc n)) within =
    get_or_append_left values more false n (omega (arith, leb-true (suc n) (length values) (and_parts _ _ within).1))
is_true-append values more (negsuc n) within =
    ap not (get_or_append_left values more false n (omega (arith, leb-true (n + 1) (length values) (and_parts _ _ within).1)))

live_among-append : (values more : List Bool) (cells : List ℤ) (i : ℕ) → is_within (length values) cells ≡ true → i ≤ length cells → live_among (values ++ more) cells i ≡ live_among values cells i
live_among-append values more cells zero within inside = refl
live_among-append values more cells (suc k) within inside =
    live_among-more (values ++ more) cells k (omega arith)
    ∙ ap (λ b. cond b (suc (live_among (values ++ more) cells k)) (live_among (values ++ more) cells k))
    (is_true-append values more (get_or cells k (pos 0)) (literal_at (length values) cells k within (omega arith)))
    ∙ ap (λ n. cond (is_true values (get_or cells k (pos 0))) (suc n) n) (live_among-append values more cells k within (omega arith))
    ∙ sym (live_among-more values cells k (omega arith))

-- each variable says how many
is_true-counts_of : (values : List Bool) (base top : ℕ) (cells : List ℤ) (k j : ℕ) → length values ≡ base → k < length cells → j < top
    → is_true (values ++ counts_of values top cells) (at_least base top k j) ≡ leb (j + 1) (live_among values cells (k + 1))
is_true-counts_of values base top cells k j len k_in j_in =
    ap (λ n. is_true (values ++ counts_of values top cells) (pos n)) (add-one (base + k * top + j))
    ∙ ap (λ n. get_or (values ++ counts_of values top cells) n false) (omega (arith, len))
    ∙ get_or-append-add values (counts_of values top cells) (k * top + j) false
    ∙ get_or-counts_of values top cells k j k_in j_in

pub extended : (values : List Bool) (base top : ℕ) (cells : List ℤ) → is_within base cells ≡ true → length values ≡ base → HasCounts values base top cells
extended values base top cells within len =
    let within_values : is_within (length values) cells ≡ true = ap (λ n. is_within n cells) len ∙ within in
    record {
      more = counts_of values top cells;
      count = length-counts_of values top cells;
      satisfied = satisfies-counts (values ++ counts_of values top cells) base top base cells within (λ k j k_in j_in.
          is_true-counts_of values base top cells k j len k_in j_in
          ∙ ap (leb (j + 1)) (sym (live_among-append values (counts_of values top cells) cells (k + 1) within_values (omega arith))));
    }
