-- Where the search for the first variable that is in begins.
use Rattle.std.proofs.Common.{◌≡◌, ◌≢◌, ℕ, zero, suc, ◌-◌, ◌<◌, ◌≤◌, Bool, true, false, List, length, get_or, set, Some, None, refl, sym, ap, subst, ◌∙◌, inl, inr, arith}
use Rattle.std.specs.Prelude.{Option, SomeIff, IfSome}
use Rattle.std.proofs.lemmas.Bool.{cases_lt, false≢true}
use Rattle.std.proofs.lemmas.Bool.Decides.{eqb_tells}
use Rattle.std.proofs.lemmas.List.{get_or_past, get_or-set_other}
use Rattle.std.proofs.lemmas.Grind.{get_or-set_at}
use Rattle.lls_lit.specs.declared.var.TheConstants.Var.{MOST}
use Rattle.lls_order.specs.Order.{IsEmpty, IsGreatest, is_in}
use Rattle.lls_order.specs.Queue.{IsCursor, IsPrevious, cursor_moved, order_in, rank_of, stands_in}
use Rattle.lls_order.proofs.Links.{AreDistinct}
use Rattle.lls_order.proofs.Ranks.{from_rank, rank_of-distinct, rank_of-none}

pub stands_in-at : (inside : List Bool) (v : ℕ) → 0 < v → stands_in inside v ≡ get_or inside (v - 1) false
stands_in-at inside zero some = absurd (omega (arith, some))
stands_in-at inside (suc n) some =
    let place : suc n - 1 ≡ n = omega arith in
    rw place refl

-- past the last variable none is in
stands_in-past : (inside : List Bool) (v : ℕ) → length inside < v → stands_in inside v ≡ false
stands_in-past inside zero past = refl
stands_in-past inside (suc n) past = get_or_past inside n false (omega (arith, past))

-- what stands elsewhere stays
stands_in-other : (inside : List Bool) (v x : ℕ) (b : Bool) → 0 < v → x ≢ v → stands_in (set inside (v - 1) b) x ≡ stands_in inside x
stands_in-other inside v zero b some other = refl
stands_in-other inside v (suc n) b some other = get_or-set_other inside (v - 1) n b false (λ same. other (omega (arith, same, some)))

pub stands_in-put : (inside : List Bool) (v : ℕ) (b : Bool) → 0 < v → v ≤ length inside → stands_in (set inside (v - 1) b) v ≡ b
stands_in-put inside v b some within = stands_in-at (set inside (v - 1) b) v some ∙ get_or-set_at inside (v - 1) (v - 1) b false refl (omega arith)

-- from a variable that is out to that of the next lesser rank
pub IsCursor-step : (f : ℕ → ℕ) (vars : ℕ) (inside : List Bool) (cursor w : ℕ) → AreDistinct f vars → IsPrevious f vars cursor w → stands_in inside cursor ≡ false → IsCursor f vars inside cursor
    → IsCursor f vars inside w
IsCursor-step f vars inside cursor w distinct previous out h = record {
  fits = previous.fits;
  none_before = λ v v_in less. elim (cases_lt (f cursor) (f v)) [
    | inl more ↦ h.none_before v v_in more
    | inr le ↦ elim (eqb_tells v cursor) [
      | inl t ↦ ap (stands_in inside) t.1 ∙ out
      | inr t ↦
          let ne : f v ≢ f cursor = λ equal. t.1 (distinct v cursor v_in h.fits equal) in
          absurd (omega (arith, less, previous.greatest v v_in (λ s. omega (arith, le, ne))))
    ]
  ];
}

-- the variable at the cursor is taken out or put in
pub IsCursor-set : (f : ℕ → ℕ) (vars : ℕ) (inside : List Bool) (cursor : ℕ) (b : Bool) → 0 < cursor → IsCursor f vars inside cursor → IsCursor f vars (set inside (cursor - 1) b) cursor
IsCursor-set f vars inside cursor b some h = record {
  fits = h.fits;
  none_before = λ x x_in less. stands_in-other inside cursor x b some (λ same. omega (arith, less, ap f same)) ∙ h.none_before x x_in less;
}

-- another is: the new cursor isn't of less rank than it and the cursor before
pub IsCursor-set_other : (f : ℕ → ℕ) (vars : ℕ) (inside : List Bool) (cursor v : ℕ) (b : Bool) (new : ℕ) → 0 < v → new ≤ vars → f v ≤ f new → f cursor ≤ f new → IsCursor f vars inside cursor
    → IsCursor f vars (set inside (v - 1) b) new
IsCursor-set_other f vars inside cursor v b new some new_in its_le cursor_le h = record {
  fits = new_in;
  none_before = λ x x_in less. stands_in-other inside v x b some (λ same. omega (arith, less, its_le, ap f same)) ∙ h.none_before x x_in (omega (arith, less, cursor_le));
}

-- the last of the ring
pub IsCursor-last : (f : ℕ → ℕ) (vars : ℕ) (inside : List Bool) (w : ℕ) → IsPrevious f vars 0 w → IsCursor f vars inside w
IsCursor-last f vars inside w last = record {
  fits = last.fits;
  none_before = λ x x_in less. absurd (omega (arith, less, last.greatest x x_in (λ s. absurd (omega (arith, s)))));
}

-- a variable has become the last of the ring
module _ (f g : ℕ → ℕ) (vars v : ℕ) (distinct : AreDistinct f vars) (some : 0 < v) (v_in : v ≤ vars) (same : (x : ℕ) → x ≢ v → g x ≡ f x) (greatest : (x : ℕ) → x ≢ v → g x < g v) (inside : List Bool) where
  at_raised : IsCursor g vars inside v
  at_raised = record {
    fits = v_in;
    none_before = λ x x_in less. elim (eqb_tells x v) [ inl t ↦ absurd (omega (arith, less, ap g t.1)) | inr t ↦ absurd (omega (arith, less, greatest x t.1)) ];
  }

  elsewhere : (cursor : ℕ) → cursor ≢ v → stands_in inside v ≡ false → IsCursor f vars inside cursor → IsCursor g vars inside cursor
  elsewhere cursor other out h = record {
    fits = h.fits;
    none_before = λ x x_in less. elim (eqb_tells x v) [
      | inl t ↦ ap (stands_in inside) t.1 ∙ out
      | inr t ↦ h.none_before x x_in (omega (arith, less, same x t.1, same cursor other))
    ];
  }

  pub IsCursor-moved : (previous : List ℕ) (cursor : ℕ) → IsPrevious f vars v (get_or previous v 0) → IsCursor f vars inside cursor → IsCursor g vars inside (cursor_moved inside previous cursor v)
  IsCursor-moved previous cursor before h = by_place (stands_in inside v) refl where
    by_place : (b : Bool) → stands_in inside v ≡ b → IsCursor g vars inside (cursor_moved inside previous cursor v)
    by_place true is = rw is at_raised
    by_place false is = elim (eqb_tells cursor v) [
      | inl t ↦
          let w = get_or previous v 0 in
          let step : IsCursor f vars inside w = IsCursor-step f vars inside v w distinct before is (subst (λ c. IsCursor f vars inside c) t.1 h) in
          rw (is, t.0) (elsewhere w (λ e. omega (arith, ap f e, before.lesser some)) is step)
      | inr t ↦ rw (is, t.0) (elsewhere cursor t.1 is h)
    ]

-- the cursor is the greatest where it is in
module _ (vars : ℕ) (activities : List ℕ) (inside : List Bool) (top : ℕ) (few : vars ≤ MOST) (inside_each : length inside ≡ vars) where
  stands : (v : ℕ) → is_in (order_in vars activities inside top) v ≡ stands_in inside v
  stands zero = refl
  stands (suc n) = refl

  fits_inside : (v : ℕ) → is_in (order_in vars activities inside top) v ≡ true → v ≤ vars
  fits_inside v is = elim (cases_lt (length inside) v) [
    | inl past ↦ absurd (false≢true (sym (stands v ∙ stands_in-past inside v past) ∙ is))
    | inr le ↦ omega (arith, le, inside_each)
  ]

  some_inside : (v : ℕ) → is_in (order_in vars activities inside top) v ≡ true → 0 < v
  some_inside zero is = absurd (false≢true is)
  some_inside (suc n) is = omega arith

  distinct_ranks : AreDistinct (rank_of activities) vars
  distinct_ranks x y x_in y_in same = rank_of-distinct activities x y (omega arith) (omega arith) same

  pub greatest_at_cursor : (cursor : ℕ) → 0 < cursor → stands_in inside cursor ≡ true → IsCursor (rank_of activities) vars inside cursor → IsGreatest (order_in vars activities inside top) cursor
  greatest_at_cursor cursor some is h = record {
    stands = stands cursor ∙ is;
    first = λ w w_is other.
        let w_in = fits_inside w w_is in
        let le : rank_of activities w ≤ rank_of activities cursor = elim (cases_lt (rank_of activities cursor) (rank_of activities w)) [
          | inl less ↦ absurd (false≢true (sym (h.none_before w w_in less) ∙ sym (stands w) ∙ w_is))
          | inr no_more ↦ no_more
        ] in
        let ne : rank_of activities w ≢ rank_of activities cursor = λ equal. other (distinct_ranks w cursor w_in h.fits equal) in
        from_rank activities cursor w some (some_inside w w_is) (omega (arith, h.fits, few)) (omega (arith, w_in, few)) (omega (arith, le, ne));
  }

  pub empty_at_none : IsCursor (rank_of activities) vars inside 0 → IsEmpty (order_in vars activities inside top)
  empty_at_none h v = elim (eqb_tells v 0) [
    | inl t ↦ ap (λ x. is_in (order_in vars activities inside top) x) t.1
    | inr t ↦ stands v ∙ elim (cases_lt vars v) [
      | inl past ↦ stands_in-past inside v (omega (arith, past, inside_each))
      | inr v_in ↦
          let ne : rank_of activities 0 ≢ rank_of activities v = λ equal. t.1 (sym (distinct_ranks 0 v (omega arith) v_in equal)) in
          h.none_before v v_in (omega (arith, rank_of-none activities v, ne))
    ]
  ]

-- the same with equal lists
pub IsCursor-at_lists : (vars : ℕ) (activities xs : List ℕ) (inside bs : List Bool) (cursor : ℕ) → length activities ≡ vars → xs ≡ activities → bs ≡ inside → IsCursor (rank_of xs) (length xs) bs cursor
    → IsCursor (rank_of activities) vars inside cursor
IsCursor-at_lists vars activities xs inside bs cursor each xs_is bs_is h =
    subst (λ n. IsCursor (rank_of activities) n inside cursor) each (subst (λ ys. IsCursor (rank_of ys) (length ys) inside cursor) xs_is (subst (λ (cs : List Bool). IsCursor (rank_of xs) (length xs) cs cursor) bs_is h))

-- an answer that is there exactly where it may be
pub some_answer : (o : Option ℕ) (P : Type 0) (v : ℕ) (Q : ℕ → Type 0) → SomeIff o P v → ((w : ℕ) → w ≡ v → Q w) → IfSome o Q
some_answer None P v Q h q = tt
some_answer (Some x) P v Q h q = q x h.1

pub is_there : (o : Option ℕ) (P : Type 0) (v : ℕ) → SomeIff o P v → P → o ≡ None → ⊥
is_there None P v h p none = h p
is_there (Some x) P v h p none = cc
