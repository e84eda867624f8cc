-- What holds of the parts of an order, kept as it changes.
use Rattle.std.proofs.Common.{◌≡◌, ℕ, zero, suc, ◌+◌, ◌-◌, ◌/◌, ◌<◌, ◌≤◌, Bool, true, false, List, length, map, get_or, set, replicate, refl, sym, ap, subst, ◌∙◌, inl, inr, arith}
use Rattle.std.proofs.lemmas.List.{length-map, length-set, length-replicate, get_or-map, get_or_past, get_or-replicate, get_or-set_other, get_or-set_same}
use Rattle.std.proofs.lemmas.Grind.{get_or-set_at}
use Rattle.std.proofs.lemmas.Bool.{cases_lt}
use Rattle.std.proofs.lemmas.Bool.Decides.{eqb_tells}
use Rattle.lls_lit.specs.declared.var.TheConstants.Var.{MOST}
use Rattle.lls_order.specs.declared.order.TheConstants.{MOST_ACTIVITY}
use Rattle.lls_order.specs.Order.{OrderState, is_in}
use Rattle.lls_order.specs.Changes.{put_in}
use Rattle.lls_order.specs.Queue.{AreLinks, AreParts, IsCursor, IsPrevious, cursor_moved, rank_of}
use Rattle.lls_order.proofs.Cursor.{IsCursor-last, IsCursor-moved}
use Rattle.lls_order.proofs.Links.{AreDistinct}
use Rattle.lls_order.proofs.Ranks.{rank_of-distinct, rank_of-greatest, rank_of-others, rank_of-variable}

-- the ring of variables without activity, whose ranks fall by 1
module _ (f : ℕ → ℕ) (vars : ℕ) (few : vars ≤ MOST) (none : f 0 ≡ 0) (rank : (x : ℕ) → 0 < x → x ≤ vars → f x + x ≡ MOST + 1) where
  le_next : (v x : ℕ) → v + 1 ≤ vars → x ≤ vars → (0 < v → f x < f v) → 0 < x → f x ≤ f (v + 1)
  le_next v x within x_in lower some = elim (cases_lt 0 v) [
    | inl v_some ↦ omega (arith, lower v_some, rank v v_some (omega (arith, within)), rank x some x_in, rank (v + 1) (omega arith) within)
    | inr v_none ↦ omega (arith, v_none, rank x some x_in, rank (v + 1) (omega arith) within)
  ]

  to_next : (v : ℕ) → v + 1 ≤ vars → IsPrevious f vars v (v + 1)
  to_next v within = record {
    fits = within;
    lesser = λ some. omega (arith, rank v some (omega (arith, within)), rank (v + 1) (omega arith) within);
    greatest = λ x x_in lower. elim (eqb_tells x 0) [
      | inl t ↦ omega (arith, ap f t.1, none)
      | inr t ↦ le_next v x within x_in lower (omega (arith, t.1))
    ];
  }

  le_none : (x : ℕ) → x ≤ vars → (0 < vars → f x < f vars) → 0 < x → f x ≤ f 0
  le_none x x_in lower some = absurd (omega (arith, lower (omega (arith, some, x_in)), rank x some x_in, rank vars (omega (arith, some, x_in)) (omega arith)))

  to_none : IsPrevious f vars vars 0
  to_none = record {
    fits = omega arith;
    lesser = λ some. omega (arith, none, few, rank vars some (omega arith));
    greatest = λ x x_in lower. elim (eqb_tells x 0) [ inl t ↦ omega (arith, ap f t.1) | inr t ↦ le_none x x_in lower (omega (arith, t.1)) ];
  }

  pub AreLinks-by_number : (previous next : List ℕ) → length previous ≡ vars + 1 → ((v : ℕ) → v < vars → get_or previous v 0 ≡ v + 1) → get_or previous vars 0 ≡ 0
      → length next ≡ vars + 1 → ((v : ℕ) → v < vars → get_or next (v + 1) 0 ≡ v) → get_or next 0 0 ≡ vars → AreLinks f vars previous next
  AreLinks-by_number previous next previous_each greater previous_around next_each lesser next_around = record {
    previous_each = previous_each;
    next_each = next_each;
    next_fits = next_fits;
    before = before;
    after = after;
  } where
    before : (v : ℕ) → v ≤ vars → IsPrevious f vars v (get_or previous v 0)
    before v v_in = elim (cases_lt v vars) [
      | inl within ↦ subst (λ w. IsPrevious f vars v w) (sym (greater v within)) (to_next v (omega (arith, within)))
      | inr past ↦
          let last : vars ≡ v = omega (arith, past, v_in) in
          subst (λ u. IsPrevious f vars u (get_or previous u 0)) last (subst (λ w. IsPrevious f vars vars w) (sym previous_around) to_none)
    ]

    its_next : (v : ℕ) → 0 < v → v ≤ vars → get_or next v 0 ≡ v - 1
    its_next v some v_in =
        let back : v ≡ v - 1 + 1 = omega (arith, some) in
        ap (λ u. get_or next u 0) back ∙ lesser (v - 1) (omega (arith, some, v_in))

    next_fits : (v : ℕ) → v ≤ vars → get_or next v 0 ≤ vars
    next_fits v v_in = elim (eqb_tells v 0) [
      | inl t ↦ omega (arith, ap (λ u. get_or next u 0) t.1, next_around)
      | inr t ↦ omega (arith, its_next v (omega (arith, t.1)) v_in, v_in)
    ]

    after : (v : ℕ) → v ≤ vars → IsPrevious f vars (get_or next v 0) v
    after v v_in = elim (eqb_tells v 0) [
      | inl t ↦ subst (λ u. IsPrevious f vars (get_or next u 0) u) (sym t.1) (subst (λ w. IsPrevious f vars w 0) (sym next_around) to_none)
      | inr t ↦
          let some : 0 < v = omega (arith, t.1) in
          let back : v - 1 + 1 ≡ v = omega (arith, some) in
          subst (λ w. IsPrevious f vars w v) (sym (its_next v some v_in)) (subst (λ u. IsPrevious f vars (v - 1) u) back (to_next (v - 1) (omega (arith, back, v_in))))
    ]

rank_without : (vars x : ℕ) → 0 < x → x ≤ vars → vars ≤ MOST → rank_of (replicate vars 0) x + x ≡ MOST + 1
rank_without vars x some x_in few =
    omega (arith, rank_of-variable (replicate vars 0) x some, get_or-replicate {A = ℕ} vars (x - 1) 0 0 (omega (arith, some, x_in)), some, x_in, few)

pub AreParts-new : (vars : ℕ) (activities : List ℕ) (inside : List Bool) (previous next : List ℕ) → vars ≤ MOST → activities ≡ replicate vars 0 → length inside ≡ vars
    → length previous ≡ vars + 1 → ((v : ℕ) → v < vars → get_or previous v 0 ≡ v + 1) → get_or previous vars 0 ≡ 0
    → length next ≡ vars + 1 → ((v : ℕ) → v < vars → get_or next (v + 1) 0 ≡ v) → get_or next 0 0 ≡ vars → AreParts vars activities inside previous next (get_or previous 0 0) 0
AreParts-new vars activities inside previous next few is inside_each previous_each greater previous_around next_each lesser next_around =
    let f = rank_of (replicate vars 0) in
    let links : AreLinks f vars previous next =
    AreLinks-by_number f vars few refl (λ x some x_in. rank_without vars x some x_in few) previous next previous_each greater previous_around next_each lesser next_around in
    subst (λ xs. AreParts vars xs inside previous next (get_or previous 0 0) 0) (sym is) (record {
      few = few;
      activity_each = length-replicate vars 0;
      inside_each = inside_each;
      links = links;
      is_cursor = IsCursor-last f vars inside (get_or previous 0 0) (links.before 0 (omega arith));
      activities_fit = λ k. none_at k;
      most = omega arith;
    }) where
      none_at : (k : ℕ) → get_or (replicate vars 0) k 0 ≤ 0
      none_at k = elim (cases_lt k vars) [
        | inl within ↦ omega (arith, get_or-replicate {A = ℕ} vars k 0 0 within)
        | inr past ↦ omega (arith, get_or_past {X = ℕ} (replicate vars 0) k 0 (omega (arith, past, length-replicate {A = ℕ} vars 0)))
      ]

module _ (vars : ℕ) (activities : List ℕ) (inside : List Bool) (previous next : List ℕ) (cursor top : ℕ) (h : AreParts vars activities inside previous next cursor top) where
  pub distinct_ranks : AreDistinct (rank_of activities) vars
  distinct_ranks x y x_in y_in same = rank_of-distinct activities x y (omega (arith, x_in, h.few)) (omega (arith, y_in, h.few)) same

  pub AreParts-with : (v : ℕ) (b : Bool) (other : ℕ) → IsCursor (rank_of activities) vars (set inside (v - 1) b) other → AreParts vars activities (set inside (v - 1) b) previous next other top
  AreParts-with v b other is = record {
    few = h.few;
    activity_each = h.activity_each;
    inside_each = length-set inside (v - 1) b ∙ h.inside_each;
    links = h.links;
    is_cursor = is;
    activities_fit = h.activities_fit;
    most = h.most;
  }

  half_fits : (k : ℕ) → get_or (map (λ a. a / 2) activities) k 0 ≤ top / 2
  half_fits k = elim (cases_lt k (length activities)) [
    | inl within ↦ omega (arith, get_or-map (λ a. a / 2) activities k 0 0 within, h.activities_fit k)
    | inr past ↦ omega (arith, get_or_past (map (λ a. a / 2) activities) k 0 (omega (arith, past, length-map activities (λ (a : ℕ). a / 2))))
  ]

  pub AreParts-halved : (new after : List ℕ) → AreLinks (rank_of (map (λ a. a / 2) activities)) vars new after → AreParts vars (map (λ a. a / 2) activities) inside new after (get_or new 0 0) (top / 2)
  AreParts-halved new after links = record {
    few = h.few;
    activity_each = length-map activities (λ (a : ℕ). a / 2) ∙ h.activity_each;
    inside_each = h.inside_each;
    links = links;
    is_cursor = IsCursor-last (rank_of (map (λ a. a / 2) activities)) vars inside (get_or new 0 0) (links.before 0 (omega arith));
    activities_fit = half_fits;
    most = omega (arith, h.most);
  }

  raised_fits : (v k : ℕ) → 0 < v → v ≤ vars → get_or (set activities (v - 1) (top + 1)) k 0 ≤ top + 1
  raised_fits v k some v_in = elim (eqb_tells k (v - 1)) [
    | inl t ↦ omega (arith, get_or-set_at activities (v - 1) k (top + 1) 0 t.1 (omega (arith, some, v_in, h.activity_each)))
    | inr t ↦ omega (arith, get_or-set_other activities (v - 1) k (top + 1) 0 t.1, h.activities_fit k)
  ]

  pub AreParts-raised : (v : ℕ) (new after : List ℕ) → 0 < v → v ≤ vars → top < MOST_ACTIVITY → AreLinks (rank_of (set activities (v - 1) (top + 1))) vars new after
      → AreParts vars (set activities (v - 1) (top + 1)) inside new after (cursor_moved inside previous cursor v) (top + 1)
  AreParts-raised v new after some v_in room links =
      let within : v ≤ length activities = omega (arith, v_in, h.activity_each) in
      let few : length activities ≤ MOST = omega (arith, h.few, h.activity_each) in
      record {
        few = h.few;
        activity_each = length-set activities (v - 1) (top + 1) ∙ h.activity_each;
        inside_each = h.inside_each;
        links = links;
        is_cursor = IsCursor-moved (rank_of activities) (rank_of (set activities (v - 1) (top + 1))) vars v distinct_ranks some v_in
            (rank_of-others activities v (top + 1) some within few) (rank_of-greatest activities v (top + 1) some within few (λ k. omega (arith, h.activities_fit k))) inside previous cursor (h.links.before v v_in) h.is_cursor;
        activities_fit = λ k. raised_fits v k some v_in;
        most = omega (arith, room);
      }

-- what is put in is in
pub is_in-put_in : (o : OrderState) (v : ℕ) → 1 ≤ v → v ≤ length o.inside → is_in (put_in o v) v ≡ true
is_in-put_in o zero some within = absurd (omega (arith, some))
is_in-put_in o (suc n) some within =
    let place : suc n - 1 ≡ n = omega arith in
    rw place (get_or-set_same o.inside n true false (omega (arith, within)))
