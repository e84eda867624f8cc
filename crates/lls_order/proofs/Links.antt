-- The links of a ring, as a variable becomes its last.
use Rattle.std.proofs.Common.{◌≡◌, ◌≢◌, ℕ, ◌<◌, ◌≤◌, List, get_or, set, sym, ap, subst, ◌∙◌, inl, inr, arith}
use Rattle.std.proofs.lemmas.Bool.{cases_lt}
use Rattle.std.proofs.lemmas.Bool.Decides.{eqb_tells}
use Rattle.std.proofs.lemmas.List.{length-set, get_or-set_other}
use Rattle.std.proofs.lemmas.Grind.{get_or-set_at}
use Rattle.lls_order.specs.Queue.{AreLinks, IsPrevious, next_moved, previous_moved}

abbrev pub AreDistinct : (ℕ → ℕ) → ℕ → Type 0
AreDistinct f vars = (x y : ℕ) → x ≤ vars → y ≤ vars → f x ≡ f y → x ≡ y

-- a number has one place in the ring
module _ (f : ℕ → ℕ) (vars : ℕ) (distinct : AreDistinct f vars) where
  pub previous_alone : (v w x : ℕ) → IsPrevious f vars v w → IsPrevious f vars v x → w ≡ x
  previous_alone v w x h_w h_x = distinct w x h_w.fits h_x.fits (omega (arith, h_x.greatest w h_w.fits h_w.lesser, h_w.greatest x h_x.fits h_x.lesser))

  not_lower : (u v w : ℕ) → u ≤ vars → v ≤ vars → IsPrevious f vars u w → IsPrevious f vars v w → 0 < u → 0 < v → f v ≤ f u
  not_lower u v w u_in v_in h_u h_v u_some v_some = elim (cases_lt (f u) (f v)) [
    | inl less ↦ absurd (omega (arith, h_v.greatest u u_in (λ s. less), h_u.lesser u_some))
    | inr le ↦ le
  ]

  pub next_alone : (u v w : ℕ) → u ≤ vars → v ≤ vars → IsPrevious f vars u w → IsPrevious f vars v w → u ≡ v
  next_alone u v w u_in v_in h_u h_v = elim (cases_lt 0 u) [
    | inl u_some ↦ elim (cases_lt 0 v) [
      | inl v_some ↦ distinct u v u_in v_in (omega (arith, not_lower u v w u_in v_in h_u h_v u_some v_some, not_lower v u w v_in u_in h_v h_u v_some u_some))
      | inr v_none ↦ absurd (omega (arith, h_u.lesser u_some, h_v.greatest u u_in (λ s. absurd (omega (arith, s, v_none)))))
    ]
    | inr u_none ↦ elim (cases_lt 0 v) [
      | inl v_some ↦ absurd (omega (arith, h_v.lesser v_some, h_u.greatest v v_in (λ s. absurd (omega (arith, s, u_none)))))
      | inr v_none ↦ omega arith
    ]
  ]

-- a number of the ring that all others but one are no greater than
record IsLastBut (f : ℕ → ℕ) (vars v l : ℕ) : Type 0 where
  fits : l ≤ vars
  other : l ≢ v
  most : (x : ℕ) → x ≤ vars → x ≢ v → f x ≤ f l

-- one number follows another in the ring
pub record Follows (f : ℕ → ℕ) (vars v w : ℕ) : Type 0 where
  pub fits : w ≤ vars
  pub is : IsPrevious f vars w v

module _ (f g : ℕ → ℕ) (vars v : ℕ) (distinct : AreDistinct f vars) (some : 0 < v) (v_in : v ≤ vars) (same : (x : ℕ) → x ≢ v → g x ≡ f x) (greatest : (x : ℕ) → x ≢ v → g x < g v) where
  is_last : IsPrevious g vars 0 v
  is_last = record {
    fits = v_in;
    lesser = λ none. absurd (omega (arith, none));
    greatest = λ x x_in lower. elim (eqb_tells x v) [ inl t ↦ omega (arith, ap g t.1) | inr t ↦ omega (arith, greatest x t.1) ];
  }

  behind_last : (l : ℕ) → IsLastBut f vars v l → IsPrevious g vars v l
  behind_last l h = record {
    fits = h.fits;
    lesser = λ s. greatest l h.other;
    greatest = λ x x_in lower. elim (eqb_tells x v) [
      | inl t ↦ absurd (omega (arith, ap g t.1, lower some))
      | inr t ↦ omega (arith, same x t.1, same l h.other, h.most x x_in t.1)
    ];
  }

  -- the variable isn't less than another
  other_than : (u x : ℕ) → u ≢ v → g x < g u → x ≢ v
  other_than u x other less at = omega (arith, ap g at, greatest u other, less)

  kept : (u w : ℕ) → IsPrevious f vars u w → 0 < u → u ≢ v → w ≢ v → IsPrevious g vars u w
  kept u w h u_some u_other w_other = record {
    fits = h.fits;
    lesser = λ s. omega (arith, same u u_other, same w w_other, h.lesser s);
    greatest = λ x x_in lower.
        let other : x ≢ v = other_than u x u_other (lower u_some) in
        omega (arith, same x other, same w w_other, h.greatest x x_in (λ s. omega (arith, lower s, same x other, same u u_other)));
  }

  -- the variable between two is taken out
  skipped : (u w : ℕ) → IsPrevious f vars u v → IsPrevious f vars v w → 0 < u → IsPrevious g vars u w
  skipped u w h_u h_v u_some =
      let u_other : u ≢ v = λ at. omega (arith, ap f at, h_u.lesser u_some) in
      let w_other : w ≢ v = λ at. omega (arith, ap f at, h_v.lesser some) in
      record {
        fits = h_v.fits;
        lesser = λ s. omega (arith, same u u_other, same w w_other, h_u.lesser s, h_v.lesser some);
        greatest = λ x x_in lower.
            let other : x ≢ v = other_than u x u_other (lower u_some) in
            let le : f x ≤ f v = h_u.greatest x x_in (λ s. omega (arith, lower s, same x other, same u u_other)) in
            let ne : f x ≢ f v = λ equal. other (distinct x v x_in v_in equal) in
            omega (arith, same x other, same w w_other, h_v.greatest x x_in (λ s. omega (arith, le, ne)));
      }

  module _ (previous next : List ℕ) (h : AreLinks f vars previous next) where
    p : ℕ
    p = get_or previous v 0

    n : ℕ
    n = get_or next v 0

    l : ℕ
    l = get_or (set previous n p) 0 0

    p_is : IsPrevious f vars v p
    unfolding p
    p_is = h.before v v_in

    n_is : IsPrevious f vars n v
    unfolding n
    n_is = h.after v v_in

    n_in : n ≤ vars
    unfolding n
    n_in = h.next_fits v v_in

    p_other : p ≢ v
    p_other at = omega (arith, ap f at, p_is.lesser some)

    n_other : n ≢ v
    n_other at = omega (arith, ap f at, n_is.lesser (omega (arith, at, some)))

    l_around : n ≡ 0 → l ≡ p
    unfolding l
    l_around none = get_or-set_at previous n 0 p 0 (sym none) (omega (arith, n_in, h.previous_each))

    l_last : n ≢ 0 → l ≡ get_or previous 0 0
    unfolding l
    l_last has = get_or-set_other previous n 0 p 0 (λ same_place. has (sym same_place))

    last_is : IsPrevious f vars 0 (get_or previous 0 0)
    last_is = h.before 0 (omega arith)

    l_is : IsLastBut f vars v l
    l_is = elim (eqb_tells n 0) [
      | inl t ↦
          let none : IsPrevious f vars 0 v = subst (λ m. IsPrevious f vars m v) t.1 n_is in
          let at = l_around t.1 in
          record {
            fits = omega (arith, at, p_is.fits);
            other = λ e. p_other (sym at ∙ e);
            most = λ x x_in other.
                let ne : f x ≢ f v = λ equal. other (distinct x v x_in v_in equal) in
                let le : f x ≤ f v = none.greatest x x_in (λ s. absurd (omega (arith, s))) in
                omega (arith, ap f at, p_is.greatest x x_in (λ s. omega (arith, le, ne)));
          }
      | inr t ↦
          let at = l_last t.1 in
          record {
            fits = omega (arith, at, last_is.fits);
            other = λ e. t.1 (next_alone f vars distinct n 0 v n_in (omega arith) n_is (subst (λ m. IsPrevious f vars 0 m) (sym at ∙ e) last_is));
            most = λ x x_in other. omega (arith, ap f at, last_is.greatest x x_in (λ s. absurd (omega (arith, s))));
          }
    ]

    previous_after : List ℕ
    previous_after = set (set (set previous n p) v l) 0 v

    next_after : List ℕ
    next_after = set (set (set next p n) l v) v 0

    before : (u : ℕ) → u ≤ vars → IsPrevious g vars u (get_or previous_after u 0)
    unfolding previous_after
    before u u_in =
        let two = set (set previous n p) v l in
        let one = set previous n p in
        let P : ℕ → Type 0 = λ w. IsPrevious g vars u w in
        elim (eqb_tells u 0) [
          | inl at ↦
              let Q : ℕ → Type 0 = λ m. IsPrevious g vars m v in
              subst P (sym (get_or-set_at two 0 u v 0 at.1 (omega (arith, h.previous_each, length-set one v l, length-set previous n p)))) (subst Q (sym at.1) is_last)
          | inr not_first ↦ elim (eqb_tells u v) [
            | inl at ↦
                let Q : ℕ → Type 0 = λ m. IsPrevious g vars m l in
                subst P (sym (get_or-set_other two 0 u v 0 not_first.1 ∙ get_or-set_at one v u l 0 at.1 (omega (arith, v_in, h.previous_each, length-set previous n p)))) (subst Q (sym at.1) (behind_last l l_is))
            | inr not_v ↦
                let rest : get_or (set two 0 v) u 0 ≡ get_or one u 0 = get_or-set_other two 0 u v 0 not_first.1 ∙ get_or-set_other one v u l 0 not_v.1 in
                elim (eqb_tells u n) [
                  | inl at ↦
                      let Q : ℕ → Type 0 = λ m. IsPrevious g vars m p in
                      subst P (sym (rest ∙ get_or-set_at previous n u p 0 at.1 (omega (arith, n_in, h.previous_each)))) (subst Q (sym at.1) (skipped n p n_is p_is (omega (arith, at.1, not_first.1))))
                  | inr not_n ↦
                      subst P (sym (rest ∙ get_or-set_other previous n u p 0 not_n.1))
                      (kept u (get_or previous u 0) (h.before u u_in) (omega (arith, not_first.1)) not_v.1 (λ e. not_n.1 (next_alone f vars distinct u n v u_in n_in (subst (λ m. IsPrevious f vars u m) e (h.before u u_in)) n_is)))
                ]
          ]
        ]

    after : (u : ℕ) → u ≤ vars → Follows g vars u (get_or next_after u 0)
    unfolding next_after
    after u u_in =
        let two = set (set next p n) l v in
        let one = set next p n in
        let P : ℕ → Type 0 = λ w. Follows g vars u w in
        elim (eqb_tells u v) [
          | inl at ↦
              let Q : ℕ → Type 0 = λ m. Follows g vars m 0 in
              subst P (sym (get_or-set_at two v u 0 0 at.1 (omega (arith, v_in, h.next_each, length-set one l v, length-set next p n)))) (subst Q (sym at.1) (record { fits = omega arith; is = is_last }))
          | inr not_v ↦ elim (eqb_tells u l) [
            | inl at ↦
                let Q : ℕ → Type 0 = λ m. Follows g vars m v in
                subst P (sym (get_or-set_other two v u 0 0 not_v.1 ∙ get_or-set_at one l u v 0 at.1 (omega (arith, l_is.fits, h.next_each, length-set next p n)))) (subst Q (sym at.1) (record { fits = v_in; is = behind_last l l_is }))
            | inr not_l ↦
                let rest : get_or (set two v 0) u 0 ≡ get_or one u 0 = get_or-set_other two v u 0 0 not_v.1 ∙ get_or-set_other one l u v 0 not_l.1 in
                elim (eqb_tells u p) [
                  | inl at ↦
                      let Q : ℕ → Type 0 = λ m. Follows g vars m n in
                      let n_some : n ≢ 0 = λ none. not_l.1 (at.1 ∙ sym (l_around none)) in
                      subst P (sym (rest ∙ get_or-set_at next p u n 0 at.1 (omega (arith, p_is.fits, h.next_each)))) (subst Q (sym at.1) (record { fits = n_in; is = skipped n p n_is p_is (omega (arith, n_some)) }))
                  | inr not_p ↦
                      subst P (sym (rest ∙ get_or-set_other next p u n 0 not_p.1)) (stays u u_in not_v.1 not_l.1 not_p.1)
                ]
          ]
        ] where
          stays : (u : ℕ) → u ≤ vars → u ≢ v → u ≢ l → u ≢ p → Follows g vars u (get_or next u 0)
          stays u u_in not_v not_l not_p =
              let y = get_or next u 0 in
              let is = h.after u u_in in
              let y_other : y ≢ v = λ e. not_p (previous_alone f vars distinct v u p (subst (λ m. IsPrevious f vars m u) e is) p_is) in
              let y_some : y ≢ 0 = λ e.
              let around : IsPrevious f vars 0 u = subst (λ m. IsPrevious f vars m u) e is in
              elim (eqb_tells n 0) [
                | inl t ↦ not_v (previous_alone f vars distinct 0 u v around (subst (λ m. IsPrevious f vars m v) t.1 n_is))
                | inr t ↦ not_l (previous_alone f vars distinct 0 u (get_or previous 0 0) around last_is ∙ sym (l_last t.1))
              ] in
              record { fits = h.next_fits u u_in; is = kept y u is (omega (arith, y_some)) y_other not_v }

    pub AreLinks-moved : AreLinks g vars (previous_moved previous next v) (next_moved previous next v)
    unfolding p n l previous_after next_after
    AreLinks-moved = record {
      previous_each = length-set (set (set previous n p) v l) 0 v ∙ length-set (set previous n p) v l ∙ length-set previous n p ∙ h.previous_each;
      next_each = length-set (set (set next p n) l v) v 0 ∙ length-set (set next p n) l v ∙ length-set next p n ∙ h.next_each;
      next_fits = λ u u_in. (after u u_in).fits;
      before = before;
      after = λ u u_in. (after u u_in).is;
    }
