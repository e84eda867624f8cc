use Rattle.std.proofs.Common.{◌≡◌, ◌%◌, ◌/◌, ◌^◌, ◌+◌, List, true, refl, sym, ap, ◌∙◌, take}
use Rattle.std.specs.Prelude.{ℤ}
use Rattle.std.specs.FinSet as set
use Rattle.std.specs.Ordering.{int_cmp}
use Rattle.std.proofs.lemmas.List.{take_all}
use Rattle.lls_lit.specs.Formula.{is_literal_of}
use Rattle.lls_lit.specs.Marked.{Marked}
use Rattle.lls_store.specs.Clauses.{Literals}
use Rattle.lls_lemmas.specs.Indexed.{shares}
use Rattle.lls_lemmas.proofs.Hashing.{insert_known, set_more, shares_none, sum_more}
use Rattle.lls_lemmas.proofs.Listing.{all_pass}
use Rattle.lls_lemmas.proofs.finding.hash_of.Goals.{then-not-has, else-not-has}
use Rattle.lls_lemmas.proofs.finding.hash_of.Goals as goal

pub loop-lit-init : goal.loop-lit-init
loop-lit-init c =
    let none = ap (λ (m : Marked). m.lits) c.clear.ensures in
    let v = c.clear.new.self.vars in
    record { lits = none; sum = sym (ap (λ n. n % 2 ^ 64) (ap (λ (ls : Literals). shares ls v) none ∙ shares_none v)); vars = refl }

pub loop-lit-preserved : goal.loop-lit-preserved
loop-lit-preserved c =
    let i = c.loop-lit.invariant in
    let lits = c.args.lits.now in
    let k = c.loop-lit.lit-index in
    let l = c.lit-item.result in
    let more = set_more lits k l c.loop-lit-test.true c.lit-item.is in
    elim c.if-not-has.branch [
      | then-not-has w ↦ (
          let lits_are : c.if-not-has.marks.lits ≡ set.insert c.loop-lit.marks.lits l = ap (λ (m : Marked). m.lits) (w.marks-is ∙ w.put.ensures) in
          let within : is_literal_of c.clear.new.self.vars l ≡ true = ap (λ n. is_literal_of n l) (ap (λ (m : Marked). m.vars) c.clear.ensures) ∙ all_pass (is_literal_of c.args.marks.now.vars) lits l c.requires (k, c.loop-lit-test.true, sym c.lit-item.is) in
          record {
            lits = lits_are ∙ ap (λ (ls : Literals). set.insert ls l) i.lits ∙ sym more;
            sum = w.sum-is ∙ ap (λ n. (c.loop-lit.sum + n) % 2 ^ 64) w.mixed-sum.ensures ∙ sum_more c.loop-lit.marks.lits l c.clear.new.self.vars c.loop-lit.sum i.sum (sym w.if-not-has.ensures) within ∙ ap (λ (ls : Literals). shares ls c.clear.new.self.vars % 2 ^ 64) (sym lits_are);
            vars = ap (λ (m : Marked). m.vars) (w.marks-is ∙ w.put.ensures) ∙ i.vars;
          })
      | else-not-has w ↦ (
          let lits_are : c.if-not-has.marks.lits ≡ c.loop-lit.marks.lits = ap (λ (m : Marked). m.lits) w.marks-is in
          record {
            lits = lits_are ∙ sym (insert_known c.loop-lit.marks.lits l (sym w.if-not-has.ensures)) ∙ ap (λ (ls : Literals). set.insert ls l) i.lits ∙ sym more;
            sum = w.sum-is ∙ i.sum ∙ ap (λ (ls : Literals). shares ls c.clear.new.self.vars % 2 ^ 64) (sym lits_are);
            vars = ap (λ (m : Marked). m.vars) w.marks-is ∙ i.vars;
          })
    ]

pub returns-clause-hash : goal.returns-clause-hash
returns-clause-hash c =
    let i = c.loop-lit.invariant in
    let all : take c.loop-lit.lit-index c.args.lits.now ≡ c.args.lits.now = take_all c.loop-lit.lit-index c.args.lits.now c.loop-lit-test.false in
    let vars : c.clear.new.self.vars ≡ c.args.marks.now.vars = ap (λ (m : Marked). m.vars) c.clear.ensures in
    ap (λ n. n / 2 ^ 32) (i.sum ∙ ap (λ (ls : Literals). shares ls c.clear.new.self.vars % 2 ^ 64) (i.lits ∙ ap (λ (ls : List ℤ). set.from_list {R = int_cmp} ls) all) ∙ ap (λ n. shares (set.from_list c.args.lits.now) n % 2 ^ 64) vars)
