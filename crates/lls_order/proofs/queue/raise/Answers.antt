use Rattle.std.proofs.Common.{◌-◌, ◌≡◌, ◌<◌, ℕ, List, length, set, sym, subst, arith}
use Rattle.lls_order.specs.Queue.{AreLinks, next_moved, previous_moved, rank_of}
use Rattle.lls_order.proofs.Links.{AreLinks-moved}
use Rattle.lls_order.proofs.Ranks.{rank_of-distinct, rank_of-greatest, rank_of-others}
use Rattle.lls_order.proofs.queue.raise.Goals as goal

pub returns-clause-links : goal.returns-clause-links
returns-clause-links c =
    let activities = c.args.activities.now in
    let vars = length activities in
    let v = c.args.var in
    let some : 0 < v = omega (arith, c.index.ensures.variable.0) in
    let previous = c.args.previous.now in
    let next = c.args.next.now in
    let g = rank_of (set activities (v - 1) c.args.activity) in
    let P : List ℕ → Type 0 = λ ps. AreLinks g vars ps c.move_last.new.next in
    let Q : List ℕ → Type 0 = λ ns. AreLinks g vars (previous_moved previous next c.number.result) ns in
    let links : AreLinks g vars (previous_moved previous next v) (next_moved previous next v) =
    AreLinks-moved (rank_of activities) g vars v (λ x y x_in y_in. rank_of-distinct activities x y (omega (arith, x_in, c.requires.few)) (omega (arith, y_in, c.requires.few))) some c.requires.within
    (rank_of-others activities v c.args.activity some c.requires.within c.requires.few) (rank_of-greatest activities v c.args.activity some c.requires.within c.requires.few c.requires.greatest) previous next c.requires.links in
    let named : AreLinks g vars (previous_moved previous next c.number.result) (next_moved previous next c.number.result) =
    subst (λ n. AreLinks g vars (previous_moved previous next n) (next_moved previous next n)) (sym c.number.ensures.number) links in
    let at : v - 1 ≡ c.index.result = omega (arith, c.index.ensures.place) in
    subst (λ i. AreLinks (rank_of (set activities i c.args.activity)) vars c.move_last.new.previous c.move_last.new.next) at
    (subst P (sym c.move_last.ensures.previous) (subst Q (sym c.move_last.ensures.next) named))
