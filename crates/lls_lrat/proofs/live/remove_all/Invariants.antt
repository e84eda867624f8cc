use Rattle.std.proofs.Common.{◌≡◌, not, eqb, take}
use Rattle.std.specs.Prelude.{filter}
use Rattle.std.specs.List.{list_any}
use Rattle.lls_prooflog.specs.Lent.{ids_of}
use Rattle.lls_lrat.specs.Occurring.{IsCounted}
use Rattle.lls_lrat.proofs.live.remove_all.Given as goal

abbrev pub invariant-loop-k : goal.invariant-loop-k
invariant-loop-k l = record {
  all : l.stored.all ≡ filter (λ pair. not (list_any (λ id. eqb id pair.0) (take l.k (ids_of l.ids)))) l.initial.stored.all;
  added : l.stored.added ≡ filter (λ pair. not (list_any (λ id. eqb id pair.0) (take l.k (ids_of l.ids)))) l.initial.stored.added;
  counted : IsCounted l.stored.all l.counts;
}
