use Rattle.std.proofs.Common.{◌<◌, Ok, length, drop, ap, ◌∙◌, arith}
use Rattle.std.specs.Option.{option_map}
use Rattle.lls_base.specs.Shelf.{known_files, known_target, known_rest}
use Rattle.lls_base.proofs.Faults.{Counts-trans}
use Rattle.lls_base.proofs.Rest.{known_files-read, known_target-read, known_rest-read, front-read, option_map-drop}
use Rattle.lls_cli.proofs.FedProofs.{HasFed-more, fed_with-is, some_fed, all_read}
use Rattle.lls_cli.proofs.feeding.feed_rest.Goals as goal

pub returns-then-count-eq0-clause-fed : goal.returns-then-count-eq0-clause-fed
returns-then-count-eq0-clause-fed g c =
    let invariant = c.loop-count.invariant in
    let told = g.S.Shelf.told c.loop-count.shelf in
    let read = c.in-Ok.ensures in
    let front = front-read _ _ _ _ _ invariant.rest read.front in
    let room : 0 < length c.read.new.buf = omega arith in
    record {
      kept = record {
        files = ap known_files read.told ∙ known_files-read told (Ok c.in-Ok.count) ∙ invariant.kept.files;
        target = ap known_target read.told ∙ known_target-read told (Ok c.in-Ok.count) ∙ invariant.kept.target;
        has_output = read.output ∙ invariant.kept.has_output;
      };
      counts = Counts-trans invariant.counts read.counts;
      ok = (
        (
          invariant.fed.bytes,
          omega (arith, invariant.fed.many, invariant.within),
          all_read _ c.loop-count.taken invariant.fed.bytes c.read.new.buf invariant.fed.front (rw c.if-count-eq0.true at front) room,
          fed_with-is c.loop-count.feed _ invariant.fed.bytes invariant.formula invariant.fed.fed_is,
        ),
        read.no_fault ∙ invariant.no_fault,
      );
      err = tt;
    }

pub loop-count-preserved : goal.loop-count-preserved
loop-count-preserved g c =
    let invariant = c.loop-count.invariant in
    let told = g.S.Shelf.told c.loop-count.shelf in
    let count = c.in-Ok.count in
    let read = c.in-Ok.ensures in
    let some = some_fed _ _ c.feed.ensures.answer (λ e. let clash = rw e at c.if-eq.ensures in cc) in
    record {
      within = omega (arith, c.if-count-taken.false, invariant.within);
      rest = ap known_rest read.told ∙ known_rest-read told count ∙ ap (option_map (drop count)) invariant.rest ∙ option_map-drop _ c.loop-count.taken count;
      fed = HasFed-more _ _ _ _ c.loop-count.taken count c.read.new.buf (omega (arith, read.within, c.read.auto.buf)) invariant.fed (c.feed.ensures.fed some) (front-read _ _ _ _ _ invariant.rest read.front);
      formula = c.feed.ensures.formula ∙ invariant.formula;
      kept = record {
        files = ap known_files read.told ∙ known_files-read told (Ok count) ∙ invariant.kept.files;
        target = ap known_target read.told ∙ known_target-read told (Ok count) ∙ invariant.kept.target;
        has_output = read.output ∙ invariant.kept.has_output;
      };
      input = read.input ∙ invariant.input;
      counts = Counts-trans invariant.counts read.counts;
      no_fault = read.no_fault ∙ invariant.no_fault;
    }
