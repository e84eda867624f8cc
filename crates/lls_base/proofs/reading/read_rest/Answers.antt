use Rattle.std.proofs.Common.{◌<◌, ◌++◌, Ok, length, take, drop, ap, ◌∙◌, arith}
use Rattle.std.proofs.lemmas.List.{length-append, length-take-le}
use Rattle.std.specs.Option.{option_map}
use Rattle.lls_base.specs.Shelf.{known_files, known_target, known_rest}
use Rattle.lls_base.proofs.Faults.{Counts-trans}
use Rattle.lls_base.proofs.Rest.{known_files-read, known_target-read, known_rest-read, front-read, append-grew, option_map-drop, IsFront-more, GrewByAll-end}
use Rattle.lls_base.proofs.reading.read_rest.Goals as goal

pub returns-then-count-eq0-clause-ok : goal.returns-then-count-eq0-clause-ok
returns-then-count-eq0-clause-ok g c =
    let invariant = c.loop-count.invariant in
    let front = front-read _ _ _ _ _ invariant.rest c.in-Ok.ensures.front in
    let room : 0 < length c.read.new.buf = omega arith in
    GrewByAll-end _ c.loop-count.taken c.args.limit invariant.grew.0 c.read.new.buf c.args.into.now.items c.loop-count.into.items
    invariant.grew.2 (rw c.if-count-eq0.true at front) room invariant.within invariant.grew.1

pub loop-count-preserved : goal.loop-count-preserved
loop-count-preserved g c =
    let invariant = c.loop-count.invariant in
    let told = g.S.Shelf.told c.loop-count.shelf in
    let count = c.in-Ok.count in
    let read = c.in-Ok.ensures in
    let piece = take count c.read.new.buf in
    record {
      within = omega (arith, c.if-count-limit.false, invariant.within);
      count = ap length c.in_ok-extend_from_slice.ensures.items ∙ length-append (c.loop-count.into.items) piece ∙ omega (arith, invariant.count, length-take-le count c.read.new.buf (omega (arith, read.within, c.read.auto.buf)));
      rest = ap known_rest read.told ∙ known_rest-read told count ∙ ap (option_map (drop count)) invariant.rest ∙ option_map-drop _ c.loop-count.taken count;
      grew = (
        invariant.grew.0 ++ piece,
        append-grew c.args.into.now.items c.loop-count.into.items _ invariant.grew.0 piece invariant.grew.1 c.in_ok-extend_from_slice.ensures.items,
        IsFront-more _ _ _ _ _ invariant.grew.2 (front-read _ _ _ _ _ invariant.rest read.front),
      );
      files = ap known_files read.told ∙ known_files-read told (Ok count) ∙ invariant.files;
      target = ap known_target read.told ∙ known_target-read told (Ok count) ∙ invariant.target;
      input = read.input ∙ invariant.input;
      output = read.output ∙ invariant.output;
      counts = Counts-trans invariant.counts read.counts;
      no_fault = read.no_fault ∙ invariant.no_fault;
    }
