-- One key more, or none that is below the horizon.
use Rattle.std.proofs.Common.{List, ◌++◌, refl, sym, ap, ◌∙◌, arith}
use Rattle.std.specs.Prelude.{filter, nat_lt}
use Rattle.event_key.specs.declared.key.Key.{Key}
use Rattle.event_log.specs.Reading.{keys_from}
use Rattle.event_log.proofs.ReadingFacts.{read-end, read-more, read-none, read-rest}
use Rattle.event_log.proofs.reading.push_below.Goals as goal

pub loop-key-init : goal.loop-key-init
loop-key-init c = record {
  within = record { carried_in = omega arith; news_in = omega arith };
  ordered = c.requires.ordered;
  same = refl;
  room = omega (arith, c.requires.room);
}

pub returns-then-key-horizon : goal.returns-then-key-horizon
returns-then-key-horizon c =
    let l = c.loop-key in
    let n = c.in-Some.ensures.some in
    let cs = c.args.carried.now.items in
    let ns = c.args.news.now.done in
    sym (read-end c.args.horizon l.into.items (keys_from l.read cs ns) (keys_from c.in-Some.next cs ns) c.in-Some.key n.first l.invariant.ordered (omega arith))
    ∙ l.invariant.same

pub loop-key-preserved : goal.loop-key-preserved
loop-key-preserved c =
    let l = c.loop-key in
    let n = c.in-Some.ensures.some in
    let cs = c.args.carried.now.items in
    let ns = c.args.news.now.done in
    let rest = keys_from c.in-Some.next cs ns in
    record {
      within = n.within;
      ordered = read-rest c.args.horizon l.into.items (keys_from l.read cs ns) rest c.in-Some.key n.first l.invariant.ordered;
      same = ap (λ (ks : List Key). ks ++ filter (λ (k : Key). nat_lt k.stamp c.args.horizon) rest) c.push_reserved.ensures.items
          ∙ read-more c.args.horizon l.into.items (keys_from l.read cs ns) rest c.in-Some.key n.first (omega arith)
          ∙ l.invariant.same;
      room = (let one = n.one in let was = l.invariant.room in omega arith);
    }

pub returns : goal.returns
returns c =
    let l = c.loop-key in
    let cs = c.args.carried.now.items in
    let ns = c.args.news.now.done in
    sym (read-none c.args.horizon l.into.items (keys_from l.read cs ns) c.in_default.ensures.none) ∙ l.invariant.same
