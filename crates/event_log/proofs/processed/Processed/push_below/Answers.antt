-- There is room for the keys of all.
use Rattle.std.proofs.Common.{◌++◌, length, map, sym, ap, ◌∙◌, subst, arith}
use Rattle.std.specs.Prelude.{filter, nat_lt}
use Rattle.event_key.specs.declared.key.Key.{Key}
use Rattle.key_order.specs.Ascending.{Ascends}
use Rattle.key_order.proofs.AscendingLemmas.{Ascends-map}
use Rattle.object_log.specs.Carrying.{placed_key}
use Rattle.event_log.specs.Processing.{ProcessedView, merged}
use Rattle.event_log.specs.Reading.{own_key}
use Rattle.event_log.proofs.ProcessedFacts.{merged-long}
use Rattle.event_log.proofs.ReadingFacts.{keys-all}
use Rattle.event_log.proofs.processed.Processed.push_below.Goals as goal

pub push_below-requires-clause-ordered : goal.push_below-requires-clause-ordered
push_below-requires-clause-ordered c =
    let n = c.self.inside in
    subst (Ascends own_key) (sym (keys-all n.carried.items n.news.done n.places.items c.self.invariant.long))
    (Ascends-map own_key placed_key (merged n.news.done n.places.items n.carried.items) c.self.invariant.ordered)

pub push_below-requires-clause-room : goal.push_below-requires-clause-room
push_below-requires-clause-room c =
    let n = c.self.inside in
    let long = merged-long n.news.done n.places.items n.carried.items c.self.invariant.long in
    let view = ap (λ (v : ProcessedView). length v.items) c.self.view_is in
    omega (arith, c.len.ensures, long, view, c.in_ok-reserve.ensures)

pub returns-clause-ok : goal.returns-clause-ok
returns-clause-ok c =
    let n = c.self.inside in
    let all = keys-all n.carried.items n.news.done n.places.items c.self.invariant.long ∙ ap (λ (v : ProcessedView). map placed_key v.items) c.self.view_is in
    c.push_below.ensures
    ∙ (λ i. c.in_ok-reserve.ensures.items i ++ filter (λ (k : Key). nat_lt k.stamp c.args.horizon) (all i))
