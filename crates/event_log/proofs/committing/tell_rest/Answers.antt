-- One record more.
use Rattle.std.proofs.Common.{◌+◌, ◌++◌, [], ◌∷◌, take, drop, add-one, sym, ap, ◌∙◌, arith, append_assoc, length-take}
use Rattle.std.proofs.lemmas.List.{append-nil, drop_all}
use Rattle.event_log.proofs.ReadFacts.{there}
use Rattle.event_log.proofs.TellFacts.{next-of}
use Rattle.event_log.proofs.committing.tell_rest.Goals as goal

pub loop-place-preserved : goal.loop-place-preserved
loop-place-preserved c =
    let l = c.loop-place.invariant in
    let i = c.loop-place.place in
    let news = c.args.news.now.items in
    let records = take c.args.count news in
    let t = there news i (omega (arith, c.requires.count)) in
    let next = next-of c.args.count i news t.0 (omega arith) t.1 in
    record {
      told_is = ap (λ ts. ts ++ drop (i + 1) records) (c.push_from.ensures.items t.0 t.1)
          ∙ append_assoc c.loop-place.told.items (t.0 ∷ []) (drop (i + 1) records)
          ∙ ap (λ ts. c.loop-place.told.items ++ ts) (ap (λ n. t.0 ∷ drop n records) (add-one i) ∙ sym next)
          ∙ l.told_is;
      room = omega (arith, l.room, c.push_from.ensures.room);
    }

pub returns : goal.returns
returns c =
    let l = c.loop-place.invariant in
    let records = take c.args.count c.args.news.now.items in
    let long = length-take c.args.count c.args.news.now.items in
    sym (append-nil c.loop-place.told.items)
    ∙ ap (λ ts. c.loop-place.told.items ++ ts) (sym (drop_all c.loop-place.place records (omega arith)))
    ∙ l.told_is
