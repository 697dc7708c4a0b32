use Rattle.std.proofs.Common.{◌≡◌, List, map, ap, sym, subst, get_or, length, ◌∙◌, ◌+◌, ◌<◌, arith, set}
use Rattle.std.proofs.lemmas.List.{get_or_default, length_push, map_push}
use Rattle.std.proofs.lemmas.List.Elements.{All-push, All-set}
use Rattle.release_lanes.specs.Rings.{Ring, Sender, ring_out, ring_in, outline, HasSlot, IsNewSender, IsNewReceiver, IsNew}
use Rattle.release_lanes.specs.Woven.{Grows, connected}
use Rattle.release_lanes.specs.declared.rings.RingEnd.{RingEnd}
use Rattle.release_lanes.proofs.RingLemmas.{ring_more, pair_ring}
use Rattle.release_lanes.proofs.rings.rings_to.Goals as goal

pub loop-to-preserved : goal.loop-to-preserved
loop-to-preserved c =
    let ends = c.loop-to.ends in
    let to = c.loop-to.to in
    let inv = c.loop-to.invariant in
    let sender = c.in_ok-sender.sender in
    let receiver = c.in_ok-sender.receiver in
    let within : to < length ends = omega arith in
    let end = get_or ends to c.index-ends-to.result in
    let new : RingEnd = record { number = end.number; outs = end.outs; ins = c.push.new.self } in
    let received = c.in_ok-push.ensures.items in
    let pushed = c.in_ok-push-2.ensures.items in
    let at : end ≡ get_or ends to end = get_or_default ends to c.index-ends-to.result end within in
    let is : outline new ≡ connected (outline end) (ring_in receiver) =
    ap (λ (l : List Ring). record { number = end.number; outs = map ring_out end.outs.items; ins = l }) (ap (map ring_in) received ∙ map_push ring_in end.ins.items receiver) in
    let slot : HasSlot (ring_out sender) =
    let capacity = c.in_ok-sender.ensures.producer.2 in let names = sender.writes.2 in omega arith in
    let P : List Sender → Type 0 = λ l. Grows (map outline c.args.ends.now) (map ring_out l) (map outline (set ends to new)) in record {
      count = ap length pushed ∙ length_push c.loop-to.outs.items sender ∙ ap (λ n. n + 1) inv.count;
      grows = subst P (sym pushed)
          (ring_more c.args.ends.now ends c.loop-to.outs.items to end new sender receiver inv.count inv.grows within at (pair_ring sender receiver c.in_ok-sender.ensures.pair) is);
      fresh = rw pushed (All-push IsNewSender c.loop-to.outs.items sender inv.fresh (c.in_ok-sender.ensures.producer.0, slot));
      news =
          let had = inv.news to c.index-ends-to.result within in
          All-set IsNew ends to new (had.0, rw received (All-push IsNewReceiver end.ins.items receiver had.1 (c.in_ok-sender.ensures.consumer.0, c.in_ok-sender.ensures.consumer.1))) inv.news;
    }
