-- One part more stands in the list, which has room for it.
use Rattle.std.proofs.Common.{sym, refl, ◌∙◌}
use Rattle.std.proofs.lemmas.List.{append-nil}
use Rattle.model_core.proofs.PutLemmas.{all-put, one-more, room-left}
use Rattle.model_core.proofs.records.put_parts.Goals as goal

pub loop-part-init : goal.loop-part-init
loop-part-init c = record { items = sym (append-nil c.args.into.now.items); capacity = refl }

pub push_reserved-requires : goal.push_reserved-requires
push_reserved-requires c = room-left c.args.into.now.items c.loop-part.into.items c.args.parts.now c.loop-part.part-index _ _ _ _ c.loop-part.invariant.items c.loop-part.into.ok.0 c.args.into.now.ok.0 c.loop-part.invariant.capacity c.requires c.loop-part-test.true

pub loop-part-preserved : goal.loop-part-preserved
loop-part-preserved c = record {
  items = one-more c.args.into.now.items c.loop-part.into.items c.push_reserved.new.self.items c.args.parts.now c.loop-part.part-index _ c.loop-part-test.true c.loop-part.invariant.items c.push_reserved.ensures.items;
  capacity = c.push_reserved.ensures.capacity ∙ c.loop-part.invariant.capacity;
}

pub returns : goal.returns
returns c = record {
  items = all-put c.args.into.now.items c.loop-part.into.items c.args.parts.now c.loop-part.part-index c.loop-part.invariant.items c.loop-part-test.false;
  capacity = c.loop-part.invariant.capacity;
}
