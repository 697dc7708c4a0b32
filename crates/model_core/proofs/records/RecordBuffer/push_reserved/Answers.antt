use Rattle.std.proofs.Common.{◌++◌, ◌∷◌, [], ap, ◌∙◌, arith}
use Rattle.model_core.specs.declared.record_head.RecordHead.{RecordHead}
use Rattle.model_core.specs.Records.{RecordsView, records_of}
use Rattle.model_core.proofs.RecordLemmas.{no-more-parts, records_of-more, room-for-head, room-for-parts}
use Rattle.model_core.proofs.records.RecordBuffer.push_reserved.Goals as goal

pub returns-clause-items : goal.returns-clause-items
returns-clause-items c =
    let heads = c.self.inside.heads.items in
    let parts = c.self.inside.parts.items in
    let head : RecordHead = record { key = c.args.key.now; start = c.len-start.result; count = c.len-count.result } in
    ap (λ hs. records_of hs c.put_into.new.parts.items) c.push_reserved.ensures.items
    ∙ ap (records_of (heads ++ head ∷ [])) c.put_into.ensures.items
    ∙ records_of-more heads parts c.args.note.now head c.self.invariant.among (omega (arith, c.len-start.ensures, c.self.inside.parts.ok)) c.len-count.ensures.count
    ∙ ap (λ (v : RecordsView). v.items ++ (c.args.key.now, c.args.note.now) ∷ []) c.self.view_is

pub put_into-requires : goal.put_into-requires
put_into-requires c = room-for-parts _ _ _ _ _ _ c.self.inside.parts.ok.0 c.self.invariant.part_room (ap (λ (v : RecordsView). v.room) c.self.view_is) c.requires (no-more-parts _ _ c.len-count.ensures.count c.len-count.ensures.few)

pub push_reserved-requires : goal.push_reserved-requires
push_reserved-requires c = room-for-head _ _ _ _ _ c.self.inside.heads.ok.0 c.self.invariant.head_room (ap (λ (v : RecordsView). v.room) c.self.view_is) c.requires
