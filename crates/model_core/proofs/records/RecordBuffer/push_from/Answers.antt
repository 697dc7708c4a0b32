use Rattle.std.proofs.Common.{◌++◌, ◌∷◌, [], length, refl, sym, ap, ◌∙◌, arith}
use Rattle.std.proofs.lemmas.Option.{same_Some}
use Rattle.event_key.specs.declared.key.Key.{Key}
use Rattle.model_core.specs.declared.note.Note.{Note}
use Rattle.model_core.specs.declared.record_head.RecordHead.{RecordHead}
use Rattle.model_core.specs.Records.{RecordsView, records_of}
use Rattle.model_core.proofs.RecordLemmas.{records_of-more, room-for-head, room-for-parts}
use Rattle.model_core.proofs.records.RecordBuffer.push_from.Goals as goal

pub returns-clause-items : goal.returns-clause-items
returns-clause-items c told is_told =
    let heads = c.self.inside.heads.items in
    let parts = c.self.inside.parts.items in
    let read : Key × Note = (c.at.result.0.now, c.at.result.1.now) in
    let head : RecordHead = record { key = read.0; start = c.len-start.result; count = length read.1 } in
    ap (λ hs. records_of hs c.put_parts.new.into.items) c.push_reserved.ensures.items
    ∙ ap (records_of (heads ++ head ∷ [])) c.put_parts.ensures.items
    ∙ records_of-more heads parts read.1 head c.self.invariant.among (omega (arith, c.len-start.ensures, c.self.inside.parts.ok)) refl
    ∙ ap (λ (one : Key × Note). records_of heads parts ++ one ∷ []) (same_Some read told (sym c.at.ensures.told ∙ is_told))
    ∙ ap (λ (v : RecordsView). v.items ++ told ∷ []) c.self.view_is

pub put_parts-requires : goal.put_parts-requires
put_parts-requires c = room-for-parts _ _ _ _ _ _ c.self.inside.parts.ok.0 c.self.invariant.part_room (ap (λ (v : RecordsView). v.room) c.self.view_is) c.requires.room c.at.ensures.few

pub push_reserved-requires : goal.push_reserved-requires
push_reserved-requires c = room-for-head _ _ _ _ _ c.self.inside.heads.ok.0 c.self.invariant.head_room (ap (λ (v : RecordsView). v.room) c.self.view_is) c.requires.room
