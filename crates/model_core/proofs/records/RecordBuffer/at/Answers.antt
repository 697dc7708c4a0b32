-- The record at a place has its key, and its parts among all.
use Rattle.std.proofs.Common.{◌≡◌, ℕ, ◌+◌, ◌-◌, ◌<◌, ◌≤◌, List, length, get_or, take, drop, refl, sym, ap, ◌∙◌, arith, length-take}
use Rattle.std.specs.Prelude.{Some, slice_get, All}
use Rattle.std.specs.Option.{option_map}
use Rattle.std.proofs.lemmas.List.{length-map}
use Rattle.std.proofs.lemmas.Option.{slice_get-map, slice_get_read}
use Rattle.event_key.specs.declared.key.Key.{Key}
use Rattle.model_core.specs.declared.note.Note.{Note}
use Rattle.model_core.specs.declared.note.Part.{Part}
use Rattle.model_core.specs.declared.record_head.RecordHead.{RecordHead}
use Rattle.model_core.specs.Records.{IsAmong, RecordsView, record_of, records_of}
use Rattle.model_core.proofs.records.RecordBuffer.at.Goals as goal

module _ (heads : List RecordHead) (parts : List Part) (items : List (Key × Note)) (i : ℕ) (head : RecordHead) (is : records_of heads parts ≡ items) (within : i < length items) (at : head ≡ get_or heads i head) where
  inside : i < length heads
  inside = let long = ap length is in let same = length-map heads (record_of parts) in omega arith

  told-at : (seen : List Part) → seen ≡ parts → slice_get items i ≡ Some (head.key, take (head.start + head.count - head.start) (drop head.start seen))
  told-at seen same =
      let found = slice_get_read heads (length heads) i head refl inside at in
      let count : head.start + head.count - head.start ≡ head.count = omega arith in
      ap (λ ts. slice_get ts i) (sym is)
      ∙ slice_get-map (record_of parts) heads i
      ∙ ap (option_map (record_of parts)) found
      ∙ (λ k. Some (head.key, take (sym count k) (drop head.start (sym same k))))

  few-at : (seen : List Part) → All (IsAmong parts) heads → length (take (head.start + head.count - head.start) (drop head.start seen)) ≤ 4
  few-at seen among =
      let few : (get_or heads i head).count ≤ 4 = (among i head inside).few in
      let same = ap (λ (h : RecordHead). h.count) at in
      let short = length-take (head.start + head.count - head.start) (drop head.start seen) in
      omega arith

pub returns : goal.returns
returns c =
    let n = c.self.inside in
    let is = ap (λ (v : RecordsView). v.items) c.self.view_is in
    record {
      told = told-at n.heads.items n.parts.items c.args.self.now.items c.args.i c.index-head.result.now is c.requires c.index-head.ensures c.deref.result.now c.deref.ensures.value;
      few = few-at n.heads.items n.parts.items c.args.self.now.items c.args.i c.index-head.result.now is c.requires c.index-head.ensures c.deref.result.now c.self.invariant.among;
    }
