-- One head more stands in the list, which has room for it.
use Rattle.std.proofs.Common.{◌≡◌, ℕ, ◌+◌, ◌<◌, ◌≤◌, List, [], ◌∷◌, ◌++◌, length, map, get_or, take, sym, refl, ap, ◌∙◌, arith, append_assoc, length-append, length-take}
use Rattle.std.proofs.lemmas.List.{append-nil, length-map, map_more, take_all}
use Rattle.model_core.specs.declared.record_head.RecordHead.{RecordHead}
use Rattle.model_core.specs.Records.{shifted}
use Rattle.model_core.proofs.SortedLemmas.{blank}
use Rattle.model_core.proofs.merging.put_heads.Goals as goal

room-left : (was now heads : List RecordHead) (by i len was_len room was_room : ℕ) → now ≡ was ++ map (shifted by) (take i heads) → len ≡ length now → was_len ≡ length was → room ≡ was_room → was_len + length heads ≤ was_room → i < length heads → len < room
room-left was now heads by i len was_len room was_room is len_is was_is room_is enough some =
    let one = ap length is in
    let two = length-append was (map (shifted by) (take i heads)) in
    let three = length-map (take i heads) (shifted by) in
    let four = length-take i heads in
    omega arith

pub loop-head-init : goal.loop-head-init
loop-head-init c = record { items = sym (append-nil c.args.into.now.items); capacity = refl }

pub push_reserved-requires : goal.push_reserved-requires
push_reserved-requires c =
    room-left c.args.into.now.items c.loop-head.into.items c.args.heads.now c.args.by c.loop-head.head-index _ _ _ _ c.loop-head.invariant.items c.loop-head.into.ok.0 c.args.into.now.ok.0 c.loop-head.invariant.capacity c.requires.room c.loop-head-test.true

pub loop-head-preserved : goal.loop-head-preserved
loop-head-preserved c =
    let was = c.args.into.now.items in
    let heads = c.args.heads.now in
    let i = c.loop-head.head-index in
    let by = c.args.by in
    record {
      items = c.push_reserved.ensures.items
          ∙ ap (λ hs. hs ++ shifted by (get_or heads i blank) ∷ []) c.loop-head.invariant.items
          ∙ append_assoc was (map (shifted by) (take i heads)) (shifted by (get_or heads i blank) ∷ [])
          ∙ ap (λ hs. was ++ hs) (sym (map_more (shifted by) heads i blank c.loop-head-test.true));
      capacity = c.push_reserved.ensures.capacity ∙ c.loop-head.invariant.capacity;
    }

pub returns : goal.returns
returns c = record {
  items = c.loop-head.invariant.items ∙ ap (λ hs. c.args.into.now.items ++ map (shifted c.args.by) hs) (take_all c.loop-head.head-index c.args.heads.now c.loop-head-test.false);
  capacity = c.loop-head.invariant.capacity;
}
