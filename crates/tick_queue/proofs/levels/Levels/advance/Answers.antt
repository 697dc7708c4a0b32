-- The first slot that has events is opened, until it is one of the lowest level.
use Rattle.std.proofs.Common.{◌≡◌, ◌<◌, [], ◌++◌, length, refl, arith}
use Rattle.std.specs.Prelude.{IsPermutation, slice_set, slice_index_or}
use Rattle.std.proofs.lemmas.List.Sorted.{IsPermutation-trans}
use Rattle.key_order.specs.Joined.{joined}
use Rattle.tick_queue.specs.Levels.{LevelsView, Advances}
use Rattle.tick_queue.proofs.SpreadLemmas.{taken_others, taken_left, taken_moves}
use Rattle.tick_queue.proofs.LevelLemmas.{some_stands, next_small, next_after, opened, levels-taken, taken_from, advances, advances_none, same_long, ok_both}
use Rattle.tick_queue.proofs.levels.Levels.advance.Goals as goal

pub returns-in_default-clause-advances : goal.returns-in_default-clause-advances
returns-in_default-clause-advances c =
    let now : LevelsView = record { tick = c.loop-slot.self-inside.tick; events = joined c.loop-slot.self-inside.slots.slots; spare = c.loop-slot.self-inside.slots.spare } in
    advances_none c.loop-slot.self-inside.slots.slots c.loop-slot.due.items c.args.self.now now c.in_default.ensures.none c.loop-slot.invariant.events c.loop-slot.invariant.none refl

pub first_tick-self-inside-requires-clause-some : goal.first_tick-self-inside-requires-clause-some
first_tick-self-inside-requires-clause-some c =
    some_stands c.loop-slot.self-inside.tick c.in-Some.slot c.loop-slot.self-inside.slots.slots c.loop-slot.invariant.levels c.in-Some.ensures.some

pub invariant_of-self-then-slot-lt64 : goal.invariant_of-self-then-slot-lt64
invariant_of-self-then-slot-lt64 c =
    let old = c.loop-slot.self-inside.slots in
    let new = c.take_all.new.self in
    levels-taken c.loop-slot.self-inside.tick c.in-Some.slot c.first_tick-self-inside.result old.slots new.slots
    c.loop-slot.invariant.levels c.in-Some.ensures.some c.first_tick-self-inside.ensures c.if-slot-lt64.true
    (taken_others c.take_all.result old new c.in-Some.slot c.take_all.ensures.slots c.take_all.ensures.err)
    (taken_left c.take_all.result old new c.in-Some.slot (omega (arith, c.first.ensures.long, c.in-Some.ensures.some.small)) c.take_all.ensures.slots c.take_all.ensures.err)

pub returns-then-slot-lt64-clause-advances : goal.returns-then-slot-lt64-clause-advances
returns-then-slot-lt64-clause-advances c =
    let now : LevelsView = record { tick = c.first_tick-self-inside.result; events = joined c.take_all.new.self.slots; spare = c.take_all.new.self.spare } in
    ok_both c.take_all.result (c.take_all.new.self.slots ≡ slice_set c.loop-slot.self-inside.slots.slots c.in-Some.slot []) (IsPermutation (slice_index_or c.loop-slot.self-inside.slots.slots c.in-Some.slot []) c.take_all.new.into.items)
    (Advances c.args.self.now now c.take_all.new.into.items) c.take_all.ensures.slots
    (taken_moves c.take_all.result (slice_index_or c.loop-slot.self-inside.slots.slots c.in-Some.slot []) c.loop-slot.due.items c.take_all.new.into.items c.loop-slot.invariant.none c.take_all.ensures.taken)
    (λ is taken.
    advances c.loop-slot.self-inside.tick c.in-Some.slot c.first_tick-self-inside.result c.loop-slot.self-inside.slots.slots c.take_all.new.self.slots c.take_all.new.into.items c.args.self.now now
    c.loop-slot.invariant.levels c.in-Some.ensures.some c.first_tick-self-inside.ensures c.if-slot-lt64.true c.loop-slot.invariant.events is taken refl refl)

pub returns-then-slot-lt64-clause-left : goal.returns-then-slot-lt64-clause-left
returns-then-slot-lt64-clause-left c =
    let old = c.loop-slot.self-inside.slots.slots in
    let new = c.take_all.new.self.slots in
    let within : c.in-Some.slot < length old = omega (arith, c.first.ensures.long, c.in-Some.ensures.some.small) in
    let others = taken_others c.take_all.result c.loop-slot.self-inside.slots c.take_all.new.self c.in-Some.slot c.take_all.ensures.slots c.take_all.ensures.err in
    let left = taken_left c.take_all.result c.loop-slot.self-inside.slots c.take_all.new.self c.in-Some.slot within c.take_all.ensures.slots c.take_all.ensures.err in
    let same = same_long old new c.in-Some.slot others in
    let within_new : c.in-Some.slot < length new = omega arith in
    let gone = left.0 in (
      gone,
      IsPermutation-trans c.args.self.now.events (joined old) (gone ++ joined new) c.loop-slot.invariant.events
          (taken_from old new c.in-Some.slot gone within within_new others left.1),
    )

pub spread-requires-clause-begins : goal.spread-requires-clause-begins
spread-requires-clause-begins c =
    opened c.loop-slot.self-inside.tick c.in-Some.slot c.first_tick-self-inside.result c.loop-slot.self-inside.slots.slots
    c.loop-slot.invariant.levels c.in-Some.ensures.some c.first_tick-self-inside.ensures c.if-slot-lt64.false

pub loop-slot-smaller : goal.loop-slot-smaller
loop-slot-smaller c =
    let after = next_after c.loop-slot.self-inside.tick c.in-Some.slot c.first_tick-self-inside.result c.loop-slot.self-inside.slots.slots
    c.loop-slot.invariant.levels c.in-Some.ensures.some c.first_tick-self-inside.ensures c.if-slot-lt64.false in
    let small = next_small c.loop-slot.self-inside.tick c.in-Some.slot c.first_tick-self-inside.result c.loop-slot.self-inside.slots.slots
    c.loop-slot.invariant.levels c.in-Some.ensures.some c.first_tick-self-inside.ensures in
    omega (arith, after, small)

pub loop-slot-preserved : goal.loop-slot-preserved
loop-slot-preserved c = record {
  levels = record {
    small = next_small c.loop-slot.self-inside.tick c.in-Some.slot c.first_tick-self-inside.result c.loop-slot.self-inside.slots.slots
        c.loop-slot.invariant.levels c.in-Some.ensures.some c.first_tick-self-inside.ensures;
    stand = c.spread.ensures.stand;
  };
  events = IsPermutation-trans c.args.self.now.events (joined c.loop-slot.self-inside.slots.slots) (joined c.spread.new.slots.slots) c.loop-slot.invariant.events c.spread.ensures.events;
  none = c.loop-slot.invariant.none;
}
