-- Each message goes home.
use Rattle.std.proofs.Common.{◌<◌, [], length, ap, arith}
use Rattle.std.proofs.lemmas.List.{get_or_read}
use Rattle.std.specs.Prelude.{slice_index}
use Rattle.model_core.specs.declared.event.Event.{Event}
use Rattle.event_log.proofs.TellFacts.{chain-room, home-within, left-next}
use Rattle.event_log.proofs.committing.send_home.Goals as goal
use Rattle.event_log.proofs.committing.send_home.Goals.{After-get}

-- its home has a chain
within : (c : After-get) → slice_index c.args.homes.now c.get.result.now.key.dest < length c.loop-message.out.items
within c =
    let same = ap (λ (e : Event). slice_index c.args.homes.now e.key.dest) c.get.ensures in
    let inside = home-within c.loop-message.invariant c.in-Some.ensures.some c.requires.homes in
    omega arith

pub push_back-requires : goal.push_back-requires
push_back-requires c =
    let same = ap (λ (e : Event). slice_index c.args.homes.now e.key.dest) c.get.ensures in
    let inside = within (goal.at.push_back-requires c).After-get in
    let read = get_or_read c.loop-message.out.items _ c.index_mut.result.now inside c.index_mut.ensures.value [] in
    chain-room c.loop-message.invariant c.in-Some.ensures.some same inside read c.requires.few

pub loop-message-preserved : goal.loop-message-preserved
loop-message-preserved c =
    let same = ap (λ (e : Event). slice_index c.args.homes.now e.key.dest) c.get.ensures in
    let inside = within (goal.at.loop-message-preserved c).After-get in
    let read = get_or_read c.loop-message.out.items _ c.index_mut.result.now inside c.index_mut.ensures.value [] in
    left-next c.loop-message.invariant c.in-Some.ensures.some same inside read c.push_back.new.self c.push_back.ensures
