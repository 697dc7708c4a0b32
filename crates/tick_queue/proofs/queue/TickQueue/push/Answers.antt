-- An event goes among those at hand, or to the later ones.
use Rattle.std.proofs.Common.{◌∙◌}
use Rattle.tick_queue.proofs.QueueLemmas.{comes, goes_near, pushed_near, near_in_place, pushed_later, later_in_place}
use Rattle.tick_queue.proofs.queue.TickQueue.push.Goals as goal

pub invariant_of-self-then-not-goes_later : goal.invariant_of-self-then-not-goes_later
invariant_of-self-then-not-goes_later c =
    let it = comes c.args.event c.self.invariant c.self.view_is c.requires.new_key c.requires.room in
    let goes = goes_near it c.tick.result c.tick.ensures.from c.tick.ensures.tick c.if-not-goes_later.ensures.no in
    pushed_near it c.insert.new.self goes.0 goes.1 c.in_ok-insert.ensures.ok

pub returns-then-not-goes_later-clause-pending : goal.returns-then-not-goes_later-clause-pending
returns-then-not-goes_later-clause-pending c =
    let it = comes c.args.event c.self.invariant c.self.view_is c.requires.new_key c.requires.room in
    let goes = goes_near it c.tick.result c.tick.ensures.from c.tick.ensures.tick c.if-not-goes_later.ensures.no in
    near_in_place it c.insert.new.self goes.0 c.in_ok-insert.ensures.ok

pub invariant_of-self-2 : goal.invariant_of-self-2
invariant_of-self-2 c =
    let it = comes c.args.event c.self.invariant c.self.view_is c.requires.new_key c.requires.room in
    pushed_later it c.reserve.new.self.events c.place.new.self.events c.place.new.self.tick c.in_ok-reserve.ensures.events c.place.ensures.events (c.place.ensures.tick ∙ c.in_ok-reserve.ensures.tick) c.if-not-goes_later.ensures.yes.1

pub returns-clause-pending : goal.returns-clause-pending
returns-clause-pending c =
    let it = comes c.args.event c.self.invariant c.self.view_is c.requires.new_key c.requires.room in
    later_in_place it c.reserve.new.self.events c.place.new.self.events c.in_ok-reserve.ensures.events c.place.ensures.events c.if-not-goes_later.ensures.yes.1
