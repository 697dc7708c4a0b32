-- An event arrives.
use Rattle.std.proofs.Common.{List, ap, sym, ◌∙◌, subst}
use Rattle.std.specs.Arc.{arc_value}
use Rattle.std.specs.List.{list_any}
use Rattle.event_key.specs.declared.key.Key.{Key}
use Rattle.event_key.specs.Keys.{same_key}
use Rattle.node_tests.specs.Drives.{IsDriven}
use Rattle.node_tests.proofs.DriveFacts.{keeps-received, keeps-same, may-come, only-event}
use Rattle.node_tests.proofs.tests.nodes.driven.Driven.receive.Goals as goal

pub receive-undone-requires-clause-keys : goal.receive-undone-requires-clause-keys
receive-undone-requires-clause-keys g c lifetimes within =
    let roomy = keeps-same g.M.Model.meaning c.self.inside.node c.room.new.self (arc_value c.self.inside.homes) c.self.inside.keys.items c.self.inside.sent c.self.invariant c.room.ensures.same in
    let only = only-event c.new-events.result c.push_back.new.self c.in-Ok.cell c.args.event c.new-events.ensures c.push_back.ensures c.in-Ok.ensures.ok in
    may-come (g.M.Model.meaning c.room.new.self.model) c.room.new.self c.self.inside.keys.items c.self.inside.sent c.args.event c.push_back.new.self only roomy.1 c.tells_share.ensures.stands
    (ap (list_any (same_key c.args.event.key)) (sym c.deref.ensures.value) ∙ sym c.is_known.ensures ∙ c.if-is_known.false)

pub invariant_of-self-2 : goal.invariant_of-self-2
invariant_of-self-2 g c =
    let roomy = keeps-same g.M.Model.meaning c.self.inside.node c.room.new.self (arc_value c.self.inside.homes) c.self.inside.keys.items c.self.inside.sent c.self.invariant c.room.ensures.same in
    let only = only-event c.new-events.result c.push_back.new.self c.in-Ok.cell c.args.event c.new-events.ensures c.push_back.ensures c.in-Ok.ensures.ok in
    let came = keeps-received g.M.Model.meaning c.room.new.self c.receive-undone.new.self (arc_value c.self.inside.homes) c.self.inside.keys.items c.self.inside.sent roomy c.args.event c.push_back.new.self only c.receive-undone.result
    c.receive-undone.ensures c.tells_share.ensures.stands c.tells_share.ensures.size c.tells_share-2.ensures.only c.tells_share-2.ensures.size in
    let D : List Key → Type 0 = λ keys. IsDriven (g.M.Model.meaning c.receive-undone.new.self.model) c.receive-undone.new.self keys c.self.inside.sent in
    (came.0, subst D (sym c.in_ok-push.ensures.items) came.1)
