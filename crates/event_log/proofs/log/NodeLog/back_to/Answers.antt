-- All events of the object come before the key, or all is carried.
use Rattle.std.proofs.Common.{◌≡◌, true, subst, arith, ℕ, List, refl, sym, ap, ◌∙◌}
use Rattle.std.specs.List.{AllByRecursion as Each}
use Rattle.event_key.specs.Keys.{key_lt}
use Rattle.object_log.specs.Dones.{Done}
use Rattle.object_log.specs.EventLogs.{is_of, EventLogView, state_in}
use Rattle.object_log.proofs.BackToLemmas.{the-state}
use Rattle.event_log.specs.NodeLogs.{NodeLogView}
use Rattle.std.specs.Prelude.{is_some}
use Rattle.model_core.specs.declared.event.Event.{Event}
use Rattle.object_log.specs.EventCalls.{HasGoneBack}
use Rattle.event_log.specs.Processing.{AreHomed}
use Rattle.event_log.proofs.EndFacts.{all-comes, bounded-comes, none-back}
use Rattle.event_log.proofs.log.NodeLog.back_to.Goals as goal

pub returns-then-of-key-clause-back : goal.returns-then-of-key-clause-back
returns-then-of-key-clause-back c =
    let s = the-state _ c.requires.here in
    let bound = c.of.ensures in
    let low = c.if-of-key.true in
    let D : NodeLogView → Type 0 = λ v. Each (λ (d : Done). is_of c.args.object d ≡ true → key_lt d.event.key c.args.key ≡ true) v.log.done in
    none-back c.args.object c.args.key c.args.self.now.log c.args.into.now s.0 s.1 c.requires.empty
    (subst D c.self.view_is (bounded-comes c.self.inside.latest c.args.object c.args.key c.self.inside.events.items (omega arith) c.self.invariant.1))

pub returns-then-ends_before-clause-back : goal.returns-then-ends_before-clause-back
returns-then-ends_before-clause-back c =
    let s = the-state _ c.requires.here in
    none-back c.args.object c.args.key c.args.self.now.log c.args.into.now s.0 s.1 c.requires.empty
    (all-comes c.args.object c.args.key c.args.self.now.log.done (c.ends_before.ensures c.if-ends_before.true))

pub go_back-requires : goal.go_back-requires
go_back-requires c = record {
  carried = c.carry_all.ensures.carried;
  here = ap (λ (l : EventLogView). is_some (state_in l.objects c.args.object)) c.carry_all.ensures.log ∙ c.requires.here;
  empty = c.requires.empty;
}

pub returns : goal.returns
returns c =
    let back = c.go_back.ensures in
    let B : EventLogView → Type 0 = λ l. HasGoneBack c.args.object c.args.key l c.go_back.new.self.log c.go_back.new.into in
    record {
      back = subst B c.carry_all.ensures.log back.back;
      count = back.count;
      carried = λ some. record { news = back.carried.news; chained = back.carried.chained };
      homed = λ homes was. (let H : List (ℕ × Event) → Type 0 = AreHomed homes in subst H (sym back.carried.chained) refl);
      nodes = back.carried.nodes ∙ c.carry_all.ensures.nodes;
    }
