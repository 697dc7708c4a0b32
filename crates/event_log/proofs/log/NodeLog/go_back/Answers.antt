-- One event after another is looked at.
use Rattle.std.proofs.Common.{sym, refl, ◌∙◌, arith}
use Rattle.object_log.proofs.BackToLemmas.{back-to-first, back-to-start, look-ends, look-newest, look-over, look-room, look-undo, the-state}
use Rattle.event_log.proofs.log.NodeLog.go_back.Goals as goal

pub loop-index-init : goal.loop-index-init
loop-index-init c =
    let s = the-state _ c.requires.here in
    record { was = s.0; back = back-to-start c.args.object c.args.key c.args.self.now.log c.args.into.now s.0 c.len-index.result c.len-index.ensures s.1 c.requires.empty; carried = record { news = c.requires.carried.news; chained = c.requires.carried.chained; nodes = refl } }

pub returns-then-is_before-clause-back : goal.returns-then-is_before-clause-back
returns-then-is_before-clause-back c =
    look-ends c.args.object c.args.key c.args.self.now.log c.loop-index.self.log c.loop-index.index c.loop-index.into c.loop-index.count c.loop-index.invariant.was c.key_at-at.result
    (record { back = c.loop-index.invariant.back; some = omega arith; found = c.key_at-at.ensures }) c.tells.ensures.ordered (sym c.if-is_before.ensures)

pub undo_at-requires-clause-newest : goal.undo_at-requires-clause-newest
undo_at-requires-clause-newest c =
    look-newest c.args.object c.args.key c.args.self.now.log c.loop-index.self.log c.loop-index.index c.loop-index.into c.loop-index.count c.loop-index.invariant.was c.key_at-at.result
    (record { back = c.loop-index.invariant.back; some = omega arith; found = c.key_at-at.ensures }) c.if-at-object.true

pub push_front-requires : goal.push_front-requires
push_front-requires c =
    (look-room c.args.object c.args.key c.args.self.now.log c.loop-index.self.log c.loop-index.index c.loop-index.into c.loop-index.count c.loop-index.invariant.was c.key_at-at.result
    (record { back = c.loop-index.invariant.back; some = omega arith; found = c.key_at-at.ensures }) c.tells.ensures.few).1

pub overflow_add-count : goal.overflow_add-count
overflow_add-count c =
    let room = (look-room c.args.object c.args.key c.args.self.now.log c.loop-index.self.log c.loop-index.index c.loop-index.into c.loop-index.count c.loop-index.invariant.was c.key_at-at.result
    (record { back = c.loop-index.invariant.back; some = omega arith; found = c.key_at-at.ensures }) c.tells.ensures.few).2 in
    omega arith

pub loop-index-preserved-then-at-object : goal.loop-index-preserved-then-at-object
loop-index-preserved-then-at-object c = record {
  was = c.loop-index.invariant.was;
  back = look-undo c.args.object c.args.key c.args.self.now.log c.loop-index.self.log c.loop-index.index c.loop-index.into c.loop-index.count c.loop-index.invariant.was c.key_at-at.result
      (record { back = c.loop-index.invariant.back; some = omega arith; found = c.key_at-at.ensures }) c.undo_at.new.self.log c.undo_at.result c.push_front.new.self c.if-at-object.true (sym c.if-is_before.ensures) c.undo_at.ensures.undone c.push_front.ensures;
  carried = record { news = c.undo_at.ensures.carried.news; chained = c.undo_at.ensures.carried.chained; nodes = c.undo_at.ensures.carried.nodes ∙ c.loop-index.invariant.carried.nodes };
}

pub loop-index-preserved : goal.loop-index-preserved
loop-index-preserved c = record {
  was = c.loop-index.invariant.was;
  back = look-over c.args.object c.args.key c.args.self.now.log c.loop-index.self.log c.loop-index.index c.loop-index.into c.loop-index.count c.loop-index.invariant.was c.key_at-at.result
      (record { back = c.loop-index.invariant.back; some = omega arith; found = c.key_at-at.ensures }) c.if-at-object.false (sym c.if-is_before.ensures);
  carried = c.loop-index.invariant.carried;
}

pub returns-clause-back : goal.returns-clause-back
returns-clause-back c =
    back-to-first c.args.object c.args.key c.args.self.now.log c.loop-index.self.log c.loop-index.index c.loop-index.into c.loop-index.count c.loop-index.invariant.was c.loop-index.invariant.back (omega arith)
