-- One event after another is undone.
use Rattle.std.proofs.Common.{◌≡◌, ℕ, suc, ◌+◌, ◌-◌, ◌<◌, ◌≤◌, ◌^◌, List, length, refl, ap, ◌∙◌, arith, length-append, Fits, w64}
use Rattle.std.proofs.lemmas.List.{drop_all, length-map}
use Rattle.std.proofs.lemmas.List.Edits.{length-remove}
use Rattle.std.specs.Prelude.{slice_get}
use Rattle.model_core.specs.declared.event.Event.{Event}
use Rattle.object_log.specs.Dones.{Done}
use Rattle.object_log.specs.EventLogs.{EventLogView, dones_at}
use Rattle.object_log.specs.Undoings.{HasUndoneAt, IsNewestAt, LastIsFrom}
use Rattle.object_log.proofs.UndoneLemmas.{IsBackFrom, from-end, from-next, from-start}
use Rattle.event_log.proofs.log.NodeLog.undo_down.Goals as goal

-- the last event is the newest of its object
last-newest : (horizon len : ℕ) (log : EventLogView) → LastIsFrom horizon log.done → len ≡ length log.done → IsNewestAt (len - 1) log
last-newest horizon len log l is =
    let some = l.some in record {
      newest = l.last;
      found = ap (λ n. slice_get log.done (n - 1)) is ∙ l.found;
      last = ap (dones_at l.last.event.key.dest) (drop_all (suc (len - 1)) log.done (omega arith));
    }

some-last : (horizon len : ℕ) (ds : List Done) → LastIsFrom horizon ds → len ≡ length ds → 1 ≤ len
some-last horizon len ds l is = let some = l.some in omega arith

-- few are undone
few-back : (horizon : ℕ) (old now : EventLogView) (into : List Event) (count : ℕ) → IsBackFrom horizon old now into count → LastIsFrom horizon now.done → length old.done < 2 ^ 60 → length into + 1 < 2 ^ 60
few-back horizon old now into count b l few =
    let some = l.some in
    let one = ap length b.split in
    let two = length-append now.done b.gone in
    let three = ap length b.events in
    let four = length-map b.gone (λ (d : Done). d.event) in
    omega arith

count-fits : (count long : ℕ) → count ≡ long → long + 1 < 2 ^ 60 → Fits w64 (count + 1)
count-fits count long is few = omega arith

one-less : (index : ℕ) (log next : EventLogView) (event : Event) → HasUndoneAt index log next event → index ≡ length log.done - 1 → 1 ≤ length log.done → length next.done < length log.done
one-less index log next event u is some =
    let one = ap length u.done in
    let two = length-remove log.done index (omega arith) in
    omega arith

pub loop-self-init : goal.loop-self-init
loop-self-init c = record {
  back = from-start c.args.horizon c.args.self.now.log c.args.into.now c.requires.empty;
  numbers = refl;
  carried = record { news = c.requires.carried.news; chained = c.requires.carried.chained; nodes = refl };
}

pub loop-self-preserved : goal.loop-self-preserved
loop-self-preserved c = record {
  back = from-next c.args.horizon c.args.self.now.log c.loop-self.self.log c.undo_at.new.self.log c.loop-self.into c.push_front.new.self c.loop-self.count (c.len-last.result - 1) c.undo_at.result
      c.loop-self.invariant.back c.undo_at.ensures.undone (c.last_is_from.ensures.some c.loop-self-test.true) (ap (λ n. n - 1) c.len-last.ensures) c.push_front.ensures;
  numbers = c.undo_at.ensures.undone.changes.numbers ∙ c.loop-self.invariant.numbers;
  carried = record { news = c.undo_at.ensures.carried.news; chained = c.undo_at.ensures.carried.chained; nodes = c.undo_at.ensures.carried.nodes ∙ c.loop-self.invariant.carried.nodes };
}

pub returns : goal.returns
returns c =
    record {
      undone = from-end c.args.horizon c.args.self.now.log c.loop-self.self.log c.loop-self.into c.loop-self.count c.loop-self.invariant.back (c.last_is_from.ensures.none c.loop-self-test.false);
      numbers = c.loop-self.invariant.numbers;
      count = c.loop-self.invariant.back.count_is;
      carried = c.loop-self.invariant.carried;
    }

pub undo_at-requires : goal.undo_at-requires
undo_at-requires c =
    let carried = c.loop-self.invariant.carried in
    record {
      carried = record { news = carried.news; chained = carried.chained };
      newest = last-newest c.args.horizon c.len-last.result c.loop-self.self.log (c.last_is_from.ensures.some c.loop-self-test.true) c.len-last.ensures;
    }

pub overflow_sub-last : goal.overflow_sub-last
overflow_sub-last c = some-last c.args.horizon c.len-last.result c.loop-self.self.log.done (c.last_is_from.ensures.some c.loop-self-test.true) c.len-last.ensures

pub push_front-requires : goal.push_front-requires
push_front-requires c = few-back c.args.horizon c.args.self.now.log c.loop-self.self.log c.loop-self.into c.loop-self.count c.loop-self.invariant.back (c.last_is_from.ensures.some c.loop-self-test.true) c.tells.ensures.few

pub overflow_add-count : goal.overflow_add-count
overflow_add-count c =
    let few = few-back c.args.horizon c.args.self.now.log c.loop-self.self.log c.loop-self.into c.loop-self.count c.loop-self.invariant.back (c.last_is_from.ensures.some c.loop-self-test.true) c.tells.ensures.few in
    count-fits _ _ c.loop-self.invariant.back.count_is few

pub loop-self-smaller : goal.loop-self-smaller
loop-self-smaller c = one-less (c.len-last.result - 1) c.loop-self.self.log c.undo_at.new.self.log c.undo_at.result c.undo_at.ensures.undone (ap (λ n. n - 1) c.len-last.ensures) (c.last_is_from.ensures.some c.loop-self-test.true).some
