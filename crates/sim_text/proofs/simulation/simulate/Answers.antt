-- Each turn tells of one bucket; the last one tells what was kept of all, and why the simulation stopped.
use Rattle.std.proofs.Common.{ℕ, ◌+◌, ◌++◌, ◌∷◌, [], List, length-append, refl, sym, ap, ◌∙◌, subst, arith}
use Rattle.sim_io.proofs.TakenLemmas.{Appends-nil}
use Rattle.sim_io.specs.Taken.{Appends}
use Rattle.sim_spec.specs.State.{State}
use Rattle.sim_io.specs.Transfers.{AppendsPrefix}
use Rattle.sim_text.proofs.Told.{none_so_far, bucket-prefix, bucket-told, end-prefix, end-told}
use Rattle.sim_text.proofs.EarlyEnds.{simulated_early}
use Rattle.sim_text.proofs.UnderWay.{RunsOn, HasDone, told_so_far, runs_from, simulation_laws, held, held_both, none_of, ended-same, has_done, stop-at_object, stop-of_run, all-of_run, ends_here, can_go_on, all-with_bucket, goes_on, few_cycles}
use Rattle.sim_text.proofs.WrittenLemmas.{no_prefix, rose_after, all_written, simulated_before, simulated_failed}
use Rattle.sim_text.proofs.simulation.simulate.Goals as goal

pub loop-stop-init : goal.loop-stop-init
loop-stop-init g c =
    let m = g.M.Model.meaning c.args.model.now in
    let t = c.args.terms.now in
    record {
      meaning = c.requires.meaning;
      terms = c.requires.terms;
      so_far = [];
      runs = λ from starts can. runs_from m t from g.E.Engine.stands_at c.args.engine.now (simulation_laws m t from c.law_next.ensures c.law_bucket.ensures.next_of_run c.law_bucket.ensures.whole_run c.law_moves.ensures.moves c.law_moves.ensures.ends c.law_reached.ensures c.law_order.ensures starts.lawful) starts;
      numbered = refl;
      kept = c.in_ok-report.ensures;
      told = subst (Appends (g.K.Sink.told c.args.sink.now) (g.K.Sink.told c.args.sink.now)) (sym (none_so_far m c.args.telling)) (Appends-nil (g.K.Sink.told c.args.sink.now));
      later = omega arith;
      quiet = refl;
    }

pub returns-in_err-report : goal.returns-in_err-report
returns-in_err-report g c = λ from starts can. simulated_before _ _ _ _ _ _ _ _ _ c.from_residual.ensures.1 (no_prefix _ _) refl

pub returns-in_err-lines : goal.returns-in_err-lines
returns-in_err-lines g c = λ from starts can. simulated_before _ _ _ _ _ _ _ _ _ c.from_residual-in_err-lines.ensures.1 (no_prefix _ _) refl

pub put-requires-after_bounds : goal.put-requires-after_bounds
put-requires-after_bounds g c κs within =
    let i = c.loop-stop.invariant in
    let r = i.runs c.requires.begins.0 c.requires.begins.1 c.requires.begins.2 in
    let ended = ended-same _ _ _ _ _ _ i.meaning i.terms (sym c.in-Some.is ∙ c.ended.ensures r.at r.stands) in
    (c.args.telling, i.so_far, i.kept, λ totals. all-of_run _ _ _ r.laws _ i.so_far r.way c.in-Some.stop ended (c.requires.begins.2 totals))

pub returns-in_err-put : goal.returns-in_err-put
returns-in_err-put g c = λ from starts can.
    simulated_early _ _ _ _ _ _ _ _ _ _ _ _
    (c.loop-stop.invariant.runs from starts can) c.from_residual-in_err-put.ensures.1 c.loop-stop.invariant.told c.loop-stop.invariant.quiet

pub put_stop-requires-after_bounds : goal.put_stop-requires-after_bounds
put_stop-requires-after_bounds g c κs within =
    let i = c.loop-stop.invariant in
    let r = i.runs c.requires.begins.0 c.requires.begins.1 c.requires.begins.2 in
    let ended = ended-same _ _ _ _ _ _ i.meaning i.terms (sym c.in-Some.is ∙ c.ended.ensures r.at r.stands) in
    stop-at_object _ _ _ r.laws _ i.so_far r.way c.in-Some.stop ended

pub returns-in_err-put_stop : goal.returns-in_err-put_stop
returns-in_err-put_stop g c = λ from starts can.
    simulated_early _ _ _ _ _ _ _ _ _ _ _ _
    (c.loop-stop.invariant.runs from starts can) c.from_residual-in_err-put_stop.ensures.1 c.loop-stop.invariant.told c.loop-stop.invariant.quiet

pub returns-in_err-write_all : goal.returns-in_err-write_all
returns-in_err-write_all g c = λ from starts can.
    let i = c.loop-stop.invariant in
    let r = i.runs from starts can in
    let ends =
    ends_here _ _ _ _ _ i.so_far r _ _ c.in-Some.stop c.count-count.result i.meaning i.terms (sym c.in-Some.is ∙ c.ended.ensures r.at r.stands)
    (c.count-count.ensures r.at r.stands) in
    let put =
    c.in_ok-put.ensures c.args.telling i.so_far i.kept (λ totals. all-of_run _ _ _ r.laws _ i.so_far r.way c.in-Some.stop ends.0 (can totals)) in
    let P : List ℕ → Type 0 = AppendsPrefix (g.K.Sink.told c.loop-stop.sink) (g.K.Sink.told c.write_all.new.sink) in
    let lines = held_both _ _ _ _ _ _ c.clear.ensures.items put c.in_ok-put_stop.ensures.ok c.as_slice.ensures.value in
    simulated_failed _ _ _ _ _ _ _ _ _ c.from_residual-in_err-write_all.ensures.1
    (end-prefix _ _ _ _ c.args.telling _ _ i.so_far i.told c.count-count.result c.in-Some.stop ends.1 _ (subst P lines c.in_err-write_all.ensures.prefix))
    (omega (arith, i.later, c.in_err-write_all.ensures.cause.later)) (rose_after _ _ _ i.quiet c.in_err-write_all.ensures.cause.failed)

pub returns-in-Some : goal.returns-in-Some
returns-in-Some g c = λ from starts can.
    let i = c.loop-stop.invariant in
    let r = i.runs from starts can in
    let ends =
    ends_here _ _ _ _ _ i.so_far r _ _ c.in-Some.stop c.count-count.result i.meaning i.terms (sym c.in-Some.is ∙ c.ended.ensures r.at r.stands)
    (c.count-count.ensures r.at r.stands) in
    let put =
    c.in_ok-put.ensures c.args.telling i.so_far i.kept (λ totals. all-of_run _ _ _ r.laws _ i.so_far r.way c.in-Some.stop ends.0 (can totals)) in
    let P : List ℕ → Type 0 = Appends (g.K.Sink.told c.loop-stop.sink) (g.K.Sink.told c.write_all.new.sink) in
    let lines = held_both _ _ _ _ _ _ c.clear.ensures.items put c.in_ok-put_stop.ensures.ok c.as_slice.ensures.value in
    record {
      written = all_written _ _ _ _ c.in-Some.stop
          (end-told _ _ _ _ c.args.telling _ _ i.so_far i.told c.count-count.result c.in-Some.stop ends.1 _ (subst P lines c.in_ok-write_all.ensures.all))
          (c.in_ok-write_all.ensures.quiet ∙ i.quiet);
      stop = sym (stop-of_run _ _ _ r.laws _ i.so_far r.way c.in-Some.stop ends.0);
    }

pub cycle-requires : goal.cycle-requires
cycle-requires g c =
    let i = c.loop-stop.invariant in
    let r = i.runs c.requires.begins.0 c.requires.begins.1 c.requires.begins.2 in
    c.requires.may _ r.at _ r.stands (sym (c.ended.ensures r.at r.stands) ∙ none_of _ c.in_default.not-Some)
    (c.requires.begins.0, c.requires.begins.1, told_so_far _ _ _ c.args.telling _ _ _ i.so_far r.way i.told)

pub returns-in_err-bucket : goal.returns-in_err-bucket
returns-in_err-bucket g c = λ from starts can.
    simulated_early _ _ _ _ _ _ _ _ _ _ _ _
    (c.loop-stop.invariant.runs from starts can) c.from_residual-in_err-bucket.ensures.1 c.loop-stop.invariant.told c.loop-stop.invariant.quiet

pub add-requires-after_bounds : goal.add-requires-after_bounds
add-requires-after_bounds g c κs within =
    let i = c.loop-stop.invariant in
    let r = i.runs c.requires.begins.0 c.requires.begins.1 c.requires.begins.2 in
    let done = has_done (g.M.Model.meaning c.args.model.now) c.args.terms.now g.E.Engine.meaning g.E.Engine.terms g.E.Engine.stands_at c.loop-stop.engine r.at _ c.cycle.result c.in_ok-bucket.bucket c.cycle.new.arg2 i.meaning i.terms r.stands
    (c.ended.ensures r.at r.stands) (none_of _ c.in_default.not-Some) c.in_ok-bucket.was (c.requires.does _ _ c.cycle.result _ c.cycle.ensures) in
    (c.args.telling, i.so_far, i.kept, can_go_on _ _ _ r.laws _ i.so_far r.way c.args.telling c.in_ok-bucket.bucket _ done.not_ended done.cycle c.requires.begins.2)

pub returns-in_err-add : goal.returns-in_err-add
returns-in_err-add g c = λ from starts can.
    simulated_early _ _ _ _ _ _ _ _ _ _ _ _
    (c.loop-stop.invariant.runs from starts can) c.from_residual-in_err-add.ensures.1 c.loop-stop.invariant.told c.loop-stop.invariant.quiet

pub returns-in_err-write_all-2 : goal.returns-in_err-write_all-2
returns-in_err-write_all-2 g c = λ from starts can.
    let i = c.loop-stop.invariant in
    let r = i.runs from starts can in
    let done = has_done (g.M.Model.meaning c.args.model.now) c.args.terms.now g.E.Engine.meaning g.E.Engine.terms g.E.Engine.stands_at c.loop-stop.engine r.at _ c.cycle.result c.in_ok-bucket.bucket c.cycle.new.arg2 i.meaning i.terms r.stands
    (c.ended.ensures r.at r.stands) (none_of _ c.in_default.not-Some) c.in_ok-bucket.was (c.requires.does _ _ c.cycle.result _ c.cycle.ensures) in
    let all = all-with_bucket _ _ _ r.laws _ i.so_far r.way _ _ done.not_ended done.cycle in
    let P : List ℕ → Type 0 = AppendsPrefix (g.K.Sink.told c.loop-stop.sink) (g.K.Sink.told c.write_all-in-loop-stop.new.sink) in
    let lines = held _ _ _ _ c.clear.ensures.items (c.in_ok-add.ensures.told c.args.telling i.so_far i.kept) c.as_slice-in-loop-stop.ensures.value in
    simulated_failed _ _ _ _ _ _ _ _ _ c.from_residual-in_err-write_all-2.ensures.1
    (bucket-prefix _ _ _ _ c.args.telling _ _ i.so_far i.told c.in_ok-bucket.bucket c.loop-stop.number all.0 _ i.numbered all.1 (subst P lines c.in_err-write_all-2.ensures.prefix))
    (omega (arith, i.later, c.in_err-write_all-2.ensures.cause.later)) (rose_after _ _ _ i.quiet c.in_err-write_all-2.ensures.cause.failed)

pub loop-stop-smaller : goal.loop-stop-smaller
loop-stop-smaller g c =
    let i = c.loop-stop.invariant in
    let r = i.runs c.requires.begins.0 c.requires.begins.1 c.requires.begins.2 in
    let few = few_cycles _ _ _ r.laws _ i.so_far r.way in
    omega (arith, few, i.numbered)

pub loop-stop-preserved : goal.loop-stop-preserved
loop-stop-preserved g c =
    let i = c.loop-stop.invariant in
    let m = g.M.Model.meaning c.args.model.now in
    let t = c.args.terms.now in
    let b = c.in_ok-bucket.bucket in
    let some = i.runs c.requires.begins.0 c.requires.begins.1 c.requires.begins.2 in
    let done_from : (from : State) (r : RunsOn m t g.E.Engine.stands_at c.loop-stop.engine i.so_far from) → HasDone m t g.E.Engine.meaning g.E.Engine.terms g.E.Engine.stands_at r.at b c.cycle.new.arg2 = λ from r.
    has_done m t g.E.Engine.meaning g.E.Engine.terms g.E.Engine.stands_at c.loop-stop.engine r.at _ c.cycle.result b c.cycle.new.arg2 i.meaning i.terms r.stands
    (c.ended.ensures r.at r.stands) (none_of _ c.in_default.not-Some) c.in_ok-bucket.was (c.requires.does _ _ c.cycle.result _ c.cycle.ensures) in
    let some_done = done_from c.requires.begins.0 some in
    let P : List ℕ → Type 0 = Appends (g.K.Sink.told c.loop-stop.sink) (g.K.Sink.told c.write_all-in-loop-stop.new.sink) in
    let lines = held _ _ _ _ c.clear.ensures.items (c.in_ok-add.ensures.told c.args.telling i.so_far i.kept) c.as_slice-in-loop-stop.ensures.value in
    record {
      meaning = c.give_back.ensures.meaning ∙ some_done.meaning_is;
      terms = c.give_back.ensures.terms ∙ some_done.terms_is;
      so_far = i.so_far ++ b ∷ [];
      runs = λ from starts can.
          let r = i.runs from starts can in
          let done = done_from from r in
          record { laws = r.laws; at = done.left; stands = c.give_back.ensures.stands done.left done.stands; way = goes_on _ _ _ r.laws _ i.so_far r.way b _ done.not_ended done.cycle };
      numbered = ap (λ n. n + 1) (i.numbered ∙ sym (length-append i.so_far (b ∷ [])));
      kept = c.add.ensures.kept c.args.telling i.so_far i.kept (can_go_on _ _ _ some.laws _ i.so_far some.way c.args.telling b _ some_done.not_ended some_done.cycle c.requires.begins.2);
      told = bucket-told _ t (g.L.Tally.lines c.args.model.now t) c.requires.begins.0 c.args.telling _ _ i.so_far i.told b c.loop-stop.number _ i.numbered (subst P lines c.in_ok-write_all-2.ensures.all);
      later = omega (arith, i.later, c.in_ok-write_all-2.ensures.cause.later);
      quiet = c.in_ok-write_all-2.ensures.quiet ∙ i.quiet;
    }
