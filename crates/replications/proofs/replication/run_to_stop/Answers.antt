-- Each turn takes note of one bucket; the last one sees why the simulation stopped.
use Rattle.std.proofs.Common.{ℕ, ◌+◌, ◌++◌, ◌∷◌, [], List, length-append, refl, sym, ap, ◌∙◌, subst, arith}
use Rattle.event_key.specs.declared.key.Key.{Key}
use Rattle.model_core.specs.declared.note.Note.{Note}
use Rattle.sim_spec.specs.declared.stop.Stop.{Stop}
use Rattle.one_thread.specs.Engines.{EngineView}
use Rattle.sim_spec.specs.Cycles.{records_of_buckets}
use Rattle.sim_spec.specs.Run.{run}
use Rattle.sim_spec.specs.State.{initial_state}
use Rattle.sim_spec.specs.Standing.{Standing}
use Rattle.sim_text.proofs.SummaryLemmas.{records_of_buckets-more}
use Rattle.sim_text.proofs.UnderWay.{IsUnderWay, simulation_laws, begins, none_of, ended-same, cycle-same, ends_so, goes_on, few_cycles}
use Rattle.replications.specs.declared.rows.RunEnd.{RunEnd}
use Rattle.run_tally.specs.Tallies.{CanAllCome}
use Rattle.replications.proofs.ComingLemmas.{bucket-can_come}
use Rattle.replications.proofs.replication.run_to_stop.Goals as goal

pub loop-stop-init : goal.loop-stop-init
unfolding records_of_buckets
loop-stop-init g c =
    let m = g.M.Model.meaning c.args.model.now in
    let t = c.args.replication.now.terms in
    let Way : Standing → Type 0 = λ at. IsUnderWay m t (initial_state m) at [] in
    record {
      model = c.requires.model;
      terms = c.requires.terms;
      so_far = [];
      laws = simulation_laws m t (initial_state m) c.law_next.ensures c.law_bucket.ensures.next_of_run c.law_bucket.ensures.whole_run c.law_moves.ensures.moves c.law_moves.ensures.ends c.law_reached.ensures c.law_order.ensures c.law_initial.ensures;
      way = subst Way (sym c.requires.begins) (begins m t (initial_state m) c.law_initial.ensures);
      numbered = refl;
      kept = λ first_tick none. none;
    }

pub returns-in-Some-clause-rows : goal.returns-in-Some-clause-rows
returns-in-Some-clause-rows g c first_tick none =
    let i = c.loop-stop.invariant in
    let ended = ended-same _ _ _ _ _ _ (ap g.M.Model.meaning i.model) i.terms (sym c.in-Some.is ∙ c.ended.ensures) in
    let counted = c.count-events.ensures.standing i.way.state i.way.fault i.way.at_state in
    let ends = ends_so _ _ _ i.laws _ i.so_far i.way c.in-Some.stop c.count-events.result ended counted in
    subst (g.W.Rows.sums_up c.args.model.now first_tick c.loop-stop.rows) (sym ends.records) (i.kept first_tick none)

pub returns-in-Some-clause-end : goal.returns-in-Some-clause-end
returns-in-Some-clause-end g c =
    let i = c.loop-stop.invariant in
    let ended = ended-same _ _ _ _ _ _ (ap g.M.Model.meaning i.model) i.terms (sym c.in-Some.is ∙ c.ended.ensures) in
    let counted = c.count-events.ensures.standing i.way.state i.way.fault i.way.at_state in
    let ends = ends_so _ _ _ i.laws _ i.so_far i.way c.in-Some.stop c.count-events.result ended counted in
    let so : ℕ → Stop → RunEnd = λ events stop. record { seed = c.args.replication.now.seed; events = events; stop = stop } in
    ap (λ n. so n c.in-Some.stop) (sym ends.counted) ∙ ap (λ (stop : Stop). so (run (g.M.Model.meaning c.args.model.now) c.args.replication.now.terms (initial_state (g.M.Model.meaning c.args.model.now))).last.count stop) (sym ends.stops_at)

pub bucket-requires-after_bounds : goal.bucket-requires-after_bounds
bucket-requires-after_bounds g c κs within = sym c.ended.ensures ∙ none_of _ c.in_default.not-Some

pub add_all-requires-after_bounds : goal.add_all-requires-after_bounds
add_all-requires-after_bounds g c κs within =
    let i = c.loop-stop.invariant in
    let m = g.M.Model.meaning c.args.model.now in
    let first_tick = c.requires.rows.0 in
    let same = ap g.M.Model.meaning i.model in
    let own_none = sym c.ended.ensures ∙ none_of _ c.in_default.not-Some in
    let not_ended = ended-same _ _ _ _ _ _ same i.terms (sym own_none) in
    let cycle = cycle-same _ _ _ _ _ _ c.in_ok-bucket.bucket same i.terms c.in_ok-bucket.ensures.gives in
    record {
      first_tick = first_tick;
      records = records_of_buckets i.so_far;
      summed = i.kept first_tick c.requires.rows.1;
      can_come = subst (CanAllCome m (records_of_buckets i.so_far)) (sym c.as_buffer.ensures) (bucket-can_come _ _ i.laws _ i.so_far i.way _ _ not_ended cycle);
    }

pub loop-stop-smaller : goal.loop-stop-smaller
loop-stop-smaller g c =
    let i = c.loop-stop.invariant in
    let few = few_cycles _ _ _ i.laws _ i.so_far i.way in
    omega (arith, few, i.numbered)

pub loop-stop-preserved : goal.loop-stop-preserved
loop-stop-preserved g c =
    let i = c.loop-stop.invariant in
    let m = g.M.Model.meaning c.args.model.now in
    let t = c.args.replication.now.terms in
    let b = c.in_ok-bucket.bucket in
    let same = ap g.M.Model.meaning i.model in
    let own_none = sym c.ended.ensures ∙ none_of _ c.in_default.not-Some in
    let not_ended = ended-same _ _ _ _ _ _ same i.terms (sym own_none) in
    let cycle = cycle-same _ _ _ _ _ _ b same i.terms c.in_ok-bucket.ensures.gives in
    let Way : Standing → Type 0 = λ at. IsUnderWay m t (initial_state m) at (i.so_far ++ b ∷ []) in
    record {
      model = ap (λ (e : EngineView _). e.model) c.give_back.ensures ∙ c.in_ok-bucket.ensures.model ∙ i.model;
      terms = ap (λ (e : EngineView _). e.terms) c.give_back.ensures ∙ c.in_ok-bucket.ensures.terms ∙ i.terms;
      so_far = i.so_far ++ b ∷ [];
      laws = i.laws;
      way = subst Way (sym (ap (λ (e : EngineView _). e.standing) c.give_back.ensures)) (goes_on _ _ _ i.laws _ i.so_far i.way b _ not_ended cycle);
      numbered = ap (λ n. n + 1) i.numbered ∙ sym (length-append i.so_far (b ∷ []));
      kept = λ first_tick none.
          subst (g.W.Rows.sums_up c.args.model.now first_tick c.add_all.new.rows)
          (ap (λ (done : List (Key × Note)). records_of_buckets i.so_far ++ done) c.as_buffer.ensures ∙ sym (records_of_buckets-more i.so_far b))
          (c.add_all.ensures first_tick (records_of_buckets i.so_far) (i.kept first_tick none)
          (subst (CanAllCome m (records_of_buckets i.so_far)) (sym c.as_buffer.ensures) (bucket-can_come _ _ i.laws _ i.so_far i.way _ _ not_ended cycle)));
    }
