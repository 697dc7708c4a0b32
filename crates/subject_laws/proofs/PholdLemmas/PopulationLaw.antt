-- Each event of PHOLD sends one event.
use Rattle.sim_spec.proofs.FiringLemmas.{goes-effect}
use Rattle.std.proofs.Common.{◌≡◌, ◌+◌, List, [], ◌∷◌, length, map, sym, ap, ◌∙◌, arith}
use Rattle.std.specs.List.{range_with_len}
use Rattle.std.proofs.lemmas.List.FromFn.{length-map-range_with_len}
use Rattle.event_key.specs.declared.key.Key.{Key}
use Rattle.model_core.specs.declared.effect.Effect.{Effect}
use Rattle.model_core.specs.declared.effect.Outcome.TheVariants.{Goes}
use Rattle.model_core.specs.declared.event.Event.{Event}
use Rattle.model_core.specs.declared.event.Send.{Send}
use Rattle.model_core.specs.declared.note.Note.{Note}
use Rattle.sim_spec.specs.declared.terms.Terms.{Terms}
use Rattle.sim_spec.specs.State.{State, object_at, start_event, initial_state}
use Rattle.sim_spec.specs.Run.{does, next}
use Rattle.key_order.proofs.EnqueueLemmas.{length-enqueue_all}
use Rattle.sim_spec.proofs.SerialLemmas.{length-emissions}
use Rattle.phold_model.specs.Meaning.{phold_meaning, hop_effect}
use Rattle.phold_model.specs.Parts.{PholdParts}
use Rattle.phold_model.specs.Starts.{length-starts_of}
use Rattle.run_laws.proofs.Induction.{each_reached}
use Rattle.run_laws.proofs.Steps.{IsStep, is_step, first_firing}
use Rattle.subject_laws.specs.PholdLaws.{population, PopulationStays}

-- an event sends one event
one_send : (p : PholdParts) (e : Event) (s : State) (x : Effect) → (phold_meaning p).effect e.key.dest (object_at s.objects e.key.dest).cells e ≡ Goes x → length x.sends ≡ 1
unfolding phold_meaning hop_effect
one_send p e s x is_x = ap (λ (x : Effect). length x.sends) (sym (goes-effect _ x is_x))

population_kept : (p : PholdParts) (t : Terms) (s : State) (told : Key × Note) (after : State) → next (phold_meaning p) t s ≡ does told after
    → length s.pending ≡ population p → length after.pending ≡ population p
population_kept p t s told after is_next before =
    let step : IsStep (phold_meaning p) t s told after = is_step (phold_meaning p) t s told after is_next in
    let e : Event = step.event in
    let sends : List Send = step.effect.sends in
    let events : List Event = (first_firing s e step.effect).events in
    let same : length s.pending ≡ length (e ∷ step.rest) = ap length step.pending in
    let now : length after.pending ≡ length events + length step.rest =
    ap (λ (s : State). length s.pending) step.leaves ∙ length-enqueue_all events step.rest in
    omega (arith, length-emissions e.key.stamp e.key.dest (object_at s.objects e.key.dest).sent sends, one_send p e s step.effect step.outcome)

starts : (p : PholdParts) → length (initial_state (phold_meaning p)).pending ≡ population p
unfolding initial_state phold_meaning
starts p =
    let m = phold_meaning p in
    omega (
      arith,
      length-enqueue_all (map (start_event m) (range_with_len 0 m.starts)) [],
      length-map-range_with_len (start_event m) 0 m.starts,
      length-starts_of p,
    )

pub population_stays : PopulationStays
population_stays p t s reached =
    each_reached (phold_meaning p) t (λ s. length s.pending ≡ population p) (starts p)
    (λ s told after here is_next before. population_kept p t s told after is_next before) s reached
