-- The station that has the token hands it on to the next one, and nothing else is sent.
use Rattle.std.proofs.Common.{◌≡◌, ℕ, ◌+◌, ◌%◌, Bool, true, false, List, [], ◌∷◌, refl, sym, ap, ◌∙◌, arith, subst}
use Rattle.std.proofs.Math.Nat.{mod-add-mod}
use Rattle.std.specs.Prelude.{if◌then◌else◌}
use Rattle.event_key.specs.declared.key.Key.{Key}
use Rattle.event_key.specs.Stamps.{time_part}
use Rattle.key_order.specs.Pending.{enqueue, enqueue_all}
use Rattle.model_core.specs.declared.effect.Effect.{Effect}
use Rattle.model_core.specs.declared.effect.Outcome.TheVariants.{Goes, Fails}
use Rattle.model_core.specs.declared.event.Event.{Event}
use Rattle.model_core.specs.declared.note.Note.{Note}
use Rattle.random_streams.specs.declared.law.Law.{Law}
use Rattle.sim_spec.specs.declared.terms.Terms.{Terms}
use Rattle.sim_spec.specs.Firing.{emissions}
use Rattle.sim_spec.specs.Run.{does, next}
use Rattle.sim_spec.specs.State.{State, initial_state, object_at}
use Rattle.sim_spec.proofs.FiringLemmas.{goes-effect}
use Rattle.sim_spec.proofs.RunLemmas.{state_after}
use Rattle.run_laws.proofs.Induction.{each_reached}
use Rattle.run_laws.proofs.Steps.{IsStep, is_step}
use Rattle.own_model.specs.Rings.{hold_effect, ring_meaning}
use Rattle.own_laws.specs.OneToken.{HasToken, OneToken}

first_is : (e f : Event) (es fs : List Event) → e ∷ es ≡ f ∷ fs → e ≡ f
first_is e f es fs same = cc

rest_is : (e f : Event) (es fs : List Event) → e ∷ es ≡ f ∷ fs → es ≡ fs
rest_is e f es fs same = cc

-- an event that goes has no fault
no_fault : (code : ℕ) (x y : Effect) (late : Bool) → (if late then Fails code else Goes y) ≡ Goes x → x ≡ y
no_fault code x y true is = absurd (cc)
no_fault code x y false is = sym (goes-effect y x is)

module _ (seed stations : ℕ) (hold : Law) (patience : ℕ) where
  goes_on : (t : Terms) (s : State) (told : Key × Note) (after : State) → next (ring_meaning seed stations hold patience) t s ≡ does told after
      → HasToken s (s.count % stations) → HasToken after (after.count % stations)
  unfolding ring_meaning enqueue enqueue_all emissions
  goes_on t s told after is_next before =
      let step : IsStep (ring_meaning seed stations hold patience) t s told after = is_step _ t s told after is_next in
      let e : Event = step.event in
      let x : Effect = hold_effect seed stations hold patience e.key.dest (object_at s.objects e.key.dest).cells (time_part e.key.stamp) in
      let same : e ∷ step.rest ≡ before.token ∷ [] = sym step.pending ∙ before.alone in
      let effect_is : step.effect ≡ x = no_fault _ step.effect x _ step.outcome in
      let leaves : after ≡ state_after s e [] x =
      step.leaves ∙ ap (λ (x : Effect). state_after s e step.rest x) effect_is ∙ ap (λ (rest : List Event). state_after s e rest x) (rest_is _ _ _ _ same) in
      let dest : e.key.dest ≡ s.count % stations = ap (λ (e : Event). e.key.dest) (first_is _ _ _ _ same) ∙ before.there in
      let P : State → Type 0 = λ s. HasToken s (s.count % stations) in
      subst P (sym leaves) (record {
        token = _;
        alone = refl;
        there = ap (λ d. (d + 1) % stations) dest ∙ mod-add-mod s.count stations 1;
      })

  begins : HasToken (initial_state (ring_meaning seed stations hold patience)) (0 % stations)
  unfolding ring_meaning initial_state enqueue enqueue_all
  begins = record { token = _; alone = refl; there = omega arith }

pub one_token : OneToken
unfolding initial_state
one_token seed stations hold patience t s reached =
    each_reached (ring_meaning seed stations hold patience) t (λ s. HasToken s (s.count % stations)) (begins seed stations hold patience)
    (λ s told after here is_next. goes_on seed stations hold patience t s told after is_next) s reached
