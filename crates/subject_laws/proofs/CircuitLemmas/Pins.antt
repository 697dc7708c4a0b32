-- What comes to a pin makes it what its gate puts out.
use Rattle.std.proofs.Common.{◌≡◌, ◌≢◌, ◌⊎◌, ℕ, ◌<◌, ◌≤◌, ◌%◌, Bool, true, false, List, [], ◌∷◌, length, map, refl, sym, ap, ◌∙◌, subst, inl, inr, arith}
use Rattle.std.specs.Prelude.{◌==◌, ◌&&◌, if◌then◌else◌, slice_index, Contains}
use Rattle.std.specs.List.{AllByRecursion as Each}
use Rattle.std.proofs.lemmas.Bool.Decides.{nat_tests}
use Rattle.std.proofs.lemmas.Bool.{false_from_ne_true}
use Rattle.std.proofs.lemmas.List.Elements.{Contains-append_left}
use Rattle.std.proofs.lemmas.List.Sorted.{Contains-permutation}
use Rattle.event_key.specs.declared.key.Key.{Key}
use Rattle.event_key.specs.Keys.{key_lt}
use Rattle.event_key.specs.Stamps.{next_stamp}
use Rattle.event_key.proofs.Order.{key_lt-tests}
use Rattle.key_order.specs.Ascending.{IsAscending}
use Rattle.key_order.specs.Pending.{enqueue_all}
use Rattle.key_order.proofs.ArrivalLemmas.{enqueue_all-permutation}
use Rattle.key_order.proofs.EachLemmas.{Each-both}
use Rattle.key_order.proofs.EnqueueLemmas.{Each-enqueue_all}
use Rattle.model_core.specs.declared.event.Event.{Event}
use Rattle.model_core.specs.declared.event.Send.{Send}
use Rattle.model_core.specs.declared.note.Note.{Note}
use Rattle.model_core.specs.Meaning.{Meaning}
use Rattle.sim_spec.specs.declared.terms.Terms.{Terms}
use Rattle.sim_spec.specs.Firing.{ObjectState, emissions}
use Rattle.sim_spec.specs.State.{State, IsSound, AllSound, object_at}
use Rattle.circuit_model.specs.declared.gate.LogicGate.{LogicGate}
use Rattle.circuit_model.specs.Events.{level_to, levels_of, output_of, output_after, gate_effect}
use Rattle.circuit_model.specs.Gates.{gate_at, delay_of}
use Rattle.circuit_model.specs.Meaning.{circuit_meaning}
use Rattle.circuit_model.specs.ModelLaws.{output_after-bit}
use Rattle.circuit_model.specs.Parts.{IsCircuit}
use Rattle.circuit_model.specs.Wiring.{pin, feeder, fed_by}
use Rattle.subject_laws.specs.Settled.{cells_at, output_at, level_at, is_for, arriving}
use Rattle.subject_laws.proofs.CircuitLemmas.Arriving.{arriving-first, arriving-enqueue_all, arriving-last}
use Rattle.subject_laws.proofs.CircuitLemmas.CircuitSteps.{IsCircuitStep, pending_after, output_here, levels_here, cells_elsewhere}
use Rattle.subject_laws.proofs.CircuitLemmas.Leaves.{gate_sends, level_after}
use Rattle.subject_laws.proofs.CircuitLemmas.Sends.{level_event, level_events, Each-level_events, level_events-contain, fed_by-contains, fed_by-feeds}
use Rattle.subject_laws.proofs.CircuitLemmas.Timely.{IsTimely, next_stamp-grows}

each_sound : (m : Meaning) (objects : List ObjectState) (es : List Event) → AllSound m objects es → Each (IsSound m objects) es
unfolding AllSound
each_sound m objects [] all = tt
each_sound m objects (e ∷ es) all = (all.0, each_sound m objects es all.1)

-- an event for a pin names it
pub record IsFor (number place : ℕ) (e : Event) : Type 0 where
  pub kind : e.kind ≡ 5
  pub dest : e.key.dest ≡ number
  pub at : e.a ≡ place

is_for-names : (number place : ℕ) (e : Event) → is_for number place e ≡ true → IsFor number place e
is_for-names number place e for = by (e.kind == 5) refl (e.key.dest == number) refl (e.a == place) refl for
  where
    by : (a : Bool) → (e.kind == 5) ≡ a → (b : Bool) → (e.key.dest == number) ≡ b → (c : Bool) → (e.a == place) ≡ c → (a && b && c) ≡ true → IsFor number place e
    by true is5 true here true at for = record { kind = grind (arith, nat_tests); dest = grind (arith, nat_tests); at = grind (arith, nat_tests) }
    by false is5 b here c at for = absurd (cc)
    by true is5 false here c at for = absurd (cc)
    by true is5 true here false at for = absurd (cc)

pub is_for-not : (number place : ℕ) (e : Event) → (IsFor number place e → ⊥) → is_for number place e ≡ false
is_for-not number place e other = false_from_ne_true (is_for number place e) (λ for. other (is_for-names number place e for))

-- of two keys of one rank, destination and source the one with the lesser serial comes first, unless its stamp is greater
key_lt-serial : (a b : Key) → a.stamp ≤ b.stamp → a.rank ≡ b.rank → a.dest ≡ b.dest → a.src ≡ b.src → a.serial < b.serial → key_lt a b ≡ true
key_lt-serial a b stamp rank dest src serial = key_lt-tests a b ∙ grind (arith, nat_tests)

module _ (gates : List LogicGate) (t : Terms) (s : State) (told : Key × Note) (after : State) (n : IsCircuitStep gates t s told after) (number place : ℕ) (fine : IsCircuit gates)
    (exists : number < length gates) (within : place < length (gate_at gates number).from) where
  -- the event brings the pin its level, or leaves it
  pin_after : (if is_for number place n.step.event then n.step.event.b % 2 else level_at s number place) ≡ level_at after number place
  pin_after = by (n.step.event.key.dest == number) refl
    where
      by : (same : Bool) → (n.step.event.key.dest == number) ≡ same
          → (if is_for number place n.step.event then n.step.event.b % 2 else level_at s number place) ≡ level_at after number place
      by true is =
          let same : n.step.event.key.dest ≡ number = grind (arith, nat_tests) in
          let at : place < length (gate_at gates n.step.event.key.dest).from = subst (λ i. place < length (gate_at gates i).from) (sym same) within in
          ap (λ i. if is_for number place n.step.event then n.step.event.b % 2 else level_at s i place) (sym same)
          ∙ level_after (gate_at gates n.step.event.key.dest) number (cells_at s n.step.event.key.dest) n.step.event place n.cells at same
          ∙ ap (λ levels. slice_index levels place) (sym (levels_here gates t s told after n))
          ∙ ap (λ i. level_at after i place) same
      by false is =
          let apart : number ≢ n.step.event.key.dest = grind (arith, nat_tests) in
          let other : is_for number place n.step.event ≡ false = is_for-not number place n.step.event (λ for. apart (sym for.dest)) in
          ap (λ b. if b then n.step.event.b % 2 else level_at s number place) other
          ∙ ap (λ cells. slice_index (levels_of cells) place) (sym (cells_elsewhere gates t s told after n number apart))

  -- what is pending behind the event makes the pin what all did that was pending
  rest_makes : arriving number place (level_at after number place) n.step.rest ≡ arriving number place (level_at s number place) s.pending
  rest_makes =
      sym (ap (arriving number place (level_at s number place)) n.step.pending
      ∙ arriving-first number place (level_at s number place) (level_at after number place) n.step.event n.step.rest pin_after)

  -- the gate that feeds the pin puts out what it did, if it isn't that of the event, or if that one keeps its output
  feeder_stays : (feeder gates (pin number place) ≡ n.step.event.key.dest → output_after (gate_at gates n.step.event.key.dest) (cells_at s n.step.event.key.dest) n.step.event ≡ output_at s n.step.event.key.dest)
      → output_at after (feeder gates (pin number place)) ≡ output_at s (feeder gates (pin number place))
  feeder_stays keeps = by (feeder gates (pin number place) == n.step.event.key.dest) refl
    where
      by : (same : Bool) → (feeder gates (pin number place) == n.step.event.key.dest) ≡ same → output_at after (feeder gates (pin number place)) ≡ output_at s (feeder gates (pin number place))
      by true is =
          let same : feeder gates (pin number place) ≡ n.step.event.key.dest = grind (arith, nat_tests) in
          ap (output_at after) same ∙ output_here gates t s told after n ∙ keeps same ∙ ap (output_at s) (sym same)
      by false is =
          let apart : feeder gates (pin number place) ≢ n.step.event.key.dest = grind (arith, nat_tests) in
          ap output_of (cells_elsewhere gates t s told after n (feeder gates (pin number place)) apart)

  -- a level on its way to the pin comes before one that is sent now
  comes_before : (now : ℕ) (e : Event) (serial : ℕ) → now ≤ n.step.event.key.stamp → IsTimely gates now e → IsSound (circuit_meaning gates) s.objects e
      → feeder gates (pin number place) ≡ n.step.event.key.dest → (object_at s.objects n.step.event.key.dest).sent ≤ serial → is_for number place e ≡ true
      → key_lt e.key (level_event n.step.event.key.stamp n.step.event.key.dest serial (delay_of (gate_at gates n.step.event.key.dest))
      (output_after (gate_at gates n.step.event.key.dest) (cells_at s n.step.event.key.dest) n.step.event) (pin number place)).key ≡ true
  comes_before now e serial le timely sound fed sent for =
      let names = is_for-names number place e for in
      let way = timely.1 names.kind in
      let here : pin e.key.dest e.a ≡ pin number place = ap (λ i. pin i e.a) names.dest ∙ ap (pin number) names.at in
      let src : e.key.src ≡ n.step.event.key.dest = way.src ∙ ap (feeder gates) here ∙ fed in
      let grows = next_stamp-grows now n.step.event.key.stamp (delay_of (gate_at gates e.key.src)) le in
      let delay : next_stamp n.step.event.key.stamp (delay_of (gate_at gates e.key.src)) ≡ next_stamp n.step.event.key.stamp (delay_of (gate_at gates n.step.event.key.dest)) =
      ap (λ i. next_stamp n.step.event.key.stamp (delay_of (gate_at gates i))) src
      in
      key_lt-serial e.key _ (omega (arith, way.stamp, grows, delay)) way.rank names.dest src
      (elim sound.source [
        | inl first ↦ absurd (omega (arith, first.0, src, n.exists, fine.linked.few_gates))
        | inr later ↦ (let sent_at = ap (λ i. (object_at s.objects i).sent) src in omega (arith, later.1, sent_at, sent))
      ])

  -- what is pending makes the pin what the gate that feeds it puts out
  pub pins-kept : (now : ℕ) → Each (IsTimely gates now) s.pending → arriving number place (level_at s number place) s.pending ≡ output_at s (feeder gates (pin number place))
      → arriving number place (level_at after number place) after.pending ≡ output_at after (feeder gates (pin number place))
  unfolding emissions enqueue_all AllSound
  pins-kept now timely before =
      let e : Event = n.step.event in
      let source : ℕ = feeder gates (pin number place) in
      let serial : ℕ = (object_at s.objects e.key.dest).sent in
      let output : ℕ = output_after (gate_at gates e.key.dest) (cells_at s e.key.dest) e in
      let delay : ℕ = delay_of (gate_at gates e.key.dest) in
      let sends : List Send = map (level_to delay output) (fed_by gates e.key.dest) in
      let P : List Send → Type 0 = λ sends.
      IsAscending (enqueue_all (emissions e.key.stamp e.key.dest serial sends) n.step.rest)
      → arriving number place (level_at after number place) (enqueue_all (emissions e.key.stamp e.key.dest serial sends) n.step.rest) ≡ output_at after source
      in
      let up : IsAscending (enqueue_all (emissions e.key.stamp e.key.dest serial (gate_effect gates e.key.dest (cells_at s e.key.dest) e).sends) n.step.rest) =
      subst IsAscending (pending_after gates t s told after n) n.lawful_after.ordered
      in
      ap (arriving number place (level_at after number place)) (pending_after gates t s told after n)
      ∙ gate_sends P gates e.key.dest (cells_at s e.key.dest) e
      (λ stays up. rest_makes ∙ before ∙ sym (feeder_stays (λ _. stays)))
      (by_source (source == e.key.dest) refl) up
    where
      e : Event
      e = n.step.event

      serial : ℕ
      serial = (object_at s.objects n.step.event.key.dest).sent

      delay : ℕ
      delay = delay_of (gate_at gates n.step.event.key.dest)

      output : ℕ
      output = output_after (gate_at gates n.step.event.key.dest) (cells_at s n.step.event.key.dest) n.step.event

      events : List Event
      events = level_events n.step.event.key.stamp n.step.event.key.dest serial delay output (fed_by gates n.step.event.key.dest)

      by_source : (same : Bool) → (feeder gates (pin number place) == n.step.event.key.dest) ≡ same → IsAscending (enqueue_all events n.step.rest)
          → arriving number place (level_at after number place) (enqueue_all events n.step.rest) ≡ output_at after (feeder gates (pin number place))
      by_source false is up =
          let apart : feeder gates (pin number place) ≢ e.key.dest = grind (arith, nat_tests) in
          let others : Each (λ x. is_for number place x ≡ false) events =
          Each-level_events (λ x. is_for number place x ≡ false) (λ p. feeder gates p ≡ e.key.dest) e.key.stamp e.key.dest serial serial delay output (fed_by gates e.key.dest) (omega arith)
          (λ p k from fed. is_for-not number place (level_event e.key.stamp e.key.dest k delay output p)
          (λ for. apart (sym (ap (λ g. feeder gates (pin g p.place)) for.dest ∙ ap (λ a. feeder gates (pin number a)) for.at) ∙ fed)))
          (fed_by-feeds gates e.key.dest)
          in
          arriving-enqueue_all number place (level_at after number place) events n.step.rest others
          ∙ rest_makes ∙ before ∙ sym (feeder_stays (λ same. absurd (apart same)))
      by_source true is up =
          let same : feeder gates (pin number place) ≡ e.key.dest = grind (arith, nat_tests) in
          let small : output ≤ 1 = output_after-bit (gate_at gates e.key.dest) (cells_at s e.key.dest) e n.cells in
          let bit : output % 2 ≡ output = omega arith in
          let found = level_events-contain e.key.stamp e.key.dest serial delay output (pin number place) (fed_by gates e.key.dest)
          (fed_by-contains gates number place e.key.dest exists within same)
          in
          let f : Event = level_event e.key.stamp e.key.dest found.0 delay output (pin number place) in
          let is_in : Contains (enqueue_all events n.step.rest) f =
          Contains-permutation _ _ f (enqueue_all-permutation events n.step.rest) (Contains-append_left events n.step.rest f found.2)
          in
          let for : is_for number place f ≡ true = grind (arith, nat_tests) in
          let Q : Event → Type 0 = λ x. is_for number place x ≡ true → (x.b % 2 ≡ output) ⊎ (key_lt x.key f.key ≡ true) in
          let sent : Each Q events =
          Each-level_events Q (λ p. feeder gates p ≡ e.key.dest) e.key.stamp e.key.dest serial serial delay output (fed_by gates e.key.dest) (omega arith)
          (λ p k from fed x_for. inl bit) (fed_by-feeds gates e.key.dest)
          in
          let all : Each (IsTimely gates now) (e ∷ n.step.rest) = subst (Each (IsTimely gates now)) n.step.pending timely in
          let sound : Each (IsSound (circuit_meaning gates) s.objects) (e ∷ n.step.rest) =
          subst (Each (IsSound (circuit_meaning gates) s.objects)) n.step.pending (each_sound (circuit_meaning gates) s.objects s.pending n.lawful.sound)
          in
          let rest : Each Q n.step.rest =
          Each-both (IsTimely gates now) (IsSound (circuit_meaning gates) s.objects) Q n.step.rest
          (λ x x_timely x_sound x_for. inr (comes_before now x found.0 all.0.0 x_timely x_sound same found.1 x_for)) all.1 sound.1
          in
          arriving-last number place output (level_at after number place) f (enqueue_all events n.step.rest) up is_in for bit
          (Each-enqueue_all Q events n.step.rest sent rest)
          ∙ sym (ap (output_at after) same ∙ output_here gates t s told after n)
