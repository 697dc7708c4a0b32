-- When a station turns a job away, and when a station or a sink fails.
use Rattle.std.proofs.Common.{◌≡◌, ◌≢◌, ℕ, ◌-◌, ◌<◌, ◌≤◌, Bool, true, false, List, [], ◌∷◌, refl, sym, ap, ◌∙◌, arith, eq-eqb}
use Rattle.std.specs.Prelude.{Option, Some, None, nat_lt, ◌==◌, if◌then◌else◌}
use Rattle.std.specs.Option.{IsSomeAnd}
use Rattle.std.proofs.lemmas.Bool.Decides.{nat_tests}
use Rattle.event_key.specs.declared.key.Key.{Key}
use Rattle.event_key.specs.Stamps.{time_part}
use Rattle.delta_exchange.specs.Changes.{CellData}
use Rattle.model_core.specs.declared.effect.Effect.{Effect}
use Rattle.model_core.specs.declared.effect.Outcome.{Outcome}
use Rattle.model_core.specs.declared.effect.Outcome.TheVariants.{Goes, Fails}
use Rattle.model_core.specs.declared.event.Event.{Event}
use Rattle.model_core.specs.declared.note.Note.{Note}
use Rattle.model_core.specs.Meaning.{Meaning}
use Rattle.sim_spec.specs.declared.stop.Stop.TheVariants.{Fault}
use Rattle.sim_spec.specs.declared.terms.Terms.{Terms}
use Rattle.sim_spec.specs.Firing.{ObjectState, firing_of, fired_by, fire, goes, fails, has_endless_chain}
use Rattle.sim_spec.specs.State.{State, object_at as state_at}
use Rattle.sim_spec.specs.Run.{stops, does, next, next_fired}
use Rattle.sim_spec.proofs.FiringLemmas.{goes-effect}
use Rattle.sim_spec.proofs.RunLemmas.{next-fires, state_after}
use Rattle.queue_models.specs.declared.kind.KindOver.{KindOver}
use Rattle.queue_models.specs.declared.site.Site.{Site}
use Rattle.queue_models.specs.declared.station.Station.{Station as StationOver}
use Rattle.queue_models.specs.Kinds.{effect_at}
use Rattle.queue_models.specs.Meaning.{plain_meaning, network_meaning, site_of}
use Rattle.queue_models.specs.Objects.{NetworkParts, object_at}
use Rattle.queue_models.specs.Parts.{IsNetwork}
use Rattle.queue_models.specs.Sinks.{is_late, sink_effect}
use Rattle.queue_models.specs.Stations.{busy_servers, waiting_jobs, take_effect, wait_effect, lose_effect, arrival_outcome, serve_effect, free_effect, done_effect, station_effect}
use Rattle.run_laws.specs.Reached.{Reaches}
use Rattle.subject_laws.specs.LossLaws.{IsNext, IsToldBy, FindsNoRoom, LosesExactly, LossesLaw, LateJobsLaw}
use Rattle.subject_laws.specs.Places.{word_told}
use Rattle.subject_laws.specs.ServerLaws.{AreServing}
use Rattle.subject_laws.specs.Stations.{IsStationAt, cells_at}
use Rattle.subject_laws.proofs.QueueLemmas.PlainRuns.{same_next, plain_reaches}
use Rattle.subject_laws.proofs.QueueLemmas.ServersLaw.{plain_servers_law}
use Rattle.subject_laws.proofs.QueueLemmas.TellingLaw.{stops_too, stops_first}

-- no server is free and the line is full, by the cells
pub record IsFull (station : StationOver ℕ) (cells : CellData) (e : Event) : Type 0 where
  pub comes : e.kind ≢ 2
  pub busy : station.servers ≤ busy_servers cells
  pub full : station.line ≤ waiting_jobs cells

-- what becomes of an event at a station: it loses a job, or fails, where all is full; else it is told otherwise
pub data StationGives (station : StationOver ℕ) (cells : CellData) (e : Event) : Outcome → Type 0 where
  lost : IsFull station cells e → station.strict ≡ false → StationGives station cells e (Goes (lose_effect cells e))
  failed : IsFull station cells e → station.strict ≡ true → StationGives station cells e (Fails 2)
  other : (IsFull station cells e → ⊥) → (x : Effect) → word_told x.note ≢ 5 → StationGives station cells e (Goes x)

pub station_gives : (site : Site) (station : StationOver ℕ) (cells : CellData) (e : Event) → StationGives station cells e (station_effect site station cells e)
unfolding station_effect arrival_outcome done_effect take_effect wait_effect serve_effect free_effect
station_gives site station cells e = by (e.kind == 2) refl
  where
    is_done : (e.kind == 2) ≡ true → IsFull station cells e → ⊥
    is_done done full = full.comes (grind (arith, nat_tests))

    done : (some : Bool) → (e.kind == 2) ≡ true
        → StationGives station cells e (Goes (if some then serve_effect site station cells e else free_effect site station cells e))
    done true is = other (is_done is) (serve_effect site station cells e) (λ same. let w : 6 ≡ 5 = same in absurd (omega arith))
    done false is = other (is_done is) (free_effect site station cells e) (λ same. let w : 6 ≡ 5 = same in absurd (omega arith))

    comes : (free room strict : Bool) → nat_lt (busy_servers cells) station.servers ≡ free → nat_lt (waiting_jobs cells) station.line ≡ room → station.strict ≡ strict → e.kind ≢ 2
        → StationGives station cells e
        (if free then Goes (take_effect site station cells e) else if room then Goes (wait_effect cells e) else if strict then Fails 2 else Goes (lose_effect cells e))
    comes true room strict free_is room_is strict_is apart =
        other (λ full. let least = full.busy in absurd (let less : busy_servers cells < station.servers = grind (arith, nat_tests) in omega arith))
        (take_effect site station cells e) (λ same. let w : 3 ≡ 5 = same in absurd (omega arith))
    comes false true strict free_is room_is strict_is apart =
        other (λ full. let least = full.full in absurd (let less : waiting_jobs cells < station.line = grind (arith, nat_tests) in omega arith))
        (wait_effect cells e) (λ same. let w : 4 ≡ 5 = same in absurd (omega arith))
    comes false false true free_is room_is strict_is apart =
        failed (record { comes = apart; busy = grind (arith, nat_tests); full = grind (arith, nat_tests) }) strict_is
    comes false false false free_is room_is strict_is apart =
        lost (record { comes = apart; busy = grind (arith, nat_tests); full = grind (arith, nat_tests) }) strict_is

    by : (is_two : Bool) → (e.kind == 2) ≡ is_two
        → StationGives station cells e (if is_two then Goes (if nat_lt 0 (waiting_jobs cells) then serve_effect site station cells e else free_effect site station cells e)
        else (if nat_lt (busy_servers cells) station.servers then Goes (take_effect site station cells e)
        else if nat_lt (waiting_jobs cells) station.line then Goes (wait_effect cells e) else if station.strict then Fails 2 else Goes (lose_effect cells e)))
    by true is = done (nat_lt 0 (waiting_jobs cells)) is
    by false is =
        comes (nat_lt (busy_servers cells) station.servers) (nat_lt (waiting_jobs cells) station.line) station.strict refl refl refl
        (λ two. let no : (e.kind == 2) ≡ true = eq-eqb e.kind 2 two in cc)

-- what comes next, by what becomes of the event
next_by : (m : Meaning) (t : Terms) (s : State) (e : Event) (n : IsNext t s e) (outcome : Outcome)
    → m.effect e.key.dest (state_at s.objects e.key.dest).cells e ≡ outcome
    → next m t s ≡ next_fired s e n.rest (fired_by e.key.dest (state_at s.objects e.key.dest) e outcome)
unfolding fire
next_by m t s e n outcome is =
    next-fires m t s e n.rest n.pending n.due n.room
    ∙ ap (λ o. next_fired s e n.rest (fired_by e.key.dest (state_at s.objects e.key.dest) e o)) is

-- a fault of the model is its refusal
fault_by : (s : State) (e : Event) (rest : List Event) (state : ObjectState) (outcome : Outcome) (code : ℕ) → 1 ≢ code
    → next_fired s e rest (fired_by e.key.dest state e outcome) ≡ stops (Fault e.key code) → outcome ≡ Fails code
unfolding next_fired fired_by
fault_by s e rest state (Fails why) code no_chain is = cc
fault_by s e rest state (Goes x) code no_chain is = by (has_endless_chain e.key.stamp x.sends) is
  where
    by : (endless : Bool) → next_fired s e rest (if endless then fails 1 else goes (firing_of e.key.dest state e x)) ≡ stops (Fault e.key code) → Goes x ≡ Fails code
    by true is = absurd (no_chain (cc))
    by false is = absurd (cc)

-- what is told is the note of an effect that goes
told_by : (s : State) (e : Event) (rest : List Event) (state : ObjectState) (outcome : Outcome) (told : Key × Note) (after : State)
    → next_fired s e rest (fired_by e.key.dest state e outcome) ≡ does told after → (x : Effect) × (outcome ≡ Goes x) × (told ≡ (e.key, x.note))
unfolding next_fired fired_by
told_by s e rest state (Fails code) told after is = absurd (cc)
told_by s e rest state (Goes x) told after is = (x, refl, by (has_endless_chain e.key.stamp x.sends) is)
  where
    first_of : (a b : Key × Note) (u v : State) → does a u ≡ does b v → b ≡ a
    first_of a b u v same = cc

    by : (endless : Bool) → next_fired s e rest (if endless then fails 1 else goes (firing_of e.key.dest state e x)) ≡ does told after → told ≡ (e.key, x.note)
    by true is = absurd (cc)
    by false is = first_of (e.key, x.note) told _ after is

fails_is : (a b : ℕ) → Fails a ≡ Fails b → a ≡ b
fails_is a b same = cc

module _ (p : NetworkParts) (t : Terms) (s : State) (e : Event) (station : StationOver ℕ) (fine : IsNetwork p) (reached : Reaches (network_meaning p) t s) (n : IsNext t s e)
    (is : IsStationAt p e.key.dest station) where
  serving : AreServing s e.key.dest station
  serving = plain_servers_law p t s e.key.dest station fine (plain_reaches p t s reached) is

  to_full : FindsNoRoom s e station → IsFull station (cells_at s e.key.dest) e
  to_full found = record { comes = found.comes; busy = omega (arith, found.busy); full = omega (arith, found.full) }

  from_full : IsFull station (cells_at s e.key.dest) e → FindsNoRoom s e station
  from_full full = record {
    comes = full.comes;
    busy = omega (arith, full.busy, serving.no_more);
    full = omega (arith, full.full, serving.line);
  }

  -- what the station makes of the event
  outcome : Outcome
  outcome = station_effect (site_of p e.key.dest) station (cells_at s e.key.dest) e

  outcome_is : effect_at (site_of p e.key.dest) (object_at p.objects e.key.dest).kind (cells_at s e.key.dest) e ≡ outcome
  unfolding outcome
  outcome_is = ap (λ (kind : KindOver ℕ). effect_at (site_of p e.key.dest) kind (cells_at s e.key.dest) e) is

  next_is : next (plain_meaning p) t s ≡ next_fired s e n.rest (fired_by e.key.dest (state_at s.objects e.key.dest) e outcome)
  unfolding plain_meaning network_meaning
  next_is = next_by (plain_meaning p) t s e n outcome outcome_is

  gives : StationGives station (cells_at s e.key.dest) e outcome
  unfolding outcome
  gives = station_gives (site_of p e.key.dest) station (cells_at s e.key.dest) e

  lost_when : (o : Outcome) (x : Effect) → StationGives station (cells_at s e.key.dest) e o → o ≡ Goes x → word_told x.note ≡ 5
      → (station.strict ≡ false) × FindsNoRoom s e station
  lost_when o x (lost full loose) same word = (loose, from_full full)
  lost_when o x (failed full strict) same word = absurd (cc)
  lost_when o x (other room y apart) same word = absurd (apart (ap (λ (z : Effect). word_told z.note) (goes-effect y x same) ∙ word))

  failed_when : (o : Outcome) → StationGives station (cells_at s e.key.dest) e o → o ≡ Fails 2 → (station.strict ≡ true) × FindsNoRoom s e station
  failed_when o (lost full loose) same = absurd (cc)
  failed_when o (failed full strict) same = (strict, from_full full)
  failed_when o (other room y apart) same = absurd (cc)

  loses_when : (o : Outcome) → StationGives station (cells_at s e.key.dest) e o → IsFull station (cells_at s e.key.dest) e → station.strict ≡ false → o ≡ Goes (lose_effect (cells_at s e.key.dest) e)
  loses_when o (lost full loose) found is_loose = refl
  loses_when o (failed full strict) found is_loose = absurd (cc)
  loses_when o (other room y apart) found is_loose = absurd (room found)

  fails_when : (o : Outcome) → StationGives station (cells_at s e.key.dest) e o → IsFull station (cells_at s e.key.dest) e → station.strict ≡ true → o ≡ Fails 2
  fails_when o (lost full loose) found is_strict = absurd (cc)
  fails_when o (failed full strict) found is_strict = refl
  fails_when o (other room y apart) found is_strict = absurd (room found)

  tells_loss : outcome ≡ Goes (lose_effect (cells_at s e.key.dest) e) → IsToldBy (plain_meaning p) t s 5
  unfolding next_fired fired_by has_endless_chain lose_effect
  tells_loss goes_so = record {
    told = (e.key, (lose_effect (cells_at s e.key.dest) e).note);
    after = state_after s e n.rest (lose_effect (cells_at s e.key.dest) e);
    goes = next_is ∙ ap (λ o. next_fired s e n.rest (fired_by e.key.dest (state_at s.objects e.key.dest) e o)) goes_so;
    tells = refl;
  }

  fault_is : outcome ≡ Fails 2 → next (network_meaning p) t s ≡ stops (Fault e.key 2)
  unfolding next_fired fired_by
  fault_is fails_so =
      stops_first p _ _ (Fault e.key 2) (same_next p t s)
      (next_is ∙ ap (λ o. next_fired s e n.rest (fired_by e.key.dest (state_at s.objects e.key.dest) e o)) fails_so)

  loses_exactly : LosesExactly p t s e station
  loses_exactly = record {
    lost = (
      λ tells.
          let by = told_by s e n.rest (state_at s.objects e.key.dest) outcome tells.told tells.after (sym next_is ∙ tells.goes) in
          lost_when outcome by.0 gives by.1 (sym (ap (λ (r : Key × Note). word_told r.1) by.2) ∙ tells.tells),
      λ found. tells_loss (loses_when outcome gives (to_full found.1) found.0),
    );
    fault = (
      λ stops_so.
          failed_when outcome gives
          (fault_by s e n.rest (state_at s.objects e.key.dest) outcome 2 (λ same. omega arith) (sym next_is ∙ stops_too p _ _ (Fault e.key 2) (same_next p t s) stops_so)),
      λ found. fault_is (fails_when outcome gives (to_full found.1) found.0),
    );
  }

pub losses_law : LossesLaw
losses_law p t s e station fine reached n is = loses_exactly p t s e station fine reached n is

-- a sink
late_when : (due : Option ℕ) (age : ℕ) → is_late due age ≡ true → IsSomeAnd due (λ due. due < age)
late_when None age late = absurd (cc)
late_when (Some due) age late = grind (arith, nat_tests)

is_late_when : (due : Option ℕ) (age : ℕ) → IsSomeAnd due (λ due. due < age) → is_late due age ≡ true
is_late_when None age late = absurd late
is_late_when (Some due) age late = grind (arith, nat_tests)

pub late_jobs_law : LateJobsLaw
unfolding plain_meaning network_meaning sink_effect next_fired fired_by
late_jobs_law p t s e sink n is = (
  λ stops_so.
      late_when sink.due age
      (by_outcome (is_late sink.due age)
      (fault_by s e n.rest state (sink_effect sink e) 3 (λ same. omega arith) (sym next_is ∙ stops_too p _ _ (Fault e.key 3) (same_next p t s) stops_so))),
  λ late.
      stops_first p _ _ (Fault e.key 3) (same_next p t s)
      (next_is ∙ ap (λ b. next_fired s e n.rest (fired_by e.key.dest state e (if b then Fails 3 else Goes (record { changes = []; sends = []; note = note })))) (is_late_when sink.due age late)),
)
  where
    state : ObjectState
    state = state_at s.objects e.key.dest

    age : ℕ
    age = time_part e.key.stamp - e.b

    note : Note
    note = record { word = 9; a = e.a; b = time_part e.key.stamp - e.b } ∷ []

    next_is : next (plain_meaning p) t s ≡ next_fired s e n.rest (fired_by e.key.dest (state_at s.objects e.key.dest) e (sink_effect sink e))
    next_is =
        next_by (plain_meaning p) t s e n (sink_effect sink e)
        (ap (λ (kind : KindOver ℕ). effect_at (site_of p e.key.dest) kind (cells_at s e.key.dest) e) is)

    by_outcome : (late : Bool) → (if late then Fails 3 else Goes (record { changes = []; sends = []; note = record { word = 9; a = e.a; b = time_part e.key.stamp - e.b } ∷ [] })) ≡ Fails 3 → late ≡ true
    by_outcome true is = refl
    by_outcome false is = absurd (cc)
