-- Being quiet or traced changes nothing but what is told: a run reaches the same states, and sends the same events.
use Rattle.std.proofs.Common.{◌≡◌, ℕ, zero, suc, ◌+◌, Bool, true, false, List, [], ◌∷◌, ◌++◌, refl, sym, ap, ◌∙◌}
use Rattle.std.specs.Prelude.{nat_lt, slice_set, ◌==◌, if◌then◌else◌}
use Rattle.event_key.specs.declared.key.Key.{Key}
use Rattle.event_key.specs.Stamps.{end_stamp}
use Rattle.delta_exchange.specs.Changes.{CellData}
use Rattle.key_order.specs.Pending.{enqueue_all}
use Rattle.model_core.specs.declared.effect.Effect.{Effect}
use Rattle.model_core.specs.declared.effect.Outcome.{Outcome}
use Rattle.model_core.specs.declared.effect.Outcome.TheVariants.{Goes, Fails}
use Rattle.model_core.specs.declared.event.Event.{Event}
use Rattle.sim_spec.specs.declared.stop.Stop.{Stop}
use Rattle.sim_spec.specs.declared.stop.Stop.TheVariants.{End, Limit, Fault}
use Rattle.sim_spec.specs.declared.terms.Terms.{Terms}
use Rattle.sim_spec.specs.Firing.{ObjectState, has_endless_chain, firing_of, fired_by, fire, goes, fails}
use Rattle.sim_spec.specs.State.{State, initial_state, object_at as state_at}
use Rattle.sim_spec.specs.Run.{Next, stops, does, next_fired, next_of, next}
use Rattle.queue_models.specs.Kinds.{effect_at}
use Rattle.queue_models.specs.Meaning.{plain_meaning, network_meaning, site_of}
use Rattle.queue_models.specs.Objects.{NetworkParts, object_at}
use Rattle.queue_models.specs.Telling.{note_told, as_told}
use Rattle.run_laws.specs.Reached.{left_by, after_events, Reaches, gathered}

-- the same comes next, but that the object tells of it in its manner
pub data SameNext (p : NetworkParts) : Next → Next → Type 0 where
  both_stop : (stop : Stop) → SameNext p (stops stop) (stops stop)
  both_do : (key : Key) (cells : CellData) (x : Effect) (after : State)
      → SameNext p (does (key, note_told (object_at p.objects key.dest).quiet (object_at p.objects key.dest).trace cells x) after) (does (key, x.note) after)

same_fired : (p : NetworkParts) (s : State) (e : Event) (rest : List Event) (state : ObjectState) (outcome : Outcome)
    → SameNext p (next_fired s e rest (fired_by e.key.dest state e (as_told (object_at p.objects e.key.dest) state.cells outcome)))
    (next_fired s e rest (fired_by e.key.dest state e outcome))
unfolding next_fired fired_by
same_fired p s e rest state (Fails code) = both_stop (Fault e.key code)
same_fired p s e rest state (Goes x) = by (has_endless_chain e.key.stamp x.sends)
  where
    after : State
    after = record {
      objects = slice_set s.objects e.key.dest (firing_of e.key.dest state e x).state;
      pending = enqueue_all (firing_of e.key.dest state e x).events rest;
      count = s.count + 1;
    }

    told : Effect
    told = record {
      changes = x.changes;
      sends = x.sends;
      note = note_told (object_at p.objects e.key.dest).quiet (object_at p.objects e.key.dest).trace state.cells x;
    }

    by : (endless : Bool)
        → SameNext p (next_fired s e rest (if endless then fails 1 else goes (firing_of e.key.dest state e told)))
        (next_fired s e rest (if endless then fails 1 else goes (firing_of e.key.dest state e x)))
    by true = both_stop (Fault e.key 1)
    by false = both_do e.key state.cells x after

same_first : (p : NetworkParts) (t : Terms) (s : State) (pending : List Event) → SameNext p (next_of (network_meaning p) t s pending) (next_of (plain_meaning p) t s pending)
unfolding next_of fire network_meaning plain_meaning
same_first p t s [] = both_stop End
same_first p t s (e ∷ rest) = by (nat_lt e.key.stamp (end_stamp t.end)) (s.count == t.limit)
  where
    d : ℕ
    d = e.key.dest

    state : ObjectState
    state = state_at s.objects e.key.dest

    outcome : Outcome
    outcome = effect_at (site_of p e.key.dest) (object_at p.objects e.key.dest).kind (state_at s.objects e.key.dest).cells e

    by : (early full : Bool)
        → SameNext p
        (if early then (if full then stops Limit else next_fired s e rest (fired_by d state e (as_told (object_at p.objects d) state.cells outcome))) else stops End)
        (if early then (if full then stops Limit else next_fired s e rest (fired_by d state e outcome)) else stops End)
    by true true = both_stop Limit
    by true false = same_fired p s e rest state outcome
    by false full = both_stop End

pub same_next : (p : NetworkParts) (t : Terms) (s : State) → SameNext p (next (network_meaning p) t s) (next (plain_meaning p) t s)
unfolding next
same_next p t s = same_first p t s s.pending

same_left : (p : NetworkParts) (s : State) (one other : Next) → SameNext p one other → left_by s one ≡ left_by s other
unfolding left_by
same_left p s one other (both_stop stop) = refl
same_left p s one other (both_do key cells x after) = refl

-- after any number of events the state is the same
pub same_after : (p : NetworkParts) (t : Terms) (n : ℕ) → after_events n (network_meaning p) t ≡ after_events n (plain_meaning p) t
unfolding after_events initial_state network_meaning plain_meaning
same_after p t zero = refl
same_after p t (suc n) =
    let s : State = after_events n (network_meaning p) t in
    same_left p s _ _ (same_next p t s) ∙ ap (λ s. left_by s (next (plain_meaning p) t s)) (same_after p t n)

pub plain_reaches : (p : NetworkParts) (t : Terms) (s : State) → Reaches (network_meaning p) t s → Reaches (plain_meaning p) t s
plain_reaches p t s reached = (reached.0, sym (same_after p t reached.0) ∙ reached.1)

-- what is gathered without the notes is the same
pub same_gathered : {A : Type 0} (p : NetworkParts) (t : Terms) (of plain_of : State → Next → List A)
    → ((s : State) → of s (next (network_meaning p) t s) ≡ plain_of s (next (plain_meaning p) t s))
    → (n : ℕ) → gathered of n (network_meaning p) t ≡ gathered plain_of n (plain_meaning p) t
unfolding gathered
same_gathered p t of plain_of same zero = refl
same_gathered p t of plain_of same (suc n) =
    let s : State = after_events n (network_meaning p) t in
    ap (λ before. before ++ of s (next (network_meaning p) t s)) (same_gathered p t of plain_of same n)
    ∙ ap (λ more. gathered plain_of n (plain_meaning p) t ++ more) (same s ∙ ap (λ s. plain_of s (next (plain_meaning p) t s)) (same_after p t n))
