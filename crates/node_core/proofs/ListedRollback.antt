-- What a node's contract says of its logs once events were undone follows from that of the event log.
use Rattle.std.proofs.Common.{◌≡◌, ◌≢◌, ℕ, ◌<◌, Bool, true, false, not, ltb, ltb-true, ltb-false, List, [], ◌++◌, Option, Some, None, is_some, eqb, eqb-true, refl, sym, ap, ◌∙◌, subst}
use Rattle.std.proofs.lemmas.Bool.{eqb-false}
use Rattle.std.proofs.lemmas.List.{append-nil}
use Rattle.std.specs.Prelude.{filter, nat_lt}
use Rattle.event_key.specs.declared.key.Key.{Key}
use Rattle.event_key.specs.Keys.{key_lt}
use Rattle.model_core.specs.declared.event.Event.{Event}
use Rattle.sim_spec.specs.Firing.{ObjectState}
use Rattle.key_order.specs.Ascending.{Ascends}
use Rattle.object_log.specs.Dones.{Done}
use Rattle.object_log.specs.EventCalls.{HasGoneBack, HasUndoneFrom, undone_or}
use Rattle.object_log.specs.EventLogs.{EventLogView, done_key, dones_at, log_with, logs_upto, slot_of, state_in}
use Rattle.object_log.specs.Logs.{LogView, undone}
use Rattle.object_log.specs.Parts.{before_key, from_key}
use Rattle.object_log.specs.Replays.{IsLogOf}
use Rattle.object_log.proofs.FrontLemmas.{base-kept, down-key, down-stamp, front-split, replay-kept}
use Rattle.object_log.proofs.OwnLemmas.{low-at, own-ascends, rolled-own}
use Rattle.node_core.specs.Nodes.{IsHere, base_at, log_at, log_or, slot_at}
use Rattle.node_core.specs.Replayed.{IsLogStill}
use Rattle.node_core.proofs.LogLemmas.{IsWritten}
use Rattle.node_core.proofs.SlotLemmas.{slot-beyond, slot-is, written}

-- the front of an object's events is left, and the state before them is as it was
pub record IsFrontLeft (old new : List (Option LogView)) (object : ℕ) : Type 0 where
  pub still : IsLogStill old new object
  pub base : base_at new object ≡ base_at old object

-- a log that isn't touched
left-same : (old new : List (Option LogView)) (object : ℕ) → slot_at new object ≡ slot_at old object → IsFrontLeft old new object
unfolding log_at IsHere
left-same old new object same = record {
  still = record {
    gone = [];
    front = sym (ap (λ (s : Option LogView). (log_or s).done ++ []) same ∙ append-nil (log_or (slot_at old object)).done);
    here = λ h. ap is_some same ∙ h;
    back = λ h. ap is_some (sym same) ∙ h;
    replay = λ m is_log. (let P : Option LogView → Type 0 = λ s. IsLogOf m (log_or s) in subst P (sym same) is_log);
  };
  base = ap (λ (s : Option LogView). undone (log_or s).state (log_or s).done) same;
}

-- the end of a log was undone
record IsCut (object : ℕ) (old new : List (Option LogView)) : Type 0 where
  state : ObjectState
  all : List Done
  left : List Done
  gone : List Done
  parts : all ≡ left ++ gone
  was : log_at old object ≡ record { object = object; state = state; done = all }
  now : log_at new object ≡ record { object = object; state = undone state gone; done = left }
  here : IsHere old object
  stays : IsHere new object

left-cut : (old new : List (Option LogView)) (object : ℕ) → IsCut object old new → IsFrontLeft old new object
left-cut old new object c = record {
  still = record {
    gone = c.gone;
    front = ap (λ (l : LogView). l.done) c.was ∙ c.parts ∙ ap (λ (l : LogView). l.done ++ c.gone) (sym c.now);
    here = λ h. c.stays;
    back = λ h. c.here;
    replay = λ m is_log. (let P : LogView → Type 0 = IsLogOf m in subst P (sym c.now) (replay-kept m object c.state c.all c.left c.gone c.parts (subst P c.was is_log)));
  };
  base = ap (λ (l : LogView). undone l.state l.done) c.now ∙ base-kept c.state c.all c.left c.gone c.parts ∙ ap (λ (l : LogView). undone l.state l.done) (sym c.was);
}

-- an object went back to a key
module _ (object n : ℕ) (key : Key) (old new : EventLogView) (into : List Event) (back : HasGoneBack object key old new into) (up : Ascends done_key old.done) (inside : object < n) (here : IsHere (logs_upto old n) object) where
  abbrev pub gone_from : List Done
  gone_from = from_key key (dones_at object old.done)

  pub back-parts : dones_at object old.done ≡ dones_at object new.done ++ gone_from
  back-parts =
      front-split (λ k. key_lt k key) (down-key key) (dones_at object old.done) (own-ascends object old.done up)
      ∙ ap (λ zs. zs ++ gone_from) (sym (rolled-own object key old.done) ∙ ap (dones_at object) (sym back.done))

  at-object : IsWritten object (logs_upto old n) (logs_upto new n) (log_with old.done object back.was) (log_with new.done object (undone back.was gone_from))
  at-object = written object n old new back.was (undone back.was gone_from) inside back.changes

  pub back-others : (other : ℕ) → other ≢ object → slot_at (logs_upto new n) other ≡ slot_at (logs_upto old n) other
  back-others other apart = at-object.others other apart

  -- the front of each object's log is left
  pub back-left : (other : ℕ) → IsFrontLeft (logs_upto old n) (logs_upto new n) other
  back-left other = by_test (eqb other object) refl
    where
      own : IsCut object (logs_upto old n) (logs_upto new n)
      own = record {
        state = back.was;
        all = dones_at object old.done;
        left = dones_at object new.done;
        gone = gone_from;
        parts = back-parts;
        was = at-object.was;
        now = at-object.becomes;
        here = here;
        stays = at-object.here;
      }

      by_test : (b : Bool) → eqb other object ≡ b → IsFrontLeft (logs_upto old n) (logs_upto new n) other
      by_test true h =
          let P : ℕ → Type 0 = IsFrontLeft (logs_upto old n) (logs_upto new n) in
          subst P (sym (eqb-true other object h)) (left-cut (logs_upto old n) (logs_upto new n) object own)
      by_test false h = left-same (logs_upto old n) (logs_upto new n) other (back-others other (eqb-false other object h))

  -- the events of the key's object that come before the key are left
  pub back-done : (log_at (logs_upto new n) object).done ≡ before_key key (log_at (logs_upto old n) object).done
  back-done =
      ap (λ (l : LogView). l.done) at-object.becomes
      ∙ ap (dones_at object) back.done ∙ rolled-own object key old.done
      ∙ ap (λ (l : LogView). before_key key l.done) (sym at-object.was)

-- all from a horizon on was undone
module _ (horizon : ℕ) (old new : EventLogView) (into : List Event) (back : HasUndoneFrom horizon old new into) (up : Ascends done_key old.done) where
  abbrev low : Done → Bool
  low d = nat_lt d.event.key.stamp horizon

  abbrev gone_at : ℕ → List Done
  gone_at object = filter (λ d. not (low d)) (dones_at object old.done)

  pub undone-own : (object : ℕ) → dones_at object new.done ≡ filter low (dones_at object old.done)
  undone-own object = ap (dones_at object) back.done ∙ low-at object low old.done

  pub undone-parts : (object : ℕ) → dones_at object old.done ≡ dones_at object new.done ++ gone_at object
  undone-parts object =
      front-split (λ k. nat_lt k.stamp horizon) (down-stamp horizon) (dones_at object old.done) (own-ascends object old.done up)
      ∙ ap (λ zs. zs ++ gone_at object) (sym (undone-own object))

  -- the front of each object's log is left
  pub undone-left : (n object : ℕ) → IsFrontLeft (logs_upto old n) (logs_upto new n) object
  unfolding log_at IsHere
  undone-left n object = by_test (ltb object n) refl
    where
      by_state : object < n → (was : Option ObjectState) → state_in old.objects object ≡ was → IsFrontLeft (logs_upto old n) (logs_upto new n) object
      by_state inside None is =
          left-same (logs_upto old n) (logs_upto new n) object
          (slot-is new n object inside ∙ ap (slot_of new.done object) (back.states object ∙ ap (undone_or horizon (dones_at object old.done)) is)
          ∙ sym (slot-is old n object inside ∙ ap (slot_of old.done object) is))
      by_state inside (Some s) is =
          let first : slot_at (logs_upto old n) object ≡ Some (log_with old.done object s) = slot-is old n object inside ∙ ap (slot_of old.done object) is in
          let last : slot_at (logs_upto new n) object ≡ Some (log_with new.done object (undone s (gone_at object))) =
          slot-is new n object inside ∙ ap (slot_of new.done object) (back.states object ∙ ap (undone_or horizon (dones_at object old.done)) is) in
          left-cut (logs_upto old n) (logs_upto new n) object (record {
            state = s;
            all = dones_at object old.done;
            left = dones_at object new.done;
            gone = gone_at object;
            parts = undone-parts object;
            was = ap log_or first;
            now = ap log_or last;
            here = ap is_some first;
            stays = ap is_some last;
          })

      by_test : (b : Bool) → ltb object n ≡ b → IsFrontLeft (logs_upto old n) (logs_upto new n) object
      by_test true h = by_state (ltb-true object n h) (state_in old.objects object) refl
      by_test false h = left-same (logs_upto old n) (logs_upto new n) object (slot-beyond new n object (ltb-false object n h) ∙ sym (slot-beyond old n object (ltb-false object n h)))
