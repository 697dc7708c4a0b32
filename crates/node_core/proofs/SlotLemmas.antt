-- The logs of a node's objects, out of one list.
use Rattle.std.proofs.Common.{◌≡◌, ◌≢◌, ℕ, ◌<◌, ◌≤◌, zero, suc, Bool, true, false, List, [], ◌∷◌, ◌++◌, length, ltb, ltb-true, ltb-false, Option, Some, None, is_some, refl, sym, ap, ◌∙◌, arith, length-append}
use Rattle.std.proofs.lemmas.List.{get_or_past}
use Rattle.std.proofs.Math.ListN.{get_or-append}
use Rattle.std.proofs.Math.Seq.{get_or-append_seam}
use Rattle.sim_spec.specs.Firing.{ObjectState}
use Rattle.object_log.specs.Dones.{Done}
use Rattle.node_core.specs.Nodes.{IsHere, log_at, log_or, slot_at}
use Rattle.node_core.proofs.LogLemmas.{IsWritten}
use Rattle.object_log.specs.EventCalls.{ChangesAt}
use Rattle.object_log.specs.EventLogs.{EventLogView, dones_at, log_with, logs_upto, slot_in, slot_of, state_in}

pub length-logs : (log : EventLogView) (n : ℕ) → length (logs_upto log n) ≡ n
unfolding logs_upto
length-logs log zero = refl
length-logs log (suc n) = let more = length-logs log n in let long = length-append (logs_upto log n) (slot_in log n ∷ []) in omega arith

-- at an object's number stands its log
pub slot-is : (log : EventLogView) (n object : ℕ) → object < n → slot_at (logs_upto log n) object ≡ slot_in log object
unfolding logs_upto
slot-is log zero object lt = absurd (omega arith)
slot-is log (suc n) object lt = by_test (ltb object n) refl (λ below. slot-is log n object below)
  where
    by_test : (b : Bool) → ltb object n ≡ b → (object < n → slot_at (logs_upto log n) object ≡ slot_in log object) → slot_at (logs_upto log n ++ slot_in log n ∷ []) object ≡ slot_in log object
    by_test true h smaller =
        let below = ltb-true object n h in
        let long = length-logs log n in
        get_or-append (logs_upto log n) (slot_in log n ∷ []) None object (omega arith) ∙ smaller below
    by_test false h smaller =
        let ge = ltb-false object n h in
        let long = length-logs log n in
        let is : object ≡ length (logs_upto log n) = omega arith in
        let same : object ≡ n = omega arith in
        ap (slot_at (logs_upto log n ++ slot_in log n ∷ [])) is ∙ get_or-append_seam (logs_upto log n) (slot_in log n) [] None ∙ ap (slot_in log) (sym same)

pub slot-beyond : (log : EventLogView) (n object : ℕ) → n ≤ object → slot_at (logs_upto log n) object ≡ None
slot-beyond log n object ge = let long = length-logs log n in get_or_past (logs_upto log n) object None (omega arith)

pub slot-same : (old new : List Done) (object : ℕ) (s : Option ObjectState) → dones_at object new ≡ dones_at object old → slot_of new object s ≡ slot_of old object s
slot-same old new object None is = refl
slot-same old new object (Some s) is = ap (λ ds. Some (record { object = object; state = s; done = ds })) is

pub same-slots : (old new : EventLogView) (n other : ℕ) → slot_in new other ≡ slot_in old other → slot_at (logs_upto new n) other ≡ slot_at (logs_upto old n) other
same-slots old new n other is = by_test (ltb other n) refl
  where
    by_test : (b : Bool) → ltb other n ≡ b → slot_at (logs_upto new n) other ≡ slot_at (logs_upto old n) other
    by_test true h = let below = ltb-true other n h in slot-is new n other below ∙ is ∙ sym (slot-is old n other below)
    by_test false h = let ge = ltb-false other n h in slot-beyond new n other ge ∙ sym (slot-beyond old n other ge)

module _ (object n : ℕ) (old new : EventLogView) (was now : ObjectState) (inside : object < n) (changes : ChangesAt object old new was now) where
  -- so all that is known of one log among those of a node is known of one object here
  pub written : IsWritten object (logs_upto old n) (logs_upto new n) (log_with old.done object was) (log_with new.done object now)
  unfolding log_at IsHere
  written =
      let first : slot_at (logs_upto old n) object ≡ Some (log_with old.done object was) = slot-is old n object inside ∙ ap (slot_of old.done object) changes.before in
      let last : slot_at (logs_upto new n) object ≡ Some (log_with new.done object now) = slot-is new n object inside ∙ ap (slot_of new.done object) changes.after in
      record {
        was = ap log_or first;
        becomes = ap log_or last;
        here = ap is_some last;
        others = λ other apart. elsewhere other apart;
        long = length-logs new n ∙ sym (length-logs old n);
      }
    where
      elsewhere : (other : ℕ) → other ≢ object → slot_at (logs_upto new n) other ≡ slot_at (logs_upto old n) other
      elsewhere other apart = same-slots old new n other (ap (slot_of new.done other) (changes.states other apart) ∙ slot-same old.done new.done other (state_in old.objects other) (changes.dones other apart))
