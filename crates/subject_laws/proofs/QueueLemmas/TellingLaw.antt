-- Being quiet or traced changes notes alone.
use Rattle.std.proofs.Common.{◌≡◌, ℕ, ◌+◌, ◌-◌, ◌≤◌, Bool, true, false, List, length, map, refl, sym, ap, ◌∙◌, subst, arith, ltb, ltb-true, ltb-false}
use Rattle.std.specs.Prelude.{filter, nat_lt, if◌then◌else◌, slice_index}
use Rattle.std.specs.List.{range_with_len}
use Rattle.std.proofs.lemmas.List.{get_or-map, get_or_past, length-map}
use Rattle.model_core.specs.Meaning.{Meaning}
use Rattle.model_core.specs.Words.{record_word, fault_word}
use Rattle.sim_spec.specs.declared.stop.Stop.{Stop}
use Rattle.sim_spec.specs.declared.terms.Terms.{Terms}
use Rattle.sim_spec.specs.State.{State}
use Rattle.sim_spec.specs.Run.{Next, stops, next}
use Rattle.queue_models.specs.Kinds.{is_lawful, effect_at, first_cells_of, first_time_of, is_source}
use Rattle.queue_models.specs.Meaning.{plain_meaning, network_meaning, start_of, job_start}
use Rattle.queue_models.specs.Objects.{Item, NetworkParts, object_at, no_object, sources_below}
use Rattle.run_laws.specs.Reached.{after_events}
use Rattle.subject_laws.specs.TellingLaws.{key_told, first_keys, DifferInNotes, PlainRunsDifferInNotes, plain_object, TellingChangesNotesAlone}
use Rattle.subject_laws.proofs.QueueLemmas.PlainRuns.{SameNext, both_stop, both_do, same_next, same_after, same_gathered}

same_key : (p : NetworkParts) (s : State) (one other : Next) → SameNext p one other → key_told s one ≡ key_told s other
same_key p s one other (both_stop stop) = refl
same_key p s one other (both_do key cells x after) = refl

same_keys : (p : NetworkParts) (t : Terms) (n : ℕ) → first_keys n (network_meaning p) t ≡ first_keys n (plain_meaning p) t
same_keys p t n = same_gathered p t key_told key_told (λ s. same_key p s _ _ (same_next p t s)) n

pub stops_too : (p : NetworkParts) (one other : Next) (stop : Stop) → SameNext p one other → one ≡ stops stop → other ≡ stops stop
stops_too p one other stop (both_stop why) is = is
stops_too p one other stop (both_do key cells x after) is = absurd (cc)

pub stops_first : (p : NetworkParts) (one other : Next) (stop : Stop) → SameNext p one other → other ≡ stops stop → one ≡ stops stop
stops_first p one other stop (both_stop why) is = is
stops_first p one other stop (both_do key cells x after) is = absurd (cc)

pub plain_differs : PlainRunsDifferInNotes
plain_differs p t n = record {
  events = same_keys p t n;
  state = same_after p t n;
  stop = λ stop.
      let s : State = after_events n (network_meaning p) t in
      let same : next (plain_meaning p) t s ≡ next (plain_meaning p) t (after_events n (plain_meaning p) t) = ap (next (plain_meaning p) t) (same_after p t n) in (
        λ is. sym same ∙ stops_too p _ _ stop (same_next p t s) is,
        λ is. stops_first p _ _ stop (same_next p t s) (same ∙ is),
      );
}

-- a network with no object quiet or traced
plain_parts : NetworkParts → NetworkParts
plain_parts p = record { seed = p.seed; objects = map plain_object p.objects; jobs = p.jobs }

plain_at : (objects : List Item) (i : ℕ) → plain_object (object_at objects i) ≡ object_at (map plain_object objects) i
plain_at objects i = by (ltb i (length objects)) refl
  where
    by : (inside : Bool) → ltb i (length objects) ≡ inside → plain_object (object_at objects i) ≡ object_at (map plain_object objects) i
    by true inside = sym (get_or-map plain_object objects i no_object no_object (ltb-true i (length objects) inside))
    by false inside =
        let past : length objects ≤ i = ltb-false i (length objects) inside in
        let long : length (map plain_object objects) ≡ length objects = length-map objects plain_object in
        ap plain_object (get_or_past objects i no_object past) ∙ sym (get_or_past (map plain_object objects) i no_object (omega arith))

-- it means the same
same_meaning : (p : NetworkParts) → plain_meaning p ≡ plain_meaning (plain_parts p)
unfolding plain_meaning network_meaning start_of sources_below plain_parts
same_meaning p =
    let long : length p.objects ≡ length (map plain_object p.objects) = sym (length-map p.objects plain_object) in
    let at : (i : ℕ) → plain_object (object_at p.objects i) ≡ object_at (map plain_object p.objects) i = plain_at p.objects in
    λ j.
    let sources : List ℕ = filter (λ number. is_source (at number j).kind) (range_with_len 0 (long j)) in
    record {
      objects = long j;
      lawful = λ object cells. is_lawful (at object j).kind cells;
      effect = λ object cells event. effect_at (record { seed = p.seed; object = object; rank = (at object j).rank }) (at object j).kind cells event;
      first = λ object. first_cells_of (at object j).kind;
      starts = length sources + length p.jobs;
      start_at = λ i.
          if nat_lt i (length sources)
          then record {
            time = first_time_of (at (slice_index sources i) j).kind;
            dest = slice_index sources i;
            kind = 1;
            a = 0;
            b = 0;
            rank = (at (slice_index sources i) j).rank;
          }
          else job_start p (i - length sources);
      label = λ object. (at object j).name;
      word = record_word;
      fault = fault_word;
    }

pub telling_changes_notes : TellingChangesNotesAlone
unfolding plain_parts
telling_changes_notes p q t n differ =
    let parts : plain_parts p ≡ plain_parts q = λ j. record { seed = differ.seed j; objects = differ.objects j; jobs = differ.jobs j } in
    let same : plain_meaning p ≡ plain_meaning q = same_meaning p ∙ ap plain_meaning parts ∙ sym (same_meaning q) in
    let one : DifferInNotes (network_meaning p) (plain_meaning p) t n = plain_differs p t n in
    let M : Meaning → Type 0 = λ m. DifferInNotes (network_meaning q) m t n in
    let other : DifferInNotes (network_meaning q) (plain_meaning p) t n = subst M (sym same) (plain_differs q t n) in
    record {
      events = one.events ∙ sym other.events;
      state = one.state ∙ sym other.state;
      stop = λ stop. let a = one.stop stop in let b = other.stop stop in (λ is. b.1 (a.0 is), λ is. a.1 (b.0 is));
    }
