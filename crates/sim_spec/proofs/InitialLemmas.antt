-- A simulation begins in a lawful state.
use Rattle.std.proofs.Common.{◌≡◌, ℕ, zero, suc, ◌+◌, ◌*◌, ◌^◌, ◌<◌, ◌≤◌, List, [], map, sym, refl, subst, inl, arith}
use Rattle.std.specs.Prelude.{IsTrue}
use Rattle.std.specs.List.{range_with_len}
use Rattle.std.proofs.lemmas.List.FromFn.{length-map-range_with_len, get_or-map-range_with_len}
use Rattle.model_core.specs.declared.event.Event.{Event}
use Rattle.model_core.specs.Meaning.{Meaning, MeaningLaws, StartLaws}
use Rattle.sim_spec.specs.Firing.{ObjectState}
use Rattle.sim_spec.specs.declared.terms.Terms.{Terms}
use Rattle.key_order.specs.Pending.{enqueue, enqueue_all}
use Rattle.key_order.specs.Ascending.{IsAscending, Ascends}
use Rattle.sim_spec.specs.State.{Lawful, AllSound, object_at, no_object, first_object, start_event, initial_state}
use Rattle.key_order.proofs.EnqueueLemmas.{IsAscending-enqueue, length-enqueue_all, Each-enqueue}
use Rattle.key_order.specs.Serials.{SerialsBelow}
use Rattle.key_order.proofs.SerialLemmas.{new-serial, SerialsBelow-le}
use Rattle.sim_spec.proofs.SoundLemmas.{AllSound-enqueue_all}

starts_ascending : (m : Meaning) (a n : ℕ) (xs : List Event) → SerialsBelow 4294967295 a xs → IsAscending xs → IsAscending (enqueue_all (map (start_event m) (range_with_len a n)) xs)
unfolding enqueue_all
starts_ascending m a zero xs below up = up
starts_ascending m a (suc n) xs below up =
    starts_ascending m (a + 1) n (enqueue (start_event m a) xs)
    (Each-enqueue (λ (e : Event). e.key.src ≡ 4294967295 → e.key.serial < (a + 1)) (start_event m a) xs (λ _. omega arith) (SerialsBelow-le 4294967295 a (a + 1) xs (omega arith) below))
    (IsAscending-enqueue (start_event m a) xs (new-serial (start_event m a).key xs below) up)

starts_sound : (m : Meaning) (objects : List ObjectState) → MeaningLaws m → (a n : ℕ) → a + n ≤ m.starts → AllSound m objects (map (start_event m) (range_with_len a n))
unfolding AllSound
starts_sound m objects laws a zero room = tt
starts_sound m objects laws a (suc n) room = (
  let lawful : StartLaws m (m.start_at a) = laws.start a (omega arith) in record {
    dest = lawful.dest;
    time = (let early : (m.start_at a).time < 2 ^ 46 = lawful.time in omega arith);
    rank = lawful.rank;
    source = inl (refl, omega arith);
  },
  starts_sound m objects laws (a + 1) n (omega arith),
)

pub initial_state-lawful : (m : Meaning) (t : Terms) → MeaningLaws m → Lawful m t (initial_state m)
unfolding initial_state Ascends AllSound
initial_state-lawful m t laws =
    let objects = map (first_object m) (range_with_len 0 m.objects) in
    let at : (i : ℕ) → i < m.objects → object_at objects i ≡ first_object m i = λ i below. get_or-map-range_with_len (first_object m) 0 m.objects i i no_object below (omega arith) in
    record {
      objects = length-map-range_with_len (first_object m) 0 m.objects;
      cells = λ i below. let P : ObjectState → Type 0 = λ o. IsTrue (m.lawful i o.cells) in subst P (sym (at i below)) (laws.first i below);
      sent = λ i below. let P : ObjectState → Type 0 = λ o. o.sent ≤ 8 * 0 in subst P (sym (at i below)) (omega arith);
      ordered = starts_ascending m 0 m.starts [] tt tt;
      sound = AllSound-enqueue_all m objects (map (start_event m) (range_with_len 0 m.starts)) [] (starts_sound m objects laws 0 m.starts (omega arith)) tt;
      few = (let a = length-enqueue_all (map (start_event m) (range_with_len 0 m.starts)) [] in let b = length-map-range_with_len (start_event m) 0 m.starts in let c = laws.starts in omega arith);
      count = omega arith;
    }
