-- A bucket by its events so far: what is done, and the bucket from here.
use Rattle.std.proofs.Common.{◌≡◌, ◌+◌, List, [], ◌∷◌, ◌++◌, length, sym, refl, ap, ◌∙◌, subst, arith, length-append, append_assoc}
use Rattle.std.specs.Prelude.{slice_set}
use Rattle.event_key.specs.declared.key.Key.{Key}
use Rattle.event_key.specs.Stamps.{end_stamp}
use Rattle.model_core.specs.declared.event.Event.{Event}
use Rattle.model_core.specs.declared.note.Note.{Note}
use Rattle.model_core.specs.Meaning.{Meaning, MeaningLaws}
use Rattle.sim_spec.specs.declared.terms.Terms.{Terms}
use Rattle.sim_spec.specs.Firing.{ObjectState, Firing}
use Rattle.key_order.specs.Pending.{enqueue_all}
use Rattle.sim_spec.specs.State.{State, Lawful}
use Rattle.sim_spec.specs.Run.{next_fired}
use Rattle.sim_spec.specs.Horizon.{HorizonBucket, bucket_with, bucket_below, horizon_bucket}
use Rattle.key_order.specs.Stamps.{least_stamp}
use Rattle.sim_spec.specs.Cut.{events_of, records_of, emissions_of, objects_after}
use Rattle.sim_spec.proofs.BucketInduction.{bucket-goes}
use Rattle.sim_spec.proofs.LawfulLemmas.{next-lawful}
use Rattle.sim_spec.proofs.PartLemmas.{events_of-append, records_of-append, emissions_of-more}
use Rattle.key_order.proofs.EnqueueLemmas.{enqueue_all-append, enqueue_all-behind}
use Rattle.sim_spec.proofs.RunLemmas.{next-fires}
use Rattle.key_order.proofs.StampLemmas.{after-below, NoneBelow-least_stamp, least_stamp-le, least_stamp-append}
use Rattle.one_thread.proofs.Parts.{Parts, state_at, horizon_at, DoneAt}

-- a bucket behind events that are done
abbrev pub behind : List (Event × Firing) → HorizonBucket → HorizonBucket
behind ds b = record b { done = ds ++ b.done }

-- the bucket from here on
abbrev pub rest_of : Meaning → Terms → Parts → HorizonBucket
rest_of m t c = bucket_below m (horizon_at t c) c.objects c.primary

-- a bucket of a state under way: these events are done, and told so
pub record InBucket (m : Meaning) (t : Terms) (s : State) (told : List (Key × Note)) (c : Parts) : Type 0 where
  pub done : List (Event × Firing)
  pub told_is : told ≡ records_of done
  pub bucket : horizon_bucket m t s ≡ behind done (rest_of m t c)
  pub objects : c.objects ≡ objects_after s.objects done
  pub pending : s.pending ≡ events_of done ++ c.primary
  pub fresh : c.fresh ≡ emissions_of done
  pub count : c.count ≡ s.count + length done
  pub lawful : Lawful m t (state_at c)

-- at its start
pub starts : (m : Meaning) (t : Terms) (s : State) (told : List (Key × Note)) (c : Parts) → told ≡ [] → state_at c ≡ s → c.fresh ≡ [] → Lawful m t s → InBucket m t s told c
unfolding horizon_bucket objects_after emissions_of enqueue_all least_stamp
starts m t s told c no_told is_s no_fresh lawful =
    let objects : c.objects ≡ s.objects = ap (λ (s : State). s.objects) is_s in
    let pending : c.primary ≡ s.pending = ap (λ es. enqueue_all es c.primary) (sym no_fresh) ∙ ap (λ (s : State). s.pending) is_s in
    let count : c.count ≡ s.count = ap (λ (s : State). s.count) is_s in
    let horizon : horizon_at t c ≡ end_stamp t.end = ap (least_stamp (end_stamp t.end)) no_fresh in
    let P : State → Type 0 = Lawful m t in
    record {
      done = [];
      told_is = no_told;
      bucket = sym (λ i. bucket_below m (horizon i) (objects i) (pending i));
      objects = objects;
      pending = sym pending;
      fresh = no_fresh;
      count = omega arith;
      lawful = subst P (sym is_s) lawful;
    }

objects_after-append : (objects : List ObjectState) (ds : List (Event × Firing)) (d : Event × Firing) → objects_after objects (ds ++ d ∷ []) ≡ slice_set (objects_after objects ds) d.0.key.dest d.1.state
unfolding objects_after
objects_after-append objects [] d = refl
objects_after-append objects (x ∷ ds) d = objects_after-append (slice_set objects x.0.key.dest x.1.state) ds d

-- the event that is due comes next, and leaves a lawful state
lawful_done : (m : Meaning) (t : Terms) (c : Parts) (key : Key) (note : Note) (new : Parts) → MeaningLaws m → Lawful m t (state_at c) → DoneAt m t c key note new → Lawful m t (state_at new)
unfolding next_fired
lawful_done m t c key note new laws lawful one =
    let e = one.went.event in
    let x = one.went.firing in
    let h = horizon_at t c in
    let early = one.went.due.early in
    let le = least_stamp-le (end_stamp t.end) c.fresh in
    let free = one.went.free in
    let first : enqueue_all c.fresh c.primary ≡ e ∷ enqueue_all c.fresh one.went.rest =
    ap (enqueue_all c.fresh) one.went.due.first ∙ enqueue_all-behind c.fresh e one.went.rest (after-below h e.key c.fresh (NoneBelow-least_stamp (end_stamp t.end) c.fresh) early) in
    let s = state_at c in
    let is_next = next-fires m t s e (enqueue_all c.fresh one.went.rest) first (omega arith) (λ full. omega arith) ∙ ap (next_fired s e (enqueue_all c.fresh one.went.rest)) one.went.fires in
    let left = next-lawful m t s (e.key, x.note) _ laws lawful is_next in
    let same : record { objects = slice_set c.objects e.key.dest x.state; pending = enqueue_all x.events (enqueue_all c.fresh one.went.rest); count = c.count + 1 } ≡ state_at new =
    (λ i. record { objects = slice_set c.objects e.key.dest x.state; pending = sym (enqueue_all-append c.fresh x.events one.went.rest) i; count = c.count + 1 }) ∙ ap state_at (sym one.after) in
    let P : State → Type 0 = Lawful m t in
    subst P same left

-- one event more
pub goes_on : (m : Meaning) (t : Terms) (s : State) (told now : List (Key × Note)) (c new : Parts) (key : Key) (note : Note) → MeaningLaws m
    → InBucket m t s told c → DoneAt m t c key note new → now ≡ told ++ (key, note) ∷ [] → InBucket m t s now new
goes_on m t s told now c new key note laws so_far one is_now =
    let e = one.went.event in
    let x = one.went.firing in
    let d : Event × Firing = (e, x) in
    let ds = so_far.done in
    let h = horizon_at t c in
    let objects : new.objects ≡ slice_set c.objects e.key.dest x.state = ap (λ (c : Parts). c.objects) one.after in
    let primary : new.primary ≡ one.went.rest = ap (λ (c : Parts). c.primary) one.after in
    let fresh : new.fresh ≡ c.fresh ++ x.events = ap (λ (c : Parts). c.fresh) one.after in
    let count : new.count ≡ c.count + 1 = ap (λ (c : Parts). c.count) one.after in
    let horizon : least_stamp h x.events ≡ horizon_at t new = sym (least_stamp-append (end_stamp t.end) c.fresh x.events) ∙ ap (least_stamp (end_stamp t.end)) (sym fresh) in
    let rest : rest_of m t c ≡ bucket_with d (rest_of m t new) =
    ap (bucket_below m h c.objects) one.went.due.first ∙ bucket-goes m h c.objects e one.went.rest x one.went.due.early one.went.fires
    ∙ (λ i. bucket_with d (bucket_below m (horizon i) (sym objects i) (sym primary i))) in
    let long = length-append ds (d ∷ []) in
    let was = so_far.count in
    record {
      done = ds ++ d ∷ [];
      told_is = is_now ∙ (λ i. so_far.told_is i ++ (one.went.key_is i, one.went.note_is i) ∷ []) ∙ sym (records_of-append ds (d ∷ []));
      bucket = so_far.bucket ∙ ap (behind ds) rest ∙ (λ i. record (rest_of m t new) { done = sym (append_assoc ds (d ∷ []) (rest_of m t new).done) i });
      objects = objects ∙ ap (λ os. slice_set os e.key.dest x.state) so_far.objects ∙ sym (objects_after-append s.objects ds d);
      pending = so_far.pending ∙ ap (λ es. events_of ds ++ es) (one.went.due.first ∙ ap (λ es. e ∷ es) (sym primary))
          ∙ sym (append_assoc (events_of ds) (e ∷ []) new.primary) ∙ ap (λ es. es ++ new.primary) (sym (events_of-append ds (d ∷ [])));
      fresh = fresh ∙ ap (λ es. es ++ x.events) so_far.fresh ∙ sym (emissions_of-more ds d);
      count = omega arith;
      lawful = lawful_done m t c key note new laws so_far.lawful one;
    }
