-- How a bucket ends: at its horizon, at the limit, or at a fault.
use Rattle.std.proofs.lemmas.Bool.{and_right, or_from, or_right}
use Rattle.std.proofs.Common.{◌≡◌, ◌⊎◌, ℕ, ◌+◌, ◌-◌, ◌<◌, ◌≤◌, Bool, true, false, cond, ◌&&◌, ◌||◌, List, [], ◌∷◌, ◌++◌, length, take, drop, sym, refl, ap, ◌∙◌, subst, inl, inr, arith, eqb, ltb, eq-eqb, lt-ltb, le-ltb, ltb-false, ne_eqb, length-append}
use Rattle.std.proofs.lemmas.List.{append-nil, take_all}
use Rattle.std.proofs.Math.Seq.{take-append_seam}
use Rattle.std.specs.Prelude.{Some, None, is_some, if◌then◌else◌}
use Rattle.event_key.specs.declared.key.Key.{Key}
use Rattle.model_core.specs.declared.event.Event.{Event}
use Rattle.model_core.specs.declared.note.Note.{Note}
use Rattle.model_core.specs.Meaning.{Meaning}
use Rattle.sim_spec.specs.declared.bucket.Bucket.{Bucket}
use Rattle.sim_spec.specs.declared.terms.Terms.{Terms}
use Rattle.sim_spec.specs.Firing.{Firing, Fired, goes, fails}
use Rattle.key_order.specs.Pending.{enqueue_all}
use Rattle.sim_spec.specs.State.{State, Lawful}
use Rattle.sim_spec.specs.Horizon.{HorizonBucket, empty_bucket, bucket_below, horizon_bucket}
use Rattle.sim_spec.specs.Cut.{records_of, state_with_done, is_limited, committed_events, cut, after}
use Rattle.sim_spec.proofs.BucketInduction.{fire_at, bucket-late, bucket-fails, bucket-goes}
use Rattle.sim_spec.proofs.InTurnLemmas.{drop-front}
use Rattle.one_thread.specs.Turns.{NoneDue}
use Rattle.one_thread.proofs.Parts.{Parts, state_at, horizon_at, FailedAt, FullAt}
use Rattle.one_thread.proofs.BucketLemmas.{InBucket, behind, rest_of}

-- what a bucket comes to, with so many events left
abbrev cut_of : ℕ → HorizonBucket → Bucket
cut_of left b = record {
  done = records_of (take left b.done);
  horizon = if is_limited left b then 0 else (if is_some b.fault then 0 else b.horizon);
  fault = if is_limited left b then None else b.fault;
  limited = is_limited left b;
}

-- these events of it happen, and it is limited or not
record ComesTo (left : ℕ) (b : HorizonBucket) (ds : List (Event × Firing)) (limited : Bool) : Type 0 where
  happen : take left b.done ≡ ds
  is_cut : is_limited left b ≡ limited

cut_as : (left : ℕ) (b : HorizonBucket) (ds : List (Event × Firing)) (limited : Bool) → ComesTo left b ds limited → cut_of left b ≡ record {
  done = records_of ds;
  horizon = cond limited 0 (cond (is_some b.fault) 0 b.horizon);
  fault = cond limited None b.fault;
  limited = limited;
}
cut_as left b ds limited comes i = record {
  done = records_of (comes.happen i);
  horizon = cond (comes.is_cut i) 0 (cond (is_some b.fault) 0 b.horizon);
  fault = cond (comes.is_cut i) None b.fault;
  limited = comes.is_cut i;
}

-- a whole bucket
whole_comes : (left h : ℕ) (ds : List (Event × Firing)) → length ds ≤ left → ComesTo left (record { done = ds; horizon = h; fault = None }) ds false
unfolding is_limited
whole_comes left h ds few = record {
  happen = take_all left ds few;
  is_cut = or_from (ltb left (length ds)) (eqb left (length ds) && false) (le-ltb _ _ few) (and_right (eqb left (length ds)) false refl);
}

-- one that ends at a fault
fault_comes : (left h : ℕ) (ds : List (Event × Firing)) (fault : Key × ℕ) → length ds < left → ComesTo left (record { done = ds; horizon = h; fault = Some fault }) ds false
unfolding is_limited
fault_comes left h ds fault few = record {
  happen = take_all left ds (omega arith);
  is_cut = or_from (ltb left (length ds)) (eqb left (length ds) && true) (le-ltb _ _ (omega arith)) (ap (λ b. b && true) (ne_eqb left (length ds) (λ same. omega arith)));
}

-- there is an event or a fault
abbrev GoesOn : HorizonBucket → Type 0
GoesOn b = (0 < length b.done) ⊎ (is_some b.fault ≡ true)

take_front : (left : ℕ) (ds more : List (Event × Firing)) → left ≡ length ds → take left (ds ++ more) ≡ ds
take_front left ds more is_left = ap (λ n. take n (ds ++ more)) is_left ∙ take-append_seam ds more

-- one that the limit cuts
limit_comes : (left : ℕ) (ds : List (Event × Firing)) (b : HorizonBucket) → left ≡ length ds → GoesOn b → ComesTo left (behind ds b) ds true
unfolding is_limited
limit_comes left ds b is_left more = record {
  happen = take_front left ds b.done is_left;
  is_cut = elim more [ inl some ↦ by_event some | inr fault ↦ by_fault fault (ltb left (length (ds ++ b.done))) refl ];
}
  where
    long : length (ds ++ b.done) ≡ length ds + length b.done
    long = length-append ds b.done

    by_event : 0 < length b.done → (ltb left (length (ds ++ b.done)) || (eqb left (length (ds ++ b.done)) && is_some b.fault)) ≡ true
    by_event some = let l = long in ap (λ a. a || (eqb left (length (ds ++ b.done)) && is_some b.fault)) (lt-ltb left (length (ds ++ b.done)) (omega arith))

    by_fault : is_some b.fault ≡ true → (a : Bool) → ltb left (length (ds ++ b.done)) ≡ a → (ltb left (length (ds ++ b.done)) || (eqb left (length (ds ++ b.done)) && is_some b.fault)) ≡ true
    by_fault fault true is_a = ap (λ a. a || (eqb left (length (ds ++ b.done)) && is_some b.fault)) is_a
    by_fault fault false is_a =
        let l = long in
        let no = ltb-false left (length (ds ++ b.done)) is_a in
        (λ i. ltb left (length (ds ++ b.done)) || (eq-eqb left (length (ds ++ b.done)) (omega arith) i && fault i)) ∙ or_right (ltb left (length (ds ++ b.done))) true refl

-- the state in the end
state_done : (m : Meaning) (t : Terms) (s : State) (told : List (Key × Note)) (c : Parts) (so_far : InBucket m t s told c) → state_at c ≡ state_with_done s so_far.done
unfolding state_with_done
state_done m t s told c so_far =
    let left : c.primary ≡ drop (length so_far.done) s.pending = sym (ap (drop (length so_far.done)) so_far.pending ∙ drop-front so_far.done c.primary) in
    λ i. record { objects = so_far.objects i; pending = enqueue_all (so_far.fresh i) (left i); count = so_far.count i }

ends_at : (m : Meaning) (t : Terms) (s : State) (told : List (Key × Note)) (c : Parts) (so_far : InBucket m t s told c) (b : HorizonBucket) (limited : Bool)
    → horizon_bucket m t s ≡ b → ComesTo (t.limit - s.count) b so_far.done limited → state_at c ≡ after m t s
unfolding after committed_events
ends_at m t s told c so_far b limited is_b comes =
    state_done m t s told c so_far ∙ ap (state_with_done s) (sym (ap (λ (b : HorizonBucket). take (t.limit - s.count) b.done) is_b ∙ comes.happen))

cut_at : (m : Meaning) (t : Terms) (s : State) (b : HorizonBucket) → horizon_bucket m t s ≡ b → cut m t s ≡ cut_of (t.limit - s.count) b
unfolding cut committed_events
cut_at m t s b is_b = ap (cut_of (t.limit - s.count)) is_b

-- what a bucket comes to, and the state that it leaves
pub record Ends (m : Meaning) (t : Terms) (s : State) (bucket : Bucket) (c : Parts) : Type 0 where
  pub is_cut : bucket ≡ cut m t s
  pub is_after : state_at c ≡ after m t s
  pub lawful : Lawful m t (state_at c)

ends : (m : Meaning) (t : Terms) (s : State) (told : List (Key × Note)) (c : Parts) (so_far : InBucket m t s told c) (b : HorizonBucket) (limited : Bool) (bucket : Bucket)
    → horizon_bucket m t s ≡ b → ComesTo (t.limit - s.count) b so_far.done limited
    → bucket ≡ record { done = records_of so_far.done; horizon = cond limited 0 (cond (is_some b.fault) 0 b.horizon); fault = cond limited None b.fault; limited = limited }
    → Ends m t s bucket c
ends m t s told c so_far b limited bucket is_b comes is_bucket = record {
  is_cut = is_bucket ∙ sym (cut_as (t.limit - s.count) b so_far.done limited comes) ∙ sym (cut_at m t s b is_b);
  is_after = ends_at m t s told c so_far b limited is_b comes;
  lawful = so_far.lawful;
}

nothing_left : (m : Meaning) (t : Terms) (c : Parts) (h : ℕ) → h ≡ horizon_at t c → NoneDue h c.primary → rest_of m t c ≡ empty_bucket h
unfolding bucket_below
nothing_left m t c h is_h none = ap (λ h. bucket_below m h c.objects c.primary) (sym is_h) ∙ by_first c.primary none
  where
    by_first : (es : List Event) → NoneDue h es → bucket_below m h c.objects es ≡ empty_bucket h
    by_first [] none = refl
    by_first (e ∷ es) late = bucket-late m h c.objects e es late

pub ends_whole : (m : Meaning) (t : Terms) (s : State) (told : List (Key × Note)) (c : Parts) (h : ℕ) (bucket : Bucket) → InBucket m t s told c → h ≡ horizon_at t c → NoneDue h c.primary
    → bucket ≡ record { done = told; horizon = h; fault = None; limited = false } → Ends m t s bucket c
ends_whole m t s told c h bucket so_far is_h none is_bucket =
    let ds = so_far.done in
    let count = so_far.count in
    let most = so_far.lawful.count in
    ends m t s told c so_far (record { done = ds; horizon = h; fault = None }) false bucket
    (so_far.bucket ∙ ap (behind ds) (nothing_left m t c h is_h none) ∙ (λ i. record { done = append-nil ds i; horizon = h; fault = None }))
    (whole_comes (t.limit - s.count) h ds (omega arith))
    (is_bucket ∙ (λ i. record { done = so_far.told_is i; horizon = h; fault = None; limited = false }))

pub ends_faulted : (m : Meaning) (t : Terms) (s : State) (told : List (Key × Note)) (c : Parts) (key : Key) (code : ℕ) (bucket : Bucket) → InBucket m t s told c → FailedAt m t c key code
    → bucket ≡ record { done = told; horizon = 0; fault = Some (key, code); limited = false } → Ends m t s bucket c
ends_faulted m t s told c key code bucket so_far failed is_bucket =
    let ds = so_far.done in
    let h = horizon_at t c in
    let e = failed.event in
    let count = so_far.count in
    let free = failed.free in
    ends m t s told c so_far (record { done = ds; horizon = h; fault = Some (e.key, code) }) false bucket
    (so_far.bucket ∙ ap (behind ds) (ap (bucket_below m h c.objects) failed.due.first ∙ bucket-fails m h c.objects e failed.rest code failed.due.early failed.fires)
    ∙ (λ i. record { done = append-nil ds i; horizon = h; fault = Some (e.key, code) }))
    (fault_comes (t.limit - s.count) h ds (e.key, code) (omega arith))
    (is_bucket ∙ (λ i. record { done = so_far.told_is i; horizon = 0; fault = Some (failed.key_is i, code); limited = false }))

more_due : (m : Meaning) (t : Terms) (c : Parts) → FullAt t c → GoesOn (rest_of m t c)
more_due m t c full = by_fired (fire_at m c.objects full.event) refl
  where
    by_fired : (f : Fired) → fire_at m c.objects full.event ≡ f → GoesOn (rest_of m t c)
    by_fired (fails code) is_f =
        let Q : HorizonBucket → Type 0 = GoesOn in
        subst Q (sym (ap (bucket_below m (horizon_at t c) c.objects) full.due.first ∙ bucket-fails m (horizon_at t c) c.objects full.event full.rest code full.due.early is_f)) (inr refl)
    by_fired (goes x) is_f =
        let Q : HorizonBucket → Type 0 = GoesOn in
        subst Q (sym (ap (bucket_below m (horizon_at t c) c.objects) full.due.first ∙ bucket-goes m (horizon_at t c) c.objects full.event full.rest x full.due.early is_f)) (inl (omega arith))

pub ends_limited : (m : Meaning) (t : Terms) (s : State) (told : List (Key × Note)) (c : Parts) (bucket : Bucket) → InBucket m t s told c → FullAt t c
    → bucket ≡ record { done = told; horizon = 0; fault = None; limited = true } → Ends m t s bucket c
ends_limited m t s told c bucket so_far full is_bucket =
    let ds = so_far.done in
    let count = so_far.count in
    let most = full.full in
    ends m t s told c so_far (behind ds (rest_of m t c)) true bucket so_far.bucket
    (limit_comes (t.limit - s.count) ds (rest_of m t c) (omega arith) (more_due m t c full))
    (is_bucket ∙ (λ i. record { done = so_far.told_is i; horizon = 0; fault = None; limited = true }))
