-- The keys of all processed events below the bound, cut at the least fault, are those of the bucket.
use Rattle.std.proofs.Common.{Bool, List, [], ap, arith, cond, eqb, false, inl, inr, length, ltb, ltb-false, ltb-true, ne_eqb, refl, subst, sym, true, ℕ, ◌++◌, ◌-◌, ◌<◌, ◌∙◌, ◌∷◌, ◌≡◌, ◌≤◌, ◌⊎◌}
use Rattle.std.proofs.lemmas.List.{append-nil}
use Rattle.std.proofs.lemmas.List.Elements.{filter-append}
use Rattle.std.specs.List.{AllByRecursion as Each}
use Rattle.std.specs.Prelude.{filter}
use Rattle.event_key.specs.declared.key.Key.{Key}
use Rattle.model_core.specs.Meaning.{Meaning}
use Rattle.model_core.specs.declared.event.Event.{Event}
use Rattle.sim_spec.specs.Cut.{events_of}
use Rattle.sim_spec.specs.Horizon.{horizon_bucket}
use Rattle.key_order.specs.Ascending.{IsAscending, key_of}
use Rattle.sim_spec.specs.Replay.{done_at, events_at}
use Rattle.sim_spec.specs.State.{Lawful, State}
use Rattle.sim_spec.specs.declared.terms.Terms.{Terms}
use Rattle.key_order.proofs.EachLemmas.{Each-front, Each-take}
use Rattle.sim_spec.proofs.HorizonLaw.{horizon_law}
use Rattle.sim_spec.proofs.PartLemmas.{AllSound-dest, Each-events_at}
use Rattle.world_spec.specs.Answer.{AreKeysBelow, keys_of}
use Rattle.world_spec.specs.Closed.{fault_key}
use Rattle.world_spec.specs.Early.{IsClosed, RunsAhead, early_events}
use Rattle.key_order.specs.Due.{is_due, is_uncut}
use Rattle.key_order.proofs.AscendingLemmas.{Ascends-filter, Ascends-map, Ascends-prefix}
use Rattle.key_order.proofs.OrderLemmas.{by-objects}
use Rattle.world_spec.proofs.ClosedFacts.{behind_bucket}
use Rattle.world_spec.proofs.ClosedLaw.{behind_stays, bucket_due, bucket_processed}
use Rattle.key_order.proofs.FilterLemmas.{filter-all, filter-both, filter-map, filter-none, filter-swap}
use Rattle.world_spec.proofs.ProcessedLemmas.{events-split, further_events}

no_events_at : (n object : ℕ) (es : List Event) → n ≤ object → Each (λ (e : Event). e.key.dest < n) es → events_at object es ≡ []
unfolding events_at
no_events_at n object [] far all = refl
no_events_at n object (e ∷ es) far all =
    let lt : e.key.dest < n = all.0 in
    let other : eqb e.key.dest object ≡ false = ne_eqb e.key.dest object (λ same. omega arith) in
    ap (λ b. cond b (e ∷ events_at object es) (events_at object es)) other ∙ no_events_at n object es far all.1

keys_at : (object : ℕ) (es : List Event) → filter (λ (k : Key). eqb k.dest object) (keys_of es) ≡ keys_of (events_at object es)
unfolding events_at
keys_at object es = filter-map (λ (e : Event). e.key) (λ (k : Key). eqb k.dest object) es

-- the keys of the processed events below the bound, cut at the least fault, are the keys of the bucket
pub bucket-keys : (m : Meaning) (t : Terms) (s : State) (ahead : ℕ → ℕ) (bound : ℕ) (keys : List Key) → Lawful m t s → RunsAhead m t s ahead → IsClosed m t s ahead bound → AreKeysBelow m s ahead bound keys
    → filter (is_uncut (fault_key (horizon_bucket m t s).fault)) keys ≡ keys_of (events_of (horizon_bucket m t s).done)
unfolding is_due
bucket-keys m t s ahead bound keys lawful runs closed below =
    let cut = fault_key (horizon_bucket m t s).fault in
    let done = (horizon_bucket m t s).done in
    let rest = behind_bucket m t s in
    let split = (horizon_law m t s lawful).first in
    let P : List Event → Type 0 = Each (λ (e : Event). e.key.dest < m.objects) in
    let dests : Each (λ (e : Event). e.key.dest < m.objects) (events_of done) = Each-front (λ (e : Event). e.key.dest < m.objects) (events_of done) rest (subst P split (AllSound-dest m s.objects s.pending lawful.sound)) in
    let U : List Event → Type 0 = IsAscending in
    let up : IsAscending (events_of done) = Ascends-prefix key_of (events_of done) rest (subst U split lawful.ordered) in
    by-objects (λ (k : Key). k) (filter (is_uncut cut) keys) (keys_of (events_of done)) (Ascends-filter (λ (k : Key). k) (is_uncut cut) keys below.ordered) (Ascends-map (λ (k : Key). k) (λ (e : Event). e.key) (events_of done) up)
    (λ object. elim (inside_or object m.objects) [
      | inl low ↦ (
          let p = bucket_processed m t s ahead bound lawful runs closed object low in
          let first = events_at object (events_of done) in
          let rest_here = further_events m t s done rest object (ahead object) in
          filter-swap (λ (k : Key). eqb k.dest object) (is_uncut cut) keys
          ∙ ap (filter (is_uncut cut)) (below.parts object low)
          ∙ (filter-map (λ (e : Event). e.key) (is_uncut cut) (filter (λ (e : Event). ltb e.key.stamp bound) (early_events s object (ahead object)))
          ∙ ap keys_of (filter-both (λ (e : Event). is_uncut cut e.key) (λ (e : Event). ltb e.key.stamp bound) (early_events s object (ahead object))))
          ∙ ap (λ es. keys_of (filter (λ (e : Event). is_due bound cut e.key) es)) (events-split m t s done rest object (ahead object) p)
          ∙ ap keys_of (filter-append (λ (e : Event). is_due bound cut e.key) first rest_here)
          ∙ ap (λ es. keys_of (filter (λ (e : Event). is_due bound cut e.key) first ++ es)) (filter-none (λ (e : Event). is_due bound cut e.key) rest_here
          (Each-take (λ (e : Event). is_due bound cut e.key ≡ false) (ahead object - length (done_at object done)) (events_at object rest) (Each-events_at (λ (e : Event). is_due bound cut e.key ≡ false) object rest (behind_stays m t s ahead bound lawful runs closed))))
          ∙ ap keys_of (append-nil (filter (λ (e : Event). is_due bound cut e.key) first))
          ∙ ap keys_of (filter-all (λ (e : Event). is_due bound cut e.key) first (Each-events_at (λ (e : Event). is_due bound cut e.key ≡ true) object (events_of done) (bucket_due m t s ahead bound lawful runs closed)))
          ∙ sym (keys_at object (events_of done)))
      | inr far ↦ (
          filter-swap (λ (k : Key). eqb k.dest object) (is_uncut cut) keys
          ∙ ap (filter (is_uncut cut)) (below.inside object far)
          ∙ sym (keys_at object (events_of done) ∙ ap keys_of (no_events_at m.objects object (events_of done) far dests)))
    ])
  where
    inside_or : (i n : ℕ) → (i < n) ⊎ (n ≤ i)
    inside_or i n = by_test (ltb i n) refl
      where
        by_test : (b : Bool) → ltb i n ≡ b → (i < n) ⊎ (n ≤ i)
        by_test true h = inl (ltb-true i n h)
        by_test false h = inr (ltb-false i n h)
