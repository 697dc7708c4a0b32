-- Where a world stands in a simulation, by the keys of its nodes.
use Rattle.std.proofs.Common.{◌≡◌, ◌≢◌, ℕ, ◌<◌, ◌≤◌, Bool, true, false, ltb, ltb-true, ltb-false, List, [], ◌∷◌, ◌++◌, length, refl, sym, ap, ◌∙◌, subst, inl, inr, arith, eq-eqb}
use Rattle.std.specs.Prelude.{slice_get, Option, Some, None, Contains, filter, ◌==◌, Ok}
use Rattle.std.proofs.lemmas.Option.{slice_get_within}
use Rattle.event_key.specs.declared.key.Key.{Key}
use Rattle.event_key.specs.Keys.{key_lt}
use Rattle.event_key.specs.Stamps.{end_stamp}
use Rattle.event_key.proofs.Order.{key_lt-stamp, stamp-le}
use Rattle.model_core.specs.Meaning.{Meaning}
use Rattle.model_core.specs.declared.event.Event.{Event}
use Rattle.sim_spec.specs.declared.bucket.Bucket.{Bucket}
use Rattle.sim_spec.specs.Cut.{after, cut}
use Rattle.sim_spec.specs.declared.stop.Stop.{Stop}
use Rattle.sim_spec.specs.declared.stop.Stop.TheVariants.{End, Fault, Limit}
use Rattle.sim_spec.specs.Firing.{ObjectState}
use Rattle.sim_spec.specs.Replay.{events_at}
use Rattle.sim_spec.specs.Run.{next}
use Rattle.sim_spec.specs.Standing.{Standing, stands, spent, ended, end_or_limit, CycleGives, IsCountAt}
use Rattle.sim_spec.specs.State.{State, AllSound}
use Rattle.sim_spec.proofs.NextLemmas.{goes-on, stops-full, stops-late, stops-none}
use Rattle.key_order.specs.Ascending.{Ascends, key_of}
use Rattle.key_order.specs.Keys.{first_key}
use Rattle.key_order.proofs.MemberLemmas.{each-contains, filter-contains, first-or-later, is-first, none-in, contains-filter}
use Rattle.object_log.specs.Logs.{events_of}
use Rattle.world_spec.specs.Share.{IsHome, is_at}
use Rattle.node_core.specs.Calls.{IsLeastKeyOf}
use Rattle.node_core.specs.Homes.{home_of}
use Rattle.node_core.specs.Nodes.{NodeView, home, log_at, pending_at}
use Rattle.node_core.specs.Shares.{AreProcessedKeys}
use Rattle.cycle_core.specs.Gathered.{HasKeyOf, MayKeyOf, HaveEventBefore, HaveNoneBefore}
use Rattle.cycle_core.specs.Standings.{HasCycled, WorldStandsAt}
use Rattle.cycle_core.specs.Worlds.{IsSameWorld, WorldView, StandsAt}
use Rattle.cycle_core.proofs.CutLemmas.{none-kept}
use Rattle.cycle_core.proofs.PlaceLemmas.{at-some}
use Rattle.cycle_core.proofs.WorldLemmas.{home-there}

module _ {M : Type 0} (meaning_of : M → Meaning) (n : NodeView M) where
  -- if the least key isn't before a bound, no event is
  pub none-before : (bound : ℕ) (key : Key) → IsLeastKeyOf (meaning_of n.model) n (Some key) → bound ≤ key.stamp → (k : Key) → MayKeyOf meaning_of n k → bound ≤ k.stamp
  none-before bound key is late k may = by_test (ltb k.stamp key.stamp) refl
    where
      later : key_lt k key ≡ false
      later = let P : Key → Type 0 = λ j. key_lt j key ≡ false in subst P may.4 (is.1 may.0 may.1 may.2 may.3)

      by_test : (b : Bool) → ltb k.stamp key.stamp ≡ b → bound ≤ k.stamp
      by_test true h = absurd (let yes = key_lt-stamp k key (ltb-true k.stamp key.stamp h) in let no = later in cc)
      by_test false h = let from = ltb-false k.stamp key.stamp h in omega arith

  -- a node without events has none
  pub key-none : AreProcessedKeys (meaning_of n.model) n → IsLeastKeyOf (meaning_of n.model) n None → (k : Key) → MayKeyOf meaning_of n k → ⊥
  unfolding events_at
  key-none keys is k may =
      let object = may.0 in
      let p = λ (k : Key). k.dest == object in
      let done : (log_at n.logs object).done ≡ [] = none-kept (log_at n.logs object).done (sym (keys.parts object) ∙ ap (filter p) is.0) in
      let none : pending_at n.logs n.waiting object ≡ [] = ap (λ ds. events_of ds ++ events_at object n.waiting) done ∙ ap (events_at object) is.1 in
      none-in may.2 (subst (λ es. Contains es may.2) none may.3)

sound-dest : (m : Meaning) (objects : List ObjectState) (es : List Event) (e : Event) → AllSound m objects es → Contains es e → e.key.dest < m.objects
unfolding AllSound
sound-dest m objects [] e sound is_in = none-in e is_in
sound-dest m objects (x ∷ xs) e sound is_in =
    elim (first-or-later e x xs is_in) [ inl same ↦ subst (λ (v : Event). v.key.dest < m.objects) same sound.0.dest | inr later ↦ sound-dest m objects xs e sound.1 later ]

module _ {M : Type 0} (meaning_of : M → Meaning) (w : WorldView M) (s : State) (stands_so : StandsAt (meaning_of w.model) w s) where
  abbrev m : Meaning
  m = meaning_of w.model

  -- a node has each event that is pending
  some_node : (e : Event) → Contains s.pending e → (number : ℕ) × (n : NodeView M) × (number < length w.nodes) × (slice_get w.nodes number ≡ Some n) × MayKeyOf meaning_of n e.key
  unfolding events_at
  some_node e is_in =
      let object = e.key.dest in
      let low = sound-dest m s.objects s.pending e stands_so.stands.lawful.sound is_in in
      let number = home_of w.homes object in
      let below = stands_so.stands.homes object low in
      let many = stands_so.has.nodes.many in
      let inside : number < length w.nodes = omega arith in
      let n = at-some w.nodes number inside in
      let is = stands_so.has.nodes.each number n.0 n.1 in
      let here = home-there m n.0 w.model w.terms w.homes number is object (low, refl) in
      let H : M → Type 0 = λ v. IsHome (meaning_of v) (home n.0) n.0.number object in
      let own = stands_so.stands.shares_of number below in
      let in_share : Contains (stands_so.shares number).pending e = subst (λ es. Contains es e) (sym own.pending) (contains-filter (is_at (home_of w.homes) number) e s.pending (eq-eqb (home_of w.homes object) number refl) is_in) in
      let at_object : Contains (events_at object (stands_so.shares number).pending) e = contains-filter (λ (x : Event). x.key.dest == object) e (stands_so.shares number).pending (eq-eqb object object refl) in_share in
      (number, n.0, inside, n.1, (object, subst H (sym is.model_is) here, e, subst (λ es. Contains es e) ((stands_so.own number n.0 n.1).events object here) at_object, refl))

  -- each event that a node has is pending
  is_pending : (number : ℕ) (n : NodeView M) → slice_get w.nodes number ≡ Some n → (key : Key) → HasKeyOf meaning_of n key → (e : Event) × Contains s.pending e × (e.key ≡ key)
  unfolding events_at
  is_pending number n at key has =
      let is = stands_so.has.nodes.each number n at in
      let inside = slice_get_within w.nodes number n at in
      let many = stands_so.has.nodes.many in
      let e = has.1 in
      let H : M → Type 0 = λ v. IsHome (meaning_of v) (home n) n.number key.dest in
      let own = stands_so.stands.shares_of number (omega arith) in
      let at_object : Contains (events_at key.dest (stands_so.shares number).pending) e = subst (λ es. Contains es e) (sym ((stands_so.own number n at).events key.dest (subst H is.model_is has.0))) has.2 in
      let in_share = filter-contains (λ (x : Event). x.key.dest == key.dest) e (stands_so.shares number).pending at_object in
      (e, filter-contains (is_at (home_of w.homes) number) e s.pending (subst (λ es. Contains es e) own.pending in_share), has.3)

  -- the first event that is pending is below a bound if some node has one that is
  pub first-before : (bound : ℕ) → HaveEventBefore meaning_of bound w.nodes → (k : Key) × (Some k ≡ first_key s.pending) × (k.stamp < bound)
  unfolding Ascends
  first-before bound have = by_list s.pending refl (is_pending have.0 have.1 have.2 have.3.0 have.3.1)
    where
      by_list : (es : List Event) → s.pending ≡ es → (e : Event) × Contains s.pending e × (e.key ≡ have.3.0) → (k : Key) × (Some k ≡ first_key es) × (k.stamp < bound)
      by_list [] is found = none-in found.0 (subst (λ es. Contains es found.0) is found.1)
      by_list (x ∷ rest) is found =
          let up : Ascends key_of (x ∷ rest) = subst (Ascends key_of) is stands_so.stands.lawful.ordered in
          let same : found.0.key.stamp ≡ have.3.0.stamp = ap (λ (k : Key). k.stamp) found.2 in
          let below = have.3.2 in
          let first : x.key.stamp ≤ found.0.key.stamp =
          elim (first-or-later found.0 x rest (subst (λ es. Contains es found.0) is found.1)) [
            | inl one ↦ (let one_stamp : x.key.stamp ≡ found.0.key.stamp = ap (λ (v : Event). v.key.stamp) one in omega arith)
            | inr later ↦ stamp-le x.key found.0.key (each-contains (λ (v : Event). key_lt x.key v.key ≡ true) found.0 rest up.0 later)
          ] in
          (x.key, refl, omega arith)

  -- and if none has one, the end has come
  pub ends-late : HaveNoneBefore meaning_of (end_stamp w.terms.end) w.nodes → Some End ≡ end_or_limit (next m w.terms s)
  ends-late none = by_list s.pending refl
    where
      by_list : (es : List Event) → s.pending ≡ es → Some End ≡ end_or_limit (next m w.terms s)
      by_list [] is = stops-none m w.terms s (sym (ap first_key is))
      by_list (x ∷ rest) is =
          let there = some_node x (subst (λ es. Contains es x) (sym is) (is-first x x rest refl)) in
          stops-late m w.terms s x.key (sym (ap first_key is)) (none there.0 there.1 there.3 x.key there.4)

module _ {M : Type 0} (meaning_of : M → Meaning) (w : WorldView M) where
  pub spent-ended : w.is_spent ≡ true → (at : Standing) → WorldStandsAt meaning_of w at → None ≡ ended (meaning_of w.model) w.terms at
  unfolding ended WorldStandsAt
  spent-ended is (stands s fault) there = absurd (let no = there.0.has.awake in cc)
  spent-ended is spent there = refl

  pub fault-ended : (fault : Key × ℕ) → w.is_spent ≡ false → w.fault ≡ Some fault → (at : Standing) → WorldStandsAt meaning_of w at → Some (Fault fault.0 fault.1) ≡ ended (meaning_of w.model) w.terms at
  unfolding ended WorldStandsAt
  fault-ended fault awake is (stands s kept) there = ap (λ f. ended (meaning_of w.model) w.terms (stands s f)) (sym is ∙ there.1)
  fault-ended fault awake is spent there = absurd (cc)

  pub rest-ended : (stop : Option Stop) → w.is_spent ≡ false → w.fault ≡ None → ((s : State) → StandsAt (meaning_of w.model) w s → stop ≡ end_or_limit (next (meaning_of w.model) w.terms s))
      → (at : Standing) → WorldStandsAt meaning_of w at → stop ≡ ended (meaning_of w.model) w.terms at
  unfolding ended WorldStandsAt
  rest-ended stop awake none next_is (stands s kept) there = next_is s there.0 ∙ ap (λ f. ended (meaning_of w.model) w.terms (stands s f)) (sym none ∙ there.1)
  rest-ended stop awake none next_is spent there = absurd (cc)

  pub count-at : (at : Standing) → WorldStandsAt meaning_of w at → IsCountAt at w.count
  unfolding IsCountAt WorldStandsAt
  count-at (stands s fault) there = there.0.stands.count
  count-at spent there = tt

  -- a world without its nodes stands nowhere
  pub taken-ended : (stop : Option Stop) → w.is_spent ≡ false → w.nodes ≡ [] → (at : Standing) → WorldStandsAt meaning_of w at → stop ≡ ended (meaning_of w.model) w.terms at
  unfolding WorldStandsAt
  taken-ended stop awake none (stands s fault) there = absurd (let some = there.0.has.nodes.some in let long = ap length none in omega arith)
  taken-ended stop awake none spent there = absurd (cc)

  -- what comes next, by what is before the end
  pub end-told : w.is_spent ≡ false → w.fault ≡ None → HaveNoneBefore meaning_of (end_stamp w.terms.end) w.nodes → (at : Standing) → WorldStandsAt meaning_of w at → Some End ≡ ended (meaning_of w.model) w.terms at
  end-told awake whole none = rest-ended (Some End) awake whole (λ s there. ends-late meaning_of w s there none)

  pub limit-told : w.is_spent ≡ false → w.fault ≡ None → HaveEventBefore meaning_of (end_stamp w.terms.end) w.nodes → w.count ≡ w.terms.limit → (at : Standing) → WorldStandsAt meaning_of w at
      → Some Limit ≡ ended (meaning_of w.model) w.terms at
  limit-told awake whole some full =
      rest-ended (Some Limit) awake whole
      (λ s there. let first = first-before meaning_of w s there (end_stamp w.terms.end) some in
      stops-full (meaning_of w.model) w.terms s first.0 first.1 first.2 (sym there.stands.count ∙ full))

  pub more-told : w.is_spent ≡ false → w.fault ≡ None → HaveEventBefore meaning_of (end_stamp w.terms.end) w.nodes → w.count ≢ w.terms.limit → (at : Standing) → WorldStandsAt meaning_of w at
      → None ≡ ended (meaning_of w.model) w.terms at
  more-told awake whole some free =
      rest-ended None awake whole
      (λ s there. let first = first-before meaning_of w s there (end_stamp w.terms.end) some in
      goes-on (meaning_of w.model) w.terms s first.0 first.1 first.2 (λ full. free (there.stands.count ∙ full)))

module _ {M : Type 0} (meaning_of : M → Meaning) (old new : WorldView M) (same : IsSameWorld old new) where
  pub cycled-done : (bucket : Bucket) → old.is_spent ≡ false → new.fault ≡ bucket.fault
      → ((s : State) → StandsAt (meaning_of old.model) old s → bucket ≡ cut (meaning_of old.model) old.terms s)
      → ((s : State) → StandsAt (meaning_of old.model) old s → StandsAt (meaning_of old.model) new (after (meaning_of old.model) old.terms s))
      → HasCycled meaning_of old (Ok bucket) new
  unfolding WorldStandsAt CycleGives ended
  cycled-done bucket awake fault bucket_is stands_after (stands s (Some met)) there more = absurd (cc)
  cycled-done bucket awake fault bucket_is stands_after (stands s None) there more =
      let P : M → Type 0 = λ v. StandsAt (meaning_of v) new (after (meaning_of old.model) old.terms s) in
      record {
        left = stands (after (meaning_of old.model) old.terms s) bucket.fault;
        stands = (subst P (sym same.model) (stands_after s there.0), fault);
        gives = record { state = s; begins = refl; bucket_is = bucket_is s there.0; ends = refl };
        same_meaning = ap meaning_of same.model;
        same_terms = same.terms;
      }
  cycled-done bucket awake fault bucket_is stands_after spent there more = absurd (cc)
