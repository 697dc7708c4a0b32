-- The least stamp that a node holds, and whether one of its faults comes before a key.
use Rattle.std.proofs.Common.{◌≡◌, ◌⊎◌, ℕ, zero, suc, ◌<◌, ◌≤◌, min, Bool, true, false, List, [], ◌∷◌, refl, sym, ap, ◌∙◌, subst, inl, inr, arith, eqb, eqb-true, ltb, ltb-true, ltb-false}
use Rattle.std.proofs.lemmas.Bool.{eqb-false}
use Rattle.std.specs.Prelude.{Contains, Option, Some, None}
use Rattle.event_key.specs.declared.key.Key.{Key}
use Rattle.event_key.specs.Keys.{key_lt}
use Rattle.model_core.specs.declared.event.Event.{Event}
use Rattle.model_core.specs.Meaning.{Meaning}
use Rattle.sim_spec.specs.Firing.{Firing}
use Rattle.key_order.specs.Stamps.{least_stamp, NoneBelow}
use Rattle.sim_spec.specs.Cut.{emissions_of}
use Rattle.sim_spec.specs.Replay.{EmitsFrom}
use Rattle.key_order.proofs.EachLemmas.{Each-front, Each-back}
use Rattle.sim_spec.proofs.StampLemmas.{EmitsFrom-le}
use Rattle.key_order.proofs.StampLemmas.{NoneBelow-least_stamp, least_stamp-le}
use Rattle.world_spec.specs.Share.{IsHome, NodeData}
use Rattle.key_order.proofs.MemberLemmas.{is-first, is-later}

-- one of these has this stamp
abbrev pub HasStamp : List Event → ℕ → Type 0
HasStamp es stamp = (e : Event) × Contains es e × (e.key.stamp ≡ stamp)

-- the least stamp is the bound, or that of one of the events
pub least_stamp-found : (h : ℕ) (es : List Event) → (least_stamp h es ≡ h) ⊎ HasStamp es (least_stamp h es)
unfolding least_stamp
least_stamp-found h [] = inl refl
least_stamp-found h (e ∷ es) =
    elim (least_stamp-found (min h e.key.stamp) es) [
      | inr found ↦ inr (found.0, is-later found.0 e es found.1, found.2)
      | inl same ↦ by_first (ltb h e.key.stamp) refl same
    ]
  where
    by_first : (b : Bool) → ltb h e.key.stamp ≡ b → least_stamp (min h e.key.stamp) es ≡ min h e.key.stamp
        → (least_stamp (min h e.key.stamp) es ≡ h) ⊎ HasStamp (e ∷ es) (least_stamp (min h e.key.stamp) es)
    by_first true is_b same = let lt = ltb-true h e.key.stamp is_b in inl (omega arith)
    by_first false is_b same =
        let ge = ltb-false h e.key.stamp is_b in
        let is : e.key.stamp ≡ least_stamp (min h e.key.stamp) es = omega arith in
        inr (e, is-first e e es refl, is)

pub EmitsFrom-emissions_of : (h : ℕ) (ds : List (Event × Firing)) → NoneBelow h (emissions_of ds) → EmitsFrom h ds
unfolding emissions_of
EmitsFrom-emissions_of h [] from = tt
EmitsFrom-emissions_of h (d ∷ ds) from =
    (Each-front (λ (e : Event). h ≤ e.key.stamp) d.1.events (emissions_of ds) from, EmitsFrom-emissions_of h ds (Each-back (λ (e : Event). h ≤ e.key.stamp) d.1.events (emissions_of ds) from))

-- some object of the node, among the first n, holds a message with this stamp
abbrev pub IsHeldAt : Meaning → (ℕ → ℕ) → ℕ → ℕ → NodeData → ℕ → Type 0
IsHeldAt m home node n held stamp = (object : ℕ) × (object < n) × IsHome m home node object × HasStamp (emissions_of (held.log object).done) stamp

-- a bound on what the first n objects hold of a node, no lower than what they hold
pub record IsLeastHeld (m : Meaning) (home : ℕ → ℕ) (node n : ℕ) (held : NodeData) (h : ℕ) : Type 0 where
  pub bound : ℕ
  pub within : bound ≤ h
  pub holds : (object : ℕ) → object < n → IsHome m home node object → EmitsFrom bound (held.log object).done
  pub found : (bound ≡ h) ⊎ IsHeldAt m home node n held bound

pub least_held : (m : Meaning) (home : ℕ → ℕ) (node n : ℕ) (held : NodeData) (h : ℕ) → n ≤ m.objects → IsLeastHeld m home node n held h
least_held m home node zero held h few = record { bound = h; within = omega arith; holds = λ object below at. absurd (omega arith); found = inl refl }
least_held m home node (suc n) held h few = by_home (least_held m home node n held h (omega arith)) (eqb (home n) node) refl
  where
    wider : (stamp : ℕ) → IsHeldAt m home node n held stamp → IsHeldAt m home node (suc n) held stamp
    wider stamp found = (found.0, (let lt : found.0 < n = found.1 in omega arith), found.2, found.3)

    by_home : IsLeastHeld m home node n held h → (b : Bool) → eqb (home n) node ≡ b → IsLeastHeld m home node (suc n) held h
    by_home more false is_b = record {
      bound = more.bound;
      within = more.within;
      holds = λ object below at. at_object object below at (eqb object n) refl;
      found = elim more.found [ inl same ↦ inl same | inr found ↦ inr (wider more.bound found) ];
    }
      where
        at_object : (object : ℕ) → object < suc n → IsHome m home node object → (c : Bool) → eqb object n ≡ c → EmitsFrom more.bound (held.log object).done
        at_object object below at true is_c = absurd (eqb-false (home n) node is_b (ap home (sym (eqb-true object n is_c)) ∙ at.1))
        at_object object below at false is_c = let apart = eqb-false object n is_c in more.holds object (omega arith) at
    by_home more true is_b = record {
      bound = bound;
      within = let le = least_stamp-le more.bound sent in let upto : more.bound ≤ h = more.within in omega arith;
      holds = λ object below at. at_object object below at (eqb object n) refl;
      found = elim (least_stamp-found more.bound sent) [
        | inr found ↦ inr (n, (omega arith), ((omega arith), eqb-true (home n) node is_b), found)
        | inl same ↦ elim more.found [
          | inl is_h ↦ inl (same ∙ is_h)
          | inr found ↦ (let P : ℕ → Type 0 = IsHeldAt m home node (suc n) held in inr (subst P (sym same) (wider more.bound found)))
        ]
      ];
    }
      where
        sent : List Event
        sent = emissions_of (held.log n).done

        bound : ℕ
        bound = least_stamp more.bound sent

        at_object : (object : ℕ) → object < suc n → IsHome m home node object → (c : Bool) → eqb object n ≡ c → EmitsFrom bound (held.log object).done
        at_object object below at true is_c =
            let P : ℕ → Type 0 = λ o. EmitsFrom bound (held.log o).done in
            subst P (sym (eqb-true object n is_c)) (EmitsFrom-emissions_of bound (held.log n).done (NoneBelow-least_stamp more.bound sent))
        at_object object below at false is_c =
            let apart = eqb-false object n is_c in
            EmitsFrom-le bound more.bound (held.log object).done (least_stamp-le more.bound sent) (more.holds object (omega arith) at)

-- some fault of the first n objects comes before the key, or none does
abbrev pub IsPastSome : Meaning → (ℕ → ℕ) → ℕ → NodeData → Key → ℕ → Type 0
IsPastSome m home node held key n = (object : ℕ) × (object < n) × IsHome m home node object × (fault : Key × ℕ) × ((held.log object).fault ≡ Some fault) × (key_lt fault.0 key ≡ true)

abbrev pub IsPastNone : Meaning → (ℕ → ℕ) → ℕ → NodeData → Key → ℕ → Type 0
IsPastNone m home node held key n = (object : ℕ) → object < n → IsHome m home node object → (fault : Key × ℕ) → (held.log object).fault ≡ Some fault → key_lt fault.0 key ≡ false

pub past_some-or-none : (m : Meaning) (home : ℕ → ℕ) (node : ℕ) (held : NodeData) (key : Key) (n : ℕ) → n ≤ m.objects → IsPastSome m home node held key n ⊎ IsPastNone m home node held key n
past_some-or-none m home node held key zero few = inr (λ object below at fault is_fault. absurd (omega arith))
past_some-or-none m home node held key (suc n) few =
    elim (past_some-or-none m home node held key n (omega arith)) [
      | inl some ↦ inl (some.0, (let lt : some.0 < n = some.1 in omega arith), some.2, some.3, some.4, some.5)
      | inr none ↦ by_home none (eqb (home n) node) refl (held.log n).fault refl
    ]
  where
    Here : Type 0
    Here = (fault : Key × ℕ) → (held.log n).fault ≡ Some fault → key_lt fault.0 key ≡ false

    with_here : IsPastNone m home node held key n → (IsHome m home node n → Here) → IsPastNone m home node held key (suc n)
    with_here none here object below at fault is_fault = by_object (eqb object n) refl
      where
        by_object : (c : Bool) → eqb object n ≡ c → key_lt fault.0 key ≡ false
        by_object true is_c =
            let same = eqb-true object n is_c in
            let P : ℕ → Type 0 = IsHome m home node in
            let F : ℕ → Type 0 = λ o. (held.log o).fault ≡ Some fault in
            here (subst P same at) fault (subst F same is_fault)
        by_object false is_c = let apart = eqb-false object n is_c in none object (omega arith) at fault is_fault

    by_home : IsPastNone m home node held key n → (b : Bool) → eqb (home n) node ≡ b → (f : Option (Key × ℕ)) → (held.log n).fault ≡ f
        → IsPastSome m home node held key (suc n) ⊎ IsPastNone m home node held key (suc n)
    by_home none false is_b f is_f = inr (with_here none (λ at. absurd (eqb-false (home n) node is_b at.1)))
    by_home none true is_b None is_f = inr (with_here none (λ at fault is_fault. absurd (cc)))
    by_home none true is_b (Some met) is_f = by_key (key_lt met.0 key) refl
      where
        same_fault : (a b : Key × ℕ) → Some a ≡ Some b → a ≡ b
        same_fault a b is = cc

        by_key : (c : Bool) → key_lt met.0 key ≡ c → IsPastSome m home node held key (suc n) ⊎ IsPastNone m home node held key (suc n)
        by_key true lt = inl (n, (omega arith), ((omega arith), eqb-true (home n) node is_b), met, is_f, lt)
        by_key false ge = inr (with_here none (λ at fault is_fault.
            let P : Key × ℕ → Type 0 = λ x. key_lt x.0 key ≡ false in
            subst P (same_fault met fault (sym is_f ∙ is_fault)) ge))
