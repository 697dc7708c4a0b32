-- The checks of a state say that it is lawful, and a lawful state passes them.
use Rattle.std.proofs.Common.{◌≡◌, inl, inr, ℕ, zero, suc, ◌+◌, ◌*◌, ◌^◌, ◌<◌, true, List, [], ◌∷◌, length, Ok, refl, sym, ap, ◌∙◌, arith}
use Rattle.std.specs.Prelude.{◌&&◌, ◌||◌, ◌==◌, nat_lt, nat_le}
use Rattle.std.specs.List.{AllByRecursion}
use Rattle.std.proofs.lemmas.Bool.{and_from, and_parts, or_cases, or_left, or_right, leb-true, le-leb, ltb-true, lt-ltb, eqb-true, eq-eqb}
use Rattle.event_key.specs.declared.key.TheConstants.{INITIAL, MOST_RANK}
use Rattle.event_key.specs.Stamps.{time_part}
use Rattle.model_core.specs.declared.event.Event.{Event}
use Rattle.model_core.specs.Meaning.{Meaning}
use Rattle.key_order.specs.Ascending.{IsAscending}
use Rattle.sim_spec.specs.declared.terms.Terms.{Terms}
use Rattle.sim_spec.specs.Firing.{ObjectState}
use Rattle.sim_spec.specs.State.{State, object_at, IsSound, AllSound, Lawful}
use Rattle.run_save.specs.declared.refusal.StateCause.TheVariants.{Unlawful}
use Rattle.run_save.specs.Checks.{wanted}
use Rattle.run_save.specs.LawfulChecks.{is_lawful_object, objects_check, is_sent, is_sound, events_check, lawful_check}
use Rattle.run_save.proofs.CheckLemmas.{bound, joined, passes, passed}

-- ---- objects

pub objects_hold : (m : Meaning) (count i : ℕ) (os : List ObjectState) (u : Unit {0}) → objects_check m count i os ≡ Ok u → (k : ℕ) → k < length os → is_lawful_object m count (i + k) (object_at os k) ≡ true
unfolding objects_check
objects_hold m count i [] u gives k within = absurd (omega arith)
objects_hold m count i (o ∷ os) u gives zero within =
    let first = bound (wanted (is_lawful_object m count i o) Unlawful (i + 4)) _ u gives in
    let here : i + 0 ≡ i = omega arith in
    ap (λ n. is_lawful_object m count n o) here ∙ passes _ _ _ _ first.1
objects_hold m count i (o ∷ os) u gives (suc k) within =
    let first = bound (wanted (is_lawful_object m count i o) Unlawful (i + 4)) _ u gives in
    let there : i + suc k ≡ (i + 1) + k = omega arith in
    ap (λ n. is_lawful_object m count n (object_at os k)) there ∙ objects_hold m count (i + 1) os u first.2 k (omega arith)

pub objects_pass : (m : Meaning) (count i : ℕ) (os : List ObjectState) → ((k : ℕ) → k < length os → is_lawful_object m count (i + k) (object_at os k) ≡ true) → objects_check m count i os ≡ Ok tt
unfolding objects_check
objects_pass m count i [] hold = refl
objects_pass m count i (o ∷ os) hold =
    let here : i + 0 ≡ i = omega arith in
    let first : is_lawful_object m count i o ≡ true = ap (λ n. is_lawful_object m count n o) (sym here) ∙ hold 0 (omega arith) in
    joined (wanted (is_lawful_object m count i o) Unlawful (i + 4)) _ tt _ (passed _ _ _ first)
    (objects_pass m count (i + 1) os (λ k within.
    let there : (i + 1) + k ≡ i + suc k = omega arith in
    ap (λ n. is_lawful_object m count n (object_at os k)) there ∙ hold (suc k) (omega arith)))

-- ---- events

pub events_hold : (m : Meaning) (objects : List ObjectState) (i : ℕ) (es : List Event) (u : Unit {0}) → events_check m objects i es ≡ Ok u → AllByRecursion (λ e. is_sound m objects e.key ≡ true) es
unfolding events_check
events_hold m objects i [] u gives = tt
events_hold m objects i (e ∷ es) u gives =
    let first = bound (wanted (is_sound m objects e.key) Unlawful (length objects + i + 5)) _ u gives in
    (passes _ _ _ _ first.1, events_hold m objects (i + 1) es u first.2)

pub events_pass : (m : Meaning) (objects : List ObjectState) (i : ℕ) (es : List Event) → AllByRecursion (λ e. is_sound m objects e.key ≡ true) es → events_check m objects i es ≡ Ok tt
unfolding events_check
events_pass m objects i [] hold = refl
events_pass m objects i (e ∷ es) hold =
    joined (wanted (is_sound m objects e.key) Unlawful (length objects + i + 5)) _ tt _ (passed _ _ _ hold.0) (events_pass m objects (i + 1) es hold.1)

sound_by : (m : Meaning) (objects : List ObjectState) (e : Event) → length objects ≡ m.objects → time_part e.key.stamp < 2 ^ 47 → is_sound m objects e.key ≡ true → IsSound m objects e
sound_by m objects e all early holds =
    let whole = and_parts (nat_lt e.key.dest m.objects && nat_le e.key.rank MOST_RANK) _ holds in
    let front = and_parts (nat_lt e.key.dest m.objects) _ whole.0 in
    record {
      dest = ltb-true _ _ front.0;
      time = early;
      rank = leb-true _ _ front.1;
      source = elim (or_cases (e.key.src == INITIAL && nat_lt e.key.serial m.starts) _ whole.1) [
        | inl initial ↦ (let parts = and_parts (e.key.src == INITIAL) _ initial in inl (eqb-true _ _ parts.0, ltb-true _ _ parts.1))
        | inr sent ↦ (let parts = and_parts (nat_lt e.key.src (length objects)) _ sent in let there = ltb-true _ _ parts.0 in inr (omega (arith, there, all), ltb-true _ _ parts.1))
      ];
    }

sound_holds : (m : Meaning) (objects : List ObjectState) (e : Event) → length objects ≡ m.objects → IsSound m objects e → is_sound m objects e.key ≡ true
sound_holds m objects e all sound =
    and_from (nat_lt e.key.dest m.objects && nat_le e.key.rank MOST_RANK) _
    (and_from (nat_lt e.key.dest m.objects) _ (lt-ltb _ _ sound.dest) (le-leb _ _ sound.rank))
    (elim sound.source as (λ _. ((e.key.src == INITIAL && nat_lt e.key.serial m.starts) || is_sent objects e.key) ≡ true) [
      | inl initial ↦ or_left _ _ (and_from (e.key.src == INITIAL) _ (eq-eqb _ _ initial.0) (lt-ltb _ _ initial.1))
      | inr sent ↦ or_right (e.key.src == INITIAL && nat_lt e.key.serial m.starts) _ (and_from (nat_lt e.key.src (length objects)) _ (lt-ltb _ _ (let there = sent.0 in omega (arith, there, all))) (lt-ltb _ _ sent.1))
    ])

all_sound : (m : Meaning) (objects : List ObjectState) (es : List Event) → length objects ≡ m.objects → AllByRecursion (λ e. time_part e.key.stamp < 2 ^ 47) es → AllByRecursion (λ e. is_sound m objects e.key ≡ true) es → AllSound m objects es
unfolding AllSound
all_sound m objects [] all early hold = tt
all_sound m objects (e ∷ es) all early hold = (sound_by m objects e all early.0 hold.0, all_sound m objects es all early.1 hold.1)

all_hold : (m : Meaning) (objects : List ObjectState) (es : List Event) → length objects ≡ m.objects → AllSound m objects es → AllByRecursion (λ e. is_sound m objects e.key ≡ true) es
unfolding AllSound
all_hold m objects [] all sound = tt
all_hold m objects (e ∷ es) all sound = (sound_holds m objects e all sound.0, all_hold m objects es all sound.1)

-- the times of sound events
pub times_told : (m : Meaning) (objects : List ObjectState) (es : List Event) → AllSound m objects es → AllByRecursion (λ e. time_part e.key.stamp < 2 ^ 47) es
unfolding AllSound
times_told m objects [] sound = tt
times_told m objects (e ∷ es) sound = (sound.0.time, times_told m objects es sound.1)

-- ---- the state

pub check_is_lawful : (m : Meaning) (t : Terms) (s : State) (u : Unit {0}) → AllByRecursion (λ e. time_part e.key.stamp < 2 ^ 47) s.pending → IsAscending s.pending → lawful_check m t s ≡ Ok u → Lawful m t s
unfolding lawful_check
check_is_lawful m t s u early ascends gives =
    let within = bound (wanted (nat_le s.count t.limit) Unlawful 2) _ u gives in
    let all = bound (wanted (length s.objects == m.objects) Unlawful 3) _ u within.2 in
    let objects = bound (objects_check m s.count 0 s.objects) _ u all.2 in
    let few = bound (wanted (nat_le (length s.pending) (400000 + 8 * s.count)) Unlawful (length s.objects + 4)) _ u objects.2 in
    let is_all : length s.objects ≡ m.objects = eqb-true _ _ (passes _ _ _ _ all.1) in
    let hold : (i : ℕ) → i < m.objects → (nat_le (object_at s.objects i).sent (8 * s.count) ≡ true) × (m.lawful i (object_at s.objects i).cells ≡ true) = λ i inside.
    let own = objects_hold m s.count 0 s.objects objects.0 objects.1 i (omega (arith, is_all)) in
    let here : 0 + i ≡ i = omega arith in
    and_parts _ _ (ap (λ n. is_lawful_object m s.count n (object_at s.objects i)) (sym here) ∙ own) in
    record {
      objects = is_all;
      cells = λ i inside. (hold i inside).1;
      sent = λ i inside. leb-true _ _ (hold i inside).0;
      ordered = ascends;
      sound = all_sound m s.objects s.pending is_all early (events_hold m s.objects 0 s.pending u few.2);
      few = leb-true _ _ (passes _ _ _ _ few.1);
      count = leb-true _ _ (passes _ _ _ _ within.1);
    }

pub lawful_passes : (m : Meaning) (t : Terms) (s : State) → Lawful m t s → lawful_check m t s ≡ Ok tt
unfolding lawful_check
lawful_passes m t s lawful =
    let is_all = lawful.objects in
    joined (wanted (nat_le s.count t.limit) Unlawful 2) _ tt _ (passed _ _ _ (le-leb _ _ lawful.count))
    (joined (wanted (length s.objects == m.objects) Unlawful 3) _ tt _ (passed _ _ _ (eq-eqb _ _ is_all))
    (joined (objects_check m s.count 0 s.objects) _ tt _ (objects_pass m s.count 0 s.objects (λ k within.
    let inside : k < m.objects = omega (arith, is_all) in
    let here : 0 + k ≡ k = omega arith in
    ap (λ n. is_lawful_object m s.count n (object_at s.objects k)) here ∙ and_from _ _ (le-leb _ _ (lawful.sent k inside)) (lawful.cells k inside)))
    (joined (wanted (nat_le (length s.pending) (400000 + 8 * s.count)) Unlawful (length s.objects + 4)) _ tt _ (passed _ _ _ (le-leb _ _ lawful.few))
    (events_pass m s.objects 0 s.pending (all_hold m s.objects s.pending is_all lawful.sound)))))
