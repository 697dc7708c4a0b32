-- A simulation under way in two parts: the events that were pending when the bucket began, and those that came since.
use Rattle.std.proofs.Common.{◌≡◌, ℕ, ◌+◌, ◌<◌, ◌≤◌, true, List, [], ◌∷◌, ◌++◌, inl, inr, sym, refl, ap, ◌∙◌, subst, arith}
use Rattle.std.specs.Prelude.{slice_set}
use Rattle.std.proofs.lemmas.Bool.{cases_lt}
use Rattle.event_key.specs.declared.key.Key.{Key}
use Rattle.event_key.specs.declared.stamp.TheConstants.{NO_STAMP}
use Rattle.event_key.specs.Keys.{key_lt}
use Rattle.event_key.specs.Stamps.{end_stamp}
use Rattle.event_key.proofs.Order.{stamp-le}
use Rattle.model_core.specs.declared.event.Event.{Event}
use Rattle.model_core.specs.declared.note.Note.{Note}
use Rattle.model_core.specs.Meaning.{Meaning}
use Rattle.sim_spec.specs.declared.terms.Terms.{Terms}
use Rattle.sim_spec.specs.Firing.{ObjectState, fire}
use Rattle.sim_spec.specs.State.{State, Lawful, object_at}
use Rattle.key_order.specs.Ascending.{Ascends, IsAscending}
use Rattle.key_order.specs.Pending.{enqueue_all}
use Rattle.key_order.specs.Stamps.{least_stamp, NoneBelow}
use Rattle.key_order.proofs.EachLemmas.{Each-map}
use Rattle.key_order.proofs.EnqueueLemmas.{IsAscending-without_all, Each-enqueue_all, enqueue_all-append, enqueue_all-behind}
use Rattle.key_order.proofs.StampLemmas.{after-below, NoneBelow-least_stamp, least_stamp-append}
use Rattle.one_thread.specs.Engines.{Course, state_of}
use Rattle.one_thread.specs.Turns.{Ahead, FirstComes, FirstGoes, FirstFails, FirstWaits, horizon_of, NoneDue, IsDue, IsDone, IsFailed, IsFull}
use Rattle.one_thread.proofs.TurnLemmas.{horizon_is}

pub record Parts : Type 0 where
  pub objects : List ObjectState
  pub primary : List Event
  pub fresh : List Event
  pub count : ℕ

abbrev pub state_at : Parts → State
state_at p = record { objects = p.objects; pending = enqueue_all p.fresh p.primary; count = p.count }

abbrev pub horizon_at : Terms → Parts → ℕ
horizon_at t p = least_stamp (end_stamp t.end) p.fresh

abbrev pub ahead_at : Terms → Parts → Ahead
ahead_at t p = record { objects = p.objects; events = p.primary; horizon = horizon_at t p; count = p.count }

abbrev pub DueAt : Terms → Parts → Event → List Event → Type 0
DueAt t p = FirstComes (ahead_at t p)

pub record DoneAt (m : Meaning) (t : Terms) (old : Parts) (key : Key) (note : Note) (new : Parts) : Type 0 where
  pub went : FirstGoes m t (ahead_at t old) key note
  pub after : new ≡ record {
    objects = slice_set old.objects went.event.key.dest went.firing.state;
    primary = went.rest;
    fresh = old.fresh ++ went.firing.events;
    count = old.count + 1;
  }

abbrev pub FailedAt : Meaning → Terms → Parts → Key → ℕ → Type 0
FailedAt m t old = FirstFails m t (ahead_at t old)

abbrev pub FullAt : Terms → Parts → Type 0
FullAt t p = FirstWaits t (ahead_at t p)

-- these are the parts of a simulation
pub record HasParts (c : Course) (p : Parts) : Type 0 where
  pub state : state_of c ≡ state_at p
  pub least : c.queue.fresh_least ≡ least_stamp NO_STAMP p.fresh

horizon_same : (t : Terms) (c : Course) (p : Parts) → HasParts c p → horizon_of t c ≡ horizon_at t p
horizon_same t c p h = horizon_is t p.fresh c.queue.fresh_least (end_stamp t.end) (horizon_of t c) refl h.least refl

-- no event of a list in order comes before its first one
first_least : (g : ℕ) (x : Event) (xs : List Event) → IsAscending (x ∷ xs) → g ≤ x.key.stamp → NoneBelow g (x ∷ xs)
unfolding Ascends
first_least g x xs up le =
    (le, Each-map (λ (y : Event). key_lt x.key y.key ≡ true) (λ (y : Event). g ≤ y.key.stamp) xs (λ y lt. let later = stamp-le x.key y.key lt in omega arith) up.0)

heads : (a b : Event) (xs ys : List Event) → a ∷ xs ≡ b ∷ ys → (a ≡ b) × (xs ≡ ys)
heads a b xs ys is = (cc, cc)

pub record DueParts (t : Terms) (p : Parts) (e : Event) (rest : List Event) : Type 0 where
  pub primary : List Event
  pub due : DueAt t p e primary
  pub rest_is : rest ≡ enqueue_all p.fresh primary

-- the event that is due is the first of those that were pending
due_first : (t : Terms) (p : Parts) (e : Event) (rest primary : List Event) → p.primary ≡ primary → IsAscending primary → enqueue_all p.fresh primary ≡ e ∷ rest → e.key.stamp < horizon_at t p → DueParts t p e rest
due_first t p e rest [] is up first early =
    let g : ℕ = horizon_at t p in
    let P : List Event → Type 0 = NoneBelow g in
    let all = subst P first (Each-enqueue_all (λ (x : Event). g ≤ x.key.stamp) p.fresh [] (NoneBelow-least_stamp (end_stamp t.end) p.fresh) tt) in
    let late = all.0 in
    absurd (omega arith)
due_first t p e rest (x ∷ xs) is up first early =
    let g : ℕ = horizon_at t p in
    elim (cases_lt x.key.stamp g) [
      | inl low ↦
          let both = heads e x rest (enqueue_all p.fresh xs) (sym first ∙ enqueue_all-behind p.fresh x xs (after-below g x.key p.fresh (NoneBelow-least_stamp (end_stamp t.end) p.fresh) low)) in
          record {
            primary = xs;
            due = record { first = is ∙ ap (λ y. y ∷ xs) (sym both.0); early = early };
            rest_is = both.1;
          }
      | inr late ↦
          let P : List Event → Type 0 = NoneBelow g in
          let all = subst P first (Each-enqueue_all (λ (x : Event). g ≤ x.key.stamp) p.fresh (x ∷ xs) (NoneBelow-least_stamp (end_stamp t.end) p.fresh) (first_least g x xs up late)) in
          let no = all.0 in
          absurd (omega arith)
    ]

pub due_parts : (m : Meaning) (t : Terms) (c : Course) (p : Parts) (e : Event) (rest : List Event) → HasParts c p → Lawful m t (state_at p) → IsDue t c e rest → DueParts t p e rest
due_parts m t c p e rest h lawful due =
    let same = horizon_same t c p h in
    let early = due.early in
    due_first t p e rest p.primary refl (IsAscending-without_all p.fresh p.primary lawful.ordered) (ap (λ (s : State). s.pending) (sym h.state) ∙ due.first) (omega (arith, same, early))

pub none_due : (t : Terms) (c : Course) (p : Parts) (h : ℕ) → HasParts c p → h ≡ horizon_of t c → NoneDue h c.queue.pending → (h ≡ horizon_at t p) × NoneDue h p.primary
none_due t c p h parts is none =
    let P : List Event → Type 0 = NoneDue h in
    let same : h ≡ horizon_at t p = is ∙ horizon_same t c p parts in
    (same, by_primary p.primary same (subst P (ap (λ (s : State). s.pending) parts.state) none))
  where
    by_primary : (primary : List Event) → h ≡ horizon_at t p → NoneDue h (enqueue_all p.fresh primary) → NoneDue h primary
    by_primary [] same none = tt
    by_primary (x ∷ xs) same none =
        elim (cases_lt x.key.stamp h) [
          | inl low ↦
              let Q : List Event → Type 0 = NoneDue h in
              subst Q (enqueue_all-behind p.fresh x xs (after-below (horizon_at t p) x.key p.fresh (NoneBelow-least_stamp (end_stamp t.end) p.fresh) (omega arith))) none
          | inr late ↦ late
        ]

-- what the event that went leaves in both parts
pub record DoneParts (m : Meaning) (t : Terms) (old : Parts) (key : Key) (note : Note) (now : Course) : Type 0 where
  pub parts : Parts
  pub has : HasParts now parts
  pub done : DoneAt m t old key note parts

pub done_parts : (m : Meaning) (t : Terms) (c : Course) (p : Parts) (key : Key) (note : Note) (now : Course) → HasParts c p → Lawful m t (state_at p) → IsDone m t c key note now → DoneParts m t p key note now
done_parts m t c p key note now h lawful one =
    let went = one.went in
    let e = went.event in
    let x = went.firing in
    let due = due_parts m t c p e went.rest h lawful went.due in
    let objects : c.objects ≡ p.objects = ap (λ (s : State). s.objects) h.state in
    let count : c.count ≡ p.count = ap (λ (s : State). s.count) h.state in
    let free = went.free in
    let q : Parts = record { objects = slice_set p.objects e.key.dest x.state; primary = due.primary; fresh = p.fresh ++ x.events; count = p.count + 1 } in
    record {
      parts = q;
      has = record {
        state = λ i. record {
          objects = (one.objects ∙ ap (λ os. slice_set os e.key.dest x.state) objects) i;
          pending = (one.pending ∙ ap (enqueue_all x.events) due.rest_is ∙ sym (enqueue_all-append p.fresh x.events due.primary)) i;
          count = (one.count ∙ ap (λ n. n + 1) count) i;
        };
        least = one.fresh_least ∙ ap (λ n. least_stamp n x.events) h.least ∙ sym (least_stamp-append NO_STAMP p.fresh x.events);
      };
      done = record {
        went = record {
          event = e;
          rest = due.primary;
          firing = x;
          due = due.due;
          free = omega arith;
          fires = ap (λ os. fire m e.key.dest (object_at os e.key.dest) e) (sym objects) ∙ went.fires;
          key_is = went.key_is;
          note_is = went.note_is;
        };
        after = refl;
      };
    }

pub failed_parts : (m : Meaning) (t : Terms) (c : Course) (p : Parts) (key : Key) (code : ℕ) → HasParts c p → Lawful m t (state_at p) → IsFailed m t c key code → FailedAt m t p key code
failed_parts m t c p key code h lawful one =
    let due = due_parts m t c p one.event one.rest h lawful one.due in
    let objects : c.objects ≡ p.objects = ap (λ (s : State). s.objects) h.state in
    let count : c.count ≡ p.count = ap (λ (s : State). s.count) h.state in
    let free = one.free in
    record {
      event = one.event;
      rest = due.primary;
      due = due.due;
      free = omega arith;
      fires = ap (λ os. fire m one.event.key.dest (object_at os one.event.key.dest) one.event) (sym objects) ∙ one.fires;
      key_is = one.key_is;
    }

pub full_parts : (m : Meaning) (t : Terms) (c : Course) (p : Parts) → HasParts c p → Lawful m t (state_at p) → IsFull t c → FullAt t p
full_parts m t c p h lawful full =
    let due = due_parts m t c p full.event full.rest h lawful full.due in
    let count : c.count ≡ p.count = ap (λ (s : State). s.count) h.state in
    let most = full.full in
    record { event = full.event; rest = due.primary; due = due.due; full = omega arith }

-- at the start of a bucket nothing came since
pub parts_begin : (c : Course) → c.queue.fresh_least ≡ NO_STAMP → HasParts c (record { objects = c.objects; primary = c.queue.pending; fresh = []; count = c.count })
unfolding enqueue_all least_stamp
parts_begin c none = record { state = refl; least = none }

-- a simulation with the same state and horizon has the same parts
pub parts_stay : (c now : Course) (p : Parts) → HasParts c p → state_of now ≡ state_of c → now.queue.fresh_least ≡ c.queue.fresh_least → HasParts now p
parts_stay c now p h state least = record { state = state ∙ h.state; least = least ∙ h.least }
