-- What is known of the event that is due, and what its firing leaves.
use Rattle.std.proofs.Common.{◌≡◌, ℕ, zero, suc, ◌+◌, ◌^◌, ◌<◌, ◌≤◌, List, [], ◌∷◌, length, get_or, sym, refl, ap, ◌∙◌, subst, arith}
use Rattle.std.specs.Prelude.{IsTrue, slice_set}
use Rattle.std.proofs.lemmas.List.{set-get_or}
use Rattle.event_key.specs.declared.key.Key.{Key}
use Rattle.event_key.specs.Stamps.{time_part}
use Rattle.model_core.specs.declared.event.Event.{Event}
use Rattle.model_core.specs.declared.event.Send.{Send}
use Rattle.model_core.specs.declared.note.Note.{Note}
use Rattle.model_core.specs.Meaning.{Meaning, MeaningLaws, SendsInRange}
use Rattle.sim_spec.specs.declared.terms.Terms.{Terms}
use Rattle.sim_spec.specs.Firing.{ObjectState, fails, fire, emissions}
use Rattle.key_order.specs.Pending.{enqueue_all}
use Rattle.key_order.specs.Stamps.{least_stamp}
use Rattle.sim_spec.specs.State.{Lawful, AllSound, object_at, no_object}
use Rattle.sim_spec.proofs.LawfulLemmas.{time_early}
use Rattle.sim_spec.proofs.RunLemmas.{first_sound}
use Rattle.key_order.specs.Serials.{SerialsBelow}
use Rattle.sim_spec.proofs.SerialLemmas.{serials_sound}
use Rattle.tick_queue.specs.Near.{StartsWith, LosesFirst}
use Rattle.tick_queue.specs.Queues.{QueueView, IsSettled}
use Rattle.model_core.specs.declared.effect.Effect.{Effect}
use Rattle.event_firing.specs.Reactions.{IsSending}
use Rattle.one_thread.specs.Engines.{Course, state_of}
use Rattle.one_thread.specs.Turns.{horizon_of, IsDue, HasDue, IsDone, IsFailed}

-- what is known of the event that is due
pub record IsTaken (m : Meaning) (t : Terms) (old : Course) (e : Event) (rest : List Event) : Type 0 where
  pub due : IsDue t old e rest
  pub below : e.key.dest < m.objects
  pub few_objects : m.objects ≤ 65536
  pub within : e.key.dest < length old.objects
  pub lawful : IsTrue (m.lawful e.key.dest (object_at old.objects e.key.dest).cells)
  pub time : time_part e.key.stamp < 2 ^ 46
  pub sent : (object_at old.objects e.key.dest).sent < 2 ^ 60
  pub serials : SerialsBelow e.key.dest (object_at old.objects e.key.dest).sent rest
  pub room : length rest + 9 < 2 ^ 60

taken_by : (m : Meaning) (t : Terms) (old : Course) (e : Event) (rest : List Event) → MeaningLaws m → Lawful m t (state_of old) → IsDue t old e rest → IsTaken m t old e rest
unfolding AllSound
taken_by m t old e rest laws lawful due =
    let s = state_of old in
    let early = due.early in
    let sound = first_sound m t s e rest lawful due.first in
    let below = sound.dest in
    let sent = lawful.sent e.key.dest below in
    let few = lawful.few in
    let count = lawful.count in
    let most = t.limit_in_range in
    let one = ap length due.first in
    let objects_long = lawful.objects in
    let S : List Event → Type 0 = λ es. AllSound m old.objects es in
    record {
      due = due;
      below = below;
      few_objects = laws.objects;
      within = omega arith;
      lawful = lawful.cells e.key.dest below;
      time = time_early t e.key.stamp (omega arith);
      sent = omega arith;
      serials = serials_sound m old.objects e.key.dest rest laws.objects below (subst S due.first lawful.sound).1;
      room = omega arith;
    }

-- an event that goes is one of an object of the model
pub done_below : (m : Meaning) (t : Terms) (old : Course) (key : Key) (note : Note) (new : Course) → MeaningLaws m → Lawful m t (state_of old) → IsDone m t old key note new → key.dest < m.objects
done_below m t old key note new laws lawful one =
    let P : Key → Type 0 = λ k. k.dest < m.objects in
    subst P (sym one.went.key_is) (taken_by m t old one.went.event one.went.rest laws lawful one.went.due).below

heads : (a b : Event) (xs ys : List Event) → a ∷ xs ≡ b ∷ ys → a ≡ b
heads a b xs ys is = cc

-- the course whose parts these are
abbrev pub course_of : List ObjectState → QueueView → ℕ → Course
course_of objects queue count = record { objects = objects; queue = queue; count = count }

-- the first event of a course that is known by its parts
pub taken_in : (m : Meaning) (t : Terms) (value : Course) (objects : List ObjectState) (queue : QueueView) (count : ℕ) (e : Event) (rest : List Event)
    → course_of objects queue count ≡ value → MeaningLaws m → Lawful m t (state_of value) → HasDue t value → queue.pending ≡ e ∷ rest → IsTaken m t (course_of objects queue count) e rest
taken_in m t value objects queue count e rest is laws lawful due first =
    let P : Course → Type 0 = λ v. Lawful m t (state_of v) in
    let Q : Course → Type 0 = HasDue t in
    let own : HasDue t (course_of objects queue count) = subst Q (sym is) due in
    let same : own.0 ≡ e = heads own.0 e own.1 rest (sym own.2.first ∙ first) in
    let E : Event → Type 0 = λ e. e.key.stamp < horizon_of t (course_of objects queue count) in
    taken_by m t (course_of objects queue count) e rest laws (subst P (sym is) lawful) (record { first = first; early = subst E same own.2.early })

-- the event that goes is the first one
pub first_gone : (es now : List Event) (e : Event) → StartsWith es e → LosesFirst es now → es ≡ e ∷ now
first_gone es now e starts loses = loses.1 ∙ ap (λ x. x ∷ now) (heads loses.0 e now starts.0 (sym loses.1 ∙ starts.1))

-- there is one
pub none_at_hand : (t : Terms) (value : Course) (objects : List ObjectState) (queue : QueueView) (count : ℕ) → course_of objects queue count ≡ value → HasDue t value → IsSettled value.queue → queue.at_hand ≡ 0 → ⊥
none_at_hand t value objects queue count is due settled none =
    let no = settled (ap (λ (v : Course). v.queue.at_hand) (sym is) ∙ none) in
    let long = ap length (sym no ∙ due.2.first) in
    omega (arith, long)

-- the object that is read is the one at its place
pub object_read : (objects : List ObjectState) (i : ℕ) (o : ObjectState) → i < length objects → o ≡ get_or objects i o → o ≡ object_at objects i
object_read [] i o below is = absurd (omega arith)
object_read (x ∷ xs) zero o below is = is
object_read (x ∷ xs) (suc i) o below is = object_read xs i o (omega arith) is

-- the event went
pub done : (m : Meaning) (t : Terms) (old new : Course) (e : Event) (rest : List Event) (o after : ObjectState) (sheet : Effect) (serial : ℕ) (sends : List Send)
    → IsTaken m t old e rest → old.count < t.limit → o ≡ object_at old.objects e.key.dest → IsSending m o e sheet after → serial ≡ o.sent → sends ≡ sheet.sends
    → new.objects ≡ slice_set old.objects e.key.dest after → new.queue.pending ≡ enqueue_all (emissions e.key.stamp e.key.dest serial sends) rest
    → new.queue.fresh_least ≡ least_stamp old.queue.fresh_least (emissions e.key.stamp e.key.dest serial sends) → new.count ≡ old.count + 1
    → IsDone m t old e.key sheet.note new
done m t old new e rest o after sheet serial sends is_taken free is_o sent is_serial is_sends objects pending least count =
    let events : emissions e.key.stamp e.key.dest serial sends ≡ sent.firing.events =
    ap (λ n. emissions e.key.stamp e.key.dest n sends) is_serial ∙ ap (emissions e.key.stamp e.key.dest o.sent) is_sends ∙ sym sent.events in
    record {
      went = record {
        event = e;
        rest = rest;
        firing = sent.firing;
        due = is_taken.due;
        free = free;
        fires = ap (λ o. fire m e.key.dest o e) (sym is_o) ∙ sent.fires;
        key_is = refl;
        note_is = sent.note;
      };
      objects = objects ∙ ap (slice_set old.objects e.key.dest) sent.state;
      pending = pending ∙ ap (λ es. enqueue_all es rest) events;
      fresh_least = least ∙ ap (least_stamp old.queue.fresh_least) events;
      count = count;
    }

-- the event failed
pub failed : (m : Meaning) (t : Terms) (old : Course) (e : Event) (rest : List Event) (o : ObjectState) (code : ℕ)
    → IsTaken m t old e rest → old.count < t.limit → o ≡ object_at old.objects e.key.dest → fire m e.key.dest o e ≡ fails code → IsFailed m t old e.key code
failed m t old e rest o code is_taken free is_o is_code =
    record { event = e; rest = rest; due = is_taken.due; free = free; fires = ap (λ o. fire m e.key.dest o e) (sym is_o) ∙ is_code; key_is = refl }

pub put_back : (objects : List ObjectState) (i : ℕ) (o after : ObjectState) → o ≡ object_at objects i → after ≡ o → slice_set objects i after ≡ objects
put_back objects i o after is_o same = ap (slice_set objects i) (same ∙ is_o) ∙ set-get_or objects i no_object

-- the cells that are read are lawful
pub lawful_read : (m : Meaning) (i : ℕ) (objects : List ObjectState) (o : ObjectState) → o ≡ object_at objects i → IsTrue (m.lawful i (object_at objects i).cells) → IsTrue (m.lawful i o.cells)
lawful_read m i objects o is lawful = let P : ObjectState → Type 0 = λ o. IsTrue (m.lawful i o.cells) in subst P (sym is) lawful

-- serials below what the object has sent are below what it sends now
pub serials_read : (i n : ℕ) (objects : List ObjectState) (o : ObjectState) (es : List Event) → o ≡ object_at objects i → n ≡ o.sent → SerialsBelow i (object_at objects i).sent es → SerialsBelow i n es
serials_read i n objects o es is_o is_n below =
    let P : ℕ → Type 0 = λ n. SerialsBelow i n es in subst P (sym (is_n ∙ ap (λ (o : ObjectState). o.sent) is_o)) below

-- sends in range, by other names
pub ranged_as : (objects : ℕ) (sends ss : List Send) → sends ≡ ss → SendsInRange objects ss → SendsInRange objects sends
ranged_as objects sends ss is h = subst (SendsInRange objects) (sym is) h
