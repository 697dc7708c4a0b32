-- The logs of a node's objects as one: each object stays at its place, and what goes where.
use Rattle.std.proofs.Common.{◌≡◌, ℕ, zero, suc, ◌<◌, Bool, true, false, cond, List, [], ◌∷◌, length, map, get_or, Option, Some, is_some, refl, sym, ap, subst, ◌∙◌, arith}
use Rattle.std.specs.Prelude.{IfSome, IsPermutation, filter, slice_get, slice_index, slice_index_or, ◌==◌}
use Rattle.std.specs.List.{AllByRecursion as Each}
use Rattle.std.proofs.lemmas.Grind.{get_or_default_zero}
use Rattle.std.proofs.lemmas.Option.{get_or_from_slice_get, slice_get_within}
use Rattle.event_key.specs.declared.key.Key.{Key}
use Rattle.model_core.specs.declared.event.Event.{Event}
use Rattle.model_core.specs.declared.note.Note.{Note}
use Rattle.sim_spec.specs.Firing.{ObjectState}
use Rattle.object_log.specs.EventCalls.{HasCommitted}
use Rattle.object_log.specs.EventLogs.{EventLogView, ObjectView, or_else, state_in}
use Rattle.object_log.specs.Flat.{goes_to}
use Rattle.object_log.specs.Logs.{held_of}
use Rattle.object_log.specs.Objects.{AreApart, IsPlaced}
use Rattle.object_log.specs.Parts.{due_of}
use Rattle.object_log.proofs.ObjectLemmas.{state-at}
use Rattle.event_log.specs.NodeLogs.{NodeLogView}
use Rattle.event_log.specs.Processing.{AreHomed}
use Rattle.node_core.specs.Homes.{HomesView, home_of}
use Rattle.node_core.specs.Logged.{AreLogged}
use Rattle.event_log.specs.NodeLogs.{HasCommittedTo}

abbrev pub numbers : List ObjectView → List ℕ
numbers = map (λ (o : ObjectView). o.object)

-- an object stands at its place among objects of the same numbers
placed-among : (old new : List ObjectView) (place object : ℕ) → numbers new ≡ numbers old
    → (o : ObjectView) × (slice_get old place ≡ Some o) × (o.object ≡ object) → (o : ObjectView) × (slice_get new place ≡ Some o) × (o.object ≡ object)
placed-among [] new place object same at = (let is = at.1 in absurd (cc))
placed-among (o ∷ os) [] place object same at = absurd (cc)
placed-among (o ∷ os) (n ∷ ns) zero object same at =
    let is : Some o ≡ Some at.0 = at.1 in
    let first : o ≡ at.0 = cc in
    let number : n.object ≡ o.object = cc in
    (n, refl, number ∙ ap (λ (v : ObjectView). v.object) first ∙ at.2)
placed-among (o ∷ os) (n ∷ ns) (suc place) object same at = (let more : numbers ns ≡ numbers os = cc in placed-among os ns place object more at)

-- and is there where one of its number was
found-among : (old new : List ObjectView) (object : ℕ) → numbers new ≡ numbers old → is_some (state_in new object) ≡ is_some (state_in old object)
unfolding state_in
found-among [] [] object same = refl
found-among [] (n ∷ ns) object same = absurd (cc)
found-among (o ∷ os) [] object same = absurd (cc)
found-among (o ∷ os) (n ∷ ns) object same =
    let number : n.object ≡ o.object = cc in
    let more : numbers ns ≡ numbers os = cc in
    ap (λ k. is_some (or_else (k == object) n.state (state_in ns object))) number ∙ by_test (o.object == object) (found-among os ns object more)
  where
    by_test : (b : Bool) → is_some (state_in ns object) ≡ is_some (state_in os object) → is_some (or_else b n.state (state_in ns object)) ≡ is_some (or_else b o.state (state_in os object))
    by_test true rest = refl
    by_test false rest = rest

-- objects stay at their places where only what they have processed changes
pub logged-still : (homes : HomesView) (old new : NodeLogView) (places : List ℕ) → numbers new.log.objects ≡ numbers old.log.objects → new.nodes ≡ old.nodes
    → AreHomed homes.homes new.chained → AreLogged homes old places → AreLogged homes new places
logged-still homes old new places same nodes homed are =
    let was : (object : ℕ) → is_some (state_in new.log.objects object) ≡ true → is_some (state_in old.log.objects object) ≡ true
    = λ object here. sym (found-among old.log.objects new.log.objects object same) ∙ here in
    record {
      long = are.long;
      nodes = nodes ∙ are.nodes;
      homed = homed;
      inside = λ object here. are.inside object (was object here);
      placed = λ object here. placed-among old.log.objects new.log.objects (slice_index_or places object 0) object same (are.placed object (was object here));
    }

-- no message lies in a chain
pub none-homed : (homes : List ℕ) (v : NodeLogView) → v.chained ≡ [] → AreHomed homes v.chained
none-homed homes v none = (let H : List (ℕ × Event) → Type 0 = AreHomed homes in subst H (sym none) refl)

home-known : (homes : List ℕ) (object nodes : ℕ) → object < length homes → slice_index homes object ≡ slice_index_or homes object nodes
home-known [] object nodes below = absurd (omega arith)
home-known (h ∷ hs) zero nodes below = refl
home-known (h ∷ hs) (suc object) nodes below = home-known hs object nodes (omega arith)

-- messages to objects of the model go to the homes of these
pub known-go : (homes : HomesView) (to : ℕ) (es : List Event) → Each (λ e. e.key.dest < length homes.homes) es → filter (goes_to (slice_index homes.homes) to) es ≡ filter (goes_to (home_of homes) to) es
known-go homes to [] known = refl
known-go homes to (e ∷ es) known =
    let keep = λ (k : ℕ) (more : List Event). cond (k == to) (e ∷ more) more in
    ap (λ k. keep k (filter (goes_to (slice_index homes.homes) to) es)) (home-known homes.homes e.key.dest homes.nodes known.0) ∙ ap (keep (home_of homes e.key.dest)) (known-go homes to es known.1)

-- what the log commits to the homes of all objects
pub committed-here : (homes : HomesView) (horizon : ℕ) (cut : Option Key) (old new : NodeLogView) (told : List (Key × Note)) (out : List (List Event)) → length out ≡ homes.nodes
    → Each (λ e. e.key.dest < length homes.homes) (held_of (due_of horizon cut old.log.done)) → HasCommittedTo homes.homes horizon cut old new told out
    → HasCommitted homes.nodes (home_of homes) horizon cut old.log new.log told out
committed-here homes horizon cut old new told out long known h =
    let sent = held_of (due_of horizon cut old.log.done) in
    record {
      objects = h.objects;
      done = h.done;
      told_is = h.told_is;
      long = long;
      parcels = λ to below. (let P : List Event → Type 0 = λ es. IsPermutation es (slice_index_or out to []) in subst P (known-go homes to sent known) (h.parcels to));
    }

-- the object at a place is found by its number
found-placed : (log : EventLogView) (place object : ℕ) (o : ObjectView) (P : ObjectState → Type 0) → AreApart log.objects → IsPlaced log place object → slice_get log.objects place ≡ Some o → P o.state
    → IfSome (state_in log.objects object) P
found-placed log place object o P apart at found holds =
    let there : get_or log.objects place o ≡ o = get_or_from_slice_get log.objects place o o found in
    let same : Some at.0 ≡ Some o = sym at.1 ∙ found in
    let is : at.0 ≡ o = cc in
    let number : object ≡ o.object = sym at.2 ∙ ap (λ (v : ObjectView). v.object) is in
    let state : state_in log.objects object ≡ Some o.state =
    ap (state_in log.objects) (number ∙ ap (λ (v : ObjectView). v.object) (sym there))
    ∙ state-at log.objects place o apart (slice_get_within log.objects place o found)
    ∙ ap (λ (v : ObjectView). Some v.state) there in
    let Q : Option ObjectState → Type 0 = λ s. IfSome s P in
    subst Q (sym state) holds

-- what is true of the object that stands where it was noted is true of what it is in
pub noted-state : (homes : HomesView) (log : NodeLogView) (places : List ℕ) (object place : ℕ) (o : ObjectView) (P : ObjectState → Type 0) (v : EventLogView)
    → AreLogged homes log places → log.log ≡ v → is_some (state_in v.objects object) ≡ true → AreApart v.objects → place ≡ get_or places object place
    → slice_get log.log.objects place ≡ Some o → P o.state → IfSome (state_in v.objects object) P
noted-state homes log places object place o P v are view here apart read found holds =
    let H : EventLogView → Type 0 = λ w. is_some (state_in w.objects object) ≡ true in
    let was = subst H (sym view) here in
    let below = are.inside object was in
    let long = are.long in
    let at = read ∙ get_or_default_zero places object place (omega arith) in
    let Q : ℕ → Type 0 = λ k. IsPlaced log.log k object in
    let L : EventLogView → Type 0 = λ w. IsPlaced w place object in
    let G : EventLogView → Type 0 = λ w. slice_get w.objects place ≡ Some o in
    found-placed v place object o P apart (subst L view (subst Q (sym at) (are.placed object was))) (subst G view found) holds
