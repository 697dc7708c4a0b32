-- What was undone at once is in hand, and waits again.
use Rattle.std.proofs.Common.{◌≡◌, ℕ, ◌+◌, ◌<◌, true, false, not, ◌&&◌, List, [], ◌∷◌, ◌++◌, length, eqb-true, Option, is_some, refl, sym, ap, ◌∙◌, subst, arith, append_assoc}
use Rattle.std.specs.Prelude.{filter, nat_lt, ◌==◌}
use Rattle.std.specs.List.{AllByRecursion as Each}
use Rattle.std.proofs.lemmas.List.{append-nil, length-map}
use Rattle.std.proofs.lemmas.List.Filters.{length-filter_both}
use Rattle.event_key.specs.declared.key.Key.{Key}
use Rattle.event_key.specs.Keys.{key_lt}
use Rattle.model_core.specs.declared.event.Event.{Event}
use Rattle.key_order.specs.Ascending.{Ascends, IsAscending, key_of}
use Rattle.key_order.proofs.AscendingLemmas.{Ascends-filter, Ascends-map}
use Rattle.key_order.proofs.EachLemmas.{Each-filter, Each-map}
use Rattle.key_order.proofs.EnqueueLemmas.{length-enqueue_all}
use Rattle.key_order.proofs.FilterLemmas.{filter-both, filter-map, filter-none, filter-passes}
use Rattle.sim_spec.specs.Replay.{events_at}
use Rattle.speedes_queue.specs.Queues.{QueueView, pending_of}
use Rattle.object_log.specs.Dones.{Done}
use Rattle.object_log.specs.EventCalls.{HasGoneBack, HasUndoneFrom}
use Rattle.object_log.specs.EventLogs.{done_key, dones_at, is_of, logs_upto, state_in, stays}
use Rattle.object_log.specs.Logs.{LogView, events_of}
use Rattle.object_log.specs.Objects.{AreSound}
use Rattle.object_log.specs.Parts.{from_key}
use Rattle.object_log.proofs.OwnLemmas.{is_there, low-at, only-own, own-ascends}
use Rattle.node_core.specs.Homes.{HomesView}
use Rattle.node_core.specs.Logged.{LogsView}
use Rattle.node_core.specs.Nodes.{IsHere, log_at, pending_at}
use Rattle.node_core.specs.Sound.{IsStore}
use Rattle.node_core.specs.Stores.{StoreView, IsGivenBack, IsInHand, IsRolledBack, shown_logs, shown_marks}
use Rattle.node_core.proofs.ListedRollback.{IsFrontLeft, back-left, back-parts, undone-left, undone-parts}
use Rattle.node_core.proofs.ShownFacts.{marks-long, shown-done, shown-here, shown-long, shown-store, state-here}
use Rattle.node_core.proofs.StoreLemmas.{ascending-skip, by_object, each-events, events_of-append, store_of}

-- these events, in the order of their keys, were undone: those of each object are the end of its log
pub record AreUndone (old now : LogsView) (gone : List Done) : Type 0 where
  pub homes : now.homes ≡ old.homes
  pub ascending : Ascends done_key gone
  pub parts : (object : ℕ) → dones_at object old.log.done ≡ dones_at object now.log.done ++ dones_at object gone
  pub left : (object : ℕ) → IsFrontLeft (shown_logs old) (shown_logs now) object
  pub known : Each (λ (d : Done). is_some (state_in old.log.objects d.event.key.dest) ≡ true) gone
  pub count : length now.log.done + length gone ≡ length old.log.done

-- what is shown of other logs under the same homes
pub shown-under : (old now : LogsView) → now.homes ≡ old.homes → shown_logs now ≡ logs_upto now.log (length old.homes.homes)
shown-under old now same = ap (λ (h : HomesView). logs_upto now.log (length h.homes)) same

left-under : (old now : LogsView) (object : ℕ) → now.homes ≡ old.homes → IsFrontLeft (shown_logs old) (logs_upto now.log (length old.homes.homes)) object → IsFrontLeft (shown_logs old) (shown_logs now) object
left-under old now object same left = let P : List (Option LogView) → Type 0 = λ ls. IsFrontLeft (shown_logs old) ls object in subst P (sym (shown-under old now same)) left

at-own : (object : ℕ) (ds : List Done) → Each (λ (d : Done). d.event.key.dest ≡ object) (dones_at object ds)
at-own object ds = Each-map (λ (d : Done). is_of object d ≡ true) (λ (d : Done). d.event.key.dest ≡ object) (dones_at object ds) (λ d is. eqb-true d.event.key.dest object is) (filter-passes (is_of object) ds)

-- an object went back to a key
pub gone-back : (key : Key) (old now : LogsView) (into : List Event) → now.homes ≡ old.homes → HasGoneBack key.dest key old.log now.log into → AreSound old.log → ((object : ℕ) → is_some (state_in old.log.objects object) ≡ true → object < length old.homes.homes) → IsHere (shown_logs old) key.dest
    → AreUndone old now (from_key key (dones_at key.dest old.log.done))
gone-back key old now into same back sound within here =
    let object = key.dest in
    let inside = within object (state-here old object here) in
    let n = length old.homes.homes in
    let late = λ (d : Done). not (key_lt d.event.key key) in
    let gone = from_key key (dones_at object old.log.done) in
    let own : Each (λ (d : Done). d.event.key.dest ≡ object) gone = Each-filter (λ (d : Done). d.event.key.dest ≡ object) late (dones_at object old.log.done) (at-own object old.log.done) in
    let P : ℕ → Type 0 = λ o. dones_at o old.log.done ≡ dones_at o now.log.done ++ dones_at o gone in
    let known = λ (d : Done). is_some (state_in old.log.objects d.event.key.dest) ≡ true in
    let both : gone ≡ filter (λ (d : Done). is_of object d && late d) old.log.done = filter-both late (is_of object) old.log.done in
    record {
      homes = same;
      ascending = Ascends-filter done_key late (dones_at object old.log.done) (own-ascends object old.log.done sound.ordered);
      parts = λ o. by_object P object o
          (back-parts object n key old.log now.log into back sound.ordered inside here ∙ ap (λ zs. dones_at object now.log.done ++ zs) (sym (only-own object gone own)))
          (λ apart. sym (back.changes.dones o apart) ∙ sym (append-nil (dones_at o now.log.done))
          ∙ ap (λ zs. dones_at o now.log.done ++ zs) (sym (filter-none (is_of o) gone (Each-map (λ (d : Done). d.event.key.dest ≡ object) (λ (d : Done). is_of o d ≡ false) gone (λ d at. is_there d o (λ there. apart (sym there ∙ at))) own))));
      left = λ o. left-under old now o same (back-left object n key old.log now.log into back sound.ordered inside here o);
      known = Each-filter known late (dones_at object old.log.done) (Each-filter known (is_of object) old.log.done sound.here);
      count =
          (let all = length-filter_both (λ (d : Done). is_of object d && late d) (stays object key) (λ d. refl) old.log.done in
          let one = ap length back.done in let two = ap length both in omega arith);
    }

-- all from a horizon on was undone
pub gone-from : (horizon : ℕ) (old now : LogsView) (into : List Event) → now.homes ≡ old.homes → HasUndoneFrom horizon old.log now.log into → AreSound old.log
    → AreUndone old now (filter (λ (d : Done). not (nat_lt d.event.key.stamp horizon)) old.log.done)
gone-from horizon old now into same back sound =
    let n = length old.homes.homes in
    let low = λ (d : Done). nat_lt d.event.key.stamp horizon in
    let late = λ (d : Done). not (nat_lt d.event.key.stamp horizon) in
    record {
      homes = same;
      ascending = Ascends-filter done_key late old.log.done sound.ordered;
      parts = λ o. undone-parts horizon old.log now.log into back sound.ordered o ∙ ap (λ zs. dones_at o now.log.done ++ zs) (sym (low-at o late old.log.done));
      left = λ o. left-under old now o same (undone-left horizon old.log now.log into back sound.ordered n o);
      known = Each-filter (λ (d : Done). is_some (state_in old.log.objects d.event.key.dest) ≡ true) late old.log.done sound.here;
      count =
          (let all = length-filter_both low late (λ d. refl) old.log.done in
          let one = ap length back.done in omega arith);
    }

-- events in order, without those in the middle
ascending-ends : (xs ys zs : List Event) → IsAscending (xs ++ (ys ++ zs)) → IsAscending (xs ++ zs)
ascending-ends xs [] zs up = up
ascending-ends xs (y ∷ ys) zs up = ascending-ends xs ys zs (ascending-skip xs y (ys ++ zs) up)

-- logs without what is in hand, which can go back
pub record CanGoBack (old now : LogsView) (queue : QueueView) (hand : List Event) : Type 0 where
  pub store : IsStore (shown_logs now) (shown_marks now) (pending_of queue)
  pub in_hand : IsInHand (store_of now queue) hand
  pub rolled : (new : StoreView) (count : ℕ) → count ≡ length hand → IsGivenBack (store_of now queue) new hand → IsRolledBack (store_of old queue) new count

module _ (old now : LogsView) (gone : List Done) (u : AreUndone old now gone) (sound : AreSound old.log) (inside : (object : ℕ) → is_some (state_in old.log.objects object) ≡ true → object < length old.homes.homes)
    (later : AreSound now.log) (within : (object : ℕ) → is_some (state_in now.log.objects object) ≡ true → object < length now.homes.homes) (queue : QueueView) (store : IsStore (shown_logs old) (shown_marks old) (pending_of queue)) where
  waits : List Event
  waits = pending_of queue

  -- they stand between what is left and what waits
  between : (object : ℕ) → events_of (log_at (shown_logs now) object).done ++ (events_at object (events_of gone) ++ events_at object waits) ≡ pending_at (shown_logs old) waits object
  unfolding events_at waits
  between object =
      (λ i. events_of (shown-done now later within object i) ++ (filter-map (λ (d : Done). d.event) (λ (e : Event). e.key.dest == object) gone i ++ events_at object (pending_of queue)))
      ∙ sym (append_assoc (events_of (dones_at object now.log.done)) (events_of (dones_at object gone)) (events_at object (pending_of queue)))
      ∙ ap (λ es. es ++ events_at object (pending_of queue)) (sym (events_of-append (dones_at object now.log.done) (dones_at object gone)) ∙ ap events_of (sym (u.parts object) ∙ sym (shown-done old sound inside object)))

  counted : length (shown_marks now) + length gone ≡ length (shown_marks old)
  counted = let was = marks-long old in let is = marks-long now in let total = u.count in omega arith

  -- without them the store is as sound
  undone-store : IsStore (shown_logs now) (shown_marks now) (pending_of queue)
  unfolding waits
  undone-store =
      let A : List Event → Type 0 = IsAscending in
      let total = counted in let few = store.few in
      shown-store now later within (pending_of queue)
      (λ o. ascending-ends (events_of (log_at (shown_logs now) o).done) (events_at o (events_of gone)) (events_at o (pending_of queue)) (subst A (sym (between o)) (store.held.ordered o)))
      store.held.waiting_ordered
      (Each-map (λ (e : Event). IsHere (shown_logs old) e.key.dest) (λ (e : Event). IsHere (shown_logs now) e.key.dest) (pending_of queue) (λ e at. (u.left e.key.dest).still.here at) store.held.waiting_here)
      (omega arith)

  -- they can go back
  undone-hand : (hand : List Event) → hand ≡ events_of gone → IsInHand (store_of now queue) hand
  unfolding waits
  undone-hand hand is =
      let A : List Event → Type 0 = IsAscending in
      let H : List Event → Type 0 = IsInHand (store_of now queue) in
      let total = counted in let few = store.few in let long = length-map gone (λ (d : Done). d.event) in
      subst H (sym is) (record {
        ascending = Ascends-map key_of (λ (d : Done). d.event) gone u.ascending;
        ordered = λ o. subst A (sym (between o)) (store.held.ordered o);
        here = each-events (λ (e : Event). IsHere (shown_logs now) e.key.dest) gone
            (Each-map (λ (d : Done). is_some (state_in old.log.objects d.event.key.dest) ≡ true) (λ (d : Done). IsHere (shown_logs now) d.event.key.dest) gone
            (λ d known. (u.left d.event.key.dest).still.here (shown-here old sound inside d.event.key.dest known)) u.known);
        few = omega arith;
      })

  -- and then no event came or went
  undone-rolled : (new : StoreView) (hand : List Event) (count : ℕ) → hand ≡ events_of gone → count ≡ length hand → IsGivenBack (store_of now queue) new hand → IsRolledBack (store_of old queue) new count
  unfolding waits
  undone-rolled new hand count is counts given =
      let marks = ap length given.marks in let total = counted in let long = ap length is ∙ length-map gone (λ (d : Done). d.event) in
      let ws = ap length given.waiting ∙ length-enqueue_all hand (pending_of queue) in
      let L : List (Option LogView) → ℕ → Type 0 = λ ls o. IsFrontLeft (shown_logs old) ls o in
      let left : (o : ℕ) → IsFrontLeft (shown_logs old) new.logs o = λ o. (let P : List (Option LogView) → Type 0 = λ ls. L ls o in subst P (sym given.logs) (u.left o)) in
      record {
        homes = given.homes ∙ u.homes;
        pending = λ o. (λ i. events_of (log_at (given.logs i) o).done ++ given.parts o i) ∙ ap (λ es. events_of (log_at (shown_logs now) o).done ++ (events_at o es ++ events_at o (pending_of queue))) is ∙ between o;
        base = λ o. (left o).base;
        logs = λ o. (left o).still;
        long = ap length given.logs ∙ shown-long now ∙ ap (λ (h : HomesView). length h.homes) u.homes ∙ sym (shown-long old);
        count_is = omega arith;
        total = omega arith;
        spare = given.spare;
      }

  pub can-go-back : (hand : List Event) → hand ≡ events_of gone → CanGoBack old now queue hand
  can-go-back hand is = record { store = undone-store; in_hand = undone-hand hand is; rolled = λ new count counts given. undone-rolled new hand count is counts given }
