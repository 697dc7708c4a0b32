-- A node that an object leaves, and one that it comes to.
use Rattle.std.proofs.Common.{◌≡◌, ◌≢◌, ℕ, ◌+◌, ◌-◌, ◌%◌, ◌<◌, ◌^◌, List, length, Option, Some, None, is_some, refl, sym, ap, ◌∙◌, subst, arith}
use Rattle.std.specs.Prelude.{IsTrue}
use Rattle.std.specs.List.{AllByRecursion as Each}
use Rattle.std.proofs.lemmas.List.{length-map}
use Rattle.event_key.specs.Stamps.{end_stamp}
use Rattle.model_core.specs.declared.event.Event.{Event}
use Rattle.model_core.specs.Meaning.{Meaning}
use Rattle.sim_spec.specs.declared.terms.Terms.{Terms}
use Rattle.sim_spec.specs.Replay.{events_at}
use Rattle.object_log.specs.Logs.{LogView, events_of, undone}
use Rattle.object_log.specs.Replays.{IsLogOf, IsReplayed}
use Rattle.world_spec.specs.Share.{IsHome}
use Rattle.node_core.specs.Homes.{HomesView, home_of}
use Rattle.node_core.specs.Marks.{MarkView}
use Rattle.node_core.specs.Moving.{AreAlikeBut, CanCome, CanTakeIn, HasCome, HasLeft, HasTakenIn, HasTakenOut, IsMovable, IsPutAt, MovedView}
use Rattle.node_core.specs.Nodes.{Counts, IsHere, NodeView, base_at, log_at, no_log, slot_at}
use Rattle.node_core.specs.Rows.{keys_of}
use Rattle.node_core.specs.Sound.{IsNode, IsStore}
use Rattle.node_core.specs.Stores.{StoreView}
use Rattle.node_core.proofs.MovingStore.{same-here, same-log, slot-away, slot-here, slot-log}
use Rattle.node_core.proofs.NodeViews.{node_of}
use Rattle.node_core.proofs.StoreLemmas.{by_object}

-- the tallies still agree
less-processed : (p c u long less whole : ℕ) → p ≡ (c + u + whole) % 2 ^ 64 → long + less ≡ whole → less < 2 ^ 60 → (p + (2 ^ 64 - less)) % 2 ^ 64 ≡ (c + u + long) % 2 ^ 64
less-processed p c u long less whole is parts few = grind arith

more-processed : (p c u long more whole : ℕ) → p ≡ (c + u + long) % 2 ^ 64 → whole ≡ long + more → (p + more) % 2 ^ 64 ≡ (c + u + whole) % 2 ^ 64
more-processed p c u long more whole is parts = grind arith

not-here : (logs : List (Option LogView)) (object : ℕ) → (IsHere logs object → ⊥) → slot_at logs object ≡ None
unfolding IsHere
not-here logs object away = by_slot (slot_at logs object) refl
  where
    by_slot : (slot : Option LogView) → slot_at logs object ≡ slot → slot ≡ None
    by_slot None is = refl
    by_slot (Some log) is = absurd (away (ap is_some is))

module _ (m : Meaning) (t : Terms) (number object : ℕ) (homes homes' : HomesView) (s s' : StoreView) (moved : MovedView) (counts : Counts) (node : IsNode m t number homes s.logs s.marks counts) (store : IsStore s.logs s.marks s.waiting)
    (left : HasLeft object s s' moved) (alike : AreAlikeBut object homes homes') (goes : home_of homes' object ≢ number) where
  gone : log_at s'.logs object ≡ no_log
  gone = slot-log s'.logs object None left.logs.gone

  was : log_at s.logs object ≡ moved.log
  was = slot-log s.logs object (Some moved.log) left.logs.was

  few : length moved.log.done < 2 ^ 60
  few = let small = store.few in let all = left.count in omega arith

  pub node-left : (count : ℕ) → count ≡ length moved.log.done → IsNode m t number homes' s'.logs s'.marks (record counts { processed = (counts.processed + (2 ^ 64 - count)) % 2 ^ 64 })
  unfolding IsReplayed
  node-left count count_is =
      let same_log = λ (o : ℕ) (apart : o ≢ object). same-log s.logs s'.logs o (left.logs.others o apart) in
      let back = λ (o : ℕ) (apart : o ≢ object). same-here s'.logs s.logs o (sym (left.logs.others o apart)) in
      let H : ℕ → Type 0 = λ o. IsHome m (home_of homes') number o → IsHere s'.logs o in
      let O : ℕ → Type 0 = λ o. IsHere s'.logs o → home_of homes' o ≡ number in
      let L : ℕ → Type 0 = λ o. IsHere s'.logs o → IsTrue (m.lawful o (base_at s'.logs o).cells) in
      let R : ℕ → Type 0 = λ o. IsLogOf m (log_at s'.logs o) in
      let B : ℕ → Type 0 = λ o. Each (λ (e : Event). e.key.stamp < end_stamp t.end) (events_of (log_at s'.logs o).done) in
      let RL : LogView → Type 0 = λ l. IsLogOf m l in
      let BL : LogView → Type 0 = λ l. Each (λ (e : Event). e.key.stamp < end_stamp t.end) (events_of l.done) in
      let E : ℕ → Type 0 = λ nodes. number < nodes in
      record {
        exists = subst E (sym alike.nodes) node.exists;
        objects = alike.objects ∙ node.objects;
        here = λ o. by_object H object o (λ home. absurd (goes home.1)) (λ apart home. same-here s.logs s'.logs o (left.logs.others o apart) (node.here o (home.0, sym (alike.others o apart) ∙ home.1)));
        only = λ o. by_object O object o (λ here. absurd (slot-away s'.logs object left.logs.gone here)) (λ apart here. alike.others o apart ∙ node.only o (back o apart here));
        lawful = record {
          long = left.logs.long ∙ node.lawful.long;
          lawful = λ o. by_object L object o (λ here. absurd (slot-away s'.logs object left.logs.gone here))
              (λ apart here. let P : LogView → Type 0 = λ l. IsTrue (m.lawful o (undone l.state l.done).cells) in subst P (sym (same_log o apart)) (node.lawful.lawful o (back o apart here)));
          replayed = λ o. by_object R object o (subst RL (sym gone) tt) (λ apart. subst RL (sym (same_log o apart)) (node.lawful.replayed o));
          below = λ o. by_object B object o (subst BL (sym gone) tt) (λ apart. subst BL (sym (same_log o apart)) (node.lawful.below o));
        };
        balance =
            (let less = few in let all = left.count in
            less-processed counts.processed counts.committed counts.undone (length s'.marks) count (length s.marks) node.balance (omega arith) (omega arith));
      }

  pub is-movable : IsHome m (home_of homes) number object → IsMovable m t moved
  is-movable home =
      let here = node.here object home in
      let L : LogView → Type 0 = λ l. IsTrue (m.lawful object (undone l.state l.done).cells) in
      let R : LogView → Type 0 = λ l. IsLogOf m l in
      let B : LogView → Type 0 = λ l. Each (λ (e : Event). e.key.stamp < end_stamp t.end) (events_of l.done) in
      let N : ℕ → Type 0 = λ o. IsTrue (m.lawful o (undone moved.log.state moved.log.done).cells) in
      let E : ℕ → Type 0 = λ o. o < m.objects in
      record {
        own = left.own;
        exists = subst E (sym left.number) home.0;
        lawful = subst N (sym left.number) (subst L was (node.lawful.lawful object here));
        replayed = subst R was (node.lawful.replayed object);
        below = subst B was (node.lawful.below object);
      }

  pub taken-out : {M : Type 0} (model : M) (work met count : ℕ) → count ≡ length moved.log.done → IsHome m (home_of homes) number object
      → HasTakenOut m object homes' (node_of model t number homes s work met counts) (node_of model t number homes' s' work met (record counts { processed = (counts.processed + (2 ^ 64 - count)) % 2 ^ 64 })) moved
  taken-out model work met count count_is home =
      let one = length-map s.marks (λ (k : MarkView). k.key) in
      let two = length-map s'.marks (λ (k : MarkView). k.key) in
      let all = left.count in
      record {
        same = record { model = refl; terms = refl; number = refl; homes_are = refl; work = refl; met = refl };
        movable = is-movable home;
        number = left.number;
        logs = left.logs;
        waiting = left.waiting;
        rest = left.rest;
        processed = omega arith;
        total = left.total;
        spare = left.spare;
        counts = ap (λ (k : ℕ). record counts { processed = (counts.processed + (2 ^ 64 - k)) % 2 ^ 64 }) count_is;
      }

module _ {M : Type 0} (m : Meaning) (n : NodeView M) (s : StoreView) (homes_are : n.homes ≡ s.homes) (logs_are : n.logs ≡ s.logs) (processed_are : n.processed ≡ keys_of s.marks) (waiting_is : n.waiting ≡ s.waiting) (spare_is : n.spare ≡ s.spare)
    (homes' : HomesView) (moved : MovedView) (node : IsNode m n.terms n.number n.homes s.logs s.marks n.counts) (can : CanTakeIn m homes' n moved) where
  away : slot_at s.logs moved.log.object ≡ None
  away = not-here s.logs moved.log.object (λ here. can.away (node.only moved.log.object here))

  pub can-come : CanCome homes' s moved
  can-come =
      let long = node.lawful.long in let low = can.movable.exists in
      let one = ap length processed_are ∙ length-map s.marks (λ (k : MarkView). k.key) in
      let two = ap length waiting_is in
      let room = can.room in let few = can.few in
      let places = can.places in let objects = node.objects in
      let alike = can.homes_are in
      record {
        own = can.movable.own;
        away = away;
        inside = omega arith;
        nodes = alike.nodes ∙ ap (λ (h : HomesView). h.nodes) homes_are;
        objects = alike.objects ∙ ap (λ (h : HomesView). length h.homes) homes_are;
        room = omega arith;
        places = omega arith;
        few = omega arith;
      }

  pub node-came : (s' : StoreView) → HasCome s s' moved → (count : ℕ) → count ≡ length moved.log.done
      → IsNode m n.terms n.number homes' s'.logs s'.marks (record n.counts { processed = (n.counts.processed + count) % 2 ^ 64 })
  node-came s' came count count_is =
      let object = moved.log.object in
      let same_log = λ (o : ℕ) (apart : o ≢ object). same-log s.logs s'.logs o (came.logs.others o apart) in
      let back = λ (o : ℕ) (apart : o ≢ object). same-here s'.logs s.logs o (sym (came.logs.others o apart)) in
      let now : log_at s'.logs object ≡ moved.log = slot-log s'.logs object (Some moved.log) came.logs.here in
      let H : ℕ → Type 0 = λ o. IsHome m (home_of homes') n.number o → IsHere s'.logs o in
      let O : ℕ → Type 0 = λ o. IsHere s'.logs o → home_of homes' o ≡ n.number in
      let L : ℕ → Type 0 = λ o. IsHere s'.logs o → IsTrue (m.lawful o (base_at s'.logs o).cells) in
      let R : ℕ → Type 0 = λ o. IsLogOf m (log_at s'.logs o) in
      let B : ℕ → Type 0 = λ o. Each (λ (e : Event). e.key.stamp < end_stamp n.terms.end) (events_of (log_at s'.logs o).done) in
      let L0 : LogView → Type 0 = λ l. IsTrue (m.lawful object (undone l.state l.done).cells) in
      let RL : LogView → Type 0 = λ l. IsLogOf m l in
      let BL : LogView → Type 0 = λ l. Each (λ (e : Event). e.key.stamp < end_stamp n.terms.end) (events_of l.done) in
      let alike = can.homes_are in
      let E : ℕ → Type 0 = λ nodes. n.number < nodes in
      record {
        exists = subst E (sym alike.nodes) node.exists;
        objects = alike.objects ∙ node.objects;
        here = λ o. by_object H object o (λ home. slot-here s'.logs object moved.log came.logs.here)
            (λ apart home. same-here s.logs s'.logs o (came.logs.others o apart) (node.here o (home.0, sym (alike.others o apart) ∙ home.1)));
        only = λ o. by_object O object o (λ here. can.comes) (λ apart here. alike.others o apart ∙ node.only o (back o apart here));
        lawful = record {
          long = came.logs.long ∙ node.lawful.long;
          lawful = λ o. by_object L object o (λ here. subst L0 (sym now) can.movable.lawful)
              (λ apart here. let P : LogView → Type 0 = λ l. IsTrue (m.lawful o (undone l.state l.done).cells) in subst P (sym (same_log o apart)) (node.lawful.lawful o (back o apart here)));
          replayed = λ o. by_object R object o (subst RL (sym now) can.movable.replayed) (λ apart. subst RL (sym (same_log o apart)) (node.lawful.replayed o));
          below = λ o. by_object B object o (subst BL (sym now) can.movable.below) (λ apart. subst BL (sym (same_log o apart)) (node.lawful.below o));
        };
        balance = more-processed n.counts.processed n.counts.committed n.counts.undone (length s.marks) count (length s'.marks) node.balance (let all = came.count in omega arith);
      }

  pub taken-in : (s' : StoreView) → HasCome s s' moved → (count : ℕ) → count ≡ length moved.log.done
      → HasTakenIn homes' n (node_of n.model n.terms n.number homes' s' n.work n.met (record n.counts { processed = (n.counts.processed + count) % 2 ^ 64 })) moved
  taken-in s' came count count_is =
      let L : List (Option LogView) → Type 0 = λ ls. IsPutAt moved.log.object ls s'.logs moved.log in
      let one = length-map s.marks (λ (k : MarkView). k.key) in
      let two = length-map s'.marks (λ (k : MarkView). k.key) in
      let processed = ap length processed_are in
      let waiting_long = ap length waiting_is in
      let all = came.count in
      let whole = came.total in
      record {
        same = record { model = refl; terms = refl; number = refl; homes_are = refl; work = refl; met = refl };
        logs = subst L (sym logs_are) came.logs;
        waiting = came.waiting;
        rest = λ other apart. came.rest other apart ∙ ap (events_at other) (sym waiting_is);
        processed = omega arith;
        total = omega arith;
        spare = came.spare ∙ sym spare_is;
        counts = ap (λ (k : ℕ). record n.counts { processed = (n.counts.processed + k) % 2 ^ 64 }) count_is;
      }
