-- Objects that go from node to node with their logs and the events that wait for them.
use Rattle.std.specs.Prelude.{◌≡◌, ◌≢◌, ℕ, ◌+◌, ◌-◌, ◌%◌, ◌^◌, ◌<◌, ◌≤◌, IsTrue, List, ◌++◌, length, filter, ◌==◌, Option, Some, None}
use Rattle.std.specs.List.{AllByRecursion}
use Rattle.event_key.specs.Stamps.{end_stamp}
use Rattle.key_order.specs.Ascending.{IsAscending}
use Rattle.model_core.specs.declared.event.Event.{Event}
use Rattle.model_core.specs.Meaning.{Meaning}
use Rattle.sim_spec.specs.declared.terms.Terms.{Terms}
use Rattle.sim_spec.specs.Replay.{events_at}
use Rattle.object_log.specs.Keeping.{OnlyLastFailed}
use Rattle.object_log.specs.Logs.{LogView, undone, events_of}
use Rattle.object_log.specs.Replays.{IsLogOf}
use Rattle.node_core.specs.Homes.{HomesView, home_of}
use Rattle.node_core.specs.Marks.{MarkView}
use Rattle.node_core.specs.Nodes.{NodeView, slot_at}
use Rattle.node_core.specs.Stores.{StoreView}

-- an object with its log, the events that wait for it, and for how many processed events and objects there is room where it comes
pub record MovedView : Type 0 where
  pub log : LogView
  pub waiting : List Event
  pub room : ℕ
  pub places : ℕ

-- the events are the object's own and in order, and only the last processed one may have failed
pub record IsOwn (moved : MovedView) : Type 0 where
  pub last : OnlyLastFailed moved.log.done
  pub ordered : IsAscending (events_of moved.log.done ++ moved.waiting)
  pub processed : AllByRecursion (λ e. e.key.dest ≡ moved.log.object) (events_of moved.log.done)
  pub waits : AllByRecursion (λ e. e.key.dest ≡ moved.log.object) moved.waiting

-- the log is one of the model, from lawful cells, and nothing of it is from the end on
pub record IsMovable (m : Meaning) (t : Terms) (moved : MovedView) : Type 0 where
  pub own : IsOwn moved
  pub exists : moved.log.object < m.objects
  pub lawful : IsTrue (m.lawful moved.log.object (undone moved.log.state moved.log.done).cells)
  pub replayed : IsLogOf m moved.log
  pub below : AllByRecursion (λ e. e.key.stamp < end_stamp t.end) (events_of moved.log.done)

-- the marks of an object
abbrev pub marks_at : ℕ → List MarkView → List MarkView
marks_at object = filter (λ mark. mark.key.dest == object)

-- the log of an object was taken out
pub record IsTakenAt (object : ℕ) (old new : List (Option LogView)) (log : LogView) : Type 0 where
  pub was : slot_at old object ≡ Some log
  pub gone : slot_at new object ≡ None
  pub others : (other : ℕ) → other ≢ object → slot_at new other ≡ slot_at old other
  pub long : length new ≡ length old

-- the log of an object was put in
pub record IsPutAt (object : ℕ) (old new : List (Option LogView)) (log : LogView) : Type 0 where
  pub here : slot_at new object ≡ Some log
  pub others : (other : ℕ) → other ≢ object → slot_at new other ≡ slot_at old other
  pub long : length new ≡ length old

-- an object left, with its log and the events that wait for it
pub record HasLeft (object : ℕ) (old new : StoreView) (moved : MovedView) : Type 0 where
  pub logs : IsTakenAt object old.logs new.logs moved.log
  pub number : moved.log.object ≡ object
  pub own : IsOwn moved
  pub waiting : moved.waiting ≡ events_at object old.waiting
  pub rest : (other : ℕ) → other ≢ object → events_at other new.waiting ≡ events_at other old.waiting
  pub count : length new.marks + length moved.log.done ≡ length old.marks
  pub total : length new.waiting + length moved.waiting ≡ length old.waiting
  pub spare : old.spare ≤ new.spare

-- an object that isn't here can come: there is room for it and for what it has processed
pub record CanCome (homes : HomesView) (s : StoreView) (moved : MovedView) : Type 0 where
  pub own : IsOwn moved
  pub away : slot_at s.logs moved.log.object ≡ None
  pub inside : moved.log.object < length s.logs
  pub nodes : homes.nodes ≡ s.homes.nodes
  pub objects : length homes.homes ≡ length s.homes.homes
  pub room : length s.marks + length moved.log.done ≤ moved.room
  pub places : length s.logs ≤ moved.places
  pub few : length s.marks + length s.waiting + (length moved.log.done + length moved.waiting) < 2 ^ 60

-- an object came, with its log and the events that wait for it
pub record HasCome (old new : StoreView) (moved : MovedView) : Type 0 where
  pub logs : IsPutAt moved.log.object old.logs new.logs moved.log
  pub waiting : events_at moved.log.object new.waiting ≡ moved.waiting
  pub rest : (other : ℕ) → other ≢ moved.log.object → events_at other new.waiting ≡ events_at other old.waiting
  pub count : length new.marks ≡ length old.marks + length moved.log.done
  pub total : length new.waiting ≡ length old.waiting + length moved.waiting
  pub spare : new.spare ≡ old.spare

-- only this object has another home
pub record AreAlikeBut (object : ℕ) (old new : HomesView) : Type 0 where
  pub nodes : new.nodes ≡ old.nodes
  pub objects : length new.homes ≡ length old.homes
  pub others : (other : ℕ) → other ≢ object → home_of new other ≡ home_of old other

-- a node has the same objects
pub record KeepObjects (number : ℕ) (old new : HomesView) : Type 0 where
  pub nodes : new.nodes ≡ old.nodes
  pub objects : length new.homes ≡ length old.homes
  pub stays : (object : ℕ) → home_of old object ≡ number → home_of new object ≡ number
  pub was : (object : ℕ) → home_of new object ≡ number → home_of old object ≡ number

module _ {M : Type 0} where
  -- the same node under these homes
  pub record HasHomes (homes : HomesView) (old new : NodeView M) : Type 0 where
    pub model : new.model ≡ old.model
    pub terms : new.terms ≡ old.terms
    pub number : new.number ≡ old.number
    pub homes_are : new.homes ≡ homes
    pub work : new.work ≡ old.work
    pub met : new.met ≡ old.met

  -- the object left with all that was its own, and the others stay
  pub record HasTakenOut (m : Meaning) (object : ℕ) (homes : HomesView) (old new : NodeView M) (moved : MovedView) : Type 0 where
    pub same : HasHomes homes old new
    pub movable : IsMovable m old.terms moved
    pub number : moved.log.object ≡ object
    pub logs : IsTakenAt object old.logs new.logs moved.log
    pub waiting : moved.waiting ≡ events_at object old.waiting
    pub rest : (other : ℕ) → other ≢ object → events_at other new.waiting ≡ events_at other old.waiting
    pub processed : length new.processed + length moved.log.done ≡ length old.processed
    pub total : length new.waiting + length moved.waiting ≡ length old.waiting
    pub spare : old.spare ≤ new.spare
    pub counts : new.counts ≡ record old.counts { processed = (old.counts.processed + (2 ^ 64 - length moved.log.done)) % 2 ^ 64 }

  -- a node can take an object in
  pub record CanTakeIn (m : Meaning) (homes : HomesView) (n : NodeView M) (moved : MovedView) : Type 0 where
    pub movable : IsMovable m n.terms moved
    pub homes_are : AreAlikeBut moved.log.object n.homes homes
    pub away : home_of n.homes moved.log.object ≢ n.number
    pub comes : home_of homes moved.log.object ≡ n.number
    pub room : length n.processed + length moved.log.done ≤ moved.room
    pub places : length n.homes.homes ≤ moved.places
    pub few : length n.processed + length n.waiting + (length moved.log.done + length moved.waiting) < 2 ^ 60

  -- the object came with all that is its own, and the others stay
  pub record HasTakenIn (homes : HomesView) (old new : NodeView M) (moved : MovedView) : Type 0 where
    pub same : HasHomes homes old new
    pub logs : IsPutAt moved.log.object old.logs new.logs moved.log
    pub waiting : events_at moved.log.object new.waiting ≡ moved.waiting
    pub rest : (other : ℕ) → other ≢ moved.log.object → events_at other new.waiting ≡ events_at other old.waiting
    pub processed : length new.processed ≡ length old.processed + length moved.log.done
    pub total : length new.waiting ≡ length old.waiting + length moved.waiting
    pub spare : new.spare ≡ old.spare
    pub counts : new.counts ≡ record old.counts { processed = (old.counts.processed + length moved.log.done) % 2 ^ 64 }
