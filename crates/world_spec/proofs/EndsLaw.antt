-- A closed cycle can be ended, whatever the order of arrival.
use Rattle.std.proofs.Common.{◌≡◌, ℕ, ◌+◌, ◌<◌, List, ◌++◌, length, drop, sym, refl, ap, ◌∙◌}
use Rattle.std.specs.Prelude.{IsPermutation}
use Rattle.model_core.specs.declared.event.Event.{Event}
use Rattle.model_core.specs.Meaning.{Meaning, MeaningLaws}
use Rattle.sim_spec.specs.declared.terms.Terms.{Terms}
use Rattle.key_order.specs.Pending.{enqueue_all}
use Rattle.sim_spec.specs.State.{State}
use Rattle.sim_spec.specs.Cut.{committed_events, cut}
use Rattle.sim_spec.specs.Replay.{events_at}
use Rattle.world_spec.specs.Early.{is_before_all, leading}
use Rattle.world_spec.specs.Closed.{cut_key}
use Rattle.world_spec.specs.Share.{Share, IsHome, NodeData, StandsFor, ahead_events, log_of}
use Rattle.world_spec.specs.Moves.{received_ahead, committed, committed_ahead, due_count, without_first, IsCommit, IsReceipt}
use Rattle.world_spec.specs.Parcels.{parcels}
use Rattle.world_spec.specs.World.{WorldData, WorldStands, WorldIsClosed}
use Rattle.world_spec.specs.WorldLaws.{CanEnd, EndsLaw, next_share}
use Rattle.world_spec.proofs.FrontLemmas.{leading-le, leading-pass}
use Rattle.world_spec.proofs.ReceiptLaw.{front-ahead}
use Rattle.world_spec.proofs.NextWorld.{commit_stands, next_ordered, next_homed}
use Rattle.world_spec.proofs.WaitingLemmas.{waiting_events, waiting_events-at, waiting_events-each, waiting_events-ascending}

module _ (m : Meaning) (t : Terms) (laws : MeaningLaws m) (home : ℕ → ℕ) (nodes : ℕ) (s : State) (shares : ℕ → Share) (ahead : ℕ → ℕ) (world : WorldData) (bound : ℕ) (es : ℕ → List Event)
    (stands : WorldStands m t home nodes s shares ahead world) (closed : WorldIsClosed m t home nodes world.node bound)
    (arrivals : (node : ℕ) → node < nodes → IsPermutation (parcels home (committed_events m t s) node nodes) (es node)) where
  abbrev rest : ℕ → Share
  rest node = committed m bound (cut_key m t s) (shares node)

  abbrev rest_ahead : ℕ → ℕ → ℕ
  rest_ahead node = committed_ahead bound (cut_key m t s) (shares node) ahead

  abbrev ahead_then : ℕ → ℕ → ℕ
  ahead_then node = received_ahead (es node) (rest node) (rest_ahead node)

  mid : ℕ → NodeData
  mid node = record {
    log = λ object. without_first (due_count bound (cut_key m t s) (shares node) object) ((world.node node).log object);
    unprocessed = (world.node node).unprocessed;
  }

  new_node : ℕ → NodeData
  new_node node = record {
    log = λ object. log_of m (rest node) object (ahead_then node object);
    unprocessed = waiting_events (ahead_then node) (next_share m t s bound (shares node) (es node)).pending;
  }

  commits : (node : ℕ) → node < nodes → IsCommit m home node bound (cut_key m t s) (shares node) (world.node node) (mid node)
  unfolding mid
  commits node inside = record { logs = λ object at. refl; waits = refl }

  mid_stands : (node : ℕ) → node < nodes → StandsFor m t home node (rest node) (rest_ahead node) (mid node)
  mid_stands = commit_stands m t laws home nodes s shares ahead world stands bound closed mid commits

  waits : (node : ℕ) → node < nodes → (object : ℕ) → IsHome m home node object
      → drop (ahead_then node object) (events_at object (next_share m t s bound (shares node) (es node)).pending)
      ≡ enqueue_all (events_at object (es node)) (drop (ahead_then node object) (ahead_events (rest node) object (rest_ahead node object)) ++ events_at object (mid node).unprocessed)
  unfolding received_ahead
  waits node inside object at =
      let here = mid_stands node inside in
      let passes = is_before_all (events_at object (es node)) in
      let xs = ahead_events (rest node) object (rest_ahead node object) in
      let up = next_ordered m t laws home nodes s shares ahead world stands bound closed es arrivals node inside in
      (front-ahead m t (rest node) object (rest_ahead node object) (leading passes xs) (es node) (here.early object at) up (leading-le passes xs) (leading-pass passes xs)).3
      ∙ ap (λ ys. enqueue_all (events_at object (es node)) (drop (leading passes xs) xs ++ ys)) (sym (here.waiting object at))

  receipts : (node : ℕ) → node < nodes → IsReceipt m home node (es node) (rest node) (rest_ahead node) (mid node) (new_node node)
  unfolding new_node
  receipts node inside =
      let up = next_ordered m t laws home nodes s shares ahead world stands bound closed es arrivals node inside in
      record {
        logs = λ object at. refl;
        ordered = waiting_events-ascending (ahead_then node) (next_share m t s bound (shares node) (es node)).pending up;
        homed = waiting_events-each _ (ahead_then node) (next_share m t s bound (shares node) (es node)).pending (next_homed m t laws home nodes s shares ahead world stands bound closed es arrivals node inside);
        waits = λ object at.
            waiting_events-at (ahead_then node) (next_share m t s bound (shares node) (es node)).pending object ∙ waits node inside object at;
      }

  can_end : CanEnd m t home nodes s shares ahead bound es world
  can_end = record {
    new = record { made = world.made; node = new_node; count = world.count + length (committed_events m t s); fault = (cut m t s).fault };
    ends = record {
      mid = mid;
      commits = commits;
      arrivals = arrivals;
      receipts = receipts;
      made = λ node inside. refl;
      count = refl;
      fault = refl;
    };
  }

pub ends_law : (m : Meaning) (t : Terms) → MeaningLaws m → EndsLaw m t
ends_law m t laws home nodes s shares ahead world bound es stands closed arrivals = can_end m t laws home nodes s shares ahead world bound es stands closed arrivals
