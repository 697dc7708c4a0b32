-- The news that are left come before all in front.
use Rattle.std.proofs.Common.{◌≡◌, ◌≤◌, ℕ, List, [], ◌∷◌, ◌++◌, length}
use Rattle.model_core.specs.declared.event.Event.{Event}
use Rattle.object_log.specs.Dones.{Done}
use Rattle.event_log.specs.Items.{placed}
use Rattle.event_log.specs.Processing.{CanCarry, merged}
use Rattle.event_log.specs.Turning.{AreAfter, IsTurned, turned_back, turned_view}
use Rattle.event_log.proofs.turning.carry_into.Given as goal

abbrev pub invariant-loop-news : goal.invariant-loop-news
invariant-loop-news l = record {
  turned : IsTurned l.turned l.items.items;
  can : CanCarry l.places.items l.news (turned_view l.turned l.items.items l.items.capacity) l.cells;
  same : merged l.news.done l.places.items (placed (turned_back l.turned l.items.items)) ≡ merged l.fn.news.done l.fn.places.items (placed (turned_back 0 l.fn.items.items));
  after : (ds : List Done) (d : Done) → l.news.done ≡ ds ++ d ∷ [] → AreAfter d.event.key l.turned l.items.items;
  done : (own : List Done) × (l.fn.news.done ≡ l.news.done ++ own);
  enough : l.from ≤ length l.news.done;
  sent : (own : List (ℕ × Event)) × (l.fn.news.sent ≡ l.news.sent ++ own);
  nodes : l.news.nodes ≡ l.fn.news.nodes;
}

abbrev pub decreases-loop-news : goal.decreases-loop-news
decreases-loop-news l = length l.news.done
