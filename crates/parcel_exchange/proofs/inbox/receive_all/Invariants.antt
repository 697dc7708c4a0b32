use Rattle.std.proofs.Common.{◌≡◌, ℕ, ◌<◌, ◌≤◌, [], length}
use Rattle.std.specs.Prelude.{Some, slice_get}
use Rattle.parcel_exchange.specs.declared.inbox.Inbox.{Inbox}
use Rattle.parcel_exchange.specs.Inboxes.{HasArrived}
use Rattle.parcel_exchange.proofs.inbox.receive_all.Given as goal

abbrev pub invariant-loop-to : goal.invariant-loop-to
invariant-loop-to g l = record {
  back : g.L.Lanes.are_back l.lanes;
  nodes : g.L.Lanes.nodes l.lanes ≡ g.L.Lanes.nodes l.initial.lanes;
  none : (i j : ℕ) → i < length l.initial.inboxes → j < l.to → g.L.Lanes.rest l.lanes i j ≡ [];
  rests : (i j : ℕ) → i < length l.initial.inboxes → l.to ≤ j → j < length l.initial.inboxes → g.L.Lanes.rest l.lanes i j ≡ g.L.Lanes.rest l.initial.lanes i j;
  arrived : (k : ℕ) (x y : Inbox) → k < l.to → slice_get l.initial.inboxes k ≡ Some x → slice_get l.inboxes k ≡ Some y
      → HasArrived (length l.initial.inboxes) (λ from. g.L.Lanes.rest l.initial.lanes from k) x y;
  left : (k : ℕ) → l.to ≤ k → slice_get l.inboxes k ≡ slice_get l.initial.inboxes k;
}
