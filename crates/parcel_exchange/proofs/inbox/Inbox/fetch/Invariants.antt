use Rattle.std.proofs.Common.{◌≡◌, ◌≢◌, ℕ, ◌<◌, ◌++◌, length}
use Rattle.std.specs.Prelude.{IsPermutation}
use Rattle.parcel_exchange.specs.Mail.{events_in, from_each}
use Rattle.parcel_exchange.proofs.inbox.Inbox.fetch.Given as goal

abbrev pub invariant-loop-parcel : goal.invariant-loop-parcel
invariant-loop-parcel g l = record {
  back : g.L.Lanes.are_back l.lanes;
  nodes : g.L.Lanes.nodes l.lanes ≡ g.L.Lanes.nodes l.initial.lanes;
  others : (i j : ℕ) → i < g.L.Lanes.nodes l.initial.lanes → j < g.L.Lanes.nodes l.initial.lanes → j ≢ l.to → g.L.Lanes.rest l.lanes i j ≡ g.L.Lanes.rest l.initial.lanes i j;
  moved : IsPermutation (l.initial.self.arrived ++ from_each (g.L.Lanes.nodes l.initial.lanes) (λ from. events_in (g.L.Lanes.rest l.initial.lanes from l.to)))
      (l.self.arrived ++ from_each (g.L.Lanes.nodes l.initial.lanes) (λ from. events_in (g.L.Lanes.rest l.lanes from l.to)));
  early : l.self.early ≡ l.initial.self.early;
}

abbrev pub decreases-loop-parcel : goal.decreases-loop-parcel
decreases-loop-parcel g l = length (from_each (g.L.Lanes.nodes l.lanes) (λ from. g.L.Lanes.rest l.lanes from l.to))
