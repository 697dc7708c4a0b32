use Rattle.std.proofs.Common.{◌≡◌, ◌++◌, vec_len, vec_capacity}
use Rattle.std.specs.Prelude.{IsPermutation}
use Rattle.parcel_exchange.specs.Mail.{events_in}
use Rattle.parcel_exchange.proofs.inbox.Inbox.open.Given as goal

abbrev pub invariant-loop-parcel : goal.invariant-loop-parcel
invariant-loop-parcel l = record {
  moved : IsPermutation (l.initial.self.arrived ++ events_in l.initial.self.early.items) (l.self.arrived ++ events_in l.self.early.items);
  room : vec_capacity l.self.early ≡ vec_capacity l.initial.self.early;
}

abbrev pub decreases-loop-parcel : goal.decreases-loop-parcel
decreases-loop-parcel l = vec_len l.self.early
