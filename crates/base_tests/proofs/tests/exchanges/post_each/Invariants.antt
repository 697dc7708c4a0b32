use Rattle.std.proofs.Common.{◌≡◌, ℕ, ◌<◌, ◌≤◌, [], length, get_or}
use Rattle.std.specs.Prelude.{All, Some, slice_get}
use Rattle.std.specs.List.{AllZip}
use Rattle.parcel_exchange.specs.declared.inbox.Inbox.{Inbox}
use Rattle.parcel_exchange.specs.Exchange.{HasExchanged}
use Rattle.base_tests.proofs.tests.exchanges.post_each.Given as goal

abbrev pub invariant-loop-k : goal.invariant-loop-k
invariant-loop-k g l = record {
  same : AllZip g.E.NodeEnd.is_same l.initial.ends l.ends;
  ends_left : (k : ℕ) (d : _) → l.k ≤ k → get_or l.ends k d ≡ get_or l.initial.ends k d;
  outs_left : (k : ℕ) (d : _) → l.k ≤ k → get_or l.outs k d ≡ get_or l.initial.outs k d;
  inboxes_left : (k : ℕ) (d : Inbox) → l.k ≤ k → get_or l.inboxes k d ≡ get_or l.initial.inboxes k d;
  arrived : All (λ inbox. inbox.arrived ≡ []) l.inboxes;
  done : (k : ℕ) (c : _) (inbox : Inbox) (x y : _) → k < l.k → slice_get l.initial.outs k ≡ Some c → slice_get l.inboxes k ≡ Some inbox
      → slice_get l.initial.ends k ≡ Some x → slice_get l.ends k ≡ Some y
      → HasExchanged g.E.NodeEnd.sent g.E.NodeEnd.received (length l.initial.inboxes) k c.items inbox.early.items x y;
}
