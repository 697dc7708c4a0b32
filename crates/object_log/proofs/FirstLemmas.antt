-- The event of the least key leaves a log of many objects.
use Rattle.std.proofs.Common.{◌≡◌, ◌<◌, Bool, true, false, cond, Some, List, [], ◌∷◌, length, ap, arith}
use Rattle.std.specs.Prelude.{slice_get}
use Rattle.std.specs.List.{remove}
use Rattle.key_order.specs.Ascending.{Ascends}
use Rattle.key_order.proofs.EachLemmas.{Each-map}
use Rattle.object_log.specs.Carrying.{Placed}
use Rattle.object_log.specs.Dones.{Done}
use Rattle.object_log.specs.EventLogs.{dones_at, is_of}
use Rattle.object_log.specs.Keeping.{Keeps}
use Rattle.object_log.specs.Objects.{KeptObject}
use Rattle.object_log.specs.Whole.{IsEventLog, dones_in}
use Rattle.object_log.proofs.KeepingLemmas.{keeps-rest}

keeps-after : (o : KeptObject) (d : Done) (ds : List Done) → Keeps o.cells o.sent (dones_at o.object (d ∷ ds)) → Keeps o.cells o.sent (dones_at o.object ds)
keeps-after o d ds k = by_test (is_of o.object d) k
  where
    by_test : (b : Bool) → Keeps o.cells o.sent (cond b (d ∷ dones_at o.object ds) (dones_at o.object ds)) → Keeps o.cells o.sent (dones_at o.object ds)
    by_test true k = keeps-rest o.cells o.sent d (dones_at o.object ds) k
    by_test false k = k

-- what is left is a log
pub rest-log : (objects : List KeptObject) (items : List Placed) → 0 < length items → IsEventLog objects items → IsEventLog objects (remove items 0)
unfolding Ascends
rest-log objects [] some log = absurd (omega arith)
rest-log objects (p ∷ ps) some log =
    let few = log.few in
    record {
      apart = log.apart;
      keeps = Each-map (λ (o : KeptObject). Keeps o.cells o.sent (dones_at o.object (dones_in (p ∷ ps)))) (λ (o : KeptObject). Keeps o.cells o.sent (dones_at o.object (dones_in ps))) objects
          (λ o k. keeps-after o p.done (dones_in ps) k) log.keeps;
      places = log.places.1;
      ordered = log.ordered.1;
      few = omega arith;
    }

pub first-taken : (items : List Placed) (p : Placed) → slice_get items 0 ≡ Some p → dones_in items ≡ p.done ∷ dones_in (remove items 0)
first-taken [] p found = absurd (cc)
first-taken (q ∷ qs) p found = (let same : q ≡ p = cc in ap (λ (x : Placed). x.done ∷ dones_in qs) same)
