use Rattle.std.proofs.Common.{◌≡◌, ◌++◌, map, take}
use Rattle.shop_model.specs.declared.kinds.TheConstants.{MAKE}
use Rattle.shop_model.specs.Starts.{start_at}
use Rattle.shop_model.proofs.class.Class.add_times.Given as goal

abbrev pub invariant-loop-time : goal.invariant-loop-time
invariant-loop-time l = l.starts.items ≡ l.initial.starts.items ++ map (λ time. start_at l.object time MAKE 0) (take l.time-index l.time-items)
