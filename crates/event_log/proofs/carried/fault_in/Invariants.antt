-- None so far has failed.
use Rattle.std.proofs.Common.{◌≡◌, drop}
use Rattle.object_log.specs.Logs.{fault_of}
use Rattle.object_log.specs.Whole.{dones_in}
use Rattle.event_log.specs.Items.{placed}
use Rattle.event_log.proofs.carried.fault_in.Given as goal

abbrev pub invariant-loop-place : goal.invariant-loop-place
invariant-loop-place l = fault_of (dones_in (placed (drop l.place l.items.items))) ≡ fault_of (dones_in (placed l.items.items))
