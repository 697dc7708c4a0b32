use Rattle.std.proofs.Common.{ℕ, suc, length, refl, arith, add-one, get_or, rules}
use Rattle.std.proofs.lemmas.Option.{slice_get-get_or, slice_get_read}
use Rattle.cycle_core.specs.Busy.{IsQuiet}
use Rattle.cycle_core.specs.Gathered.{IsFaultBelow, MayFaultBelow, fault_key}
use Rattle.cycle_core.specs.Leasts.{IsLeastUpto, lesser_by}
use Rattle.cycle_core.proofs.BusyLemmas.{pass-at, pass-end}
use Rattle.cycle_core.proofs.CutLemmas.{least-more}
use Rattle.cycle_core.proofs.PassLemmas.{fault-over, next-place}
use Rattle.cycle_core.proofs.cutting.least_fault.Goals as goal

pub loop-k-init : goal.loop-k-init
loop-k-init g c = record { from = 0; left = c.requires.busy; done = λ number n below at x may. absurd (omega arith) }

pub bounds-nodes-place : goal.bounds-nodes-place
bounds-nodes-place g c =
    let nodes = c.args.nodes.now in
    let busy = c.args.busy.now in
    let L : ℕ → Type 0 = λ place. IsLeastUpto fault_key (IsFaultBelow g.M.Model.meaning c.args.bound) (MayFaultBelow g.M.Model.meaning c.args.bound) place nodes c.loop-k.least in
    (pass-at IsQuiet nodes L (fault-over g.M.Model.meaning c.args.bound nodes c.loop-k.least (λ place x at. c.requires.known place x at)) busy c.loop-k.k (get_or busy c.loop-k.k 0) (length nodes) (omega arith)
    (slice_get-get_or busy c.loop-k.k 0 (omega arith)) c.loop-k.invariant).within

pub offset_bounds-nodes-place : goal.offset_bounds-nodes-place
offset_bounds-nodes-place g c =
    let nodes = c.args.nodes.now in
    let busy = c.args.busy.now in
    let L : ℕ → Type 0 = λ place. IsLeastUpto fault_key (IsFaultBelow g.M.Model.meaning c.args.bound) (MayFaultBelow g.M.Model.meaning c.args.bound) place nodes c.loop-k.least in
    let within = (pass-at IsQuiet nodes L (fault-over g.M.Model.meaning c.args.bound nodes c.loop-k.least (λ place x at. c.requires.known place x at)) busy c.loop-k.k (get_or busy c.loop-k.k 0) (length nodes) (omega arith)
    (slice_get-get_or busy c.loop-k.k 0 (omega arith)) c.loop-k.invariant).within in
    search rules

pub loop-k-preserved : goal.loop-k-preserved
loop-k-preserved g c =
    let nodes = c.args.nodes.now in
    let busy = c.args.busy.now in
    let place = get_or busy c.loop-k.k 0 in
    let F = IsFaultBelow g.M.Model.meaning c.args.bound in
    let G = MayFaultBelow g.M.Model.meaning c.args.bound in
    let L : ℕ → Type 0 = λ place. IsLeastUpto fault_key F G place nodes c.loop-k.least in
    let here =
    pass-at IsQuiet nodes L (fault-over g.M.Model.meaning c.args.bound nodes c.loop-k.least (λ place x at. c.requires.known place x at)) busy c.loop-k.k place (length nodes) (omega arith)
    (slice_get-get_or busy c.loop-k.k 0 (omega arith)) c.loop-k.invariant in
    let at = slice_get_read nodes (length nodes) place c.index-nodes-place.result refl here.within c.index-nodes-place.is in
    let more = least-more fault_key F G place nodes c.index-nodes-place.result c.loop-k.least c.fault_below.result at here.done c.fault_below.ensures in
    rw (add-one, c.lesser_fault-least.ensures) (record { from = suc place; left = here.left; done = next-place (λ k. IsLeastUpto fault_key F G k nodes (lesser_by fault_key c.loop-k.least c.fault_below.result)) place more })

pub returns : goal.returns
returns g c =
    let nodes = c.args.nodes.now in
    let busy = c.args.busy.now in
    let L : ℕ → Type 0 = λ place. IsLeastUpto fault_key (IsFaultBelow g.M.Model.meaning c.args.bound) (MayFaultBelow g.M.Model.meaning c.args.bound) place nodes c.loop-k.least in
    pass-end IsQuiet nodes L (fault-over g.M.Model.meaning c.args.bound nodes c.loop-k.least (λ place x at. c.requires.known place x at)) busy c.loop-k.k (length nodes) (omega arith) (omega arith) c.loop-k.invariant
