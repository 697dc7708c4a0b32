use Rattle.std.proofs.Common.{◌≡◌, ◌+◌, ℕ, suc, drop, length, ap, refl, arith, add-one, get_or, rules}
use Rattle.std.proofs.lemmas.Option.{slice_get-get_or, slice_get_read}
use Rattle.cycle_core.specs.Busy.{IsQuiet}
use Rattle.cycle_core.specs.Gathered.{processed_in}
use Rattle.cycle_core.proofs.BusyLemmas.{pass-at, pass-end}
use Rattle.cycle_core.proofs.CutLemmas.{processed-more, processed-all}
use Rattle.cycle_core.proofs.PassLemmas.{processed-over}
use Rattle.cycle_core.proofs.cutting.are_within.Goals as goal

pub loop-k-init : goal.loop-k-init
loop-k-init g c = record { from = 0; left = c.requires; done = refl }

pub bounds-nodes-place : goal.bounds-nodes-place
bounds-nodes-place g c =
    let nodes = c.args.nodes.now in
    let busy = c.args.busy.now in
    let W : ℕ → Type 0 = λ place. processed_in nodes + c.loop-k.left ≡ processed_in (drop place nodes) + c.args.left in
    (pass-at IsQuiet nodes W (processed-over nodes c.loop-k.left c.args.left) busy c.loop-k.k (get_or busy c.loop-k.k 0) (length nodes) (omega arith) (slice_get-get_or busy c.loop-k.k 0 (omega arith)) c.loop-k.invariant).within

pub offset_bounds-nodes-place : goal.offset_bounds-nodes-place
offset_bounds-nodes-place g c =
    let nodes = c.args.nodes.now in
    let busy = c.args.busy.now in
    let W : ℕ → Type 0 = λ place. processed_in nodes + c.loop-k.left ≡ processed_in (drop place nodes) + c.args.left in
    let within = (pass-at IsQuiet nodes W (processed-over nodes c.loop-k.left c.args.left) busy c.loop-k.k (get_or busy c.loop-k.k 0) (length nodes) (omega arith) (slice_get-get_or busy c.loop-k.k 0 (omega arith)) c.loop-k.invariant).within in
    search rules

pub loop-k-preserved : goal.loop-k-preserved
loop-k-preserved g c =
    let nodes = c.args.nodes.now in
    let busy = c.args.busy.now in
    let place = get_or busy c.loop-k.k 0 in
    let W : ℕ → Type 0 = λ place. processed_in nodes + c.loop-k.left ≡ processed_in (drop place nodes) + c.args.left in
    let here = pass-at IsQuiet nodes W (processed-over nodes c.loop-k.left c.args.left) busy c.loop-k.k place (length nodes) (omega arith) (slice_get-get_or busy c.loop-k.k 0 (omega arith)) c.loop-k.invariant in
    let at = slice_get_read nodes (length nodes) place c.index-nodes-place.result refl here.within c.index-nodes-place.is in
    let more = processed-more place nodes c.index-nodes-place.result at in
    let told : c.tallies-processed.result.left ≡ length c.index-nodes-place.result.processed = ap (λ t. t.left) c.tallies-processed.ensures.value in
    let so_far = here.done in
    rw add-one (record { from = suc place; left = here.left; done = omega arith })

pub returns : goal.returns
returns g c so =
    let nodes = c.args.nodes.now in
    let busy = c.args.busy.now in
    let W : ℕ → Type 0 = λ place. processed_in nodes + c.loop-k.left ≡ processed_in (drop place nodes) + c.args.left in
    let end = pass-end IsQuiet nodes W (processed-over nodes c.loop-k.left c.args.left) busy c.loop-k.k (length nodes) (omega arith) (omega arith) c.loop-k.invariant in
    let all = processed-all (length nodes) nodes (omega arith) in
    omega arith
