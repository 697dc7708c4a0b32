use Rattle.std.proofs.Common.{◌≡◌, ◌<◌, ◌∙◌, ℕ, suc, length, get_or, sym, arith, add-one, rules}
use Rattle.std.proofs.lemmas.Option.{slice_get-get_or}
use Rattle.std.specs.Prelude.{Some, slice_get}
use Rattle.node_core.specs.declared.committed.Committed.{Committed}
use Rattle.cycle_core.specs.Records.{AreInOrder, TellsNothing}
use Rattle.cycle_core.proofs.BusyLemmas.{pass-at, pass-end}
use Rattle.cycle_core.proofs.GivenLemmas.{IsMerging, each-get, merging-all, merging-differ, merging-long, merging-more, merging-none, merging-over}
use Rattle.cycle_core.proofs.merging.merge_in_turn.Goals as goal

pub loop-k-init : goal.loop-k-init
loop-k-init c = (record { from = 0; left = c.requires.busy; done = merging-none c.args.committed.now c.args.merged.now.items c.requires.empty }, c.requires.spare)

pub bounds-committed-place : goal.bounds-committed-place
bounds-committed-place c =
    let old = c.args.committed.now in
    let now = c.loop-k.committed in
    let busy = c.args.busy.now in
    let place = get_or busy c.loop-k.k 0 in
    let S : ℕ → Type 0 = IsMerging old now c.loop-k.merged.items in
    let over = λ (p : ℕ) (x : Committed) (at : slice_get old p ≡ Some x) (nothing : TellsNothing x). merging-over old now c.loop-k.merged.items p x at nothing in
    let here = pass-at TellsNothing old S over busy c.loop-k.k place (length old) (omega arith) (slice_get-get_or busy c.loop-k.k 0 (omega arith)) c.loop-k.invariant.0 in
    let within = here.within in
    let many = merging-long old now c.loop-k.merged.items place here.done in
    omega arith

pub offset_bounds-committed-place : goal.offset_bounds-committed-place
offset_bounds-committed-place c =
    let old = c.args.committed.now in
    let now = c.loop-k.committed in
    let busy = c.args.busy.now in
    let place = get_or busy c.loop-k.k 0 in
    let S : ℕ → Type 0 = IsMerging old now c.loop-k.merged.items in
    let over = λ (p : ℕ) (x : Committed) (at : slice_get old p ≡ Some x) (nothing : TellsNothing x). merging-over old now c.loop-k.merged.items p x at nothing in
    let here = pass-at TellsNothing old S over busy c.loop-k.k place (length old) (omega arith) (slice_get-get_or busy c.loop-k.k 0 (omega arith)) c.loop-k.invariant.0 in
    let within = here.within in
    let many = merging-long old now c.loop-k.merged.items place here.done in
    let inside : place < length now = omega arith in
    search rules

pub merge_next-requires-clause-merged : goal.merge_next-requires-clause-merged
merge_next-requires-clause-merged c =
    let old = c.args.committed.now in
    let now = c.loop-k.committed in
    let busy = c.args.busy.now in
    let place = get_or busy c.loop-k.k 0 in
    let S : ℕ → Type 0 = IsMerging old now c.loop-k.merged.items in
    let over = λ (p : ℕ) (x : Committed) (at : slice_get old p ≡ Some x) (nothing : TellsNothing x). merging-over old now c.loop-k.merged.items p x at nothing in
    let here = pass-at TellsNothing old S over busy c.loop-k.k place (length old) (omega arith) (slice_get-get_or busy c.loop-k.k 0 (omega arith)) c.loop-k.invariant.0 in
    let within = here.within in
    let many = merging-long old now c.loop-k.merged.items place here.done in
    here.done.ordered

pub merge_next-requires-clause-next : goal.merge_next-requires-clause-next
merge_next-requires-clause-next c =
    let old = c.args.committed.now in
    let now = c.loop-k.committed in
    let busy = c.args.busy.now in
    let place = get_or busy c.loop-k.k 0 in
    let S : ℕ → Type 0 = IsMerging old now c.loop-k.merged.items in
    let over = λ (p : ℕ) (x : Committed) (at : slice_get old p ≡ Some x) (nothing : TellsNothing x). merging-over old now c.loop-k.merged.items p x at nothing in
    let here = pass-at TellsNothing old S over busy c.loop-k.k place (length old) (omega arith) (slice_get-get_or busy c.loop-k.k 0 (omega arith)) c.loop-k.invariant.0 in
    let within = here.within in
    let many = merging-long old now c.loop-k.merged.items place here.done in
    let at = slice_get-get_or now place c.index-committed-place.result (omega arith) in
    let commit = get_or now place c.index-committed-place.result in
    let at_old = sym (here.done.behind place (omega arith)) ∙ at in
    each-get (λ commit. AreInOrder commit.done.items) old c.requires.ordered place commit at_old

pub merge_next-requires-clause-differ : goal.merge_next-requires-clause-differ
merge_next-requires-clause-differ c =
    let old = c.args.committed.now in
    let now = c.loop-k.committed in
    let busy = c.args.busy.now in
    let place = get_or busy c.loop-k.k 0 in
    let S : ℕ → Type 0 = IsMerging old now c.loop-k.merged.items in
    let over = λ (p : ℕ) (x : Committed) (at : slice_get old p ≡ Some x) (nothing : TellsNothing x). merging-over old now c.loop-k.merged.items p x at nothing in
    let here = pass-at TellsNothing old S over busy c.loop-k.k place (length old) (omega arith) (slice_get-get_or busy c.loop-k.k 0 (omega arith)) c.loop-k.invariant.0 in
    let within = here.within in
    let many = merging-long old now c.loop-k.merged.items place here.done in
    let at = slice_get-get_or now place c.index-committed-place.result (omega arith) in
    let commit = get_or now place c.index-committed-place.result in
    let at_old = sym (here.done.behind place (omega arith)) ∙ at in
    merging-differ old now c.loop-k.merged.items place commit at_old c.requires.differ here.done

pub merge_next-requires-clause-spare : goal.merge_next-requires-clause-spare
merge_next-requires-clause-spare c = c.loop-k.invariant.1

pub loop-k-preserved : goal.loop-k-preserved
loop-k-preserved c =
    let old = c.args.committed.now in
    let now = c.loop-k.committed in
    let busy = c.args.busy.now in
    let place = get_or busy c.loop-k.k 0 in
    let S : ℕ → Type 0 = IsMerging old now c.loop-k.merged.items in
    let over = λ (p : ℕ) (x : Committed) (at : slice_get old p ≡ Some x) (nothing : TellsNothing x). merging-over old now c.loop-k.merged.items p x at nothing in
    let here = pass-at TellsNothing old S over busy c.loop-k.k place (length old) (omega arith) (slice_get-get_or busy c.loop-k.k 0 (omega arith)) c.loop-k.invariant.0 in
    let within = here.within in
    let many = merging-long old now c.loop-k.merged.items place here.done in
    let at = slice_get-get_or now place c.index-committed-place.result (omega arith) in
    let commit = get_or now place c.index-committed-place.result in
    let at_old = sym (here.done.behind place (omega arith)) ∙ at in
    let did = c.in_ok-merge_next.ensures in
    let more = merging-more old now c.loop-k.merged.items c.merge_next.new.merged.items place commit c.merge_next.new.commit at did.permutes did.ordered did.emptied did.out here.done in
    (rw add-one (record { from = suc place; left = here.left; done = more }), did.spare)

pub returns-clause-permutes : goal.returns-clause-permutes
returns-clause-permutes c =
    let old = c.args.committed.now in
    let now = c.loop-k.committed in
    let busy = c.args.busy.now in
    let place = get_or busy c.loop-k.k 0 in
    let S : ℕ → Type 0 = IsMerging old now c.loop-k.merged.items in
    let over = λ (p : ℕ) (x : Committed) (at : slice_get old p ≡ Some x) (nothing : TellsNothing x). merging-over old now c.loop-k.merged.items p x at nothing in
    (merging-all old now c.loop-k.merged.items (pass-end TellsNothing old S over busy c.loop-k.k (length old) (omega arith) (omega arith) c.loop-k.invariant.0)).0

pub returns-clause-given : goal.returns-clause-given
returns-clause-given c =
    let old = c.args.committed.now in
    let now = c.loop-k.committed in
    let busy = c.args.busy.now in
    let place = get_or busy c.loop-k.k 0 in
    let S : ℕ → Type 0 = IsMerging old now c.loop-k.merged.items in
    let over = λ (p : ℕ) (x : Committed) (at : slice_get old p ≡ Some x) (nothing : TellsNothing x). merging-over old now c.loop-k.merged.items p x at nothing in
    (merging-all old now c.loop-k.merged.items (pass-end TellsNothing old S over busy c.loop-k.k (length old) (omega arith) (omega arith) c.loop-k.invariant.0)).1

pub returns-clause-ordered : goal.returns-clause-ordered
returns-clause-ordered c =
    let old = c.args.committed.now in
    let now = c.loop-k.committed in
    let busy = c.args.busy.now in
    let place = get_or busy c.loop-k.k 0 in
    let S : ℕ → Type 0 = IsMerging old now c.loop-k.merged.items in
    let over = λ (p : ℕ) (x : Committed) (at : slice_get old p ≡ Some x) (nothing : TellsNothing x). merging-over old now c.loop-k.merged.items p x at nothing in
    (pass-end TellsNothing old S over busy c.loop-k.k (length old) (omega arith) (omega arith) c.loop-k.invariant.0).ordered

pub returns-clause-spare : goal.returns-clause-spare
returns-clause-spare c = c.loop-k.invariant.1
