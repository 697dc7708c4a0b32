use Rattle.std.proofs.Common.{◌≡◌, ◌∙◌, ℕ, length, refl, sym, ap, subst, inl, arith, add-one, slice_set, slice_index_or, get_or, rules}
use Rattle.std.proofs.lemmas.Option.{slice_get-get_or}
use Rattle.cycle_core.specs.Busy.{IsQuiet}
use Rattle.cycle_core.specs.Known.{AreKnown}
use Rattle.cycle_core.proofs.BusyLemmas.{pass-at, pass-end}
use Rattle.cycle_core.proofs.ClosingLemmas.{IsOpenedUpto, opened-all, opened-more}
use Rattle.cycle_core.proofs.PassLemmas.{opened-over}
use Rattle.cycle_core.proofs.PlaceLemmas.{at-same}
use Rattle.cycle_core.proofs.closing.open_busy.Goals as goal

pub loop-k-init : goal.loop-k-init
loop-k-init g c = (refl, record { from = 0; left = c.requires.busy; done = record { within = omega arith; from = λ number n below at. absurd (omega arith); reached = inl refl } })

pub bounds-nodes-place : goal.bounds-nodes-place
bounds-nodes-place g c =
    let nodes = c.loop-k.nodes in
    let busy = c.args.busy.now in
    let known = subst (AreKnown g.M.Model.meaning) (sym c.loop-k.invariant.0) (λ place x at. c.know_all.ensures place x at) in
    let O : ℕ → Type 0 = λ place. IsOpenedUpto g.M.Model.meaning c.args.end place nodes c.loop-k.bound in
    (pass-at IsQuiet nodes O (λ place n at quiet upto. opened-over g.M.Model.meaning c.args.end nodes c.loop-k.bound c.requires.end known place n at quiet upto) busy c.loop-k.k (get_or busy c.loop-k.k 0) (length nodes) (omega arith)
    (slice_get-get_or busy c.loop-k.k 0 (omega arith)) c.loop-k.invariant.1).within

pub offset_bounds-nodes-place : goal.offset_bounds-nodes-place
offset_bounds-nodes-place g c =
    let nodes = c.loop-k.nodes in
    let busy = c.args.busy.now in
    let known = subst (AreKnown g.M.Model.meaning) (sym c.loop-k.invariant.0) (λ place x at. c.know_all.ensures place x at) in
    let O : ℕ → Type 0 = λ place. IsOpenedUpto g.M.Model.meaning c.args.end place nodes c.loop-k.bound in
    let within = (pass-at IsQuiet nodes O (λ place n at quiet upto. opened-over g.M.Model.meaning c.args.end nodes c.loop-k.bound c.requires.end known place n at quiet upto) busy c.loop-k.k (get_or busy c.loop-k.k 0) (length nodes) (omega arith)
    (slice_get-get_or busy c.loop-k.k 0 (omega arith)) c.loop-k.invariant.1).within in
    search rules

pub loop-k-preserved : goal.loop-k-preserved
loop-k-preserved g c =
    let nodes = c.loop-k.nodes in
    let busy = c.args.busy.now in
    let place = get_or busy c.loop-k.k 0 in
    let known = subst (AreKnown g.M.Model.meaning) (sym c.loop-k.invariant.0) (λ place x at. c.know_all.ensures place x at) in
    let O : ℕ → Type 0 = λ place. IsOpenedUpto g.M.Model.meaning c.args.end place nodes c.loop-k.bound in
    let here =
    pass-at IsQuiet nodes O (λ place n at quiet upto. opened-over g.M.Model.meaning c.args.end nodes c.loop-k.bound c.requires.end known place n at quiet upto) busy c.loop-k.k place (length nodes) (omega arith)
    (slice_get-get_or busy c.loop-k.k 0 (omega arith)) c.loop-k.invariant.1 in
    let node = slice_index_or nodes place c.index-nodes-place.result in
    let at = slice_get-get_or nodes place c.index-nodes-place.result here.within in
    let same : slice_set nodes place c.open_cycle.new.self ≡ nodes = ap (slice_set nodes place) c.open_cycle.ensures.same ∙ at-same nodes place node at in
    let more = opened-more g.M.Model.meaning c.args.end place nodes c.loop-k.bound c.open_cycle.result node (omega arith) here.done at c.open_cycle.ensures.least in
    (same ∙ c.loop-k.invariant.0, rw (same, c.min-bound.ensures, add-one) (record { from = _; left = here.left; done = more }))

pub returns-clause-opened : goal.returns-clause-opened
returns-clause-opened g c =
    let nodes = c.loop-k.nodes in
    let busy = c.args.busy.now in
    let known = subst (AreKnown g.M.Model.meaning) (sym c.loop-k.invariant.0) (λ place x at. c.know_all.ensures place x at) in
    let O : ℕ → Type 0 = λ place. IsOpenedUpto g.M.Model.meaning c.args.end place nodes c.loop-k.bound in
    let all = pass-end IsQuiet nodes O (λ place n at quiet upto. opened-over g.M.Model.meaning c.args.end nodes c.loop-k.bound c.requires.end known place n at quiet upto) busy c.loop-k.k (length nodes) (omega arith) (omega arith) c.loop-k.invariant.1 in
    rw (← c.loop-k.invariant.0) (opened-all g.M.Model.meaning c.args.end (length nodes) nodes c.loop-k.bound (omega arith) all)
