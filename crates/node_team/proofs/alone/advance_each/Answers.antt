use Rattle.std.proofs.Common.{◌≡◌, ◌<◌, ◌∙◌, suc, length, sym, arith, add-one, get_or, rules}
use Rattle.std.proofs.lemmas.Option.{slice_get-get_or, slice_get_within}
use Rattle.cycle_core.specs.Busy.{IsQuiet}
use Rattle.cycle_core.proofs.BusyLemmas.{pass-at, pass-end}
use Rattle.cycle_core.proofs.ClosingLemmas.{WorkOn, settling-next}
use Rattle.cycle_core.proofs.PlaceLemmas.{upto-none, upto-more, upto-all}
use Rattle.node_team.specs.Forks.{HasRun}
use Rattle.node_team.proofs.AloneLemmas.{AreAdvancing, advancing-over}
use Rattle.node_team.proofs.alone.advance_each.Goals as goal

pub loop-k-init : goal.loop-k-init
loop-k-init g c =
    record {
      from = 0;
      left = c.requires.busy;
      done = record {
        settling = record { upto = upto-none (WorkOn g.M.Model.meaning) c.args.nodes.now; opened = c.requires.opened; idle = λ number n below at. absurd (omega arith) };
        running = upto-none (λ old new. HasRun (g.M.Model.meaning old.model) c.args.setting.now.ahead old new) c.args.nodes.now;
      };
    }

pub bounds-nodes-place : goal.bounds-nodes-place
bounds-nodes-place g c =
    let first = c.args.nodes.now in
    let busy = c.args.busy.now in
    let place = get_or busy c.loop-k.k 0 in
    let now = c.loop-k.nodes in
    let over = advancing-over g.M.Model.meaning c.args.terms c.args.setting.now.ahead first now c.loop-k.fallen in
    let here =
    pass-at IsQuiet first (AreAdvancing g.M.Model.meaning c.args.terms c.args.setting.now.ahead first now c.loop-k.fallen) over busy c.loop-k.k place (length first) (omega arith) (slice_get-get_or busy c.loop-k.k 0 (omega arith))
    c.loop-k.invariant in
    let within = here.within in
    let many : length now ≡ length first = here.done.settling.upto.many in
    omega arith

pub offset_bounds-nodes-place : goal.offset_bounds-nodes-place
offset_bounds-nodes-place g c =
    let first = c.args.nodes.now in
    let busy = c.args.busy.now in
    let place = get_or busy c.loop-k.k 0 in
    let now = c.loop-k.nodes in
    let over = advancing-over g.M.Model.meaning c.args.terms c.args.setting.now.ahead first now c.loop-k.fallen in
    let here =
    pass-at IsQuiet first (AreAdvancing g.M.Model.meaning c.args.terms c.args.setting.now.ahead first now c.loop-k.fallen) over busy c.loop-k.k place (length first) (omega arith) (slice_get-get_or busy c.loop-k.k 0 (omega arith))
    c.loop-k.invariant in
    let within = here.within in
    let many : length now ≡ length first = here.done.settling.upto.many in
    let inside : place < length now = omega arith in
    search rules

pub advance_alone-requires-clause-small : goal.advance_alone-requires-clause-small
advance_alone-requires-clause-small g c lifetimes outlives =
    let first = c.args.nodes.now in
    let busy = c.args.busy.now in
    let place = get_or busy c.loop-k.k 0 in
    let now = c.loop-k.nodes in
    let over = advancing-over g.M.Model.meaning c.args.terms c.args.setting.now.ahead first now c.loop-k.fallen in
    let here =
    pass-at IsQuiet first (AreAdvancing g.M.Model.meaning c.args.terms c.args.setting.now.ahead first now c.loop-k.fallen) over busy c.loop-k.k place (length first) (omega arith) (slice_get-get_or busy c.loop-k.k 0 (omega arith))
    c.loop-k.invariant in
    let within = here.within in
    let many : length now ≡ length first = here.done.settling.upto.many in
    let at = slice_get-get_or now place c.index-nodes-place.result (omega arith) in
    c.requires.small place _ (sym (here.done.settling.upto.rest place (omega arith)) ∙ at)

pub advance_alone-requires-clause-within : goal.advance_alone-requires-clause-within
advance_alone-requires-clause-within g c lifetimes outlives =
    let first = c.args.nodes.now in
    let busy = c.args.busy.now in
    let place = get_or busy c.loop-k.k 0 in
    let now = c.loop-k.nodes in
    let over = advancing-over g.M.Model.meaning c.args.terms c.args.setting.now.ahead first now c.loop-k.fallen in
    let here =
    pass-at IsQuiet first (AreAdvancing g.M.Model.meaning c.args.terms c.args.setting.now.ahead first now c.loop-k.fallen) over busy c.loop-k.k place (length first) (omega arith) (slice_get-get_or busy c.loop-k.k 0 (omega arith))
    c.loop-k.invariant in
    let within = here.within in
    let many : length now ≡ length first = here.done.settling.upto.many in
    let at = slice_get-get_or now place c.index-nodes-place.result (omega arith) in
    let same = c.requires.terms place _ (sym (here.done.settling.upto.rest place (omega arith)) ∙ at) in
    rw same here.done.settling.opened.within

pub advance_alone-requires-clause-from : goal.advance_alone-requires-clause-from
advance_alone-requires-clause-from g c lifetimes outlives =
    let first = c.args.nodes.now in
    let busy = c.args.busy.now in
    let place = get_or busy c.loop-k.k 0 in
    let now = c.loop-k.nodes in
    let over = advancing-over g.M.Model.meaning c.args.terms c.args.setting.now.ahead first now c.loop-k.fallen in
    let here =
    pass-at IsQuiet first (AreAdvancing g.M.Model.meaning c.args.terms c.args.setting.now.ahead first now c.loop-k.fallen) over busy c.loop-k.k place (length first) (omega arith) (slice_get-get_or busy c.loop-k.k 0 (omega arith))
    c.loop-k.invariant in
    let within = here.within in
    let many : length now ≡ length first = here.done.settling.upto.many in
    let at = slice_get-get_or now place c.index-nodes-place.result (omega arith) in
    here.done.settling.opened.from place _ at

pub loop-k-preserved : goal.loop-k-preserved
loop-k-preserved g c =
    let first = c.args.nodes.now in
    let busy = c.args.busy.now in
    let place = get_or busy c.loop-k.k 0 in
    let now = c.loop-k.nodes in
    let over = advancing-over g.M.Model.meaning c.args.terms c.args.setting.now.ahead first now c.loop-k.fallen in
    let here =
    pass-at IsQuiet first (AreAdvancing g.M.Model.meaning c.args.terms c.args.setting.now.ahead first now c.loop-k.fallen) over busy c.loop-k.k place (length first) (omega arith) (slice_get-get_or busy c.loop-k.k 0 (omega arith))
    c.loop-k.invariant in
    let within = here.within in
    let many : length now ≡ length first = here.done.settling.upto.many in
    let at = slice_get-get_or now place c.index-nodes-place.result (omega arith) in
    rw add-one
    (record {
      from = suc place;
      left = here.left;
      done = record {
        settling = settling-next g.M.Model.meaning c.args.terms place first now c.loop-k.fallen c.in_ok-fallen.fallen _ _ here.done.settling at c.advance_alone.ensures.works c.in_ok-fallen.ensures.settled;
        running = upto-more (λ old new. HasRun (g.M.Model.meaning old.model) c.args.setting.now.ahead old new) place first now _ c.advance_alone.new.node here.done.running at
            (record { works = c.advance_alone.ensures.works; deep = c.in_ok-fallen.ensures.deep });
      };
    })

pub returns-clause-opened : goal.returns-clause-opened
returns-clause-opened g c =
    let first = c.args.nodes.now in
    let busy = c.args.busy.now in
    let now = c.loop-k.nodes in
    let over = advancing-over g.M.Model.meaning c.args.terms c.args.setting.now.ahead first now c.loop-k.fallen in
    let all = pass-end IsQuiet first (AreAdvancing g.M.Model.meaning c.args.terms c.args.setting.now.ahead first now c.loop-k.fallen) over busy c.loop-k.k (length first) (omega arith) (omega arith) c.loop-k.invariant in
    all.settling.opened

pub returns-clause-idle : goal.returns-clause-idle
returns-clause-idle g c place x at =
    let first = c.args.nodes.now in
    let busy = c.args.busy.now in
    let now = c.loop-k.nodes in
    let over = advancing-over g.M.Model.meaning c.args.terms c.args.setting.now.ahead first now c.loop-k.fallen in
    let all = pass-end IsQuiet first (AreAdvancing g.M.Model.meaning c.args.terms c.args.setting.now.ahead first now c.loop-k.fallen) over busy c.loop-k.k (length first) (omega arith) (omega arith) c.loop-k.invariant in
    let many : length now ≡ length first = all.settling.upto.many in
    all.settling.idle place x (let lt = slice_get_within now place x at in omega arith) at

pub returns-clause-run : goal.returns-clause-run
returns-clause-run g c =
    let first = c.args.nodes.now in
    let busy = c.args.busy.now in
    let now = c.loop-k.nodes in
    let over = advancing-over g.M.Model.meaning c.args.terms c.args.setting.now.ahead first now c.loop-k.fallen in
    let all = pass-end IsQuiet first (AreAdvancing g.M.Model.meaning c.args.terms c.args.setting.now.ahead first now c.loop-k.fallen) over busy c.loop-k.k (length first) (omega arith) (omega arith) c.loop-k.invariant in
    upto-all (λ old new. HasRun (g.M.Model.meaning old.model) c.args.setting.now.ahead old new) (length first) first now (omega arith) all.running
