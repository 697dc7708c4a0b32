use Rattle.std.proofs.Common.{◌∙◌, map, subst, sym}
use Rattle.std.specs.List.{AllZip}
use Rattle.std.proofs.lemmas.Slice.Zip.{AllZip-long}
use Rattle.steal_pool.specs.Workers.{HasEnded, HaveEnded, own_mark}
use Rattle.std.proofs.lemmas.List.{with_items_is}
use Rattle.steal_pool.proofs.TogetherLemmas.{have-ended, on-ok}
use Rattle.steal_pool.proofs.gathering.gather.Goals as goal

pub returns : goal.returns
returns g c =
    let marks = map own_mark c.args.workers.now.items in
    let half = c.give_all_back.new.workers in
    on-ok c.do_rest.result (AllZip (HasEnded g.T.Turn.turned) c.as_mut_slice.result.now c.do_rest.new.workers) c.do_rest.ensures
    (λ (zip : AllZip (HasEnded g.T.Turn.turned) c.as_mut_slice.result.now c.do_rest.new.workers).
    let zipped = subst (λ these. AllZip (HasEnded g.T.Turn.turned) these c.do_rest.new.workers) c.as_mut_slice.ensures.value zip in
    subst (HaveEnded g.T.Turn.turned marks) (sym (with_items_is half c.do_rest.new.workers (AllZip-long (HasEnded g.T.Turn.turned) half.items c.do_rest.new.workers zipped ∙ sym half.ok.0)))
    (have-ended g.T.Turn.turned marks c.args.workers.now.items half.items c.do_rest.new.workers c.requires.worked c.give_all_back.ensures.marks c.give_all_back.ensures.done
    c.give_all_back.ensures.whole c.give_all_back.ensures.counted zipped))
