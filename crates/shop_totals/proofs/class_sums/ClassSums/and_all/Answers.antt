use Rattle.std.proofs.Common.{◌∙◌, ◌+◌, ◌^◌, ◌++◌, [], take, take_all, ap, sym, arith, append-nil}
use Rattle.model_core.specs.declared.note.Note.{Note}
use Rattle.shop_totals.specs.Records.{parts_at}
use Rattle.shop_totals.proofs.BoundLemmas.{class-within, class_sums_up-within}
use Rattle.shop_totals.proofs.ClassLemmas.{class_sums_up-pass, class_sums_up-part, class_sums_up-told}
use Rattle.shop_totals.proofs.RecordLemmas.{parts_at-more}
use Rattle.shop_totals.proofs.class_sums.ClassSums.and_all.Goals as goal

pub loop-part-init : goal.loop-part-init
loop-part-init c = record {
  clock = c.pass-sums.ensures.clock;
  within = λ most within. class-within most (most + 0) c.pass-sums.result (omega arith) (c.pass-sums.ensures.within most within);
  sums = λ first told most is.
      class_sums_up-within first (told ++ []) most (most + 0) c.pass-sums.result (omega arith)
      (class_sums_up-told first told (told ++ []) most c.pass-sums.result (sym (append-nil told))
      (class_sums_up-pass first told most c.args.time c.args.self c.pass-sums.result is c.requires.time c.pass-sums.ensures.clock c.pass-sums.ensures.first c.pass-sums.ensures.sums c.pass-sums.ensures.within));
}

pub and-sums-requires : goal.and-sums-requires
and-sums-requires c = record {
  room = class-within (2 ^ 61 + c.loop-part.part-index) (2 ^ 62) c.loop-part.sums (omega arith) (c.loop-part.invariant.within (2 ^ 61) c.requires.room);
}

pub loop-part-preserved : goal.loop-part-preserved
loop-part-preserved c =
    let i = c.loop-part.part-index in
    let note = c.args.parts.now in
    let seen = parts_at c.args.time (take i note) in
    record {
      clock = c.and-sums.ensures.clock ∙ c.loop-part.invariant.clock;
      within = λ most within. class-within (most + i + 1) (most + (i + 1)) c.and-sums.result (omega arith) (c.and-sums.ensures.within (most + i) (c.loop-part.invariant.within most within));
      sums = λ first told most is.
          class_sums_up-within first (told ++ parts_at c.args.time (take (i + 1) note)) (most + i + 1) (most + (i + 1)) c.and-sums.result
          (omega arith)
          (class_sums_up-told first _ (told ++ parts_at c.args.time (take (i + 1) note)) (most + i + 1) c.and-sums.result
          (parts_at-more told c.args.time note i _ c.loop-part-test.true)
          (class_sums_up-part first (told ++ seen) (most + i) c.args.time _ c.loop-part.sums c.and-sums.result (c.loop-part.invariant.sums first told most is)
          c.loop-part.invariant.clock c.and-sums.ensures.clock c.and-sums.ensures.first c.and-sums.ensures.sums c.and-sums.ensures.within));
    }

pub returns-clause-sums : goal.returns-clause-sums
returns-clause-sums c first told most is =
    let i = c.loop-part.part-index in
    let note = c.args.parts.now in
    class_sums_up-within first (told ++ parts_at c.args.time note) (most + i) (most + 4) c.loop-part.sums (omega arith)
    (class_sums_up-told first (told ++ parts_at c.args.time (take i note)) (told ++ parts_at c.args.time note) (most + i) c.loop-part.sums
    (ap (λ (note : Note). told ++ parts_at c.args.time note) (take_all i note c.loop-part-test.false))
    (c.loop-part.invariant.sums first told most is))
