-- Each turn tells the records of one bucket; the last one finds that so many are done, or that the simulation has ended.
use Rattle.std.proofs.Common.{ℕ, ◌+◌, ◌++◌, ◌∷◌, [], length-append, refl, sym, ap, ◌∙◌, subst, arith}
use Rattle.sim_io.proofs.TakenLemmas.{Appends-nil, Appends-trans}
use Rattle.sim_io.specs.Taken.{Appends}
use Rattle.std.specs.Prelude.{List, None}
use Rattle.event_key.specs.declared.key.Key.{Key}
use Rattle.model_core.specs.declared.note.Note.{Note}
use Rattle.sim_spec.specs.Cycles.{records_of_buckets}
use Rattle.sim_spec.specs.Standing.{stands}
use Rattle.sim_spec.specs.State.{State}
use Rattle.sim_io.specs.Texts.{record_lines}
use Rattle.sim_io.specs.Transfers.{AppendsPrefix}
use Rattle.sim_text.specs.Rest.{AllAtObjects}
use Rattle.sim_text.specs.WholeTexts.{first_lines}
use Rattle.sim_text.proofs.WritingLemmas.{writes_prefix}
use Rattle.sim_text.proofs.First.{told_first, none_first, lines-prefix, StandsAfter, all-ended, all-done, one_more, at_objects, lines-more, lines-go_on, is_none, stands_so, put_told}
use Rattle.sim_text.proofs.UnderWay.{HasDone, held, ended-same, has_done}
use Rattle.sim_text.proofs.WrittenLemmas.{no_prefix, rose_after, all_written, written_before, failed_before}
use Rattle.sim_text.proofs.first_cycles.simulate_first.Goals as goal
use Rattle.sim_spec.proofs.BucketLaw.{some_of}

pub loop-done-init : goal.loop-done-init
unfolding records_of_buckets record_lines
loop-done-init g c =
    let m = g.M.Model.meaning c.args.model.now in
    record {
      next = c.law_next.ensures;
      buckets = c.law_bucket.ensures.next_of_run;
      meaning = c.requires.meaning;
      terms = c.requires.terms;
      so_far = [];
      first = λ from starts. record { at = stands from None; stands = starts.stands; first = none_first m c.args.terms.now from starts.lawful };
      numbered = refl;
      told = Appends-nil (g.K.Sink.told c.args.sink.now);
      later = omega arith;
      quiet = refl;
    }

pub returns-in_err-lines-clause-written : goal.returns-in_err-lines-clause-written
returns-in_err-lines-clause-written g c = λ from starts. written_before _ _ _ _ _ c.from_residual.ensures.1 (no_prefix _ _) refl

-- it goes on where the simulation has not ended
pub cycle-requires : goal.cycle-requires
cycle-requires g c =
    let i = c.loop-done.invariant in
    let r = i.first c.requires.begins.0 c.requires.begins.1 in
    c.requires.may _ r.at _ r.stands (sym (c.ended.ensures r.at r.stands) ∙ is_none _ (sym c.if-is_some.ensures))
    (c.requires.begins.0, c.requires.begins.1, told_first _ _ _ _ i.so_far r.first _ _ i.told)

pub returns-then-is_some-clause-written : goal.returns-then-is_some-clause-written
returns-then-is_some-clause-written g c = λ from starts.
    let i = c.loop-done.invariant in
    let r = i.first from starts in
    let some = some_of _ (sym c.if-is_some.ensures) in
    let ended = ended-same _ _ _ _ _ _ i.meaning i.terms (sym some.1 ∙ c.ended.ensures r.at r.stands) in
    let all = all-ended _ _ _ _ i.so_far r.first c.args.most some.0 (omega (arith, i.numbered, c.loop-done-test.true)) ended in
    all_written _ _ _ _ _ (subst (Appends (g.K.Sink.told c.args.sink.now) (g.K.Sink.told c.loop-done.sink)) (sym all.lines) i.told) i.quiet

pub returns-then-is_some-clause-state : goal.returns-then-is_some-clause-state
returns-then-is_some-clause-state g c = λ from starts.
    let i = c.loop-done.invariant in
    let r = i.first from starts in
    let some = some_of _ (sym c.if-is_some.ensures) in
    let ended = ended-same _ _ _ _ _ _ i.meaning i.terms (sym some.1 ∙ c.ended.ensures r.at r.stands) in
    let all = all-ended _ _ _ _ i.so_far r.first c.args.most some.0 (omega (arith, i.numbered, c.loop-done-test.true)) ended in
    stands_so g.E.Engine.stands_at c.loop-done.engine r.at r.stands _ r.first.state r.first.fault r.first.at_state all.last

pub returns-in_err-bucket-clause-written : goal.returns-in_err-bucket-clause-written
returns-in_err-bucket-clause-written g c = λ from starts.
    let r = c.loop-done.invariant.first from starts in
    let part =
    lines-prefix _ _ _ _ c.loop-done.invariant.so_far r.first _ _ c.args.most
    (omega (arith, c.loop-done.invariant.numbered, c.loop-done-test.true)) c.loop-done.invariant.told in
    written_before _ _ _ _ _ c.from_residual-in_err-bucket.ensures.1 part c.loop-done.invariant.quiet

pub put_records-requires-after_bounds : goal.put_records-requires-after_bounds
put_records-requires-after_bounds g c κs within =
    let i = c.loop-done.invariant in
    let r = i.first c.requires.begins.0 c.requires.begins.1 in
    let done = has_done (g.M.Model.meaning c.args.model.now) c.args.terms.now g.E.Engine.meaning g.E.Engine.terms g.E.Engine.stands_at c.loop-done.engine r.at _ c.cycle.result c.in_ok-bucket.bucket c.cycle.new.arg2 i.meaning i.terms r.stands
    (c.ended.ensures r.at r.stands) (is_none _ (sym c.if-is_some.ensures)) c.in_ok-bucket.was
    (c.requires.does _ _ c.cycle.result _ c.cycle.ensures) in
    let P : List (Key × Note) → Type 0 = AllAtObjects (g.M.Model.meaning c.args.model.now) in
    subst P (sym c.as_buffer.ensures) (at_objects _ _ _ _ i.so_far r.first i.buckets c.in_ok-bucket.bucket _ done.not_ended done.cycle i.next)

pub returns-in_err-put_records-clause-written : goal.returns-in_err-put_records-clause-written
returns-in_err-put_records-clause-written g c = λ from starts.
    let r = c.loop-done.invariant.first from starts in
    let part =
    lines-prefix _ _ _ _ c.loop-done.invariant.so_far r.first _ _ c.args.most
    (omega (arith, c.loop-done.invariant.numbered, c.loop-done-test.true)) c.loop-done.invariant.told in
    written_before _ _ _ _ _ c.from_residual-in_err-put_records.ensures.1 part c.loop-done.invariant.quiet

pub returns-in_err-write_all-clause-written : goal.returns-in_err-write_all-clause-written
returns-in_err-write_all-clause-written g c = λ from starts.
    let i = c.loop-done.invariant in
    let r = i.first from starts in
    let done = has_done (g.M.Model.meaning c.args.model.now) c.args.terms.now g.E.Engine.meaning g.E.Engine.terms g.E.Engine.stands_at c.loop-done.engine r.at _ c.cycle.result c.in_ok-bucket.bucket c.cycle.new.arg2 i.meaning i.terms r.stands
    (c.ended.ensures r.at r.stands) (is_none _ (sym c.if-is_some.ensures)) c.in_ok-bucket.was
    (c.requires.does _ _ c.cycle.result _ c.cycle.ensures) in
    let m = g.M.Model.meaning c.args.model.now in
    let goes =
    lines-go_on _ _ _ _ i.so_far r.first i.buckets c.in_ok-bucket.bucket _ done.not_ended done.cycle c.args.most
    (omega (arith, i.numbered, c.loop-done-test.true)) in
    let P : List ℕ → Type 0 = AppendsPrefix (g.K.Sink.told c.loop-done.sink) (g.K.Sink.told c.write_all.new.sink) in
    let lines = held _ _ _ _ c.clear.ensures.items (put_told m _ _ _ _ c.as_buffer.ensures c.in_ok-put_records.ensures) c.as_slice.ensures.value in
    failed_before _ _ _ _ _ c.from_residual-in_err-write_all.ensures.1
    (writes_prefix _ _ _ (first_lines m c.args.terms.now c.args.most from) (record_lines m c.in_ok-bucket.bucket.done ++ goes.0) (record_lines m c.in_ok-bucket.bucket.done) goes.0
    (record_lines m (records_of_buckets i.so_far), i.told, goes.1) refl (subst P lines c.in_err-write_all.ensures.prefix))
    (omega (arith, i.later, c.in_err-write_all.ensures.cause.later)) (rose_after _ _ _ i.quiet c.in_err-write_all.ensures.cause.failed)

pub loop-done-preserved : goal.loop-done-preserved
loop-done-preserved g c =
    let i = c.loop-done.invariant in
    let m = g.M.Model.meaning c.args.model.now in
    let t = c.args.terms.now in
    let b = c.in_ok-bucket.bucket in
    let some = i.first c.requires.begins.0 c.requires.begins.1 in
    let done_from : (from : State) (r : StandsAfter m t g.E.Engine.stands_at c.loop-done.engine i.so_far from) → HasDone m t g.E.Engine.meaning g.E.Engine.terms g.E.Engine.stands_at r.at b c.cycle.new.arg2 = λ from r.
    has_done m t g.E.Engine.meaning g.E.Engine.terms g.E.Engine.stands_at c.loop-done.engine r.at _ c.cycle.result b c.cycle.new.arg2 i.meaning i.terms r.stands
    (c.ended.ensures r.at r.stands) (is_none _ (sym c.if-is_some.ensures)) c.in_ok-bucket.was
    (c.requires.does _ _ c.cycle.result _ c.cycle.ensures) in
    let some_done = done_from c.requires.begins.0 some in
    let P : List ℕ → Type 0 = Appends (g.K.Sink.told c.loop-done.sink) (g.K.Sink.told c.write_all.new.sink) in
    let lines = held _ _ _ _ c.clear.ensures.items (put_told m _ _ _ _ c.as_buffer.ensures c.in_ok-put_records.ensures) c.as_slice.ensures.value in
    record {
      next = i.next;
      buckets = i.buckets;
      meaning = c.give_back.ensures.meaning ∙ some_done.meaning_is;
      terms = c.give_back.ensures.terms ∙ some_done.terms_is;
      so_far = i.so_far ++ b ∷ [];
      first = λ from starts.
          let r = i.first from starts in
          let done = done_from from r in
          record { at = done.left; stands = c.give_back.ensures.stands done.left done.stands; first = one_more _ _ _ _ i.so_far r.first i.buckets b _ done.not_ended done.cycle };
      numbered = ap (λ n. n + 1) i.numbered ∙ sym (length-append i.so_far (b ∷ []));
      told =
          subst (Appends (g.K.Sink.told c.args.sink.now) (g.K.Sink.told c.write_all.new.sink))
          (sym (lines-more _ _ _ _ i.so_far some.first i.buckets b _ some_done.not_ended some_done.cycle))
          (Appends-trans _ _ _ (record_lines m (records_of_buckets i.so_far)) (record_lines m b.done) i.told (subst P lines c.in_ok-write_all.ensures.all));
      later = omega (arith, i.later, c.in_ok-write_all.ensures.cause.later);
      quiet = c.in_ok-write_all.ensures.quiet ∙ i.quiet;
    }

pub returns-clause-written : goal.returns-clause-written
returns-clause-written g c = λ from starts.
    let i = c.loop-done.invariant in
    let r = i.first from starts in
    let all = all-done _ _ _ _ i.so_far r.first c.args.most (omega (arith, i.numbered, c.loop-done-test.false)) in
    all_written _ _ _ _ _ (subst (Appends (g.K.Sink.told c.args.sink.now) (g.K.Sink.told c.loop-done.sink)) (sym all.lines) i.told) i.quiet

pub returns-clause-state : goal.returns-clause-state
returns-clause-state g c = λ from starts.
    let i = c.loop-done.invariant in
    let r = i.first from starts in
    let all = all-done _ _ _ _ i.so_far r.first c.args.most (omega (arith, i.numbered, c.loop-done-test.false)) in
    stands_so g.E.Engine.stands_at c.loop-done.engine r.at r.stands _ r.first.state r.first.fault r.first.at_state all.last
