-- Each turn writes the lines of a stretch of the run; the last one says why the simulation stopped.
use Rattle.std.proofs.Common.{ℕ, ◌++◌, [], List, Ok, refl, sym, ap, ◌∙◌, subst, arith}
use Rattle.sim_io.proofs.TakenLemmas.{Appends-nil}
use Rattle.sim_io.specs.Taken.{Appends}
use Rattle.std.specs.Prelude.{Result, OnOk}
use Rattle.delta_exchange.specs.declared.memory.OutOfMemory.{OutOfMemory}
use Rattle.model_core.specs.Meaning.{Meaning}
use Rattle.sim_spec.specs.State.{State}
use Rattle.sim_io.specs.Texts.{record_lines}
use Rattle.sim_io.specs.Transfers.{AppendsPrefix}
use Rattle.sim_text.specs.LineStretches.{HasWrittenStretch}
use Rattle.sim_text.proofs.EventsSoFar.{comes_from, stop-at_object, stop-of_run, text-so_far, text-whole, few_stretches, told_events, has_come_on, so_far-prefix, end-prefix, end-told, stretch-prefix, stretch-told}
use Rattle.sim_text.proofs.UnderWay.{held, none_of, ended-same}
use Rattle.sim_text.proofs.WrittenLemmas.{no_prefix, rose_after, all_written, simulated_before, simulated_failed}
use Rattle.sim_text.proofs.line_simulation.simulate_lines.Goals as goal

pub loop-stop-init : goal.loop-stop-init
unfolding record_lines
loop-stop-init g c =
    let m = g.M.Model.meaning c.args.model.now in
    record {
      meaning = c.requires.meaning;
      terms = c.requires.terms;
      done = [];
      comes = λ from starts. comes_from m c.args.terms.now from g.E.Engine.stands_at c.args.engine.now starts;
      told = Appends-nil (g.K.Sink.told c.args.sink.now);
      later = omega arith;
      quiet = refl;
    }

pub returns-in_err-lines : goal.returns-in_err-lines
returns-in_err-lines g c = λ from totals starts. simulated_before _ _ _ _ _ _ _ _ _ c.from_residual.ensures.1 (no_prefix _ _) refl

pub put_stop-requires-after_bounds : goal.put_stop-requires-after_bounds
put_stop-requires-after_bounds g c κs within =
    let i = c.loop-stop.invariant in
    let r = i.comes c.requires.begins.0 c.requires.begins.1 in
    let ended = ended-same _ _ _ _ _ _ i.meaning i.terms (sym c.in-Some.is ∙ c.ended.ensures r.at r.stands) in
    stop-at_object _ _ _ _ i.done _ r.way c.in-Some.stop ended

pub returns-in_err-put_stop : goal.returns-in_err-put_stop
returns-in_err-put_stop g c = λ from totals starts.
    let i = c.loop-stop.invariant in
    let r = i.comes from starts in
    simulated_before _ _ _ _ _ _ _ _ _ c.from_residual-in_err-put_stop.ensures.1
    (so_far-prefix _ _ _ i.done _ i.told _ (text-so_far _ _ _ _ i.done _ r.way totals c.law_plain_text.ensures r.lawful)) i.quiet

pub returns-in_err-write_all : goal.returns-in_err-write_all
returns-in_err-write_all g c = λ from totals starts.
    let i = c.loop-stop.invariant in
    let r = i.comes from starts in
    let ended = ended-same _ _ _ _ _ _ i.meaning i.terms (sym c.in-Some.is ∙ c.ended.ensures r.at r.stands) in
    let whole =
    text-whole _ _ _ _ i.done _ r.way totals c.law_plain_text.ensures r.lawful c.in-Some.stop c.count-count.result ended
    (c.count-count.ensures r.at r.stands) in
    let P : List ℕ → Type 0 = AppendsPrefix (g.K.Sink.told c.loop-stop.sink) (g.K.Sink.told c.write_all.new.sink) in
    let lines = held _ _ _ _ c.clear.ensures c.in_ok-put_stop.ensures c.as_slice.ensures in
    simulated_failed _ _ _ _ _ _ _ _ _ c.from_residual-in_err-write_all.ensures.1
    (end-prefix _ _ _ i.done _ i.told _ _ whole (subst P lines c.in_err-write_all.ensures.prefix))
    (omega (arith, i.later, c.in_err-write_all.ensures.cause.later)) (rose_after _ _ _ i.quiet c.in_err-write_all.ensures.cause.failed)

pub returns-in-Some : goal.returns-in-Some
returns-in-Some g c = λ from totals starts.
    let i = c.loop-stop.invariant in
    let r = i.comes from starts in
    let ended = ended-same _ _ _ _ _ _ i.meaning i.terms (sym c.in-Some.is ∙ c.ended.ensures r.at r.stands) in
    let whole =
    text-whole _ _ _ _ i.done _ r.way totals c.law_plain_text.ensures r.lawful c.in-Some.stop c.count-count.result ended
    (c.count-count.ensures r.at r.stands) in
    let P : List ℕ → Type 0 = Appends (g.K.Sink.told c.loop-stop.sink) (g.K.Sink.told c.write_all.new.sink) in
    let lines = held _ _ _ _ c.clear.ensures c.in_ok-put_stop.ensures c.as_slice.ensures in
    record {
      written = all_written _ _ _ _ c.in-Some.stop
          (end-told _ _ _ i.done _ i.told _ _ whole (subst P lines c.in_ok-write_all.ensures.all))
          (c.in_ok-write_all.ensures.quiet ∙ i.quiet);
      stop = sym (stop-of_run _ _ _ _ i.done _ r.way c.in-Some.stop r.lawful.count ended);
    }

pub stretch-requires : goal.stretch-requires
stretch-requires g c =
    let i = c.loop-stop.invariant in
    let r = i.comes c.requires.begins.0 c.requires.begins.1 in
    c.requires.may _ r.at _ _ r.stands (sym (c.ended.ensures r.at r.stands) ∙ none_of _ c.in_default.not-Some) c.clear.ensures
    (c.requires.begins.0, c.requires.begins.1, told_events _ _ _ _ i.done _ r.way _ _ i.told)

pub returns-in_err-stretch : goal.returns-in_err-stretch
returns-in_err-stretch g c = λ from totals starts.
    let i = c.loop-stop.invariant in
    let r = i.comes from starts in
    simulated_before _ _ _ _ _ _ _ _ _ c.from_residual-in_err-stretch.ensures.1
    (so_far-prefix _ _ _ i.done _ i.told _ (text-so_far _ _ _ _ i.done _ r.way totals c.law_plain_text.ensures r.lawful)) i.quiet

pub returns-in_err-write_all-2 : goal.returns-in_err-write_all-2
returns-in_err-write_all-2 g c = λ from totals starts.
    let i = c.loop-stop.invariant in
    let m = g.M.Model.meaning c.args.model.now in
    let t = c.args.terms.now in
    let Q : Result (Unit {0}) OutOfMemory → Type 0 =
    λ a. OnOk a (HasWrittenStretch g.E.Engine.meaning g.E.Engine.terms g.E.Engine.stands_at c.loop-stop.engine c.stretch.new.arg2 c.stretch.new.arg5) in
    let written : Q (Ok tt) = subst Q c.in_ok-stretch.was (c.requires.does _ _ _ c.stretch.result _ _ c.stretch.ensures c.clear.ensures) in
    let r = i.comes from starts in
    let on = has_come_on m t g.E.Engine.meaning g.E.Engine.terms g.E.Engine.stands_at c.loop-stop.engine c.stretch.new.arg2 i.done c.loop-stop.number from _ _ c.keeps_laws.ensures i.meaning i.terms r
    (c.ended.ensures r.at r.stands) (none_of _ c.in_default.not-Some) written in
    let P : List ℕ → Type 0 = AppendsPrefix (g.K.Sink.told c.loop-stop.sink) (g.K.Sink.told c.write_all-in-loop-stop.new.sink) in
    let lines = c.as_slice-in-loop-stop.ensures ∙ written.told ∙ ap (λ (m : Meaning). record_lines m written.done) i.meaning in
    simulated_failed _ _ _ _ _ _ _ _ _ c.from_residual-in_err-write_all-2.ensures.1
    (stretch-prefix _ _ _ i.done _ i.told written.done _ _ (text-so_far _ _ _ _ (i.done ++ written.done) _ on.comes.way totals c.law_plain_text.ensures r.lawful) (subst P lines c.in_err-write_all-2.ensures.prefix))
    (omega (arith, i.later, c.in_err-write_all-2.ensures.cause.later)) (rose_after _ _ _ i.quiet c.in_err-write_all-2.ensures.cause.failed)

pub loop-stop-smaller : goal.loop-stop-smaller
loop-stop-smaller g c =
    let i = c.loop-stop.invariant in
    let r = i.comes c.requires.begins.0 c.requires.begins.1 in
    let few = few_stretches _ _ _ _ i.done _ r.way in
    omega (arith, few)

pub loop-stop-preserved : goal.loop-stop-preserved
loop-stop-preserved g c =
    let i = c.loop-stop.invariant in
    let m = g.M.Model.meaning c.args.model.now in
    let t = c.args.terms.now in
    let Q : Result (Unit {0}) OutOfMemory → Type 0 =
    λ a. OnOk a (HasWrittenStretch g.E.Engine.meaning g.E.Engine.terms g.E.Engine.stands_at c.loop-stop.engine c.stretch.new.arg2 c.stretch.new.arg5) in
    let written : Q (Ok tt) = subst Q c.in_ok-stretch.was (c.requires.does _ _ _ c.stretch.result _ _ c.stretch.ensures c.clear.ensures) in
    let on = λ (from : State) (starts : _).
    (let r = i.comes from starts in
    has_come_on m t g.E.Engine.meaning g.E.Engine.terms g.E.Engine.stands_at c.loop-stop.engine c.stretch.new.arg2 i.done c.loop-stop.number from _ _ c.keeps_laws.ensures i.meaning i.terms r
    (c.ended.ensures r.at r.stands) (none_of _ c.in_default.not-Some) written) in
    let some = on c.requires.begins.0 c.requires.begins.1 in
    let P : List ℕ → Type 0 = Appends (g.K.Sink.told c.loop-stop.sink) (g.K.Sink.told c.write_all-in-loop-stop.new.sink) in
    let lines = c.as_slice-in-loop-stop.ensures ∙ written.told ∙ ap (λ (m : Meaning). record_lines m written.done) i.meaning in
    record {
      meaning = some.meaning_is;
      terms = some.terms_is;
      done = i.done ++ written.done;
      comes = λ from starts. (on from starts).comes;
      told = stretch-told _ _ _ i.done [] i.told written.done _ (subst P lines c.in_ok-write_all-2.ensures.all);
      later = omega (arith, i.later, c.in_ok-write_all-2.ensures.cause.later);
      quiet = c.in_ok-write_all-2.ensures.quiet ∙ i.quiet;
    }
