-- What was written of a line that is written part by part.
use Rattle.std.proofs.Common.{ℕ, List, [], ◌++◌, refl, ◌∙◌, subst}
use Rattle.std.specs.Prelude.{codes}
use Rattle.sim_io.proofs.TakenLemmas.{Appends-nil, Appends-trans}
use Rattle.sim_io.specs.Taken.{Appends}
use Rattle.sim_io.specs.Transfers.{AppendsPrefix}
use Rattle.sim_io.specs.Words.{fault_name}
use Rattle.sim_io.proofs.TransferLemmas.{AppendsPrefix-next}
use Rattle.model_core.proofs.Results.{on_err}
use Rattle.program_answers.specs.Answer.{words_line}
use Rattle.program_answers.proofs.TopLemmas.{on_err_map}
use Rattle.program_answers.proofs.notes.note_words.Goals as goal

pub returns-in_err-write_all-clause-prefix : goal.returns-in_err-write_all-clause-prefix
returns-in_err-write_all-clause-prefix g c =
    on_err _ (AppendsPrefix-next _ _ _ [] (codes "words: ") (fault_name c.args.fault ++ codes "\n") _ (Appends-nil _) c.in_err-write_all.ensures.prefix refl)

pub returns-in_err-write_all-2-clause-prefix : goal.returns-in_err-write_all-2-clause-prefix
returns-in_err-write_all-2-clause-prefix g c =
    let P : List ℕ → Type 0 = AppendsPrefix (g.N.Sink.told c.write_all.new.sink) (g.N.Sink.told c.write_all-2.new.sink) in
    on_err _ (AppendsPrefix-next _ _ _ (codes "words: ") (fault_name c.args.fault) (codes "\n") _ c.in_ok-write_all.ensures.all
    (subst P (c.as_bytes.ensures.value ∙ c.name.ensures) c.in_err-write_all-2.ensures.prefix) refl)

pub returns-clause-prefix : goal.returns-clause-prefix
returns-clause-prefix g c =
    let P : List ℕ → Type 0 = Appends (g.N.Sink.told c.write_all.new.sink) (g.N.Sink.told c.write_all-2.new.sink) in
    let named = subst P (c.as_bytes.ensures.value ∙ c.name.ensures) c.in_ok-write_all-2.ensures.all in
    let before = Appends-trans _ _ _ (codes "words: ") (fault_name c.args.fault) c.in_ok-write_all.ensures.all named in
    let Part : Type 0 = AppendsPrefix (g.N.Sink.told c.write_all-2.new.sink) (g.N.Sink.told c.write_all-3.new.sink) (codes "\n") in
    let Whole : Type 0 = AppendsPrefix (g.N.Sink.told c.args.notes.now) (g.N.Sink.told c.write_all-3.new.sink) (words_line c.args.fault) in
    on_err_map {P = Part} {Q = Whole} c.write_all-3.result
    (λ part. AppendsPrefix-next _ _ _ (codes "words: " ++ fault_name c.args.fault) (codes "\n") [] _ before part refl) c.write_all-3.ensures.prefix
