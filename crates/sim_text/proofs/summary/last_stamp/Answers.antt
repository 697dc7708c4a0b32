use Rattle.std.proofs.Common.{◌-◌, length, eqb-true, sym, ap, ◌∙◌, List}
use Rattle.std.specs.List.{slice_get}
use Rattle.event_key.specs.declared.key.Key.{Key}
use Rattle.model_core.specs.declared.note.Note.{Note}
use Rattle.sim_text.proofs.SummaryLemmas.{last_stamp-last, last_stamp-none}
use Rattle.sim_text.proofs.summary.last_stamp.Goals as goal

pub returns-then-is_empty : goal.returns-then-is_empty
returns-then-is_empty c =
    let none = eqb-true _ 0 (sym c.is_empty.ensures ∙ c.if-is_empty.true) in
    sym (last_stamp-none c.args.before c.args.bucket.now.done (ap (λ (records : List (Key × Note)). length records) (sym c.as_buffer-records.ensures) ∙ none))

pub returns : goal.returns
returns c =
    let records = c.as_buffer-records.result.now.items in
    let told : Key × Note = (c.at.result.0.now, c.at.result.1.now) in
    let here = ap (λ (records : List (Key × Note)). slice_get records (length records - 1)) (sym c.as_buffer-records.ensures) in
    let place = ap (λ n. slice_get records (n - 1)) (sym c.len.ensures) in
    sym (last_stamp-last c.args.before c.args.bucket.now.done told (here ∙ place ∙ c.at.ensures.told))
