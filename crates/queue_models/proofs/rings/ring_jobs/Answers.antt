use Rattle.std.proofs.Common.{ℕ, ◌*◌, arith, ◌∙◌, ap, sym, ◌++◌, ◌∷◌, [], List}
use Rattle.std.proofs.lemmas.List.FromFn.{map-range_with_len_more}
use Rattle.model_core.specs.declared.entry.Entry.{Entry}
use Rattle.queue_models.proofs.rings.ring_jobs.Goals as goal

pub loop-number-preserved : goal.loop-number-preserved
loop-number-preserved c =
    let i = c.loop-number.number in
    let job : ℕ → Entry = λ i. record { time = 0; at = 2 * i; rank = 0 } in
    c.in_ok-push.ensures.items
    ∙ ap (λ (before : List Entry). before ++ job i ∷ []) c.loop-number.invariant
    ∙ sym (map-range_with_len_more job 0 i i (omega arith))
