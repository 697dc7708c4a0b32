-- The place is one of the older ones, or of the newer ones.
use Rattle.std.proofs.Common.{ℕ, ◌-◌, length, map, sym, ap, ◌∙◌, arith}
use Rattle.std.specs.Prelude.{slice_get, option_map}
use Rattle.std.proofs.lemmas.Option.{slice_get-map}
use Rattle.object_log.specs.Rows.{PileView}
use Rattle.object_log.specs.Sends.{least_of}
use Rattle.object_log.proofs.RowLemmas.{turned-early, turned-late}
use Rattle.object_log.proofs.entries.Entries.least_at.Goals as goal

pub returns-then-place-early : goal.returns-then-place-early
returns-then-place-early c =
    let early = c.self.inside.early.done in
    let late = c.self.inside.late.done in
    let at = ap (λ (n : ℕ). slice_get (map least_of early) (n - 1 - c.args.place)) (sym c.len-early.ensures) in
    slice_get-map least_of c.args.self.now.done c.args.place
    ∙ ap (λ (v : PileView). option_map least_of (slice_get v.done c.args.place)) (sym c.self.view_is)
    ∙ ap (option_map least_of) (turned-early early late c.args.place (omega (arith, c.if-place-early.true)))
    ∙ sym (slice_get-map least_of early (length early - 1 - c.args.place))
    ∙ at ∙ c.least_at.ensures

pub returns-else-place-early : goal.returns-else-place-early
returns-else-place-early c =
    let early = c.self.inside.early.done in
    let late = c.self.inside.late.done in
    let at = ap (λ (n : ℕ). slice_get (map least_of late) (c.args.place - n)) (sym c.len-early.ensures) in
    slice_get-map least_of c.args.self.now.done c.args.place
    ∙ ap (λ (v : PileView). option_map least_of (slice_get v.done c.args.place)) (sym c.self.view_is)
    ∙ ap (option_map least_of) (turned-late early late c.args.place (omega (arith, c.if-place-early.false)))
    ∙ sym (slice_get-map least_of late (c.args.place - length early))
    ∙ at ∙ c.least_at-else-place-early.ensures
