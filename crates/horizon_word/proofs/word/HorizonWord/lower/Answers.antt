use Rattle.std.proofs.Common.{ap, ◌∙◌, sym, arith}
use Rattle.horizon_word.specs.Views.{SeatView}
use Rattle.horizon_word.proofs.Moves.{lowers}
use Rattle.horizon_word.proofs.word.HorizonWord.lower.Goals as goal

pub fetch_min-before-requires : goal.fetch_min-before-requires
fetch_min-before-requires c =
    let held = c.seat.inside.seat in
    let shared = c.self.inside.table.shared in
    let floor = ap (λ (seat : SeatView). seat.floor) c.seat.view_is in
    let stamp = c.requires.stamp in
    let one = c.self.invariant in (
      ap (λ (seat : SeatView). seat.word) c.seat.view_is ∙ (c.requires.seat ∙ sym c.self.view_is),
      omega arith,
      lowers shared.key shared.table_id.slots held.id held.me c.args.stamp (omega arith),
    )
