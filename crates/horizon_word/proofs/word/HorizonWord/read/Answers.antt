use Rattle.std.proofs.Common.{ap, ◌∙◌, sym, arith}
use Rattle.horizon_word.specs.Views.{SeatView}
use Rattle.horizon_word.proofs.Moves.{reads}
use Rattle.horizon_word.proofs.word.HorizonWord.read.Goals as goal

pub load-requires : goal.load-requires
load-requires c =
    let held = c.seat.inside.seat in
    let shared = c.self.inside.table.shared in
    let one = c.self.invariant in (
      ap (λ (seat : SeatView). seat.word) c.seat.view_is ∙ (c.requires ∙ sym c.self.view_is),
      omega arith,
      reads shared.key shared.table_id.slots held.id held.me,
    )
