use Rattle.std.proofs.Common.{append_assoc, refl}
use Rattle.shop_model.specs.StationEffects.{wait_effect}
use Rattle.shop_model.proofs.RoomLemmas.{has-room, one-more}
use Rattle.shop_model.proofs.station_event.StationEvent.wait.Goals as goal

pub push-requires : goal.push-requires
push-requires c = has-room _ 1 14 c.patience-until.ensures.few refl

pub push-requires-2 : goal.push-requires-2
push-requires-2 c = has-room _ 2 13 (one-more _ _ _ 1 c.patience-until.ensures.few c.push.ensures) refl

pub push-requires-3 : goal.push-requires-3
push-requires-3 c = has-room _ 3 12 (one-more _ _ _ 2 (one-more _ _ _ 1 c.patience-until.ensures.few c.push.ensures) c.push-2.ensures) refl

pub push-requires-4 : goal.push-requires-4
push-requires-4 c = has-room _ 4 11 (one-more _ _ _ 3
    (one-more _ _ _ 2 (one-more _ _ _ 1 c.patience-until.ensures.few c.push.ensures) c.push-2.ensures) c.push-3.ensures) refl

pub push-requires-5 : goal.push-requires-5
push-requires-5 c = has-room _ 5 10 (one-more _ _ _ 4
    (one-more _ _ _ 3 (one-more _ _ _ 2 (one-more _ _ _ 1 c.patience-until.ensures.few c.push.ensures) c.push-2.ensures) c.push-3.ensures)
    c.push-4.ensures) refl

pub returns : goal.returns
unfolding wait_effect
returns c =
    let lines = c.at-lines.ensures in
    rw (
      c.told-sheet.ensures,
      c.push-5.ensures,
      c.push-4.ensures,
      c.push-3.ensures,
      c.push-2.ensures,
      c.push.ensures,
      c.patience-until.ensures.sheet,
      c.patience-until.ensures.until,
      c.of.ensures,
      c.birth.ensures,
      lines.jobs,
      lines.births,
      lines.since,
      lines.until,
      c.word-waiting.ensures,
    )
    (simp append_assoc)
