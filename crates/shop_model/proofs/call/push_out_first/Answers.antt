use Rattle.std.proofs.Common.{append_assoc, refl}
use Rattle.shop_model.proofs.RoomLemmas.{has-room, one-more}
use Rattle.shop_model.proofs.call.push_out_first.Goals as goal

pub push-requires : goal.push-requires
push-requires c = has-room _ 2 13 c.requires.room refl

pub push-requires-2 : goal.push-requires-2
push-requires-2 c = has-room _ 3 12 (one-more _ _ _ 2 c.requires.room c.push.ensures) refl

pub push-requires-3 : goal.push-requires-3
push-requires-3 c = has-room _ 4 11 (one-more _ _ _ 3 (one-more _ _ _ 2 c.requires.room c.push.ensures) c.push-2.ensures) refl

pub push-requires-4 : goal.push-requires-4
push-requires-4 c =
    has-room _ 5 10 (one-more _ _ _ 4 (one-more _ _ _ 3 (one-more _ _ _ 2 c.requires.room c.push.ensures) c.push-2.ensures) c.push-3.ensures) refl

pub push-requires-5 : goal.push-requires-5
push-requires-5 c = has-room _ 6 9 (one-more _ _ _ 5
    (one-more _ _ _ 4 (one-more _ _ _ 3 (one-more _ _ _ 2 c.requires.room c.push.ensures) c.push-2.ensures) c.push-3.ensures) c.push-4.ensures) refl

pub returns-clause-few : goal.returns-clause-few
returns-clause-few c = one-more _ _ _ 6
    (one-more _ _ _ 5 (one-more _ _ _ 4 (one-more _ _ _ 3 (one-more _ _ _ 2 c.requires.room c.push.ensures) c.push-2.ensures) c.push-3.ensures)
    c.push-4.ensures) c.push-5.ensures

pub returns-clause-sheet : goal.returns-clause-sheet
returns-clause-sheet c =
    let lines = c.at-lines.ensures in
    rw (
      c.push-5.ensures,
      c.push-4.ensures,
      c.push-3.ensures,
      c.push-2.ensures,
      c.push.ensures,
      lines.jobs,
      lines.births,
      lines.since,
      lines.until,
      c.word.ensures,
    )
    (simp append_assoc)
