use Rattle.std.proofs.Common.{◌∙◌, ◌+◌, ◌^◌, ◌++◌, [], take, take_all, ap, sym, refl, arith, append-nil}
use Rattle.model_core.specs.declared.note.Note.{Note}
use Rattle.shop_totals.specs.Records.{parts_at}
use Rattle.shop_totals.proofs.BoundLemmas.{sums_up-within}
use Rattle.shop_totals.proofs.RecordLemmas.{parts_at-more}
use Rattle.shop_totals.proofs.StationLemmas.{sums_up-pass, sums_up-told}
use Rattle.shop_totals.proofs.station_totals.StationTotals.add.Goals as goal

pub loop-part-init : goal.loop-part-init
loop-part-init c = record {
  clock = c.pass-self.ensures.clock;
  sums = λ first servers classes told most is.
      sums_up-within first servers classes (told ++ []) most (most + 0)
      (record { sums = c.pass-self.result; classes = c.args.self.now.classes; visits = c.args.self.now.visits })
      (omega arith)
      (sums_up-told first servers classes told (told ++ []) most
      (record { sums = c.pass-self.result; classes = c.args.self.now.classes; visits = c.args.self.now.visits })
      (sym (append-nil told))
      (sums_up-pass first servers classes told most c.args.time c.args.self.now
      (record { sums = c.pass-self.result; classes = c.args.self.now.classes; visits = c.args.self.now.visits })
      is c.requires.time c.pass-self.ensures.clock c.pass-self.ensures.first c.pass-self.ensures.sums c.pass-self.ensures.within refl refl));
}

pub add_part-requires : goal.add_part-requires
add_part-requires c =
    let room = c.requires.room in
    let i = c.loop-part.part-index in (
      room.0,
      room.1,
      room.2,
      room.3 ++ parts_at c.args.time (take i c.args.parts.now),
      sums_up-within room.0 room.1 room.2 (room.3 ++ parts_at c.args.time (take i c.args.parts.now)) (2 ^ 61 + i) (2 ^ 62) c.loop-part.self
          (omega arith)
          (c.loop-part.invariant.sums room.0 room.1 room.2 room.3 (2 ^ 61) room.4),
    )

pub loop-part-preserved : goal.loop-part-preserved
loop-part-preserved c =
    let i = c.loop-part.part-index in
    let note = c.args.parts.now in
    let seen = parts_at c.args.time (take i note) in
    record {
      clock = c.add_part.ensures.clock ∙ c.loop-part.invariant.clock;
      sums = λ first servers classes told most is.
          sums_up-within first servers classes (told ++ parts_at c.args.time (take (i + 1) note)) (most + i + 1) (most + (i + 1)) c.add_part.new.self
          (omega arith)
          (sums_up-told first servers classes _ (told ++ parts_at c.args.time (take (i + 1) note)) (most + i + 1) c.add_part.new.self
          (parts_at-more told c.args.time note i _ c.loop-part-test.true)
          (c.add_part.ensures.sums first servers c.args.time classes (told ++ seen) (most + i) c.loop-part.invariant.clock (c.loop-part.invariant.sums first servers classes told most is)));
    }

pub returns-clause-sums : goal.returns-clause-sums
returns-clause-sums c first servers classes told most is =
    let i = c.loop-part.part-index in
    let note = c.args.parts.now in
    sums_up-within first servers classes (told ++ parts_at c.args.time note) (most + i) (most + 4) c.loop-part.self (omega arith)
    (sums_up-told first servers classes (told ++ parts_at c.args.time (take i note)) (told ++ parts_at c.args.time note) (most + i) c.loop-part.self
    (ap (λ (note : Note). told ++ parts_at c.args.time note) (take_all i note c.loop-part-test.false))
    (c.loop-part.invariant.sums first servers classes told most is))
