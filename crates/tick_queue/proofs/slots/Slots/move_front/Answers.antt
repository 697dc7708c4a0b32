use Rattle.std.proofs.Common.{◌≢◌, [], sym, ◌∙◌, arith}
use Rattle.std.specs.Prelude.{slice_index_or}
use Rattle.std.proofs.lemmas.Bool.{false≢true}
use Rattle.tick_queue.proofs.SlotLemmas.{slots_moved, still_slots, left_slots, moves_seen}
use Rattle.tick_queue.proofs.slots.Slots.move_front.Goals as goal

pub is_empty-requires : goal.is_empty-requires
is_empty-requires c =
    let moved = slots_moved c.move_front.new.self.bags c.args.from c.args.to c.self.invariant c.self.view_is c.requires.to c.requires.some c.move_front.ensures.moves in
    omega (arith, moved.long, c.self.invariant.long, c.requires.from)

pub invariant_of-self : goal.invariant_of-self
invariant_of-self c =
    let moved = slots_moved c.move_front.new.self.bags c.args.from c.args.to c.self.invariant c.self.view_is c.requires.to c.requires.some c.move_front.ensures.moves in
    let left : slice_index_or c.move_front.new.self.bags c.args.from [] ≢ [] = λ none. false≢true (sym c.if-not-is_empty.true ∙ c.is_empty.ensures.1 none) in
    still_slots c.self.inside.marks c.mark.new.words c.self.inside.bags.bags c.move_front.new.self.bags c.args.from c.args.to c.self.invariant moved left c.mark.ensures.same c.mark.ensures.others

pub returns-then-not-is_empty-clause-moves : goal.returns-then-not-is_empty-clause-moves
returns-then-not-is_empty-clause-moves c = moves_seen c.args.from c.args.to c.self.view_is c.move_front.ensures.moves

pub invariant_of-self-2 : goal.invariant_of-self-2
invariant_of-self-2 c =
    let moved = slots_moved c.move_front.new.self.bags c.args.from c.args.to c.self.invariant c.self.view_is c.requires.to c.requires.some c.move_front.ensures.moves in
    left_slots c.self.inside.marks c.mark.new.words c.unmark.new.words c.self.inside.bags.bags c.move_front.new.self.bags c.args.from c.args.to c.self.invariant moved
    (c.is_empty.ensures.0 c.if-not-is_empty.false) c.mark.ensures.same c.mark.ensures.others c.unmark.ensures.same c.unmark.ensures.others

pub returns-clause-moves : goal.returns-clause-moves
returns-clause-moves c = moves_seen c.args.from c.args.to c.self.view_is c.move_front.ensures.moves
