use Rattle.std.proofs.Common.{◌≡◌, ◌+◌, ◌<◌, List, [], ◌∷◌, ◌++◌, length, map, subst, ap, sym, ◌∙◌, append_assoc, arith}
use Rattle.std.specs.Prelude.{slice_index, slice_index_or, slice_set}
use Rattle.std.specs.List.{range_with_len}
use Rattle.std.proofs.lemmas.List.{get_or_default}
use Rattle.std.proofs.lemmas.List.FromFn.{map-range_with_len_more}
use Rattle.circuit_model.specs.declared.gate.LogicGate.{LogicGate}
use Rattle.circuit_model.specs.declared.wiring.Pin.{Pin}
use Rattle.circuit_model.specs.Gates.{gate_at}
use Rattle.circuit_model.specs.Wiring.{Lists, feeder, pin, pins_below}
use Rattle.circuit_model.specs.Wired.{Lists-more, pins_below-more}
use Rattle.circuit_model.proofs.wiring.connect.Goals as goal

pub loop-place-preserved : goal.loop-place-preserved
loop-place-preserved c =
    let gates = c.args.gates.now in
    let number = c.args.number in
    let place = c.loop-place.place in
    let feeds = c.loop-place.feeds.items in
    let source = slice_index_or c.as_slice-from.result.now place 0 in
    let seen = pins_below gates number ++ map (pin number) (range_with_len 0 place) in
    let from : c.as_slice-from.result.now ≡ (gate_at gates number).from = c.as_slice-from.ensures ∙ ap (λ (gate : LogicGate). gate.from) c.gate_at.ensures in
    let fed : feeder gates (pin number place) ≡ source = ap (λ numbers. slice_index numbers place) (sym from) in
    let within : place < length (gate_at gates number).from = omega (arith, ap length from) in
    let exists : source < length gates = omega (arith, fed, (c.requires.linked.each number _ c.requires.exists).from place 0 within) in
    let more = Lists-more gates feeds seen (pin number place) source c.loop-place.invariant fed exists in
    let pins : seen ++ pin number place ∷ [] ≡ pins_below gates number ++ map (pin number) (range_with_len 0 (place + 1)) =
    append_assoc (pins_below gates number) (map (pin number) (range_with_len 0 place)) (pin number place ∷ [])
    ∙ ap (λ (rest : List Pin). pins_below gates number ++ rest) (sym (map-range_with_len_more (pin number) 0 place place (omega arith)))
    in
    let read : c.index_mut.result.now ≡ slice_index_or feeds source [] =
    c.index_mut.ensures.value ∙ get_or_default feeds source _ [] (omega (arith, c.loop-place.invariant.size))
    in
    let pushed : slice_index_or feeds source [] ++ pin number place ∷ [] ≡ c.push.new.self =
    sym (c.in_ok-push.ensures ∙ ap (λ (pins : List Pin). pins ++ pin number place ∷ []) read)
    in
    subst (λ all. Lists gates (slice_set feeds source c.push.new.self) all) pins
    (subst (λ (one : List Pin). Lists gates (slice_set feeds source one) (seen ++ pin number place ∷ [])) pushed more)

pub returns : goal.returns
returns c =
    let gates = c.args.gates.now in
    let number = c.args.number in
    let from = c.as_slice-from.ensures ∙ ap (λ (gate : LogicGate). gate.from) c.gate_at.ensures in
    let all : c.loop-place.place ≡ length (gate_at gates number).from = omega (arith, ap length from, c.loop-place-test.false) in
    let pins : pins_below gates number ++ map (pin number) (range_with_len 0 c.loop-place.place) ≡ pins_below gates (number + 1) =
    ap (λ n. pins_below gates number ++ map (pin number) (range_with_len 0 n)) all ∙ sym (pins_below-more gates number)
    in
    subst (λ seen. Lists gates c.loop-place.feeds.items seen) pins c.loop-place.invariant
