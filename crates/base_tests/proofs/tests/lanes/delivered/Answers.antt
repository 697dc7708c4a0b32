-- What node 0 posted to node 1 rests there alone.
use Rattle.std.proofs.Common.{◌≡◌, ⊎_elim, ℕ, ◌<◌, List, [], ◌∷◌, ◌++◌, map, length, get_or, set, sym, ap, subst, ◌∙◌, arith}
use Rattle.std.specs.Prelude.{All, Some, slice_get}
use Rattle.std.specs.List.{range_with_len}
use Rattle.std.proofs.lemmas.Bool.{cases_eq}
use Rattle.std.proofs.lemmas.List.{append-nil, append_cancel_left, get_or-set_same, get_or-set_other, length-set, length-map}
use Rattle.std.proofs.lemmas.Option.{slice_get-get_or}
use Rattle.release_lanes.specs.declared.parcel.Parcel.{Parcel}
use Rattle.release_lanes.specs.Lanes.{AllReceived}
use Rattle.release_lanes.proofs.Numbers.{numbered_length, numbered_at}
use Rattle.base_tests.proofs.tests.lanes.delivered.Given.{Over}
use Rattle.base_tests.proofs.tests.lanes.delivered.Goals as goal
use Rattle.base_tests.proofs.tests.lanes.delivered.Goals.{After-give_back}

module _ {E P : Type 0} (number : E → ℕ) (sent_by received_by : E → ℕ → List P) (sent received rest : ℕ → ℕ → List P) where
  arrival : (ends : List E) (e0 e1 e2 : E) (p : P) → map number ends ≡ range_with_len 0 2 → e0 ≡ get_or ends 0 e0 → number e2 ≡ number e0
      → AllReceived sent_by received_by ends
      → sent_by e2 1 ≡ sent_by e0 1 ++ p ∷ []
      → All (λ end. (to : ℕ) → sent (number end) to ≡ sent_by end to) (set (set ends 0 e1) 0 e2)
      → All (λ end. (from : ℕ) → received from (number end) ≡ received_by end from) (set (set ends 0 e1) 0 e2)
      → received 0 1 ++ rest 0 1 ≡ sent 0 1 → received 1 1 ++ rest 1 1 ≡ sent 1 1
      → (rest 0 1 ≡ p ∷ []) × (rest 1 1 ≡ [])
  arrival ends e0 e1 e2 p numbers at alike even one all_sent all_received law0 law1 =
      let later = set (set ends 0 e1) 0 e2 in
      let long = numbered_length number ends 2 numbers in
      let first : 0 < length ends = omega arith in
      let second : 1 < length ends = omega arith in
      let same_long = length-set (set ends 0 e1) 0 e2 ∙ length-set ends 0 e1 in
      let last = get_or ends 1 e0 in
      let here : get_or later 0 e2 ≡ e2 = get_or-set_same (set ends 0 e1) 0 e2 e2 (omega (arith, length-set ends 0 e1)) in
      let apart : ◌≡◌ {A = ℕ} 1 0 → ⊥ = λ (e : ◌≡◌ {A = ℕ} 1 0). absurd (omega arith) in
      let there : get_or later 1 e0 ≡ last = get_or-set_other (set ends 0 e1) 0 1 e2 e0 apart ∙ get_or-set_other ends 0 1 e1 e0 apart in
      let zero : number e2 ≡ 0 = alike ∙ ap number at ∙ numbered_at number ends 2 0 e0 numbers (omega arith) in
      let one_is : number last ≡ 1 = numbered_at number ends 2 1 e0 numbers (omega arith) in
      let is_first : slice_get ends 0 ≡ Some e0 = slice_get-get_or ends 0 e0 first ∙ ap Some (sym at) in
      let is_last : slice_get ends 1 ≡ Some last = slice_get-get_or ends 1 e0 second in
      let sent01 = ap (λ n. sent n 1) (sym zero) ∙ ap (λ e. sent (number e) 1) (sym here) ∙ all_sent 0 e2 (omega arith) 1 ∙ ap (λ e. sent_by e 1) here ∙ one in
      let sent11 = ap (λ n. sent n 1) (sym one_is) ∙ ap (λ e. sent (number e) 1) (sym there) ∙ all_sent 1 e0 (omega arith) 1 ∙ ap (λ e. sent_by e 1) there in
      let got01 = ap (λ n. received 0 n) (sym one_is) ∙ ap (λ e. received 0 (number e)) (sym there) ∙ all_received 1 e0 (omega arith) 0 ∙ ap (λ e. received_by e 0) there ∙ even 0 1 e0 last is_first is_last in
      let got11 = ap (λ n. received 1 n) (sym one_is) ∙ ap (λ e. received 1 (number e)) (sym there) ∙ all_received 1 e0 (omega arith) 1 ∙ ap (λ e. received_by e 1) there ∙ even 1 1 last last is_last is_last in (
        append_cancel_left (sent_by e0 1) (rest 0 1) (p ∷ []) (ap (λ l. l ++ rest 0 1) (sym got01) ∙ law0 ∙ sent01),
        append_cancel_left (sent_by last 1) (rest 1 1) [] (ap (λ l. l ++ rest 1 1) (sym got11) ∙ law1 ∙ sent11 ∙ sym (append-nil (sent_by last 1))),
      )

-- the parcel of both messages
abbrev parcel : (g : Over) → After-give_back g → Parcel
parcel g c = record { from = 0; events = c.args.events }

-- it alone rests for node 1
rests : (g : Over) (c : After-give_back g) → (g.L.Lanes.rest c.give_back.new.self 0 1 ≡ parcel g c ∷ []) × (g.L.Lanes.rest c.give_back.new.self 1 1 ≡ [])
rests g c =
    let number = g.L.End.NodeEnd.number in
    let sent_by = g.L.End.NodeEnd.sent in
    let had = c.in_ok-ends.ensures in
    let ends = c.in_ok-ends.ends.items in
    let e0 = c.index_mut.result.now in
    let e1 = c.post.new.self in
    let e2 = c.post-2.new.self in
    let again = c.index_mut-2.result.now in
    let lanes = c.give_back.new.self in
    let p = parcel g c in
    let met = g.met.L.End.NodeEnd g.world.𝓛 g.world.𝓜 g.world.𝓡 ((λ s x. x), (λ x. x), (λ x. x), λ x. x) in
    let long : length ends ≡ 2 = sym (length-map ends number) ∙ ap length had.numbers ∙ ap (λ n. length (range_with_len 0 n)) c.requires.nodes in
    let within : 0 < length ends = omega arith in
    let at = c.index_mut.ensures.value in
    let same : again ≡ e1 = c.index_mut-2.ensures.value ∙ get_or-set_same ends 0 e1 again within in
    let apart : ◌≡◌ {A = ℕ} 1 0 → ⊥ = λ (e : ◌≡◌ {A = ℕ} 1 0). absurd (omega arith) in
    let alike = met.same_number again e2 c.post-2.ensures.end ∙ ap number same ∙ met.same_number e0 e1 c.post.ensures.end in
    let one = c.post-2.ensures.sent.0 ∙ ap (λ e. sent_by e 1 ++ p ∷ []) same ∙ ap (λ l. l ++ p ∷ []) (c.post.ensures.sent.1 1 apart) in
    let nodes : g.L.Lanes.nodes lanes ≡ 2 = c.give_back.ensures.nodes ∙ had.nodes ∙ c.requires.nodes in
    let back = c.give_back.ensures.back in
    arrival number sent_by g.L.End.NodeEnd.received (g.L.Lanes.sent lanes) (g.L.Lanes.received lanes) (g.L.Lanes.rest lanes) ends e0 e1 e2 p
    (had.numbers ∙ ap (λ n. range_with_len 0 n) c.requires.nodes) at alike had.received one c.give_back.ensures.sent c.give_back.ensures.received
    (g.met.L.Lanes.lane lanes back 0 1 (omega arith) (omega arith)) (g.met.L.Lanes.lane lanes back 1 1 (omega arith) (omega arith))

pub unreachable-requires : goal.unreachable-requires
unreachable-requires g c =
    let rest = rests g (goal.at.unreachable-requires g c).After-give_back in
    let nodes : g.L.Lanes.nodes c.give_back.new.self ≡ 2 = c.give_back.ensures.nodes ∙ c.in_ok-ends.ensures.nodes ∙ c.requires.nodes in
    let none_left = c.in_default.ensures.none 0 (omega arith) in
    let both = sym rest.0 ∙ none_left in
    cc

pub returns : goal.returns
returns g c =
    let rest = rests g (goal.at.returns g c).After-give_back in
    let p = parcel g (goal.at.returns g c).After-give_back in
    let lanes = c.give_back.new.self in
    let nodes : g.L.Lanes.nodes lanes ≡ 2 = c.give_back.ensures.nodes ∙ c.in_ok-ends.ensures.nodes ∙ c.requires.nodes in
    let some = c.in-Some.ensures.some in
    let from = some.from in
    let less = some.within in
    ⊎_elim
    (λ (here : from ≡ 0).
    let first = sym rest.0 ∙ ap (λ n. g.L.Lanes.rest lanes n 1) (sym here) ∙ some.first in
    let is : p ≡ c.in-Some.parcel = cc in
    (sym (ap (λ (x : Parcel). x.from) is), sym (ap (λ (x : Parcel). x.events) is)))
    (λ (there : from ≡ 0 → ⊥).
    let at_one : from ≡ 1 = omega arith in
    let first = sym rest.1 ∙ ap (λ n. g.L.Lanes.rest lanes n 1) (sym at_one) ∙ some.first in
    absurd cc)
    (cases_eq from 0)

-- the first end is that of node 0 before and after its first post, and both lanes are free
pub post-requires-clause-node : goal.post-requires-clause-node
post-requires-clause-node g c =
    let had = c.in_ok-ends.ensures in
    let long = numbered_length g.L.End.NodeEnd.number c.in_ok-ends.ends.items (g.L.Lanes.nodes c.args.lanes.now) had.numbers in
    let two = c.requires.nodes in
    let count = ap g.L.End.NodeEnd.nodes c.index_mut.ensures.value ∙ had.count 0 c.index_mut.result.now (omega arith) in
    omega arith

pub post-requires-clause-from : goal.post-requires-clause-from
post-requires-clause-from g c =
    let number = g.L.End.NodeEnd.number in
    let two = c.requires.nodes in
    sym (ap number c.index_mut.ensures.value ∙ numbered_at number c.in_ok-ends.ends.items (g.L.Lanes.nodes c.args.lanes.now) 0 c.index_mut.result.now c.in_ok-ends.ensures.numbers (omega arith))

pub post-requires-clause-free : goal.post-requires-clause-free
post-requires-clause-free g c =
    let had = c.in_ok-ends.ensures in
    let long = numbered_length g.L.End.NodeEnd.number c.in_ok-ends.ends.items (g.L.Lanes.nodes c.args.lanes.now) had.numbers in
    let two = c.requires.nodes in
    let P : g.row.L-End.Denot → Type 0 = λ end. g.L.End.NodeEnd.is_free end 0 in
    subst P (sym c.index_mut.ensures.value) (had.free 0 c.index_mut.result.now (omega arith) 0 (omega arith))

pub post-requires-2-clause-node : goal.post-requires-2-clause-node
post-requires-2-clause-node g c =
    let had = c.in_ok-ends.ensures in
    let ends = c.in_ok-ends.ends.items in
    let met = g.met.L.End.NodeEnd g.world.𝓛 g.world.𝓜 g.world.𝓡 ((λ s x. x), (λ x. x), (λ x. x), λ x. x) in
    let long = numbered_length g.L.End.NodeEnd.number ends (g.L.Lanes.nodes c.args.lanes.now) had.numbers in
    let two = c.requires.nodes in
    let e1 = c.post.new.self in
    let again = c.index_mut-2.result.now in
    let same : again ≡ e1 = c.index_mut-2.ensures.value ∙ get_or-set_same ends 0 e1 again (omega arith) in
    let count = ap g.L.End.NodeEnd.nodes same ∙ met.same_nodes c.index_mut.result.now e1 c.post.ensures.end ∙ ap g.L.End.NodeEnd.nodes c.index_mut.ensures.value ∙ had.count 0 c.index_mut.result.now (omega arith) in
    omega arith

pub post-requires-2-clause-from : goal.post-requires-2-clause-from
post-requires-2-clause-from g c =
    let had = c.in_ok-ends.ensures in
    let ends = c.in_ok-ends.ends.items in
    let number = g.L.End.NodeEnd.number in
    let met = g.met.L.End.NodeEnd g.world.𝓛 g.world.𝓜 g.world.𝓡 ((λ s x. x), (λ x. x), (λ x. x), λ x. x) in
    let long = numbered_length number ends (g.L.Lanes.nodes c.args.lanes.now) had.numbers in
    let two = c.requires.nodes in
    let e1 = c.post.new.self in
    let again = c.index_mut-2.result.now in
    let same : again ≡ e1 = c.index_mut-2.ensures.value ∙ get_or-set_same ends 0 e1 again (omega arith) in
    sym (ap number same ∙ met.same_number c.index_mut.result.now e1 c.post.ensures.end ∙ ap number c.index_mut.ensures.value
    ∙ numbered_at number ends (g.L.Lanes.nodes c.args.lanes.now) 0 c.index_mut.result.now had.numbers (omega arith))

pub post-requires-2-clause-free : goal.post-requires-2-clause-free
post-requires-2-clause-free g c =
    let had = c.in_ok-ends.ensures in
    let ends = c.in_ok-ends.ends.items in
    let long = numbered_length g.L.End.NodeEnd.number ends (g.L.Lanes.nodes c.args.lanes.now) had.numbers in
    let two = c.requires.nodes in
    let e1 = c.post.new.self in
    let again = c.index_mut-2.result.now in
    let same : again ≡ e1 = c.index_mut-2.ensures.value ∙ get_or-set_same ends 0 e1 again (omega arith) in
    let apart : ◌≡◌ {A = ℕ} 1 0 → ⊥ = λ (e : ◌≡◌ {A = ℕ} 1 0). absurd (omega arith) in
    let P : g.row.L-End.Denot → Type 0 = λ end. g.L.End.NodeEnd.is_free end 1 in
    subst P (sym same) (c.post.ensures.free 1 apart (subst P (sym c.index_mut.ensures.value) (had.free 0 c.index_mut.result.now (omega arith) 1 (omega arith))))
