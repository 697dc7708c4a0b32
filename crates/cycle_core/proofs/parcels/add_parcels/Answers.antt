-- Chain by chain what was sent is taken up.
use Rattle.std.proofs.Common.{◌≡◌, ◌≢◌, ◌<◌, ◌≤◌, length, slice_set, below_more, get_or-set_other, get_or-set_same, ◌++◌, [], append-nil, ap, eqb-true, refl, sym, ◌∙◌, arith}
use Rattle.std.specs.Prelude.{slice_index_or}
use Rattle.std.proofs.lemmas.List.{get_or_read, length-set, nil_from_length}
use Rattle.cycle_core.proofs.parcels.add_parcels.Goals as goal

pub loop-i-init : goal.loop-i-init
loop-i-init c = (refl, refl, refl, λ to below. absurd (omega arith), λ to from. refl, λ to below. absurd (omega arith), λ to from. refl)

pub append-requires : goal.append-requires
append-requires c =
    let i = c.loop-i.i in
    let so_far = c.loop-i.invariant in
    let ps = c.loop-i.parcels in
    let cs = c.loop-i.commit.out.items in
    let p0 = c.args.parcels.now in
    let c0 = c.args.commit.now.out.items in
    let here : i ≤ i = omega arith in
    let inside = c.loop-i-test.true in
    let room : i < length ps = (let many = so_far.0 in omega arith) in
    let slot : i < length cs = (let many = so_far.1 in let long = c.requires.sends.long in omega arith) in
    let was : slice_index_or ps i c.index-parcels-i.result ≡ slice_index_or p0 i [] = sym c.index-parcels-i.is ∙ get_or_read ps i c.index-parcels-i.result room c.index-parcels-i.is [] ∙ so_far.4 i here in
    let sent : c.replace-chain.result ≡ slice_index_or c0 i [] = c.replace-chain.ensures.value ∙ get_or_read cs i c.index_mut.result.now slot c.index_mut.ensures.value [] ∙ so_far.6 i here in
    let few = c.requires.few i inside in
    let first = ap length was in
    let then = ap length sent in
    omega arith

pub loop-i-preserved-then-len-eq0 : goal.loop-i-preserved-then-len-eq0
loop-i-preserved-then-len-eq0 c =
    let i = c.loop-i.i in
    let so_far = c.loop-i.invariant in
    let ps = c.loop-i.parcels in
    let cs = c.loop-i.commit.out.items in
    let p0 = c.args.parcels.now in
    let c0 = c.args.commit.now.out.items in
    let here : i ≤ i = omega arith in
    let inside = c.loop-i-test.true in
    let room : i < length ps = (let many = so_far.0 in omega arith) in
    let slot : i < length cs = (let many = so_far.1 in let long = c.requires.sends.long in omega arith) in
    let none : slice_index_or cs i [] ≡ [] = sym (get_or_read cs i c.index.result.now slot c.index.ensures []) ∙ nil_from_length c.index.result.now (sym c.len.ensures ∙ c.if-len-eq0.true) in
    let nothing : slice_index_or c0 i [] ≡ [] = sym (so_far.6 i here) ∙ none in (
      so_far.0,
      so_far.1,
      so_far.2,
      below_more (λ to. slice_index_or ps to [] ≡ slice_index_or p0 to [] ++ slice_index_or c0 to []) i so_far.3
          (so_far.4 i here ∙ sym (append-nil (slice_index_or p0 i [])) ∙ ap (λ l. slice_index_or p0 i [] ++ l) (sym nothing)),
      λ to from. so_far.4 to (omega arith),
      below_more (λ to. slice_index_or cs to [] ≡ []) i so_far.5 none,
      λ to from. so_far.6 to (omega arith),
    )

pub loop-i-preserved : goal.loop-i-preserved
loop-i-preserved c =
    let i = c.loop-i.i in
    let so_far = c.loop-i.invariant in
    let ps = c.loop-i.parcels in
    let cs = c.loop-i.commit.out.items in
    let p0 = c.args.parcels.now in
    let c0 = c.args.commit.now.out.items in
    let here : i ≤ i = omega arith in
    let inside = c.loop-i-test.true in
    let room : i < length ps = (let many = so_far.0 in omega arith) in
    let slot : i < length cs = (let many = so_far.1 in let long = c.requires.sends.long in omega arith) in
    let was : slice_index_or ps i c.index-parcels-i.result ≡ slice_index_or p0 i [] = sym c.index-parcels-i.is ∙ get_or_read ps i c.index-parcels-i.result room c.index-parcels-i.is [] ∙ so_far.4 i here in
    let sent : c.replace-chain.result ≡ slice_index_or c0 i [] = c.replace-chain.ensures.value ∙ get_or_read cs i c.index_mut.result.now slot c.index_mut.ensures.value [] ∙ so_far.6 i here in
    let moved = c.append.new.self in
    let gone = c.replace-chain.new.dest in
    let value : moved ≡ slice_index_or p0 i [] ++ slice_index_or c0 i [] = c.append.ensures ∙ (λ k. was k ++ sent k) in
    let empty : gone ≡ [] = c.replace-chain.ensures.after ∙ c.new.ensures in (
      length-set ps i moved ∙ so_far.0,
      length-set cs i gone ∙ so_far.1,
      so_far.2,
      below_more (λ to. slice_index_or (slice_set ps i moved) to [] ≡ slice_index_or p0 to [] ++ slice_index_or c0 to []) i
          (λ to lt. let ne : to ≢ i = omega arith in rw get_or-set_other (so_far.3 to lt)) (rw get_or-set_same value),
      λ to from. let ne : to ≢ i = omega arith in rw get_or-set_other (so_far.4 to (omega arith)),
      below_more (λ to. slice_index_or (slice_set cs i gone) to [] ≡ []) i (λ to lt. let ne : to ≢ i = omega arith in rw get_or-set_other (so_far.5 to lt)) (rw get_or-set_same empty),
      λ to from. let ne : to ≢ i = omega arith in rw get_or-set_other (so_far.6 to (omega arith)),
    )

pub returns-clause-many : goal.returns-clause-many
returns-clause-many c = c.loop-i.invariant.0

pub returns-then-is_empty-clause-many : goal.returns-then-is_empty-clause-many
returns-then-is_empty-clause-many c = refl

pub returns-then-is_empty-clause-added : goal.returns-then-is_empty-clause-added
returns-then-is_empty-clause-added c to =
    let none = nil_from_length c.args.commit.now.done.items (eqb-true _ 0 (sym c.is_empty.ensures ∙ c.if-is_empty.true)) in
    sym (append-nil (slice_index_or c.args.parcels.now to [])) ∙ ap (λ l. slice_index_or c.args.parcels.now to [] ++ l) (sym (c.requires.sends.idle none to))

pub returns-then-is_empty-clause-sent : goal.returns-then-is_empty-clause-sent
returns-then-is_empty-clause-sent c =
    let none = nil_from_length c.args.commit.now.done.items (eqb-true _ 0 (sym c.is_empty.ensures ∙ c.if-is_empty.true)) in
    (refl, record { many = refl; empty = λ to. c.requires.sends.idle none to })
