use Rattle.std.proofs.Common.{◌≡◌, ◌+◌, ◌++◌, ◌∷◌, [], List, ℕ, map, take, drop, length, ◌<◌, ◌≤◌, ◌-◌, if◌then◌else◌, get_or, append_assoc, length-take, sym, ap, ◌∙◌, subst, arith}
use Rattle.std.proofs.lemmas.List.{take_all, length-drop, length-map}
use Rattle.std.proofs.lemmas.List.Elements.{All-drop, All-take, All-weaker}
use Rattle.std.specs.Prelude.{IsPermutation}
use Rattle.model_core.specs.declared.record_head.RecordHead.{RecordHead}
use Rattle.model_core.specs.Records.{head_key, shifted}
use Rattle.model_core.specs.Sorted.{AreSorted, IsMerging}
use Rattle.model_core.proofs.SortedLemmas.{blank, heads-left, heads-right, heads-end, heads-moved, put-by-none}
use Rattle.model_core.proofs.merging.merge.Goals as goal
use Rattle.model_core.proofs.merging.merge.Goals.{then-loop-i-test+else-j-right, else-loop-i-test}

pub loop-i-preserved-then-is_left : goal.loop-i-preserved-then-is_left
loop-i-preserved-then-is_left c =
    let x = get_or c.args.left.now c.loop-i.i blank in
    let y = get_or c.args.right.now c.loop-i.j blank in
    let right = map (shifted c.args.by) c.args.right.now in
    let lt = sym c.is_before-is_left.ensures ∙ c.if-is_left.true in
    let chosen : c.choose.result ≡ x = c.choose.ensures ∙ ap (λ b. if b then x else shifted c.args.by y) c.if-is_left.true in
    let items : c.push_reserved.new.self.items ≡ c.loop-i.merged.items ++ x ∷ [] = c.push_reserved.ensures.items ∙ ap (λ head. c.loop-i.merged.items ++ head ∷ []) chosen in
    let more = heads-left c.args.left.now c.args.right.now c.args.by c.loop-i.i c.loop-i.j c.loop-i.merged.items c.loop-i.invariant.merging blank blank c.loop-i-test.true c.if-j-right.true lt in
    let count = c.loop-i.invariant.count in
    let len = c.push_reserved.ensures.len in
    record {
      merging = subst (IsMerging head_key c.args.left.now right (c.loop-i.i + 1) c.loop-i.j) (sym items) more;
      count = omega (arith, count, len);
      capacity = c.push_reserved.ensures.capacity ∙ c.loop-i.invariant.capacity;
    }

pub loop-i-preserved : goal.loop-i-preserved
loop-i-preserved c =
    let x = get_or c.args.left.now c.loop-i.i blank in
    let y = get_or c.args.right.now c.loop-i.j blank in
    let right = map (shifted c.args.by) c.args.right.now in
    let not_lt = sym c.is_before-is_left.ensures ∙ c.if-is_left.false in
    let chosen : c.choose.result ≡ shifted c.args.by y = c.choose.ensures ∙ ap (λ b. if b then x else shifted c.args.by y) c.if-is_left.false in
    let items : c.push_reserved.new.self.items ≡ c.loop-i.merged.items ++ shifted c.args.by y ∷ [] = c.push_reserved.ensures.items ∙ ap (λ head. c.loop-i.merged.items ++ head ∷ []) chosen in
    let more = heads-right c.args.left.now c.args.right.now c.args.by c.loop-i.i c.loop-i.j c.loop-i.merged.items c.loop-i.invariant.merging blank blank c.loop-i-test.true c.if-j-right.true not_lt in
    let count = c.loop-i.invariant.count in
    let len = c.push_reserved.ensures.len in
    record {
      merging = subst (IsMerging head_key c.args.left.now right c.loop-i.i (c.loop-i.j + 1)) (sym items) more;
      count = omega (arith, count, len);
      capacity = c.push_reserved.ensures.capacity ∙ c.loop-i.invariant.capacity;
    }

pub choose-requires : goal.choose-requires
choose-requires c = c.requires.further c.loop-i.j blank c.if-j-right.true

-- there is room for those that are left of both
room-left : (len long i j room mid most left right : ℕ) → len ≡ long → long ≡ i + j → room ≡ mid → mid ≡ most → left + right ≤ most → i < left → j < right → len < room
room-left len long i j room mid most left right len_is long_is room_is mid_is enough some more = omega arith

pub push_reserved-requires : goal.push_reserved-requires
push_reserved-requires c = room-left _ _ _ _ _ _ _ _ _ c.loop-i.merged.ok.0 c.loop-i.invariant.count c.loop-i.invariant.capacity c.merge_apart-i.ensures.capacity c.requires.room c.loop-i-test.true c.if-j-right.true

-- and for what is left of the first
room-for-rest : (left : List RecordHead) (len long i j room mid most right : ℕ) → len ≡ long → long ≡ i + j → room ≡ mid → mid ≡ most → length left + right ≤ most → i ≤ length left → j ≤ right → len + length (take (length left - i) (drop i left)) ≤ room
room-for-rest left len long i j room mid most right len_is long_is room_is mid_is enough here there = let part = length-take (length left - i) (drop i left) in omega arith

pub put_heads-requires-clause-room : goal.put_heads-requires-clause-room
put_heads-requires-clause-room c =
    let l = c.loop-i in
    let J : ℕ → Type 0 = λ n. l.j ≤ n in
    room-for-rest c.args.left.now _ _ l.i l.j _ _ _ _ l.merged.ok.0 l.invariant.count l.invariant.capacity c.merge_apart-i.ensures.capacity c.requires.room l.invariant.merging.left_in
    (subst J (length-map c.args.right.now (shifted c.args.by)) l.invariant.merging.right_in)

pub put_heads-requires-clause-further : goal.put_heads-requires-clause-further
put_heads-requires-clause-further c =
    let left = c.args.left.now in
    let i = c.loop-i.i in
    All-weaker (λ (head : RecordHead). head.start < 18446744073709551616) (λ (head : RecordHead). head.start + 0 < 18446744073709551616) (λ head lt. omega arith) _
    (All-take (λ (head : RecordHead). head.start < 18446744073709551616) (length left - i) (drop i left) (All-drop (λ (head : RecordHead). head.start < 18446744073709551616) i left c.requires.here))

-- what is there at the end
all-items : (merged merged' merged'' : List RecordHead) (left right : List RecordHead) (by i j : ℕ) → merged' ≡ merged ++ map (shifted 0) (take (length left - i) (drop i left)) → merged'' ≡ merged' ++ map (shifted by) (take (length right - j) (drop j right))
    → merged ++ (drop i left ++ map (shifted by) (drop j right)) ≡ merged''
all-items merged merged' merged'' left right by i j here there =
    let lefts : take (length left - i) (drop i left) ≡ drop i left = take_all (length left - i) (drop i left) (let long = length-drop i left in omega arith) in
    let rights : take (length right - j) (drop j right) ≡ drop j right = take_all (length right - j) (drop j right) (let long = length-drop j right in omega arith) in
    let first : merged' ≡ merged ++ drop i left = here ∙ ap (λ hs. merged ++ hs) (put-by-none _ ∙ lefts) in
    sym (there ∙ ap (λ hs. hs ++ map (shifted by) (take (length right - j) (drop j right))) first ∙ ap (λ hs. (merged ++ drop i left) ++ map (shifted by) hs) rights ∙ append_assoc merged (drop i left) (map (shifted by) (drop j right)))

pub returns-clause-permutes : goal.returns-clause-permutes
returns-clause-permutes c =
    let left = c.args.left.now in
    let right = c.args.right.now in
    let by = c.args.by in
    subst (IsPermutation (left ++ map (shifted by) right)) (all-items c.loop-i.merged.items c.put_heads.new.into.items c.put_heads-2.new.into.items left right by c.loop-i.i c.loop-i.j c.put_heads.ensures.items c.put_heads-2.ensures.items)
    (heads-moved left right by c.loop-i.i c.loop-i.j c.loop-i.merged.items c.loop-i.invariant.merging)

pub returns-clause-ordered : goal.returns-clause-ordered
returns-clause-ordered c =
    let left = c.args.left.now in
    let right = c.args.right.now in
    let by = c.args.by in
    let none : c.loop-i.i < length left → c.loop-i.j < length right → ⊥ = λ i_in j_in. elim c.loop-i-test.branch [
      | then-loop-i-test+else-j-right w ↦ let no = w.if-j-right in omega arith
      | else-loop-i-test w ↦ let no = w.loop-i-test in omega arith
    ] in
    subst (AreSorted head_key) (all-items c.loop-i.merged.items c.put_heads.new.into.items c.put_heads-2.new.into.items left right by c.loop-i.i c.loop-i.j c.put_heads.ensures.items c.put_heads-2.ensures.items)
    (heads-end left right by c.loop-i.i c.loop-i.j c.loop-i.merged.items c.loop-i.invariant.merging none)
