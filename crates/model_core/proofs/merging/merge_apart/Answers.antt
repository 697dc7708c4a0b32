use Rattle.std.proofs.Common.{◌≡◌, ◌+◌, ◌++◌, ◌∷◌, [], List, ℕ, map, length, nat_lt, not, get_or, if◌then◌else◌, ◌≢◌, sym, ap, ◌∙◌, subst, refl, arith}
use Rattle.std.specs.Int.{from_bool}
use Rattle.event_key.specs.Keys.{key_lt}
use Rattle.model_core.specs.declared.record_head.RecordHead.{RecordHead}
use Rattle.model_core.specs.Records.{head_key, place, shifted}
use Rattle.model_core.specs.Sorted.{IsMerging}
use Rattle.model_core.proofs.SortedLemmas.{blank, chosen-once, heads-chosen, key_lt-by-place, merging-none, sorted-map}
use Rattle.model_core.proofs.merging.merge_apart.Goals as goal

pub loop-i-init : goal.loop-i-init
loop-i-init c =
    let right = map (shifted c.args.by) c.args.right.now in
    record {
      merging = subst (IsMerging head_key c.args.left.now right 0 0) (sym c.requires.empty) (merging-none head_key c.args.left.now right c.requires.left (sorted-map (shifted c.args.by) head_key c.args.right.now c.requires.right));
      count = ap length c.requires.empty;
      capacity = refl;
    }

pub loop-i-preserved : goal.loop-i-preserved
loop-i-preserved c =
    let x = get_or c.args.left.now c.loop-i.i blank in
    let y = get_or c.args.right.now c.loop-i.j blank in
    let here = c.place_of-here.result in
    let there = c.place_of-there.result in
    let apart : place x.key ≢ place y.key = λ same. c.if-here-there.false (c.place_of-here.ensures.place ∙ same ∙ sym c.place_of-there.ensures.place) in
    let is : nat_lt here there ≡ key_lt x.key y.key =
    ap (λ n. nat_lt n there) c.place_of-here.ensures.place ∙ ap (λ n. nat_lt (place x.key) n) c.place_of-there.ensures.place
    ∙ key_lt-by-place x.key y.key c.place_of-here.ensures.rank c.place_of-here.ensures.dest c.place_of-there.ensures.rank c.place_of-there.ensures.dest apart in
    let more = heads-chosen c.args.left.now c.args.right.now c.args.by c.loop-i.i c.loop-i.j c.loop-i.merged.items c.loop-i.invariant.merging blank blank c.loop-i-test.true c.if-j-right.true (nat_lt here there) is in
    let right = map (shifted c.args.by) c.args.right.now in
    let head = if nat_lt here there then x else shifted c.args.by y in
    let items : c.push_reserved.new.self.items ≡ c.loop-i.merged.items ++ head ∷ [] = c.push_reserved.ensures.items ∙ ap (λ h. c.loop-i.merged.items ++ h ∷ []) c.choose.ensures in
    let P : List RecordHead → ℕ → ℕ → Type 0 = λ merged m n. IsMerging head_key c.args.left.now right (c.loop-i.i + m) (c.loop-i.j + n) merged in
    let m = from_bool (nat_lt here there) in
    let n = from_bool (not (nat_lt here there)) in
    let count = c.loop-i.invariant.count in
    let len = c.push_reserved.ensures.len in
    let one = chosen-once (nat_lt here there) in
    let fi = c.from-i.ensures in
    let fj = c.from-j.ensures in
    record {
      merging = subst (λ merged. P merged c.from-i.result c.from-j.result) (sym items) (subst (λ k. P (c.loop-i.merged.items ++ head ∷ []) k c.from-j.result) (sym fi) (subst (λ k. P (c.loop-i.merged.items ++ head ∷ []) m k) (sym fj) more));
      count = omega (arith, count, len, one, fi, fj);
      capacity = c.push_reserved.ensures.capacity ∙ c.loop-i.invariant.capacity;
    }

pub choose-requires : goal.choose-requires
choose-requires c = c.requires.further c.loop-i.j blank c.if-j-right.true
