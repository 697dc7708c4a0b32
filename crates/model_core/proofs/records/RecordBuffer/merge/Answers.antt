use Rattle.std.proofs.Common.{◌≡◌, ℕ, ◌++◌, List, [], length, map, refl, sym, ap, ◌∙◌, subst, arith}
use Rattle.std.specs.Prelude.{IsPermutation}
use Rattle.event_key.specs.declared.key.Key.{Key}
use Rattle.model_core.specs.declared.note.Note.{Note}
use Rattle.model_core.specs.declared.note.Part.{Part}
use Rattle.model_core.specs.declared.record_head.RecordHead.{RecordHead}
use Rattle.model_core.specs.Records.{RecordsView, head_key, record_key, record_of, records_of, shifted}
use Rattle.model_core.specs.Sorted.{AreSorted}
use Rattle.model_core.proofs.RecordLemmas.{merged-among, merged-few, merged-records, no-parts}
use Rattle.model_core.proofs.SortedLemmas.{sorted-map, sorted-unmap}
use Rattle.model_core.proofs.records.RecordBuffer.merge.Goals as goal

-- the heads of a buffer are sorted as its records are
heads-sorted : (heads slice : List RecordHead) (parts : List Part) (view : RecordsView) → records_of heads parts ≡ view.items → AreSorted record_key view.items → slice ≡ heads → AreSorted head_key slice
heads-sorted heads slice parts view is sorted same =
    subst (AreSorted head_key) (sym same) (sorted-unmap (record_of parts) record_key heads (subst (AreSorted record_key) (sym is) sorted))

pub merge-requires-clause-left : goal.merge-requires-clause-left
merge-requires-clause-left c =
    heads-sorted c.left.inside.heads.items c.as_slice.result.now c.left.inside.parts.items c.args.left.now (ap (λ (v : RecordsView). v.items) c.left.view_is) c.requires.left c.as_slice.ensures.value

pub merge-requires-clause-right : goal.merge-requires-clause-right
merge-requires-clause-right c =
    heads-sorted c.right.inside.heads.items c.as_slice-2.result.now c.right.inside.parts.items c.args.right.now (ap (λ (v : RecordsView). v.items) c.right.view_is) c.requires.right c.as_slice-2.ensures.value

-- what is merged, in terms of the lists of both buffers
moved-of : (heads others slice slice' merged : List RecordHead) (by : ℕ) → slice ≡ heads → slice' ≡ others → IsPermutation (slice ++ map (shifted by) slice') merged → IsPermutation (heads ++ map (shifted by) others) merged
moved-of heads others slice slice' merged by here there moves =
    let P : List RecordHead → List RecordHead → Type 0 = λ hs os. IsPermutation (hs ++ map (shifted by) os) merged in
    subst (P heads) there (subst (λ hs. P hs slice') here moves)

all-of : (own reserved parts more slice slice' first all : List Part) → own ≡ [] → reserved ≡ own → slice ≡ parts → slice' ≡ more → first ≡ reserved ++ slice → all ≡ first ++ slice' → all ≡ parts ++ more
all-of own reserved parts more slice slice' first all none same here there is_first is_all =
    is_all ∙ ap (λ ps. ps ++ slice') (is_first ∙ ap (λ ps. ps ++ slice) (same ∙ none) ∙ here) ∙ ap (λ ps. parts ++ ps) there

pub invariant_of-self : goal.invariant_of-self
invariant_of-self c =
    let heads = c.left.inside.heads.items in
    let others = c.right.inside.heads.items in
    let parts = c.left.inside.parts.items in
    let more = c.right.inside.parts.items in
    let merged = c.merge.new.merged.items in
    let all = c.copy_parts-2.new.into.items in
    let by = c.len-by.result in
    let none = no-parts c.self.inside.heads.items c.self.inside.parts.items (ap (λ (v : RecordsView). v.items) c.self.view_is ∙ c.reserve.ensures.same ∙ c.requires.empty) c.self.invariant.few_parts in
    let moves = moved-of heads others c.as_slice.result.now c.as_slice-2.result.now merged by c.as_slice.ensures.value c.as_slice-2.ensures.value c.merge.ensures.permutes in
    let is_all = all-of c.self.inside.parts.items c.self.inside.parts.items parts more c.as_slice-3.result.now c.as_slice-4.result.now c.copy_parts.new.into.items all none refl c.as_slice-3.ensures.value c.as_slice-4.ensures.value c.copy_parts.ensures.items c.copy_parts-2.ensures.items in
    let is_by : by ≡ length parts = omega (arith, c.len-by.ensures, c.left.inside.parts.ok) in
    let for_heads = c.room_of-self-inside.ensures.heads in
    let for_parts = c.room_of-self-inside.ensures.parts in
    record {
      among = merged-among heads others merged parts more all by moves is_by is_all c.left.invariant.among c.right.invariant.among;
      head_room = omega (arith, for_heads, c.merge.new.merged.ok, c.merge.new.merged.small);
      part_room = omega (arith, for_parts, c.copy_parts-2.new.into.ok, c.copy_parts-2.new.into.small);
      few_parts = merged-few heads others merged parts more all by moves is_by is_all c.left.invariant.few_parts c.right.invariant.few_parts;
    }

pub returns-clause-permutes : goal.returns-clause-permutes
returns-clause-permutes c =
    let heads = c.left.inside.heads.items in
    let others = c.right.inside.heads.items in
    let parts = c.left.inside.parts.items in
    let more = c.right.inside.parts.items in
    let merged = c.merge.new.merged.items in
    let all = c.copy_parts-2.new.into.items in
    let by = c.len-by.result in
    let none = no-parts c.self.inside.heads.items c.self.inside.parts.items (ap (λ (v : RecordsView). v.items) c.self.view_is ∙ c.reserve.ensures.same ∙ c.requires.empty) c.self.invariant.few_parts in
    let moves = moved-of heads others c.as_slice.result.now c.as_slice-2.result.now merged by c.as_slice.ensures.value c.as_slice-2.ensures.value c.merge.ensures.permutes in
    let is_all = all-of c.self.inside.parts.items c.self.inside.parts.items parts more c.as_slice-3.result.now c.as_slice-4.result.now c.copy_parts.new.into.items all none refl c.as_slice-3.ensures.value c.as_slice-4.ensures.value c.copy_parts.ensures.items c.copy_parts-2.ensures.items in
    let is_by : by ≡ length parts = omega (arith, c.len-by.ensures, c.left.inside.parts.ok) in
    let P : List (Key × Note) → List (Key × Note) → Type 0 = λ xs ys. IsPermutation (xs ++ ys) (records_of merged all) in
    subst (λ ys. P c.args.left.now.items ys) (ap (λ (v : RecordsView). v.items) c.right.view_is)
    (subst (λ xs. P xs (records_of others more)) (ap (λ (v : RecordsView). v.items) c.left.view_is)
    (merged-records heads others merged parts more all by moves is_by is_all c.left.invariant.among))

pub returns-clause-ordered : goal.returns-clause-ordered
returns-clause-ordered c = sorted-map (record_of c.copy_parts-2.new.into.items) record_key c.merge.new.merged.items c.merge.ensures.ordered
