-- A bucket under way, over a simulation that keeps its events in one list.
use Rattle.std.proofs.Common.{◌≡◌, ℕ, true, false, List, [], ◌∷◌, ◌++◌, sym, refl, ap, ◌∙◌, subst}
use Rattle.std.specs.Prelude.{Some, None}
use Rattle.event_key.specs.declared.key.Key.{Key}
use Rattle.event_key.specs.declared.stamp.TheConstants.{NO_STAMP}
use Rattle.model_core.specs.declared.note.Note.{Note}
use Rattle.model_core.specs.Meaning.{Meaning, MeaningLaws}
use Rattle.sim_spec.specs.declared.bucket.Bucket.{Bucket}
use Rattle.sim_spec.specs.declared.terms.Terms.{Terms}
use Rattle.sim_spec.specs.Cut.{cut, after}
use Rattle.sim_spec.specs.State.{State, Lawful}
use Rattle.tick_queue.specs.Queues.{IsSettled}
use Rattle.one_thread.specs.declared.bucket_end.BucketEnd.{BucketEnd}
use Rattle.one_thread.specs.declared.bucket_end.BucketEnd.TheVariants.{Whole, Limit, Fault}
use Rattle.one_thread.specs.Ends.{bucket_of, HasEnd}
use Rattle.one_thread.specs.Engines.{Course, state_of}
use Rattle.one_thread.specs.Turns.{horizon_of, NoneDue, EndsSo, IsDone, IsFailed, IsFull}
use Rattle.one_thread.proofs.BucketLemmas.{InBucket, starts, goes_on}
use Rattle.one_thread.proofs.EndLemmas.{Ends, ends_whole, ends_faulted, ends_limited}
use Rattle.one_thread.proofs.Parts.{Parts, HasParts, none_due, done_parts, failed_parts, full_parts, parts_begin, parts_stay}

pub record UnderWay (m : Meaning) (t : Terms) (s : State) (told : List (Key × Note)) (c : Course) : Type 0 where
  pub parts : Parts
  pub has : HasParts c parts
  pub bucket : InBucket m t s told parts

pub begins : (m : Meaning) (t : Terms) (s : State) (told : List (Key × Note)) (c : Course) → told ≡ [] → state_of c ≡ s → c.queue.fresh_least ≡ NO_STAMP → Lawful m t s → UnderWay m t s told c
begins m t s told c no_told is_s none lawful =
    let has = parts_begin c none in
    record {
      parts = record { objects = c.objects; primary = c.queue.pending; fresh = []; count = c.count };
      has = has;
      bucket = starts m t s told (record { objects = c.objects; primary = c.queue.pending; fresh = []; count = c.count }) no_told (sym has.state ∙ is_s) refl lawful;
    }

pub stays : (m : Meaning) (t : Terms) (s : State) (told : List (Key × Note)) (c now : Course) → UnderWay m t s told c → state_of now ≡ state_of c → now.queue.fresh_least ≡ c.queue.fresh_least
    → UnderWay m t s told now
stays m t s told c now h state least = record { parts = h.parts; has = parts_stay c now h.parts h.has state least; bucket = h.bucket }

pub lawful_in : (m : Meaning) (t : Terms) (s : State) (told : List (Key × Note)) (c : Course) → UnderWay m t s told c → Lawful m t (state_of c)
lawful_in m t s told c h = let P : State → Type 0 = Lawful m t in subst P (sym h.has.state) h.bucket.lawful

pub goes : (m : Meaning) (t : Terms) (s : State) (told now : List (Key × Note)) (c new : Course) (key : Key) (note : Note) → MeaningLaws m → UnderWay m t s told c → IsDone m t c key note new
    → now ≡ told ++ (key, note) ∷ [] → UnderWay m t s now new
goes m t s told now c new key note laws h one is_now =
    let d = done_parts m t c h.parts key note new h.has h.bucket.lawful one in
    record { parts = d.parts; has = d.has; bucket = goes_on m t s told now h.parts d.parts key note laws h.bucket d.done is_now }

-- what a bucket comes to, and the state that it leaves
pub record Leaves (m : Meaning) (t : Terms) (s : State) (bucket : Bucket) (c : Course) : Type 0 where
  pub is_cut : bucket ≡ cut m t s
  pub is_after : state_of c ≡ after m t s
  pub lawful : Lawful m t (state_of c)

leaves : (m : Meaning) (t : Terms) (s : State) (bucket : Bucket) (c : Course) (p : Parts) → HasParts c p → Ends m t s bucket p → Leaves m t s bucket c
leaves m t s bucket c p has ends =
    let P : State → Type 0 = Lawful m t in
    record { is_cut = ends.is_cut; is_after = has.state ∙ ends.is_after; lawful = subst P (sym has.state) ends.lawful }

pub leaves_whole : (m : Meaning) (t : Terms) (s : State) (told : List (Key × Note)) (c : Course) (h : ℕ) (bucket : Bucket) → UnderWay m t s told c → h ≡ horizon_of t c → NoneDue h c.queue.pending
    → bucket ≡ record { done = told; horizon = h; fault = None; limited = false } → Leaves m t s bucket c
leaves_whole m t s told c h bucket u is_h none is_bucket =
    let both = none_due t c u.parts h u.has is_h none in
    leaves m t s bucket c u.parts u.has (ends_whole m t s told u.parts h bucket u.bucket both.0 both.1 is_bucket)

pub leaves_faulted : (m : Meaning) (t : Terms) (s : State) (told : List (Key × Note)) (c : Course) (key : Key) (code : ℕ) (bucket : Bucket) → UnderWay m t s told c → IsFailed m t c key code
    → bucket ≡ record { done = told; horizon = 0; fault = Some (key, code); limited = false } → Leaves m t s bucket c
leaves_faulted m t s told c key code bucket u failed is_bucket =
    leaves m t s bucket c u.parts u.has (ends_faulted m t s told u.parts key code bucket u.bucket (failed_parts m t c u.parts key code u.has u.bucket.lawful failed) is_bucket)

pub leaves_limited : (m : Meaning) (t : Terms) (s : State) (told : List (Key × Note)) (c : Course) (bucket : Bucket) → UnderWay m t s told c → IsFull t c
    → bucket ≡ record { done = told; horizon = 0; fault = None; limited = true } → Leaves m t s bucket c
leaves_limited m t s told c bucket u full is_bucket =
    leaves m t s bucket c u.parts u.has (ends_limited m t s told u.parts bucket u.bucket (full_parts m t c u.parts u.has u.bucket.lawful full) is_bucket)

-- a bucket has ended, and its course is settled
pub record HasEnded (m : Meaning) (t : Terms) (s : State) (bucket : Bucket) (c : Course) : Type 0 where
  pub leaves : Leaves m t s bucket c
  pub settled : IsSettled c.queue

-- by a turn that leaves all as it was
pub has_ended : (m : Meaning) (t : Terms) (s : State) (told : List (Key × Note)) (c new : Course) (end : BucketEnd) → UnderWay m t s told c → IsSettled c.queue → EndsSo m t c end → new ≡ c
    → HasEnded m t s (bucket_of told end) new
has_ended m t s told c new end u settled so same =
    let P : Course → Type 0 = HasEnded m t s (bucket_of told end) in
    subst P (sym same) (record { leaves = by_end end so; settled = settled })
  where
    by_end : (end : BucketEnd) → EndsSo m t c end → Leaves m t s (bucket_of told end) c
    by_end (Whole horizon) so = leaves_whole m t s told c horizon _ u so.0 so.1 refl
    by_end Limit so = leaves_limited m t s told c _ u so refl
    by_end (Fault key code) so = leaves_faulted m t s told c key code _ u so refl

-- the cut is the bucket that ended so
pub cut_ended : (m : Meaning) (t : Terms) (s : State) (told : List (Key × Note)) (end : BucketEnd) (c : Course) → HasEnded m t s (bucket_of told end) c → HasEnd (cut m t s) end
cut_ended m t s told end c ended = sym ended.leaves.is_cut ∙ ap (λ (b : Bucket). bucket_of b.done end) ended.leaves.is_cut
