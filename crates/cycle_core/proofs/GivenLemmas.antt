-- Commits whose records and chains are taken out.
use Rattle.std.proofs.Common.{◌≡◌, ◌≢◌, ℕ, zero, suc, ◌+◌, ◌^◌, ◌<◌, ◌≤◌, Bool, true, false, List, [], ◌∷◌, ◌++◌, length, take, drop, map, append-nil, get_or, slice_set, refl, sym, ap, ◌∙◌, subst, arith}
use Rattle.std.proofs.lemmas.List.{length-map, map-append, take_all, take-append-drop}
use Rattle.std.proofs.lemmas.List.Sorted.{IsPermutation-append, IsPermutation-trans}
use Rattle.std.proofs.lemmas.Option.{slice_get_within}
use Rattle.std.specs.Prelude.{slice_get, Some, IsPermutation}
use Rattle.std.specs.List.{AllByRecursion as Each}
use Rattle.event_key.specs.declared.key.Key.{Key}
use Rattle.key_order.proofs.EachLemmas.{Each-append}
use Rattle.key_order.proofs.KeyLemmas.{Differ-back, Differ-permutation, Differ-prefix}
use Rattle.model_core.specs.declared.event.Event.{Event}
use Rattle.model_core.specs.declared.note.Note.{Note}
use Rattle.node_core.specs.declared.committed.Committed.{Committed}
use Rattle.cycle_core.specs.Blank.{AreBlank}
use Rattle.cycle_core.specs.Ends.{sent_in, sent_to, told_by}
use Rattle.cycle_core.specs.Places.{AtEach}
use Rattle.cycle_core.specs.Records.{AreInOrder, HaveGiven, HaveMerged, IsOnlyTold, RecordsDiffer, TellsNothing, record_key}
use Rattle.cycle_core.specs.Sendings.{HaveTakenUp, SendsTo, HasSent, HaveSent}
use Rattle.cycle_core.proofs.CyclingLemmas.{permutes-same}
use Rattle.cycle_core.proofs.MergeLemmas.{in-order-none}
use Rattle.cycle_core.proofs.PlaceLemmas.{IsUpto, at-other, at-same, at-set, at-some, drop-at, each-more, each-of, same-some, take-at, upto-more, upto-none, upto-one}
use Rattle.cycle_core.proofs.SentLemmas.{sent_to-few, sent_to-more, sent_to-none, told_by-append, told_by-more, told_by-one}

pub each-get : {A : Type 0} (P : A → Type 0) (xs : List A) → Each P xs → (k : ℕ) (x : A) → slice_get xs k ≡ Some x → P x
each-get P [] all k x at = absurd (cc)
each-get P (y ∷ ys) all zero x at = subst P (same-some y x at) all.0
each-get P (y ∷ ys) all (suc k) x at = each-get P ys all.1 k x at

same-first : {A : Type 0} (x y : A) (xs ys : List A) → x ∷ xs ≡ y ∷ ys → x ≡ y
same-first x y xs ys same = cc

same-others : {A : Type 0} (x y : A) (xs ys : List A) → x ∷ xs ≡ y ∷ ys → xs ≡ ys
same-others x y xs ys same = cc

-- what sends the same, place by place
sent-same : (old new : List Committed) → map sent_in new ≡ map sent_in old → (k : ℕ) (y : Committed) → slice_get new k ≡ Some y → (x : Committed) × (slice_get old k ≡ Some x) × (sent_in y ≡ sent_in x)
sent-same old [] same k y at = absurd (cc)
sent-same [] (z ∷ zs) same k y at = absurd (cc)
sent-same (x ∷ xs) (z ∷ zs) same zero y at = (x, refl, ap sent_in (sym (same-some z y at)) ∙ same-first (sent_in z) (sent_in x) (map sent_in zs) (map sent_in xs) same)
sent-same (x ∷ xs) (z ∷ zs) same (suc k) y at = sent-same xs zs (same-others (sent_in z) (sent_in x) (map sent_in zs) (map sent_in xs) same) k y at

-- the same is told once chains are taken out
pub told-sent : (old new : List Committed) → HaveSent old new → told_by new ≡ told_by old
unfolding told_by
told-sent [] [] moved = refl
told-sent [] (y ∷ ys) moved = absurd (let many = moved.many in omega arith)
told-sent (x ∷ xs) [] moved = absurd (let many = moved.many in omega arith)
told-sent (x ∷ xs) (y ∷ ys) moved =
    let first : y.done.items ≡ x.done.items = ap (λ v. v.items) (moved.pairs 0 x y refl refl).0 in
    let many = moved.many in
    let others = told-sent xs ys (record { many = omega arith; pairs = λ k a b at_old at_new. moved.pairs (suc k) a b at_old at_new }) in
    (λ i. first i ++ others i)

pub ordered-sent : (old new : List Committed) → HaveSent old new → Each (λ (c : Committed). AreInOrder c.done.items) old → Each (λ (c : Committed). AreInOrder c.done.items) new
ordered-sent old [] moved ordered = tt
ordered-sent [] (y ∷ ys) moved ordered = absurd (let many = moved.many in omega arith)
ordered-sent (x ∷ xs) (y ∷ ys) moved ordered =
    let first : y.done.items ≡ x.done.items = ap (λ v. v.items) (moved.pairs 0 x y refl refl).0 in
    let many = moved.many in
    (subst AreInOrder (sym first) ordered.0, ordered-sent xs ys (record { many = omega arith; pairs = λ k a b at_old at_new. moved.pairs (suc k) a b at_old at_new }) ordered.1)

-- once chains and records are taken out, the lists are as they were before the commits
pub blank-again : (nodes : ℕ) (all sent given : List Committed) → length all ≡ nodes → AtEach (λ k c. SendsTo nodes c) all → HaveSent all sent → HaveGiven sent given → AreBlank nodes given
blank-again nodes all sent given long sends moved gave = record {
  many = sym (length-map given sent_in) ∙ ap length gave.sent ∙ length-map sent sent_in ∙ moved.many ∙ long;
  each = λ k y at.
      let x = sent-same sent given gave.sent k y at in
      let below = slice_get_within sent k x.0 x.1 in
      let many = moved.many in
      let a = at-some all k (omega arith) in
      let pair = moved.pairs k a.0 x.0 a.1 x.1 in
      record {
        told = each-get TellsNothing given gave.emptied k y at;
        long = ap length x.2 ∙ pair.1.many ∙ (sends k a.0 a.1).long;
        empty = λ to. ap (λ out. get_or out to []) x.2 ∙ pair.1.empty to;
      };
}

-- the same one alone tells of something once chains are taken out
pub only-sent : (old new : List Committed) → HaveSent old new → (only : ℕ) → IsOnlyTold old only → IsOnlyTold new only
only-sent old new moved only is = record {
  within = (let many = moved.many in let within = is.within in omega arith);
  others = λ k c apart at.
      let below = slice_get_within new k c at in
      let many = moved.many in
      let x = at-some old k (omega arith) in
      ap (λ v. v.items) (moved.pairs k x.0 c x.1 at).0 ∙ is.others k x.0 apart x.1;
}

-- its chains alone are taken out
pub sent-only : (all : List Committed) (only : ℕ) (c d : Committed) → slice_get all only ≡ Some c → IsOnlyTold all only → AtEach (λ k x. SendsTo (length c.out.items) x) all → HasSent c d → HaveSent all (slice_set all only d)
sent-only all only c d at is sends moved =
    upto-one HasSent all only c d at moved (λ k x apart at_x. (refl, record { many = refl; empty = λ to. (sends k x at_x).idle (is.others k x apart at_x) to }))

pub given-none : (cs : List Committed) → length cs ≡ 0 → HaveGiven cs cs
given-none [] none = record { sent = refl; emptied = tt }
given-none (c ∷ cs) none = absurd (omega arith)

-- one commit alone
pub merged-one : (cs : List Committed) → length cs ≡ 1 → Each (λ (c : Committed). AreInOrder c.done.items) cs → HaveMerged cs cs
merged-one [] one ordered = absurd (omega arith)
merged-one (c ∷ []) one ordered = record {
  sent = refl;
  first = λ d at. (permutes-same (told_by (c ∷ [])) d.done.items (sym (told_by-one (c ∷ []) d refl at)), subst (λ (e : Committed). AreInOrder e.done.items) (same-some c d at) ordered.0);
  emptied = tt;
}
merged-one (c ∷ d ∷ cs) one ordered = absurd (omega arith)

-- what all tell is in the first commits of two lists
module _ (all front back front' back' : List Committed) (x y : Committed) (parts : all ≡ front ++ back) (f : HaveMerged front front') (b : HaveMerged back back') (at_x : slice_get front' 0 ≡ Some x) (at_y : slice_get back' 0 ≡ Some y) where
  pub merged-moves : IsPermutation (told_by all) (x.done.items ++ y.done.items)
  merged-moves =
      let P : List (Key × Note) → Type 0 = λ ts. IsPermutation ts (x.done.items ++ y.done.items) in
      subst P (sym (ap told_by parts ∙ told_by-append front back)) (IsPermutation-append (told_by front) x.done.items (told_by back) y.done.items (f.first x at_x).0 (b.first y at_y).0)

  pub merged-differ : RecordsDiffer (told_by all) → RecordsDiffer (x.done.items ++ y.done.items)
  merged-differ = Differ-permutation record_key (told_by all) (x.done.items ++ y.done.items) merged-moves

-- what is asked of all is asked of two parts
module _ (all front back : List Committed) (parts : all ≡ front ++ back) where
  pub told-front : RecordsDiffer (told_by all) → RecordsDiffer (told_by front)
  told-front differ = Differ-prefix record_key (told_by front) (told_by back) (subst RecordsDiffer (ap told_by parts ∙ told_by-append front back) differ)

  pub told-back : RecordsDiffer (told_by all) → RecordsDiffer (told_by back)
  told-back differ = Differ-back record_key (told_by front) (told_by back) (subst RecordsDiffer (ap told_by parts ∙ told_by-append front back) differ)

-- what is known of the first so many commits: one alone may tell of something, and whether it does
pub record IsOnlyUpto (cs : List Committed) (i only : ℕ) (told : Bool) : Type 0 where
  pub within : only < length cs
  pub seen : told ≡ true → only < i
  pub none : told ≡ false → (k : ℕ) (c : Committed) → k < i → slice_get cs k ≡ Some c → TellsNothing c
  pub others : (k : ℕ) (c : Committed) → k < i → k ≢ only → slice_get cs k ≡ Some c → TellsNothing c

pub only-none : (cs : List Committed) → 0 < length cs → IsOnlyUpto cs 0 0 false
only-none cs some = record { within = some; seen = λ told. absurd (cc); none = λ told k c below at. absurd (omega arith); others = λ k c below apart at. absurd (omega arith) }

-- one more that tells of nothing
pub only-more : (cs : List Committed) (i only : ℕ) (told : Bool) (x : Committed) → IsOnlyUpto cs i only told → slice_get cs i ≡ Some x → TellsNothing x → IsOnlyUpto cs (i + 1) only told
only-more cs i only told x so_far here nothing = record {
  within = so_far.within;
  seen = λ is_told. (let lt = so_far.seen is_told in omega arith);
  none = λ not_told. each-more (λ k c. TellsNothing c) cs i x here (so_far.none not_told) nothing;
  others = λ k c below apart at. each-more (λ k c. k ≢ only → TellsNothing c) cs i x here (λ k c below at apart. so_far.others k c below apart at) (λ apart. nothing) k c below at apart;
}

pub only-over : (cs : List Committed) (only : ℕ) (told : Bool) (place : ℕ) (x : Committed) → slice_get cs place ≡ Some x → TellsNothing x → IsOnlyUpto cs place only told → IsOnlyUpto cs (suc place) only told
only-over cs only told place x at nothing so_far =
    let O : ℕ → Type 0 = λ k. IsOnlyUpto cs k only told in
    subst O (let same : place + 1 ≡ suc place = omega arith in same) (only-more cs place only told x so_far at nothing)

-- one that tells of something, where none did before
pub only-told : (cs : List Committed) (i only : ℕ) → IsOnlyUpto cs i only false → i < length cs → IsOnlyUpto cs (i + 1) i true
only-told cs i only so_far inside = record {
  within = inside;
  seen = λ is_told. omega arith;
  none = λ not_told. absurd (cc);
  others = λ k c below apart at. so_far.none refl k c (omega arith) at;
}

pub only-all : (cs : List Committed) (i only : ℕ) (told : Bool) → IsOnlyUpto cs i only told → length cs ≤ i → IsOnlyTold cs only
only-all cs i only told so_far far = record { within = so_far.within; others = λ k c apart at. so_far.others k c (let lt = slice_get_within cs k c at in omega arith) apart at }

-- where others tell of nothing, all that is told is told there, and may be taken out
told-nothing : (cs : List Committed) → ((k : ℕ) (c : Committed) → slice_get cs k ≡ Some c → TellsNothing c) → told_by cs ≡ []
unfolding told_by
told-nothing [] none = refl
told-nothing (c ∷ cs) none = ap (λ ts. ts ++ told_by cs) (none 0 c refl) ∙ told-nothing cs (λ k d at. none (suc k) d at)

pub told-only : (cs : List Committed) (place : ℕ) (x : Committed) → slice_get cs place ≡ Some x → ((k : ℕ) (c : Committed) → k ≢ place → slice_get cs k ≡ Some c → TellsNothing c) → told_by cs ≡ x.done.items
unfolding told_by
told-only [] place x at others = absurd (cc)
told-only (c ∷ cs) zero x at others =
    ap (λ ts. c.done.items ++ ts) (told-nothing cs (λ k d at_d. others (suc k) d (λ same. omega arith) at_d)) ∙ append-nil c.done.items ∙ ap (λ (d : Committed). d.done.items) (same-some c x at)
told-only (c ∷ cs) (suc place) x at others =
    ap (λ ts. ts ++ told_by cs) (others 0 c (λ same. omega arith) refl) ∙ told-only cs place x at (λ k d apart at_d. others (suc k) d (λ same. apart (omega arith)) at_d)

pub given-only : (cs : List Committed) (place : ℕ) (x y : Committed) → slice_get cs place ≡ Some x → ((k : ℕ) (c : Committed) → k ≢ place → slice_get cs k ≡ Some c → TellsNothing c) → y.out ≡ x.out → TellsNothing y → HaveGiven cs (slice_set cs place y)
given-only [] place x y at others same nothing = absurd (cc)
given-only (c ∷ cs) zero x y at others same nothing = record {
  sent = ap (λ v. v ∷ map sent_in cs) (ap (λ v. v.items) same ∙ ap sent_in (sym (same-some c x at)));
  emptied = (nothing, each-of TellsNothing cs (λ k d at_d. others (suc k) d (λ e. omega arith) at_d));
}
given-only (c ∷ cs) (suc place) x y at others same nothing =
    let more = given-only cs place x y at (λ k d apart at_d. others (suc k) d (λ e. apart (omega arith)) at_d) same nothing in
    record { sent = ap (λ vs. sent_in c ∷ vs) more.sent; emptied = (others 0 c (λ e. omega arith) refl, more.emptied) }

-- the first commits of two lists were changed
module _ (front back : List Committed) (x y u v : Committed) (first : u.out ≡ x.out) (second : v.out ≡ y.out) where
  sent-both : (zs ws front' back' : List Committed) (z w : Committed) → front' ≡ z ∷ zs → back' ≡ w ∷ ws → z ≡ x → w ≡ y → map sent_in front' ≡ map sent_in front → map sent_in back' ≡ map sent_in back
      → map sent_in ((u ∷ zs) ++ (v ∷ ws)) ≡ map sent_in (front ++ back)
  sent-both zs ws front' back' z w is_front is_back is_x is_y same_front same_back =
      let left : map sent_in (u ∷ zs) ≡ map sent_in front = ap (λ o. o ∷ map sent_in zs) (ap (λ o. o.items) first ∙ ap sent_in (sym is_x)) ∙ ap (map sent_in) (sym is_front) ∙ same_front in
      let right : map sent_in (v ∷ ws) ≡ map sent_in back = ap (λ o. o ∷ map sent_in ws) (ap (λ o. o.items) second ∙ ap sent_in (sym is_y)) ∙ ap (map sent_in) (sym is_back) ∙ same_back in
      map-append sent_in (u ∷ zs) (v ∷ ws) ∙ (λ i. left i ++ right i) ∙ sym (map-append sent_in front back)

  pub merged-both : (front' back' : List Committed) → HaveMerged front front' → HaveMerged back back' → slice_get front' 0 ≡ Some x → slice_get back' 0 ≡ Some y
      → IsPermutation (x.done.items ++ y.done.items) u.done.items → AreInOrder u.done.items → TellsNothing v → HaveMerged (front ++ back) (slice_set front' 0 u ++ slice_set back' 0 v)
  merged-both [] back' f b at_x at_y moves up none = absurd (cc)
  merged-both (z ∷ zs) [] f b at_x at_y moves up none = absurd (cc)
  merged-both (z ∷ zs) (w ∷ ws) f b at_x at_y moves up none =
      let left = (f.first x at_x).0 in
      let right = (b.first y at_y).0 in
      let P : List (Key × Note) → Type 0 = λ ts. IsPermutation ts u.done.items in
      let all : P (told_by (front ++ back)) = subst P (sym (told_by-append front back))
      (IsPermutation-trans (told_by front ++ told_by back) (x.done.items ++ y.done.items) u.done.items (IsPermutation-append (told_by front) x.done.items (told_by back) y.done.items left right) moves) in
      let Q : Committed → Type 0 = λ c. IsPermutation (told_by (front ++ back)) c.done.items × AreInOrder c.done.items in
      record {
        sent = sent-both zs ws (z ∷ zs) (w ∷ ws) z w refl refl (same-some z x at_x) (same-some w y at_y) f.sent b.sent;
        first = λ c at. subst Q (same-some u c at) (all, up);
        emptied = Each-append TellsNothing zs (v ∷ ws) f.emptied (none, b.emptied);
      }

  pub given-both : (front' back' : List Committed) → HaveMerged front front' → HaveMerged back back' → slice_get front' 0 ≡ Some x → slice_get back' 0 ≡ Some y
      → TellsNothing u → TellsNothing v → HaveGiven (front ++ back) (slice_set front' 0 u ++ slice_set back' 0 v)
  given-both [] back' f b at_x at_y no_left no_right = absurd (cc)
  given-both (z ∷ zs) [] f b at_x at_y no_left no_right = absurd (cc)
  given-both (z ∷ zs) (w ∷ ws) f b at_x at_y no_left no_right = record {
    sent = sent-both zs ws (z ∷ zs) (w ∷ ws) z w refl refl (same-some z x at_x) (same-some w y at_y) f.sent b.sent;
    emptied = (no_left, Each-append TellsNothing zs (v ∷ ws) f.emptied (no_right, b.emptied));
  }

sent-set : (cs : List Committed) (i : ℕ) (c v : Committed) → slice_get cs i ≡ Some c → v.out ≡ c.out → map sent_in (slice_set cs i v) ≡ map sent_in cs
sent-set [] i c v at same = absurd (cc)
sent-set (d ∷ ds) zero c v at same = ap (λ o. o ∷ map sent_in ds) (ap (λ o. o.items) same ∙ ap sent_in (sym (same-some d c at)))
sent-set (d ∷ ds) (suc i) c v at same = ap (λ os. sent_in d ∷ os) (sent-set ds i c v at same)

-- as far as commits are merged one after another
pub record IsMerging (old now : List Committed) (merged : List (Key × Note)) (place : ℕ) : Type 0 where
  pub permutes : IsPermutation (told_by (take place old)) merged
  pub ordered : AreInOrder merged
  pub sent : map sent_in now ≡ map sent_in old
  pub emptied : (k : ℕ) (c : Committed) → k < place → slice_get now k ≡ Some c → TellsNothing c
  pub behind : (k : ℕ) → place ≤ k → slice_get now k ≡ slice_get old k

pub merging-none : (old : List Committed) (merged : List (Key × Note)) → merged ≡ [] → IsMerging old old merged 0
unfolding told_by
merging-none old merged none = record {
  permutes = permutes-same [] merged none;
  ordered = in-order-none merged none;
  sent = refl;
  emptied = λ k c below at. absurd (omega arith);
  behind = λ k from. refl;
}

-- what is told by the commits up to this one
told-upto : (old : List Committed) (place : ℕ) (c : Committed) → slice_get old place ≡ Some c → told_by (take (suc place) old) ≡ told_by (take place old) ++ c.done.items
told-upto old place c at = ap told_by (take-at old place c at) ∙ told_by-more (take place old) c

pub merging-long : (old now : List Committed) (merged : List (Key × Note)) (place : ℕ) → IsMerging old now merged place → length now ≡ length old
merging-long old now merged place so_far = sym (length-map now sent_in) ∙ ap length so_far.sent ∙ length-map old sent_in

-- one that tells of nothing
pub merging-over : (old now : List Committed) (merged : List (Key × Note)) (place : ℕ) (c : Committed) → slice_get old place ≡ Some c → TellsNothing c → IsMerging old now merged place → IsMerging old now merged (suc place)
merging-over old now merged place c at nothing so_far = record {
  permutes =
      let P : List (Key × Note) → Type 0 = λ ts. IsPermutation ts merged in
      subst P (sym (told-upto old place c at ∙ ap (λ ts. told_by (take place old) ++ ts) nothing ∙ append-nil (told_by (take place old)))) so_far.permutes;
  ordered = so_far.ordered;
  sent = so_far.sent;
  emptied = λ k d below at_d. each-more (λ k e. TellsNothing e) now place c (so_far.behind place (omega arith) ∙ at) so_far.emptied nothing k d (omega arith) at_d;
  behind = λ k from. so_far.behind k (omega arith);
}

-- the records of the next one differ from those that are merged
pub merging-differ : (old now : List Committed) (merged : List (Key × Note)) (place : ℕ) (c : Committed) → slice_get old place ≡ Some c → RecordsDiffer (told_by old) → IsMerging old now merged place → RecordsDiffer (merged ++ c.done.items)
merging-differ old now merged place c at differ so_far =
    let whole : told_by old ≡ told_by (take (suc place) old) ++ told_by (drop (suc place) old) = ap told_by (sym (take-append-drop (suc place) old)) ∙ told_by-append (take (suc place) old) (drop (suc place) old) in
    let front = Differ-prefix record_key (told_by (take (suc place) old)) (told_by (drop (suc place) old)) (subst RecordsDiffer whole differ) in
    let moves = IsPermutation-append (told_by (take place old)) merged c.done.items c.done.items so_far.permutes (permutes-same c.done.items c.done.items refl) in
    Differ-permutation record_key (told_by (take place old) ++ c.done.items) (merged ++ c.done.items) moves (subst RecordsDiffer (told-upto old place c at) front)

-- one whose records are merged
pub merging-more : (old now : List Committed) (merged merged' : List (Key × Note)) (place : ℕ) (c v : Committed) → slice_get now place ≡ Some c → IsPermutation (merged ++ c.done.items) merged' → AreInOrder merged' → TellsNothing v → v.out ≡ c.out
    → IsMerging old now merged place → IsMerging old (slice_set now place v) merged' (suc place)
merging-more old now merged merged' place c v here moves ordered nothing out so_far =
    let at = sym (so_far.behind place (omega arith)) ∙ here in
    let within = slice_get_within now place c here in
    record {
      permutes =
          let P : List (Key × Note) → Type 0 = λ ts. IsPermutation ts merged' in
          let both = IsPermutation-append (told_by (take place old)) merged c.done.items c.done.items so_far.permutes (permutes-same c.done.items c.done.items refl) in
          subst P (sym (told-upto old place c at)) (IsPermutation-trans (told_by (take place old) ++ c.done.items) (merged ++ c.done.items) merged' both moves);
      ordered = ordered;
      sent = sent-set now place c v here out ∙ so_far.sent;
      emptied = λ k d below at_d.
          each-more (λ k e. TellsNothing e) (slice_set now place v) place v (at-set now place v within) (λ k e under at_e. so_far.emptied k e under (sym (at-other now place k v (λ same. omega arith)) ∙ at_e)) nothing k d (omega arith) at_d;
      behind = λ k from. at-other now place k v (λ same. omega arith) ∙ so_far.behind k (omega arith);
    }

-- all are merged
pub merging-all : (old now : List Committed) (merged : List (Key × Note)) → IsMerging old now merged (length old) → IsPermutation (told_by old) merged × HaveGiven old now
merging-all old now merged so_far =
    let P : List (Key × Note) → Type 0 = λ ts. IsPermutation ts merged in
    let many = merging-long old now merged (length old) so_far in (
      subst P (ap told_by (take_all (length old) old (omega arith))) so_far.permutes,
      record { sent = so_far.sent; emptied = each-of TellsNothing now (λ k c at. so_far.emptied k c (let below = slice_get_within now k c at in omega arith) at) },
    )

-- as far as what commits send is sorted into parcels
pub record IsSorting (old now : List Committed) (many : ℕ) (parcels : List (List Event)) (place : ℕ) : Type 0 where
  pub long : length parcels ≡ many
  pub sorted : (to : ℕ) → get_or parcels to [] ≡ sent_to to (take place old)
  pub upto : IsUpto HasSent place old now

sent-upto : (to : ℕ) (old : List Committed) (place : ℕ) (c : Committed) → slice_get old place ≡ Some c → sent_to to (take (suc place) old) ≡ sent_to to (take place old) ++ get_or c.out.items to []
sent-upto to old place c at = ap (sent_to to) (take-at old place c at) ∙ sent_to-more to (take place old) c

pub sorting-none : (old : List Committed) (parcels : List (List Event)) → ((to : ℕ) → get_or parcels to [] ≡ []) → IsSorting old old (length parcels) parcels 0
sorting-none old parcels empty = record { long = refl; sorted = λ to. empty to ∙ sym (sent_to-none to); upto = upto-none HasSent old }

-- one that tells of nothing, and so sends nothing
pub sorting-over : (old now : List Committed) (many : ℕ) (parcels : List (List Event)) (place : ℕ) (c : Committed) → slice_get old place ≡ Some c → TellsNothing c → SendsTo many c → IsSorting old now many parcels place
    → IsSorting old now many parcels (suc place)
sorting-over old now many parcels place c at nothing sends so_far =
    let here = so_far.upto.rest place (omega arith) ∙ at in
    let U : List Committed → Type 0 = λ cs. IsUpto HasSent (suc place) old cs in
    record {
      long = so_far.long;
      sorted = λ to.
          so_far.sorted to ∙ sym (append-nil (sent_to to (take place old))) ∙ ap (λ es. sent_to to (take place old) ++ es) (sym (sends.idle nothing to)) ∙ sym (sent-upto to old place c at);
      upto = subst U (at-same now place c here) (upto-more HasSent place old now c c so_far.upto here (refl, record { many = refl; empty = λ to. sends.idle nothing to }));
    }

pub sorting-more : (old now : List Committed) (many : ℕ) (parcels after : List (List Event)) (place : ℕ) (c v : Committed) → slice_get now place ≡ Some c → length after ≡ length parcels
    → HaveTakenUp c.out.items parcels after → HasSent c v → IsSorting old now many parcels place → IsSorting old (slice_set now place v) many after (suc place)
sorting-more old now many parcels after place c v here long added sent so_far =
    let at = sym (so_far.upto.rest place (omega arith)) ∙ here in
    record {
      long = long ∙ so_far.long;
      sorted = λ to. added to ∙ ap (λ es. es ++ get_or c.out.items to []) (so_far.sorted to) ∙ sym (sent-upto to old place c at);
      upto = upto-more HasSent place old now c v so_far.upto here sent;
    }

-- the parcels have room for what the next one sends
pub sorting-few : (old now : List Committed) (many : ℕ) (parcels : List (List Event)) (place : ℕ) (c : Committed) (to : ℕ) → slice_get old place ≡ Some c → length (sent_to to old) < 2 ^ 60 → IsSorting old now many parcels place
    → length (get_or parcels to []) + length (get_or c.out.items to []) < 2 ^ 60
sorting-few old now many parcels place c to at few so_far =
    let whole = ap (λ cs. take place old ++ cs) (sym (drop-at old place c at)) ∙ take-append-drop place old in
    let room = sent_to-few to (take place old) c (drop (suc place) old) old whole few in
    let same = ap length (so_far.sorted to) in
    omega arith
