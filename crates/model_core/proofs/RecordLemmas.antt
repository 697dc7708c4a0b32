-- Records, with others behind them.
use Rattle.std.proofs.Common.{◌≡◌, ℕ, suc, ◌+◌, ◌*◌, ◌<◌, ◌≤◌, map, sym, subst, ◌∙◌, List, [], ◌∷◌, ◌++◌, length, take, drop, refl, ap, ◌∙◌, arith, length-append, length-drop}
use Rattle.std.proofs.lemmas.List.{length-map, nil_from_length, take_all, drop_at, take-append-le, drop-append-le}
use Rattle.std.proofs.lemmas.List.Elements.{All-append, All-head, All-map, All-tail, All-weaker}
use Rattle.std.proofs.lemmas.List.Sorted.{All-permutation, IsPermutation-map, length_permutation}
use Rattle.std.specs.Prelude.{All, IsPermutation}
use Rattle.event_key.specs.declared.key.Key.{Key}
use Rattle.model_core.specs.declared.note.Note.{Note}
use Rattle.model_core.specs.declared.note.Part.{Part}
use Rattle.model_core.specs.declared.record_head.RecordHead.{RecordHead}
use Rattle.model_core.specs.Records.{record_of, records_of, shifted, IsAmong}

-- parts that come later are told of no record before
record_of-kept : (parts more : List Part) (head : RecordHead) → IsAmong parts head → record_of (parts ++ more) head ≡ record_of parts head
record_of-kept parts more head among =
    let long = length-drop head.start parts in
    ap (λ (told : List Part). (head.key, told))
    (ap (take head.count) (drop-append-le head.start parts more (omega (arith, among.end)))
    ∙ take-append-le head.count (drop head.start parts) more (omega (arith, among.end, long)))

-- and those are told of a record that begins behind the others
record_of-new : (parts more : List Part) (head : RecordHead) → head.start ≡ length parts → head.count ≡ length more → record_of (parts ++ more) head ≡ (head.key, more)
record_of-new parts more head start count =
    ap (λ (told : List Part). (head.key, told))
    (ap (take head.count) (drop_at parts more head.start (omega (arith, start)))
    ∙ take_all head.count more (omega (arith, count)))

pub records_of-more : (heads : List RecordHead) (parts more : List Part) (head : RecordHead) → All (IsAmong parts) heads → head.start ≡ length parts → head.count ≡ length more
    → records_of (heads ++ head ∷ []) (parts ++ more) ≡ records_of heads parts ++ (head.key, more) ∷ []
records_of-more [] parts more head among start count = ap (λ (told : Key × Note). told ∷ []) (record_of-new parts more head start count)
records_of-more (first ∷ heads) parts more head among start count =
    ap (λ (told : Key × Note). told ∷ records_of (heads ++ head ∷ []) (parts ++ more)) (record_of-kept parts more first (All-head (IsAmong parts) first heads among))
    ∙ ap (λ (rest : List (Key × Note)). record_of parts first ∷ rest) (records_of-more heads parts more head (All-tail (IsAmong parts) first heads among) start count)

-- records of one list behind those of another
module _ (parts more : List Part) where
  drop-more : (n : ℕ) → drop (n + length parts) (parts ++ more) ≡ drop n more
  drop-more n = by parts
    where
      by : (ps : List Part) → drop (n + length ps) (ps ++ more) ≡ drop n more
      by [] = let same : n + 0 ≡ n = omega arith in ap (λ k. drop k more) same
      by (p ∷ ps) = let same : n + suc (length ps) ≡ suc (n + length ps) = omega arith in ap (λ k. drop k (p ∷ (ps ++ more))) same ∙ by ps

  record_of-shifted : (head : RecordHead) → record_of (parts ++ more) (shifted (length parts) head) ≡ record_of more head
  record_of-shifted head = ap (λ (told : List Part). (head.key, take head.count told)) (drop-more head.start)

  records_of-shifted : (heads : List RecordHead) → records_of (map (shifted (length parts)) heads) (parts ++ more) ≡ records_of heads more
  records_of-shifted [] = refl
  records_of-shifted (head ∷ heads) =
      ap (λ (told : Key × Note). told ∷ records_of (map (shifted (length parts)) heads) (parts ++ more)) (record_of-shifted head)
      ∙ ap (λ (rest : List (Key × Note)). record_of more head ∷ rest) (records_of-shifted heads)

  pub records_of-joined : (heads others : List RecordHead) → All (IsAmong parts) heads → records_of (heads ++ map (shifted (length parts)) others) (parts ++ more) ≡ records_of heads parts ++ records_of others more
  records_of-joined [] others among = records_of-shifted others
  records_of-joined (head ∷ heads) others among =
      ap (λ (told : Key × Note). told ∷ records_of (heads ++ map (shifted (length parts)) others) (parts ++ more)) (record_of-kept parts more head (All-head (IsAmong parts) head heads among))
      ∙ ap (λ (rest : List (Key × Note)). record_of parts head ∷ rest) (records_of-joined heads others (All-tail (IsAmong parts) head heads among))

  pub among-joined : (heads others : List RecordHead) → All (IsAmong parts) heads → All (IsAmong more) others → All (IsAmong (parts ++ more)) (heads ++ map (shifted (length parts)) others)
  among-joined heads others here there =
      let long = length-append parts more in
      All-append (IsAmong (parts ++ more)) heads (map (shifted (length parts)) others)
      (All-weaker (IsAmong parts) (IsAmong (parts ++ more)) (λ head among. record { end = omega (arith, long, among.end); few = among.few }) heads here)
      (All-map (IsAmong (parts ++ more)) (shifted (length parts)) others
      (All-weaker (IsAmong more) (λ head. IsAmong (parts ++ more) (shifted (length parts) head)) (λ head among. record { end = omega (arith, long, among.end); few = among.few }) others there))

-- the heads of two lists, merged
module _ (heads others merged : List RecordHead) (parts more all : List Part) (by : ℕ) (moves : IsPermutation (heads ++ map (shifted by) others) merged) (is_by : by ≡ length parts) (is_all : all ≡ parts ++ more) where
  moved : IsPermutation (heads ++ map (shifted (length parts)) others) merged
  moved = subst (λ n. IsPermutation (heads ++ map (shifted n) others) merged) is_by moves

  pub merged-among : All (IsAmong parts) heads → All (IsAmong more) others → All (IsAmong all) merged
  merged-among here there =
      subst (λ ps. All (IsAmong ps) merged) (sym is_all)
      (All-permutation (IsAmong (parts ++ more)) (heads ++ map (shifted (length parts)) others) merged moved (among-joined parts more heads others here there))

  pub merged-records : All (IsAmong parts) heads → IsPermutation (records_of heads parts ++ records_of others more) (records_of merged all)
  merged-records here =
      let P : List (Key × Note) → List Part → Type 0 = λ told ps. IsPermutation told (records_of merged ps) in
      subst (P (records_of heads parts ++ records_of others more)) (sym is_all)
      (subst (λ told. P told (parts ++ more)) (records_of-joined parts more heads others here)
      (IsPermutation-map (record_of (parts ++ more)) (heads ++ map (shifted (length parts)) others) merged moved))

  pub merged-few : length parts ≤ 4 * length heads → length more ≤ 4 * length others → length all ≤ 4 * length merged
  merged-few here there =
      let long = ap length is_all ∙ length-append parts more in
      let many = length_permutation (heads ++ map (shifted by) others) merged moves ∙ length-append heads (map (shifted by) others) ∙ ap (λ n. length heads + n) (length-map others (shifted by)) in
      omega (arith, long, many)

-- no record takes no part
pub no-parts : (heads : List RecordHead) (parts : List Part) → records_of heads parts ≡ [] → length parts ≤ 4 * length heads → parts ≡ []
no-parts heads parts none few =
    let long = sym (length-map heads (record_of parts)) ∙ ap length none in
    nil_from_length parts (omega (arith, long, few))

-- where there is room for a record, there is room for its head and its parts
pub room-for-head : (len long room capacity seen : ℕ) → len ≡ long → long + room ≤ capacity → room ≡ seen → 1 ≤ seen → len < capacity
room-for-head len long room capacity seen len_is enough room_is some = omega arith

pub room-for-parts : (len long room capacity seen own : ℕ) → len ≡ long → long + 4 * room ≤ capacity → room ≡ seen → 1 ≤ seen → own ≤ 4 → len + own ≤ capacity
room-for-parts len long room capacity seen own len_is enough room_is some few = omega arith

pub no-more-parts : (count long : ℕ) → count ≡ long → count ≤ 4 → long ≤ 4
no-more-parts count long count_is few = omega arith
