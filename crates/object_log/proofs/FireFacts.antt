-- Changes that are done behind a list.
use Rattle.std.proofs.Common.{◌≡◌, ℕ, ◌+◌, ◌<◌, ◌≤◌, ◌^◌, List, [], ◌∷◌, ◌++◌, length, take, drop, sym, refl, ap, ◌∙◌, subst, arith, length-append, Fits, w64}
use Rattle.std.specs.Prelude.{IsTrue}
use Rattle.std.proofs.lemmas.List.{append-nil, drop_all, take_all, take_at}
use Rattle.delta_exchange.specs.declared.change.Change.{Change}
use Rattle.delta_exchange.specs.Changes.{CellData, cells_after, inverses_of}
use Rattle.model_core.specs.Meaning.{Meaning}
use Rattle.object_log.specs.Objects.{IsSameObject, KeptObject}

pub long-inverses : (cs : List Change) (cells : CellData) → length (inverses_of cs cells) ≡ length cs
unfolding inverses_of
long-inverses [] cells = refl
long-inverses (c ∷ cs) cells = let more = long-inverses cs (cells_after c cells) in omega arith

-- a list, of which the part behind what was there is written over by as much
pub put-behind : (was part written front all : List Change) (n len : ℕ) → all ≡ was ++ part → n ≡ length was → front ≡ take n all → length written ≡ length part → len ≡ length all
    → take len (front ++ written ++ drop (length (front ++ written)) all) ≡ was ++ written
put-behind was part written front all n len whole from front_is long len_is =
    let first : front ≡ was = front_is ∙ ap (take n) whole ∙ take_at was part n (sym from) in
    let one = ap length whole in
    let two = length-append was part in
    let three = length-append was written in
    let four = ap length first in
    let five = length-append front written in
    let none : drop (length (front ++ written)) all ≡ [] = drop_all (length (front ++ written)) all (omega arith) in
    ap (λ (zs : List Change). take len (front ++ written ++ zs)) none
    ∙ ap (take len) (append-nil (front ++ written))
    ∙ take_all len (front ++ written) (omega arith)
    ∙ ap (λ (zs : List Change). zs ++ written) first

-- an object that stays
pub still : (o : KeptObject) → IsSameObject o o
still o = record { object = refl; contents = refl; sent = refl; none_fell = record { as_many = refl; no_less = λ line. omega arith } }

-- cells that are another's are as lawful
pub lawful-at : (m : Meaning) (n k : ℕ) (cells others : CellData) → n ≡ k → cells ≡ others → IsTrue (m.lawful k others) → IsTrue (m.lawful n cells)
lawful-at m n k cells others here there lawful =
    let C : CellData → Type 0 = λ cs. IsTrue (m.lawful k cs) in
    let N : ℕ → Type 0 = λ i. IsTrue (m.lawful i cells) in
    subst N (sym here) (subst C (sym there) lawful)

-- an object that has sent few events can send a few more
pub serials-fit : (sent old sends : ℕ) → sent ≡ old → old < 2 ^ 60 → sends ≤ 8 → sent + sends < 2 ^ 64
serials-fit sent old sends sent_is before few = omega arith

pub sent-fits : (sent old sends : ℕ) → sent ≡ old → old < 2 ^ 60 → sends ≤ 8 → Fits w64 (sent + sends)
sent-fits sent old sends sent_is before few = omega arith

pub no-less : (n : ℕ) → n ≤ n
no-less n = omega arith

pub no-fewer : (a b c : ℕ) → a ≤ b → b ≤ c → a ≤ c
no-fewer a b c more most = omega arith

pub no-more : (some known : ℕ) → some ≡ known → known ≤ 16 → some ≤ 16
no-more some known is few = omega arith

-- what an object sends comes out of the pool
pub spare-sent : (was mid left now sent old sends : ℕ) → was ≤ mid → left + sends ≡ mid → now ≡ left → sent ≡ old → was + old ≤ now + (sent + sends)
spare-sent was mid left now sent old sends kept left_is now_is sent_is = omega arith

pub spare-kept : (was mid now sent old : ℕ) → was ≤ mid → now ≡ mid → sent ≡ old → was + old ≤ now + sent
spare-kept was mid now sent old kept now_is sent_is = omega arith

-- one entry is taken at most
pub entry-taken : (was mid left now : ℕ) → was ≤ mid → left ≡ mid → now + 1 ≡ left → was ≤ now + 1
entry-taken was mid left now kept left_is taken = omega arith

pub entry-kept : (was now : ℕ) → was ≤ now → was ≤ now + 1
entry-kept was now kept = omega arith

-- the entry that is taken is listed
pub entry-listed : (was now listed before : ℕ) → was ≤ now + 1 → listed ≡ before + 1 → was + before ≤ now + listed
entry-listed was now listed before taken listed_is = omega arith
