-- The rows of replications, some of them and then the others.
use Rattle.std.proofs.Common.{◌≡◌, ℕ, suc, ◌+◌, ◌-◌, ◌≤◌, List, [], ◌∷◌, ◌++◌, map, sym, ap, ◌∙◌, arith, append-nil, append_assoc, subst}
use Rattle.std.specs.List.{flat_map, range_with_len}
use Rattle.sim_io.specs.Taken.{Taken, Appends}
use Rattle.std.proofs.lemmas.Grind.{flat_map-append}
use Rattle.std.proofs.lemmas.List.{map-append}
use Rattle.sim_io.specs.Transfers.{AppendsPrefix}
use Rattle.sim_io.proofs.TransferLemmas.{AppendsPrefix-next}
use Rattle.replications.specs.Studies.{StudyOf, rows_at, stop_at, rows_between, stops_between}

range-split : (a i k : ℕ) → range_with_len a (i + k) ≡ range_with_len a i ++ range_with_len (a + i) k
range-split a Prim.Native.Nat.zero k = ap (range_with_len a) (omega arith) ∙ ap (λ n. range_with_len n k) (omega arith)
range-split a (Prim.Native.Nat.suc i) k =
    let next : suc i + k ≡ suc (i + k) = omega arith in
    ap (range_with_len a) next ∙ ap (λ rest. a ∷ rest) (range-split (a + 1) i k ∙ ap (λ n. range_with_len (a + 1) i ++ range_with_len n k) (omega arith))

-- so many of what is numbered are some of them and then the others
abbrev pub Splits : {X : Type 0} → (ℕ → ℕ → List X) → Type 0
Splits between = (number i k : ℕ) → between number (i + k) ≡ between number i ++ between (number + i) k

pub rows_between-split : (s : StudyOf) → Splits (rows_between s)
unfolding rows_between
rows_between-split s number i k = ap (flat_map (rows_at s)) (range-split number i k) ∙ flat_map-append (rows_at s) (range_with_len number i) (range_with_len (number + i) k)

pub rows_between-more : (s : StudyOf) (number i : ℕ) → rows_between s number (i + 1) ≡ rows_between s number i ++ rows_at s (number + i)
unfolding rows_between
rows_between-more s number i = rows_between-split s number i 1 ∙ ap (λ rows. rows_between s number i ++ rows) (append-nil (rows_at s (number + i)))

pub stops_between-split : (s : StudyOf) → Splits (stops_between s)
unfolding stops_between
stops_between-split s number i k =
    ap (λ ns. map (stop_at s) ns) (range-split number i k) ∙ map-append (stop_at s) (range_with_len number i) (range_with_len (number + i) k)

pub stops_between-more : (s : StudyOf) (number i : ℕ) → stops_between s number (i + 1) ≡ stops_between s number i ++ stop_at s (number + i) ∷ []
unfolding stops_between
stops_between-more s number i = stops_between-split s number i 1

module _ (s : StudyOf) (number i all : ℕ) (within : i ≤ all) where
  rest : rows_between s number all ≡ rows_between s number i ++ rows_between s (number + i) (all - i)
  rest = ap (rows_between s number) (omega arith) ∙ rows_between-split s number i (all - i)

  -- so far is a prefix
  pub so_far-prefix : (old now : Taken) → Appends old now (rows_between s number i) → AppendsPrefix old now (rows_between s number all)
  so_far-prefix old now written = (rows_between s number i, rows_between s (number + i) (all - i), rest, written)

-- and so it is with a part of what comes next
pub next-prefix : (s : StudyOf) (number i k all : ℕ) → i + k ≤ all → (old mid now : Taken) → Appends old mid (rows_between s number i) → AppendsPrefix mid now (rows_between s (number + i) k)
    → AppendsPrefix old now (rows_between s number all)
next-prefix s number i k all within old mid now written part =
    let behind = rows_between s (number + (i + k)) (all - (i + k)) in
    AppendsPrefix-next old mid now (rows_between s number i) (rows_between s (number + i) k) behind (rows_between s number all) written part
    (rest s number (i + k) all within ∙ ap (λ rows. rows ++ behind) (rows_between-split s number i k)
    ∙ append_assoc (rows_between s number i) (rows_between s (number + i) k) behind)

-- a batch more
pub batch : {X : Type 0} (between : ℕ → ℕ → List X) → Splits between → (done many until : ℕ) → done + many ≡ until → between 0 done ++ between done many ≡ between 0 until
batch between split done many until is =
    ap (λ n. between 0 done ++ between n many) (omega arith) ∙ sym (split 0 done many) ∙ ap (between 0) is

pub batch-prefix : (s : StudyOf) (done many all : ℕ) → done + many ≤ all → (old mid now : Taken) → Appends old mid (rows_between s 0 done) → AppendsPrefix mid now (rows_between s done many)
    → AppendsPrefix old now (rows_between s 0 all)
batch-prefix s done many all within old mid now written part =
    let same : done ≡ 0 + done = omega arith in
    next-prefix s 0 done many all within old mid now written (subst (λ n. AppendsPrefix mid now (rows_between s n many)) same part)

pub one_row : (s : StudyOf) (number : ℕ) → rows_at s number ≡ rows_between s number 1
unfolding rows_between
one_row s number = sym (append-nil (rows_at s number))

pub prefix_next : (old mid new : Taken) (head rows : List ℕ) → Appends old mid head → AppendsPrefix mid new rows → AppendsPrefix old new (head ++ rows)
prefix_next old mid new head rows written part = AppendsPrefix-next old mid new head rows [] (head ++ rows) written part (ap (λ rows. head ++ rows) (sym (append-nil rows)))
