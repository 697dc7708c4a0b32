-- Each kind of step keeps the rule of the word.
use Rattle.std.proofs.Common.{◌≡◌, ◌≢◌, ℕ, zero, suc, ◌+◌, ◌<◌, ◌≤◌, min, List, [], ◌∷◌, ◌++◌, map, length, get_or, set, sym, refl, ap, ◌∙◌, subst, ⊎_elim, arith, length-set, length-append, get_or-set_same, get_or-set_other}
use Rattle.std.proofs.lemmas.List.{get_or_past, length-map}
use mathlib.Core.Option.{some, some-injective, some-ne-none}
use native.Mathlib.Decide.{ℕ_discrete, dec_le}
use mathlib.Core.Logic.{dite}
use lib.ListN.{get_elem?}
use Rattle.atomic_table.proofs.Lists.{at_set, set_here, set_else, at_longer}
use Rattle.horizon_word.specs.declared.note.Note.{Note}
use Rattle.horizon_word.specs.declared.note.Opening.{Opening}
use Rattle.horizon_word.specs.declared.note.Progress.{Progress}
use Rattle.horizon_word.specs.Rule.{WordState, WordRule, HasNote, AllNotes, SomeNote, KnowsPast, HasComeFrom, known_progress, word_of, beginning, first_note, next_progress, note_after_lower, note_after_read}
use Rattle.horizon_word.specs.Steps.{OpeningKeepsRule, SplitKeepsRule, LowerKeepsRule, ReadKeepsRule, OthersStay, first_state, with_seat, after_step, all_progress}

-- a seat that has a note is one of the seats
pub in_row : (notes : List Note) (seat : ℕ) (note : Note) → get_elem? notes seat ≡ some note → seat < length notes
in_row [] seat note at = absurd (some-ne-none note (sym at))
in_row (x ∷ xs) zero note at = omega arith
in_row (x ∷ xs) (suc seat) note at = let less = in_row xs seat note at in omega arith

-- two notes of one seat are one
pub one_note : (notes : List Note) (i j : ℕ) (u v : Note) → i ≡ j → get_elem? notes i ≡ some u → get_elem? notes j ≡ some v → u ≡ v
one_note notes i j u v same at there = some-injective u v (sym at ∙ subst (λ k. get_elem? notes k ≡ some v) (sym same) there)

-- what holds of the new note, and of each other one, holds of all
pub all_after : (P : ℕ → Note → Type 0) (notes : List Note) (seat : ℕ) (new : Note) → P seat new → ((i : ℕ) (u : Note) → i ≢ seat → get_elem? notes i ≡ some u → P i u)
    → (i : ℕ) (u : Note) → get_elem? (set notes seat new) i ≡ some u → P i u
all_after P notes seat new here there i u at = ⊎_elim (λ t. subst (λ k. P k u) (sym t.0) (subst (P seat) t.1 here)) (λ t. there i u t.0 t.1) (at_set notes seat i new u at)

-- how far a seat has come, read in the row of all
own_at : (notes : List Note) (seat : ℕ) (note : Note) (none : Progress) → get_elem? notes seat ≡ some note → get_or (map (λ (each : Note). each.own) notes) seat none ≡ note.own
own_at [] seat note none at = absurd (some-ne-none note (sym at))
own_at (x ∷ xs) zero note none at = ap (λ (u : Note). u.own) (some-injective x note at)
own_at (x ∷ xs) (suc seat) note none at = own_at xs seat note none at

-- what holds of one more note, and of each other one, holds of all
pub all_more : (P : ℕ → Note → Type 0) (notes : List Note) (new : Note) → P (length notes) new → ((i : ℕ) (u : Note) → get_elem? notes i ≡ some u → P i u)
    → (i : ℕ) (u : Note) → get_elem? (notes ++ new ∷ []) i ≡ some u → P i u
all_more P [] new here there zero u at = subst (P 0) (some-injective new u at) here
all_more P [] new here there (suc i) u at = absurd (some-ne-none u (sym at))
all_more P (x ∷ xs) new here there zero u at = there 0 u at
all_more P (x ∷ xs) new here there (suc i) u at = all_more (λ k v. P (suc k) v) xs new (subst (λ k. P k new) (omega arith) here) (λ k v held. there (suc k) v held) i u at

pub others_stay : OthersStay
others_stay s seat word other after note apart at = set_else s.views seat other after apart ∙ at

-- a step of a seat, after which the word is `word`, and the least that the seat has offered is `least`
module _ (o : Opening) (s : WordState) (rule : WordRule o s) (seat : ℕ) (note : Note) (at : HasNote s seat note) (word least : ℕ)
    (high : o.floor ≤ word) (down : word ≤ word_of s) (under : word ≤ least) where
  abbrev new : Note
  new = record { floor = note.floor; least = least; own = next_progress note.own word; known = all_progress s seat note word }

  abbrev next : WordState
  next = after_step s seat word new

  abbrev row : List Progress
  row = map (λ (each : Note). each.own) s.views

  stands : word_of next ≡ word
  stands = let one = rule.one_word in get_or-set_same s.words 0 word 0 (omega arith)

  all : (P : ℕ → Note → Type 0) → P seat new → ((i : ℕ) (u : Note) → i ≢ seat → HasNote s i u → P i u) → AllNotes next P
  all P = all_after P s.views seat new

  wide : seat < length row
  wide = let inside = in_row s.views seat note at in let same = length-map s.views (λ (each : Note). each.own) in omega arith

  exact : AllNotes next (λ i u. known_progress o new i ≡ u.own)
  exact = all (λ i u. known_progress o new i ≡ u.own)
      (get_or-set_same row seat (next_progress note.own word) (beginning o) wide)
      (λ i u apart there. get_or-set_other row seat i (next_progress note.own word) (beginning o) apart ∙ own_at s.views i u (beginning o) there)

  other_knows : (j : ℕ) (knower : Note) → HasNote s j knower → KnowsPast o next knower
  other_knows j knower there = all (λ i u. HasComeFrom (known_progress o knower i) u.own)
      (let old = (rule.past j knower there seat note at).0 in (omega arith, λ (e : (known_progress o knower seat).taken ≡ note.own.taken + 1). absurd (omega arith)))
      (λ i u _ held. rule.past j knower there i u held)

  knows : AllNotes next (λ j knower. KnowsPast o next knower)
  knows = all (λ j knower. KnowsPast o next knower)
      (λ i u held. subst (λ p. HasComeFrom p u.own) (sym (exact i u held)) (omega arith, λ _. refl))
      (λ j knower _ there. other_knows j knower there)

  reach : AllNotes next (λ i u. length u.known ≤ length next.views)
  reach = let longer = length-set s.views seat new in
      all (λ i u. length u.known ≤ length next.views)
      (let a = length-set row seat (next_progress note.own word) in let b = length-map s.views (λ (each : Note). each.own) in omega arith)
      (λ i u _ there. let old = rule.in_reach i u there in omega arith)

  pub step_keeps : SomeNote next (λ i u. u.least ≡ word) → WordRule o next
  step_keeps offer = record {
    one_word = length-set s.words 0 word ∙ rule.one_word;
    floors = all (λ i u. u.floor ≡ o.floor) (rule.floors seat note at) (λ i u _ there. rule.floors i u there);
    above_floor = (let e = stands in omega arith);
    below_offers = (let e = stands in all (λ i u. word_of next ≤ u.least) (omega arith) (λ i u _ there. let old = rule.below_offers i u there in omega arith));
    offered = subst (λ n. SomeNote next (λ i u. u.least ≡ n)) (sym stands) offer;
    below_answers = (let e = stands in all (λ i u. word_of next ≤ u.own.seen) (omega arith) (λ i u _ there. let old = rule.below_answers i u there in omega arith));
    in_reach = reach;
    past = knows;
    last_step = (seat, new, set_here s.views seat new (in_row s.views seat note at), (sym stands, exact));
  }

pub read_keeps : ReadKeepsRule
read_keeps o s seat note rule at =
    let new : Note = note_after_read note (word_of s) (all_progress s seat note (word_of s)) in
    let here : HasNote (after_step s seat (word_of s) new) seat new = set_here s.views seat new (in_row s.views seat note at) in
    let t = rule.offered in
    step_keeps o s rule seat note at (word_of s) note.least rule.above_floor (omega arith) (rule.below_offers seat note at)
    (dite (ℕ_discrete t.0 seat)
    (λ same. (seat, new, here, ap (λ (u : Note). u.least) (one_note s.views seat t.0 note t.1 (sym same) at t.2) ∙ t.3))
    (λ other. (t.0, t.1, set_else s.views seat t.0 new other ∙ t.2, t.3)))

pub lower_keeps : LowerKeepsRule
lower_keeps o s seat note stamp rule at high =
    let word : ℕ = min (word_of s) stamp in
    let new : Note = note_after_lower note stamp word (all_progress s seat note word) in
    let here : HasNote (after_step s seat word new) seat new = set_here s.views seat new (in_row s.views seat note at) in
    let t = rule.offered in let low = rule.above_floor in let under = rule.below_offers seat note at in
    step_keeps o s rule seat note at word (min note.least stamp) (omega arith) (omega arith) (omega arith)
    (dite (ℕ_discrete t.0 seat)
    (λ same. (seat, new, here, (let e = ap (λ (u : Note). u.least) (one_note s.views seat t.0 note t.1 (sym same) at t.2) ∙ t.3 in omega arith)))
    (λ other. dite (dec_le stamp (word_of s)) (λ le. (seat, new, here, omega arith))
    (λ more. (t.0, t.1, set_else s.views seat t.0 new other ∙ t.2, (let e = t.3 in omega arith)))))

pub split_keeps : SplitKeepsRule
split_keeps o s seat rule at =
    let new : Note = first_note o in
    let all = λ (P : ℕ → Note → Type 0). all_more P s.views new in
    let past_end = λ (known : List Progress) (h : length known ≤ length s.views). get_or_past known (length s.views) (beginning o) h in
    let old = rule.last_step in record {
      one_word = rule.one_word;
      floors = all (λ i u. u.floor ≡ o.floor) refl rule.floors;
      above_floor = rule.above_floor;
      below_offers = all (λ i u. word_of s ≤ u.least) (rule.below_offers seat new at) rule.below_offers;
      offered = (let t = rule.offered in (t.0, t.1, at_longer s.views (new ∷ []) t.0 t.1 t.2, t.3));
      below_answers = all (λ i u. word_of s ≤ u.own.seen) (rule.below_answers seat new at) rule.below_answers;
      in_reach = (let n = length-append s.views (new ∷ []) in all (λ i u. length u.known ≤ length (s.views ++ new ∷ [])) (omega arith) (λ i u there. let r = rule.in_reach i u there in omega arith));
      past = all (λ j knower. KnowsPast o (with_seat s new) knower)
          (all (λ i u. HasComeFrom (beginning o) u.own) (omega arith, λ _. refl) (λ i u there. rule.past seat new at i u there))
          (λ j knower there. all (λ i u. HasComeFrom (known_progress o knower i) u.own)
          (subst (λ p. HasComeFrom p (beginning o)) (sym (past_end knower.known (rule.in_reach j knower there))) (omega arith, λ _. refl))
          (λ i u held. rule.past j knower there i u held));
      last_step = (old.0, old.1, at_longer s.views (new ∷ []) old.0 old.1 old.2, (old.3.0, all (λ i u. known_progress o old.1 i ≡ u.own) (past_end old.1.known (rule.in_reach old.0 old.1 old.2)) old.3.1));
    }

pub opening_keeps : OpeningKeepsRule
opening_keeps o high =
    let new : Note = first_note o in
    let all = λ (P : ℕ → Note → Type 0) (here : P 0 new). all_more P [] new here (λ i u held. absurd (some-ne-none u (sym held))) in record {
      one_word = refl;
      floors = all (λ i u. u.floor ≡ o.floor) refl;
      above_floor = high;
      below_offers = all (λ i u. o.start ≤ u.least) (omega arith);
      offered = (0, new, refl, refl);
      below_answers = all (λ i u. o.start ≤ u.own.seen) (omega arith);
      in_reach = all (λ i u. length u.known ≤ 1) (omega arith);
      past = all (λ j knower. KnowsPast o (first_state o) knower) (all (λ i u. HasComeFrom (beginning o) u.own) (omega arith, λ _. refl));
      last_step = (0, new, refl, (refl, all (λ i u. beginning o ≡ u.own) refl));
    }
