-- Two lists in order as one: its first elements, its images, and what is told and held of it.
use Rattle.std.proofs.Common.{◌≡◌, ℕ, ◌+◌, ◌≤◌, Bool, true, false, cond, None, List, [], ◌∷◌, ◌++◌, length, map, refl, sym, ap, ◌∙◌, subst, arith, length-append}
use Rattle.std.proofs.lemmas.List.{append-nil}
use Rattle.std.proofs.lemmas.List.Sorted.{IsPermutation-append_left, IsPermutation-middle, IsPermutation-sym, IsPermutation-trans, length_permutation}
use Rattle.std.proofs.lemmas.List.Sums.{sum_by-append}
use Rattle.std.specs.List.{AllByRecursion as Each}
use Rattle.std.specs.Prelude.{IsPermutation, filter, reverse}
use Rattle.event_key.specs.declared.key.Key.{Key}
use Rattle.event_key.specs.Keys.{key_lt}
use Rattle.key_order.specs.Ascending.{After, Ascends}
use Rattle.key_order.specs.Keys.{Differ, at_key, times}
use Rattle.event_key.proofs.Order.{key_lt-turned}
use Rattle.key_order.proofs.EachLemmas.{Each-append, Each-back, Each-front}
use Rattle.key_order.proofs.KeyLemmas.{Ascends-differ, Differ-back, Differ-first, Differ-permutation}
use Rattle.model_core.specs.declared.event.Event.{Event}
use Rattle.model_core.specs.declared.note.Note.{Note}
use Rattle.object_log.specs.Dones.{Done}
use Rattle.object_log.specs.declared.done.Verdict.{Verdict}
use Rattle.object_log.specs.declared.done.Verdict.TheVariants.{Noted, Failed}
use Rattle.object_log.specs.EventLogs.{done_key}
use Rattle.object_log.specs.Flat.{spread}
use Rattle.object_log.specs.Logs.{fault_of, fault_or, held_of}
use Rattle.object_log.specs.Tellings.{IsNoted, told_all, told_of}
use Rattle.object_log.specs.Weave.{insert, weave}
use Rattle.object_log.proofs.CarriedLemmas.{map-insert}
use Rattle.object_log.proofs.ChainLemmas.{chain-turned, held-spread, weave-spread}
use Rattle.object_log.proofs.WeaveLemmas.{Each-insert, insert-first, weave-apart, weave-permutation}
use Rattle.event_log.specs.Committing.{told_key}

module _ {X : Type 0} (key : X → Key) where
  pub Each-weave : (P : X → Type 0) (xs ys : List X) → Each P xs → Each P ys → Each P (weave key xs ys)
  unfolding weave
  Each-weave P [] ys one other = other
  Each-weave P (x ∷ xs) ys one other = Each-insert key P x (weave key xs ys) one.0 (Each-weave P xs ys one.1 other)

  each-inserted : (P : X → Type 0) (x : X) (ys : List X) → Each P (insert key x ys) → P x × Each P ys
  unfolding insert
  each-inserted P x [] all = all
  each-inserted P x (y ∷ ys) all = by_test (key_lt (key x) (key y)) (each-inserted P x ys) all
    where
      by_test : (b : Bool) → (Each P (insert key x ys) → P x × Each P ys) → Each P (cond b (x ∷ y ∷ ys) (y ∷ insert key x ys)) → P x × Each P (y ∷ ys)
      by_test true more all = all
      by_test false more all = (let rest = more all.1 in (rest.0, (all.0, rest.1)))

  -- what holds of each of the whole holds of each of both
  pub Each-woven : (P : X → Type 0) (xs ys : List X) → Each P (weave key xs ys) → Each P xs × Each P ys
  unfolding weave
  Each-woven P [] ys all = (tt, all)
  Each-woven P (x ∷ xs) ys all =
      let one = each-inserted P x (weave key xs ys) all in
      let more = Each-woven P xs ys one.1 in ((one.0, more.0), more.1)

  pub length-weave : (xs ys : List X) → length (weave key xs ys) ≡ length xs + length ys
  length-weave xs ys =
      let moved = length_permutation (xs ++ ys) (weave key xs ys) (weave-permutation key xs ys) in
      let parts = length-append xs ys in
      omega arith

  pub weave-nil : (xs : List X) → Ascends key xs → weave key xs [] ≡ xs
  weave-nil xs up = weave-apart key xs [] (subst (Ascends key) (sym (append-nil xs)) up) ∙ append-nil xs

  -- the first ones of the first list, where they come before the second
  pub weave-front : (us xs ys : List X) → Ascends key (us ++ xs) → Each (λ (u : X). After key (key u) ys) us → weave key (us ++ xs) ys ≡ us ++ weave key xs ys
  unfolding weave Ascends
  weave-front [] xs ys up first = refl
  weave-front (u ∷ us) xs ys up first =
      let A : X → Type 0 = λ z. key_lt (key u) (key z) ≡ true in
      let later : Each A (weave key xs ys) = Each-weave A xs ys (Each-back A us xs up.0) first.0 in
      ap (insert key u) (weave-front us xs ys up.1 first.1)
      ∙ insert-first key u (us ++ weave key xs ys) (Each-append A us (weave key xs ys) (Each-front A us xs up.0) later)

  -- the first of the second list, where it comes before the first list
  pub weave-second : (y : X) (ys xs : List X) → After key (key y) xs → weave key xs (y ∷ ys) ≡ y ∷ weave key xs ys
  unfolding weave insert
  weave-second y ys [] all = refl
  weave-second y ys (x ∷ xs) all =
      ap (insert key x) (weave-second y ys xs all.1)
      ∙ ap (λ b. cond b (x ∷ y ∷ weave key xs ys) (y ∷ insert key x (weave key xs ys))) (key_lt-turned (key y) (key x) all.0)

  -- where the whole is in order, no key of the one stands in the other
  pub weave-differ : (xs ys : List X) → Ascends key (weave key xs ys) → Differ key (xs ++ ys)
  weave-differ xs ys up = Differ-permutation key (weave key xs ys) (xs ++ ys) (IsPermutation-sym (xs ++ ys) (weave key xs ys) (weave-permutation key xs ys)) (Ascends-differ key (weave key xs ys) up)

  pub each-apart : (xs ys : List X) → Differ key (xs ++ ys) → Each (λ (y : X). times key (key y) xs ≡ 0) ys
  each-apart xs [] differ = tt
  each-apart xs (y ∷ ys) differ =
      let moved : Differ key (y ∷ (xs ++ ys)) = Differ-permutation key (xs ++ (y ∷ ys)) (y ∷ (xs ++ ys)) (IsPermutation-middle xs y ys) differ in
      let none = Differ-first key y (xs ++ ys) moved in
      let parts = sum_by-append (at_key key (key y)) xs ys in
      (omega arith, each-apart xs ys (Differ-back key (y ∷ []) (xs ++ ys) moved))

-- images
pub map-weave : {X Y : Type 0} (f : X → Y) (key : Y → Key) (xs ys : List X) → map f (weave (λ x. key (f x)) xs ys) ≡ weave key (map f xs) (map f ys)
unfolding weave
map-weave f key [] ys = refl
map-weave f key (x ∷ xs) ys = map-insert f key x (weave (λ x. key (f x)) xs ys) ∙ ap (insert key (f x)) (map-weave f key xs ys)

pub each-image : {X Y : Type 0} (f : X → Y) (P : Y → Type 0) (xs : List X) → Each P (map f xs) → Each (λ (x : X). P (f x)) xs
each-image f P [] all = tt
each-image f P (x ∷ xs) all = (all.0, each-image f P xs all.1)

-- events that went
abbrev pub Went : Done → Type 0
Went d = IsNoted d.verdict

pub all-went : (ds : List Done) → fault_of ds ≡ None → Each Went ds
unfolding fault_of
all-went [] none = tt
all-went (d ∷ ds) none = by_verdict d.verdict refl (all-went ds) none
  where
    by_verdict : (v : Verdict) → d.verdict ≡ v → (fault_of ds ≡ None → Each Went ds) → fault_or d.event.key v (fault_of ds) ≡ None → Each Went (d ∷ ds)
    by_verdict (Noted note) is more none = (let N : Verdict → Type 0 = IsNoted in (subst N (sym is) tt, more none))
    by_verdict (Failed code) is more none = absurd (cc)

pub none-failed : (ds : List Done) → Each Went ds → fault_of ds ≡ None
unfolding fault_of
none-failed [] went = refl
none-failed (d ∷ ds) went = by_verdict d.verdict went.0 (none-failed ds went.1)
  where
    by_verdict : (v : Verdict) → IsNoted v → fault_of ds ≡ None → fault_or d.event.key v (fault_of ds) ≡ None
    by_verdict (Noted note) is more = more
    by_verdict (Failed code) is more = absurd is

pub failed-never : (v : Verdict) (code : ℕ) → IsNoted v → v ≡ Failed code → ⊥
failed-never v code went is = (let N : Verdict → Type 0 = IsNoted in subst N is went)

abbrev note_in : Verdict → Note
note_in (Noted note) = note
note_in (Failed code) = []

abbrev pub record_of : Done → Key × Note
record_of d = (d.event.key, note_in d.verdict)

-- of each a record is told
pub told-went : (ds : List Done) → Each Went ds → told_all ds ≡ map record_of ds
unfolding told_all
told-went [] went = refl
told-went (d ∷ ds) went = by_verdict d.verdict went.0 (told-went ds went.1)
  where
    by_verdict : (v : Verdict) → IsNoted v → told_all ds ≡ map record_of ds → told_of d.event.key v ++ told_all ds ≡ (d.event.key, note_in v) ∷ map record_of ds
    by_verdict (Noted note) is more = ap (λ ts. (d.event.key, note) ∷ ts) more
    by_verdict (Failed code) is more = absurd is

pub told-woven : (ds cs : List Done) → Each Went ds → Each Went cs → weave told_key (told_all ds) (told_all cs) ≡ told_all (weave done_key ds cs)
told-woven ds cs one other =
    (λ i. weave told_key (told-went ds one i) (told-went cs other i))
    ∙ sym (map-weave record_of told_key ds cs)
    ∙ sym (told-went (weave done_key ds cs) (Each-weave done_key Went ds cs one other))

-- what is held of both
length-held-insert : (d : Done) (es : List Done) → length (held_of (insert done_key d es)) ≡ length d.sends + length (held_of es)
unfolding insert held_of
length-held-insert d [] = length-append d.sends []
length-held-insert d (e ∷ es) = by_test (key_lt (done_key d) (done_key e)) (length-held-insert d es)
  where
    by_test : (b : Bool) → length (held_of (insert done_key d es)) ≡ length d.sends + length (held_of es) → length (held_of (cond b (d ∷ e ∷ es) (e ∷ insert done_key d es))) ≡ length d.sends + length (held_of (e ∷ es))
    by_test true more = length-append d.sends (held_of (e ∷ es))
    by_test false more =
        let one = length-append e.sends (held_of (insert done_key d es)) in
        let two = length-append e.sends (held_of es) in
        omega arith

pub length-held-woven : (ds cs : List Done) → length (held_of (weave done_key ds cs)) ≡ length (held_of ds) + length (held_of cs)
unfolding weave held_of
length-held-woven [] cs = omega arith
length-held-woven (d ∷ ds) cs =
    let one = length-held-insert d (weave done_key ds cs) in
    let more = length-held-woven ds cs in
    let parts = length-append d.sends (held_of ds) in
    omega arith

pub length-held-filter : (p : Done → Bool) (ds : List Done) → length (held_of (filter p ds)) ≤ length (held_of ds)
unfolding held_of
length-held-filter p [] = omega arith
length-held-filter p (d ∷ ds) = by_test (p d) (length-held-filter p ds)
  where
    by_test : (b : Bool) → length (held_of (filter p ds)) ≤ length (held_of ds) → length (held_of (cond b (d ∷ filter p ds) (filter p ds))) ≤ length (held_of (d ∷ ds))
    by_test true more = (let one = length-append d.sends (held_of (filter p ds)) in let two = length-append d.sends (held_of ds) in omega arith)
    by_test false more = (let two = length-append d.sends (held_of ds) in omega arith)

-- what holds of each message
pub each-held : (P : Event → Type 0) (ds : List Done) → Each P (held_of ds) → Each (λ (d : Done). Each P d.sends) ds
unfolding held_of
each-held P [] all = tt
each-held P (d ∷ ds) all = (Each-front P d.sends (held_of ds) all, each-held P ds (Each-back P d.sends (held_of ds) all))

pub held-each : (P : Event → Type 0) (ds : List Done) → Each (λ (d : Done). Each P d.sends) ds → Each P (held_of ds)
unfolding held_of
held-each P [] all = tt
held-each P (d ∷ ds) all = Each-append P d.sends (held_of ds) all.0 (held-each P ds all.1)

-- what the first ones of both hold that passes a test, those of the one list turned, is what the whole holds
pub held-woven : (p : Event → Bool) (ds cs : List Done) → IsPermutation (filter p (held_of (weave done_key ds cs))) (filter p (reverse (held_of ds)) ++ filter p (held_of cs))
held-woven p ds cs =
    let part : Done → List Event = λ d. filter p d.sends in
    let A : List Event → Type 0 = λ l. IsPermutation l (filter p (held_of ds) ++ filter p (held_of cs)) in
    let B : List Event → Type 0 = λ l. IsPermutation (spread part (weave done_key ds cs)) l in
    let woven = weave-spread done_key part ds cs in
    let split : IsPermutation (spread part (weave done_key ds cs)) (filter p (held_of ds) ++ filter p (held_of cs)) =
    subst B (λ i. sym (held-spread p ds) i ++ sym (held-spread p cs) i) (IsPermutation-sym (spread part ds ++ spread part cs) (spread part (weave done_key ds cs)) woven) in
    IsPermutation-trans (filter p (held_of (weave done_key ds cs))) (filter p (held_of ds) ++ filter p (held_of cs)) (filter p (reverse (held_of ds)) ++ filter p (held_of cs))
    (subst A (sym (held-spread p (weave done_key ds cs))) split)
    (IsPermutation-append_left (filter p (held_of cs)) (filter p (held_of ds)) (filter p (reverse (held_of ds))) (chain-turned p (held_of ds)))
