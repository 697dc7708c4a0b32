-- What a pile tells of all that it holds.
use Rattle.std.proofs.Common.{◌≡◌, ℕ, ◌+◌, ◌<◌, min, List, [], ◌∷◌, ◌++◌, length, map, take, get_or, zero, suc, sym, refl, ap, ◌∙◌, subst, arith}
use Rattle.std.specs.Prelude.{slice_get, slice_set, reverse, Some}
use Rattle.std.proofs.lemmas.List.{append-nil, map-append, reverse-append, take_more_set}
use Rattle.event_key.specs.declared.stamp.TheConstants.{NO_STAMP}
use Rattle.key_order.specs.Stamps.{least_stamp}
use Rattle.object_log.specs.Dones.{Done}
use Rattle.object_log.specs.declared.entry.Entry.{Entry}
use Rattle.object_log.specs.Logs.{held_of}
use Rattle.object_log.specs.Rows.{TellHeld}
use Rattle.object_log.specs.Sends.{least_of}
use Rattle.object_log.proofs.HeldLemmas.{least-join, held-append}
use Rattle.key_order.proofs.StampLemmas.{least_stamp-append}

abbrev pub dones : List Entry → List Done
dones = map (λ e. e.done)

least-one : (h : ℕ) (d : Done) → least_stamp h (held_of (d ∷ [])) ≡ least_stamp h d.sends
unfolding held_of
least-one h d = ap (least_stamp h) (append-nil d.sends)

least-first : (h : ℕ) (d : Done) (ds : List Done) → least_stamp h (held_of (d ∷ ds)) ≡ least_stamp (least_stamp h d.sends) (held_of ds)
unfolding held_of
least-first h d ds = least_stamp-append h d.sends (held_of ds)

-- the top one knows the least of all
pub told-top : (h : ℕ) (es : List Entry) (e : Entry) → TellHeld h (es ++ e ∷ []) → e.held ≡ least_stamp h (held_of (dones (es ++ e ∷ [])))
unfolding TellHeld
told-top h [] e told = told.0 ∙ sym (least-one h e.done)
told-top h (x ∷ xs) e told =
    told-top x.held xs e told.1
    ∙ ap (λ k. least_stamp k (held_of (dones (xs ++ e ∷ [])))) told.0
    ∙ sym (least-first h x.done (dones (xs ++ e ∷ [])))

pub told-push : (h : ℕ) (es : List Entry) (e : Entry) → TellHeld h es → e.held ≡ least_stamp h (held_of (dones (es ++ e ∷ []))) → TellHeld h (es ++ e ∷ [])
unfolding TellHeld
told-push h [] e told is = (is ∙ least-one h e.done, tt)
told-push h (x ∷ xs) e told is =
    let below = ap (λ k. least_stamp k (held_of (dones (xs ++ e ∷ [])))) told.0 in
    (told.0, told-push x.held xs e told.1 (is ∙ least-first h x.done (dones (xs ++ e ∷ [])) ∙ sym below))

pub told-pop : (h : ℕ) (es : List Entry) (e : Entry) → TellHeld h (es ++ e ∷ []) → TellHeld h es
unfolding TellHeld
told-pop h [] e told = tt
told-pop h (x ∷ xs) e told = (told.0, told-pop x.held xs e told.1)

pub told-none : (h : ℕ) (es : List Entry) → es ≡ [] → TellHeld h es
unfolding TellHeld
told-none h es none = subst (TellHeld h) (sym none) tt

-- the least with one more on top
pub least-top : (es : List Entry) (e : Entry) (below : ℕ) → below ≡ least_stamp NO_STAMP (held_of (dones es)) → e.least ≡ least_stamp NO_STAMP e.done.sends
    → min below e.least ≡ least_stamp NO_STAMP (held_of (dones (es ++ e ∷ [])))
least-top es e below is least =
    let parts = ap (λ ds. least_stamp NO_STAMP (held_of ds)) (map-append (λ (x : Entry). x.done) es (e ∷ [])) in
    let joined = ap (least_stamp NO_STAMP) (held-append (dones es) (e.done ∷ [])) ∙ least-join (held_of (dones es)) (held_of (e.done ∷ [])) in
    let one = least-one NO_STAMP e.done in
    (λ i. min (is i) (least i)) ∙ sym (parts ∙ joined ∙ ap (min (least_stamp NO_STAMP (held_of (dones es)))) one)

-- a loop that tells them one by one
pub told-next : (es : List Entry) (k : ℕ) (e : Entry) (held : ℕ) → k < length es → TellHeld NO_STAMP (take k es) → held ≡ least_stamp NO_STAMP (held_of (dones (take k es)))
    → e.held ≡ min held e.least → e.least ≡ least_stamp NO_STAMP e.done.sends
    → TellHeld NO_STAMP (take (k + 1) (slice_set es k e)) × (e.held ≡ least_stamp NO_STAMP (held_of (dones (take (k + 1) (slice_set es k e)))))
told-next es k e held below told is new least =
    let now = new ∙ least-top (take k es) e held is least in
    let more = take_more_set es k e below in
    (subst (TellHeld NO_STAMP) (sym more) (told-push NO_STAMP (take k es) e told now), now ∙ ap (λ xs. least_stamp NO_STAMP (held_of (dones xs))) (sym more))

pub least-nothing : (es : List Entry) → es ≡ [] → NO_STAMP ≡ least_stamp NO_STAMP (held_of (dones es))
unfolding least_stamp held_of
least-nothing es none = sym (ap (λ xs. least_stamp NO_STAMP (held_of (dones xs))) none)

pub dones-reverse : (es : List Entry) → dones (reverse es) ≡ reverse (dones es)
dones-reverse [] = refl
dones-reverse (e ∷ es) =
    ap (λ (xs : List Entry). dones xs) (reverse-append (e ∷ []) es)
    ∙ map-append (λ (x : Entry). x.done) (reverse es) (e ∷ [])
    ∙ ap (λ ds. ds ++ e.done ∷ []) (dones-reverse es)
    ∙ sym (reverse-append (e.done ∷ []) (dones es))

-- what one entry says of the least that it sends
pub least-row : (es : List Entry) (k : ℕ) (e : Entry) → k < length es → e ≡ get_or es k e → slice_get (map least_of (dones es)) k ≡ Some e.least
least-row [] k e below at = absurd (omega arith)
least-row (x ∷ xs) zero e below at = ap (λ (v : Entry). Some (least_of v.done)) (sym at) ∙ ap Some (sym e.least_is)
least-row (x ∷ xs) (suc k) e below at = least-row xs k e (omega arith) at
