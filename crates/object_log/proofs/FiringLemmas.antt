-- What a commit hands out, from one list of all objects.
use Rattle.std.proofs.Common.{◌≡◌, ℕ, Bool, true, false, cond, List, [], ◌∷◌, ◌++◌, eqb-true, refl, ap, ◌∙◌}
use Rattle.std.proofs.lemmas.List.Elements.{filter-append}
use Rattle.std.specs.Prelude.{filter, map, ◌==◌}
use Rattle.std.specs.List.{AllByRecursion as Each}
use Rattle.model_core.specs.declared.event.Event.{Event}
use Rattle.sim_spec.specs.Cut.{emissions_of, records_of}
use Rattle.sim_spec.specs.Firing.{Firing, ObjectState}
use Rattle.sim_spec.specs.Replay.{done_at, replay_after}
use Rattle.object_log.specs.Dones.{Done}
use Rattle.object_log.specs.declared.done.Verdict.{Verdict}
use Rattle.object_log.specs.declared.done.Verdict.TheVariants.{Noted, Failed}
use Rattle.object_log.specs.Logs.{events_of, held_of, undone}
use Rattle.object_log.specs.Replays.{replay_of, told}
use Rattle.object_log.specs.Tellings.{IsNoted, told_all, told_of}
use Rattle.object_log.specs.EventLogs.{dones_at, is_of}
use Rattle.object_log.specs.Firings.{fired_of, firings, firings_at}

abbrev Fired1 : Type 0
Fired1 = Event × Firing

abbrev at_object : ℕ → Fired1 → Bool
at_object object f = f.0.key.dest == object

-- what is told of them
pub firings-told : (states : ℕ → ObjectState) (rest ds : List Done) → records_of (firings states rest ds) ≡ told_all ds
unfolding firings told_all
firings-told states rest [] = refl
firings-told states rest (d ∷ ds) = by_verdict d.verdict (undone (states d.event.key.dest) (dones_at d.event.key.dest (ds ++ rest))) (firings-told states rest ds)
  where
    by_verdict : (v : Verdict) → (later : ObjectState) → records_of (firings states rest ds) ≡ told_all ds → records_of (fired_of later d v ++ firings states rest ds) ≡ told_of d.event.key v ++ told_all ds
    by_verdict (Noted note) later more = ap (λ ts. (d.event.key, note) ∷ ts) more
    by_verdict (Failed code) later more = more

-- what they sent
pub firings-sent : (states : ℕ → ObjectState) (rest ds : List Done) → Each (λ (d : Done). IsNoted d.verdict) ds → emissions_of (firings states rest ds) ≡ held_of ds
unfolding firings held_of emissions_of
firings-sent states rest [] noted = refl
firings-sent states rest (d ∷ ds) noted = by_verdict d.verdict (undone (states d.event.key.dest) (dones_at d.event.key.dest (ds ++ rest))) noted.0 (firings-sent states rest ds noted.1)
  where
    by_verdict : (v : Verdict) → (later : ObjectState) → IsNoted v → emissions_of (firings states rest ds) ≡ held_of ds → emissions_of (fired_of later d v ++ firings states rest ds) ≡ d.sends ++ held_of ds
    by_verdict (Noted note) later one more = ap (λ es. d.sends ++ es) more
    by_verdict (Failed code) later one more = absurd one

-- the events of one object among them
fired-here : (object : ℕ) (later : ObjectState) (d : Done) (v : Verdict) → is_of object d ≡ true → filter (at_object object) (fired_of later d v) ≡ fired_of later d v
fired-here object later d (Noted note) here = ap (λ b. cond b (fired_of later d (Noted note)) []) here
fired-here object later d (Failed code) here = refl

fired-there : (object : ℕ) (later : ObjectState) (d : Done) (v : Verdict) → is_of object d ≡ false → filter (at_object object) (fired_of later d v) ≡ []
fired-there object later d (Noted note) there = ap (λ b. cond b (fired_of later d (Noted note)) []) there
fired-there object later d (Failed code) there = refl

pub firings-at : (object : ℕ) (states : ℕ → ObjectState) (rest ds : List Done) → done_at object (firings states rest ds) ≡ firings_at (states object) (dones_at object rest) (dones_at object ds)
unfolding done_at firings firings_at
firings-at object states rest [] = refl
firings-at object states rest (d ∷ ds) = by_test (is_of object d) refl (firings-at object states rest ds)
  where
    by_test : (b : Bool) → is_of object d ≡ b → done_at object (firings states rest ds) ≡ firings_at (states object) (dones_at object rest) (dones_at object ds)
        → filter (at_object object) (fired_of (undone (states d.event.key.dest) (dones_at d.event.key.dest (ds ++ rest))) d d.verdict ++ firings states rest ds)
        ≡ firings_at (states object) (dones_at object rest) (cond b (d ∷ dones_at object ds) (dones_at object ds))
    by_test true h more =
        let same = eqb-true d.event.key.dest object h in
        let later = undone (states d.event.key.dest) (dones_at d.event.key.dest (ds ++ rest)) in
        let later_is : later ≡ undone (states object) (dones_at object ds ++ dones_at object rest) = ap (λ o. undone (states o) (dones_at o (ds ++ rest))) same ∙ ap (undone (states object)) (filter-append (is_of object) ds rest) in
        filter-append (at_object object) (fired_of later d d.verdict) (firings states rest ds)
        ∙ ap (λ fs. fs ++ filter (at_object object) (firings states rest ds)) (fired-here object later d d.verdict h)
        ∙ (λ i. fired_of (later_is i) d d.verdict ++ more i)
    by_test false h more =
        let later = undone (states d.event.key.dest) (dones_at d.event.key.dest (ds ++ rest)) in
        filter-append (at_object object) (fired_of later d d.verdict) (firings states rest ds)
        ∙ ap (λ fs. fs ++ filter (at_object object) (firings states rest ds)) (fired-there object later d d.verdict h)
        ∙ more

-- the replay that a log tells begins with those of its events that went
pub replay-firings : (s : ObjectState) (gone rest : List Done) → Each (λ (d : Done). IsNoted d.verdict) gone → replay_of s (gone ++ rest) ≡ replay_after (firings_at s rest gone) (replay_of s rest)
unfolding replay_of firings_at
replay-firings s [] rest noted = refl
replay-firings s (d ∷ gone) rest noted = by_verdict d.verdict noted.0 (replay-firings s gone rest noted.1)
  where
    by_verdict : (v : Verdict) → IsNoted v → replay_of s (gone ++ rest) ≡ replay_after (firings_at s rest gone) (replay_of s rest)
        → told (undone s (gone ++ rest)) d v (replay_of s (gone ++ rest)) ≡ replay_after (fired_of (undone s (gone ++ rest)) d v ++ firings_at s rest gone) (replay_of s rest)
    by_verdict (Noted note) one more = ap (told (undone s (gone ++ rest)) d (Noted note)) more
    by_verdict (Failed code) one more = absurd one

-- and they are its events
pub firings-events : (s : ObjectState) (gone rest : List Done) → Each (λ (d : Done). IsNoted d.verdict) gone → map (λ (f : Fired1). f.0) (firings_at s rest gone) ≡ events_of gone
unfolding firings_at
firings-events s [] rest noted = refl
firings-events s (d ∷ gone) rest noted = by_verdict d.verdict noted.0 (firings-events s gone rest noted.1)
  where
    by_verdict : (v : Verdict) → IsNoted v → map (λ (f : Fired1). f.0) (firings_at s rest gone) ≡ events_of gone
        → map (λ (f : Fired1). f.0) (fired_of (undone s (gone ++ rest)) d v ++ firings_at s rest gone) ≡ d.event ∷ events_of gone
    by_verdict (Noted note) one more = ap (λ es. d.event ∷ es) more
    by_verdict (Failed code) one more = absurd one
