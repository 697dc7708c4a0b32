-- A list of processed events with one more at its end.
use Rattle.std.proofs.Common.{◌≡◌, true, List, [], ◌∷◌, ◌++◌, sym, ap, ◌∙◌, append_assoc}
use Rattle.std.proofs.lemmas.List.{append-nil}
use Rattle.std.specs.List.{AllByRecursion as Each}
use Rattle.event_key.specs.Keys.{key_lt}
use Rattle.key_order.specs.Ascending.{After, Ascends}
use Rattle.object_log.specs.Dones.{Done}
use Rattle.object_log.specs.EventLogs.{done_key}
use Rattle.object_log.specs.Logs.{held_of}
use Rattle.object_log.specs.Tellings.{told_all, told_of}
use Rattle.object_log.proofs.HeldLemmas.{held-append}

pub told-push : (ds : List Done) (d : Done) → told_all (ds ++ d ∷ []) ≡ told_all ds ++ told_of d.event.key d.verdict
unfolding told_all
told-push [] d = append-nil (told_of d.event.key d.verdict)
told-push (x ∷ xs) d = ap (λ ts. told_of x.event.key x.verdict ++ ts) (told-push xs d) ∙ sym (append_assoc (told_of x.event.key x.verdict) (told_all xs) (told_of d.event.key d.verdict))

pub held-push : (ds : List Done) (d : Done) → held_of (ds ++ d ∷ []) ≡ held_of ds ++ d.sends
unfolding held_of
held-push ds d = held-append ds (d ∷ []) ∙ ap (λ es. held_of ds ++ es) (append-nil d.sends)

after-push : (x d : Done) (ds : List Done) → key_lt x.event.key d.event.key ≡ true → After done_key x.event.key ds → After done_key x.event.key (ds ++ d ∷ [])
after-push x d [] lt all = (lt, tt)
after-push x d (y ∷ ys) lt all = (all.0, after-push x d ys lt all.1)

pub ascends-push : (ds : List Done) (d : Done) → Each (λ (x : Done). key_lt x.event.key d.event.key ≡ true) ds → Ascends done_key ds → Ascends done_key (ds ++ d ∷ [])
unfolding Ascends
ascends-push [] d below up = (tt, tt)
ascends-push (x ∷ xs) d below up = (after-push x d xs below.0 up.0, ascends-push xs d below.1 up.1)
