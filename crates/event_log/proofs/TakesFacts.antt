-- An event can come behind the news.
use Rattle.std.proofs.Common.{◌≡◌, ℕ, zero, suc, ◌+◌, true, Some, List, [], ◌∷◌, length, map, ap, sym, ◌∙◌, refl, subst, arith}
use Rattle.std.proofs.lemmas.List.{length-map, nil_from_length}
use Rattle.std.specs.List.{AllByRecursion as Each}
use Rattle.std.specs.Prelude.{Option, None, is_some, false, slice_get}
use Rattle.event_key.specs.declared.key.Key.{Key}
use Rattle.event_key.specs.Keys.{key_lt}
use Rattle.event_key.proofs.Order.{key_lt-trans}
use Rattle.key_order.specs.Ascending.{Ascends}
use Rattle.model_core.specs.declared.event.Event.{Event}
use Rattle.object_log.specs.Dones.{Done}
use Rattle.object_log.specs.EventLogs.{done_key}
use Rattle.object_log.specs.Logs.{held_of, keys_of}
use Rattle.object_log.proofs.FaultLemmas.{fault-none}
use Rattle.event_log.specs.News.{CanTake, NewsView}
use Rattle.event_log.specs.Outboxes.{message}

-- a key after the last one comes after all
pub all-below : (ds : List Done) (n : ℕ) (k key : Key) → Ascends done_key ds → n + 1 ≡ length ds → slice_get (keys_of ds) n ≡ Some k → key_lt k key ≡ true → Each (λ (d : Done). key_lt d.event.key key ≡ true) ds
unfolding Ascends
all-below [] n k key up long at lt = tt
all-below (d ∷ []) zero k key up long at lt = (let same : d.event.key ≡ k = cc in (ap (λ (j : Key). key_lt j key) same ∙ lt, tt))
all-below (d ∷ []) (suc n) k key up long at lt = absurd (omega arith)
all-below (d ∷ e ∷ ds) zero k key up long at lt = absurd (omega arith)
all-below (d ∷ e ∷ ds) (suc n) k key up long at lt =
    let more = all-below (e ∷ ds) n k key up.1 (omega arith) at lt in
    (key_lt-trans d.event.key e.event.key key up.0.0 more.0, more)

pub nothing-sent : (sent : List (ℕ × Event)) (ds : List Done) → ds ≡ [] → map message sent ≡ held_of ds → length sent ≡ 0
unfolding held_of
nothing-sent sent ds none is = sym (length-map sent message) ∙ ap length (is ∙ ap held_of none)

pub takes-none : (key : Key) (v : NewsView) → length v.done ≡ 0 → map message v.sent ≡ held_of v.done → CanTake key v
takes-none key v none held =
    let empty : v.done ≡ [] = nil_from_length v.done (omega arith) in
    let silent = nothing-sent v.sent v.done empty held in
    let E : List Done → Type 0 = Each (λ (d : Done). key_lt d.event.key key ≡ true) in
    record {
      above = subst E (sym empty) tt;
      went = fault-none v.done none;
      few = omega arith;
      few_sent = omega arith;
    }

pub not-faulted : (f : Option (Key × ℕ)) → is_some f ≡ false → f ≡ None
not-faulted None is = refl
not-faulted (Some x) is = absurd (cc)
