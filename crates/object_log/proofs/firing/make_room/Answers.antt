-- The cells and the pool stay, and find room.
use Rattle.std.proofs.Common.{◌≡◌, ℕ, ◌≤◌, Result, Ok, Err, refl, sym, ap, ◌+◌, ◌∙◌, subst, arith}
use Rattle.std.specs.Prelude.{OnErr, OnOk}
use Rattle.object_log.specs.Pools.{PoolView}
use Rattle.object_log.proofs.firing.make_room.Goals as goal

-- what holds anyway holds if it went well
on-ok : {T E P : Type 0} (r : Result T E) → P → OnOk r P
on-ok (Ok x) p = p
on-ok (Err e) p = tt

-- a list more is lent
lent-more : {T E : Type 0} (r : Result T E) (now mid old : ℕ) → mid ≡ old → OnOk r (now ≡ mid + 1) → OnOk r (now ≡ old + 1)
lent-more (Ok x) now mid old same more = more ∙ ap (λ n. n + 1) same
lent-more (Err e) now mid old same more = tt

lent-same : {T E : Type 0} (r : Result T E) (now mid old : ℕ) → mid ≡ old → OnErr r (now ≡ mid) → OnErr r (now ≡ old)
lent-same (Ok x) now mid old same more = tt
lent-same (Err e) now mid old same more = more ∙ same

pub returns-in_default : goal.returns-in_default
returns-in_default c = record {
  list = tt;
  changes = tt;
  sends = tt;
  entry = tt;
  contents = refl;
  none_fell = record { as_many = refl; no_less = λ line. omega arith };
  events_kept = c.reserve.ensures.events_kept;
  entries_kept = c.reserve.ensures.entries_kept;
  lent = tt;
  refused = c.reserve.ensures.lent;
}

pub returns-in_default-room : goal.returns-in_default-room
returns-in_default-room c = record {
  list = tt;
  changes = tt;
  sends = tt;
  entry = tt;
  contents = c.room.ensures.same;
  none_fell = c.room.ensures.none_fell;
  events_kept = c.reserve.ensures.events_kept;
  entries_kept = c.reserve.ensures.entries_kept;
  lent = tt;
  refused = c.reserve.ensures.lent;
}

pub returns : goal.returns
returns c =
    let r = c.copy_of.result in
    let events = ap (λ (p : PoolView). p.events) (sym c.copy_of.ensures.same) in
    let entries = ap (λ (p : PoolView). p.entries) (sym c.copy_of.ensures.same) in
    record {
      list = c.copy_of.ensures.list;
      changes = on-ok r c.in-Ok-room.ensures.ok;
      sends = on-ok r (subst (λ n. 8 ≤ n) events c.in-Ok.ensures.events);
      entry = on-ok r (subst (λ n. 1 ≤ n) entries c.in-Ok.ensures.entries);
      contents = c.room.ensures.same;
      none_fell = c.room.ensures.none_fell;
      events_kept = subst (λ n. c.args.pool.now.events ≤ n) events c.reserve.ensures.events_kept;
      entries_kept = subst (λ n. c.args.pool.now.entries ≤ n) entries c.reserve.ensures.entries_kept;
      lent = lent-more r _ _ _ c.reserve.ensures.lent c.copy_of.ensures.lent;
      refused = lent-same r _ _ _ c.reserve.ensures.lent c.copy_of.ensures.refused;
    }
