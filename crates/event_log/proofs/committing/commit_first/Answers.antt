-- One carried event after another is told of among the news, and its messages go home.
use Rattle.std.proofs.Common.{◌≡◌, ℕ, ◌<◌, [], ◌∷◌, ◌++◌, length, take, sym, ap, ◌∙◌, subst, arith, length-append}
use Rattle.std.specs.List.{AllByRecursion as Each}
use Rattle.std.specs.Prelude.{filter, slice_index}
use Rattle.event_key.specs.declared.key.Key.{Key}
use Rattle.key_order.specs.Keys.{times}
use Rattle.model_core.specs.declared.event.Event.{Event}
use Rattle.model_core.specs.declared.note.Note.{Note}
use Rattle.object_log.specs.Carrying.{Placed, placed_key}
use Rattle.object_log.specs.Flat.{goes_to}
use Rattle.object_log.specs.Tellings.{told_of}
use Rattle.object_log.specs.Whole.{dones_in}
use Rattle.event_log.specs.Committing.{told_key}
use Rattle.event_log.specs.Outboxes.{chain_at}
use Rattle.event_log.proofs.TellFacts.{among-next, among-none, next-each, next-few, next-held, rest-are, sent-end, told-end}
use Rattle.event_log.proofs.WovenFacts.{Went, all-went, each-image, failed-never}
use Rattle.event_log.proofs.committing.commit_first.Goals as goal

pub loop-init : goal.loop-init
loop-init c = record {
  among = among-none c.args.homes.now (take c.args.count c.args.news.now.items) c.args.carried.now.items c.args.told.now.items c.args.out.now.items;
  within = omega arith;
  room = omega (arith, c.requires.room);
}

pub release_first-sends-requires : goal.release_first-sends-requires
release_first-sends-requires c =
    let a = c.loop.invariant.among in
    let whole = ap length a.split in
    let parts = length-append a.gone c.loop.carried.items in
    let long = a.long in
    omega (arith, c.requires.due)

pub unreachable-requires : goal.unreachable-requires
unreachable-requires c =
    let a = c.loop.invariant.among in
    let at = c.release_first-sends.ensures.released in
    let due = c.args.due in
    let old = c.args.carried.now.items in
    let went = next-each a due at.0 (omega arith) at.1 (λ (p : Placed). Went p.done)
    (each-image (λ (p : Placed). p.done) Went (take due old) (all-went (dones_in (take due old)) c.requires.went)) in
    failed-never at.0.done.verdict _ went (sym at.2.verdict_is ∙ c.in_default.is)

pub tell_among-from-requires-clause-apart : goal.tell_among-from-requires-clause-apart
tell_among-from-requires-clause-apart c =
    let a = c.loop.invariant.among in
    let at = c.release_first-sends.ensures.released in
    let records = take c.args.count c.args.news.now.items in
    let new = next-each a c.args.due at.0 (omega arith) at.1 (λ (p : Placed). times told_key (placed_key p) records ≡ 0) c.requires.apart in
    ap (λ (e : Event). times told_key e.key records) at.2.event_is ∙ new

pub tell_among-from-requires-clause-room : goal.tell_among-from-requires-clause-room
tell_among-from-requires-clause-room c = omega (arith, c.loop.invariant.room)

pub send_home-requires-clause-known : goal.send_home-requires-clause-known
send_home-requires-clause-known c =
    let a = c.loop.invariant.among in
    let at = c.release_first-sends.ensures.released in
    let K : Event → Type 0 = λ e. e.key.dest < length c.args.homes.now in
    subst (Each K) (sym at.2.sends_are) (next-held a c.args.due at.0 (omega arith) at.1 K c.requires.known)

pub send_home-requires-clause-homes : goal.send_home-requires-clause-homes
send_home-requires-clause-homes c =
    let H : ℕ → Type 0 = λ n. Each (λ home. home < n) c.args.homes.now in
    subst H (sym c.loop.invariant.among.homed) c.requires.homes

pub send_home-requires-clause-few : goal.send_home-requires-clause-few
send_home-requires-clause-few c = λ to.
    let a = c.loop.invariant.among in
    let at = c.release_first-sends.ensures.released in
    let few = next-few a c.args.due at.0 (omega arith) at.1 c.requires.few to in
    let same = ap length at.2.sends_are in
    omega arith

pub loop-preserved : goal.loop-preserved
loop-preserved c =
    let a = c.loop.invariant.among in
    let at = c.release_first-sends.ensures.released in
    let d = at.0.done in
    let t : Key × Note = (c.release_first-sends.result.event.key, c.in-Noted.note) in
    let event = at.2.event_is in
    let verdict = sym at.2.verdict_is ∙ c.in-Noted.is in
    let one : told_of d.event.key d.verdict ≡ t ∷ [] = ap (told_of d.event.key) verdict ∙ ap (λ (e : Event). (e.key, c.in-Noted.note) ∷ []) (sym event) in
    record {
      among = among-next a at.0 t c.tell_among-from.result c.release_first-sends.new.self.items c.tell_among-from.new.told.items c.send_home.new.out.items at.1 c.release_first-sends.ensures.left one c.tell_among-from.ensures.told
          (λ to. c.send_home.ensures.sent to ∙ ap (λ es. chain_at c.loop.out.items to ++ filter (goes_to (slice_index c.args.homes.now) to) es) at.2.sends_are)
          c.send_home.ensures.long;
      within = c.tell_among-from.ensures.within;
      room = omega (arith, c.loop.invariant.room, c.tell_among-from.ensures.room);
    }

pub tell_rest-requires-clause-room : goal.tell_rest-requires-clause-room
tell_rest-requires-clause-room c = omega (arith, c.loop.invariant.room)

pub returns-clause-left : goal.returns-clause-left
returns-clause-left c =
    rest-are c.loop.invariant.among c.args.due (omega arith)

pub returns-clause-told : goal.returns-clause-told
returns-clause-told c =
    told-end c.loop.invariant.among c.args.due (omega arith)
    c.tell_rest.new.told.items c.tells.ensures c.requires.ordered (all-went (dones_in (take c.args.due c.args.carried.now.items)) c.requires.went) c.tell_rest.ensures

pub returns-clause-sent : goal.returns-clause-sent
returns-clause-sent c =
    sent-end c.loop.invariant.among c.args.due (omega arith)

pub returns-clause-long : goal.returns-clause-long
returns-clause-long c = c.loop.invariant.among.homed
