-- A server calls at a later step of the tick than the ends of patience.
use Rattle.std.proofs.Common.{◌≡◌, ◌≢◌, ℕ, ◌+◌, ◌-◌, ◌<◌, ◌≤◌, Bool, true, false, List, [], ◌∷◌, ◌++◌, length, refl, sym, ap, ◌∙◌, subst, ⊎_elim, arith}
use Rattle.std.specs.Prelude.{if◌then◌else◌, is_none, nat_lt}
use Rattle.std.specs.List.{AllByRecursion as Each}
use Rattle.std.proofs.lemmas.Bool.{cases_lt, eqb-false, or_parts}
use Rattle.event_key.specs.declared.key.Key.{Key}
use Rattle.event_key.specs.Stamps.{step_part, next_stamp, has_no_step}
use Rattle.key_order.proofs.EachLemmas.{Each-append}
use Rattle.delta_exchange.specs.Changes.{CellData}
use Rattle.model_core.specs.declared.effect.Effect.{Effect}
use Rattle.model_core.specs.declared.event.Event.{Event}
use Rattle.model_core.specs.declared.event.Send.{Send}
use Rattle.model_core.specs.declared.note.Note.{Note}
use Rattle.model_core.specs.declared.words.TheConstants.{LEFT_WORD, DROPPED_WORD, CALLED_WORD}
use Rattle.run_laws.specs.Reached.{Reaches}
use Rattle.run_laws.proofs.Induction.{each_reached}
use Rattle.run_laws.proofs.OrderLaw.{step_keeps}
use Rattle.sim_spec.specs.declared.terms.Terms.{Terms}
use Rattle.sim_spec.specs.Firing.{has_endless_chain, emissions}
use Rattle.sim_spec.specs.Run.{does, next}
use Rattle.sim_spec.specs.State.{State, object_at as state_at}
use Rattle.shop_model.specs.declared.class.Class.{Class}
use Rattle.shop_model.specs.declared.job.Job.{Job}
use Rattle.shop_model.specs.declared.kinds.TheConstants.{DONE, CALL}
use Rattle.shop_model.specs.declared.routes.Routes.{Routes}
use Rattle.shop_model.specs.declared.site.Site.{Site}
use Rattle.shop_model.specs.declared.station.Station.{Station}
use Rattle.shop_model.specs.declared.step.Visit.{Visit as AVisit}
use Rattle.shop_model.specs.Beginnings.{next_server, begin_sent}
use Rattle.shop_model.specs.Classes.{one_made, overdue, stay_effect, go_effect, leave_effect}
use Rattle.shop_model.specs.Jobs.{birth_of, job_at, served_by}
use Rattle.shop_model.specs.Meaning.{shop_meaning, site_of, class_of_object}
use Rattle.shop_model.specs.Routes.{moved}
use Rattle.shop_model.specs.ShopParts.{ShopParts, IsShop, routes_of, station_at}
use Rattle.shop_model.specs.Sites.{to_self}
use Rattle.shop_model.specs.StationEffects.{take_effect, wait_effect, lose_effect, begin_effect, pass_effect, renege_effect, shift_sent, still_effect, works_effect}
use Rattle.shop_laws.specs.Told.{word_told, cells_at}
use Rattle.shop_laws.proofs.Cases.{StationDoes, rests, goes_on, frees, takes, waits, loses, passes, begins, ends, puts_off, reneges, shifts, stands, works}
use Rattle.shop_laws.proofs.ClassCases.{ClassDoes, idles, makes_none, makes, holds, branches, leaves, class_sends_each}
use Rattle.shop_laws.proofs.Moves.{call_each, tire_each, shift_each}
use Rattle.shop_laws.proofs.Serving.{serving, station_step, class_step}
use Rattle.shop_laws.proofs.Starts.{pending_first}
use Rattle.shop_laws.proofs.Steps.{IsShopStep, shop_step}

-- a call is sent without delay, and so comes at a later step than the first of its tick
abbrev AtOnce : Send → Type 0
AtOnce s = s.kind ≡ CALL → s.delay ≡ 0

abbrev pub CallsLater : Event → Type 0
CallsLater e = e.kind ≡ CALL → 1 ≤ step_part e.key.stamp

each_later : (stamp object serial : ℕ) (sends : List Send) → has_endless_chain stamp sends ≡ false → Each AtOnce sends → Each CallsLater (emissions stamp object serial sends)
unfolding emissions has_endless_chain has_no_step next_stamp
each_later stamp object serial [] free all = tt
each_later stamp object serial (s ∷ rest) free all =
    let parts = or_parts _ _ free in (
      λ call.
          let none : s.delay ≡ 0 = all.0 call in
          let stamps : next_stamp stamp s.delay ≡ stamp + 1 = ap (λ d. next_stamp stamp d) none in
          let steps : has_no_step stamp 0 ≡ false = subst (λ d. has_no_step stamp d ≡ false) none parts.0 in
          let apart : step_part stamp ≢ 65535 = eqb-false (step_part stamp) 65535 steps in
          omega (arith, stamps),
      each_later stamp object (serial + 1) rest parts.1 all.1,
    )

module _ (site : Site) (routes : Routes) (station : Station) (cells : CellData) (e : Event) where
  moved_once : (job : Job) (b step delay : ℕ) → AtOnce (moved routes job b step delay)
  unfolding moved
  moved_once job b step delay call = absurd (omega arith)

  begin_once : (visit : AVisit) (service birth : ℕ) (job : Job) → AtOnce (begin_sent site routes cells visit service job birth)
  unfolding begin_sent
  begin_once visit service birth job = by (is_none visit.service)
    where
      by : (takes_it : Bool) → AtOnce (if takes_it then moved routes job birth (job.step + 1) 0 else to_self site service DONE (job_at job.step job.id) (served_by (next_server cells) birth))
      by true = moved_once job birth (job.step + 1) 0
      by false = λ call. absurd (omega arith)

  calls_once : (x : Effect) → StationDoes site routes station cells e x → Each AtOnce x.sends
  unfolding take_effect wait_effect lose_effect begin_effect pass_effect renege_effect still_effect works_effect
  calls_once x (rests no_come no_done no_call no_turn) = tt
  calls_once x (goes_on job at) = (moved_once job e.b (job.step + 1) 0, tt)
  calls_once x (frees job at some) = (moved_once job e.b (job.step + 1) 0, call_each AtOnce station.most site _ (λ call. refl))
  calls_once x (takes job visit at visits nobody spare) = (begin_once visit _ _ job, tt)
  calls_once x (waits job visit level at visits below busy) = tire_each AtOnce site cells level visit.patience (λ delay a b call. absurd (omega arith))
  calls_once x (loses job visit at visits) = (moved_once job e.b visit.full 0, tt)
  calls_once x (passes level calls empty) = ((λ call. refl), tt)
  calls_once x (begins level job visit calls there) = (begin_once visit _ _ job, call_each AtOnce station.most site _ (λ call. refl))
  calls_once x (ends job at below some on_time) = (moved_once job e.b (job.step + 1) 0, call_each AtOnce station.most site _ (λ call. refl))
  calls_once x (puts_off job at served below late) = ((λ call. absurd (omega arith)), tt)
  calls_once x (reneges level place job visit kind below within now there) = (moved_once job _ visit.away 0, tt)
  calls_once x (shifts kind within) = Each-append AtOnce (shift_sent site station e.a) _ (shift_each AtOnce site station e.a (λ delay a b call. absurd (omega arith))) (call_each AtOnce station.most site _ (λ call. refl))
  calls_once x (stands breakdowns kind has up) = ((λ call. absurd (omega arith)), tt)
  calls_once x (works breakdowns kind has) = ((λ call. absurd (omega arith)), call_each AtOnce station.most site _ (λ call. refl))

  -- `call` is told where a server calls
  pub told_call : (x : Effect) → StationDoes site routes station cells e x → word_told x.note ≡ CALLED_WORD → e.kind ≡ CALL
  unfolding take_effect wait_effect lose_effect begin_effect pass_effect renege_effect still_effect works_effect
  told_call x (rests no_come no_done no_call no_turn) word = absurd (omega arith)
  told_call x (goes_on job at) word = absurd (omega arith)
  told_call x (frees job at some) word = absurd (omega arith)
  told_call x (takes job visit at visits nobody spare) word = absurd (omega arith)
  told_call x (waits job visit level at visits below busy) word = absurd (omega arith)
  told_call x (loses job visit at visits) word = absurd (omega arith)
  told_call x (passes level calls empty) word = absurd (omega arith)
  told_call x (begins level job visit calls there) word = calls.kind
  told_call x (ends job at below some on_time) word = absurd (omega arith)
  told_call x (puts_off job at served below late) word = absurd (omega arith)
  told_call x (reneges level place job visit kind below within now there) word = absurd (omega arith)
  told_call x (shifts kind within) word = absurd (omega arith)
  told_call x (stands breakdowns kind has up) word = absurd (omega arith)
  told_call x (works breakdowns kind has) word = absurd (omega arith)

-- and at no class
no_call : {A : Type 0} (site : Site) (routes : Routes) (class : Class) (cells : CellData) (e : Event) (x : Effect) → ClassDoes site routes class cells e x → word_told x.note ≡ CALLED_WORD → A
unfolding one_made stay_effect go_effect leave_effect
no_call site routes class cells e x (idles no_come) word = absurd (omega arith)
no_call site routes class cells e x (makes_none arrival place kind arrival_is some) word = absurd (omega arith)
no_call site routes class cells e x (makes arrival place kind arrival_is some) word = absurd (omega arith)
no_call site routes class cells e x (holds law job at steps) word = absurd (omega arith)
no_call site routes class cells e x (branches branch job at steps) word = absurd (omega arith)
no_call site routes class cells e x (leaves job at steps) word = absurd (by (nat_lt (length class.route) job.step) word)
  where
    age : ℕ
    age = site.tick - birth_of e.b

    by : (drop : Bool) → word_told (if drop then record { word = DROPPED_WORD; a = job.id; b = site.tick - birth_of e.b } ∷ []
        else (record { word = LEFT_WORD; a = job.id; b = site.tick - birth_of e.b } ∷ []) ++ overdue class.due job.id (site.tick - birth_of e.b)) ≡ CALLED_WORD → ⊥
    by true word = absurd (omega arith)
    by false word = absurd (omega arith)

later_on : (p : ShopParts) (t : Terms) (s : State) (told : Key × Note) (after : State) → IsShop p → Reaches (shop_meaning p) t s → next (shop_meaning p) t s ≡ does told after
    → Each CallsLater s.pending → Each CallsLater after.pending
later_on p t s told after fine reached is_next before =
    let n : IsShopStep p t s told after = shop_step p t s told after fine reached is_next in
    let dest : ℕ = n.step.event.key.dest in
    let all : Each CallsLater (n.step.event ∷ n.step.rest) = subst (λ (es : List Event). Each CallsLater es) n.step.pending before in
    step_keeps (shop_meaning p) t s told after CallsLater n.step
    (each_later n.step.event.key.stamp dest (state_at s.objects dest).sent n.step.effect.sends n.step.no_chain
    (⊎_elim
    (λ (early : dest < length p.stations). calls_once _ _ _ _ _ n.step.effect (station_step p t s told after fine n (serving p t s fine reached) early).does_so)
    (λ (past : length p.stations ≤ dest).
    let st = class_step p t s told after fine n (serving p t s fine reached) past in
    class_sends_each p (site_of p dest n.step.event) (class_of_object p dest) (cells_at s dest) n.step.event st.home AtOnce
    (λ delay a b call. absurd (omega arith)) (λ job b step delay named within. moved_once (site_of p dest n.step.event) (routes_of p) (station_at p.stations 0) (cells_at s dest) n.step.event job b step delay)
    n.step.effect st.does_so)
    (cases_lt dest (length p.stations))))
    all.1

pub calls_later : (p : ShopParts) (t : Terms) (s : State) → IsShop p → Reaches (shop_meaning p) t s → Each CallsLater s.pending
calls_later p t s fine reached =
    each_reached (shop_meaning p) t (λ (s : State). Each CallsLater s.pending)
    (pending_first p CallsLater (λ e no_come no_done no_call call. absurd (no_call call)))
    (λ s told after there is_next before. later_on p t s told after fine there is_next before) s reached

-- the event that tells `call` is one
pub is_call : (p : ShopParts) (t : Terms) (s : State) (told : Key × Note) (after : State) → IsShop p → Reaches (shop_meaning p) t s → (n : IsShopStep p t s told after)
    → word_told told.1 ≡ CALLED_WORD → n.step.event.kind ≡ CALL
is_call p t s told after fine reached n word =
    let its : word_told n.step.effect.note ≡ CALLED_WORD = ap (λ (r : Key × Note). word_told r.1) (sym n.step.tells) ∙ word in
    ⊎_elim
    (λ (early : n.step.event.key.dest < length p.stations).
    told_call _ _ _ _ n.step.event n.step.effect (station_step p t s told after fine n (serving p t s fine reached) early).does_so its)
    (λ (past : length p.stations ≤ n.step.event.key.dest).
    no_call _ _ _ _ n.step.event n.step.effect (class_step p t s told after fine n (serving p t s fine reached) past).does_so its)
    (cases_lt n.step.event.key.dest (length p.stations))
