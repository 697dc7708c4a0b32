-- Servers, as the law states them.
use Rattle.std.proofs.Common.{◌≡◌, ◌≢◌, ℕ, zero, suc, ◌+◌, ◌-◌, ◌<◌, ◌≤◌, Bool, true, false, cond, List, [], ◌∷◌, refl, sym, ap, subst, ⊎_elim, length, arith, eq-eqb, ne_eqb, eqb-true}
use Rattle.std.specs.Prelude.{if◌then◌else◌, ◌==◌, ◌&&◌, sum_by, count_by}
use Rattle.std.specs.List.{range_with_len}
use Rattle.std.proofs.lemmas.Bool.{cases_eq}
use Rattle.std.proofs.lemmas.List.Sums.{sum_by-cons}
use Rattle.event_key.specs.declared.key.Key.{Key}
use Rattle.delta_exchange.specs.Changes.{CellData}
use Rattle.model_core.specs.declared.effect.Effect.{Effect}
use Rattle.model_core.specs.declared.event.Event.{Event}
use Rattle.model_core.specs.declared.note.Note.{Note}
use Rattle.shop_model.specs.declared.counts.Counts.{Counts}
use Rattle.shop_model.specs.declared.kinds.TheConstants.{DONE}
use Rattle.shop_model.specs.declared.routes.Routes.{Routes}
use Rattle.shop_model.specs.declared.site.Site.{Site}
use Rattle.shop_model.specs.declared.station.Station.{Station}
use Rattle.shop_model.specs.Jobs.{server_of}
use Rattle.shop_model.specs.ShopParts.{station_at}
use Rattle.shop_model.specs.StationEffects.{take_effect, wait_effect, lose_effect, begin_effect, pass_effect, renege_effect, still_effect, works_effect}
use Rattle.shop_model.specs.Stations.{counts_of, busy_of, spare_of}
use Rattle.shop_totals.specs.Flows.{is_beginning}
use Rattle.shop_laws.specs.ServerLaws.{ends_by, IsSpare, ServersLaw, BeginningsLaw}
use Rattle.shop_laws.specs.Told.{word_told, cells_at}
use Rattle.shop_laws.proofs.Cases.{StationDoes, rests, goes_on, frees, takes, waits, loses, passes, begins, ends, puts_off, reneges, shifts, stands, works}
use Rattle.shop_laws.proofs.Serving.{Serving, serving, serve_weight, station_step}
use Rattle.shop_laws.proofs.Steps.{reached_lawful, shop_step, station_lawful}

-- one server alone weighs 1
abbrev this_one : ℕ → ℕ → ℕ
this_one server u = cond (u == server) 1 0

range_without : (server a n : ℕ) → ((k : ℕ) → a ≤ k → k < a + n → k ≢ server) → sum_by (this_one server) (range_with_len a n) ≡ 0
range_without server a zero none = refl
range_without server a (suc n) none =
    let here : this_one server a ≡ 0 = ap (λ b. cond b 1 0) (ne_eqb a server (none a (omega arith) (omega arith))) in
    omega (arith, sum_by-cons (this_one server) a (range_with_len (a + 1) n), here, range_without server (a + 1) n (λ k from to. none k (omega arith) (omega arith)))

range_once : (server a n : ℕ) → a ≤ server → server < a + n → sum_by (this_one server) (range_with_len a n) ≡ 1
range_once server a zero from to = absurd (omega arith)
range_once server a (suc n) from to = ⊎_elim
    (λ (is : a ≡ server).
    let here : this_one server a ≡ 1 = ap (λ b. cond b 1 0) (eq-eqb a server is) in
    let rest : sum_by (this_one server) (range_with_len (a + 1) n) ≡ 0 = range_without server (a + 1) n (λ k after within. λ eq. absurd (omega arith)) in
    omega (arith, sum_by-cons (this_one server) a (range_with_len (a + 1) n), here, rest))
    (λ (apart : a ≢ server).
    let here : this_one server a ≡ 0 = ap (λ b. cond b 1 0) (ne_eqb a server apart) in
    omega (arith, sum_by-cons (this_one server) a (range_with_len (a + 1) n), here, range_once server (a + 1) n (omega (arith, apart)) (omega arith)))
    (cases_eq a server)

same_end : (i server : ℕ) (e : Event) → serve_weight (this_one server) i e ≡ cond (ends_by i server e) 1 0
same_end i server e = by (e.kind == DONE) (e.key.dest == i) (server_of e.b == server)
  where
    by : (a b c : Bool) → ◌≡◌ {A = ℕ} (cond (a && b) (cond c 1 0) 0) (cond (a && (b && c)) 1 0)
    by true true c = refl
    by true false c = refl
    by false b c = refl

same_ends : (i server : ℕ) (es : List Event) → sum_by (serve_weight (this_one server) i) es ≡ count_by (ends_by i server) es
same_ends i server [] = refl
same_ends i server (e ∷ es) =
    omega (arith, sum_by-cons (serve_weight (this_one server) i) e es, sum_by-cons (λ (e : Event). cond (ends_by i server e) 1 0) e es, same_end i server e, same_ends i server es)

pub servers_law : ServersLaw
servers_law p t s i fine exists reached =
    let all : Serving p s = serving p t s fine reached in
    let lawful = station_lawful p t s i (reached_lawful p t s fine reached) exists in
    let most : ℕ = (station_at p.stations i).most in
    record {
      each_once = λ server below. omega (arith, all.servers i exists (this_one server), same_ends i server s.pending, range_once server 0 most (omega arith) (omega arith));
      no_others = λ server past. omega (arith, all.servers i exists (this_one server), same_ends i server s.pending, range_without server 0 most (λ k from to. λ eq. absurd (omega arith)));
      no_more = omega (arith, lawful.held, lawful.free);
    }

pub spare_is : (most : ℕ) (counts : Counts) → 0 < spare_of most counts → (counts.down ≡ 0) × (busy_of most counts < counts.opened)
unfolding spare_of
spare_is most counts some = by (counts.down == 0) refl some
  where
    by : (up : Bool) → (counts.down == 0) ≡ up → 0 < (if up then counts.opened - busy_of most counts else 0) → (counts.down ≡ 0) × (busy_of most counts < counts.opened)
    by true up some = (eqb-true _ _ up, omega arith)
    by false up some = absurd (omega arith)

-- only who is taken or called begins
begins_spare : (site : Site) (routes : Routes) (station : Station) (cells : CellData) (e : Event) (x : Effect) → StationDoes site routes station cells e x
    → is_beginning (word_told x.note) ≡ true → 0 < spare_of station.most (counts_of cells)
unfolding take_effect wait_effect lose_effect begin_effect pass_effect renege_effect still_effect works_effect
begins_spare site routes station cells e x (rests no_come no_done no_call no_turn) word = absurd (cc)
begins_spare site routes station cells e x (goes_on job at) word = absurd (cc)
begins_spare site routes station cells e x (frees job at some) word = absurd (cc)
begins_spare site routes station cells e x (takes job visit at visits nobody spare) word = spare
begins_spare site routes station cells e x (waits job visit level at visits below busy) word = absurd (cc)
begins_spare site routes station cells e x (loses job visit at visits) word = absurd (cc)
begins_spare site routes station cells e x (passes level calls empty) word = absurd (cc)
begins_spare site routes station cells e x (begins level job visit calls there) word = calls.spare
begins_spare site routes station cells e x (ends job at below some on_time) word = absurd (cc)
begins_spare site routes station cells e x (puts_off job at served below late) word = absurd (cc)
begins_spare site routes station cells e x (reneges level place job visit kind below within now there) word = absurd (cc)
begins_spare site routes station cells e x (shifts kind within) word = absurd (cc)
begins_spare site routes station cells e x (stands breakdowns kind has up) word = absurd (cc)
begins_spare site routes station cells e x (works breakdowns kind has) word = absurd (cc)

pub beginnings_law : BeginningsLaw
beginnings_law p t s told after fine reached is_next early word =
    let n = shop_step p t s told after fine reached is_next in
    let P : Key × Note → Type 0 = λ told. told.0.dest < length p.stations → is_beginning (word_told told.1) ≡ true → IsSpare s told.0.dest (station_at p.stations told.0.dest) in
    subst P (sym n.step.tells)
    (λ exists begins_so.
    let st = station_step p t s told after fine n (serving p t s fine reached) exists in
    let spare = spare_is (station_at p.stations n.step.event.key.dest).most (counts_of (cells_at s n.step.event.key.dest))
    (begins_spare _ _ _ _ _ n.step.effect st.does_so begins_so) in
    record { works = spare.0; some = spare.1 })
    early word
