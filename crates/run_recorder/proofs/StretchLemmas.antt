-- Events that lead from state to state, one stretch behind another.
use Rattle.std.proofs.Common.{◌≡◌, ◌+◌, List, [], ◌∷◌, ◌++◌, length, refl, sym, ap, subst, arith}
use Rattle.event_key.specs.declared.key.Key.{Key}
use Rattle.model_core.specs.declared.note.Note.{Note}
use Rattle.model_core.specs.Meaning.{Meaning}
use Rattle.sim_spec.specs.declared.terms.Terms.{Terms}
use Rattle.sim_spec.specs.Run.{does, next, Leads}
use Rattle.sim_spec.specs.State.{State}
use Rattle.sim_spec.proofs.RunLemmas.{next-count}

-- events lead to a state, and more of them from there to another
pub leads-append : (m : Meaning) (t : Terms) (done more : List (Key × Note)) (s mid last : State) → Leads m t s done mid → Leads m t mid more last → Leads m t s (done ++ more) last
unfolding Leads
leads-append m t [] more s mid last one two = let P : State → Type 0 = λ s. Leads m t s more last in subst P (sym one) two
leads-append m t (told ∷ done) more s mid last one two = (one.0, one.1, leads-append m t done more one.0 mid last one.2 two)

-- one event more
pub leads-more : (m : Meaning) (t : Terms) (done : List (Key × Note)) (s mid last : State) (told : Key × Note) → Leads m t s done mid → next m t mid ≡ does told last → Leads m t s (done ++ told ∷ []) last
unfolding Leads
leads-more m t done s mid last told one is_next = leads-append m t done (told ∷ []) s mid last one (last, is_next, refl)

-- each event is counted
pub leads-count : (m : Meaning) (t : Terms) (done : List (Key × Note)) (s last : State) → Leads m t s done last → last.count ≡ s.count + length done
unfolding Leads
leads-count m t [] s last leads = let same = ap (λ (s : State). s.count) leads in omega arith
leads-count m t (told ∷ done) s last leads =
    let one = next-count m t s told leads.0 leads.1 in
    let first = one.0 in
    let rest = leads-count m t done leads.0 last leads.2 in
    omega arith
