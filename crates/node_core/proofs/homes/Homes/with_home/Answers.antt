-- One home is another, and the counts of two nodes change.
use Rattle.std.proofs.Common.{ℕ, List, ap, ◌∙◌, arith, ◌≡◌, ◌<◌, length, get_or, sym, subst, vec_len}
use Rattle.std.specs.Prelude.{slice_set}
use Rattle.node_core.specs.Homes.{HomesView, rehomed}
use Rattle.node_core.proofs.HomeLemmas.{can-rehome, counts-set, each-get, homes-set, next-room, was-some}
use Rattle.node_core.proofs.homes.Homes.with_home.Goals as goal
use Rattle.node_core.proofs.homes.Homes.with_home.Goals.{In_ok-homes}

-- the object has a home among those that were copied
copied : (c : In_ok-homes) → c.args.object < vec_len c.in_ok-homes.homes
copied c =
    let W : ℕ → Type 0 = λ n. c.args.object < n in
    let same = c.in_ok-homes.ensures.items ∙ c.as_slice.ensures.value ∙ ap (λ (h : HomesView). h.homes) c.self.view_is in
    subst W (sym (c.in_ok-homes.homes.ok.0 ∙ ap length same)) c.requires.object

pub index-requires : goal.index-requires
index-requires c = copied (goal.at.index-requires c).In_ok-homes

pub index_mut-requires : goal.index_mut-requires
index_mut-requires c =
    let i = c.self.inside in
    let nodes = i.nodes in
    let home = c.index.result.now in
    let object = c.args.object in
    let W : ℕ → Type 0 = λ n. object < n in
    let within : object < length i.homes.items = subst W (sym (ap (λ (h : HomesView). length h.homes) c.self.view_is)) c.requires.object in
    let copied = c.in_ok-homes.ensures.items ∙ c.as_slice.ensures.value in
    let is : home ≡ get_or i.homes.items object home = c.index.ensures ∙ ap (λ (hs : List ℕ). get_or hs object home) copied in
    let N : ℕ → Type 0 = λ n. n < nodes in
    let below : home < nodes = subst N (sym is) (each-get N i.homes.items object home c.self.invariant.0.within within) in
    let C : ℕ → Type 0 = λ n. home < n in
    subst C (sym (c.in_ok-counts.counts.ok.0 ∙ ap length (c.in_ok-counts.ensures.items ∙ c.as_slice-2.ensures.value) ∙ c.self.invariant.1.many)) below

pub index_mut-requires-2 : goal.index_mut-requires-2
index_mut-requires-2 c =
    let W : ℕ → Type 0 = λ n. c.args.node < n in
    let counts = c.in_ok-counts.counts.ok.0 ∙ ap length (c.in_ok-counts.ensures.items ∙ c.as_slice-2.ensures.value) ∙ c.self.invariant.1.many in
    subst W (sym (counts ∙ ap (λ (h : HomesView). h.nodes) c.self.view_is)) c.requires.node

pub index_mut-requires-3 : goal.index_mut-requires-3
index_mut-requires-3 c = copied (goal.at.index_mut-requires-3 c).In_ok-homes

pub overflow_sub-index_mut : goal.overflow_sub-index_mut
overflow_sub-index_mut c =
    let can = can-rehome c.args.self.now c.self.inside.nodes c.args.object c.args.node c.self.inside.homes.items c.self.inside.counts.items
    c.in_ok-homes.homes.items c.in_ok-counts.counts.items c.self.view_is c.requires.object c.requires.node c.self.invariant
    (c.in_ok-homes.ensures.items ∙ c.as_slice.ensures.value) (c.in_ok-counts.ensures.items ∙ c.as_slice-2.ensures.value) in
    was-some _ _ _ _ _ can c.index.result.now c.index_mut.result.now 0 c.index.ensures c.index_mut.ensures.value

pub overflow_add-index_mut : goal.overflow_add-index_mut
overflow_add-index_mut c =
    let can = can-rehome c.args.self.now c.self.inside.nodes c.args.object c.args.node c.self.inside.homes.items c.self.inside.counts.items
    c.in_ok-homes.homes.items c.in_ok-counts.counts.items c.self.view_is c.requires.object c.requires.node c.self.invariant
    (c.in_ok-homes.ensures.items ∙ c.as_slice.ensures.value) (c.in_ok-counts.ensures.items ∙ c.as_slice-2.ensures.value) in
    let room = next-room _ _ _ _ _ can c.index.result.now c.index_mut.result.now c.index_mut-2.result.now c.index.ensures c.index_mut.ensures.value c.index_mut-2.ensures.value in
    let few = can.are.few in
    omega arith

pub invariant_of-result : goal.invariant_of-result
invariant_of-result c =
    let can = can-rehome c.args.self.now c.self.inside.nodes c.args.object c.args.node c.self.inside.homes.items c.self.inside.counts.items
    c.in_ok-homes.homes.items c.in_ok-counts.counts.items c.self.view_is c.requires.object c.requires.node c.self.invariant
    (c.in_ok-homes.ensures.items ∙ c.as_slice.ensures.value) (c.in_ok-counts.ensures.items ∙ c.as_slice-2.ensures.value) in
    (homes-set _ _ _ _ can.to can.are, counts-set _ _ _ _ _ can c.index.result.now c.index_mut.result.now c.index_mut-2.result.now c.index.ensures c.index_mut.ensures.value c.index_mut-2.ensures.value)

pub returns : goal.returns
returns c =
    let copied = ap (λ (hs : List ℕ). slice_set hs c.args.object c.args.node) (c.in_ok-homes.ensures.items ∙ c.as_slice.ensures.value) in
    (λ i. record { nodes = c.self.inside.nodes; homes = copied i }) ∙ ap (λ (h : HomesView). rehomed h c.args.object c.args.node) c.self.view_is
