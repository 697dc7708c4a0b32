-- Home by home the objects are placed.
use Rattle.std.proofs.Common.{◌≡◌, ◌∙◌, ℕ, ◌<◌, List, length, refl, sym, ap, subst, arith}
use Rattle.std.specs.List.{AllByRecursion as Each}
use Rattle.world_spec.specs.World.{home_by}
use Rattle.node_core.specs.Homes.{AreCounts}
use Rattle.node_core.proofs.HomeLemmas.{placed-more}
use Rattle.node_core.proofs.homes.Homes.new.Goals as goal

none-below : (k : ℕ) → k < 0 → ⊥
none-below k lt = absurd (omega arith)

pub loop-object-init : goal.loop-object-init
loop-object-init c =
    let none = c.in_ok-homes.ensures.items in
    let W : List ℕ → Type 0 = Each (λ (home : ℕ). home < c.args.nodes) in
    record { long = ap length none; within = subst W (sym none) tt; homes = λ k lt. absurd (none-below k lt) }

pub loop-object-preserved : goal.loop-object-preserved
loop-object-preserved c =
    let so_far = c.loop-object.invariant in
    let placed = c.placed.ensures in
    let more = placed-more (home_by c.args.placement c.args.objects c.args.nodes) c.args.nodes c.loop-object.object c.placed.result c.loop-object.homes.items _ so_far.long so_far.within so_far.homes placed.home placed.node c.in_ok-push.ensures.items in
    record { long = more.0; within = more.1; homes = more.2 }

pub returns-clause-nodes : goal.returns-clause-nodes
returns-clause-nodes c = refl

pub returns-clause-objects : goal.returns-clause-objects
returns-clause-objects c = let all : c.loop-object.object ≡ c.args.objects = omega arith in c.loop-object.invariant.long ∙ all

pub returns-clause-homes : goal.returns-clause-homes
returns-clause-homes c object below = let all : c.loop-object.object ≡ c.args.objects = omega arith in c.loop-object.invariant.homes object (omega arith)

pub counts_of-requires-clause-within : goal.counts_of-requires-clause-within
counts_of-requires-clause-within c = subst (Each (λ (home : ℕ). home < c.args.nodes)) (sym c.as_slice.ensures.value) c.loop-object.invariant.within

pub invariant_of-result : goal.invariant_of-result
invariant_of-result c = (
  record { low = c.requires.low; high = c.requires.high; few = (let long = c.loop-object.invariant.long in omega arith); within = c.loop-object.invariant.within },
  subst (λ hs. AreCounts c.args.nodes hs c.in_ok-counts.counts.items) c.as_slice.ensures.value c.in_ok-counts.ensures,
)
