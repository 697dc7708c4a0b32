use Rattle.std.proofs.Common.{◌≡◌, ℕ, ◌<◌, length, map, sym, ap, subst, ◌∙◌, arith}
use Rattle.std.proofs.lemmas.List.{length-map}
use Rattle.std.proofs.lemmas.List.FromFn.{length-range_with_len}
use Rattle.std.proofs.lemmas.Simd.{map-map}
use Rattle.world_tests.specs.declared.tests.forks.watched.WatchedEnd.{WatchedEnd}
use Rattle.world_tests.proofs.WatchedLemmas.{all-inner, inner-at}
use Rattle.world_tests.proofs.tests.forks.watched.WatchedLanesLanes.ready.Goals as goal

pub watch_all-requires-clause-many : goal.watch_all-requires-clause-many
watch_all-requires-clause-many g c =
    let many = c.in_ok-watches.ensures in
    let count = c.requires.1 in
    let long : length c.in_ok-ends.ends.items ≡ g.L.Lanes.nodes c.args.self.now.lanes =
    sym (length-map c.in_ok-ends.ends.items g.L.End.NodeEnd.number) ∙ ap length c.in_ok-ends.ensures.numbers ∙ length-range_with_len 0 (g.L.Lanes.nodes c.args.self.now.lanes) in
    omega arith

pub watch_all-requires-clause-room : goal.watch_all-requires-clause-room
watch_all-requires-clause-room g c =
    let room = c.in_ok-watched.ensures.capacity in
    let count = c.requires.1 in
    let long : length c.in_ok-ends.ends.items ≡ g.L.Lanes.nodes c.args.self.now.lanes =
    sym (length-map c.in_ok-ends.ends.items g.L.End.NodeEnd.number) ∙ ap length c.in_ok-ends.ensures.numbers ∙ length-range_with_len 0 (g.L.Lanes.nodes c.args.self.now.lanes) in
    omega arith

pub returns-clause-out : goal.returns-clause-out
returns-clause-out g c =
    let room = c.in_ok-self.ensures.capacity in
    let count = c.requires.1 in
    let long : length c.in_ok-ends.ends.items ≡ g.L.Lanes.nodes c.args.self.now.lanes =
    sym (length-map c.in_ok-ends.ends.items g.L.End.NodeEnd.number) ∙ ap length c.in_ok-ends.ensures.numbers ∙ length-range_with_len 0 (g.L.Lanes.nodes c.args.self.now.lanes) in
    let all : length c.watch_all.new.into.items ≡ length c.in_ok-ends.ends.items = sym (length-map c.watch_all.new.into.items (λ (w : WatchedEnd _). w.end)) ∙ ap length c.watch_all.ensures in (
      subst (λ ends. g.L.Lanes.are_out c.ready.new.self ends) (sym c.watch_all.ensures) c.in_ok-ends.ensures.out,
      (c.in_ok-self.ensures.items, omega arith),
      c.in_ok-ends.ensures.nodes ∙ c.requires.1,
    )

pub returns-clause-numbers : goal.returns-clause-numbers
returns-clause-numbers g c =
    sym (map-map g.L.End.NodeEnd.number (λ (w : WatchedEnd _). w.end) c.watch_all.new.into.items)
    ∙ ap (λ ends. map g.L.End.NodeEnd.number ends) c.watch_all.ensures ∙ c.in_ok-ends.ensures.numbers

pub returns-clause-count : goal.returns-clause-count
returns-clause-count g c = all-inner (λ (w : WatchedEnd _). w.end) (λ end. g.L.End.NodeEnd.nodes end ≡ g.L.Lanes.nodes c.args.self.now.lanes)
    c.watch_all.new.into.items c.in_ok-ends.ends.items c.watch_all.ensures (λ k d below. c.in_ok-ends.ensures.count k d below)

pub returns-clause-free : goal.returns-clause-free
returns-clause-free g c = all-inner (λ (w : WatchedEnd _). w.end) (λ end. (to : ℕ) → to < g.L.Lanes.nodes c.args.self.now.lanes → g.L.End.NodeEnd.is_free end to)
    c.watch_all.new.into.items c.in_ok-ends.ends.items c.watch_all.ensures (λ k d below. c.in_ok-ends.ensures.free k d below)

pub returns-clause-received : goal.returns-clause-received
returns-clause-received g c from to sender receiver sends receives =
    let at = inner-at (λ (w : WatchedEnd _). w.end) c.watch_all.new.into.items c.in_ok-ends.ends.items c.watch_all.ensures in
    c.in_ok-ends.ensures.received from to sender.end receiver.end (at from sender sends) (at to receiver receives)
