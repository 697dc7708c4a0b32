use Rattle.std.proofs.Common.{◌≡◌, ◌+◌, ◌<◌, ℕ, List, [], ◌∷◌, ◌++◌, length, get_or, take, map, append_assoc, ap, ◌∙◌}
use Rattle.std.proofs.lemmas.List.{map-append, take_more}
use Rattle.model_core.specs.declared.event.Start.{Start}
use Rattle.shop_model.specs.declared.kinds.TheConstants.{MAKE}
use Rattle.shop_model.specs.Starts.{start_at}
use Rattle.shop_model.proofs.class.Class.add_times.Goals as goal

-- one start more, at the next of the times
more-starts : (object : ℕ) (times : List ℕ) (at time : ℕ) (first before after : List Start) → at < length times
    → before ≡ first ++ map (λ t. start_at object t MAKE 0) (take at times)
    → after ≡ before ++ start_at object (get_or times at time) MAKE 0 ∷ []
    → after ≡ first ++ map (λ t. start_at object t MAKE 0) (take (at + 1) times)
more-starts object times at time first before after within is added =
    let one = start_at object (get_or times at time) MAKE 0 in
    rw (take_more times at time within, map-append)
    (added ∙ ap (λ (starts : List Start). starts ++ one ∷ []) is
    ∙ append_assoc first (map (λ t. start_at object t MAKE 0) (take at times)) (one ∷ []))

pub loop-time-preserved : goal.loop-time-preserved
loop-time-preserved c =
    let added = rw c.start_at.ensures at c.in_ok-push.ensures.items in
    more-starts c.args.object c.as_slice-time-items.result.now c.loop-time.time-index _ c.args.starts.now.items _ _ c.loop-time-test.true
    c.loop-time.invariant added
