-- Either the news are handed out as they lie, or they and the first carried ones are told of one among the others.
use Rattle.std.proofs.Common.{◌≡◌, ℕ, ◌<◌, ◌≤◌, None, List, [], ◌++◌, length, length-append, length-take, not, take, drop, refl, sym, ap, ◌∙◌, subst, arith}
use Rattle.std.proofs.lemmas.List.{append-nil, take_all, take_at}
use Rattle.std.specs.List.{AllByRecursion as Each}
use Rattle.std.specs.Prelude.{filter, slice_index}
use Rattle.event_key.specs.declared.key.Key.{Key}
use Rattle.key_order.specs.Ascending.{Ascends}
use Rattle.key_order.specs.Due.{is_due}
use Rattle.key_order.specs.Keys.{times}
use Rattle.key_order.proofs.AscendingLemmas.{Ascends-filter}
use Rattle.model_core.specs.declared.event.Event.{Event}
use Rattle.model_core.specs.declared.note.Note.{Note}
use Rattle.object_log.specs.Carrying.{Placed, placed_key}
use Rattle.object_log.specs.Flat.{goes_to}
use Rattle.object_log.specs.Logs.{fault_of, held_of}
use Rattle.object_log.specs.Parts.{due_of}
use Rattle.object_log.specs.Tellings.{told_all}
use Rattle.object_log.specs.Weave.{weave}
use Rattle.object_log.specs.Whole.{dones_in}
use Rattle.object_log.proofs.WeaveLemmas.{weave-below}
use Rattle.event_log.specs.Committing.{HasCommittedDue, told_key}
use Rattle.event_log.specs.News.{NewsView}
use Rattle.event_log.specs.Processing.{AreHomed, ProcessedView, merged, placed_all, processed_view}
use Rattle.event_log.proofs.CommitFacts.{IsParted, commits-due, commits-news, count-due, few-held, first-held, first-went, news-went, parcel-most, parted, told-apart, told-long, told-low}
use Rattle.event_log.proofs.ProcessedFacts.{handed-processed, merged-long, merged-none}
use Rattle.event_log.proofs.processed.Processed.commit.Goals as goal
use Rattle.event_log.proofs.processed.Processed.commit.Goals.{After-carry, After-due_in-carried, After-send_out}

pub overflow_add-carried : goal.overflow_add-carried
overflow_add-carried c =
    let n = c.self.inside in
    let whole = ap (λ (v : ProcessedView). length v.items) c.self.view_is in
    let long = merged-long n.news.done n.places.items n.carried.items c.self.invariant.long in
    omega (arith, c.requires.due.few, c.due-news.ensures.within, c.due_in-carried.ensures.within)

pub carry-requires-clause-can : goal.carry-requires-clause-can
carry-requires-clause-can c =
    let p = c.self.invariant in
    let enough = p.cells_are in
    let zeros_are = p.zeros_are in
    record { ordered = p.ordered; long = p.long; room = p.room; few = p.few; cells_are = omega arith }

-- all that is processed, of which none that is due failed
abbrev whole : After-due_in-carried → List Placed
whole c = merged c.self.inside.news.done c.self.inside.places.items c.self.inside.carried.items

went : (c : After-due_in-carried) → fault_of (due_of c.args.horizon c.args.cut.now (dones_in (whole c))) ≡ None
went c =
    let F : ProcessedView → Type 0 = λ v. fault_of (due_of c.args.horizon c.args.cut.now (dones_in v.items)) ≡ None in
    subst F (sym c.self.view_is) c.requires.due.went

-- what is due is parted where all news are, and none of what is carried
abbrev Parts : After-due_in-carried → Type 0
Parts c = IsParted c.args.horizon c.args.cut.now (whole c) c.self.inside.news.done c.self.inside.carried.items c.due_in-carried.result

parts : (c : After-due_in-carried) → length c.self.inside.news.done ≤ c.due-news.result → Parts c
parts c most =
    let n = c.self.inside in
    let h = c.args.horizon in
    let cut = c.args.cut.now in
    let p = c.self.invariant in
    let k = c.due_in-carried in
    let count = count-due h cut n.carried.items k.result k.ensures.within k.ensures.taken in
    let all : take c.due-news.result n.news.done ≡ n.news.done = take_all c.due-news.result n.news.done most in
    parted h cut n.news.done n.places.items n.carried.items n.news.done n.places.items n.carried.items k.result p.long p.long p.ordered refl
    (sym all ∙ c.due-news.ensures.taken) c.tells.ensures.ordered count

-- and where the news that aren't due are carried
abbrev CarriedParts : After-carry → Type 0
CarriedParts c =
    let n = c.self.inside in
    let all = merged n.news.done n.places.items n.carried.items in
    IsParted c.args.horizon c.args.cut.now all c.carry.new.news.done c.carry.new.self.items c.due_in-carried.result

carried-parts : (c : After-carry) → CarriedParts c
carried-parts c =
    let n = c.self.inside in
    let h = c.args.horizon in
    let cut = c.args.cut.now in
    let p = c.self.invariant in
    let k = c.due_in-carried in
    let new = c.carry.new in
    let carry = c.carry.ensures in
    let count = count-due h cut n.carried.items k.result k.ensures.within k.ensures.taken in
    parted h cut n.news.done n.places.items n.carried.items new.news.done new.places.items new.self.items k.result p.long carry.can.long p.ordered carry.same
    (carry.done ∙ c.due-news.ensures.taken) c.tells.ensures.ordered count

pub hand_out-requires-clause-went : goal.hand_out-requires-clause-went
hand_out-requires-clause-went c =
    let n = c.self.inside in
    let at = (goal.at.hand_out-requires-clause-went c).After-due_in-carried in
    let x = parts at (omega (arith, c.len.ensures)) in
    news-went c.args.horizon c.args.cut.now (whole at) n.news.done n.carried.items c.due_in-carried.result x (went at)

pub hand_out-requires-clause-long : goal.hand_out-requires-clause-long
hand_out-requires-clause-long c =
    c.requires.long ∙ sym (ap (λ (v : ProcessedView). v.nodes) c.self.view_is)

pub send_out-requires-clause-went : goal.send_out-requires-clause-went
send_out-requires-clause-went c =
    let at = goal.at.send_out-requires-clause-went c in
    let new = c.carry.new in
    let x = carried-parts at.After-carry in
    news-went c.args.horizon c.args.cut.now (whole at.After-due_in-carried) new.news.done new.self.items c.due_in-carried.result x (went at.After-due_in-carried)

pub send_out-requires-clause-long : goal.send_out-requires-clause-long
send_out-requires-clause-long c =
    c.requires.long ∙ sym (ap (λ (v : ProcessedView). v.nodes) c.self.view_is) ∙ sym c.carry.ensures.nodes

-- so much is told of the news that are due, and first
told-first : (c : After-send_out) → length (told_all c.carry.new.news.done) ≡ c.due-news.result → take c.due-news.result c.send_out.new.self.gone ≡ told_all c.carry.new.news.done
told-first c long =
    let new = c.carry.new.news in
    ap (take c.due-news.result) c.send_out.ensures.gone ∙ take_at (told_all new.done) new.gone c.due-news.result long

-- as many as are due
counted : (c : After-carry) → length c.carry.new.news.done ≡ c.due-news.result
counted c =
    let taken = ap length c.carry.ensures.done in
    let some = length-take c.due-news.result c.self.inside.news.done in
    omega (arith, c.due-news.ensures.within)

pub commit_first-requires : goal.commit_first-requires
commit_first-requires c =
    let at = goal.at.commit_first-requires c in
    let h = c.args.horizon in
    let cut = c.args.cut.now in
    let k = c.due_in-carried.result in
    let all = whole at.After-due_in-carried in
    let good = went at.After-due_in-carried in
    let new = c.carry.new in
    let ds = new.news.done in
    let items = new.self.items in
    let x = carried-parts at.After-carry in
    let long = told-long h cut all ds items k x good ∙ counted at.After-carry in
    let told_is = ap (take c.due-news.result) c.told.ensures ∙ told-first at.After-send_out long in
    let gone = ap length (c.told.ensures ∙ c.send_out.ensures.gone) in
    let two = length-append (told_all ds) new.news.gone in
    let A : List (Key × Note) → Type 0 = λ ts. Each (λ (q : Placed). times told_key (placed_key q) ts ≡ 0) (take k items) in
    let K : Event → Type 0 = λ e. e.key.dest < length c.args.homes.now in
    let V : ProcessedView → Type 0 = λ v. Each K (held_of (due_of h cut (dones_in v.items))) in
    let H : ℕ → Type 0 = λ m. Each (λ home. home < m) c.args.homes.now in
    let nodes = c.send_out.ensures.long ∙ c.carry.ensures.nodes ∙ ap (λ (v : ProcessedView). v.nodes) c.self.view_is in
    record {
      count = omega arith;
      ordered = subst (Ascends told_key) (sym told_is) (told-low h cut all ds items k x good);
      due = x.within;
      apart = subst A (sym told_is) (told-apart h cut all ds items k x good);
      went = first-went h cut all ds items k x good;
      room = omega (arith, c.in-Ok.ensures.room);
      known = first-held h cut all ds items k x K (subst V (sym c.self.view_is) c.requires.due.known);
      homes = subst H (sym nodes) c.requires.due.homes_in;
      few = λ to.
          let held = ap (λ (v : ProcessedView). length (held_of (dones_in v.items))) c.self.view_is in
          let few = few-held h cut all ds items k x (omega (arith, held, c.requires.due.few_held)) in
          let own = ap length (c.send_out.ensures.parcels to) in
          let most = parcel-most to new.news.sent ds c.tells-2.ensures.sent in
          omega arith;
    }

pub invariant_of-self : goal.invariant_of-self
invariant_of-self c =
    let n = c.self.inside in
    handed-processed c.clear.new.self.items c.hand_out.new.self n.carried n.cells c.clear.ensures.items c.hand_out.ensures.done c.hand_out.ensures.gone
    (weave-below placed_key (placed_all n.news.done n.places.items) n.carried.items c.self.invariant.ordered)

pub returns-then-news-len : goal.returns-then-news-len
returns-then-news-len c =
    let n = c.self.inside in
    let h = c.args.horizon in
    let cut = c.args.cut.now in
    let homes = c.args.homes.now in
    let out = c.hand_out in
    let at = (goal.at.returns-then-news-len c).After-due_in-carried in
    let x = parts at (omega (arith, c.len.ensures)) in
    let now = processed_view c.clear.new.self.items out.new.self n.carried in
    let V : ProcessedView → Type 0 = λ v. HasCommittedDue homes h cut v now out.new.done.items out.new.chains.items in
    let H : ProcessedView → Type 0 = λ v. AreHomed homes v.chained in
    let none : c.due_in-carried.result ≡ 0 = omega arith in
    let left = merged-none out.new.self.done c.clear.new.self.items n.carried.items out.ensures.done ∙ ap (λ m. drop m n.carried.items) (sym none) in
    record {
      ok = subst V c.self.view_is
          (commits-news homes h cut (processed_view n.places.items n.news n.carried) now n.news.done n.carried.items c.due_in-carried.result n.news.sent [] x (went at)
          (sym (append-nil n.news.sent)) (subst H (sym c.self.view_is) c.requires.due.homed) c.tells.ensures.sent left out.ensures.done out.ensures.sent
          out.new.done.items out.new.chains.items none out.ensures.told out.ensures.parcels);
      err = tt;
      told = tt;
      blank = tt;
      long = out.ensures.long ∙ ap (λ (v : ProcessedView). v.nodes) c.self.view_is;
      nodes = out.ensures.nodes ∙ ap (λ (v : ProcessedView). v.nodes) c.self.view_is;
    }

pub invariant_of-self-2 : goal.invariant_of-self-2
invariant_of-self-2 c =
    let at = goal.at.invariant_of-self-2 c in
    let stays = λ (q : Placed). not (is_due c.args.horizon c.args.cut.now (placed_key q)) in
    let left = c.commit_first.ensures.left ∙ sym (carried-parts at.After-carry).left in
    let news = c.forget.ensures in
    handed-processed c.clear-2.new.self.items c.forget.new.self c.commit_first.new.carried c.commit_first.new.cells c.clear-2.ensures.items
    (ap (λ (v : NewsView). v.done) news ∙ c.send_out.ensures.done) (ap (λ (v : NewsView). v.gone) news)
    (subst (Ascends placed_key) (sym left) (Ascends-filter placed_key stays (whole at.After-due_in-carried) c.self.invariant.ordered))

pub returns : goal.returns
returns c =
    let at = goal.at.returns c in
    let n = c.self.inside in
    let h = c.args.horizon in
    let cut = c.args.cut.now in
    let homes = c.args.homes.now in
    let k = c.due_in-carried.result in
    let new = c.carry.new in
    let ds = new.news.done in
    let items = new.self.items in
    let first = c.commit_first in
    let good = went at.After-due_in-carried in
    let x = carried-parts at.After-carry in
    let long = told-long h cut (whole at.After-due_in-carried) ds items k x good ∙ counted at.After-carry in
    let told_is = ap (take c.due-news.result) c.told.ensures ∙ told-first at.After-send_out long in
    let news = c.forget.ensures in
    let now = processed_view c.clear-2.new.self.items c.forget.new.self first.new.carried in
    let V : ProcessedView → Type 0 = λ v. HasCommittedDue homes h cut v now first.new.told.items first.new.out.items in
    let H : ProcessedView → Type 0 = λ v. AreHomed homes v.chained in
    let same_told : c.reserve.new.self.items ≡ [] = c.reserve.ensures.same ∙ c.requires.told in
    let no_news = ap (λ (v : NewsView). v.done) news ∙ c.send_out.ensures.done in
    let left = merged-none c.forget.new.self.done c.clear-2.new.self.items first.new.carried.items no_news ∙ first.ensures.left in
    let nodes = c.carry.ensures.nodes ∙ ap (λ (v : ProcessedView). v.nodes) c.self.view_is in
    record {
      ok = subst V c.self.view_is
          (commits-due homes h cut (processed_view n.places.items n.news n.carried) now ds items k new.news.sent c.carry.ensures.sent.0 x good c.carry.ensures.sent.1
          (subst H (sym c.self.view_is) c.requires.due.homed) c.tells-2.ensures.sent left no_news (ap (λ (v : NewsView). v.sent) news ∙ c.send_out.ensures.sent)
          first.new.told.items first.new.out.items
          (first.ensures.told ∙ (λ i. (same_told i) ++ weave told_key (told_is i) (told_all (dones_in (take k items)))))
          (λ to. first.ensures.sent to ∙ ap (λ es. es ++ filter (goes_to (slice_index homes) to) (held_of (dones_in (take k items)))) (c.send_out.ensures.parcels to)));
      err = tt;
      told = tt;
      blank = tt;
      long = first.ensures.long ∙ c.send_out.ensures.long ∙ nodes;
      nodes = ap (λ (v : NewsView). v.nodes) news ∙ c.send_out.ensures.nodes ∙ nodes;
    }

pub returns-in_default : goal.returns-in_default
returns-in_default c = record {
  ok = tt;
  err = refl;
  told = c.reserve.ensures.same ∙ c.requires.told;
  blank = c.requires.blank;
  long = c.requires.long;
  nodes = refl;
}
