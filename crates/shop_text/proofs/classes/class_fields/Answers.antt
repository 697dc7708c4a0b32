use Rattle.std.proofs.Common.{refl}
use Rattle.shop_text.specs.ClassTexts.{class_fields}
use Rattle.shop_text.proofs.classes.class_fields.Goals as goal

pub returns-clause-read : goal.returns-clause-read
unfolding class_fields
returns-clause-read c = rw (c.in_ok-arrivals.ensures.read, c.in_ok-urgency.ensures.read, c.class_with.ensures, c.in_ok-name.ensures, c.as_bytes.ensures.value) refl

pub returns-clause-in_range : goal.returns-clause-in_range
returns-clause-in_range c =
    let arrivals = c.in_ok-arrivals.ensures.in_range in
    rw c.class_with.ensures
    (record {
      every = arrivals.every;
      first = arrivals.window.first;
      until = arrivals.window.until;
      times = arrivals.times;
      batch = arrivals.batches.batch;
      some = arrivals.batches.some;
      few = arrivals.batches.few;
      priority = c.in_ok-urgency.ensures.priority;
      due = c.in_ok-urgency.ensures.due;
    })
