-- How many servers are busy beside those that are open.
use Rattle.shop_draw_laws.proofs.ShiftsLaw.{busy_rises_within, busy_within_servers}
use Rattle.shop_draw_laws.proofs.shifts.law_shifts.Goals as goal

pub returns : goal.returns
returns c = record { rises = busy_rises_within; within = busy_within_servers }
