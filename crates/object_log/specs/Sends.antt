-- What a processed event sends.
use Rattle.std.specs.Prelude.{ℕ}
use Rattle.event_key.specs.declared.stamp.TheConstants.{NO_STAMP}
use Rattle.key_order.specs.Stamps.{least_stamp}
use Rattle.object_log.specs.Dones.{Done}

-- the least stamp that it sends, or NO_STAMP
abbrev pub least_of : Done → ℕ
least_of d = least_stamp NO_STAMP d.sends
