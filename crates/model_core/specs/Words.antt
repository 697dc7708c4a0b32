-- The words of records and those of faults: the text of each, by the number with which a model tells it.
use Rattle.std.specs.Prelude.{ℕ, ◌==◌, List, Option, Some, None, codes, if◌then◌else◌}
use Rattle.model_core.specs.declared.words.TheConstants.{HOP_WORD, MADE_WORD, TAKEN_WORD, WAITING_WORD, LOST_WORD, DONE_WORD, HELD_WORD, ROUTED_WORD, LEFT_WORD, LOAD_WORD, LEVEL_WORD, DELAYED_WORD, WENT_WORD, DROPPED_WORD, OVERDUE_WORD, CALLED_WORD, FREED_WORD, RENEGED_WORD, OPENED_WORD, DOWN_WORD, UP_WORD, ENDLESS_CHAIN, LINE_FULL, LATE}

abbrev pub record_word : ℕ → Option (List ℕ)
record_word number =
    if number == HOP_WORD then Some (codes "hop")
    else if number == MADE_WORD then Some (codes "make")
    else if number == TAKEN_WORD then Some (codes "take")
    else if number == WAITING_WORD then Some (codes "wait")
    else if number == LOST_WORD then Some (codes "lose")
    else if number == DONE_WORD then Some (codes "done")
    else if number == HELD_WORD then Some (codes "hold")
    else if number == ROUTED_WORD then Some (codes "route")
    else if number == LEFT_WORD then Some (codes "leave")
    else if number == LOAD_WORD then Some (codes "load")
    else if number == LEVEL_WORD then Some (codes "level")
    else if number == DELAYED_WORD then Some (codes "delay")
    else if number == WENT_WORD then Some (codes "go")
    else if number == DROPPED_WORD then Some (codes "drop")
    else if number == OVERDUE_WORD then Some (codes "late")
    else if number == CALLED_WORD then Some (codes "call")
    else if number == FREED_WORD then Some (codes "free")
    else if number == RENEGED_WORD then Some (codes "renege")
    else if number == OPENED_WORD then Some (codes "open")
    else if number == DOWN_WORD then Some (codes "down")
    else if number == UP_WORD then Some (codes "up")
    else None

abbrev pub fault_word : ℕ → Option (List ℕ)
fault_word code =
    if code == ENDLESS_CHAIN then Some (codes "chain")
    else if code == LINE_FULL then Some (codes "line-full")
    else if code == LATE then Some (codes "late")
    else None
