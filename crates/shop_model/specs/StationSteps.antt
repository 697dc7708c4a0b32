-- Single changes of the cells of a station that keep what is lawful: words, and the servers that serve nobody.
use Rattle.std.proofs.Common.{◌≡◌, ◌≢◌, ℕ, ◌-◌, ◌<◌, ◌≤◌, true, List, [], ◌∷◌, ◌++◌, length, get_or, take, refl, ap, sym, ◌∙◌, subst, ⊎_elim}
use Rattle.std.proofs.Common.{length-append, get_or-set_same, get_or-set_other, arith}
use Rattle.std.specs.Prelude.{All, count_by, nat_lt, slice_set, slice_index}
use Rattle.std.proofs.lemmas.Bool.{cases_eq, lt-ltb}
use Rattle.std.proofs.lemmas.List.{length-set, length-take-le}
use Rattle.std.proofs.lemmas.List.Elements.{All-push, All-take}
use Rattle.delta_exchange.specs.declared.change.Change.TheVariants.{Set, Push, Unpush}
use Rattle.delta_exchange.specs.Changes.{CellData, line_of, with_line}
use Rattle.shop_model.specs.declared.levels.TheConstants.{EMPTY}
use Rattle.shop_model.specs.declared.routes.Routes.{Routes}
use Rattle.shop_model.specs.declared.station.Station.{Station}
use Rattle.shop_model.specs.declared.station.TheConstants.{OPEN, HELD, WAITING, DOWN, FREE_SERVERS}
use Rattle.shop_model.specs.Stations.{counts_of, waiting_at, jobs_line, births_line, since_line, until_line}
use Rattle.shop_model.specs.Keeping.{Keeps, keeps_one}
use Rattle.shop_model.specs.LevelSums.{sum_same}
use Rattle.shop_model.specs.Lawful.{IsLevelOf, IsLawful, level_of_lists}

-- lawful cells with so many held servers, and these that serve nobody
pub record Stands (object : ℕ) (routes : Routes) (station : Station) (holding : ℕ) (idle : List ℕ) (cells : CellData) : Type 0 where
  pub lawful : IsLawful object routes station cells
  pub held : (counts_of cells).held ≡ holding
  pub servers : line_of cells FREE_SERVERS ≡ idle

-- a word read after a word is set
pub read_word : (words : List ℕ) (word value at : ℕ) (P : ℕ → Type 0) → word < length words → (word ≡ at → P value)
    → (word ≢ at → P (slice_index words at))
    → P (slice_index (slice_set words word value) at)
read_word words word value at P there same other = ⊎_elim is is_not (cases_eq word at)
  where
    is : word ≡ at → P (slice_index (slice_set words word value) at)
    is e = subst (λ k. P (get_or (slice_set words word value) k 0)) e (subst P (sym (get_or-set_same words word value 0 there)) (same e))

    is_not : word ≢ at → P (slice_index (slice_set words word value) at)
    is_not ne = subst P (sym (get_or-set_other words word at value 0 (λ e. ne (sym e)))) (other ne)

-- other words beside the same lines
level_as : (object : ℕ) (routes : Routes) (cells : CellData) (words : List ℕ) (level : ℕ) → IsLevelOf object routes cells level
    → IsLevelOf object routes (record cells { words = words }) level
level_as object routes cells words level is =
    record { births = is.births; since = is.since; until = is.until; entries = is.entries; early = is.early }

words_as : (object : ℕ) (routes : Routes) (station : Station) (cells : CellData) (words : List ℕ) → IsLawful object routes station cells
    → length words ≡ length cells.words → slice_index words OPEN ≤ station.most → slice_index words HELD ≤ (counts_of cells).free
    → slice_index words WAITING ≡ (counts_of cells).waiting → slice_index words DOWN ≤ 1
    → IsLawful object routes station (record cells { words = words })
unfolding waiting_at
words_as object routes station cells words is as_long opened held waiting down = record {
  words = as_long ∙ is.words;
  lines = is.lines;
  levels = λ level below. level_as object routes cells words level (is.levels level below);
  opened = opened;
  held = held;
  free = is.free;
  servers = is.servers;
  down = down;
  waiting = waiting ∙ is.waiting;
  few = omega (arith, is.few);
}

-- a word is set to a value that it may have
set_word : (object : ℕ) (routes : Routes) (station : Station) (held : ℕ) (servers : List ℕ) (word value later : ℕ) (cells : CellData)
    → Stands object routes station held servers cells → word < length cells.words
    → (word ≡ OPEN → value ≤ station.most) → (word ≡ HELD → value ≤ length servers) → word ≢ WAITING → (word ≡ DOWN → value ≤ 1)
    → (word ≡ HELD → value ≡ later) → (word ≢ HELD → held ≡ later)
    → Keeps (Stands object routes station later servers) (Set word value ∷ []) cells
set_word object routes station held servers word value later cells is there opened holds waits down now stays =
    keeps_one (Stands object routes station later servers) (Set word value) cells there (record {
      lawful = words_as object routes station cells (slice_set cells.words word value) is.lawful
          (length-set cells.words word value)
          (read_word cells.words word value OPEN (λ n. n ≤ station.most) there opened (λ other. is.lawful.opened))
          (read_word cells.words word value HELD (λ n. n ≤ (counts_of cells).free) there (λ e. omega (arith, holds e, ap length is.servers))
          (λ other. is.lawful.held))
          (read_word cells.words word value WAITING (λ n. n ≡ (counts_of cells).waiting) there (λ e. absurd (waits e)) (λ other. refl))
          (read_word cells.words word value DOWN (λ n. n ≤ 1) there down (λ other. is.lawful.down));
      held = read_word cells.words word value HELD (λ n. n ≡ later) there now (λ other. is.held ∙ stays other);
      servers = is.servers;
    })

-- the random place, a mark, or how many entries went out
pub set_other : (object : ℕ) (routes : Routes) (station : Station) (held : ℕ) (servers : List ℕ) (word value : ℕ) (cells : CellData)
    → Stands object routes station held servers cells → word < length cells.words → word ≢ OPEN → word ≢ HELD → word ≢ WAITING → word ≢ DOWN
    → Keeps (Stands object routes station held servers) (Set word value ∷ []) cells
set_other object routes station held servers word value cells is there no_open no_held no_waiting no_down =
    set_word object routes station held servers word value held cells is there (λ e. absurd (no_open e)) (λ e. absurd (no_held e)) no_waiting
    (λ e. absurd (no_down e)) (λ e. absurd (no_held e)) (λ other. refl)

pub set_open : (object : ℕ) (routes : Routes) (station : Station) (held : ℕ) (servers : List ℕ) (value : ℕ) (cells : CellData)
    → Stands object routes station held servers cells → value ≤ station.most
    → Keeps (Stands object routes station held servers) (Set OPEN value ∷ []) cells
set_open object routes station held servers value cells is few =
    set_word object routes station held servers OPEN value held cells is (omega (arith, is.lawful.words)) (λ e. few) (λ e. absurd (omega arith))
    (λ e. absurd (omega arith))
    (λ e. absurd (omega arith)) (λ e. absurd (omega arith)) (λ other. refl)

pub set_down : (object : ℕ) (routes : Routes) (station : Station) (held : ℕ) (servers : List ℕ) (value : ℕ) (cells : CellData)
    → Stands object routes station held servers cells → value ≤ 1 → Keeps (Stands object routes station held servers) (Set DOWN value ∷ []) cells
set_down object routes station held servers value cells is few =
    set_word object routes station held servers DOWN value held cells is (omega (arith, is.lawful.words)) (λ e. absurd (omega arith))
    (λ e. absurd (omega arith)) (λ e. absurd (omega arith))
    (λ e. few) (λ e. absurd (omega arith)) (λ other. refl)

pub set_held : (object : ℕ) (routes : Routes) (station : Station) (held : ℕ) (servers : List ℕ) (value : ℕ) (cells : CellData)
    → Stands object routes station held servers cells → value ≤ length servers
    → Keeps (Stands object routes station value servers) (Set HELD value ∷ []) cells
set_held object routes station held servers value cells is few =
    set_word object routes station held servers HELD value value cells is (omega (arith, is.lawful.words)) (λ e. absurd (omega arith)) (λ e. few)
    (λ e. absurd (omega arith))
    (λ e. absurd (omega arith)) (λ e. refl) (λ other. absurd (other refl))

-- other servers serve nobody, beside the same levels
free_line : (cells : CellData) (servers : List ℕ) (line : ℕ) → line ≢ 0 → line_of (with_line cells FREE_SERVERS servers) line ≡ line_of cells line
free_line cells servers line other = get_or-set_other cells.lines 0 line servers [] other

free_level : (object : ℕ) (routes : Routes) (cells : CellData) (servers : List ℕ) (level : ℕ) → IsLevelOf object routes cells level
    → IsLevelOf object routes (with_line cells FREE_SERVERS servers) level
free_level object routes cells servers level is =
    level_of_lists object routes (with_line cells FREE_SERVERS servers) level
    (line_of cells (jobs_line level)) (line_of cells (births_line level)) (line_of cells (since_line level)) (line_of cells (until_line level))
    (free_line cells servers (jobs_line level) (λ e. absurd (omega arith))) (free_line cells servers (births_line level) (λ e. absurd (omega arith)))
    (free_line cells servers (since_line level) (λ e. absurd (omega arith))) (free_line cells servers (until_line level) (λ e. absurd (omega arith)))
    is.births is.since is.until is.entries is.early

free_waiting : (cells : CellData) (servers : List ℕ) (level : ℕ) → waiting_at (with_line cells FREE_SERVERS servers) level ≡ waiting_at cells level
unfolding waiting_at
free_waiting cells servers level =
    ap (λ xs. count_by (λ a. nat_lt a EMPTY) xs) (free_line cells servers (jobs_line level) (λ e. absurd (omega arith)))

servers_as : (object : ℕ) (routes : Routes) (station : Station) (held : ℕ) (before servers : List ℕ) (cells : CellData)
    → Stands object routes station held before cells → held ≤ length servers → length servers ≤ station.most
    → All (λ server. nat_lt server station.most ≡ true) servers → Stands object routes station held servers (with_line cells FREE_SERVERS servers)
servers_as object routes station held before servers cells is holds few below =
    let read : line_of (with_line cells FREE_SERVERS servers) FREE_SERVERS ≡ servers =
    get_or-set_same cells.lines 0 servers [] (omega (arith, is.lawful.lines)) in
    record {
      lawful = record {
        words = is.lawful.words;
        lines = length-set cells.lines 0 servers ∙ is.lawful.lines;
        levels = λ level at. free_level object routes cells servers level (is.lawful.levels level at);
        opened = is.lawful.opened;
        held = omega (arith, holds, is.held, ap length read);
        free = omega (arith, few, ap length read);
        servers = subst (λ xs. All (λ server. nat_lt server station.most ≡ true) xs) (sym read) below;
        down = is.lawful.down;
        waiting = is.lawful.waiting ∙ sym (sum_same (λ level. waiting_at cells level)
            (λ level. waiting_at (with_line cells FREE_SERVERS servers) level) station.levels (λ level. free_waiting cells servers level));
        few = is.lawful.few;
      };
      held = is.held;
      servers = read;
    }

-- a server that is free serves nobody
pub push_server : (object : ℕ) (routes : Routes) (station : Station) (held : ℕ) (servers : List ℕ) (server : ℕ) (cells : CellData)
    → Stands object routes station held servers cells → length servers < station.most → server < station.most
    → Keeps (Stands object routes station held (servers ++ server ∷ [])) (Push FREE_SERVERS server ∷ []) cells
push_server object routes station held servers server cells is few below =
    keeps_one (Stands object routes station held (servers ++ server ∷ [])) (Push FREE_SERVERS server) cells (omega (arith, is.lawful.lines))
    (subst (λ xs. Stands object routes station held (xs ++ server ∷ []) (with_line cells FREE_SERVERS (line_of cells FREE_SERVERS ++ server ∷ [])))
    is.servers
    (servers_as object routes station held servers (line_of cells FREE_SERVERS ++ server ∷ []) cells is
    (omega (arith, is.lawful.held, is.held, length-append (line_of cells FREE_SERVERS) (server ∷ [])))
    (omega (arith, few, ap length is.servers, length-append (line_of cells FREE_SERVERS) (server ∷ [])))
    (All-push (λ server. nat_lt server station.most ≡ true) (line_of cells FREE_SERVERS) server is.lawful.servers (lt-ltb _ _ below))))

-- the last one that serves nobody begins a job, where more serve nobody than are held
pub unpush_server : (object : ℕ) (routes : Routes) (station : Station) (held : ℕ) (servers : List ℕ) (cells : CellData)
    → Stands object routes station held servers cells → held < length servers
    → Keeps (Stands object routes station held (take (length servers - 1) servers)) (Unpush FREE_SERVERS ∷ []) cells
unpush_server object routes station held servers cells is some =
    keeps_one (Stands object routes station held (take (length servers - 1) servers)) (Unpush FREE_SERVERS) cells
    (omega (arith, is.lawful.lines), omega (arith, ap length is.servers))
    (subst (λ xs. Stands object routes station held (take (length xs - 1) xs)
    (with_line cells FREE_SERVERS (take (length (line_of cells FREE_SERVERS) - 1) (line_of cells FREE_SERVERS)))) is.servers
    (servers_as object routes station held servers (take (length (line_of cells FREE_SERVERS) - 1) (line_of cells FREE_SERVERS)) cells is
    (omega (arith, some, ap length is.servers, length-take-le (length (line_of cells FREE_SERVERS) - 1) (line_of cells FREE_SERVERS) (omega arith)))
    (omega (arith, is.lawful.free, length-take-le (length (line_of cells FREE_SERVERS) - 1) (line_of cells FREE_SERVERS) (omega arith)))
    (All-take (λ server. nat_lt server station.most ≡ true) (length (line_of cells FREE_SERVERS) - 1)
    (line_of cells FREE_SERVERS) is.lawful.servers)))
