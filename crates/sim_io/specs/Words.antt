-- The words of the command line: what they set, or what is wrong with them.
use Rattle.std.specs.Prelude.{◌≤◌, ℕ, Bool, true, false, not, ◌&&◌, List, [], ◌∷◌, length, Option, Some, None, IfSome, is_some, unwrap_or, Result, Ok, Err, if◌then◌else◌, codes, bytes_eq, nat_eq, nat_le, nat_lt, String, string_bytes, map}
use Rattle.std.specs.Char.{is_ascii_digit}
use Rattle.std.specs.List.{list_all, starts_with}
use Rattle.std.specs.Str.Parse.{digits_value}
use Rattle.std.specs.declared.alloc.Global.{Global}
use Rattle.sim_io.specs.declared.words.TheConstants.{DEFAULT_AHEAD, DEFAULT_NODES, MOST_SAVED_CYCLES}
use Rattle.model_core.specs.declared.limits.TheConstants.{MOST_AHEAD, MOST_DEMO_STATIONS, MOST_NODES}
use Rattle.sim_io.specs.declared.words.commands.Command.{Command}
use Rattle.sim_io.specs.declared.words.commands.CommandOption.{CommandOption}
use Rattle.sim_io.specs.declared.words.commands.CommandOption.TheVariants.{Cycles, Valued}
use Rattle.sim_io.specs.declared.words.commands.ValuedOption.{ValuedOption}
use Rattle.sim_io.specs.declared.words.moves.Moves.{Moves}
use Rattle.sim_io.specs.declared.words.options.GivenOptions.{GivenOptions}
use Rattle.sim_io.specs.declared.words.Settings.{Settings}
use Rattle.sim_io.specs.declared.words.WordFault.{WordFault}
use Rattle.sim_io.specs.declared.words.WordFault.TheVariants.{NoCommand, UnknownCommand, UnknownOption, RepeatedOption, MissingValue, BadValue, ExtraWord}
use Rattle.sim_spec.specs.declared.placement.Placement.{Placement}

abbrev pub has_zero_first : List ℕ → Bool
has_zero_first digits = nat_lt 1 (length digits) && starts_with nat_eq digits (codes "0")

-- some digits, and no zero before others
abbrev pub is_decimal : List ℕ → Bool
is_decimal digits = nat_lt 0 (length digits) && not (has_zero_first digits)

-- one to nineteen digits, and no zero before others
abbrev pub is_number : List ℕ → Bool
is_number word = is_decimal word && nat_le (length word) 19 && list_all is_ascii_digit word

-- the number that a word writes, if it lies between two
abbrev pub number_within : ℕ → ℕ → List ℕ → Result ℕ WordFault
number_within least most word =
    if is_number word && nat_le least (digits_value 10 word) && nat_le (digits_value 10 word) most then Ok (digits_value 10 word) else Err BadValue

abbrev pub placement_named : List ℕ → Result Placement WordFault
placement_named word =
    if bytes_eq word (codes "round") then Ok Placement.Round
    else if bytes_eq word (codes "block") then Ok Placement.Block
    else Err BadValue

abbrev pub moves_named : List ℕ → Result Moves WordFault
moves_named word =
    if bytes_eq word (codes "load") then Ok Moves.Load
    else if bytes_eq word (codes "turn") then Ok Moves.Turn
    else Err BadValue

abbrev pub command_named : List ℕ → Option Command
command_named word =
    if bytes_eq word (codes "run") then Some Command.Run
    else if bytes_eq word (codes "one") then Some Command.One
    else if bytes_eq word (codes "totals") then Some Command.Totals
    else if bytes_eq word (codes "demo") then Some Command.Demo
    else if bytes_eq word (codes "save") then Some Command.Save
    else if bytes_eq word (codes "resume") then Some Command.Resume
    else None

-- `--cycles` stands alone, and each other option takes the next word as its value
abbrev pub option_named : List ℕ → Option CommandOption
option_named word =
    if bytes_eq word (codes "--cycles") then Some Cycles
    else if bytes_eq word (codes "--nodes") then Some (Valued ValuedOption.Nodes)
    else if bytes_eq word (codes "--ahead") then Some (Valued ValuedOption.Ahead)
    else if bytes_eq word (codes "--placement") then Some (Valued ValuedOption.Placement)
    else if bytes_eq word (codes "--workers") then Some (Valued ValuedOption.Workers)
    else if bytes_eq word (codes "--moves") then Some (Valued ValuedOption.Moves)
    else None

-- `one` takes no option that says how nodes are used, and other commands than `run` and `one` take none
abbrev pub takes : Command → CommandOption → Bool
takes Command.Run option = true
takes Command.One Cycles = true
takes Command.One option = false
takes Command.Totals option = false
takes Command.Demo option = false
takes Command.Save option = false
takes Command.Resume option = false

-- the option of a command that a word names
abbrev pub option_if : Command → Option CommandOption → Option CommandOption
option_if command None = None
option_if command (Some option) = if takes command option then Some option else None

abbrev pub option_of : Command → List ℕ → Option CommandOption
option_of command word = option_if command (option_named word)

-- a word that stands for nothing
abbrev pub stray_word : List ℕ → WordFault
stray_word word = if starts_with nat_eq word (codes "-") then UnknownOption else ExtraWord

abbrev pub and_then : {T U : Type 0} → Result T WordFault → (T → Result U WordFault) → Result U WordFault
and_then (Ok value) next = next value
and_then (Err fault) next = Err fault

abbrev pub no_options : GivenOptions
no_options = record { nodes = None; ahead = None; placement = None; cycles = false; workers = None; moves = None; waiting = None }

abbrev pub is_given : GivenOptions → CommandOption → Bool
is_given given Cycles = given.cycles
is_given given (Valued ValuedOption.Nodes) = is_some given.nodes
is_given given (Valued ValuedOption.Ahead) = is_some given.ahead
is_given given (Valued ValuedOption.Placement) = is_some given.placement
is_given given (Valued ValuedOption.Workers) = is_some given.workers
is_given given (Valued ValuedOption.Moves) = is_some given.moves

-- what is given with an option more, which may wait for its value
abbrev pub with_option : GivenOptions → CommandOption → GivenOptions
with_option given Cycles = record given { cycles = true }
with_option given (Valued option) = record given { waiting = Some option }

-- what is given with the value of an option
abbrev pub with_value : GivenOptions → ValuedOption → List ℕ → Result GivenOptions WordFault
with_value given ValuedOption.Nodes word = and_then (number_within 1 MOST_NODES word) (λ nodes. Ok (record given { nodes = Some nodes; waiting = None }))
with_value given ValuedOption.Ahead word = and_then (number_within 0 MOST_AHEAD word) (λ ahead. Ok (record given { ahead = Some ahead; waiting = None }))
with_value given ValuedOption.Placement word = and_then (placement_named word) (λ placement. Ok (record given { placement = Some placement; waiting = None }))
with_value given ValuedOption.Workers word = and_then (number_within 1 MOST_NODES word) (λ workers. Ok (record given { workers = Some workers; waiting = None }))
with_value given ValuedOption.Moves word = and_then (moves_named word) (λ moves. Ok (record given { moves = Some moves; waiting = None }))

-- a word that isn't a value has to be an option of the command, and one that isn't given yet
abbrev pub option_begun : GivenOptions → Option CommandOption → List ℕ → Result GivenOptions WordFault
option_begun given None word = Err (stray_word word)
option_begun given (Some option) word = if is_given given option then Err RepeatedOption else Ok (with_option given option)

-- what a word says if this option waits for its value, or none does
abbrev pub word_meant : Command → GivenOptions → Option ValuedOption → List ℕ → Result GivenOptions WordFault
word_meant command given (Some waiting) word = with_value given waiting word
word_meant command given None word = option_begun given (option_of command word) word

abbrev pub with_word : Command → GivenOptions → List ℕ → Result GivenOptions WordFault
with_word command given word = word_meant command given given.waiting word

-- at the end of the words no option may wait for its value
abbrev pub all_given : GivenOptions → Result GivenOptions WordFault
all_given given = if is_some given.waiting then Err MissingValue else Ok given

-- the words after a command are taken in turn, and each says something more, until one is faulty
abbrev pub options_read : Command → GivenOptions → List (List ℕ) → Result GivenOptions WordFault
options_read command given [] = all_given given
options_read command given (word ∷ rest) = and_then (with_word command given word) (λ next. options_read command next rest)

abbrev pub options_of : Command → List (List ℕ) → Result GivenOptions WordFault
options_of command words = options_read command no_options words

-- what the options of a run set
abbrev pub run_settings : GivenOptions → Settings
run_settings given = Settings.Run
    (unwrap_or given.nodes DEFAULT_NODES) (unwrap_or given.ahead DEFAULT_AHEAD) (unwrap_or given.placement Placement.Round)
    given.cycles given.workers given.moves

-- one word follows, which is a number between two and is judged first
abbrev pub number_alone : ℕ → List (List ℕ) → Result ℕ WordFault
number_alone number [] = Ok number
number_alone number (word ∷ rest) = Err ExtraWord

abbrev pub only_number : ℕ → ℕ → List (List ℕ) → Result ℕ WordFault
only_number least most [] = Err MissingValue
only_number least most (word ∷ rest) = and_then (number_within least most word) (λ number. number_alone number rest)

-- the numbers that options say lie between those that they may say
abbrev pub AreGivenInBounds : GivenOptions → Type 0
AreGivenInBounds given = IfSome given.nodes (λ nodes. (1 ≤ nodes) × (nodes ≤ MOST_NODES)) × IfSome given.ahead (λ ahead. ahead ≤ MOST_AHEAD)
    × IfSome given.workers (λ many. (1 ≤ many) × (many ≤ MOST_NODES))

-- a run has 1 to 64 nodes, which process at most 1,024 events more than they must, and 1 to 64 workers if any; a demo's number is 1 to 256,
-- and at most 9,999,999 cycles come before a saved state
abbrev pub AreInBounds : Settings → Type 0
AreInBounds (Settings.Run nodes ahead placement cycles workers moves) =
    (1 ≤ nodes) × (nodes ≤ MOST_NODES) × (ahead ≤ MOST_AHEAD) × IfSome workers (λ many. (1 ≤ many) × (many ≤ MOST_NODES))
AreInBounds (Settings.One cycles) = Unit {0}
AreInBounds Settings.Totals = Unit {0}
AreInBounds (Settings.Demo n) = (1 ≤ n) × (n ≤ MOST_DEMO_STATIONS)
AreInBounds (Settings.Save c) = c ≤ MOST_SAVED_CYCLES
AreInBounds Settings.Resume = Unit {0}

-- what a command sets by the words after it, which are its options, or the one number of a demo or of cycles before a saved state
abbrev pub command_settings : Command → List (List ℕ) → Result Settings WordFault
command_settings Command.Run words = and_then (options_of Command.Run words) (λ given. Ok (run_settings given))
command_settings Command.One words = and_then (options_of Command.One words) (λ given. Ok (Settings.One given.cycles))
command_settings Command.Totals words = and_then (options_of Command.Totals words) (λ _. Ok Settings.Totals)
command_settings Command.Demo words = and_then (only_number 1 MOST_DEMO_STATIONS words) (λ n. Ok (Settings.Demo n))
command_settings Command.Save words = and_then (only_number 0 MOST_SAVED_CYCLES words) (λ c. Ok (Settings.Save c))
command_settings Command.Resume words = and_then (options_of Command.Resume words) (λ _. Ok Settings.Resume)

abbrev pub settings_if : Option Command → List (List ℕ) → Result Settings WordFault
settings_if None words = Err UnknownCommand
settings_if (Some command) words = command_settings command words

-- the first word is the command
unfoldable pub settings : List (List ℕ) → Result Settings WordFault
settings [] = Err NoCommand
settings (word ∷ rest) = settings_if (command_named word) rest

-- a program that has no demos has the other commands
abbrev pub but_demo : Option Command → Option Command
but_demo None = None
but_demo (Some Command.Demo) = None
but_demo (Some command) = Some command

-- what words set for such a program: to it `demo` is an unknown command
unfoldable pub model_settings : List (List ℕ) → Result Settings WordFault
model_settings [] = Err NoCommand
model_settings (word ∷ rest) = settings_if (but_demo (command_named word)) rest

-- the bytes of each word
abbrev pub texts_of : List (String Global) → List (List ℕ)
texts_of words = map (λ word. string_bytes word) words

-- what a fault of the words is called
abbrev pub fault_name : WordFault → List ℕ
fault_name NoCommand = codes "no command"
fault_name UnknownCommand = codes "unknown command"
fault_name UnknownOption = codes "unknown option"
fault_name RepeatedOption = codes "repeated option"
fault_name MissingValue = codes "missing value"
fault_name BadValue = codes "bad value"
fault_name ExtraWord = codes "extra word"
