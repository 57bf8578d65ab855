-- The words of a scenario, line by line.
use Rattle.std.specs.Prelude.{ℕ, true, false, List, [], ◌∷◌, ◌++◌, codes, decimal, flat_map, map, Option}
use Rattle.std.specs.Prelude.{Some, None, ◌==◌, if◌then◌else◌}
use Rattle.hls_text.specs.Lines.{Text}
use Rattle.hls_frac.specs.declared.Frac.{Frac}
use Rattle.hls_guarantee.specs.Spelling.{fraction_text}
use Rattle.hls_chron.specs.declared.plain.Config.{Config}
use Rattle.hls_chron.specs.declared.plain.Config.TheVariants as configs
use Rattle.hls_chron.specs.declared.plain.Terms.{Terms}
use Rattle.hls_chron.specs.declared.plain.Terms.TheVariants as terms
use Rattle.hls_guarantee.specs.declared.Guarantee.{Guarantee}
use Rattle.hls_guarantee.specs.declared.Guarantee.TheVariants.{All, Null, Resb, Resc, Psbe}
use Rattle.hls_scenario.specs.declared.scenario.Spot.{Spot}
use Rattle.hls_scenario.specs.declared.scenario.Spot.TheVariants as spots
use Rattle.hls_scenario.specs.declared.scenario.Perch.{Perch}
use Rattle.hls_scenario.specs.declared.scenario.Command.{Command}
use Rattle.hls_scenario.specs.declared.scenario.Command.TheVariants.{Load, Thread, End, Unload, Move, Wake, Block}
use Rattle.hls_scenario.specs.declared.scenario.Item.{Item}
use Rattle.hls_scenario.specs.declared.scenario.Scenario.{Scenario}

-- a word: this very text, or a fraction, which may be written in more than one way
pub data Form : Type 0 where
  the : Text → Form
  fraction : Frac → Form

abbrev pub number : ℕ → Form
number n = the (decimal n)

abbrev pub pair_forms : Text → (x y : ℕ) → List Form
pair_forms word x y = the word ∷ number x ∷ number y ∷ []

abbrev pub guarantee_forms : Guarantee → List Form
guarantee_forms All = the (codes "ALL") ∷ []
guarantee_forms Null = the (codes "NULL") ∷ []
guarantee_forms (Resb true x y) = pair_forms (codes "RESBH") x y
guarantee_forms (Resb false x y) = pair_forms (codes "RESBS") x y
guarantee_forms (Resc true x y) = pair_forms (codes "RESCH") x y
guarantee_forms (Resc false x y) = pair_forms (codes "RESCS") x y
guarantee_forms (Psbe s d) = the (codes "PSBE") ∷ fraction s ∷ fraction d ∷ []

abbrev pub terms_forms : Terms → List Form
terms_forms terms.Cpu = []
terms_forms (terms.Prio priority) = the (codes "prio") ∷ number priority ∷ []
terms_forms (terms.Res true x y) = the (codes "res") ∷ number x ∷ number y ∷ the (codes "hard") ∷ []
terms_forms (terms.Res false x y) = the (codes "res") ∷ number x ∷ number y ∷ the (codes "soft") ∷ []
terms_forms (terms.Weight weight) = the (codes "weight") ∷ number weight ∷ []
terms_forms (terms.Slots places) = the (codes "slots") ∷ number places ∷ []
terms_forms terms.Turn = the (codes "turn") ∷ []
terms_forms terms.Sole = the (codes "sole") ∷ []

-- version 1 has no word for fair queueing's quantum, which is 1 there
abbrev pub quantum_forms : (version quantum : ℕ) → List Form
quantum_forms version quantum = if version == 1 then [] else number quantum ∷ []

abbrev pub config_forms : (version : ℕ) → Config → List Form
config_forms version configs.Cpu = []
config_forms version configs.Fp = the (codes "fp") ∷ []
config_forms version configs.Edf = the (codes "edf") ∷ []
config_forms version (configs.Sfq total most quantum) =
    the (codes "sfq") ∷ number total ∷ number most ∷ quantum_forms version quantum
config_forms version (configs.Rr quantum) = the (codes "rr") ∷ number quantum ∷ []
config_forms version (configs.Wheel frame) = the (codes "wheel") ∷ number frame ∷ []
config_forms version (configs.Join ports) = the (codes "join") ∷ []

abbrev pub spot_forms : Spot → List Form
spot_forms spots.Cpu = the (codes "cpu") ∷ []
spot_forms (spots.Under sched terms) = the sched ∷ terms_forms terms

abbrev pub perch_forms : Perch → List Form
perch_forms perch = spot_forms perch.spot ++ the (codes "as") ∷ guarantee_forms perch.want

abbrev pub more_perches_forms : List Perch → List Form
more_perches_forms perches = flat_map (λ perch. the (codes ",") ∷ perch_forms perch) perches

-- with commas between them
abbrev pub perches_forms : List Perch → List Form
perches_forms [] = []
perches_forms (perch ∷ perches) = perch_forms perch ++ more_perches_forms perches

abbrev pub burst_forms : Option ℕ → List Form
burst_forms None = []
burst_forms (Some ticks) = the (codes "for") ∷ number ticks ∷ []

-- a periodic wake has its period before its burst
abbrev pub waking_forms : (every burst : Option ℕ) → List Form
waking_forms None burst = burst_forms burst
waking_forms (Some period) None = []
waking_forms (Some period) (Some ticks) =
    the (codes "every") ∷ number period ∷ the (codes "burst") ∷ number ticks ∷ []

abbrev pub verb_of : Command → Text
verb_of (Load name config perches) = codes "load"
verb_of (Thread name perch) = codes "thread"
verb_of (End name) = codes "end"
verb_of (Unload name) = codes "unload"
verb_of (Move name perch) = codes "move"
verb_of (Wake name every burst) = codes "wake"
verb_of (Block name) = codes "block"

-- what stands after the verb
abbrev pub operands_of : (version : ℕ) → Command → List Form
operands_of version (Load name config perches) =
    the name ∷ (config_forms version config ++ the (codes "on") ∷ perches_forms perches)
operands_of version (Thread name perch) = the name ∷ the (codes "on") ∷ perch_forms perch
operands_of version (End name) = the name ∷ []
operands_of version (Unload name) = the name ∷ []
operands_of version (Move name perch) = the name ∷ the (codes "to") ∷ perch_forms perch
operands_of version (Wake name every burst) = the name ∷ waking_forms every burst
operands_of version (Block name) = the name ∷ []

abbrev pub command_forms : (version : ℕ) → Command → List Form
command_forms version command = the (verb_of command) ∷ operands_of version command

abbrev pub item_forms : (version : ℕ) → Item → List Form
item_forms version item = the (codes "at") ∷ number item.tick ∷ command_forms version item.command

abbrev pub header_forms : (version : ℕ) → List Form
header_forms version = the (codes "hls") ∷ number version ∷ []

abbrev pub horizon_forms : ℕ → List Form
horizon_forms horizon = the (codes "horizon") ∷ number horizon ∷ []

abbrev pub depth_forms : ℕ → List Form
depth_forms depth = the (codes "depth") ∷ number depth ∷ []

abbrev pub depth_lines : Option ℕ → List (List Form)
depth_lines None = []
depth_lines (Some depth) = depth_forms depth ∷ []

-- the lines that are not blank
abbrev pub scenario_lines : Scenario → List (List Form)
scenario_lines s =
    header_forms s.version ∷ horizon_forms s.horizon
    ∷ (depth_lines s.depth ++ map (item_forms s.version) s.items)

-- ---- the canonical text

-- a fraction is in lowest terms, and a whole number is written without its denominator
abbrev pub canonical : Form → Text
canonical (the word) = word
canonical (fraction f) = fraction_text f

abbrev pub spaced : List Form → Text
spaced forms = flat_map (λ form. 32 ∷ canonical form) forms

-- with one space between them
abbrev pub joined : List Form → Text
joined [] = []
joined (form ∷ forms) = canonical form ++ spaced forms

abbrev pub command_text : (version : ℕ) → Command → Text
command_text version command = joined (command_forms version command)

abbrev pub line_text : List Form → Text
line_text forms = joined forms ++ 10 ∷ []

unfoldable pub scenario_text : Scenario → Text
scenario_text s = flat_map line_text (scenario_lines s)
