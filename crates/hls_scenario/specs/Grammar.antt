-- The grammar: which scenarios have texts, and which texts are theirs.
use Rattle.std.specs.Prelude.{◌≡◌, ℕ, ◌^◌, ◌≤◌, ◌<◌, ◌⊎◌, true, List, [], ◌∷◌, ◌++◌}
use Rattle.std.specs.Prelude.{codes, decimal, length, take, ◌+◌, Option, Some, None}
use Rattle.std.specs.List.{AllByRecursion}
use Rattle.hls_text.specs.Lines.{Text, lines_of, shown_of, is_clean_line}
use Rattle.hls_text.specs.Tokens.{tokens_of}
use Rattle.hls_frac.specs.declared.Frac.{Frac}
use Rattle.hls_frac.specs.Frac.{IsQuotient}
use Rattle.hls_chron.specs.Name.{IsName}
use Rattle.hls_chron.specs.Ranges.{IsWithin, ConfigInRange, TermsInRange, IsVersion, most_ticks}
use Rattle.hls_chron.specs.declared.plain.Config.{Config}
use Rattle.hls_chron.specs.declared.plain.Config.TheVariants as configs
use Rattle.hls_chron.specs.declared.plain.Terms.{Terms}
use Rattle.hls_chron.specs.declared.plain.Terms.TheVariants as terms
use Rattle.hls_guarantee.specs.Limits.{IsNarrow}
use Rattle.hls_scenario.specs.declared.scenario.Spot.{Spot}
use Rattle.hls_scenario.specs.declared.scenario.Spot.TheVariants as spots
use Rattle.hls_scenario.specs.declared.scenario.Perch.{Perch}
use Rattle.hls_scenario.specs.declared.scenario.Command.{Command}
use Rattle.hls_scenario.specs.declared.scenario.Command.TheVariants.{Load, Thread, End, Unload, Move, Wake, Block}
use Rattle.hls_scenario.specs.declared.scenario.Item.{Item}
use Rattle.hls_scenario.specs.declared.scenario.Scenario.{Scenario}
use Rattle.hls_scenario.specs.Forms.{Form, the, fraction, item_forms, scenario_lines}

-- ---- which scenarios have texts

-- terms of a seat on a scheduler
abbrev pub IsTerms : Terms → Type 0
IsTerms terms.Cpu = ⊥
IsTerms terms = TermsInRange terms

abbrev pub IsSpot : Spot → Type 0
IsSpot spots.Cpu = Unit {0}
IsSpot (spots.Under sched terms) = IsName sched × IsTerms terms

pub record IsPerch (perch : Perch) : Type 0 where
  pub spot : IsSpot perch.spot
  pub want : IsNarrow perch.want

-- the two spots are on two schedulers
abbrev pub Differ : Spot → Spot → Type 0
Differ (spots.Under sched terms) (spots.Under other others) = (sched ≡ other) → ⊥
Differ _ _ = ⊥

-- perches on schedulers that differ
abbrev pub ArePorts : List Perch → Type 0
ArePorts [] = Unit {0}
ArePorts (perch ∷ perches) =
    IsPerch perch × AllByRecursion (λ other. Differ perch.spot other.spot) perches × ArePorts perches

-- in version 1 fair queueing's quantum is 1
abbrev pub HasQuantum : (version : ℕ) → Config → Type 0
HasQuantum version (configs.Sfq total most quantum) = (version ≡ 1) → quantum ≡ 1
HasQuantum version _ = Unit {0}

abbrev pub IsConfig : (version : ℕ) → Config → Type 0
IsConfig version config = ConfigInRange config × HasQuantum version config

-- a join has two to four perches, any other scheduler has one
abbrev pub IsLoad : (version : ℕ) → Config → List Perch → Type 0
IsLoad version configs.Cpu perches = ⊥
IsLoad version (configs.Join ports) perches =
    (ports ≡ length perches) × IsWithin 2 4 ports × ArePorts perches
IsLoad version config (perch ∷ []) = IsConfig version config × IsPerch perch
IsLoad version config _ = ⊥

abbrev pub IsBurst : Option ℕ → Type 0
IsBurst None = Unit {0}
IsBurst (Some ticks) = IsWithin 1 100000 ticks

-- until a block, for a burst, or, but in version 1, for a burst from each release on
abbrev pub IsWaking : (version : ℕ) → (every burst : Option ℕ) → Type 0
IsWaking version None burst = IsBurst burst
IsWaking version (Some period) None = ⊥
IsWaking version (Some period) (Some ticks) =
    ((version ≡ 1) → ⊥) × IsWithin 1 100000 period × IsWithin 1 100000 ticks

abbrev pub IsCommand : (version : ℕ) → Command → Type 0
IsCommand version (Load name config perches) = IsName name × IsLoad version config perches
IsCommand version (Thread name perch) = IsName name × IsPerch perch
IsCommand version (End name) = IsName name
IsCommand version (Unload name) = IsName name
IsCommand version (Move name perch) = IsName name × IsPerch perch
IsCommand version (Wake name every burst) = IsName name × IsWaking version every burst
IsCommand version (Block name) = IsName name

-- ticks never fall and are below the horizon
abbrev pub AreItems : (version horizon last : ℕ) → List Item → Type 0
AreItems version horizon last [] = Unit {0}
AreItems version horizon last (item ∷ items) =
    IsCommand version item.command × (last ≤ item.tick) × (item.tick < horizon)
    × AreItems version horizon item.tick items

abbrev pub IsDepth : Option ℕ → Type 0
IsDepth None = Unit {0}
IsDepth (Some depth) = depth ≤ 6

-- the scenario is within the grammar's limits
pub record IsScenario (s : Scenario) : Type 0 where
  pub version : IsVersion s.version
  pub horizon : IsWithin 1 (most_ticks s.version) s.horizon
  pub depth : IsDepth s.depth
  pub few : length s.items ≤ 65536
  pub items : AreItems s.version s.horizon 0 s.items

-- ---- which texts are theirs

-- num / den is written as these tokens
abbrev pub IsSpelled : Text → (num den : ℕ) → Type 0
IsSpelled token num den =
    (token ≡ decimal num ++ (codes "/" ++ decimal den)) ⊎ ((den ≡ 1) × (token ≡ decimal num))

-- the token is the fraction, not always in lowest terms, with narrow numbers as written
pub record IsFraction (token : Text) (f : Frac) : Type 0 where
  pub num : ℕ
  pub den : ℕ
  pub spelled : IsSpelled token num den
  pub num_fits : num ≤ 10 ^ 10
  pub den_fits : IsWithin 1 (10 ^ 6) den
  pub value : IsQuotient f num den

abbrev pub IsToken : Form → Text → Type 0
IsToken (the word) token = token ≡ word
IsToken (fraction f) token = IsFraction token f

-- the line's tokens are these words
abbrev pub IsLine : List Form → List Text → Type 0
IsLine [] [] = Unit {0}
IsLine (form ∷ forms) (token ∷ tokens) = IsToken form token × IsLine forms tokens
IsLine _ _ = ⊥

-- the line's tokens are an item's, of a tick from the last one on and below the horizon
abbrev pub IsItemLine : (version horizon last : ℕ) → List Text → Item → Type 0
IsItemLine version horizon last tokens item =
    IsCommand version item.command × (last ≤ item.tick) × (item.tick < horizon)
    × IsLine (item_forms version item) tokens

abbrev pub AreLines : List (List Form) → List (List Text) → Type 0
AreLines [] [] = Unit {0}
AreLines (forms ∷ rest) (tokens ∷ lines) = IsLine forms tokens × AreLines rest lines
AreLines _ _ = ⊥

-- the tokens of the lines that are not blank
abbrev pub onto_lines : List Text → List (List Text) → List (List Text)
onto_lines [] lines = lines
onto_lines (token ∷ tokens) lines = (token ∷ tokens) ∷ lines

abbrev pub token_lines : List Text → List (List Text)
token_lines [] = []
token_lines (line ∷ lines) = onto_lines (tokens_of (shown_of line)) (token_lines lines)

-- lines without a forbidden byte, whose tokens are the scenario's
pub record AreScenarioLines (lines : List Text) (s : Scenario) : Type 0 where
  pub within : IsScenario s
  pub clean : AllByRecursion (λ line. is_clean_line line ≡ true) lines
  pub words : AreLines (scenario_lines s) (token_lines lines)

-- the text is one of the scenario's
abbrev pub IsScenarioText : Text → Scenario → Type 0
IsScenarioText text s = AreScenarioLines (lines_of text) s

-- ---- the first line that cannot stand

-- a text of some scenario begins with these lines
pub record Begins (lines : List Text) : Type 0 where
  pub more : List Text
  pub scenario : Scenario
  pub are : AreScenarioLines (lines ++ more) scenario

-- no scenario's text begins with the lines up to this one, or there is no such line and the lines are not all
-- of a scenario's; with the lines before it some scenario's text begins
pub record IsFirstBad (lines : List Text) (line : ℕ) : Type 0 where
  pub counted : IsWithin 1 (length lines + 1) line
  pub before : (k : ℕ) → k < line → Begins (take k lines)
  pub here : line ≤ length lines → Begins (take line lines) → ⊥
  pub none : (s : Scenario) → AreScenarioLines lines s → ⊥
