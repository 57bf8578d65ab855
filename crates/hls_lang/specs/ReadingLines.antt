-- Reading a text line by line: the scenario, or the first line that cannot stand and its cause.
use Rattle.std.specs.Prelude.{◌≡◌, ℕ, ◌+◌, ◌&&◌, nat_le, Bool, false, List, [], ◌∷◌, ◌++◌, length, codes}
use Rattle.std.specs.Prelude.{Option, Some, None, Result, Ok, Err, if◌then◌else◌}
use Rattle.std.specs.Str.{bytes_eq}
use Rattle.hls_text.specs.Lines.{Text, lines_of, shown_of, is_clean_line}
use Rattle.hls_text.specs.Tokens.{tokens_of}
use Rattle.hls_chron.specs.Ranges.{most_ticks}
use Rattle.hls_lang.specs.declared.fault.Cause.{Cause}
use Rattle.hls_lang.specs.declared.fault.Cause.TheVariants.{Byte, Header, Horizon, Many}
use Rattle.hls_lang.specs.declared.fault.ScenarioFault.{ScenarioFault}
use Rattle.hls_lang.specs.declared.fault.ScenarioFault.TheVariants as faults
use Rattle.hls_scenario.specs.declared.scenario.Item.{Item}
use Rattle.hls_scenario.specs.declared.scenario.Scenario.{Scenario}
use Rattle.hls_lang.specs.declared.reader.Stage.{Stage}
use Rattle.hls_lang.specs.declared.reader.Stage.TheVariants.{AtHeader, AtHorizon, AtDepth, AtItems}
use Rattle.hls_lang.specs.declared.line_error.LineError.{LineError}
use Rattle.hls_lang.specs.declared.line_error.LineError.TheVariants as errors
use Rattle.hls_lang.specs.declared.reader.Reader.{Reader}
use Rattle.hls_lang.specs.Words.{◌>>=◌, Keeps, word_at, number_at, no_more}
use Rattle.hls_lang.specs.Reading.{item_at}

-- what was read before a line
pub record State : Type 0 where
  pub stage : Stage
  pub version : ℕ
  pub horizon : ℕ
  pub depth : Option ℕ
  pub last : ℕ
  pub items : List Item

abbrev pub start : State
start = record { stage = AtHeader; version = 1; horizon = 0; depth = None; last = 0; items = [] }

-- the version
unfoldable pub header_at : List Text → Result ℕ Cause
header_at ts = word_at (codes "hls") ts >>= λ r. number_at 1 2 r >>= λ n. no_more n.1 >>= λ u. Ok n.0

unfoldable pub horizon_at : (version : ℕ) → List Text → Result ℕ Cause
horizon_at version ts = word_at (codes "horizon") ts >>= λ r. number_at 1 (most_ticks version) r >>= λ n.
    no_more n.1 >>= λ u. Ok n.0

unfoldable pub depth_at : List Text → Result ℕ Cause
depth_at ts = word_at (codes "depth") ts >>= λ r. number_at 0 6 r >>= λ n. no_more n.1 >>= λ u. Ok n.0

-- any other line in its place has one cause
abbrev pub caused : {A : Type 0} → Cause → Result A Cause → Result A Cause
caused cause (Ok x) = Ok x
caused cause (Err e) = Err cause

-- the line begins with this word
abbrev pub begins_with : Text → List Text → Bool
begins_with word [] = false
begins_with word (t ∷ ts) = bytes_eq t word

abbrev pub is_full : List Item → Bool
is_full items = nat_le 65536 (length items)

abbrev pub with_item : State → Item → State
with_item s item = record s { stage = AtItems; last = item.tick; items = s.items ++ item ∷ [] }

unfoldable pub item_step : State → List Text → Result State Cause
item_step s ts = if is_full s.items && begins_with (codes "at") ts then Err Many
    else (item_at s.version s.horizon s.last ts >>= λ item. Ok (with_item s item))

abbrev pub with_depth : State → ℕ → State
with_depth s depth = record s { stage = AtItems; depth = Some depth }

unfoldable pub depth_step : State → List Text → Result State Cause
depth_step s ts = if begins_with (codes "depth") ts then (depth_at ts >>= λ d. Ok (with_depth s d))
    else item_step s ts

-- a line that is not blank
unfoldable pub stage_step : Stage → State → List Text → Result State Cause
stage_step AtHeader s ts = caused Header (header_at ts) >>= λ v. Ok
    (record s { stage = AtHorizon; version = v })
stage_step AtHorizon s ts = caused Horizon (horizon_at s.version ts) >>= λ n. Ok
    (record s { stage = AtDepth; horizon = n })
stage_step AtDepth s ts = depth_step s ts
stage_step AtItems s ts = item_step s ts

abbrev pub tokens_step : State → List Text → Result State Cause
tokens_step s [] = Ok s
tokens_step s (t ∷ ts) = stage_step s.stage s (t ∷ ts)

unfoldable pub line_step : State → Text → Result State Cause
line_step s line = if is_clean_line line then tokens_step s (tokens_of (shown_of line)) else Err Byte

-- the first line that cannot stand, and why
pub record Fault : Type 0 where
  pub line : ℕ
  pub cause : Cause

abbrev pub read_of : State → Scenario
read_of s = record { version = s.version; horizon = s.horizon; depth = s.depth; items = s.items }

-- after the last line
abbrev pub finish_at : Stage → ℕ → State → Result Scenario Fault
finish_at AtHeader n s = Err (record { line = n; cause = Header })
finish_at AtHorizon n s = Err (record { line = n; cause = Horizon })
finish_at AtDepth n s = Ok (read_of s)
finish_at AtItems n s = Ok (read_of s)

abbrev pub goes_on : ℕ → Result State Cause → (State → Result Scenario Fault) → Result Scenario Fault
goes_on n (Ok s) next = next s
goes_on n (Err cause) next = Err (record { line = n; cause = cause })

-- the lines from number n on
unfoldable pub lines_from : ℕ → State → List Text → Result Scenario Fault
lines_from n s [] = finish_at s.stage n s
lines_from n s (l ∷ ls) = goes_on n (line_step s l) (λ s'. lines_from (n + 1) s' ls)

-- the scenario of a text, or its fault
abbrev pub scenario_of : Text → Result Scenario Fault
scenario_of text = lines_from 1 start (lines_of text)

-- ---- what the code gives

abbrev pub state_of : Reader → State
state_of r = record {
  stage = r.stage;
  version = r.version;
  horizon = r.horizon;
  depth = r.depth;
  last = r.last;
  items =
      r.items.items;
}

abbrev pub StepGives : Result (Unit {0}) LineError → State → Result State Cause → Type 0
StepGives result after step = Keeps (λ u. after) result step

-- the scenario or the fault that was read, unless memory is wanting
abbrev pub ReadGives : Result Scenario ScenarioFault → Result Scenario Fault → Type 0
ReadGives (Ok s) read = read ≡ Ok s
ReadGives (Err (faults.At line cause)) read = read ≡ Err (record { line = line; cause = cause })
ReadGives (Err (faults.Memory error)) read = Unit {0}

abbrev pub fault_of : ℕ → LineError → ScenarioFault
fault_of n (errors.Fault cause) = faults.At n cause
fault_of n (errors.Memory error) = faults.Memory error
