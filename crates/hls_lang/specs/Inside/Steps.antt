-- What the reader's private functions do.
use Rattle.std.specs.Prelude.{ℕ, ◌==◌, ◌&&◌, Bool, true, not, fold, List, []}
use Rattle.std.specs.Prelude.{◌∷◌, ◌++◌, codes, Option, Some, Result, Ok}
use Rattle.hls_text.specs.Lines.{Text, may_stand}
use Rattle.hls_scenario.specs.declared.scenario.Command.{Command}
use Rattle.hls_scenario.specs.declared.scenario.Item.{Item}
use Rattle.hls_lang.specs.declared.fault.Cause.{Cause}
use Rattle.hls_lang.specs.Words.{◌>>=◌, Found, no_more, word_at, number_at, tick_at}
use Rattle.hls_lang.specs.Reading.{command_at}

-- a byte that may stand in a line and begins no comment
abbrev pub is_plain : ℕ → Bool
is_plain b = may_stand b && not (b == 35)

abbrev pub are_plain : Text → Bool
are_plain line = fold (λ all b. all && is_plain b) true line

-- the tick before a command
abbrev pub stamp_at : (horizon last : ℕ) → List Text → Found ℕ
stamp_at horizon last ts = word_at (codes "at") ts >>= λ r. tick_at horizon last r

-- a burst that ends the line
abbrev pub last_burst_at : List Text → Result (Option ℕ) Cause
last_burst_at ts = number_at 1 100000 ts >>= λ n. no_more n.1 >>= λ u. Ok (Some n.0)

-- the items with one more
abbrev pub with_command : List Item → ℕ → Command → Result (List Item) Cause
with_command items tick command = Ok (items ++ record { tick = tick; command = command } ∷ [])

-- the items with a command more, which is read behind its tick
abbrev pub kept_at : (version : ℕ) → List Item → ℕ → List Text → Result (List Item) Cause
kept_at version items tick ts = command_at version ts >>= with_command items tick
