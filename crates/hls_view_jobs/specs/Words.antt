-- The words on a thread: the commands that wake, block or end it, and the later releases of its periodic wakes, each of
-- which is a wake in its tick, before the commands of that tick.
use Rattle.std.specs.Prelude.{ℕ, zero, suc, ◌+◌, ◌-◌, ◌/◌, List, [], ◌∷◌, ◌++◌, Option, Some, None, Bool, true, false}
use Rattle.std.specs.Prelude.{if◌then◌else◌}
use Rattle.hls_text.specs.Lines.{Text}
use Rattle.hls_chron.specs.Ticks.{one_if}
use Rattle.hls_scenario.specs.declared.scenario.Command.{Command}
use Rattle.hls_scenario.specs.declared.scenario.Command.TheVariants.{Wake, Block}
use Rattle.hls_report_text.specs.declared.report.Answered.{Answered}
use Rattle.hls_legal.specs.Commands.{has_done, rouses}
use Rattle.hls_view_jobs.specs.declared.job.Sort.{Sort}
use Rattle.hls_view_jobs.specs.declared.job.Sort.TheVariants.{Wakes, Blocks, Ends}
use Rattle.hls_view_jobs.specs.declared.job.Word.{Word}
use Rattle.hls_view_jobs.specs.declared.words.Repeat.{Repeat}

-- what a command says of the thread that it rouses; a further admission, which no tale has, ends it as well
abbrev pub sort_of : Command → Sort
sort_of (Wake name every burst) = Wakes burst
sort_of (Block name) = Blocks
sort_of _ = Ends

abbrev pub word_of : Answered → Word
word_of a = record { tick = a.tick; sort = sort_of a.command }

abbrev pub is_end : Sort → Bool
is_end Ends = true
is_end _ = false

abbrev pub is_wake : Sort → Bool
is_wake (Wakes burst) = true
is_wake _ = false

abbrev pub first : List Word → Option Word
first [] = None
first (word ∷ words) = Some word

-- ---- later releases

-- a periodic wake is for so many ticks in every so many
abbrev pub repeat_of : Command → Option Repeat
repeat_of (Wake name (Some period) (Some ticks)) = Some (record { period = period; ticks = ticks })
repeat_of _ = None

-- so many words, one in every so many ticks behind one
abbrev pub again : (count period tick : ℕ) → Sort → List Word
again zero period tick sort = []
again (suc count) period tick sort =
    record { tick = tick + period; sort = sort } ∷ again count period (tick + period) sort

-- the last tick that may have one: that of the next word, or else the last one before the horizon
abbrev pub last_by : (horizon : ℕ) → (next : Option Word) → ℕ
last_by horizon None = horizon - 1
last_by horizon (Some next) = next.tick

abbrev pub later : (tick last : ℕ) → Option Repeat → List Word
later tick last None = []
later tick last (Some r) = again ((last - tick) / r.period) r.period tick (Wakes (Some r.ticks))

-- ---- all words

-- what a command says, before these words behind it
abbrev pub said_by : (horizon : ℕ) → Answered → (words : List Word) → List Word
said_by horizon a words = word_of a ∷ (later a.tick (last_by horizon (first words)) (repeat_of a.command)
    ++ (if is_end (sort_of a.command) then [] else words))

-- the words of these commands on the thread of a name, up to its end
unfoldable pub words_on : (horizon : ℕ) → (name : Text) → List Answered → List Word
words_on horizon name [] = []
words_on horizon name (a ∷ after) =
    if has_done (rouses name) a then said_by horizon a (words_on horizon name after) else words_on horizon name after

-- the tick before which a thread is there: that of its end, or else the horizon
abbrev pub end_in : (horizon : ℕ) → List Word → ℕ
end_in horizon [] = horizon
end_in horizon (word ∷ words) = if is_end word.sort then word.tick else end_in horizon words

-- ---- wakes alone

-- how many of these commands wake the thread of a name, up to its end
unfoldable pub wakes_on : (name : Text) → List Answered → ℕ
wakes_on name [] = 0
wakes_on name (a ∷ after) =
    if has_done (rouses name) a
    then one_if (is_wake (sort_of a.command)) + (if is_end (sort_of a.command) then 0 else wakes_on name after)
    else wakes_on name after
