-- The words on a thread come in their order, and so do the jobs that they release.
use Rattle.std.proofs.Common.{◌≡◌, ℕ, zero, suc, ◌+◌, ◌<◌, ◌≤◌, List, [], ◌∷◌, ◌++◌, inl, inr}
use Rattle.std.proofs.Common.{sym, subst, arith, drop, length, get_or, add-one}
use Rattle.std.specs.Prelude.{Option, Some, None, All, if◌then◌else◌}
use Rattle.std.proofs.lemmas.Bool.{cases_Bool}
use Rattle.std.proofs.lemmas.List.Elements.{All-nil, All-cons}
use Rattle.hls_text.specs.Lines.{Text}
use Rattle.hls_scenario.specs.declared.scenario.Command.{Command}
use Rattle.hls_scenario.specs.declared.scenario.Command.TheVariants.{Load, Thread, End, Unload, Move, Wake, Block}
use Rattle.hls_scenario.specs.Grammar.{IsBurst, IsWaking, IsCommand}
use Rattle.hls_report_text.specs.declared.report.Answered.{Answered}
use Rattle.hls_report_text.specs.WellFormed.{AreAnswered}
use Rattle.hls_legal.specs.Commands.{has_done, rouses}
use Rattle.hls_view_jobs.specs.declared.job.Sort.{Sort}
use Rattle.hls_view_jobs.specs.declared.job.Sort.TheVariants.{Wakes, Blocks, Ends}
use Rattle.hls_view_jobs.specs.declared.job.Word.{Word}
use Rattle.hls_view_jobs.specs.declared.job.Release.{Release}
use Rattle.hls_view_jobs.specs.declared.words.Repeat.{Repeat}
use Rattle.hls_view_jobs.specs.Words.{sort_of, is_end, repeat_of, words_on, first}
use Rattle.hls_view_jobs.specs.Jobs.{release_of, releases}
use Rattle.hls_view_jobs.specs.Inside.Sound.{HasBurst, AreWords, IsRelease}
use Rattle.hls_view_jobs.proofs.AgainLaws.{words_since, HasTicks, later_sound, rest_sound}

waking_burst : (version : ℕ) (every burst : Option ℕ) → IsWaking version every burst → IsBurst burst
waking_burst version None burst is = is
waking_burst version (Some period) None is = absurd is
waking_burst version (Some period) (Some ticks) is = is.2

burst_of : (version : ℕ) (command : Command) → IsCommand version command → HasBurst (sort_of command)
burst_of version (Load name config perches) is = tt
burst_of version (Thread name perch) is = tt
burst_of version (End name) is = tt
burst_of version (Unload name) is = tt
burst_of version (Move name perch) is = tt
burst_of version (Wake name every burst) is = waking_burst version every burst is.1
burst_of version (Block name) is = tt

repeated_burst : (version : ℕ) (command : Command) → IsCommand version command → HasTicks (repeat_of command)
repeated_burst version (Load name config perches) is = tt
repeated_burst version (Thread name perch) is = tt
repeated_burst version (End name) is = tt
repeated_burst version (Unload name) is = tt
repeated_burst version (Move name perch) is = tt
repeated_burst version (Wake name None burst) is = tt
repeated_burst version (Wake name (Some period) None) is = tt
repeated_burst version (Wake name (Some period) (Some ticks)) is = is.1.2
repeated_burst version (Block name) is = tt

pub repeated_some : (version : ℕ) (command : Command) (r : Repeat) → IsCommand version command
    → repeat_of command ≡ Some r → 0 < r.period
repeated_some version (Load name config perches) r is again = absurd cc
repeated_some version (Thread name perch) r is again = absurd cc
repeated_some version (End name) r is again = absurd cc
repeated_some version (Unload name) r is again = absurd cc
repeated_some version (Move name perch) r is again = absurd cc
repeated_some version (Wake name None burst) r is again = absurd cc
repeated_some version (Wake name (Some period) None) r is again = absurd cc
repeated_some version (Wake name (Some period) (Some ticks)) r is again =
    let same : record { period = period; ticks = ticks } ≡ r = cc in
    let from = is.1.1.0 in
    subst (λ (x : Repeat). 0 < x.period) same (omega (arith, from))
repeated_some version (Block name) r is again = absurd cc

pub words_sound : (version horizon last : ℕ) (name : Text) (all : List Answered) → AreAnswered version horizon last all
    → AreWords horizon last (words_on horizon name all)
unfolding words_on
words_sound version horizon last name [] are = tt
words_sound version horizon last name (a ∷ after) are =
    let words : List Word = words_on horizon name after in
    let rest = words_sound version horizon a.tick name after are.4 in
    elim (cases_Bool (has_done (rouses name) a)) [
      | inl roused ↦ rw roused (
        burst_of version a.command are.0,
        are.2,
        are.3,
        later_sound horizon a.tick (repeat_of a.command) words
            (if is_end (sort_of a.command) then [] else words)
            (repeated_burst version a.command are.0) are.3 rest
            (rest_sound horizon a.tick words (is_end (sort_of a.command)) rest),
      )
      | inr quiet ↦ rw quiet (words_since horizon last a.tick words are.2 rest)
    ]

behind : (version horizon last : ℕ) (all : List Answered) (i : ℕ) (a : Answered) → i < length all → a ≡ get_or all i a
    → AreAnswered version horizon last all → AreAnswered version horizon a.tick (drop (suc i) all)
behind version horizon last [] i a lt is are = absurd (omega (arith, lt))
behind version horizon last (b ∷ all) zero a lt is are =
    subst (λ (one : Answered). AreAnswered version horizon one.tick all) (sym is) are.4
behind version horizon last (b ∷ all) (suc i) a lt is are =
    behind version horizon b.tick all i a (omega (arith, lt)) is are.4

-- behind one of the commands
pub words_behind : (version horizon : ℕ) (name : Text) (all : List Answered) (i : ℕ) (a : Answered) → i < length all
    → a ≡ get_or all i a → AreAnswered version horizon 0 all
    → AreWords horizon a.tick (words_on horizon name (drop (i + 1) all))
words_behind version horizon name all i a lt is are =
    rw (add-one i)
    (words_sound version horizon a.tick name (drop (suc i) all) (behind version horizon 0 all i a lt is are))

-- ---- releases

order_of : (horizon tick : ℕ) (words : List Word) → tick < horizon → AreWords horizon tick words → (ticks : ℕ)
    → 1 ≤ ticks → ticks ≤ 100000
    → IsRelease horizon (record { tick = tick; asked = ticks; next = first words })
order_of horizon tick [] lt are ticks some few =
    record { some = some; few = few; order = omega (arith, lt); ends = omega arith }
order_of horizon tick (word ∷ words) lt are ticks some few =
    let order = are.1 in
    let soon = are.2 in
    record { some = some; few = few; order = order; ends = omega (arith, soon) }

onto : (horizon tick : ℕ) (sort : Sort) (words : List Word) (rest : List Release) → tick < horizon → HasBurst sort
    → AreWords horizon tick words → All (IsRelease horizon) rest
    → All (IsRelease horizon) (release_of tick sort (first words) ++ rest)
onto horizon tick (Wakes (Some ticks)) words rest lt burst are sound =
    All-cons (IsRelease horizon) _ rest (order_of horizon tick words lt are ticks burst.0 burst.1) sound
onto horizon tick (Wakes None) words rest lt burst are sound = sound
onto horizon tick Blocks words rest lt burst are sound = sound
onto horizon tick Ends words rest lt burst are sound = sound

pub releases_sound : (horizon last : ℕ) (words : List Word) → AreWords horizon last words
    → All (IsRelease horizon) (releases words)
releases_sound horizon last [] are = All-nil (IsRelease horizon)
releases_sound horizon last (word ∷ words) are =
    onto horizon word.tick word.sort words (releases words) are.2 are.0 are.3
    (releases_sound horizon word.tick words are.3)
