-- The schedule and the commands of a report have no byte that JSON must escape.
use Rattle.std.proofs.Common.{ℕ, ◌+◌, ◌^◌, ◌≤◌, ◌<◌, List, [], ◌∷◌, ◌++◌, true, false, refl, arith}
use Rattle.std.specs.Prelude.{Bool, cond, codes, Option, Some, None}
use Rattle.std.specs.List.{AllByRecursion}
use Rattle.hls_text.specs.Lines.{Text}
use Rattle.hls_chron.specs.Name.{IsName}
use Rattle.hls_scenario.specs.declared.scenario.Command.{Command}
use Rattle.hls_report_text.specs.declared.report.Answer.{Answer}
use Rattle.hls_report_text.specs.declared.report.Answer.TheVariants as answers
use Rattle.hls_report_text.specs.declared.report.Answered.{Answered}
use Rattle.hls_report_text.specs.declared.stretch.Stretch.{Stretch}
use Rattle.hls_report_text.specs.ReportText.{refusal_text}
use Rattle.hls_report_text.specs.Content.{Content}
use Rattle.hls_report_text.proofs.LineTexts.{horizon_fits}
use Rattle.hls_report_text.specs.WellFormed.{AreAnswered, MayAnswer, Cover, IsPath, IsContent}
use Rattle.hls_view_trace.specs.declared.event.Place.{Place}
use Rattle.hls_view_trace.specs.declared.event.Event.{Event}
use Rattle.hls_view_tracks.specs.Flame.{names_in, begins, last_tick, run_slice, slice_of, slices_below, flame}
use Rattle.hls_view_tracks.specs.Commands.{answer_text, instants}
use Rattle.hls_view_trace_laws.specs.Plain.{IsPlain, IsHeldPlace, IsPlainEvent}
use Rattle.hls_view_trace_laws.proofs.Pairs.{all-append}
use Rattle.hls_view_trace_laws.proofs.PlainTexts.{plain-append, plain_name}
use Rattle.hls_view_trace_laws.proofs.PlainForms.{plain_command, plain_refusal}

-- ---- the schedule

ends_late : (from end : ℕ) (last : Option (Option (List Text))) (ss : List Stretch) → Cover from last ss end
    → from ≤ end
ends_late from end last [] cover = omega (arith, cover)
ends_late from end last (s ∷ ss) cover =
    let order = cover.1 in
    let rest = ends_late (s.to + 1) end (Some s.path) ss cover.4 in
    omega (arith, order, rest)

last_early : (names : List Text) (to from end : ℕ) (last : Option (Option (List Text))) (ss : List Stretch)
    → Cover from last ss end → to < from → last_tick names to ss < end
last_early names to from end last [] cover lt = omega (arith, cover, lt)
last_early names to from end last (s ∷ ss) cover lt =
    by (begins names (names_in s.path)) (last_early names s.to (s.to + 1) end (Some s.path) ss cover.4 (omega arith))
  where
    by : (b : Bool) → last_tick names s.to ss < end → cond b (last_tick names s.to ss) to < end
    by true early = early
    by false early =
        let late = ends_late from end last (s ∷ ss) cover in
        omega (arith, lt, late)

path_named : (path : Option (List Text)) → IsPath path → AllByRecursion IsName (names_in path)
path_named None is = tt
path_named (Some names) is = is.1

below_plain : (place : Place) (before : List Text) (s : Stretch) (more : List Stretch) (above below : List Text)
    → IsHeldPlace place → s.from < 2 ^ 32 → ((names : List Text) → last_tick names s.to more < 2 ^ 32)
    → AllByRecursion IsName below → AllByRecursion IsPlainEvent (slices_below place before s more above below)
below_plain place before s more above [] held early ends named = tt
below_plain place before s more above (name ∷ below) held early ends named =
    let down : List Text = above ++ name ∷ [] in
    all-append IsPlainEvent (slice_of place before s more down name) (slices_below place before s more down below)
    (by (begins down before)) (below_plain place before s more down below held early ends named.1)
  where
    slice : Event
    slice = run_slice place name s.from (last_tick (above ++ name ∷ []) s.to more)

    by : (b : Bool) → AllByRecursion IsPlainEvent (cond b [] (slice ∷ []))
    by true = tt
    by false = ((held, plain_name name named.0, early, ends (above ++ name ∷ []), tt), tt)

pub flame_plain : (place : Place) (before : List Text) (from end : ℕ) (last : Option (Option (List Text)))
    (ss : List Stretch) → IsHeldPlace place → end < 2 ^ 32 → Cover from last ss end
    → AllByRecursion IsPlainEvent (flame place before ss)
flame_plain place before from end last [] held few cover = tt
flame_plain place before from end last (s ∷ ss) held few cover =
    let path : List Text = names_in s.path in
    let start = cover.0 in
    let late = ends_late from end last (s ∷ ss) cover in
    all-append IsPlainEvent (slices_below place before s ss [] path) (flame place path ss)
    (below_plain place before s ss [] path held (omega (arith, start, late, few))
    (λ names.
    let early = last_early names s.to (s.to + 1) end (Some s.path) ss cover.4 (omega arith) in
    omega (arith, early, few))
    (path_named s.path cover.2))
    (flame_plain place path (s.to + 1) end (Some s.path) ss held few cover.4)

-- ---- the commands

plain_answer : (command : Command) (answer : Answer) → MayAnswer command answer → IsPlain (answer_text answer)
plain_answer command (answers.Done seats) may = refl
plain_answer command (answers.Refused refusal) may =
    plain-append (codes "refused ") (refusal_text refusal) refl (plain_refusal refusal may)

pub instants_plain : (version : ℕ) (place : Place) (horizon last : ℕ) (answered : List Answered) → IsHeldPlace place
    → horizon < 2 ^ 32 → AreAnswered version horizon last answered
    → AllByRecursion IsPlainEvent (instants version place answered)
instants_plain version place horizon last [] held few are = tt
instants_plain version place horizon last (a ∷ answered) held few are =
    let early = are.3 in (
      (
        held,
        plain_command version a.command are.0,
        omega (arith, early, few),
        plain_answer a.command a.answer are.1,
      ),
      instants_plain version place horizon a.tick answered held few are.4,
    )

-- ---- of a report

pub schedule_plain : (place : Place) (c : Content) → IsContent c → IsHeldPlace place
    → AllByRecursion IsPlainEvent (flame place [] c.stretches)
schedule_plain place c formed held =
    let late = horizon_fits c.version c.horizon formed.horizon in
    flame_plain place [] 0 c.horizon None c.stretches held (omega (arith, late)) formed.cover

pub commands_plain : (place : Place) (c : Content) → IsContent c → IsHeldPlace place
    → AllByRecursion IsPlainEvent (instants c.version place c.answered)
commands_plain place c formed held =
    let late = horizon_fits c.version c.horizon formed.horizon in
    instants_plain c.version place c.horizon 0 c.answered held (omega (arith, late)) formed.answered
