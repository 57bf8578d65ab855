-- Reading lines one after the other, as a loop does.
use Rattle.std.proofs.Common.{◌≡◌, ℕ, ◌+◌, List, [], ◌∷◌, sym, ap, ◌∙◌}
use Rattle.std.specs.Prelude.{Result, Ok, Err}
use Rattle.hls_text.specs.Lines.{Text}
use Rattle.hls_lang.specs.declared.fault.Cause.{Cause}
use Rattle.hls_lang.specs.declared.line_error.LineError.{LineError}
use Rattle.hls_lang.specs.declared.line_error.LineError.TheVariants as errors
use Rattle.hls_lang.specs.declared.fault.ScenarioFault.{ScenarioFault}
use Rattle.hls_scenario.specs.declared.scenario.Scenario.{Scenario}
use Rattle.hls_lang.specs.ReadingLines.{State, Fault, lines_from, line_step, goes_on, finish_at}
use Rattle.hls_lang.specs.ReadingLines.{StepGives, ReadGives, fault_of}

-- a line that was read
pub on : (n : ℕ) (s s' : State) (lines ls : List Text) (l : Text) (total : Result Scenario Fault)
    → lines ≡ l ∷ ls → line_step s l ≡ Ok s' → lines_from n s lines ≡ total → lines_from (n + 1) s' ls ≡ total
unfolding lines_from
on n s s' lines ls l total e step so_far =
    sym (ap (λ r. goes_on n r (λ t. lines_from (n + 1) t ls)) step) ∙ sym (ap (lines_from n s) e) ∙ so_far

stop : (n : ℕ) (s : State) (lines ls : List Text) (l : Text) (cause : Cause) (total : Result Scenario Fault)
    → lines ≡ l ∷ ls → line_step s l ≡ Err cause → lines_from n s lines ≡ total
    → total ≡ Err (record { line = n; cause = cause })
unfolding lines_from
stop n s lines ls l cause total e step so_far =
    sym so_far ∙ ap (lines_from n s) e ∙ ap (λ r. goes_on n r (λ t. lines_from (n + 1) t ls)) step

-- a line that was not read
pub stops : (error : LineError) (n : ℕ) (s after : State) (lines ls : List Text) (l : Text)
    (total : Result Scenario Fault) → lines ≡ l ∷ ls → StepGives (Err error) after (line_step s l)
    → lines_from n s lines ≡ total → ReadGives (Err (fault_of n error)) total
stops (errors.Memory wanting) n s after lines ls l total e step so_far = tt
stops (errors.Fault cause) n s after lines ls l total e step so_far = stop n s lines ls l cause total e
    step so_far

pub ends : (r : Result Scenario ScenarioFault) (n : ℕ) (s : State) (lines : List Text)
    (total : Result Scenario Fault) → lines ≡ [] → ReadGives r (finish_at s.stage n s)
    → lines_from n s lines ≡ total → ReadGives r total
unfolding lines_from
ends r n s lines total e given so_far = rw (← so_far, e) given
