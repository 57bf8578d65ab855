-- The line of a fault is the first with which no scenario's text begins.
use Rattle.std.proofs.Common.{◌≡◌, ℕ, zero, suc, ◌+◌, ◌≤◌, List, [], ◌∷◌}
use Rattle.std.proofs.Common.{◌++◌, length, take, append-nil}
use Rattle.std.proofs.Common.{refl, sym, ap, ◌∙◌, subst, arith, ◌⊎◌, inl, inr, lit≤, cond, true, false}
use Rattle.std.specs.Prelude.{◌==◌, codes, decimal, Result, Ok, Err, IfOk, IfErr, Option, Some, None}
use Rattle.std.proofs.lemmas.Fmt.{decimal_digit}
use Rattle.hls_text.specs.Lines.{Text}
use Rattle.hls_text.specs.Tokens.{tokens_of}
use Rattle.hls_chron.specs.Ranges.{IsWithin, most_ticks}
use Rattle.hls_lang.specs.declared.fault.Cause.{Cause}
use Rattle.hls_scenario.specs.declared.scenario.Scenario.{Scenario}
use Rattle.hls_lang.specs.declared.fault.ScenarioFault.{ScenarioFault}
use Rattle.hls_lang.specs.declared.fault.ScenarioFault.TheVariants as faults
use Rattle.hls_lang.specs.declared.reader.Stage.{Stage}
use Rattle.hls_lang.specs.declared.reader.Stage.TheVariants.{AtHeader, AtHorizon, AtDepth, AtItems}
use Rattle.hls_lang.specs.ReadingLines.{State, Fault, start, line_step, read_of, finish_at, goes_on}
use Rattle.hls_lang.specs.ReadingLines.{lines_from, ReadGives}
use Rattle.hls_scenario.specs.Grammar.{token_lines, AreScenarioLines, Begins, IsFirstBad}
use Rattle.hls_lang.specs.Faults.{AtLine}
use Rattle.hls_lang.proofs.ScenarioLaws.{Good, start_good, Ahead, DepthAhead, ItemsAhead, AllClean}
use Rattle.hls_lang.proofs.ScenarioLaws.{line_stepped, whole_is, lines_read, lines_taken, none_ahead}

abbrev Outcome : Type 0
Outcome = Result Scenario Fault

abbrev fails : Fault → Outcome
fails f = Err f

fault_is : (f g : Fault) → fails f ≡ fails g → f ≡ g
fault_is f g e = cc

abbrev at_line : ℕ → Cause → Fault
at_line n cause = record { line = n; cause = cause }

-- a line that fails, or the rest fails
record Fails (n : ℕ) (step : Result State Cause) (next : State → Outcome) (f : Fault) : Type 0 where
  here : ((cause : Cause) × (step ≡ Err cause) × (at_line n cause ≡ f)) ⊎
      ((s : State) × (step ≡ Ok s) × (next s ≡ Err f))

failed : (n : ℕ) (step : Result State Cause) (next : State → Outcome) (f : Fault)
    → goes_on n step next ≡ Err f
    → Fails n step next f
failed n (Ok s) next f e = record { here = inr (s, refl, e) }
failed n (Err cause) next f e = record { here = inl (cause, refl, fault_is (at_line n cause) f e) }

end_fails : (stage : Stage) (n : ℕ) (s : State) (f : Fault) → finish_at stage n s ≡ Err f → f.line ≡ n
end_fails AtHeader n s f e = cc
end_fails AtHorizon n s f e = cc
end_fails AtDepth n s f e = absurd cc
end_fails AtItems n s f e = absurd cc

-- the line is one of these, or the one after them
in_lines : (n : ℕ) (s : State) (ls : List Text) (f : Fault) → lines_from n s ls ≡ Err f
    → (n ≤ f.line) × (f.line ≤ n + length ls)
unfolding lines_from
in_lines n s [] f e = let is = end_fails s.stage n s f e in (omega arith, omega arith)
in_lines n s (l ∷ ls) f e =
    let h = failed n (line_step s l) (λ x. lines_from (n + 1) x ls) f e in
    elim h.here [
      | inl here ↦ let is : n ≡ f.line = ap (λ (g : Fault). g.line) here.2 in (omega arith, omega arith)
      | inr more ↦ let m = in_lines (n + 1) more.0 ls f more.2 in
          (let low = m.0 in omega arith, let high = m.1 in omega arith)
    ]

-- whatever stands after the line
stays : (k n : ℕ) (s : State) (ls more : List Text) (f : Fault) → lines_from n s ls ≡ Err f
    → f.line + 1 ≡ n + k
    → k ≤ length ls → lines_from n s (take k ls ++ more) ≡ Err f
unfolding lines_from
stays zero n s ls more f e count within = let m = in_lines n s ls f e in absurd (let low = m.0 in omega arith)
stays (suc k) n s [] more f e count within = absurd (omega arith)
stays (suc k) n s (l ∷ ls) more f e count within =
    let h = failed n (line_step s l) (λ x. lines_from (n + 1) x ls) f e in
    elim h.here [
      | inl here ↦ ap (λ q. goes_on n q (λ x. lines_from (n + 1) x (take k ls ++ more))) here.1
          ∙ ap (λ (g : Fault). fails g) here.2
      | inr rest ↦ ap (λ q. goes_on n q (λ x. lines_from (n + 1) x (take k ls ++ more))) rest.1
          ∙ stays k (n + 1) rest.0 ls more f rest.2 (omega arith) (omega arith)
    ]

-- ---- lines before the fault

-- a scenario that begins as it was read
record Goes (s : State) (ls : List Text) : Type 0 where
  more : List Text
  scenario : Scenario
  clean : AllClean (ls ++ more)
  ahead : Ahead s.stage s (token_lines (ls ++ more)) scenario

of_one_tick : ℕ → State → Scenario
of_one_tick version s = record { version = version; horizon = 1; depth = None; items = s.items }

one_ahead : (version : ℕ) (s : State) → length s.items ≤ 65536 → ItemsAhead s [] (of_one_tick version s)
unfolding of_one_tick
one_ahead version s few =
    record { items = []; whole = sym (append-nil s.items); each = tt; few = few; words = tt }

one_is : codes "1" ≡ decimal 1
one_is = sym (decimal_digit 1 (omega arith))

one_within : (version : ℕ) → IsWithin 1 (most_ticks version) 1
one_within version = elim (version == 1) as (λ b. IsWithin 1 (cond b 100000 1000000) 1) [
  | true ↦ (lit≤ tt, lit≤ tt)
  | false ↦ (lit≤ tt, lit≤ tt)
]

-- a whole scenario that goes on after these lines
record Ends (stage : Stage) (s : State) : Type 0 where
  more : List Text
  scenario : Scenario
  clean : AllClean more
  ahead : Ahead stage s (token_lines more) scenario

ends_as_read : (d : Option ℕ) (s : State) → d ≡ None → length s.items ≤ 65536 → DepthAhead d s [] (read_of s)
ends_as_read None s e few = none_ahead s few
ends_as_read (Some d) s e few = absurd cc

ends_of : (stage : Stage) (s : State) → Good stage s → Ends stage s
unfolding tokens_of of_one_tick
ends_of AtHeader s good = record {
  more = codes "hls 1" ∷ codes "horizon 1" ∷ [];
  scenario = of_one_tick 1 s;
  clean = (refl, (refl, tt));
  ahead = (
    (lit≤ tt, lit≤ tt),
    (refl, (one_is, tt)),
    (one_within 1, (refl, (one_is, tt)), one_ahead 1 s good.few),
  );
}
ends_of AtHorizon s good = record {
  more = codes "horizon 1" ∷ [];
  scenario = of_one_tick s.version s;
  clean = (refl, tt);
  ahead = (refl, (one_within s.version, (refl, (one_is, tt)), one_ahead s.version s good.few));
}
ends_of AtDepth s good = record {
  more = [];
  scenario = read_of s;
  clean = tt;
  ahead = ((refl, refl), ends_as_read s.depth s good.fresh good.few);
}
ends_of AtItems s good = record {
  more = [];
  scenario = read_of s;
  clean = tt;
  ahead = ((refl, refl), refl, none_ahead s good.few);
}

goes_from : (s : State) → Good s.stage s → Goes s []
goes_from s good =
    let e = ends_of s.stage s good in
    record { more = e.more; scenario = e.scenario; clean = e.clean; ahead = e.ahead }

before : (k n : ℕ) (s : State) (ls : List Text) (f : Fault) → Good s.stage s → lines_from n s ls ≡ Err f
    → n + k ≤ f.line → Goes s (take k ls)
unfolding lines_from
before zero n s ls f good e early = goes_from s good
before (suc k) n s [] f good e early = let is = end_fails s.stage n s f e in absurd (omega arith)
before (suc k) n s (l ∷ ls) f good e early =
    let h = failed n (line_step s l) (λ x. lines_from (n + 1) x ls) f e in
    elim h.here [
      | inl here ↦ let is : n ≡ f.line = ap (λ (g : Fault). g.line) here.2 in absurd (omega arith)
      | inr rest ↦
          let step = line_stepped s rest.0 l good rest.1 in
          let g = before k (n + 1) rest.0 ls f step.good rest.2 (omega arith) in
          record {
            more = g.more;
            scenario = g.scenario;
            clean = (step.clean, g.clean);
            ahead = step.back (token_lines (take k ls ++ g.more)) g.scenario g.ahead;
          }
    ]

begins_of : (lines : List Text) → Goes start lines → Begins lines
begins_of lines g =
    let w = whole_is lines (token_lines (lines ++ g.more)) g.scenario g.ahead in
    record {
      more = g.more;
      scenario = g.scenario;
      are = record { within = w.0; clean = g.clean; words = w.1 };
    }

both : (r : Scenario) (f : Fault) (o : Outcome) → o ≡ Ok r → o ≡ Err f → ⊥
both r f o e g = cc

pub first_bad : (ls : List Text) (f : Fault) → lines_from 1 start ls ≡ Err f → IsFirstBad ls f.line
first_bad ls f e =
    let m = in_lines 1 start ls f e in
    record {
      counted = (m.0, let high = m.1 in omega arith);
      before = λ k lt. begins_of (take k ls) (before k 1 start ls f start_good e (omega arith));
      here = λ within b. both b.scenario f _ (lines_read (take f.line ls ++ b.more) b.scenario b.are)
          (stays f.line 1 start ls b.more f e (omega arith) within);
      none = λ s are. both s f _ (lines_read ls s are) e;
    }

pub found_of : (r : Result Scenario ScenarioFault) (ls : List Text) → ReadGives r (lines_from 1 start ls)
    → IfOk r (λ s. AreScenarioLines ls s)
found_of (Ok s) ls given = lines_taken ls s given
found_of (Err e) ls given = tt

pub only_of : (r : Result Scenario ScenarioFault) (ls : List Text) → ReadGives r (lines_from 1 start ls)
    → (s : Scenario) → AreScenarioLines ls s → ReadGives r (Ok s)
only_of r ls given s are = subst (λ (o : Outcome). ReadGives r o) (lines_read ls s are) given

pub first_of : (r : Result Scenario ScenarioFault) (ls : List Text) → ReadGives r (lines_from 1 start ls)
    → IfErr r (λ e. AtLine e (IsFirstBad ls))
first_of (Ok s) ls given = tt
first_of (Err (faults.At line cause)) ls given = first_bad ls (at_line line cause) given
first_of (Err (faults.Memory error)) ls given = tt

-- two scenarios of one text are the same
pub one_scenario : (ls : List Text) (a b : Scenario) → AreScenarioLines ls a → AreScenarioLines ls b → a ≡ b
one_scenario ls a b of_a of_b = same a b (lines_from 1 start ls) (lines_read ls a of_a) (lines_read ls b of_b)
  where
    same : (a b : Scenario) (o : Outcome) → o ≡ Ok a → o ≡ Ok b → a ≡ b
    same a b o e g = cc
