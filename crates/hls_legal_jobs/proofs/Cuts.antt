-- A report that is cut tells what its run was until then.
use Rattle.std.proofs.Common.{◌≡◌, ℕ, inl, inr, ◌<◌, ◌≤◌, List, [], ◌∷◌, ◌++◌, ◌&&◌, Bool, false, cond}
use Rattle.std.proofs.Common.{refl, sym, ap, ◌∙◌, arith}
use Rattle.std.specs.Prelude.{Some, None, find, reverse, nat_le}
use Rattle.std.specs.Option.{option_or}
use Rattle.std.specs.List.{AllByRecursion}
use Rattle.std.proofs.lemmas.Bool.{cases_lt, lt-leb}
use Rattle.std.proofs.lemmas.List.{reverse-append}
use Rattle.std.proofs.lemmas.List.Folds.{find-append}
use Rattle.hls_text.specs.Lines.{Text}
use Rattle.hls_report_text.specs.declared.report.Answered.{Answered}
use Rattle.hls_report_text.specs.Content.{Content}
use Rattle.hls_machine.specs.Hierarchy.{Hierarchy}
use Rattle.hls_machine.specs.Steps.{Step, Elapse, after}
use Rattle.hls_machine.specs.Legal.{IsLegal}
use Rattle.hls_legal.specs.Commands.{has_done, rouses, last_rousing}
use Rattle.hls_legal.specs.Schedule.{is_served}
use Rattle.hls_legal.specs.Ready.{is_awake, is_ready}
use Rattle.hls_legal.specs.Tells.{TellsFrom}

-- Where a report is cut: some of its commands come up to a tick and in it, and the others in it or later.
pub record IsCut (c : Content) (before left : List Answered) (until : ℕ) : Type 0 where
  pub all : c.answered ≡ before ++ left
  pub early : AllByRecursion (λ (a : Answered). a.tick ≤ until) before
  pub late : AllByRecursion (λ (a : Answered). until ≤ a.tick) left
  pub within : until ≤ c.horizon

-- a report up to a tick, with these commands
abbrev pub cut : Content → List Answered → ℕ → Content
cut c before until = record c { horizon = until; answered = before }

abbrev all_late : ℕ → List Answered → Type 0
all_late t left = AllByRecursion (λ (a : Answered). t < a.tick) left

pub late_first : (t : ℕ) (before left : List Answered) → all_late t (before ++ left) → all_late t before
late_first t [] left all = tt
late_first t (a ∷ before) left all = (all.0, late_first t before left all.1)

-- which commands a report has otherwise, and how far it goes, is all that differs
module _ (c : Content) (whole : List Answered) (until : ℕ) where
  abbrev short : Content
  short = cut c whole until

  pub record IsCutRun (h : Hierarchy) (before : List Answered) : Type 0 where
    pub steps : List Step
    pub legal : IsLegal h steps
    pub tells : TellsFrom short h steps before

  stop : (h : Hierarchy) (before left : List Answered) → before ≡ [] → h.now ≡ until → IsCutRun h before
  stop h [] left none now = record { steps = []; legal = tt; tells = now }
  stop h (a ∷ before) left none now = absurd (cc)

  no_more : (t : ℕ) (before : List Answered) → AllByRecursion (λ (a : Answered). a.tick ≤ t) before → all_late t before
      → before ≡ []
  no_more t [] early late = refl
  no_more t (a ∷ before) early late = absurd (omega (arith, early.0, late.0))

  pub run_cut : (steps : List Step) (h : Hierarchy) (before left : List Answered) → IsLegal h steps
      → TellsFrom c h steps (before ++ left) → AllByRecursion (λ (a : Answered). a.tick ≤ until) before
      → AllByRecursion (λ (a : Answered). until ≤ a.tick) left → h.now ≤ until → until ≤ c.horizon → IsCutRun h before
  run_cut [] h [] [] legal tells early late le within =
      stop h [] [] refl (let now : h.now ≡ c.horizon = tells in omega arith)
  run_cut [] h [] (a ∷ left) legal tells early late le within = absurd tells
  run_cut [] h (a ∷ before) left legal tells early late le within = absurd tells
  run_cut (Elapse asking masks path ∷ steps) h before left legal tells early late le within =
      let first = late_first h.now before left tells.0 in
      elim (cases_lt h.now until) [
        | inl lt ↦
            let rest = run_cut steps (after h (Elapse asking masks path)) before left legal.1 tells.2 early late
            (omega arith) within in
            record {
              steps = Elapse asking masks path ∷ rest.steps;
              legal = (legal.0, rest.legal);
              tells = (first, tells.1, rest.tells);
            }
        | inr ge ↦
            let now : h.now ≡ until = omega arith in
            stop h before left (no_more until before early (rw now at first)) now
      ]
  run_cut (step ∷ steps) h (a ∷ before) left legal tells early late le within =
      let rest = run_cut steps (after h step) before left legal.1 tells.2 early.1 late le within in
      record {
        steps = step ∷ rest.steps;
        legal = (legal.0, rest.legal);
        tells = (tells.0, tells.1, rest.tells);
      }
  run_cut (step ∷ steps) h [] (a ∷ left) legal tells early late le within =
      stop h [] (a ∷ left) refl (omega (arith, tells.0, late.0))
  run_cut (step ∷ steps) h [] [] legal tells early late le within = absurd tells

-- ---- which words on a thread come before the cut

find_first : {X : Type 0} (test : X → Bool) (x : X) (xs : List X) → test x ≡ false
    → find test (x ∷ []) ≡ None
find_first test x xs e = ap (λ b. cond b (Some x) None) e

late_none : (t until : ℕ) (name : Text) (left : List Answered) → t < until
    → AllByRecursion (λ (a : Answered). until ≤ a.tick) left
    → find (λ (a : Answered). nat_le a.tick t && has_done (rouses name) a) (reverse left) ≡ None
late_none t until name [] lt late = refl
late_none t until name (a ∷ left) lt late =
    let test : Answered → Bool = λ (b : Answered). nat_le b.tick t && has_done (rouses name) b in
    let off : nat_le a.tick t ≡ false = lt-leb a.tick t (omega (arith, late.0)) in
    ap (find test) (reverse-append (a ∷ []) left)
    ∙ find-append test (reverse left) (a ∷ [])
    ∙ ap (λ l. option_or l (find test (a ∷ []))) (late_none t until name left lt late.1)
    ∙ find_first test a [] (ap (λ b. b && has_done (rouses name) a) off)

words_same : (t until : ℕ) (name : Text) (before left : List Answered) → t < until
    → AllByRecursion (λ (a : Answered). until ≤ a.tick) left
    → last_rousing name t (before ++ left) ≡ last_rousing name t before
unfolding last_rousing
words_same t until name before left lt late =
    let test : Answered → Bool = λ (b : Answered). nat_le b.tick t && has_done (rouses name) b in
    ap (find test) (reverse-append before left)
    ∙ find-append test (reverse left) (reverse before)
    ∙ ap (λ l. option_or l (find test (reverse before))) (late_none t until name left lt late)

pub ready_same : (c : Content) (t until : ℕ) (name : Text) (before left : List Answered) → IsCut c before left until
    → t < until → is_ready (cut c before until) name t ≡ is_ready c name t
unfolding is_ready
ready_same c t until name before left is lt =
    sym (ap (λ (l : List Answered). is_awake (is_served c.stretches name) t (last_rousing name t l)) is.all
    ∙ ap (is_awake (is_served c.stretches name) t) (words_same t until name before left lt is.late))
