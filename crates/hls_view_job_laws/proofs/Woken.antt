-- A thread has as many jobs as wakes and later releases exactly where each of them releases a job.
use Rattle.std.proofs.Common.{◌≡◌, ℕ, suc, ◌+◌, ◌≤◌, List, [], ◌∷◌, ◌++◌, Bool, true, false, cond, length, refl, ap}
use Rattle.std.proofs.Common.{sym, ◌∙◌, subst, arith, inl, inr}
use Rattle.std.specs.Prelude.{Option, Some, None, filter}
use Rattle.std.specs.List.{AllByRecursion}
use Rattle.std.proofs.lemmas.Bool.{cases_Bool}
use Rattle.std.proofs.lemmas.List.Elements.{All-from_recursion, recursion_from_All}
use Rattle.hls_text.specs.Lines.{Text}
use Rattle.hls_chron.specs.Ticks.{one_if}
use Rattle.hls_scenario.specs.declared.scenario.Command.{Command}
use Rattle.hls_scenario.specs.declared.scenario.Command.TheVariants.{Load, Thread, End, Unload, Move, Wake, Block}
use Rattle.hls_scenario.specs.Grammar.{IsCommand}
use Rattle.hls_report_text.specs.declared.report.Answered.{Answered}
use Rattle.hls_report_text.specs.Content.{Content}
use Rattle.hls_report_text.specs.WellFormed.{AreAnswered}
use Rattle.hls_legal.specs.Commands.{has_done, rouses}
use Rattle.hls_view_jobs.specs.declared.job.Sort.{Sort}
use Rattle.hls_view_jobs.specs.declared.job.Sort.TheVariants.{Wakes, Blocks, Ends}
use Rattle.hls_view_jobs.specs.declared.job.Word.{Word}
use Rattle.hls_view_jobs.specs.declared.job.Release.{Release}
use Rattle.hls_view_jobs.specs.declared.job.Job.{Job}
use Rattle.hls_view_jobs.specs.declared.summary.ThreadJobs.{ThreadJobs}
use Rattle.hls_view_jobs.specs.Words.{sort_of, word_of, is_wake, is_end, first, repeat_of, last_by, later, said_by}
use Rattle.hls_view_jobs.specs.Words.{words_on, wakes_on}
use Rattle.hls_view_jobs.specs.Jobs.{release_of, releases, AreJobs}
use Rattle.hls_view_jobs.specs.Threads.{Life}
use Rattle.hls_view_jobs.specs.Summaries.{IsLine}
use Rattle.hls_view_job_laws.specs.Lives.{is_endless, IsWokenForJobs, releases_in}
use Rattle.hls_view_job_laws.proofs.Admitted.{IsAdmitted}

-- ---- what no item passes

pub none_pass : {X : Type 0} (test : X → Bool) (xs : List X) → AllByRecursion (λ x. test x ≡ false) xs
    → length (filter test xs) ≡ 0
none_pass test [] none = refl
none_pass test (x ∷ xs) none = rw none.0 (none_pass test xs none.1)

pub pass_none : {X : Type 0} (test : X → Bool) (xs : List X) → length (filter test xs) ≡ 0
    → AllByRecursion (λ x. test x ≡ false) xs
pass_none test [] none = tt
pass_none test (x ∷ xs) none = by (test x) refl (pass_none test xs) none
  where
    by : (b : Bool) → test x ≡ b → (length (filter test xs) ≡ 0 → AllByRecursion (λ y. test y ≡ false) xs)
        → length (cond b (x ∷ filter test xs) (filter test xs)) ≡ 0 → AllByRecursion (λ y. test y ≡ false) (x ∷ xs)
    by true on rest none = absurd (omega (arith, none))
    by false off rest none = (off, rest none)

-- ---- wakes

abbrev wakes : Word → Bool
wakes word = is_wake word.sort

abbrev endless : Word → Bool
endless word = is_endless word.sort

one_more : (tick : ℕ) (sort : Sort) (next : Option Word) (words : List Word) (rest : List Release)
    → length rest + length (filter endless words) ≡ length (filter wakes words)
    → length (release_of tick sort next ++ rest)
    + length (filter endless (record { tick = tick; sort = sort } ∷ words))
    ≡ length (filter wakes (record { tick = tick; sort = sort } ∷ words))
one_more tick (Wakes (Some n)) next words rest so_far = omega (arith, so_far)
one_more tick (Wakes None) next words rest so_far = omega (arith, so_far)
one_more tick Blocks next words rest so_far = so_far
one_more tick Ends next words rest so_far = so_far

wakes_release : (words : List Word)
    → length (releases words) + length (filter endless words) ≡ length (filter wakes words)
wakes_release [] = refl
wakes_release (word ∷ words) =
    one_more word.tick word.sort (first words) words (releases words) (wakes_release words)

as_many : (c : Content) (name : Text) (all : List Release) (jobs : List Job) → AreJobs c name all jobs
    → length jobs ≡ length all
as_many c name [] [] are = refl
as_many c name [] (job ∷ jobs) are = absurd are
as_many c name (r ∷ all) [] are = absurd are
as_many c name (r ∷ all) (job ∷ jobs) are = ap suc (as_many c name all jobs are.1)

module _ (c : Content) (life : Life) (line : ThreadJobs) (is : IsLine c life line) where
  pub as_many_jobs : releases_in life ≡ line.summary.jobs → IsWokenForJobs life
  as_many_jobs same =
      let jobs = is.summary.jobs in
      let many = as_many c life.name (releases life.words) is.jobs is.are in
      let all = wakes_release life.words in
      All-from_recursion (λ (word : Word). is_endless word.sort ≡ false) life.words
      (pass_none endless life.words (omega (arith, same, jobs, many, all)))

  pub each_wake : IsWokenForJobs life → releases_in life ≡ line.summary.jobs
  each_wake woken =
      let jobs = is.summary.jobs in
      let many = as_many c life.name (releases life.words) is.jobs is.are in
      let all = wakes_release life.words in
      let none = none_pass endless life.words
      (recursion_from_All (λ (word : Word). is_endless word.sort ≡ false) life.words woken) in
      omega (arith, jobs, many, all, none)

-- ---- wakes that were commanded

one_wakes : (word : Word) (rest : List Word) (wake : Bool) → is_wake word.sort ≡ wake
    → length (filter wakes (word ∷ rest)) ≡ one_if wake + length (filter wakes rest)
one_wakes word rest true is = rw is (omega arith)
one_wakes word rest false is = rw is (omega arith)

more_wakes : (words more : List Word) → length (filter wakes more) ≤ length (filter wakes (words ++ more))
more_wakes [] more = omega arith
more_wakes (word ∷ words) more =
    let here = one_wakes word (words ++ more) (is_wake word.sort) refl in
    let rest = more_wakes words more in
    omega (arith, here, rest)

-- behind a command and its later releases
few_behind : (end : Bool) (n : ℕ) (words : List Word) → n ≤ length (filter wakes words)
    → cond end 0 n ≤ length (filter wakes (cond end [] words))
few_behind true n words le = omega arith
few_behind false n words le = le

few_here : (horizon : ℕ) (a : Answered) (n : ℕ) (words : List Word) → n ≤ length (filter wakes words)
    → one_if (is_wake (sort_of a.command)) + cond (is_end (sort_of a.command)) 0 n
    ≤ length (filter wakes (said_by horizon a words))
few_here horizon a n words le =
    let end : Bool = is_end (sort_of a.command) in
    let more : List Word = later a.tick (last_by horizon (first words)) (repeat_of a.command) in
    let here = one_wakes (word_of a) (more ++ cond end [] words) (is_wake (sort_of a.command)) refl in
    let rest = more_wakes more (cond end [] words) in
    let behind = few_behind end n words le in
    omega (arith, here, rest, behind)

few_wakes : (horizon : ℕ) (name : Text) (all : List Answered)
    → wakes_on name all ≤ length (filter wakes (words_on horizon name all))
unfolding words_on wakes_on
few_wakes horizon name [] = omega arith
few_wakes horizon name (a ∷ after) =
    let rest = few_wakes horizon name after in
    elim (cases_Bool (has_done (rouses name) a)) [
      | inl on ↦ rw on (few_here horizon a (wakes_on name after) (words_on horizon name after) rest)
      | inr off ↦ rw off rest
    ]

-- where none has a later release there are no others
no_repeat : (command : Command) → IsCommand 1 command → repeat_of command ≡ None
no_repeat (Load name config perches) is = refl
no_repeat (Thread name perch) is = refl
no_repeat (End name) is = refl
no_repeat (Unload name) is = refl
no_repeat (Move name perch) is = refl
no_repeat (Wake name None burst) is = refl
no_repeat (Wake name (Some period) None) is = refl
no_repeat (Wake name (Some period) (Some ticks)) is = absurd (is.1.0 refl)
no_repeat (Block name) is = refl

one_here : (horizon : ℕ) (a : Answered) (words : List Word) → repeat_of a.command ≡ None
    → length (filter wakes (said_by horizon a words))
    ≡ one_if (is_wake (sort_of a.command)) + length (filter wakes (cond (is_end (sort_of a.command)) [] words))
one_here horizon a words once =
    rw once (one_wakes (word_of a) (cond (is_end (sort_of a.command)) [] words) (is_wake (sort_of a.command)) refl)

same_behind : (end : Bool) (n : ℕ) (words : List Word) → length (filter wakes words) ≡ n
    → length (filter wakes (cond end [] words)) ≡ cond end 0 n
same_behind true n words e = refl
same_behind false n words e = e

same_wakes : (horizon last : ℕ) (name : Text) (all : List Answered) → AreAnswered 1 horizon last all
    → length (filter wakes (words_on horizon name all)) ≡ wakes_on name all
unfolding words_on wakes_on
same_wakes horizon last name [] are = refl
same_wakes horizon last name (a ∷ after) are =
    let rest = same_wakes horizon a.tick name after are.4 in
    elim (cases_Bool (has_done (rouses name) a)) [
      | inl on ↦
          rw on (one_here horizon a (words_on horizon name after) (no_repeat a.command are.0)
          ∙ ap (λ (n : ℕ). one_if (is_wake (sort_of a.command)) + n)
          (same_behind (is_end (sort_of a.command)) (wakes_on name after) (words_on horizon name after) rest))
      | inr off ↦ rw off rest
    ]

module _ (c : Content) (life : Life) (line : ThreadJobs) (admitted : IsAdmitted c life) (is : IsLine c life line) where
  pub few_commanded : line.wakes ≤ releases_in life
  few_commanded =
      let few = few_wakes c.horizon life.name admitted.after in
      rw (is.wakes, admitted.wakes, admitted.words) few

  pub commanded : c.version ≡ 1 → line.wakes ≡ releases_in life
  commanded first_version =
      let same = same_wakes c.horizon admitted.by.tick life.name admitted.after
      (subst (λ (v : ℕ). AreAnswered v c.horizon admitted.by.tick admitted.after) first_version admitted.order) in
      rw (is.wakes, admitted.wakes, admitted.words) (sym same)

  -- where each wake releases a job, there are as many jobs or more
  pub few_woken : IsWokenForJobs life → line.wakes ≤ line.summary.jobs
  few_woken woken =
      let few = few_commanded in
      let same = each_wake c life line is woken in
      omega (arith, few, same)

  pub as_many_wakes : c.version ≡ 1 → line.wakes ≡ line.summary.jobs → IsWokenForJobs life
  as_many_wakes first_version same = as_many_jobs c life line is (sym (commanded first_version) ∙ same)

  pub each_commanded : c.version ≡ 1 → IsWokenForJobs life → line.wakes ≡ line.summary.jobs
  each_commanded first_version woken = commanded first_version ∙ each_wake c life line is woken
