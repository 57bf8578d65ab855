-- The threads of a report, by the commands that admit them.
use Rattle.std.proofs.Common.{◌≡◌, ℕ, ◌<◌, ◌≤◌, List, [], ◌∷◌, ◌++◌, Bool, true, false, cond, refl, sym, ◌∙◌, subst}
use Rattle.std.proofs.Common.{append_assoc, get_or, arith}
use Rattle.std.specs.Prelude.{Option, Some, None, All, Contains, flat_map, filter}
use Rattle.std.proofs.lemmas.List.Elements.{All-nil, All-cons, All-head, All-tail, All-append, All-filter, All-contains}
use Rattle.std.proofs.lemmas.List.Elements.{filter_passes}
use Rattle.std.proofs.lemmas.Slice.Eq.{bytes_eq-Decides}
use Rattle.hls_text.specs.Lines.{Text}
use Rattle.hls_scenario.specs.declared.scenario.Command.{Command}
use Rattle.hls_scenario.specs.declared.scenario.Command.TheVariants.{Load, Thread, End, Unload, Move, Wake, Block}
use Rattle.hls_report_text.specs.declared.report.Answered.{Answered}
use Rattle.hls_report_text.specs.Content.{Content}
use Rattle.hls_report_text.specs.WellFormed.{AreAnswered, IsContent}
use Rattle.hls_legal.specs.Commands.{is_done, has_done, rouses}
use Rattle.hls_legal.proofs.Rousings.{names_same}
use Rattle.hls_view_jobs.specs.declared.job.Sort.TheVariants.{Blocks, Ends}
use Rattle.hls_view_jobs.specs.declared.job.Release.{Release}
use Rattle.hls_view_jobs.specs.Words.{sort_of, repeat_of, words_on, wakes_on, first}
use Rattle.hls_view_jobs.specs.Jobs.{releases}
use Rattle.hls_view_jobs.specs.Threads.{Life, admits, admitted, life_of, lives, has_tick, lasting, is_named}
use Rattle.hls_view_jobs.specs.Threads.{releases_of}
use Rattle.hls_view_jobs.specs.Inside.Sound.{AreWords}
use Rattle.hls_view_jobs.proofs.WordsSound.{words_sound}
use Rattle.hls_view_job_laws.proofs.Saying.{IsSaid, AreSaid, says, words_said}

-- a command admits the thread
pub record IsAdmitted (c : Content) (life : Life) : Type 0 where
  pub before : List Answered
  pub by : Answered
  pub after : List Answered
  pub split : c.answered ≡ before ++ by ∷ after
  pub early : by.tick < c.horizon
  pub order : AreAnswered c.version c.horizon by.tick after
  pub admits : admitted by ≡ Some life.name
  pub from : life.from ≡ by.tick
  pub words : life.words ≡ words_on c.horizon life.name after
  pub wakes : life.wakes ≡ wakes_on life.name after

one_admitted : (c : Content) (before : List Answered) (a : Answered) (after : List Answered) (found : Option Text)
    → c.answered ≡ before ++ a ∷ after → a.tick < c.horizon → AreAnswered c.version c.horizon a.tick after
    → admitted a ≡ found → All (IsAdmitted c) (life_of c.horizon a.tick after found)
one_admitted c before a after None split early order is = All-nil (IsAdmitted c)
one_admitted c before a after (Some name) split early order is =
    All-cons (IsAdmitted c) _ [] (record {
      before = before;
      by = a;
      after = after;
      split = split;
      early = early;
      order = order;
      admits = is;
      from = refl;
      words = refl;
      wakes = refl;
    }) (All-nil (IsAdmitted c))

all_admitted : (c : Content) (before after : List Answered) (last : ℕ) → c.answered ≡ before ++ after
    → AreAnswered c.version c.horizon last after → All (IsAdmitted c) (lives c.horizon after)
all_admitted c before [] last split order = All-nil (IsAdmitted c)
all_admitted c before (a ∷ after) last split order =
    All-append (IsAdmitted c) (life_of c.horizon a.tick after (admitted a)) (lives c.horizon after)
    (one_admitted c before a after (admitted a) split order.3 order.4 refl)
    (all_admitted c (before ++ a ∷ []) after a.tick (split ∙ sym (append_assoc before (a ∷ []) after)) order.4)

pub lasting_admitted : (c : Content) → IsContent c → All (IsAdmitted c) (lasting c)
lasting_admitted c formed =
    All-filter (has_tick c.horizon) (IsAdmitted c) (lives c.horizon c.answered)
    (all_admitted c [] c.answered 0 refl formed.answered)

pub life_admitted : (c : Content) (life : Life) → IsContent c → Contains (lasting c) life → IsAdmitted c life
life_admitted c life formed listed =
    All-contains (IsAdmitted c) (lasting c) life (lasting_admitted c formed) listed

pub life_early : (c : Content) (life : Life) → IsAdmitted c life → life.from ≤ c.horizon
life_early c life is =
    let early = is.early in
    let from = is.from in
    omega (arith, early, from)

-- ---- its words

pub life_words : (c : Content) (life : Life) → IsAdmitted c life → AreWords c.horizon life.from life.words
life_words c life is =
    rw (is.words, is.from) (words_sound c.version c.horizon is.by.tick life.name is.after is.order)

pub life_said : (c : Content) (life : Life) → IsAdmitted c life → AreSaid c life.name life.words
life_said c life is =
    rw is.words
    (words_said c life.name (is.before ++ is.by ∷ []) is.after is.by.tick
    (is.split ∙ sym (append_assoc is.before (is.by ∷ []) is.after)) is.order)

-- ---- before its first word

record Rouses (name : Text) (command : Command) : Type 0 where
  pub rouses : rouses name command ≡ true
  pub sort : sort_of command ≡ Ends
  pub once : repeat_of command ≡ None

admits_rouses : (name : Text) (command : Command) → admits command ≡ Some name → Rouses name command
admits_rouses name (Load other config perches) is = absurd cc
admits_rouses name (Thread other perch) is =
    let same : other ≡ name = cc in record { rouses = names_same name other same; sort = refl; once = refl }
admits_rouses name (End other) is = absurd cc
admits_rouses name (Unload other) is = absurd cc
admits_rouses name (Move other perch) is = absurd cc
admits_rouses name (Wake other every burst) is = absurd cc
admits_rouses name (Block other) is = absurd cc

record Admits (name : Text) (a : Answered) : Type 0 where
  pub done : has_done (rouses name) a ≡ true
  pub sort : sort_of a.command ≡ Ends
  pub once : repeat_of a.command ≡ None

admits_one : (name : Text) (a : Answered) → admitted a ≡ Some name → Admits name a
admits_one name a is = by (is_done a.answer) refl is
  where
    by : (done : Bool) → is_done a.answer ≡ done → cond done (admits a.command) None ≡ Some name → Admits name a
    by true e is =
        let r = admits_rouses name a.command is in record { done = rw (e, r.rouses) refl; sort = r.sort; once = r.once }
    by false e is = absurd cc

-- from its admission on it is as if it were blocked
pub life_begins : (c : Content) (life : Life) → IsAdmitted c life
    → IsSaid c life.name (record { tick = life.from; sort = Blocks }) (first life.words)
life_begins c life is =
    let a = admits_one life.name is.by is.admits in
    rw (is.words, is.from)
    (λ t from before. says c life.name is.before is.by is.after is.split is.order a.done a.once t from before
    ∙ rw a.sort refl)

-- ---- the releases of all threads of a name

all_of : (P : Release → Type 0) (all : List Life) → All (λ (life : Life). All P (releases life.words)) all
    → All P (flat_map (λ (life : Life). releases life.words) all)
all_of P [] each = All-nil P
all_of P (life ∷ all) each =
    All-append P (releases life.words) (flat_map (λ (l : Life). releases l.words) all)
    (All-head (λ (l : Life). All P (releases l.words)) life all each)
    (all_of P all (All-tail (λ (l : Life). All P (releases l.words)) life all each))

-- what holds of each release of a thread by its name
pub releases_all : (c : Content) (name : Text) (P : Text → Release → Type 0) → IsContent c
    → ((life : Life) → IsAdmitted c life → All (P life.name) (releases life.words)) → All (P name) (releases_of c name)
releases_all c name P formed each =
    all_of (P name) (filter (is_named name) (lasting c))
    (λ k d lt.
    let life = get_or (filter (is_named name) (lasting c)) k d in
    let same : life.name ≡ name =
    (bytes_eq-Decides life.name name).0 (filter_passes (is_named name) (lasting c) k d lt) in
    subst (λ (n : Text). All (P n) (releases life.words)) same
    (each life (All-filter (is_named name) (IsAdmitted c) (lasting c) (lasting_admitted c formed) k d lt)))
