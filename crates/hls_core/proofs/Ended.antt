-- A core lets ticks pass, and ends.
use Rattle.std.proofs.Common.{◌≡◌, ℕ, ◌+◌, ◌-◌, ◌^◌, ◌<◌, ◌≤◌, List, [], ◌∷◌, length, refl, sym, ap}
use Rattle.std.proofs.Common.{◌∙◌, ◌⊎◌, inl, inr, subst, arith}
use Rattle.std.proofs.lemmas.Bool.{cases_lt}
use Rattle.std.specs.Prelude.{Option, Result, Ok, Err, IfOk, slice_get}
use Rattle.std.specs.Fn.{Mut}
use Rattle.hls_guarantee.specs.declared.Guarantee.{Guarantee}
use Rattle.hls_scenario.specs.declared.scenario.Scenario.{Scenario}
use Rattle.hls_scenario.specs.Grammar.{IsScenario}
use Rattle.hls_report_text.specs.declared.report.Answered.{Answered}
use Rattle.hls_report_text.specs.declared.report.Path.{Path}
use Rattle.hls_report_text.specs.declared.report.Report.{Report}
use Rattle.hls_report_text.specs.Content.{Content, content_of}
use Rattle.hls_report_text.specs.WellFormed.{HasShort}
use Rattle.hls_report_text.proofs.LineTexts.{horizon_fits}
use Rattle.hls_sched.specs.Seen.{Seen}
use Rattle.hls_machine.specs.Hierarchy.{Hierarchy, start}
use Rattle.hls_machine.specs.Steps.{Step, Elapse, after, state}
use Rattle.hls_machine.proofs.Lists.{run_listed}
use Rattle.hls_machine.proofs.Seated.{run_seated}
use Rattle.hls_legal.specs.Tells.{TellsFrom, Tells}
use Rattle.hls_legal.specs.Ready.{is_ready}
use Rattle.hls_legal.specs.Moment.{Boxes}
use Rattle.hls_legal.specs.Legal.{IsRun, IsLegalReport}
use Rattle.hls_tree.specs.Trees.{IsTreeOf, IsReadyOf, Stands}
use Rattle.hls_core_journal.specs.Told.{answered_by, told, with_totals, IsReportOf}
use Rattle.hls_core_journal.specs.Kept.{AreTicked, MayTick}
use Rattle.hls_core_journal.proofs.Keeps.{may_tick, way_short}
use Rattle.hls_core_stays.specs.Tallies.{AreStays}
use Rattle.hls_core_stays.specs.declared.stays.Stays.{Stays}
use Rattle.hls_core.specs.Marks.{HasMarksFor}
use Rattle.hls_kinds.specs.Stands.{always}
use Rattle.hls_core.specs.Leaps.{IsLeapTo, Comes, at_end, at_command, at_change}
use Rattle.hls_core.specs.Inside.Elapses.{MayElapse, Elapses, IsStretch}
use Rattle.hls_report_text.specs.declared.report.Account.{Account}
use Rattle.hls_legal.specs.Accounts.{accounts_of, idle_of}
use Rattle.hls_legal.specs.Agrees.{accounts_in, idle_in}
use Rattle.hls_legal.proofs.Agreements.{accounts_told, idle_told}
use Rattle.hls_core.specs.Cores.{AreNoted, NoneWithin, IsUpTo, IsCoreOf, Runs}
use Rattle.hls_core.specs.declared.cores.Core.{Core}
use Rattle.hls_core.proofs.Items.{ahead_next, none_left, all_told}
use Rattle.hls_core.proofs.Running.{runs_on}
use Rattle.hls_core.specs.Left.{IsLeft}
use Rattle.hls_core.specs.Bursts.{begun_in}
use Rattle.hls_core.proofs.Standings.{run_standing}

-- where a run leads it is the present tick
pub state_now : (c : Content) (steps : List Step) (h : Hierarchy) (left : List Answered) → TellsFrom c h steps left
    → (state h steps).now ≡ c.horizon
state_now c [] h [] told = told
state_now c [] h (b ∷ left) told = absurd told
state_now c (Elapse asking masks path ∷ steps) h left told =
    state_now c steps (after h (Elapse asking masks path)) left told.2
state_now c (step ∷ steps) h [] told = absurd told
state_now c (step ∷ steps) h (b ∷ left) told = state_now c steps (after h step) left told.2

-- accounts and idle ticks do not tell of a run
retold : (c d : Content) → c.horizon ≡ d.horizon → c.stretches ≡ d.stretches → (steps : List Step) (h : Hierarchy)
    (left : List Answered) → TellsFrom c h steps left → TellsFrom d h steps left
retold c d horizon stretches [] h [] told = told ∙ horizon
retold c d horizon stretches [] h (b ∷ left) told = absurd told
retold c d horizon stretches (Elapse asking masks path ∷ steps) h left told = (
  told.0,
  subst (λ ss. Rattle.hls_legal.specs.Tells.Names h path
      (Rattle.hls_legal.specs.Schedule.path_at ss h.now)) stretches told.1,
  retold c d horizon stretches steps (after h (Elapse asking masks path)) left told.2,
)
retold c d horizon stretches (step ∷ steps) h [] told = absurd told
retold c d horizon stretches (step ∷ steps) h (b ∷ left) told =
    (told.0, told.1, retold c d horizon stretches steps (after h step) left told.2)

short : (s : Scenario) → IsScenario s → s.horizon ≤ 1000000
short s is = horizon_fits s.version s.horizon is.horizon

totals_same : (c : Content) → with_totals (with_totals c) ≡ with_totals c
unfolding is_ready
totals_same c = refl

-- V and P are what the checker knows a box by, and W, Q and X a rule
module _ {V W : Type 0} {P : V → Type 0} {Q : W → Type 0}
    {X : Mut ((x : W) × Q x) (Guarantee × (Guarantee × Unit {0})) (Option Guarantee)}
    (seen : (x : V) × P x → Seen) where
  pub core_may_elapse : (c : Core V W P Q X) (s : Scenario) (given : ℕ) (boxes : Boxes) (most : ℕ)
      → IsCoreOf seen c s given boxes → c.journal.ticks + most ≤ c.scenario.horizon
      → Stands seen c.tree (MayElapse seen c.tree c.bursts c.stays c.journal most)
  core_may_elapse c s given boxes most is le =
      let now = state_now (told s.version s.items c.depth c.journal) is.steps start
      (answered_by s.items c.journal.answers.items) is.run.tells in
      let own = ap (λ (x : Scenario). x.horizon) is.scenario in
      let horizon = is.horizon in
      record {
        h = state start is.steps;
        tree = is.at_state.tree;
        seated = run_seated is.steps is.run.legal;
        listed = run_listed is.steps is.run.legal;
        is = record {
          at_state = is.at_state;
          stays = is.stays;
          standing = run_standing (told s.version s.items c.depth c.journal) is.steps is.run.legal is.run.tells;
          noted = is.noted;
          early = omega (arith, now, own, horizon, le);
          short = let few = short s is.within in omega (arith, horizon, few);
        };
      }

  pub core_few : (c : Core V W P Q X) (s : Scenario) (given : ℕ) (boxes : Boxes) → IsCoreOf seen c s given boxes
      → length c.journal.names.keys ≤ 65536
  core_few c s given boxes is =
      let one = is.kept.fewer in
      let two = is.kept.few in
      let three = is.within.few in omega (arith, one, two, three)

  pub core_may_tick : (c : Core V W P Q X) (s : Scenario) (given : ℕ) (boxes : Boxes) (most : ℕ)
      → IsCoreOf seen c s given boxes → 0 < most → c.journal.ticks + most ≤ c.scenario.horizon → MayTick c.journal
  core_may_tick c s given boxes most is some le =
      let own = ap (λ (x : Scenario). x.horizon) is.scenario in
      may_tick s c.journal is.kept (short s is.within) (omega (arith, own, le, some))

  pub core_small : (c : Core V W P Q X) (s : Scenario) (given : ℕ) (boxes : Boxes) (most n : ℕ)
      → IsCoreOf seen c s given boxes → n ≤ most → c.journal.ticks + most ≤ c.scenario.horizon
      → c.journal.ticks + n < 2 ^ 32
  core_small c s given boxes most n is few le =
      let own = ap (λ (x : Scenario). x.horizon) is.scenario in
      let within = short s is.within in omega (arith, own, le, few, within)

  pub core_within : (c : Core V W P Q X) (s : Scenario) (given : ℕ) (boxes : Boxes) (most : ℕ)
      → IsCoreOf seen c s given boxes → c.journal.ticks + most ≤ c.scenario.horizon → most ≤ always
  core_within c s given boxes most is le =
      let own = ap (λ (x : Scenario). x.horizon) is.scenario in
      let within = short s is.within in omega (arith, own, le, within)

  -- where ticks pass up to the next command at most, as many as nothing changes in, nothing happens in them
  pub core_leap : (c : Core V W P Q X) (s : Scenario) (given : ℕ) (boxes : Boxes) (end most n : ℕ)
      (is : IsCoreOf seen c s given boxes) → NoneWithin c.scenario.items c.agenda c.journal.ticks most
      → c.journal.ticks + most ≤ end → end ≤ c.scenario.horizon
      → IsUpTo c.scenario.items c.agenda end (c.journal.ticks + most) → n ≤ most
      → ((h : Hierarchy) → MayElapse seen c.tree c.bursts c.stays c.journal most h → IsStretch h most n)
      → IsLeapTo s c.agenda end (state start is.steps) n
  unfolding core_may_elapse
  core_leap c s given boxes end most n is none le early next few stretches =
      let h : Hierarchy = state start is.steps in
      let now : h.now ≡ c.journal.ticks =
      state_now (told s.version s.items c.depth c.journal) is.steps start (answered_by s.items c.journal.answers.items)
      is.run.tells in
      let items = ap (λ (x : Scenario). slice_get x.items c.agenda) is.scenario in
      let stretch = stretches h (core_may_elapse c s given boxes most is (omega (arith, le, early))).is in
      let comes : (n < most) ⊎ (most ≤ n) → Comes s c.agenda end h stretch.masks stretch.path n =
      λ which. elim which [
        | inl less ↦ at_change (stretch.change less)
        | inr whole ↦ elim (cases_lt (c.journal.ticks + most) end) [
          | inl before ↦
              let command = next before in
              let tick = command.2 in
              at_command command.0 (sym items ∙ command.1) (omega (arith, now, tick, whole, few))
          | inr late ↦ at_end (omega (arith, now, le, late, whole, few))
        ]
      ] in
      record {
        asking = stretch.asking;
        masks = stretch.masks;
        path = stretch.path;
        can = stretch.can;
        comes = comes (cases_lt n most);
        first = λ sooner c. elim c [
          | at_end at ↦ omega (arith, now, le, few, at)
          | at_command item there at ↦
              let clear = none item (items ∙ there) in omega (arith, now, clear, few, at)
          | at_change changes ↦ stretch.first sooner changes
        ];
      }

  pub path_short : (c : Core V W P Q X) (s : Scenario) (given : ℕ) (boxes : Boxes)
      (new : Rattle.hls_tree.specs.declared.tree.Tree.Tree V P)
      (spent : Rattle.hls_core.specs.declared.bursts.Bursts.Bursts) (counted : Stays) (path : Option Path) (most n : ℕ)
      (is : IsCoreOf seen c s given boxes) → c.journal.ticks + most ≤ c.scenario.horizon
      → ((h : Hierarchy) → MayElapse seen c.tree c.bursts c.stays c.journal most h
      → Elapses seen new spent counted c.journal h path n)
      → HasShort path
  unfolding core_may_elapse
  path_short c s given boxes new spent counted path most n is le elapses =
      way_short c.journal path (elapses (state start is.steps) (core_may_elapse c s given boxes most is le).is).way

  pub ticks_on : (old new : Core V W P Q X) (s : Scenario) (given : ℕ) (boxes : Boxes) (path : Option Path)
      (most n : ℕ) (is : IsCoreOf seen old s given boxes)
      → NoneWithin old.scenario.items old.agenda old.journal.ticks most
      → old.journal.ticks + most ≤ old.scenario.horizon
      → ((h : Hierarchy) → MayElapse seen old.tree old.bursts old.stays old.journal most h
      → Elapses seen new.tree new.bursts new.stays old.journal h path n)
      → 0 < n → n ≤ most → AreTicked n path old.journal new.journal → new.agenda ≡ old.agenda
      → new.scenario ≡ old.scenario
      → new.depth ≡ old.depth → new.kit ≡ old.kit → new.tree.horizon ≡ old.tree.horizon
      → IsCoreOf seen new s given boxes
  unfolding core_may_elapse
  ticks_on old new s given boxes path most n is none le elapses some few noted agenda scenario depth kit horizon =
      let own = ap (λ (x : Scenario). x.horizon) is.scenario in
      let h : Hierarchy = state start is.steps in
      let e = elapses h (core_may_elapse old s given boxes most is le).is in
      let ran = runs_on s old.depth old.agenda boxes old.journal h e.asking e.masks e.path path n n new.journal
      (record {
        kept = is.kept;
        answers = refl;
        names = refl;
        ticks = omega arith;
        past = is.steps;
        run = is.run;
        leads = refl;
        noted = is.noted;
        marks = is.marks;
      }) (omega arith) (omega (arith, own, le, few)) e.is.can e.names e.way noted in
      let ahead = ahead_next s.version s.horizon s.items old.agenda (old.journal.ticks + (n - 1)) is.within.items
      (λ item there. (let clear = none item (ap (λ (x : Scenario). slice_get x.items old.agenda) is.scenario ∙ there) in
      omega (arith, clear, some, few))) in
      record {
        scenario = scenario ∙ is.scenario;
        within = is.within;
        depth = depth ∙ is.depth;
        deep = subst (λ n. n ≤ 6) (sym depth) is.deep;
        place = agenda ∙ is.place ∙ sym (ap (λ xs. length xs.items) ran.answers);
        kept = ran.kept;
        ahead = λ at item le there.
            (let clear = ahead at item (omega (arith, le, agenda)) there in
            let ticks = ran.ticks in omega (arith, clear, ticks, some));
        good = subst (Rattle.hls_sched.specs.GoodKit.IsGood (Rattle.hls_sched.specs.Boxed.boxed seen)) (sym kit)
            is.good;
        left =
            ap Rattle.hls_manager.specs.Outcomes.boxes_in kit ∙ is.left
            ∙ ap (λ xs. Rattle.hls_legal.specs.Kit.boxes_left boxes (answered_by s.items xs.items))
            (sym ran.answers);
        steps = ran.past;
        run = subst (λ n. IsRun n boxes (told s.version s.items n new.journal) ran.past) (sym depth) ran.run;
        at_state = record {
          tree = subst (IsTreeOf seen new.tree) (sym ran.leads) e.is.tree;
          ready = subst (IsReadyOf seen new.tree) (sym ran.leads) e.ready;
          left = subst (IsLeft (begun_in new.bursts)) (sym ran.leads) e.left;
          reached = record { past = ran.past; legal = ran.run.legal; leads = refl };
        };
        stays = subst (AreStays new.stays) (sym ran.leads) e.stays;
        noted = subst (λ g. AreNoted g new.journal) (sym ran.leads) ran.noted;
        marks =
            subst (λ n. HasMarksFor (length s.items - n) (state start ran.past)) (sym agenda)
            (subst (λ g. HasMarksFor (length s.items - old.agenda) g) (sym ran.leads) ran.marks);
        horizon = horizon ∙ is.horizon;
      }

  pub ends_legal : (c : Core V W P Q X) (s : Scenario) (given : ℕ) (boxes : Boxes) (r : Report)
      → IsReportOf (told c.scenario.version c.scenario.items c.depth c.journal) r
      → c.journal.ticks ≡ c.scenario.horizon
      → IsCoreOf seen c s given boxes → IsLegalReport s given boxes r
  ends_legal c s given boxes r of ended is =
      let own = ap (λ (x : Scenario). x.horizon) is.scenario in
      let whole : c.journal.ticks ≡ s.horizon = ended ∙ own in
      let bare = told s.version s.items c.depth c.journal in
      let content : content_of r ≡ with_totals bare =
      of.content ∙ ap (λ (x : Scenario). with_totals (told x.version x.items c.depth c.journal)) is.scenario in
      let all : c.agenda ≡ length s.items =
      none_left s.version s.horizon s.items c.agenda is.within.items
      (let place = is.place in let few = is.kept.few in omega (arith, place, few))
      (subst (Rattle.hls_core.specs.Cores.AreAhead s.items c.agenda) whole is.ahead) in
      record {
        formed = of.formed;
        legal = subst (Rattle.hls_legal.specs.Legal.IsLegalContent s given boxes) (sym content) (record {
          formed = subst Rattle.hls_report_text.specs.WellFormed.IsContent content of.formed.content;
          version = refl;
          horizon = whole;
          depth = is.depth;
          commands = all_told s.items c.journal.answers.items (sym is.place ∙ all);
          steps = is.steps;
          run = record {
            legal = is.run.legal;
            tells = retold bare (with_totals bare) refl refl is.steps start bare.answered is.run.tells;
            answers = is.run.answers;
          };
          accounts = ap (λ (x : Content). x.accounts) (sym (totals_same bare));
          idle = ap (λ (x : Content). x.idle) (sym (totals_same bare));
        });
      }

  pub all_legal : {E : Type 0} (c : Core V W P Q X) (result : Result Report E)
      → IfOk result (IsReportOf (told c.scenario.version c.scenario.items c.depth c.journal))
      → c.journal.ticks ≡ c.scenario.horizon
      → IfOk result (λ r. (s : Scenario) (given : ℕ) (boxes : Boxes) → IsCoreOf seen c s given boxes
      → IsLegalReport s given boxes r)
  all_legal c (Ok r) of ended = λ s given boxes is. ends_legal c s given boxes r of ended is
  all_legal c (Err e) of ended = tt

  -- the accounts that were carried along are those that come of what is told
  pub core_accounts : (c : Core V W P Q X) (accounts : List Account) (now : ℕ) → Runs seen c → now ≡ c.journal.ticks
      → ((h : Hierarchy) → AreStays c.stays h → h.now ≡ now → accounts ≡ accounts_in h)
      → accounts ≡ accounts_of (told c.scenario.version c.scenario.items c.depth c.journal)
  core_accounts c accounts now runs at_now is =
      let x = runs.is in
      let content = told runs.s.version runs.s.items c.depth c.journal in
      let ticks = state_now content x.steps start (answered_by runs.s.items c.journal.answers.items) x.run.tells in
      is (state start x.steps) x.stays (ticks ∙ sym at_now)
      ∙ sym (accounts_told content x.steps x.run.legal x.run.tells)
      ∙ ap (λ (s : Scenario). accounts_of (told s.version s.items c.depth c.journal)) (sym x.scenario)

  pub core_idle : (c : Core V W P Q X) (idle : ℕ) → Runs seen c
      → ((h : Hierarchy) → AreStays c.stays h → idle ≡ idle_in h)
      → idle ≡ idle_of (told c.scenario.version c.scenario.items c.depth c.journal)
  core_idle c idle runs is =
      let x = runs.is in
      let content = told runs.s.version runs.s.items c.depth c.journal in
      is (state start x.steps) x.stays
      ∙ sym (idle_told content x.steps x.run.legal x.run.tells)
      ∙ ap (λ (s : Scenario). idle_of (told s.version s.items c.depth c.journal)) (sym x.scenario)
