-- A report tells who is ready and served in each tick of the legal run that it tells.
use Rattle.std.proofs.Common.{◌≡◌, ◌≢◌, ℕ, inl, inr, ◌+◌, ◌<◌, ◌≤◌, List, [], ◌∷◌, ◌++◌, ◌==◌}
use Rattle.std.proofs.Common.{Bool, true, false, if◌then◌else◌, refl, sym, ap, ◌∙◌, subst, arith}
use Rattle.std.specs.Prelude.{Option, Some, None}
use Rattle.std.specs.List.{AllByRecursion}
use Rattle.std.proofs.lemmas.Bool.{cases_eq}
use Rattle.std.proofs.lemmas.List.{append-nil, append_assoc}
use Rattle.hls_text.specs.Lines.{Text}
use Rattle.hls_scenario.specs.declared.scenario.Command.{Command}
use Rattle.hls_scenario.specs.declared.scenario.Command.TheVariants as said
use Rattle.hls_scenario.proofs.CanonicalLines.{all_append}
use Rattle.hls_report_text.specs.declared.report.Answer.{Answer}
use Rattle.hls_report_text.specs.declared.report.Answer.TheVariants.{Done, Refused}
use Rattle.hls_report_text.specs.declared.report.Answered.{Answered}
use Rattle.hls_report_text.specs.Content.{Content}
use Rattle.hls_machine.specs.Hierarchy.{Hierarchy, Node, Loaded, Admitted, Stay, Tick, Wake, Asleep, name_of}
use Rattle.hls_machine.specs.Hierarchy.{Burst, start}
use Rattle.hls_machine.specs.Hierarchy.{Awake, Awake_for, is_just, was_served, had_asked}
use Rattle.hls_machine.specs.Steps.{Step, Load, Admit, End, Unload, Move, Rouse, Block, Elapse}
use Rattle.hls_machine.specs.Steps.{Path, thread_of, is_thread}
use Rattle.hls_machine.specs.Steps.{with_wake, wake_by, roused, reseated, elapsed, nobody, loaded, admitted}
use Rattle.hls_machine.specs.Steps.{after}
use Rattle.hls_machine.specs.Steps.{state, hop_at, hops_of}
use Rattle.hls_machine.specs.Legal.{Can, IsLegal, IsAsking, IsNew}
use Rattle.hls_machine.proofs.Kept.{at_same, at_other}
use Rattle.hls_legal.specs.Commands.{has_done, rouses}
use Rattle.hls_legal.specs.Schedule.{path_at, is_served}
use Rattle.hls_legal.specs.Ready.{is_ready}
use Rattle.hls_legal.specs.Tells.{HasName, Answers, Names, TellsFrom, Tells, burst_of}
use Rattle.hls_legal.proofs.Rousings.{name_in, not_meant, names_same, wake_from, wake_since}
use Rattle.hls_legal.proofs.Alike.{wake_of, alike-ticked, almost-roused, wake-roused, moved-reseated}
use Rattle.hls_legal.proofs.Told.{IsThreadNamed, Wakes, Serves, Leaves, Makes, RousesEach, wakes_step}
use Rattle.hls_legal.proofs.Told.{serves_step, Unique, served_now, is_served-at, ready_now}
use Rattle.hls_legal.proofs.ToldSteps.{IsStayTold, IsTold, each_same, told_effect, each_effect}
use Rattle.hls_legal.proofs.Reached.{IsReached, listed, reached_next, reached_start}

-- ---- a refusal

told_refuse : (c : Content) (before : List Answered) (a : Answered) (h : Hierarchy) → a.tick ≡ h.now
    → ((name : Text) → has_done (rouses name) a ≡ false) → IsTold c before h → IsTold c (before ++ a ∷ []) h
told_refuse c before a h at none told =
    let each : RousesEach h.nodes h.nodes h.now a = λ k name t. Leaves t refl (none name) in
    record {
      early = all_append (λ (b : Answered). b.tick ≤ h.now) before (a ∷ []) told.early (omega arith, tt);
      wakes = wakes_step h.nodes h.nodes h.now before a told.wakes each;
      serves = serves_step c h.nodes h.nodes h.now h.past a told.serves each;
      stays = told.stays;
    }

-- ---- a wake or a block

module _ (c : Content) (h : Hierarchy) (k : ℕ) (how : Wake) where
  abbrev woken : ℕ → Option Node
  woken d = if d == k then roused how (h.nodes d) else h.nodes d

  named_if : (d : ℕ) (name : Text) (b : Bool)
      → IsThreadNamed (λ x. if b then roused how (h.nodes x) else h.nodes x) d name
      → IsThreadNamed h.nodes d name
  named_if d name true t =
      let like = almost-roused how (h.nodes d) in
      record { is = sym like.sort ∙ t.is; named = sym like.name ∙ t.named }
  named_if d name false t = record { is = t.is; named = t.named }

  named_then : (d : ℕ) (name : Text) (b : Bool) → IsThreadNamed h.nodes d name
      → IsThreadNamed (λ x. if b then roused how (h.nodes x) else h.nodes x) d name
  named_then d name true t =
      let like = almost-roused how (h.nodes d) in
      record { is = like.sort ∙ t.is; named = like.name ∙ t.named }
  named_then d name false t = record { is = t.is; named = t.named }

  named_was : (d : ℕ) (name : Text) → IsThreadNamed woken d name → IsThreadNamed h.nodes d name
  named_was d name t =
      let u = named_if d name (d == k) (record { is = t.is; named = t.named }) in
      record { is = u.is; named = u.named }

  named_is : (d : ℕ) (name : Text) → IsThreadNamed h.nodes d name → IsThreadNamed woken d name
  named_is d name t =
      let u = named_then d name (d == k) t in
      record { is = u.is; named = u.named }

  stay_woken : (stay : Stay) → IsStayTold c h stay stay.until
      → IsStayTold c (with_wake h k how) stay stay.until
  stay_woken stay s = record {
    past = s.past;
    asked = s.asked;
    served = s.served;
    open_yet = λ e. named_is stay.thread stay.name (s.open_yet e);
  }

  pub told_wake : (before : List Answered) (a : Answered) → a.tick ≡ h.now → IsTold c before h
      → RousesEach h.nodes woken h.now a → IsTold c (before ++ a ∷ []) (with_wake h k how)
  told_wake before a at told each = record {
    early = all_append (λ (b : Answered). b.tick ≤ h.now) before (a ∷ []) told.early (omega arith, tt);
    wakes = wakes_step h.nodes woken h.now before a told.wakes each;
    serves = serves_step c h.nodes woken h.now h.past a told.serves each;
    stays = each_same (λ (stay : Stay). IsStayTold c h stay stay.until)
        (λ (stay : Stay). IsStayTold c (with_wake h k how) stay stay.until) h.stays stay_woken told.stays;
  }

  pub each_wake : (a : Answered) → Unique h.nodes → name_of (h.nodes k) ≡ Some (name_in a.command)
      → is_thread (h.nodes k) ≡ true → has_done (rouses (name_in a.command)) a ≡ true
      → how ≡ wake_from (Some a) → wake_since h.now how ≡ h.now
      → RousesEach h.nodes woken h.now a
  each_wake a unique named is hit wake since d name t =
      let was = named_was d name t in
      elim (cases_eq d k) [
        | inl e ↦
            let same : name ≡ name_in a.command =
            (let both : Some name ≡ Some (name_in a.command) =
            sym was.named ∙ ap (λ x. name_of (h.nodes x)) e ∙ named in cc) in
            let now_how : wake_of (woken d) ≡ how =
            ap wake_of (at_same d k (roused how (h.nodes d)) (h.nodes d) e)
            ∙ wake-roused how (h.nodes d) (was.is) in
            Makes (ap (λ n. has_done (rouses n) a) same ∙ hit) (now_how ∙ wake)
            (ap (wake_since h.now) now_how ∙ since)
        | inr ne ↦
            Leaves was (ap wake_of (at_other d k (roused how (h.nodes d)) (h.nodes d) ne))
            (not_meant name a (λ e. ne (unique d k name was.named (named ∙ ap (λ n. Some n) e))))
      ]

-- ---- a tick

since_later : (now x : ℕ) (w : Wake) → wake_since (now + 1) w ≤ x → x < now + 1 → wake_since now w ≤ x
since_later now x Asleep lo hi = absurd (omega arith)
since_later now x Awake lo hi = absurd (omega arith)
since_later now x (Awake_for burst since) lo hi = lo

module _ (c : Content) (h : Hierarchy) (asking : ℕ → Bool) (masks : ℕ → ℕ) (path : Option Path)
    (asks : IsAsking h asking masks) (unique : Unique h.nodes)
    (told_path : Names h path (path_at c.stretches h.now))
    (before left : List Answered) (all : c.answered ≡ before ++ left)
    (late : AllByRecursion (λ (a : Answered). h.now < a.tick) left) (told : IsTold c before h) where
  abbrev later : Hierarchy
  later = elapsed h asking masks path

  abbrev this : Tick
  this = record { asking = asking; to = thread_of path }

  named_before : (k : ℕ) (name : Text) → IsThreadNamed later.nodes k name → IsThreadNamed h.nodes k name
  named_before k name t =
      let like = alike-ticked (masks k) (hop_at (hops_of path) k) (h.nodes k) in
      record { is = sym like.sort ∙ t.is; named = sym like.name ∙ t.named }

  named_after : (k : ℕ) (name : Text) → IsThreadNamed h.nodes k name → IsThreadNamed later.nodes k name
  named_after k name t =
      let like = alike-ticked (masks k) (hop_at (hops_of path) k) (h.nodes k) in
      record { is = like.sort ∙ t.is; named = like.name ∙ t.named }

  served_this : (k : ℕ) (name : Text) (x : ℕ) → IsThreadNamed h.nodes k name → x ≡ h.now
      → was_served later.past k x ≡ is_served c.stretches name x
  served_this k name x t e =
      ap (λ (w : Tick). is_just w.to k) (at_same x h.now this (h.past x) e)
      ∙ served_now h path (path_at c.stretches h.now) k name unique told_path t.named
      ∙ sym (is_served-at c name h.now) ∙ ap (is_served c.stretches name) (sym e)

  asked_this : (k : ℕ) (name : Text) (x : ℕ) → IsThreadNamed h.nodes k name → x ≡ h.now
      → had_asked later.past k x ≡ is_ready c name x
  asked_this k name x t e =
      ap (λ (w : Tick). w.asking k) (at_same x h.now this (h.past x) e)
      ∙ asks.nodes k
      ∙ ready_now c h before left k (masks k) name all told.early late told.wakes told.serves t
      ∙ ap (is_ready c name) (sym e)

  served_past : (k x : ℕ) → x ≢ h.now → was_served later.past k x ≡ was_served h.past k x
  served_past k x ne = ap (λ (w : Tick). is_just w.to k) (at_other x h.now this (h.past x) ne)

  asked_past : (k x : ℕ) → x ≢ h.now → had_asked later.past k x ≡ had_asked h.past k x
  asked_past k x ne = ap (λ (w : Tick). w.asking k) (at_other x h.now this (h.past x) ne)

  wakes_later : Wakes later.nodes before
  wakes_later k name t =
      (alike-ticked (masks k) (hop_at (hops_of path) k) (h.nodes k)).wake
      ∙ told.wakes k name (named_before k name t)

  serves_later : Serves c later.now later.past later.nodes
  serves_later k name t x lo hi =
      let was = named_before k name t in
      let same = (alike-ticked (masks k) (hop_at (hops_of path) k) (h.nodes k)).wake in
      let from = since_later h.now x (wake_of (h.nodes k))
      (subst (λ w. wake_since (h.now + 1) w ≤ x) same lo) hi in
      elim (cases_eq x h.now) [
        | inl e ↦ served_this k name x was e
        | inr ne ↦ served_past k x ne ∙ told.serves k name was x from (omega arith)
      ]

  stay_later : (stay : Stay) (until : Option ℕ) → IsStayTold c h stay until → IsStayTold c later stay until
  stay_later stay None s =
      let t = s.open_yet refl in
      record {
        past = omega arith;
        asked = λ x lo hi. elim (cases_eq x h.now) [
          | inl e ↦ asked_this stay.thread stay.name x t e
          | inr ne ↦ asked_past stay.thread x ne ∙ s.asked x lo (omega arith)
        ];
        served = λ x lo hi. elim (cases_eq x h.now) [
          | inl e ↦ served_this stay.thread stay.name x t e
          | inr ne ↦ served_past stay.thread x ne ∙ s.served x lo (omega arith)
        ];
        open_yet = λ e. named_after stay.thread stay.name t;
      }
  stay_later stay (Some until) s =
      let le : until ≤ h.now = s.past in
      record {
        past = omega arith;
        asked = λ x lo hi. asked_past stay.thread x (λ e. omega arith) ∙ s.asked x lo hi;
        served = λ x lo hi. served_past stay.thread x (λ e. omega arith) ∙ s.served x lo hi;
        open_yet = λ e. absurd (cc);
      }

  pub told_tick : IsTold c before later
  told_tick = record {
    early = each_same (λ (a : Answered). a.tick ≤ h.now) (λ (a : Answered). a.tick ≤ h.now + 1) before
        (λ a le. omega arith) told.early;
    wakes = wakes_later;
    serves = serves_later;
    stays = each_same (λ (stay : Stay). IsStayTold c h stay stay.until)
        (λ (stay : Stay). IsStayTold c later stay stay.until) h.stays
        (λ stay s. stay_later stay stay.until s) told.stays;
  }

-- ---- a step, and a run

woken_by : (how : Option Burst) (every burst : Option ℕ) (now tick : ℕ) (name : Text)
    → how ≡ burst_of every burst → tick ≡ now
    → wake_by how now
    ≡ wake_from (Some (record { tick = tick; command = said.Wake name every burst; answer = Done [] }))
woken_by how every None now tick name e at = ap (λ (b : Option Burst). wake_by b now) e
woken_by how every (Some n) now tick name e at = ap (λ (b : Option Burst). wake_by b now) e
    ∙ ap (λ (t : ℕ). Awake_for (record { ticks = n; every = every }) t) (sym at)

since_woken : (how : Option Burst) (now : ℕ) → wake_since now (wake_by how now) ≡ now
since_woken None now = refl
since_woken (Some burst) now = refl

pub old_name : (h : Hierarchy) → Unique h.nodes → (k : ℕ) (mine : Text) → HasName h k mine
    → (d : ℕ) (name : Text)
    → d ≢ k → name_of (h.nodes d) ≡ Some name → mine ≢ name
old_name h unique k mine has d name ne named e = ne
    (unique d k name named (has ∙ ap (λ (n : Text). Some n) e))

pub new_name : (h : Hierarchy) (k : ℕ) (new mine : Text) → IsNew h k new → new ≡ mine → (d : ℕ) (name : Text)
    → d ≢ k → name_of (h.nodes d) ≡ Some name → mine ≢ name
new_name h k new mine is same d name ne named e = is.fresh d
    (named ∙ ap (λ (n : Text). Some n) (sym (same ∙ e)))

pub step_told : (c : Content) (h : Hierarchy) (before : List Answered) (tick : ℕ) (command : Command)
    (answer : Answer) (step : Step) → Can h step → Answers h command answer step → tick ≡ h.now
    → Unique h.nodes → IsTold c before h
    → IsTold c (before ++ (record { tick = tick; command = command; answer = answer }) ∷ []) (after h step)
step_told c h before tick command (Refused refusal) step can does at unique told =
    let a : Answered = record { tick = tick; command = command; answer = Refused refusal } in
    subst (λ (s : Step). IsTold c (before ++ a ∷ []) (after h s)) (sym does)
    (told_refuse c before a h at (λ name. refl) told)
step_told c h before tick (said.Load name config perches) (Done by)
    (Load k new set spare_ticks spare_marks seats)
    can does at unique told =
    let a : Answered = record { tick = tick; command = said.Load name config perches; answer = Done by } in
    let node : Option Node = Some (Loaded (loaded h.now new set spare_ticks spare_marks seats)) in
    told_effect c h k node nobody before a at told
    (each_effect c h k node nobody a (new_name h k new name can.0.new does.0) (λ n is named. absurd (cc)))
step_told c h before tick (said.Thread name perch) (Done by) (Admit k new seat) can does at unique told =
    let a : Answered = record { tick = tick; command = said.Thread name perch; answer = Done by } in
    let node : Option Node = Some (Admitted (admitted h.now new seat)) in
    told_effect c h k node nobody before a at told
    (each_effect c h k node nobody a (new_name h k new name can.new does.0)
    (λ n is named. Makes (names_same n name (let mine : new ≡ n = cc in sym does.0 ∙ mine)) refl refl))
step_told c h before tick (said.End name) (Done by) (End k) can does at unique told =
    let a : Answered = record { tick = tick; command = said.End name; answer = Done by } in
    told_effect c h k None nobody before a at told
    (each_effect c h k None nobody a (old_name h unique k name does) (λ n is named. absurd (cc)))
step_told c h before tick (said.Unload name) (Done by) (Unload k) can does at unique told =
    let a : Answered = record { tick = tick; command = said.Unload name; answer = Done by } in
    told_effect c h k None nobody before a at told
    (each_effect c h k None nobody a (old_name h unique k name does) (λ n is named. absurd (cc)))
step_told c h before tick (said.Move name perch) (Done by) (Move k seat below) can does at unique told =
    let a : Answered = record { tick = tick; command = said.Move name perch; answer = Done by } in
    let node = reseated seat (h.nodes k) in
    let moved = moved-reseated seat (h.nodes k) in
    told_effect c h k node below before a at told
    (each_effect c h k node below a (old_name h unique k name does.0)
    (λ n is named. Leaves (record { is = sym moved.sort ∙ is; named = sym moved.name ∙ named }) moved.wake
    refl))
step_told c h before tick (said.Wake name every burst) (Done by) (Rouse k how) can does at unique told =
    let a : Answered = record { tick = tick; command = said.Wake name every burst; answer = Done by } in
    told_wake c h k (wake_by how h.now) before a at told
    (each_wake c h k (wake_by how h.now) a unique does.0 (ap is_thread can.there)
    (names_same name name refl)
    (woken_by how every burst h.now tick name does.1 at) (since_woken how h.now))
step_told c h before tick (said.Block name) (Done by) (Block k) can does at unique told =
    let a : Answered = record { tick = tick; command = said.Block name; answer = Done by } in
    told_wake c h k Asleep before a at told
    (each_wake c h k Asleep a unique does (ap is_thread can.there) (names_same name name refl) refl refl)
step_told c h before tick _ (Done by) _ can does at unique told = absurd does

pub one_more : (c : Content) (before left : List Answered) (a : Answered) → c.answered ≡ before ++ (a ∷ left)
    → c.answered ≡ (before ++ a ∷ []) ++ left
one_more c before left a all = all ∙ sym (append_assoc before (a ∷ []) left)

run_told : (steps : List Step) (c : Content) (h : Hierarchy) (before left : List Answered)
    → c.answered ≡ before ++ left → IsReached h → IsLegal h steps → TellsFrom c h steps left
    → IsTold c before h → IsTold c c.answered (state h steps)
run_told [] c h before [] all reached legal tells told =
    subst (λ (b : List Answered). IsTold c b h) (sym (all ∙ append-nil before)) told
run_told [] c h before (a ∷ left) all reached legal tells told = absurd tells
run_told (Elapse asking masks path ∷ steps) c h before left all reached legal tells told =
    run_told steps c (after h (Elapse asking masks path)) before left all
    (reached_next h (Elapse asking masks path) reached legal.0) legal.1 tells.2
    (told_tick c h asking masks path legal.0.0 (listed h reached).names tells.1 before left all tells.0 told)
run_told (step ∷ steps) c h before (a ∷ left) all reached legal tells told =
    run_told steps c (after h step) (before ++ a ∷ []) left (one_more c before left a all)
    (reached_next h step reached legal.0) legal.1 tells.2
    (step_told c h before a.tick a.command a.answer step legal.0 tells.1 tells.0 (listed h reached).names
    told)
run_told (step ∷ steps) c h before [] all reached legal tells told = absurd tells

pub start_told : (c : Content) → IsTold c [] start
start_told c = record {
  early = tt;
  wakes = λ k name t. absurd (let is = t.is in cc);
  serves = λ k name t x lo hi. absurd (omega arith);
  stays = tt;
}

pub told_run : (c : Content) (steps : List Step) → IsLegal start steps → Tells c steps
    → IsTold c c.answered (state start steps)
told_run c steps legal tells = run_told steps c start [] c.answered refl reached_start legal tells
    (start_told c)
