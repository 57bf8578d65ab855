-- Jobs of the threads of legal reports.
use Rattle.std.proofs.Common.{◌≡◌, ℕ, zero, suc, ◌<◌, ◌≤◌, List, [], ◌∷◌}
use Rattle.std.proofs.Common.{slice_get, refl, sym, ap, ◌∙◌, subst, arith}
use Rattle.std.specs.Prelude.{Option, Some, None, option_map}
use Rattle.std.specs.List.{AllByRecursion}
use Rattle.std.proofs.lemmas.Option.{slice_get-map}
use Rattle.hls_text.specs.Lines.{Text}
use Rattle.hls_chron.specs.declared.plain.Terms.{Terms}
use Rattle.hls_chron.specs.declared.plain.Terms.TheVariants.{Res}
use Rattle.hls_kinds.specs.declared.reservations.Reservation.{Reservation}
use Rattle.hls_scenario.specs.declared.scenario.Spot.{Spot}
use Rattle.hls_scenario.specs.declared.scenario.Spot.TheVariants.{Cpu, Under}
use Rattle.hls_scenario.specs.declared.scenario.Perch.{Perch}
use Rattle.hls_scenario.specs.declared.scenario.Command.{Command}
use Rattle.hls_scenario.specs.declared.scenario.Command.TheVariants.{Load, Thread, End, Unload, Move, Wake, Block}
use Rattle.hls_report_text.specs.declared.report.Answered.{Answered}
use Rattle.hls_report_text.specs.Content.{Content}
use Rattle.hls_machine.specs.Hierarchy.{Hierarchy, Node, Admitted, Place, Processor, At, Seat, start, seats_of, seat_of}
use Rattle.hls_machine.specs.Hierarchy.{name_of, had_asked, was_served}
use Rattle.hls_machine.specs.Hierarchy as run
use Rattle.hls_machine.specs.Steps.{Step, state}
use Rattle.hls_machine.specs.Legal.{IsLegal}
use Rattle.hls_machine.proofs.Seatings.{lone_port}
use Rattle.hls_machine.proofs.Stays.{Stands, StandsBy, IsOpen}
use Rattle.hls_legal.specs.declared.stay.Stay.{Stay}
use Rattle.hls_legal.specs.Schedule.{is_served}
use Rattle.hls_legal.specs.Ready.{is_ready}
use Rattle.hls_legal.specs.Agrees.{told_stay}
use Rattle.hls_legal.specs.Tells.{HasName, IsSpot, IsPerch, ArePerches, terms_in, TellsFrom, Tells}
use Rattle.hls_legal.proofs.Seatings.{perches_in, perches_from, AreSeatedBy}
use Rattle.hls_legal.proofs.ToldSteps.{IsStayTold}
use Rattle.hls_legal.proofs.OrderRuns.{IsTellingAll, telling_run}
use Rattle.hls_legal.specs.Moment.{perches_of}
use Rattle.hls_legal_jobs.specs.Jobs.{AsksForJobs, AreInTime}
use Rattle.hls_legal_jobs.specs.Runs.{HasReservation}
use Rattle.hls_legal_jobs.specs.Reports.{IsLastSeat, SitsReserved, GoesOnAfter, IsWokenInTurn, IsServedInTime}
use Rattle.hls_legal_jobs.proofs.Agreeing.{Agree, turned, jobs-agree, in_time-agree}
use Rattle.hls_legal_jobs.proofs.Legal.{jobs_in_run, wide_in_run}
use Rattle.hls_legal_jobs.proofs.Standing.{stays_stand}
use Rattle.hls_legal_jobs.proofs.Wakes.{is_release, periods_at, jobs_are_woken, served_in_time}
use Rattle.hls_legal_jobs.proofs.Cuts.{cut, IsCut, IsCutRun, run_cut, ready_same}

-- an item of a list, by its place
all_at : {X : Type 0} (P : X → Type 0) (xs : List X) (n : ℕ) (x : X) → AllByRecursion P xs → slice_get xs n ≡ Some x
    → P x
all_at P [] n x all e = absurd (cc)
all_at P (y ∷ xs) zero x all e = let same : y ≡ x = cc in subst P same all.0
all_at P (y ∷ xs) (suc n) x all e = all_at P xs n x all.1 e

record IsFound {X Y : Type 0} (f : X → Y) (found : Option X) (y : Y) : Type 0 where
  pub item : X
  pub there : found ≡ Some item
  pub is : f item ≡ y

found_by : {X Y : Type 0} (f : X → Y) (found : Option X) (y : Y) → option_map f found ≡ Some y → IsFound f found y
found_by f None y e = absurd (cc)
found_by f (Some x) y e = record { item = x; there = refl; is = cc }

-- seats as they were asked for
perches_same : (command : Command) → perches_in command ≡ perches_of command
perches_same (Load name config perches) = refl
perches_same (Thread name perch) = refl
perches_same (End name) = refl
perches_same (Unload name) = refl
perches_same (Move name perch) = refl
perches_same (Wake name every burst) = refl
perches_same (Block name) = refl

record HasPerch (h : Hierarchy) (held : List Seat) (port : ℕ) (perch : Perch) : Type 0 where
  pub seat : Seat
  pub there : slice_get held port ≡ Some seat
  pub is : IsPerch h seat perch

perch_at : (h : Hierarchy) (held : List Seat) (perches : List Perch) (port : ℕ) (perch : Perch)
    → ArePerches h held perches → slice_get perches port ≡ Some perch → HasPerch h held port perch
perch_at h [] [] port perch are e = absurd (cc)
perch_at h [] (other ∷ perches) port perch are e = absurd are
perch_at h (seat ∷ held) [] port perch are e = absurd are
perch_at h (seat ∷ held) (other ∷ perches) zero perch are e =
    let same : other ≡ perch = cc in
    record { seat = seat; there = refl; is = subst (IsPerch h seat) same are.0 }
perch_at h (seat ∷ held) (other ∷ perches) (suc port) perch are e =
    let rest = perch_at h held perches port perch are.1 e in
    record { seat = rest.seat; there = rest.there; is = rest.is }

has_perch : (h : Hierarchy) (before : List Answered) (k : ℕ) (name : Text) (perch : Perch) → AreSeatedBy h before
    → HasName h k name → (s : IsLastSeat before name perch) → HasPerch h (seats_of (h.nodes k)) s.port perch
has_perch h before k name perch seated has s =
    perch_at h (seats_of (h.nodes k)) (perches_of s.by.command) s.port perch
    (subst (ArePerches h (seats_of (h.nodes k))) (ap perches_from s.last ∙ perches_same s.by.command)
    (seated k name has).perches) s.seat

record IsUnder (h : Hierarchy) (place : Place) (scheduler : Text) : Type 0 where
  pub p : ℕ
  pub slot : ℕ
  pub at : place ≡ At p slot
  pub named : HasName h p scheduler

spot_under : (h : Hierarchy) (place : Place) (spot : Spot) (scheduler : Text) (terms : Terms)
    → spot ≡ Under scheduler terms → IsSpot h place spot → IsUnder h place scheduler
spot_under h Processor Cpu scheduler terms e is = absurd (cc)
spot_under h Processor (Under other others) scheduler terms e is = absurd is
spot_under h (At p slot) Cpu scheduler terms e is = absurd is
spot_under h (At p slot) (Under other others) scheduler terms e is =
    let same : other ≡ scheduler = cc in
    record { p = p; slot = slot; at = refl; named = subst (HasName h p) same is }

-- a thread that is reserved by the commands has the reservation in the run
pub record IsReservedIn (c : Content) (h : Hierarchy) (name : Text) (r : Reservation) (scheduler : Text) : Type 0 where
  pub thread : ℕ
  pub named : HasName h thread name
  pub above : ℕ
  pub loaded : HasName h above scheduler
  pub has : HasReservation h thread r
  pub asked : (t : ℕ) → r.since ≤ t → t < h.now → had_asked h.past thread t ≡ is_ready c name t
  pub served : (t : ℕ) → r.since ≤ t → t < h.now → was_served h.past thread t ≡ is_served c.stretches name t

module _ (c : Content) (h : Hierarchy) (telling : IsTellingAll c h) (stand : AllByRecursion (Stands h) h.stays)
    (place : ℕ) (of : Stay) (goes_on : GoesOnAfter c.answered place of) (r : Reservation) (since : of.since ≡ r.since)
    (is : SitsReserved c.answered of.name r) where
  abbrev name : Text
  name = of.name

  found : IsFound told_stay (slice_get h.stays place) (record of { until = None })
  found = found_by told_stay (slice_get h.stays place) (record of { until = None })
      (sym (slice_get-map told_stay h.stays place)
      ∙ ap (λ (xs : List Stay). slice_get xs place) telling.all.ordered.stays ∙ goes_on)

  abbrev stay : run.Stay
  stay = found.item

  open_yet : stay.until ≡ None
  open_yet = ap (λ (s : Stay). s.until) found.is

  told : IsStayTold c h stay None
  told = subst (IsStayTold c h stay) open_yet
      (all_at (λ (s : run.Stay). IsStayTold c h s s.until) h.stays place stay telling.all.told.stays found.there)

  opened : IsOpen h stay
  opened = subst (StandsBy h stay) open_yet (all_at (Stands h) h.stays place stay stand found.there)

  called : stay.name ≡ name
  called = ap (λ (s : Stay). s.name) found.is

  since_same : stay.since ≡ r.since
  since_same = ap (λ (s : Stay). s.since) found.is ∙ since

  named : HasName h stay.thread name
  named = (told.open_yet refl).named ∙ ap (λ (n : Text). Some n) called

  perched : HasPerch h (seats_of (h.nodes stay.thread)) is.seated.port is.seat
  perched = has_perch h c.answered stay.thread name is.seat telling.all.ordered.seated named is.seated

  seat_same : opened.thread.seat ≡ perched.seat
  seat_same = (lone_port opened.thread.seat perched.seat is.seated.port
      (sym (ap (λ n. seat_of n is.seated.port) opened.there) ∙ perched.there)).same

  under : IsUnder h perched.seat.place is.scheduler
  under = spot_under h perched.seat.place is.seat.spot is.scheduler (Res is.hard r.x r.y) is.spot perched.is.place

  above : HasPerch h (seats_of (h.nodes under.p)) is.loaded.port is.above
  above = has_perch h c.answered under.p is.scheduler is.above telling.all.ordered.seated under.named is.loaded

  pub theirs : IsReservedIn c h name r is.scheduler
  theirs = record {
    thread = stay.thread;
    named = named;
    above = under.p;
    loaded = under.named;
    has = record {
      thread = opened.thread;
      there = opened.there;
      scheduler = under.p;
      slot = under.slot;
      sits = ap (λ (s : Seat). s.place) seat_same ∙ under.at;
      hard = is.hard;
      terms = ap (λ (s : Seat). s.terms) seat_same ∙ perched.is.terms ∙ ap terms_in is.spot;
      since = opened.begun ∙ since_same;
      all = record {
        port = is.loaded.port;
        seat = above.seat;
        sits = above.there;
        kept = above.is.kept ∙ is.all;
      };
    };
    asked = λ t from to. told.asked t (omega (arith, since_same)) to ∙ ap (λ (n : Text). is_ready c n t) called;
    served = λ t from to. told.served t (omega (arith, since_same)) to ∙ ap (λ
        (n : Text). is_served c.stretches n t) called;
  }

pub jobs_before_cut : (c : Content) (steps : List Step) (before left : List Answered) (from until place : ℕ)
    (stay : Stay) (r : Reservation) → IsLegal start steps → Tells c steps → IsCut c before left until
    → GoesOnAfter before place stay → stay.since ≡ r.since → SitsReserved before stay.name r
    → IsWokenInTurn c stay.name r from until → IsServedInTime c stay.name r from until
jobs_before_cut c steps before left from until place stay r legal tells is goes_on since reserved turn =
    let name = stay.name in
    let goes : IsCutRun c before until start before =
    run_cut c before until steps start before left legal
    (subst (TellsFrom c start steps) is.all tells) is.early is.late (omega arith) is.within in
    let d : Content = cut c before until in
    let h : Hierarchy = state start goes.steps in
    let telling : IsTellingAll d h = telling_run d goes.steps goes.legal goes.tells in
    let it : IsReservedIn d h name r reserved.scheduler =
    theirs d h telling (stays_stand goes.steps goes.legal) place stay goes_on r since reserved in
    let clock : h.now ≡ until = telling.now in
    let asks : Agree (is_ready c name) (had_asked h.past it.thread) r.since h.now =
    λ t low to. sym {a = had_asked h.past it.thread t}
    (it.asked t low to ∙ ready_same c t until name before left is (omega (arith, clock))) in
    let serves : Agree (is_served c.stretches name) (was_served h.past it.thread) r.since h.now =
    λ t low to. sym {a = was_served h.past it.thread t} (it.served t low to) in
    let wide = wide_in_run goes.steps it.thread r goes.legal it.has in
    let count_of = periods_at c name r in
    let jobs : AsksForJobs r count_of from (is_release c name) (is_ready c name) (is_served c.stretches name) h.now =
    rw clock (jobs_are_woken c name r from until wide turn) in
    let good = jobs_in_run goes.steps it.thread r count_of from (is_release c name) goes.legal it.has
    (jobs-agree r count_of from (is_release c name) (is_ready c name) (had_asked h.past it.thread)
    (is_served c.stretches name) (was_served h.past it.thread) h.now asks serves jobs) in
    let back : AreInTime r count_of from (is_release c name) (is_ready c name) (is_served c.stretches name) h.now =
    in_time-agree r count_of from (is_release c name) (had_asked h.past it.thread) (is_ready c name)
    (was_served h.past it.thread) (is_served c.stretches name) h.now
    (turned (is_ready c name) (had_asked h.past it.thread) r.since h.now asks)
    (turned (is_served c.stretches name) (was_served h.past it.thread) r.since h.now serves) turn.since good in
    served_in_time c name r from until wide turn
    (subst (λ (now : ℕ). AreInTime r count_of from (is_release c name) (is_ready c name)
    (is_served c.stretches name) now)
    clock back)
