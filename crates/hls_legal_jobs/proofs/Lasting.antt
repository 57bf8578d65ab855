-- While a stay goes on its thread keeps its seat, and the scheduler that it sits on keeps its own.
use Rattle.std.proofs.Common.{◌≡◌, ℕ, zero, suc, ◌≤◌, inl, inr, List, [], ◌∷◌, ◌++◌, ◌||◌, Bool, true, false}
use Rattle.std.proofs.Common.{if◌then◌else◌, map, length, slice_get, refl, sym, ap, ◌∙◌, subst, arith}
use Rattle.std.specs.Prelude.{Option, Some, None, option_map}
use Rattle.std.specs.List.{list_any, AllByRecursion}
use Rattle.std.specs.Str.{bytes_eq}
use Rattle.std.proofs.lemmas.Bool.{cases_Bool}
use Rattle.std.proofs.lemmas.List.{append-nil, append_assoc}
use Rattle.std.proofs.lemmas.Option.{slice_get-map}
use Rattle.std.proofs.lemmas.Slice.Eq.{bytes_eq-Decides}
use Rattle.hls_text.specs.Lines.{Text}
use Rattle.hls_chron.specs.declared.plain.Terms.{Terms}
use Rattle.hls_chron.specs.declared.plain.Terms.TheVariants.{Res}
use Rattle.hls_scenario.specs.declared.scenario.Spot.TheVariants.{Under}
use Rattle.hls_scenario.specs.declared.scenario.Perch.{Perch}
use Rattle.hls_scenario.specs.declared.scenario.Command.{Command}
use Rattle.hls_scenario.specs.declared.scenario.Command.TheVariants as said
use Rattle.hls_report_text.specs.declared.report.Answer.{Answer}
use Rattle.hls_report_text.specs.declared.report.Answer.TheVariants.{Done, Refused}
use Rattle.hls_report_text.specs.declared.report.Answered.{Answered}
use Rattle.hls_report_text.specs.Content.{Content}
use Rattle.hls_machine.specs.Hierarchy.{Hierarchy, start}
use Rattle.hls_machine.specs.Steps.{Step, Refuse, Load, Admit, End, Unload, Move, Rouse, Block, Elapse, after}
use Rattle.hls_machine.specs.Steps.{state}
use Rattle.hls_machine.specs.Legal.{Can, IsLegal}
use Rattle.hls_legal.specs.declared.stay.Stay.{Stay}
use Rattle.hls_legal.specs.Accounts.{end_of, end_by as end_with}
use Rattle.hls_legal.specs.Commands.{has_done, seats, last_seating}
use Rattle.hls_legal.specs.Under.{is_on, seats_on, is_within, is_under}
use Rattle.hls_legal.specs.Stays.{closes, stays, stays_with}
use Rattle.hls_legal.specs.Tells.{HasName, Answers, TellsFrom, Tells}
use Rattle.hls_legal.proofs.Rousings.{names_same}
use Rattle.hls_legal.proofs.UnderLaws.{within-same, within-step}
use Rattle.hls_legal.proofs.StaySnoc.{close_by, stays_snoc}
use Rattle.hls_legal.proofs.Seatings.{seating_miss}
use Rattle.hls_legal.proofs.ToldRuns.{one_more}
use Rattle.hls_legal.proofs.OrderRuns.{IsTellingAll, telling_run}
use Rattle.hls_legal.specs.Moment.{perches_of}
use Rattle.hls_kinds.specs.declared.reservations.Reservation.{Reservation}
use Rattle.hls_legal_jobs.specs.Reports.{IsLastSeat, SitsReserved, GoesOnAfter, IsReservedStay}
use Rattle.hls_legal_jobs.specs.Reports.{IsWokenInTurn, IsServedInTime}
use Rattle.hls_legal_jobs.proofs.Standing.{stays_stand}
use Rattle.hls_legal_jobs.proofs.Cuts.{cut, IsCut, late_first}
use Rattle.hls_legal_jobs.proofs.Reports.{IsReservedIn, theirs, jobs_before_cut}

-- ---- the run up to a command

ticks_pass : (h : Hierarchy) (step : Step) → h.now ≤ (after h step).now
ticks_pass h Refuse = omega arith
ticks_pass h (Load k name config spare_ticks spare_marks ports) = omega arith
ticks_pass h (Admit k name seat) = omega arith
ticks_pass h (End k) = omega arith
ticks_pass h (Unload k) = omega arith
ticks_pass h (Move k seat below) = omega arith
ticks_pass h (Rouse k burst) = omega arith
ticks_pass h (Block k) = omega arith
ticks_pass h (Elapse asking masks path) = omega arith

-- the commands that are left come at the present tick or later, and not after the horizon
record AreToCome (c : Content) (h : Hierarchy) (left : List Answered) : Type 0 where
  pub late : (t : ℕ) → t ≤ h.now → AllByRecursion (λ (a : Answered). t ≤ a.tick) left
  pub within : h.now ≤ c.horizon

to_come : (c : Content) (steps : List Step) (h : Hierarchy) (left : List Answered) → TellsFrom c h steps left
    → AreToCome c h left
to_come c [] h [] tells = record { late = λ t le. tt; within = omega arith }
to_come c [] h (a ∷ left) tells = absurd tells
to_come c (Elapse asking masks path ∷ steps) h left tells =
    let rest = to_come c steps (after h (Elapse asking masks path)) left tells.2 in
    record { late = λ t le. rest.late t (omega arith); within = omega (arith, rest.within) }
to_come c (step ∷ steps) h (a ∷ left) tells =
    let rest = to_come c steps (after h step) left tells.2 in
    let pass = ticks_pass h step in
    record {
      late = λ t le. (omega (arith, tells.0), rest.late t (omega arith));
      within = omega (arith, rest.within);
    }
to_come c (step ∷ steps) h [] tells = absurd tells

module _ (c : Content) (whole : List Answered) (a : Answered) (left : List Answered) where
  -- where a command comes, and the step that answers it
  record IsMet (h : Hierarchy) (before : List Answered) : Type 0 where
    pub past : List Step
    pub legal : IsLegal h past
    pub tells : TellsFrom (cut c whole a.tick) h past before
    pub step : Step
    pub can : Can (state h past) step
    pub does : Answers (state h past) a.command a.answer step
    pub to_come : AreToCome c (state h past) (a ∷ left)

  meet : (steps : List Step) (h : Hierarchy) (before : List Answered) → IsLegal h steps
      → TellsFrom c h steps (before ++ a ∷ left) → IsMet h before
  meet [] h [] legal tells = absurd tells
  meet [] h (b ∷ before) legal tells = absurd tells
  meet (Elapse asking masks path ∷ steps) h before legal tells =
      let rest = meet steps (after h (Elapse asking masks path)) before legal.1 tells.2 in
      record {
        past = Elapse asking masks path ∷ rest.past;
        legal = (legal.0, rest.legal);
        tells = (late_first h.now before (a ∷ left) tells.0, tells.1, rest.tells);
        step = rest.step;
        can = rest.can;
        does = rest.does;
        to_come = rest.to_come;
      }
  meet (step ∷ steps) h (b ∷ before) legal tells =
      let rest = meet steps (after h step) before legal.1 tells.2 in
      record {
        past = step ∷ rest.past;
        legal = (legal.0, rest.legal);
        tells = (tells.0, tells.1, rest.tells);
        step = rest.step;
        can = rest.can;
        does = rest.does;
        to_come = rest.to_come;
      }
  meet (step ∷ steps) h [] legal tells = record {
    past = [];
    legal = tt;
    tells = sym tells.0;
    step = step;
    can = legal.0;
    does = tells.1;
    to_come = to_come c (step ∷ steps) h (a ∷ left) tells;
  }

-- ---- a command that does not end the stay gives nobody new seats whom the thread sits below

or_either : (a b : Bool) → b ≡ true → (a || b) ≡ true
or_either true b e = refl
or_either false b e = e

or_first : (a b : Bool) → a ≡ true → (a || b) ≡ true
or_first true b e = refl
or_first false b e = absurd (cc)

any_at : {X : Type 0} (test : X → Bool) (xs : List X) (at : ℕ) (x : X) → slice_get xs at ≡ Some x → test x ≡ true
    → list_any test xs ≡ true
any_at test [] at x e on = absurd (cc)
any_at test (y ∷ xs) zero x e on =
    let same : y ≡ x = cc in or_first (test y) (list_any test xs) (ap test same ∙ on)
any_at test (y ∷ xs) (suc at) x e on = or_either (test y) (list_any test xs) (any_at test xs at x e on)

only_one : (perch seat : Perch) (port : ℕ) → slice_get (perch ∷ []) port ≡ Some seat → perch ≡ seat
only_one perch seat zero e = cc
only_one perch seat (suc port) e = absurd (cc)

seat_on : (test : Text → Bool) (command : Command) (port : ℕ) (seat : Perch)
    → slice_get (perches_of command) port ≡ Some seat → is_on test seat.spot ≡ true → seats_on test command ≡ true
seat_on test (said.Load name config perches) port seat e on =
    any_at (λ (perch : Perch). is_on test perch.spot) perches port seat e on
seat_on test (said.Thread name perch) port seat e on =
    ap (λ (x : Perch). is_on test x.spot) (only_one perch seat port e) ∙ on
seat_on test (said.End name) port seat e on = absurd (cc)
seat_on test (said.Unload name) port seat e on = absurd (cc)
seat_on test (said.Move name perch) port seat e on =
    ap (λ (x : Perch). is_on test x.spot) (only_one perch seat port e) ∙ on
seat_on test (said.Wake name every burst) port seat e on = absurd (cc)
seat_on test (said.Block name) port seat e on = absurd (cc)

nobody_seated : (name : Text) (by : Answered) → last_seating name [] ≡ Some by → ⊥
unfolding last_seating
nobody_seated name by e = let none : None ≡ Some by = e in cc

same_name : (name : Text) → bytes_eq name name ≡ true
same_name name = names_same name name refl

sits_below : (before : List Answered) (name scheduler : Text) (terms : Terms) (seat : Perch)
    → IsLastSeat before name seat → seat.spot ≡ Under scheduler terms → is_under before scheduler name ≡ true
sits_below [] name scheduler terms seat s spot = absurd (nobody_seated name s.by s.last)
sits_below (b ∷ rest) name scheduler terms seat s spot =
    let before : List Answered = b ∷ rest in
    let above : Text → Bool = is_within before (length rest) scheduler in
    let on : is_on above seat.spot ≡ true =
    ap (is_on above) spot ∙ within-same before (length rest) scheduler scheduler (same_name scheduler) in
    elim (cases_Bool (bytes_eq name scheduler)) [
      | inl same ↦ within-same before (suc (length rest)) scheduler name same
      | inr other ↦
          within-step before (suc (length rest)) (length rest) scheduler name (Some s.by) other refl (sym s.last)
          ∙ seat_on above s.by.command s.port seat s.seat on
    ]

-- another name, or else the stay ends
not_it : (before : List Answered) (mine name other : Text) → is_under before name mine ≡ true
    → is_under before other mine ≡ false → bytes_eq other name ≡ false
not_it before mine name other below shut = elim (cases_Bool (bytes_eq other name)) [
  | inl same ↦
      let is : other ≡ name = (bytes_eq-Decides other name).0 same in
      let on = ap (λ (n : Text). is_under before n mine) is ∙ below in
      absurd (let wrong : true ≡ false = sym on ∙ shut in cc)
  | inr ne ↦ ne
]

-- a new name is not that of a node that is there
not_new : (h : Hierarchy) (k : ℕ) (name new other : Text) → HasName h k name → (HasName h k new → ⊥) → new ≡ other
    → bytes_eq other name ≡ false
not_new h k name new other has fresh is = elim (cases_Bool (bytes_eq other name)) [
  | inl same ↦
      let all : name ≡ new = sym ((bytes_eq-Decides other name).0 same) ∙ sym is in
      absurd (fresh (has ∙ ap (λ (n : Text). Some n) all))
  | inr ne ↦ ne
]

seats_kept : (h : Hierarchy) (before : List Answered) (k : ℕ) (mine name : Text) (command : Command) (answer : Answer)
    (tick : ℕ) (step : Step) → HasName h k name → is_under before name mine ≡ true → Can h step
    → Answers h command answer step
    → has_done (closes before mine) (record { tick = tick; command = command; answer = answer }) ≡ false
    → has_done (seats name) (record { tick = tick; command = command; answer = answer }) ≡ false
seats_kept h before k mine name command (Refused refusal) tick step has below can does shut = refl
seats_kept h before k mine name (said.Load other config perches) (Done by) tick
    (Load c new set spare_ticks spare_marks held) has below can does shut =
    not_new h k name new other has (can.0.new.fresh k) does.0
seats_kept h before k mine name (said.Thread other perch) (Done by) tick (Admit c new seat) has below can does shut =
    not_new h k name new other has (can.new.fresh k) does.0
seats_kept h before k mine name (said.Move other perch) (Done by) tick (Move c seat under) has below can does shut =
    not_it before mine name other below shut
seats_kept h before k mine name (said.End other) (Done by) tick step has below can does shut = refl
seats_kept h before k mine name (said.Unload other) (Done by) tick step has below can does shut = refl
seats_kept h before k mine name (said.Wake other every burst) (Done by) tick step has below can does shut = refl
seats_kept h before k mine name (said.Block other) (Done by) tick step has below can does shut = refl
seats_kept h before k mine name _ (Done by) tick _ has below can does shut = absurd does

seat_kept : (before : List Answered) (a : Answered) (name : Text) (seat : Perch) → has_done (seats name) a ≡ false
    → IsLastSeat before name seat → IsLastSeat (before ++ a ∷ []) name seat
seat_kept before a name seat off s =
    record { by = s.by; last = seating_miss name before a off ∙ s.last; port = s.port; seat = s.seat }

-- ---- stays as commands come

get_front : {X : Type 0} (xs ys : List X) (i : ℕ) (x : X) → slice_get xs i ≡ Some x → slice_get (xs ++ ys) i ≡ Some x
get_front [] ys i x e = absurd (cc)
get_front (y ∷ xs) ys zero x e = e
get_front (y ∷ xs) ys (suc i) x e = get_front xs ys i x e

stay_after : (before : List Answered) (a : Answered) (place : ℕ) (s : Stay) → slice_get (stays before) place ≡ Some s
    → slice_get (stays (before ++ a ∷ [])) place ≡ Some (close_by before a s)
stay_after before a place s there =
    ap (λ (all : List Stay). slice_get all place) (stays_snoc before a)
    ∙ get_front (map (close_by before a) (stays before)) (stays_with before [] a) place (close_by before a s)
    (slice_get-map (close_by before a) (stays before) place ∙ ap (option_map (close_by before a)) there)

goes_on_after : (before : List Answered) (a : Answered) (place : ℕ) (stay : Stay)
    → has_done (closes before stay.name) a ≡ false → GoesOnAfter before place stay
    → GoesOnAfter (before ++ a ∷ []) place stay
goes_on_after before a place stay shut g =
    stay_after before a place (record stay { until = None }) g
    ∙ ap (λ (b : Bool). Some (record stay { until = (if b then Some a.tick else None) })) shut

-- a stay that has ended stays as it is
ended_for_good : (left before : List Answered) (place until : ℕ) (stay : Stay)
    → slice_get (stays before) place ≡ Some (record stay { until = Some until })
    → slice_get (stays (before ++ left)) place ≡ Some (record stay { until = Some until })
ended_for_good [] before place until stay there =
    ap (λ (l : List Answered). slice_get (stays l) place) (append-nil before) ∙ there
ended_for_good (a ∷ left) before place until stay there =
    ap (λ (l : List Answered). slice_get (stays l) place) (sym (append_assoc before (a ∷ []) left))
    ∙ ended_for_good left (before ++ a ∷ []) place until stay
    (stay_after before a place (record stay { until = Some until }) there)

ends_at : (before left : List Answered) (a : Answered) (place : ℕ) (stay : Stay)
    → has_done (closes before stay.name) a ≡ true → GoesOnAfter before place stay
    → slice_get (stays (before ++ a ∷ left)) place ≡ Some stay → stay.until ≡ Some a.tick
ends_at before left a place stay shut g there =
    let ended : slice_get (stays (before ++ a ∷ [])) place ≡ Some (record stay { until = Some a.tick }) =
    stay_after before a place (record stay { until = None }) g
    ∙ ap (λ (b : Bool). Some (record stay { until = (if b then Some a.tick else None) })) shut in
    let last : slice_get (stays (before ++ a ∷ left)) place ≡ Some (record stay { until = Some a.tick }) =
    ap (λ (l : List Answered). slice_get (stays l) place) (sym (append_assoc before (a ∷ []) left))
    ∙ ended_for_good left (before ++ a ∷ []) place a.tick stay ended in
    let both : Some stay ≡ Some (record stay { until = Some a.tick }) = sym there ∙ last in
    ap until_in both
  where
    until_in : Option Stay → Option ℕ
    until_in None = None
    until_in (Some s) = s.until

-- ---- the report cut where the stay ends

-- the commands before the one that ends the stay, by which its thread still sits so
pub record IsLastPart (c : Content) (place : ℕ) (stay : Stay) (r : Reservation) : Type 0 where
  pub before : List Answered
  pub left : List Answered
  pub cut : IsCut c before left (end_of c stay)
  pub goes_on : GoesOnAfter before place stay
  pub sits : SitsReserved before stay.name r

module _ (c : Content) (steps : List Step) (legal : IsLegal start steps) (tells : Tells c steps) (place : ℕ)
    (stay : Stay) (there : slice_get (stays c.answered) place ≡ Some stay) (r : Reservation)
    (since : stay.since ≡ r.since) where
  -- all of them
  to_the_end : (before : List Answered) → c.answered ≡ before ++ [] → GoesOnAfter before place stay
      → SitsReserved before stay.name r → IsLastPart c place stay r
  to_the_end before all g sits =
      let telling : IsTellingAll c (state start steps) = telling_run c steps legal tells in
      let whole : c.answered ≡ before = all ∙ append-nil before in
      let both : Some stay ≡ Some (record stay { until = None }) =
      sym there ∙ ap (λ (l : List Answered). slice_get (stays l) place) whole ∙ g in
      let until : stay.until ≡ None = ap (until_of None) both in
      let end : end_of c stay ≡ c.horizon = ap (end_with c.horizon) until in
      let now = telling.now in
      record {
        before = before;
        left = [];
        cut = record {
          all = all;
          early = subst (λ (l : List Answered). AllByRecursion (λ (a : Answered). a.tick ≤ end_of c stay) l) whole
              (subst (λ (t : ℕ). AllByRecursion (λ (a : Answered). a.tick ≤ t) c.answered) (now ∙ sym end)
              telling.all.told.early);
          late = tt;
          within = omega arith;
        };
        goes_on = g;
        sits = sits;
      }
    where
      until_of : Option ℕ → Option Stay → Option ℕ
      until_of other None = other
      until_of other (Some s) = s.until

  -- up to a command
  to_a_command : (before left : List Answered) (a : Answered) (h : Hierarchy) → c.answered ≡ before ++ a ∷ left
      → has_done (closes before stay.name) a ≡ true → IsTellingAll (cut c before a.tick) h
      → AreToCome c h (a ∷ left) → GoesOnAfter before place stay → SitsReserved before stay.name r
      → IsLastPart c place stay r
  to_a_command before left a h all ends telling come g sits =
      let until : stay.until ≡ Some a.tick =
      ends_at before left a place stay ends g (ap (λ (l : List Answered). slice_get (stays l) place) (sym all)
      ∙ there) in
      let end : end_of c stay ≡ a.tick = ap (end_with c.horizon) until in
      let now : h.now ≡ a.tick = telling.now in
      let within = come.within in
      record {
        before = before;
        left = a ∷ left;
        cut = record {
          all = all;
          early = subst (λ (t : ℕ). AllByRecursion (λ (b : Answered). b.tick ≤ t) before) (now ∙ sym end)
              telling.all.told.early;
          late = come.late (end_of c stay) (omega arith);
          within = omega arith;
        };
        goes_on = g;
        sits = sits;
      }

  last_part : (left before : List Answered) → c.answered ≡ before ++ left → GoesOnAfter before place stay
      → SitsReserved before stay.name r → IsLastPart c place stay r
  last_part [] before all g sits = to_the_end before all g sits
  last_part (a ∷ left) before all g sits =
      let met : IsMet c before a left start before =
      meet c before a left steps start before legal (subst (TellsFrom c start steps) all tells) in
      let h : Hierarchy = state start met.past in
      let telling : IsTellingAll (cut c before a.tick) h =
      telling_run (cut c before a.tick) met.past met.legal met.tells in
      let it : IsReservedIn (cut c before a.tick) h stay.name r sits.scheduler =
      theirs (cut c before a.tick) h telling (stays_stand met.past met.legal) place stay g r since sits in
      elim (cases_Bool (has_done (closes before stay.name) a)) [
        | inl ends ↦ to_a_command before left a h all ends telling met.to_come g sits
        | inr shut ↦
            let mine = seats_kept h before it.thread stay.name stay.name a.command a.answer a.tick met.step it.named
            (within-same before (length before) stay.name stay.name (same_name stay.name)) met.can met.does shut in
            let above = seats_kept h before it.above stay.name sits.scheduler a.command a.answer a.tick met.step
            it.loaded
            (sits_below before stay.name sits.scheduler (Res sits.hard r.x r.y) sits.seat sits.seated sits.spot)
            met.can met.does shut in
            last_part left (before ++ a ∷ []) (one_more c before left a all) (goes_on_after before a place stay shut g)
            (record {
              scheduler = sits.scheduler;
              hard = sits.hard;
              seat = sits.seat;
              seated = seat_kept before a stay.name sits.seat mine sits.seated;
              spot = sits.spot;
              above = sits.above;
              loaded = seat_kept before a sits.scheduler sits.above above sits.loaded;
              all = sits.all;
            })
      ]

pub jobs_of_stay : (c : Content) (steps : List Step) (stay : Stay) (r : Reservation) (from : ℕ) → IsLegal start steps
    → Tells c steps → IsReservedStay c stay r → IsWokenInTurn c stay.name r from (end_of c stay)
    → IsServedInTime c stay.name r from (end_of c stay)
jobs_of_stay c steps stay r from legal tells is turn =
    let part = last_part c steps legal tells is.place stay is.there r is.since is.left is.before is.all is.goes_on
    is.sits in
    jobs_before_cut c steps part.before part.left from (end_of c stay) is.place stay r legal tells part.cut part.goes_on
    is.since part.sits turn
