-- Who sits where in a legal run, and by the commands that a report tells of.
use Rattle.std.proofs.Common.{◌≡◌, ◌⊎◌, ℕ, zero, suc, inl, inr, ◌≤◌, List, [], ◌∷◌, ◌++◌, ◌||◌}
use Rattle.std.proofs.Common.{Bool, true, false, slice_get, refl, sym, ap, ◌∙◌, arith}
use Rattle.std.specs.Prelude.{Option, Some, None}
use Rattle.std.specs.List.{list_any}
use Rattle.std.specs.Str.{bytes_eq}
use Rattle.std.proofs.lemmas.Slice.Eq.{bytes_eq-Decides}
use Rattle.hls_text.specs.Lines.{Text}
use Rattle.hls_guarantee.specs.declared.Guarantee.{Guarantee}
use Rattle.hls_guarantee.specs.declared.Guarantee.TheVariants.{Null}
use Rattle.hls_scenario.specs.declared.scenario.Spot.{Spot}
use Rattle.hls_scenario.specs.declared.scenario.Spot.TheVariants.{Cpu, Under}
use Rattle.hls_scenario.specs.declared.scenario.Perch.{Perch}
use Rattle.hls_scenario.specs.declared.scenario.Command.{Command}
use Rattle.hls_scenario.specs.declared.scenario.Command.TheVariants.{Load, Thread, End, Unload, Move, Wake, Block}
use Rattle.hls_report_text.specs.declared.report.Answered.{Answered}
use Rattle.hls_machine.specs.Hierarchy.{Hierarchy, Place, Processor, At, Seat, name_of, seats_of}
use Rattle.hls_machine.specs.Steps.{is_thread}
use Rattle.hls_machine.specs.Legal.{IsBelow}
use Rattle.hls_machine.specs.Readings.{IsUnderBy}
use Rattle.hls_legal.specs.Commands.{has_done, seats, last_seating}
use Rattle.hls_legal.specs.Under.{is_on, seats_on, sits_on, is_within}
use Rattle.hls_legal.specs.Stays.{want_of}
use Rattle.hls_legal.specs.Tells.{HasName, IsSpot, ArePerches}
use Rattle.hls_legal.proofs.Rousings.{find-snoc_hit, find-snoc_miss, names_same}
use Rattle.hls_legal.proofs.Told.{Unique}
use Rattle.hls_legal.proofs.UnderLaws.{within-same}

-- ---- the seats that the last such command gave

abbrev pub perches_in : Command → List Perch
perches_in (Load name config perches) = perches
perches_in (Thread name perch) = perch ∷ []
perches_in (Move name perch) = perch ∷ []
perches_in _ = []

abbrev pub perches_from : Option Answered → List Perch
perches_from None = []
perches_from (Some a) = perches_in a.command

pub seating_hit : (name : Text) (before : List Answered) (a : Answered) → has_done (seats name) a ≡ true
    → last_seating name (before ++ a ∷ []) ≡ Some a
unfolding last_seating
seating_hit name before a e = find-snoc_hit (has_done (seats name)) before a e

pub seating_miss : (name : Text) (before : List Answered) (a : Answered) → has_done (seats name) a ≡ false
    → last_seating name (before ++ a ∷ []) ≡ last_seating name before
unfolding last_seating
seating_miss name before a e = find-snoc_miss (has_done (seats name)) before a e

abbrev pub kept_in : List Seat → Guarantee
kept_in [] = Null
kept_in (seat ∷ seats) = seat.kept

-- the seats of a node are those that were asked for last, and what is guaranteed for a thread too
pub record IsSeatedBy (h : Hierarchy) (before : List Answered) (k : ℕ) (name : Text) : Type 0 where
  pub perches : ArePerches h (seats_of (h.nodes k)) (perches_from (last_seating name before))
  pub kept : is_thread (h.nodes k) ≡ true
      → kept_in (seats_of (h.nodes k)) ≡ want_of (last_seating name before)

abbrev pub AreSeatedBy : Hierarchy → List Answered → Type 0
AreSeatedBy h before = (k : ℕ) (name : Text) → HasName h k name → IsSeatedBy h before k name

-- ---- who sits on whom

or_none : (b : Bool) → b ≡ (b || false)
or_none true = refl
or_none false = refl

seats_any : (test : Text → Bool) (command : Command)
    → seats_on test command ≡ list_any (λ (perch : Perch). is_on test perch.spot) (perches_in command)
seats_any test (Load name config perches) = refl
seats_any test (Thread name perch) = or_none (is_on test perch.spot)
seats_any test (End name) = refl
seats_any test (Unload name) = refl
seats_any test (Move name perch) = or_none (is_on test perch.spot)
seats_any test (Wake name every burst) = refl
seats_any test (Block name) = refl

sits_any : (test : Text → Bool) (found : Option Answered)
    → sits_on test found ≡ list_any (λ (perch : Perch). is_on test perch.spot) (perches_from found)
sits_any test None = refl
sits_any test (Some a) = seats_any test a.command

-- a seat on a scheduler whose name passes a test
pub record SitsOnSuch (h : Hierarchy) (test : Text → Bool) (held : List Seat) : Type 0 where
  pub port : ℕ
  pub seat : Seat
  pub p : ℕ
  pub slot : ℕ
  pub sched : Text
  pub sits : slice_get held port ≡ Some seat
  pub at_place : seat.place ≡ At p slot
  pub named : HasName h p sched
  pub passes : test sched ≡ true

later_seat : (h : Hierarchy) (test : Text → Bool) (seat : Seat) (held : List Seat) → SitsOnSuch h test held
    → SitsOnSuch h test (seat ∷ held)
later_seat h test seat held s = record {
  port = suc s.port;
  seat = s.seat;
  p = s.p;
  slot = s.slot;
  sched = s.sched;
  sits = s.sits;
  at_place = s.at_place;
  named = s.named;
  passes = s.passes;
}

first_seat : (h : Hierarchy) (test : Text → Bool) (seat : Seat) (held : List Seat) (place : Place)
    (spot : Spot)
    → seat.place ≡ place → IsSpot h place spot → is_on test spot ≡ true → SitsOnSuch h test (seat ∷ held)
first_seat h test seat held Processor Cpu e is on = absurd (cc)
first_seat h test seat held Processor (Under sched terms) e is on = absurd is
first_seat h test seat held (At p slot) Cpu e is on = absurd is
first_seat h test seat held (At p slot) (Under sched terms) e is on = record {
  port = 0;
  seat = seat;
  p = p;
  slot = slot;
  sched = sched;
  sits = refl;
  at_place = e;
  named = is;
  passes = on;
}

or_true_cases : (a b : Bool) → (a || b) ≡ true → (a ≡ true) ⊎ (b ≡ true)
or_true_cases true b e = inl refl
or_true_cases false b e = inr e

any_seat : (h : Hierarchy) (test : Text → Bool) (held : List Seat) (perches : List Perch)
    → ArePerches h held perches → list_any (λ (perch : Perch). is_on test perch.spot) perches ≡ true
    → SitsOnSuch h test held
any_seat h test [] [] are any = absurd (cc)
any_seat h test [] (perch ∷ perches) are any = absurd are
any_seat h test (seat ∷ held) [] are any = absurd are
any_seat h test (seat ∷ held) (perch ∷ perches) are any =
    elim (or_true_cases (is_on test perch.spot) (list_any (λ (p : Perch). is_on test p.spot) perches) any) [
      | inl on ↦ first_seat h test seat held seat.place perch.spot refl are.0.place on
      | inr later ↦ later_seat h test seat held (any_seat h test held perches are.1 later)
    ]

or_first : (a b : Bool) → a ≡ true → (a || b) ≡ true
or_first true b e = refl
or_first false b e = absurd (cc)

or_second : (a b : Bool) → b ≡ true → (a || b) ≡ true
or_second true b e = refl
or_second false b e = e

spot_passes : (h : Hierarchy) (test : Text → Bool) (p slot : ℕ) (place : Place) (spot : Spot)
    → place ≡ At p slot
    → IsSpot h place spot → ((sched : Text) → HasName h p sched → test sched ≡ true) → is_on test spot ≡ true
spot_passes h test p slot Processor Cpu e is pass = absurd (cc)
spot_passes h test p slot Processor (Under sched terms) e is pass = absurd is
spot_passes h test p slot (At q other) Cpu e is pass = absurd is
spot_passes h test p slot (At q other) (Under sched terms) e is pass =
    let same : q ≡ p = cc in
    pass sched (sym (ap (λ x. name_of (h.nodes x)) same) ∙ is)

seat_passes : (h : Hierarchy) (test : Text → Bool) (p slot : ℕ) (held : List Seat) (perches : List Perch)
    (port : ℕ) (seat : Seat) → ArePerches h held perches → slice_get held port ≡ Some seat
    → seat.place ≡ At p slot
    → ((sched : Text) → HasName h p sched → test sched ≡ true)
    → list_any (λ (perch : Perch). is_on test perch.spot) perches ≡ true
seat_passes h test p slot [] perches port seat are sits e pass = absurd (cc)
seat_passes h test p slot (first ∷ held) [] port seat are sits e pass = absurd are
seat_passes h test p slot (first ∷ held) (perch ∷ perches) zero seat are sits e pass =
    let same : first ≡ seat = cc in
    or_first (is_on test perch.spot) (list_any (λ (q : Perch). is_on test q.spot) perches)
    (spot_passes h test p slot first.place perch.spot (ap (λ (s : Seat). s.place) same ∙ e) are.0.place pass)
seat_passes h test p slot (first ∷ held) (perch ∷ perches) (suc port) seat are sits e pass =
    or_second (is_on test perch.spot) (list_any (λ (q : Perch). is_on test q.spot) perches)
    (seat_passes h test p slot held perches port seat are.1 sits e pass)

-- ---- who is below whom

within_step : (before : List Answered) (steps : ℕ) (above name : Text)
    → is_within before (suc steps) above name
    ≡ (bytes_eq name above || sits_on (is_within before steps above) (last_seating name before))
unfolding is_within
within_step before steps above name = refl

within_zero : (before : List Answered) (above name : Text)
    → is_within before 0 above name ≡ bytes_eq name above
unfolding is_within
within_zero before above name = refl

module _ (h : Hierarchy) (before : List Answered) (unique : Unique h.nodes) (seated : AreSeatedBy h before)
    (k : ℕ) (top : Text) (is_top : HasName h k top) (below : ℕ → Bool) (is : IsBelow h k below) where
  top_below : (d : ℕ) (name : Text) → HasName h d name → bytes_eq name top ≡ true → below d ≡ true
  top_below d name named e =
      let same : name ≡ top = (bytes_eq-Decides name top).0 e in
      let it : d ≡ k = unique d k top (named ∙ ap (λ (n : Text). Some n) same) is_top in
      ap below it ∙ is.itself

  -- whom the commands tell below is below
  pub below_by_names : (steps d : ℕ) (name : Text) → HasName h d name → is_within before steps top name ≡ true
      → below d ≡ true
  below_by_names zero d name named e = top_below d name named (sym (within_zero before top name) ∙ e)
  below_by_names (suc steps) d name named e =
      let test = is_within before steps top in
      elim (or_true_cases (bytes_eq name top) (sits_on test (last_seating name before))
      (sym (within_step before steps top name) ∙ e)) [
        | inl same ↦ top_below d name named same
        | inr sits ↦
            let on = any_seat h test (seats_of (h.nodes d)) (perches_from (last_seating name before))
            (seated d name named).perches (sym (sits_any test (last_seating name before)) ∙ sits) in
            is.down d on.p (record {
              port = on.port;
              seat = on.seat;
              slot = on.slot;
              sits = on.sits;
              at_place = on.at_place;
            }) (below_by_names steps on.p on.sched on.named on.passes)
      ]

  -- and the other way round, in enough steps
  pub names_by_below : (count d : ℕ) (name : Text) (steps : ℕ) → HasName h d name → IsUnderBy h k count d
      → count ≤ steps → is_within before steps top name ≡ true
  names_by_below zero d name steps named under le =
      let same : name ≡ top =
      (let both : Some name ≡ Some top = sym named ∙ ap (λ x. name_of (h.nodes x)) under ∙ is_top in cc) in
      within-same before steps top name (names_same top name same)
  names_by_below (suc count) d name zero named under le = absurd (omega arith)
  names_by_below (suc count) d name (suc steps) named under le =
      let test = is_within before steps top in
      let on = under.1 in
      within_step before steps top name
      ∙ or_second (bytes_eq name top) (sits_on test (last_seating name before))
      (sits_any test (last_seating name before)
      ∙ seat_passes h test under.0 on.slot (seats_of (h.nodes d)) (perches_from (last_seating name before))
      on.port on.seat (seated d name named).perches on.sits on.at_place
      (λ sched has. names_by_below count under.0 sched steps has under.2 (omega arith)))
