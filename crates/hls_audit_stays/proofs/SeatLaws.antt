-- Who was seated where, as schedulers are learned and commands come.
use Rattle.std.proofs.Common.{◌≡◌, ◌≢◌, ℕ, ◌+◌, ◌<◌, ◌≤◌, List, [], ◌∷◌, ◌++◌, Bool, true, false, ◌&&◌}
use Rattle.std.proofs.Common.{length, refl, sym, ap, ◌∙◌, subst, arith, take, inl, inr}
use Rattle.std.proofs.lemmas.Bool.{cases_lt}
use Rattle.std.specs.Prelude.{Option, Some, None, slice_get, is_some}
use Rattle.hls_text.specs.Lines.{Text}
use Rattle.hls_chron.specs.declared.plain.Terms.{Terms}
use Rattle.hls_scenario.specs.declared.scenario.Spot.{Spot}
use Rattle.hls_scenario.specs.declared.scenario.Spot.TheVariants.{Cpu, Under}
use Rattle.hls_scenario.specs.declared.scenario.Perch.{Perch}
use Rattle.hls_scenario.specs.declared.scenario.Command.{Command}
use Rattle.hls_scenario.specs.declared.scenario.Command.TheVariants.{Load, Thread, End, Unload, Move, Wake, Block}
use Rattle.hls_report_text.specs.declared.report.Answered.{Answered}
use Rattle.hls_legal.specs.Commands.{is_done, has_done, seats, last_seating}
use Rattle.hls_legal.proofs.Seatings.{seating_hit, seating_miss}
use Rattle.hls_audit_stays.specs.declared.places.Places.{Places}
use Rattle.hls_audit_stays.specs.declared.seats.Seats.{Seats}
use Rattle.hls_audit_stays.specs.Found.{command_at}
use Rattle.hls_audit_stays.specs.Places.{place_in, Sets}
use Rattle.hls_audit_stays.specs.Inside.Seats.{seated, IsKnown, SeatsOnKnown, SitsOnKnown}
use Rattle.hls_audit_stays.specs.Inside.Seats.{AreNamed, AreSeats, Learns, LearnsSched, LearnsSpot, LearnsSpots}
use Rattle.hls_audit_stays.specs.Inside.Seats.{LearnsSeats}
use Rattle.hls_audit_stays.proofs.Lists.{take_next, get_front, get_last, get_within}
use Rattle.hls_audit_stays.proofs.Names.{AreSame, Same, Apart, are_same, bytes_apart, bytes_same}

-- ---- what is learned

pub learns_none : (s : Seats) → Learns s s
learns_none s = record { last = refl; named = λ named. named; grows = λ name known. known }

pub learns_on : (a b c : Seats) → Learns a b → Learns b c → Learns a c
learns_on a b c one two = record {
  last = two.last ∙ one.last;
  named = λ named. two.named (one.named named);
  grows = λ name known. two.grows name (one.grows name known);
}

pub learn_again : (s : Seats) (sched : Text) → is_some (place_in s.places sched) ≡ true → LearnsSched s s sched
learn_again s sched known = record { learns = learns_none s; known = known }

some_is : (found : Option ℕ) (place : ℕ) → found ≡ Some place → is_some found ≡ true
some_is found place e = ap is_some e

named_more : (old new : Seats) (sched : Text) → AreNamed old
    → new.scheds.items ≡ old.scheds.items ++ sched ∷ []
    → Sets old.places new.places sched (length old.scheds.items) → AreNamed new
named_more old new sched named scheds put name place found = at (are_same sched name)
  where
    at : AreSame sched name → slice_get new.scheds.items place ≡ Some name
    at (Same e) =
        let here : Some (length old.scheds.items) ≡ Some place =
        sym put.here ∙ ap (place_in new.places) e ∙ found in
        let end : length old.scheds.items ≡ place = cc in
        ap (λ (l : List Text). slice_get l place) scheds
        ∙ ap (λ n. slice_get (old.scheds.items ++ sched ∷ []) n) (sym end)
        ∙ get_last old.scheds.items sched ∙ ap (λ (n : Text). Some n) e
    at (Apart ne f) =
        ap (λ (l : List Text). slice_get l place) scheds
        ∙ get_front old.scheds.items (sched ∷ []) place name (named name place (sym (put.others name ne) ∙ found))

grows_more : (old new : Places) (sched : Text) (place : ℕ) → Sets old new sched place → (name : Text)
    → is_some (place_in old name) ≡ true → is_some (place_in new name) ≡ true
grows_more old new sched place put name known = at (are_same sched name)
  where
    at : AreSame sched name → is_some (place_in new name) ≡ true
    at (Same e) = some_is (place_in new name) place (ap (place_in new) (sym e) ∙ put.here)
    at (Apart ne f) = ap is_some (put.others name ne) ∙ known

pub learn_new : (old new : Seats) (sched : Text) → new.last ≡ old.last
    → new.scheds.items ≡ old.scheds.items ++ sched ∷ []
    → Sets old.places new.places sched (length old.scheds.items) → LearnsSched old new sched
learn_new old new sched last scheds put = record {
  learns = record {
    last = last;
    named = λ named. named_more old new sched named scheds put;
    grows = grows_more old.places new.places sched (length old.scheds.items) put;
  };
  known = some_is (place_in new.places sched) (length old.scheds.items) put.here;
}

known_on : (old new : Seats) → Learns old new → (spot : Spot) → IsKnown old.places spot → IsKnown new.places spot
known_on old new learns Cpu known = record {}
known_on old new learns (Under sched terms) known = learns.grows sched known

-- schedulers of the first seats are learned
pub record LearnsFirst (old new : Seats) (perches : List Perch) (count : ℕ) : Type 0 where
  pub learns : Learns old new
  pub known : (at : ℕ) (perch : Perch) → at < count → slice_get perches at ≡ Some perch → IsKnown new.places perch.spot

pub learns_start : (s : Seats) (perches : List Perch) → LearnsFirst s s perches 0
learns_start s perches = record { learns = learns_none s; known = λ at perch lt e. absurd (omega (arith, lt)) }

pub learns_more : (old now new : Seats) (perches : List Perch) (count : ℕ) (perch : Perch)
    → slice_get perches count ≡ Some perch → LearnsFirst old now perches count → LearnsSpot now new perch.spot
    → LearnsFirst old new perches (count + 1)
learns_more old now new perches count perch there first spot = record {
  learns = learns_on old now new first.learns spot.learns;
  known = known;
}
  where
    known : (at : ℕ) (p : Perch) → at < count + 1 → slice_get perches at ≡ Some p → IsKnown new.places p.spot
    known at p lt e = elim (cases_lt at count) [
      | inl low ↦ known_on now new spot.learns p.spot (first.known at p low e)
      | inr le ↦ (let last : at ≡ count = omega (arith, lt, le) in
          let same : Some perch ≡ Some p = sym there ∙ ap (λ n. slice_get perches n) (sym last) ∙ e in
          let is : perch ≡ p = cc in
          subst (λ (q : Perch). IsKnown new.places q.spot) is spot.known)
    ]

pub learns_all : (old new : Seats) (perches : List Perch) (count : ℕ) → length perches ≤ count
    → LearnsFirst old new perches count → LearnsSpots old new perches
learns_all old new perches count le first = record {
  learns = first.learns;
  known = λ at perch e. first.known at perch (let lt = get_within perches at perch e in omega (arith, lt, le)) e;
}

-- ---- a command that seats a name

done_command : (test : Command → Bool) (a : Answered) → has_done test a ≡ true → test a.command ≡ true
done_command test a e = second (is_done a.answer) (test a.command) e
  where
    second : (p q : Bool) → (p && q) ≡ true → q ≡ true
    second true q e = e
    second false q e = absurd (cc)

-- it seats no other name
seats_one : (one other : Text) (command : Command) → seats one command ≡ true → other ≢ one
    → seats other command ≡ false
seats_one one other (Load name config perches) e ne = bytes_apart name other (λ is. ne (sym is ∙ bytes_same name one e))
seats_one one other (Thread name perch) e ne = bytes_apart name other (λ is. ne (sym is ∙ bytes_same name one e))
seats_one one other (End name) e ne = refl
seats_one one other (Unload name) e ne = refl
seats_one one other (Move name perch) e ne = bytes_apart name other (λ is. ne (sym is ∙ bytes_same name one e))
seats_one one other (Wake name every burst) e ne = refl
seats_one one other (Block name) e ne = refl

and_false : (p q : Bool) → q ≡ false → (p && q) ≡ false
and_false true q e = e
and_false false q e = refl

more_known : (old new : Seats) (command : Command) → Learns old new → SeatsOnKnown old.places command
    → SeatsOnKnown new.places command
more_known old new (Load name config perches) learns known =
    λ at perch e. known_on old new learns perch.spot (known at perch e)
more_known old new (Thread name perch) learns known = known_on old new learns perch.spot known
more_known old new (End name) learns known = record {}
more_known old new (Unload name) learns known = record {}
more_known old new (Move name perch) learns known = known_on old new learns perch.spot known
more_known old new (Wake name every burst) learns known = record {}
more_known old new (Block name) learns known = record {}

sits_more : (old new : Seats) (found : Option Answered) → Learns old new → SitsOnKnown old.places found
    → SitsOnKnown new.places found
sits_more old new None learns known = record {}
sits_more old new (Some a) learns known = more_known old new a.command learns known

-- what is known once a command seats a name
pub seats_note : (old mid new : Seats) (all : List Answered) (place : ℕ) (a : Answered) (name : Text)
    → slice_get all place ≡ Some a → has_done (seats name) a ≡ true → AreSeats old all place
    → LearnsSeats old mid a.command → Sets mid.last new.last name place → new.places ≡ mid.places
    → new.scheds ≡ mid.scheds → AreSeats new all (place + 1)
seats_note old mid new all place a name there done are learns put places scheds = record {
  last = last;
  named = named;
  known = known;
}
  where
    next : take (place + 1) all ≡ take place all ++ a ∷ []
    next = take_next all place a there

    seated_here : last_seating name (take (place + 1) all) ≡ Some a
    seated_here = ap (last_seating name) next ∙ seating_hit name (take place all) a done

    seated_apart : (other : Text) → other ≢ name
        → last_seating other (take (place + 1) all) ≡ last_seating other (take place all)
    seated_apart other ne =
        ap (last_seating other) next
        ∙ seating_miss other (take place all) a (and_false (is_done a.answer) (seats other a.command)
        (seats_one name other a.command (done_command (seats name) a done) ne))

    last : (other : Text) → seated new.last all other ≡ last_seating other (take (place + 1) all)
    last other = at (are_same name other)
      where
        at : AreSame name other → seated new.last all other ≡ last_seating other (take (place + 1) all)
        at (Same e) =
            ap (seated new.last all) (sym e) ∙ ap (command_at all) put.here ∙ there ∙ sym seated_here
            ∙ ap (λ (n : Text). last_seating n (take (place + 1) all)) e
        at (Apart ne f) =
            ap (command_at all) (put.others other ne) ∙ ap (λ (i : Places). seated i all other) learns.learns.last
            ∙ are.last other ∙ sym (seated_apart other ne)

    named : AreNamed new
    named other at found =
        ap (λ s. slice_get s.items at) scheds
        ∙ learns.learns.named are.named other at (ap (λ (i : Places). place_in i other) (sym places) ∙ found)

    moved : (found : Option Answered) → SitsOnKnown mid.places found → SitsOnKnown new.places found
    moved found known = subst (λ (i : Places). SitsOnKnown i found) (sym places) known

    known : (other : Text) → SitsOnKnown new.places (last_seating other (take (place + 1) all))
    known other = at (are_same name other)
      where
        at : AreSame name other → SitsOnKnown new.places (last_seating other (take (place + 1) all))
        at (Same e) =
            subst (λ (found : Option Answered). SitsOnKnown new.places found)
            (sym seated_here ∙ ap (λ (n : Text). last_seating n (take (place + 1) all)) e)
            (moved (Some a) learns.known)
        at (Apart ne f) =
            subst (λ (found : Option Answered). SitsOnKnown new.places found) (sym (seated_apart other ne))
            (moved (last_seating other (take place all))
            (sits_more old mid (last_seating other (take place all)) learns.learns (are.known other)))

-- and once one comes that seats nobody
pub seats_pass : (s : Seats) (all : List Answered) (place : ℕ) (a : Answered) → slice_get all place ≡ Some a
    → ((name : Text) → has_done (seats name) a ≡ false) → AreSeats s all place → AreSeats s all (place + 1)
seats_pass s all place a there none are = record {
  last = λ name. are.last name ∙ sym (same name);
  named = are.named;
  known = λ name. subst (λ (found : Option Answered). SitsOnKnown s.places found) (sym (same name)) (are.known name);
}
  where
    same : (name : Text) → last_seating name (take (place + 1) all) ≡ last_seating name (take place all)
    same name =
        ap (last_seating name) (take_next all place a there) ∙ seating_miss name (take place all) a (none name)

pub seats_start : (s : Seats) (all : List Answered) → ((name : Text) → place_in s.last name ≡ None)
    → ((name : Text) → place_in s.places name ≡ None) → AreSeats s all 0
unfolding last_seating
seats_start s all last places = record {
  last = λ name. ap (command_at all) (last name);
  named = λ name place e. absurd (let no : None ≡ Some place = sym (places name) ∙ e in cc);
  known = λ name. record {};
}

-- ---- one seat, and a command

pub learn_cpu : (s : Seats) → LearnsSpot s s Cpu
learn_cpu s = record { learns = learns_none s; known = record {} }

pub learn_spot : (old new : Seats) (sched : Text) (spot : Spot) → ((terms : Terms) × (spot ≡ Under sched terms))
    → LearnsSched old new sched → LearnsSpot old new spot
learn_spot old new sched spot is learns = record {
  learns = learns.learns;
  known = subst (λ (x : Spot). IsKnown new.places x) (sym is.1) learns.known;
}
