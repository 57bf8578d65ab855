-- The threads and the stays of a legal run are those that the commands of its report tell, in their order.
use Rattle.std.proofs.Common.{◌≡◌, ℕ, suc, ◌≤◌, List, [], ◌∷◌, ◌++◌, ◌||◌, ◌==◌}
use Rattle.std.proofs.Common.{Bool, true, false, not, if◌then◌else◌, cond, length, slice_get, map, filter}
use Rattle.std.proofs.Common.{refl}
use Rattle.std.proofs.Common.{sym, ap, ◌∙◌, subst}
use Rattle.std.specs.Prelude.{Option, Some, None}
use Rattle.std.specs.Option.{option_or}
use Rattle.std.proofs.lemmas.List.{append-nil, append_assoc, map-append}
use Rattle.hls_text.specs.Lines.{Text}
use Rattle.hls_scenario.specs.declared.scenario.Spot.{Spot}
use Rattle.hls_scenario.specs.declared.scenario.Spot.TheVariants.{Cpu, Under}
use Rattle.hls_scenario.specs.declared.scenario.Perch.{Perch}
use Rattle.hls_report_text.specs.declared.report.Answered.{Answered}
use Rattle.hls_report_text.specs.Content.{Content}
use Rattle.hls_machine.specs.Hierarchy.{Hierarchy, Node, Loaded, Admitted, Place, Processor, At, Seat}
use Rattle.hls_machine.specs.Hierarchy.{name_of, seats_of}
use Rattle.hls_machine.specs.Hierarchy.{seat_of}
use Rattle.hls_machine.specs.Hierarchy as legal
use Rattle.hls_machine.specs.Steps.{is_thread, listed, closed as closed_at, ended, stay_of as stay_at}
use Rattle.hls_machine.specs.Steps.{opened as opened_at}
use Rattle.hls_machine.specs.Steps.{nobody}
use Rattle.hls_legal.specs.declared.stay.Stay.{Stay}
use Rattle.hls_legal.specs.Commands.{has_done, seats, ends, last_seating}
use Rattle.hls_legal.specs.Stays.{threads, closes, stays, stays_with, want_in, want_of}
use Rattle.hls_legal.specs.Agrees.{told_stay}
use Rattle.hls_legal.specs.Tells.{HasName, IsSpot, ArePerches}
use Rattle.hls_legal.proofs.Told.{IsThreadNamed}
use Rattle.hls_legal.proofs.ToldSteps.{AreStaysTold}
use Rattle.hls_legal.proofs.StayLaws.{stands_by}
use Rattle.hls_legal.proofs.StaySnoc.{goes_on, threads_snoc, end_by, close_by, stays_snoc}
use Rattle.hls_legal.proofs.Seatings.{perches_in, perches_from, seating_hit, seating_miss, kept_in}
use Rattle.hls_legal.proofs.Seatings.{IsSeatedBy}
use Rattle.hls_legal.proofs.Seatings.{AreSeatedBy}

-- threads with their names, in one order
abbrev pub Paired : (ℕ → Option Node) → List ℕ → List Text → Type 0
Paired nodes [] [] = Unit {0}
Paired nodes (k ∷ ks) (name ∷ names) = IsThreadNamed nodes k name × Paired nodes ks names
Paired nodes _ _ = ⊥

pub record IsOrdered (before : List Answered) (h : Hierarchy) : Type 0 where
  pub seated : AreSeatedBy h before
  pub order : Paired h.nodes h.threads (threads before)
  pub few : length h.schedulers ≤ length before
  pub stays : map told_stay h.stays ≡ stays before

-- ---- seats

spot_kept : (h g : Hierarchy) (place : Place) (spot : Spot)
    → ((p slot : ℕ) → place ≡ At p slot → (name : Text) → HasName h p name → HasName g p name)
    → IsSpot h place spot → IsSpot g place spot
spot_kept h g Processor Cpu stay is = tt
spot_kept h g Processor (Under sched terms) stay is = absurd is
spot_kept h g (At p slot) Cpu stay is = absurd is
spot_kept h g (At p slot) (Under sched terms) stay is = stay p slot refl sched is

pub kept_perches : (h g : Hierarchy) (held : List Seat) (perches : List Perch)
    → ((port : ℕ) (seat : Seat) (p slot : ℕ) → slice_get held port ≡ Some seat → seat.place ≡ At p slot
    → (name : Text) → HasName h p name → HasName g p name)
    → ArePerches h held perches → ArePerches g held perches
kept_perches h g [] [] stay are = tt
kept_perches h g [] (perch ∷ perches) stay are = absurd are
kept_perches h g (seat ∷ held) [] stay are = absurd are
kept_perches h g (seat ∷ held) (perch ∷ perches) stay are = (
  record {
    place = spot_kept h g seat.place perch.spot (λ p slot e. stay 0 seat p slot refl e) are.0.place;
    terms = are.0.terms;
    kept = are.0.kept;
  },
  kept_perches h g held perches (λ port other p slot sits. stay (suc port) other p slot sits) are.1,
)

-- the names of those on whom somebody sits stay
abbrev pub NamesStay : (h g : Hierarchy) → Type 0
NamesStay h g = (d port : ℕ) (seat : Seat) (p slot : ℕ) → seat_of (h.nodes d) port ≡ Some seat
    → seat.place ≡ At p slot → (name : Text) → HasName h p name → HasName g p name

-- what a command leaves or makes of the seats of a node
pub data Seats (h g : Hierarchy) (a : Answered) (d : ℕ) (name : Text) : Type 0 where
  SeatsLeft : HasName h d name → seats_of (g.nodes d) ≡ seats_of (h.nodes d)
      → is_thread (g.nodes d) ≡ is_thread (h.nodes d) → has_done (seats name) a ≡ false → Seats h g a d name
  SeatsMade : has_done (seats name) a ≡ true → ArePerches g (seats_of (g.nodes d)) (perches_in a.command)
      → (is_thread (g.nodes d) ≡ true → kept_in (seats_of (g.nodes d)) ≡ want_in a.command)
      → Seats h g a d name

seated_one : (h g : Hierarchy) (before : List Answered) (a : Answered) (d : ℕ) (name : Text) → NamesStay h g
    → AreSeatedBy h before → Seats h g a d name → IsSeatedBy g (before ++ a ∷ []) d name
seated_one h g before a d name stay seated (SeatsLeft named same sort missed) =
    let was = seated d name named in
    let found = sym (seating_miss name before a missed) in
    record {
      perches = subst
          (λ (l : List Seat). ArePerches g l (perches_from (last_seating name (before ++ a ∷ []))))
          (sym same)
          (subst (λ (f : Option Answered). ArePerches g (seats_of (h.nodes d)) (perches_from f)) found
          (kept_perches h g (seats_of (h.nodes d)) (perches_from (last_seating name before))
          (λ port seat p slot. stay d port seat p slot) was.perches));
      kept = λ is. ap kept_in same ∙ was.kept (sym sort ∙ is) ∙ ap want_of found;
    }
seated_one h g before a d name stay seated (SeatsMade hit perches kept) =
    let found = sym (seating_hit name before a hit) in
    record {
      perches = subst (λ (f : Option Answered). ArePerches g (seats_of (g.nodes d)) (perches_from f)) found
          perches;
      kept = λ is. kept is ∙ ap want_of found;
    }

pub seated_step : (h g : Hierarchy) (before : List Answered) (a : Answered) → NamesStay h g
    → AreSeatedBy h before → ((d : ℕ) (name : Text) → HasName g d name → Seats h g a d name)
    → AreSeatedBy g (before ++ a ∷ [])
seated_step h g before a stay seated each d name named =
    seated_one h g before a d name stay seated (each d name named)

-- ---- threads in their order

pub paired_on : (nodes later : ℕ → Option Node) (ks : List ℕ) (names : List Text)
    → ((k : ℕ) (name : Text) → IsThreadNamed nodes k name → IsThreadNamed later k name)
    → Paired nodes ks names → Paired later ks names
paired_on nodes later [] [] on pairs = tt
paired_on nodes later [] (name ∷ names) on pairs = absurd pairs
paired_on nodes later (k ∷ ks) [] on pairs = absurd pairs
paired_on nodes later (k ∷ ks) (name ∷ names) on pairs =
    (on k name pairs.0, paired_on nodes later ks names on pairs.1)

pub paired_push : (nodes : ℕ → Option Node) (ks : List ℕ) (names : List Text) (k : ℕ) (name : Text)
    → Paired nodes ks names → IsThreadNamed nodes k name → Paired nodes (ks ++ k ∷ []) (names ++ name ∷ [])
paired_push nodes [] [] k name pairs last = (last, tt)
paired_push nodes [] (other ∷ names) k name pairs last = absurd pairs
paired_push nodes (d ∷ ks) [] k name pairs last = absurd pairs
paired_push nodes (d ∷ ks) (other ∷ names) k name pairs last =
    (pairs.0, paired_push nodes ks names k name pairs.1 last)

-- those that pass a test, with the later nodes
paired_if : (later : ℕ → Option Node) (k : ℕ) (name : Text) (ks : List ℕ) (names : List Text) (b : Bool)
    → (b ≡ true → IsThreadNamed later k name) → Paired later ks names
    → Paired later (cond b (k ∷ ks) ks) (cond b (name ∷ names) names)
paired_if later k name ks names true on rest = (on refl, rest)
paired_if later k name ks names false on rest = rest

pub paired_filter : (nodes later : ℕ → Option Node) (test : ℕ → Bool) (keeps : Text → Bool) (ks : List ℕ)
    (names : List Text)
    → ((k : ℕ) (name : Text) → IsThreadNamed nodes k name → test k ≡ keeps name)
    → ((k : ℕ) (name : Text) → IsThreadNamed nodes k name → keeps name ≡ true → IsThreadNamed later k name)
    → Paired nodes ks names → Paired later (filter test ks) (filter keeps names)
paired_filter nodes later test keeps [] [] same on pairs = tt
paired_filter nodes later test keeps [] (name ∷ names) same on pairs = absurd pairs
paired_filter nodes later test keeps (k ∷ ks) [] same on pairs = absurd pairs
paired_filter nodes later test keeps (k ∷ ks) (name ∷ names) same on pairs =
    let rest = paired_filter nodes later test keeps ks names same on pairs.1 in
    subst (λ (b : Bool). Paired later (cond b (k ∷ filter test ks) (filter test ks))
    (cond (keeps name) (name ∷ filter keeps names) (filter keeps names))) (sym (same k name pairs.0))
    (paired_if later k name (filter test ks) (filter keeps names) (keeps name) (on k name pairs.0) rest)

pub filter_all : (keeps : Text → Bool) (names : List Text) → ((name : Text) → keeps name ≡ true)
    → filter keeps names ≡ names
filter_all keeps [] all = refl
filter_all keeps (name ∷ names) all =
    ap (λ b. cond b (name ∷ filter keeps names) (filter keeps names)) (all name)
    ∙ ap (λ l. name ∷ l) (filter_all keeps names all)

pub threads_same : (before : List Answered) (a : Answered) → ((name : Text) → has_done (ends name) a ≡ false)
    → stands_by a [] ≡ [] → threads (before ++ a ∷ []) ≡ threads before
threads_same before a on none =
    threads_snoc before a
    ∙ ap (λ l. l ++ stands_by a []) (filter_all (goes_on a) (threads before) (λ name. ap not (on name)))
    ∙ ap (λ l. threads before ++ l) none ∙ append-nil (threads before)

pub listed_same : (was is b : Bool) (k : ℕ) (ks : List ℕ) → was ≡ b → is ≡ b → listed was is k ks ≡ ks
listed_same was is true k ks e f = ap (λ x. listed x is k ks) e ∙ ap (λ x. listed true x k ks) f
listed_same was is false k ks e f = ap (λ x. listed x is k ks) e ∙ ap (λ x. listed false x k ks) f

-- ---- stays in their order

ended_none : (b t : Bool) (now tick : ℕ) → b ≡ t → tick ≡ now
    → ended b now None ≡ (if t then Some tick else None)
ended_none true true now tick e at = ap (λ (x : ℕ). Some x) (sym at)
ended_none true false now tick e at = absurd (cc)
ended_none false true now tick e at = absurd (cc)
ended_none false false now tick e at = refl

ended_some : (b : Bool) (now until : ℕ) → ended b now (Some until) ≡ Some until
ended_some true now until = refl
ended_some false now until = refl

abbrev pub ClosesAlike : (h : Hierarchy) → (before : List Answered) → Answered → (ℕ → Bool) → Type 0
ClosesAlike h before a begins = (d : ℕ) (name : Text) → IsThreadNamed h.nodes d name
    → begins d ≡ has_done (closes before name) a

closed_until : (h : Hierarchy) (before : List Answered) (a : Answered) (begins : ℕ → Bool)
    → a.tick ≡ h.now → ClosesAlike h before a begins → (thread : ℕ) (name : Text) (until : Option ℕ)
    → (until ≡ None → IsThreadNamed h.nodes thread name)
    → ended (begins thread) h.now until ≡ option_or until (end_by before a name)
closed_until h before a begins at alike thread name None there =
    ended_none (begins thread) (has_done (closes before name) a) h.now a.tick
    (alike thread name (there refl)) at
closed_until h before a begins at alike thread name (Some until) there =
    ended_some (begins thread) h.now until

closed_stays : (c : Content) (h : Hierarchy) (before : List Answered) (a : Answered) (begins : ℕ → Bool)
    → a.tick ≡ h.now → ClosesAlike h before a begins → (all : List legal.Stay) → AreStaysTold c h all
    → map told_stay (map (λ (stay : legal.Stay). closed_at (begins stay.thread) h.now stay) all)
    ≡ map (close_by before a) (map told_stay all)
closed_stays c h before a begins at alike [] told = refl
closed_stays c h before a begins at alike (stay ∷ all) told =
    let until = closed_until h before a begins at alike stay.thread stay.name stay.until told.0.open_yet in
    let first : told_stay (closed_at (begins stay.thread) h.now stay) ≡ close_by before a (told_stay stay) =
    ap (λ (u : Option ℕ). record (told_stay stay) { until = u }) until in
    let rest = closed_stays c h before a begins at alike all told.1 in
    ap (λ x. x ∷ map told_stay (map (λ (s : legal.Stay). closed_at (begins s.thread) h.now s) all)) first
    ∙ ap (λ l. close_by before a (told_stay stay) ∷ l) rest

pub stays_step : (c : Content) (h : Hierarchy) (before : List Answered) (a : Answered) (begins : ℕ → Bool)
    (opens : List legal.Stay) → a.tick ≡ h.now → ClosesAlike h before a begins → AreStaysTold c h h.stays
    → map told_stay h.stays ≡ stays before → map told_stay opens ≡ stays_with before [] a
    → map told_stay (map (λ (stay : legal.Stay). closed_at (begins stay.thread) h.now stay) h.stays ++ opens)
    ≡ stays (before ++ a ∷ [])
stays_step c h before a begins opens at alike told same new =
    let these = map (λ (stay : legal.Stay). closed_at (begins stay.thread) h.now stay) h.stays in
    map-append told_stay these opens
    ∙ ap (λ l. l ++ map told_stay opens)
    (closed_stays c h before a begins at alike h.stays told ∙ ap (map (close_by before a)) same)
    ∙ ap (λ l. map (close_by before a) (stays before) ++ l) new
    ∙ sym (stays_snoc before a)

option_or_none : (until : Option ℕ) → option_or until None ≡ until
option_or_none None = refl
option_or_none (Some t) = refl

close_none : (before : List Answered) (a : Answered)
    → ((name : Text) → has_done (closes before name) a ≡ false)
    → (all : List Stay) → map (close_by before a) all ≡ all
close_none before a none [] = refl
close_none before a none (stay ∷ all) =
    let until : option_or stay.until (end_by before a stay.name) ≡ stay.until =
    ap (λ (t : Bool). option_or stay.until (if t then Some a.tick else None)) (none stay.name)
    ∙ option_or_none stay.until in
    ap (λ (u : Option ℕ). (record stay { until = u }) ∷ map (close_by before a) all) until
    ∙ ap (λ l. stay ∷ l) (close_none before a none all)

pub stays_same : (before : List Answered) (a : Answered)
    → ((name : Text) → has_done (closes before name) a ≡ false)
    → stays_with before [] a ≡ [] → stays (before ++ a ∷ []) ≡ stays before
stays_same before a none opens =
    stays_snoc before a ∙ ap (λ l. map (close_by before a) (stays before) ++ l) opens
    ∙ append-nil (map (close_by before a) (stays before)) ∙ close_none before a none (stays before)

-- ---- the stays that begin

pub opened_none : (now : ℕ) (nodes later : ℕ → Option Node) (begins : ℕ → Bool) (ks : List ℕ)
    (names : List Text)
    → Paired nodes ks names → ((k : ℕ) (name : Text) → IsThreadNamed nodes k name → begins k ≡ false)
    → opened_at now later begins ks ≡ []
opened_none now nodes later begins [] [] pairs off = refl
opened_none now nodes later begins [] (name ∷ names) pairs off = absurd pairs
opened_none now nodes later begins (k ∷ ks) [] pairs off = absurd pairs
opened_none now nodes later begins (k ∷ ks) (name ∷ names) pairs off =
    ap (λ (b : Bool). (if b then stay_at now k (later k) else []) ++ opened_at now later begins ks)
    (off k name pairs.0)
    ∙ opened_none now nodes later begins ks names pairs.1 off

opened_more : (now : ℕ) (later : ℕ → Option Node) (begins : ℕ → Bool) (ks : List ℕ) (k : ℕ)
    → opened_at now later begins (ks ++ k ∷ [])
    ≡ opened_at now later begins ks ++ opened_at now later begins (k ∷ [])
opened_more now later begins [] k = refl
opened_more now later begins (d ∷ ks) k =
    let first = if begins d then stay_at now d (later d) else [] in
    ap (λ l. first ++ l) (opened_more now later begins ks k)
    ∙ sym (append_assoc first (opened_at now later begins ks) (opened_at now later begins (k ∷ [])))

pub opened_push : (now : ℕ) (later : ℕ → Option Node) (begins : ℕ → Bool) (ks : List ℕ) (k : ℕ)
    → opened_at now later begins ks ≡ [] → begins k ≡ true
    → opened_at now later begins (ks ++ k ∷ []) ≡ stay_at now k (later k)
opened_push now later begins ks k none on =
    opened_more now later begins ks k
    ∙ ap (λ l. l ++ opened_at now later begins (k ∷ [])) none
    ∙ append-nil (if begins k then stay_at now k (later k) else [])
    ∙ ap (λ (b : Bool). if b then stay_at now k (later k) else []) on

-- after the end of a thread no stay begins
without_one : (now : ℕ) (later : ℕ → Option Node) (k d : ℕ) (rest : List ℕ) (b : Bool) → (d == k) ≡ b
    → opened_at now later (λ x. nobody x || x == k) rest ≡ []
    → opened_at now later (λ x. nobody x || x == k) (cond (not b) (d ∷ rest) rest) ≡ []
without_one now later k d rest true e none = none
without_one now later k d rest false e none =
    ap (λ (b : Bool). (if b then stay_at now d (later d) else [])
    ++ opened_at now later (λ x. nobody x || x == k) rest) e
    ∙ none

pub opened_without : (now : ℕ) (later : ℕ → Option Node) (k : ℕ) (ks : List ℕ)
    → opened_at now later (λ d. nobody d || d == k) (filter (λ d. not (d == k)) ks) ≡ []
opened_without now later k [] = refl
opened_without now later k (d ∷ ks) =
    without_one now later k d (filter (λ x. not (x == k)) ks) (d == k) refl (opened_without now later k ks)

-- the stays that a move begins
opened_moved : (now : ℕ) (later : ℕ → Option Node) (k : ℕ) (rest : List legal.Stay) (one : Stay)
    (others : List Stay) (b : Bool) → (b ≡ true → map told_stay (stay_at now k (later k)) ≡ one ∷ [])
    → map told_stay rest ≡ others
    → map told_stay ((if b then stay_at now k (later k) else []) ++ rest) ≡ cond b (one ∷ others) others
opened_moved now later k rest one others true e f =
    map-append told_stay (stay_at now k (later k)) rest ∙ ap (λ l. l ++ map told_stay rest) (e refl)
    ∙ ap (λ l. one ∷ l) f
opened_moved now later k rest one others false e f = f

map_if : (make : Text → Stay) (name : Text) (names : List Text) (b : Bool)
    → map make (cond b (name ∷ names) names) ≡ cond b (make name ∷ map make names) (map make names)
map_if make name names true = refl
map_if make name names false = refl

pub opened_paired : (now : ℕ) (nodes later : ℕ → Option Node) (begins : ℕ → Bool) (moves : Text → Bool)
    (make : Text → Stay) (ks : List ℕ) (names : List Text) → Paired nodes ks names
    → ((k : ℕ) (name : Text) → IsThreadNamed nodes k name → begins k ≡ moves name)
    → ((k : ℕ) (name : Text) → IsThreadNamed nodes k name → moves name ≡ true
    → map told_stay (stay_at now k (later k)) ≡ make name ∷ [])
    → map told_stay (opened_at now later begins ks) ≡ map make (filter moves names)
opened_paired now nodes later begins moves make [] [] pairs same made = refl
opened_paired now nodes later begins moves make [] (name ∷ names) pairs same made = absurd pairs
opened_paired now nodes later begins moves make (k ∷ ks) [] pairs same made = absurd pairs
opened_paired now nodes later begins moves make (k ∷ ks) (name ∷ names) pairs same made =
    let rest = opened_paired now nodes later begins moves make ks names pairs.1 same made in
    ap (λ (b : Bool). map told_stay ((if b then stay_at now k (later k) else [])
    ++ opened_at now later begins ks)) (same k name pairs.0)
    ∙ opened_moved now later k (opened_at now later begins ks) (make name) (map make (filter moves names))
    (moves name) (made k name pairs.0) rest
    ∙ sym (map_if make name (filter moves names) (moves name))
