-- Rounds over marks of schedulers are the steps of the test of what is below.
use Rattle.std.proofs.Common.{◌≡◌, ℕ, zero, suc, ◌+◌, ◌-◌, ◌≤◌, List, [], ◌∷◌, Bool, true, false, ◌||◌}
use Rattle.std.proofs.Common.{length, refl, sym, ap, ◌∙◌, arith, map, take, get_or}
use Rattle.std.specs.Prelude.{Option, Some, None, slice_get, is_some, option_map}
use Rattle.std.specs.List.{list_any}
use Rattle.std.specs.Bool.{Decides}
use mathlib.Core.Bool.{beq}
use Rattle.std.specs.Str.{bytes_eq}
use Rattle.std.proofs.lemmas.Option.{get_or_from_slice_get}
use Rattle.std.proofs.Math.Path.{fun_ext}
use Rattle.hls_text.specs.Lines.{Text}
use Rattle.hls_scenario.specs.declared.scenario.Spot.{Spot}
use Rattle.hls_scenario.specs.declared.scenario.Spot.TheVariants.{Cpu, Under}
use Rattle.hls_scenario.specs.declared.scenario.Perch.{Perch}
use Rattle.hls_scenario.specs.declared.scenario.Command.{Command}
use Rattle.hls_scenario.specs.declared.scenario.Command.TheVariants.{Load, Thread, End, Unload, Move, Wake, Block}
use Rattle.hls_report_text.specs.declared.report.Answered.{Answered}
use Rattle.hls_legal.specs.Commands.{last_seating}
use Rattle.hls_legal.specs.Under.{is_on, seats_on, sits_on, is_within}
use Rattle.hls_audit_stays.specs.declared.places.Places.{Places}
use Rattle.hls_audit_stays.specs.declared.seats.Seats.{Seats}
use Rattle.hls_audit_stays.specs.Places.{place_in}
use Rattle.hls_audit_stays.specs.Inside.Seats.{seated, IsKnown, AreKnown, SeatsOnKnown, SitsOnKnown, AreNamed, AreSeats}
use Rattle.hls_audit_stays.specs.Inside.Marks.{mark_at, mark_in, next_mark, next_marks, AreBelow}
use Rattle.hls_audit_stays.proofs.Lists.{get_map, map_same}

pub mark-Decides : (a b : Bool) → Decides (beq a b) (a ≡ b)
mark-Decides true true = (λ e. refl, λ e. refl)
mark-Decides true false = (λ e. absurd (cc), λ e. absurd (cc))
mark-Decides false true = (λ e. absurd (cc), λ e. absurd (cc))
mark-Decides false false = (λ e. refl, λ e. refl)

-- ---- tests that agree on the schedulers that are known

abbrev pub Agree : Places → (test other : Text → Bool) → Type 0
Agree places test other = (name : Text) → is_some (place_in places name) ≡ true → test name ≡ other name

on_same : (places : Places) (test other : Text → Bool) → Agree places test other → (spot : Spot) → IsKnown places spot
    → is_on test spot ≡ is_on other spot
on_same places test other agree Cpu known = refl
on_same places test other agree (Under sched terms) known = agree sched known

any_same : (places : Places) (test other : Text → Bool) → Agree places test other → (perches : List Perch)
    → AreKnown places perches
    → list_any (λ (perch : Perch). is_on test perch.spot) perches
    ≡ list_any (λ (perch : Perch). is_on other perch.spot) perches
any_same places test other agree [] known = refl
any_same places test other agree (perch ∷ perches) known =
    ap (λ b. b || list_any (λ (perch : Perch). is_on test perch.spot) perches)
    (on_same places test other agree perch.spot (known 0 perch refl))
    ∙ ap (λ b. is_on other perch.spot || b)
    (any_same places test other agree perches (λ at p e. known (suc at) p e))

seats_same : (places : Places) (test other : Text → Bool) → Agree places test other → (command : Command)
    → SeatsOnKnown places command → seats_on test command ≡ seats_on other command
seats_same places test other agree (Load name config perches) known = any_same places test other agree perches known
seats_same places test other agree (Thread name perch) known = on_same places test other agree perch.spot known
seats_same places test other agree (End name) known = refl
seats_same places test other agree (Unload name) known = refl
seats_same places test other agree (Move name perch) known = on_same places test other agree perch.spot known
seats_same places test other agree (Wake name every burst) known = refl
seats_same places test other agree (Block name) known = refl

sits_same : (places : Places) (test other : Text → Bool) → Agree places test other → (found : Option Answered)
    → SitsOnKnown places found → sits_on test found ≡ sits_on other found
sits_same places test other agree None known = refl
sits_same places test other agree (Some a) known = seats_same places test other agree a.command known

-- ---- rounds

pub within_marks : (s : Seats) → (before : List Answered) → (steps : ℕ) → (above : Text) → List Bool
within_marks s before steps above = map (is_within before steps above) s.scheds.items

agree_marks : (s : Seats) (before : List Answered) (steps : ℕ) (above : Text) (marks : List Bool) → AreNamed s
    → marks ≡ within_marks s before steps above
    → Agree s.places (mark_in s.places marks) (is_within before steps above)
unfolding within_marks
agree_marks s before steps above marks named is name known = at (place_in s.places name) refl known
  where
    test : Text → Bool
    test = is_within before steps above

    at : (found : Option ℕ) → place_in s.places name ≡ found → is_some found ≡ true
        → mark_in s.places marks name ≡ test name
    at None e some = absurd (cc)
    at (Some place) e some =
        let there : slice_get marks place ≡ Some (test name) =
        ap (λ (bs : List Bool). slice_get bs place) is ∙ get_map test s.scheds.items place
        ∙ ap (option_map test) (named name place e) in
        ap (mark_at marks) e ∙ get_or_from_slice_get marks place (test name) false there

next_within : (s : Seats) (all : List Answered) (came steps : ℕ) (above : Text) (marks : List Bool)
    → AreSeats s all came → marks ≡ within_marks s (take came all) steps above → (name : Text)
    → next_mark s all marks above name ≡ is_within (take came all) (suc steps) above name
unfolding is_within
next_within s all came steps above marks are is name =
    let before = take came all in
    ap (λ (found : Option Answered). bytes_eq name above || sits_on (mark_in s.places marks) found) (are.last name)
    ∙ ap (λ b. bytes_eq name above || b)
    (sits_same s.places (mark_in s.places marks) (is_within before steps above)
    (agree_marks s before steps above marks are.named is) (last_seating name before) (are.known name))

pub marks-none : (s : Seats) (before : List Answered) (above : Text)
    → map (λ (name : Text). bytes_eq name above) s.scheds.items ≡ within_marks s before 0 above
unfolding within_marks is_within
marks-none s before above = refl

pub marks-next : (s : Seats) (all : List Answered) (came steps : ℕ) (above : Text) (marks : List Bool)
    → AreSeats s all came → marks ≡ within_marks s (take came all) steps above
    → next_marks s all marks above ≡ within_marks s (take came all) (suc steps) above
unfolding within_marks
marks-next s all came steps above marks are is =
    map_same (next_mark s all marks above) (is_within (take came all) (suc steps) above) s.scheds.items
    (λ name. next_within s all came steps above marks are is name)

-- a round that changes nothing is the last one
steady : (s : Seats) (all : List Answered) (came steps more : ℕ) (above : Text) (marks : List Bool)
    → AreSeats s all came → marks ≡ within_marks s (take came all) steps above → next_marks s all marks above ≡ marks
    → marks ≡ within_marks s (take came all) (more + steps) above
steady s all came steps zero above marks are is e =
    let same : steps ≡ zero + steps = omega arith in
    is ∙ ap (λ n. within_marks s (take came all) n above) same
steady s all came steps (suc more) above marks are is e =
    let up : suc (more + steps) ≡ suc more + steps = omega arith in
    let before = steady s all came steps more above marks are is e in
    sym e ∙ marks-next s all came (more + steps) above marks are before
    ∙ ap (λ n. within_marks s (take came all) n above) up

pub marks-steady : (s : Seats) (all : List Answered) (came steps most : ℕ) (above : Text) (marks : List Bool)
    → AreSeats s all came → steps ≤ most → marks ≡ within_marks s (take came all) steps above
    → next_marks s all marks above ≡ marks → marks ≡ within_marks s (take came all) most above
marks-steady s all came steps most above marks are le is e =
    let last : (most - steps) + steps ≡ most = omega (arith, le) in
    steady s all came steps (most - steps) above marks are is e
    ∙ ap (λ n. within_marks s (take came all) n above) last

length_front : {X : Type 0} (xs : List X) (i : ℕ) → i ≤ length xs → length (take i xs) ≡ i
length_front xs zero le = refl
length_front [] (suc i) le = absurd (omega (arith, le))
length_front (x ∷ xs) (suc i) le = ap (λ n. suc n) (length_front xs i (omega (arith, le)))

or_none : (b : Bool) → (b || false) ≡ b
or_none true = refl
or_none false = refl

first_within : (above name : Text) → is_within [] 1 above name ≡ is_within [] 0 above name
unfolding is_within last_seating
first_within above name = or_none (bytes_eq name above)

pub marks-end : (s : Seats) (all : List Answered) (came : ℕ) (above : Text) (marks : List Bool) → AreSeats s all came
    → came ≤ length all → marks ≡ within_marks s (take came all) (came - 1) above → AreBelow s all came marks above
marks-end s all zero above marks are le is name =
    next_within s all zero 0 above marks are is name ∙ first_within above name
marks-end s all (suc came) above marks are le is name =
    let steps : suc came - 1 ≡ came = omega arith in
    let before = take (suc came) all in
    next_within s all (suc came) came above marks are
    (is ∙ ap (λ n. within_marks s before n above) steps) name
    ∙ ap (λ n. is_within before n above name) (sym (length_front all (suc came) le))

-- ---- no marks

on_none : (spot : Spot) → is_on (λ (name : Text). false) spot ≡ false
on_none Cpu = refl
on_none (Under sched terms) = refl

any_none : (perches : List Perch)
    → list_any (λ (perch : Perch). is_on (λ (name : Text). false) perch.spot) perches ≡ false
any_none [] = refl
any_none (perch ∷ perches) =
    ap (λ b. b || list_any (λ (perch : Perch). is_on (λ (name : Text). false) perch.spot) perches) (on_none perch.spot)
    ∙ any_none perches

sits_none : (found : Option Answered) → sits_on (λ (name : Text). false) found ≡ false
sits_none None = refl
sits_none (Some a) = seats_none a.command
  where
    seats_none : (command : Command) → seats_on (λ (name : Text). false) command ≡ false
    seats_none (Load name config perches) = any_none perches
    seats_none (Thread name perch) = on_none perch.spot
    seats_none (End name) = refl
    seats_none (Unload name) = refl
    seats_none (Move name perch) = on_none perch.spot
    seats_none (Wake name every burst) = refl
    seats_none (Block name) = refl

mark_none : (place : Option ℕ) → mark_at [] place ≡ false
mark_none None = refl
mark_none (Some place) = refl

pub next_none : (s : Seats) (all : List Answered) (above name : Text)
    → next_mark s all [] above name ≡ bytes_eq name above
next_none s all above name =
    ap (λ test. bytes_eq name above || sits_on test (seated s.last all name))
    (fun_ext (λ (n : Text). mark_none (place_in s.places n)))
    ∙ ap (λ b. bytes_eq name above || b) (sits_none (seated s.last all name))
    ∙ or_none (bytes_eq name above)

mark_off : (marks : List Bool) → list_any (λ (mark : Bool). mark) marks ≡ false → (place : ℕ)
    → get_or marks place false ≡ false
mark_off [] off place = refl
mark_off (true ∷ marks) off place = absurd (let wrong : true ≡ false = off in cc)
mark_off (false ∷ marks) off zero = refl
mark_off (false ∷ marks) off (suc place) = mark_off marks off place

at_off : (marks : List Bool) → list_any (λ (mark : Bool). mark) marks ≡ false → (place : Option ℕ)
    → mark_at marks place ≡ false
at_off marks off None = refl
at_off marks off (Some place) = mark_off marks off place

-- marks of which none is set tell as much as no marks
pub below-none : (s : Seats) (all : List Answered) (came : ℕ) (above : Text) (marks : List Bool)
    → list_any (λ (mark : Bool). mark) marks ≡ false → AreBelow s all came marks above → AreBelow s all came [] above
below-none s all came above marks off are name =
    ap (λ (test : Text → Bool). bytes_eq name above || sits_on test (seated s.last all name))
    (fun_ext (λ (n : Text). mark_none (place_in s.places n) ∙ sym (at_off marks off (place_in s.places n))))
    ∙ are name

pub sits-empty : (s : Seats) (marks : List Bool) → length marks ≡ 0 → (found : Option Answered)
    → false ≡ sits_on (mark_in s.places marks) found
sits-empty s [] e found =
    sym (ap (λ (test : Text → Bool). sits_on test found)
    (fun_ext (λ (n : Text). mark_none (place_in s.places n))) ∙ sits_none found)
sits-empty s (mark ∷ marks) e found = absurd (omega (arith, e))
