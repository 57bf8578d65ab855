-- One answer is defined, but for derivations.
use Rattle.std.proofs.Common.{◌≡◌, ℕ, inl, inr, ◌-◌, List, [], ◌∷◌, Option, Some, None, refl, sym, ap, ◌∙◌}
use Rattle.std.proofs.Common.{subst, arith}
use Rattle.std.proofs.lemmas.Bool.{cases_lt}
use Rattle.std.specs.Prelude.{slice_get}
use Rattle.hls_chron.specs.Kinds.{kind_of}
use Rattle.hls_chron.specs.Seats.{most_seats}
use Rattle.hls_kinds.specs.declared.fault.SeatFault.{SeatFault}
use Rattle.hls_kinds.specs.declared.fault.SeatFault.TheVariants as faults
use Rattle.hls_kinds.specs.Room.{room_total, room_used, room_asked}
use Rattle.hls_text.specs.Lines.{Text}
use Rattle.hls_chron.specs.declared.plain.Kind.{Kind}
use Rattle.hls_chron.specs.declared.plain.Terms.TheVariants.{Prio}
use Rattle.hls_scenario.specs.declared.scenario.Spot.{Spot}
use Rattle.hls_scenario.specs.declared.scenario.Spot.TheVariants.{Cpu, Under}
use Rattle.hls_scenario.specs.declared.scenario.Command.{Command}
use Rattle.hls_report_text.specs.declared.refusal.Refusal.{Refusal}
use Rattle.hls_report_text.specs.declared.refusal.Refusal.TheVariants.{NameTaken, NoSuchName, WrongSort}
use Rattle.hls_report_text.specs.declared.refusal.Refusal.TheVariants.{TooManyNodes, TooManyThreads, NotEmpty}
use Rattle.hls_report_text.specs.declared.refusal.Refusal.TheVariants.{TermsUnfit, PriorityTaken, SeatsFull}
use Rattle.hls_report_text.specs.declared.refusal.Refusal.TheVariants.{Cycle, TooDeep, TooManyShares, KitEmpty}
use Rattle.hls_report_text.specs.declared.refusal.Refusal.TheVariants.{NoRoom, NoDerivation}
use Rattle.hls_report_text.specs.declared.report.Seated.{Seated}
use Rattle.hls_report_text.specs.declared.report.Answer.{Answer}
use Rattle.hls_report_text.specs.declared.report.Answer.TheVariants.{Done, Refused}
use Rattle.hls_machine.specs.Hierarchy.{Hierarchy, Loaded, Scheduler}
use Rattle.hls_legal.specs.Moment.{Boxes, Moment, node_of, spots_of}
use Rattle.hls_legal.specs.Dues.{Due, AreSettled, dues}
use Rattle.hls_legal.specs.Refusals.{IsNotEmpty, IsCycle, IsTooDeep, AreTooManyShares, IsKitEmpty}
use Rattle.hls_legal.specs.Refusals.{seats_taken, HasFault, IsFirstSuch, LacksDerivation}
use Rattle.hls_legal.specs.Answers.{number, RefusesCommand, RefusesPlace, RefusesBy, RefusesFirstPlace}
use Rattle.hls_legal.specs.Answers.{Applies, IsAnswer}
use Rattle.hls_legal.specs.AlikeAnswers.{IsAlikeSeat, AreAlikeSeats, IsAlikeAnswer}

some_same : {A : Type 0} (o : Option A) (x y : A) → o ≡ Some x → o ≡ Some y → x ≡ y
some_same o x y f g = (let e = sym f ∙ g in cc)

-- the first item is one
record IsSameFirst {A : Type 0} (at other : ℕ) (item thing : A) : Type 0 where
  pub at_same : at ≡ other
  pub item_same : item ≡ thing

first_same : {A K : Type 0} (items : List A) (P : A → K → Type 0) (one two : K) (f : IsFirstSuch items P one)
    (g : IsFirstSuch items P two) → IsSameFirst f.at g.at f.item g.item
first_same items P one two f g = elim (cases_lt f.at g.at) [
  | inl before ↦ absurd (g.first f.at f.item one before f.item_is f.tells)
  | inr from ↦ elim (cases_lt g.at f.at) [
    | inl before ↦ absurd (f.first g.at g.item two before g.item_is g.tells)
    | inr up ↦
        let at : f.at ≡ g.at = omega (arith, from, up) in
        record {
          at_same = at;
          item_same = some_same (slice_get items g.at) f.item g.item (ap (slice_get items) (sym at) ∙ f.item_is)
              g.item_is;
        }
  ]
]

not_empty_one : (h : Hierarchy) (command : Command) (a b : Text) (m n : ℕ) → IsNotEmpty h command a m
    → IsNotEmpty h command b n → NotEmpty a m ≡ NotEmpty b n
not_empty_one h command a b m n f g =
    let name : a ≡ b = (let e = sym f.unloads ∙ g.unloads in cc) in
    let there : node_of h a ≡ Some (Loaded g.place.scheduler) = ap (node_of h) name ∙ g.place.there in
    let same : f.place.scheduler ≡ g.place.scheduler = (let e = sym f.place.there ∙ there in cc) in
    let counted : m ≡ seats_taken g.place.scheduler.book =
    subst (λ (s : Scheduler). m ≡ seats_taken s.book) same f.seats_are in
    let seats : m ≡ n = counted ∙ sym g.seats_are in
    λ i. NotEmpty (name i) (seats i)

cycle_one : (h : Hierarchy) (command : Command) (a b : Text) → IsCycle h command a → IsCycle h command b → a ≡ b
cycle_one h command a b f g =
    let perch : f.perch ≡ g.perch = (let e = sym f.moves ∙ g.moves in cc) in
    let spot : Under a f.terms ≡ Under b g.terms = sym f.to ∙ ap (λ p. p.spot) perch ∙ g.to in
    cc

deep_one : (h : Hierarchy) (command : Command) (m n : ℕ) → IsTooDeep h command m → IsTooDeep h command n → m ≡ n
deep_one h command m n f g =
    let x = f.greatest n g.shares g.chain in let y = g.greatest m f.shares f.chain in omega (arith, x, y)

shares_one : (h : Hierarchy) (command : Command) (m n : ℕ) → AreTooManyShares h command m
    → AreTooManyShares h command n → m ≡ n
shares_one h command m n f g =
    let x = f.greatest g.level n g.chain in let y = g.greatest f.level m f.chain in omega (arith, x, y)

kit_one : (boxes : Boxes) (command : Command) (k c : Kind) (m n : ℕ) → IsKitEmpty boxes command k m
    → IsKitEmpty boxes command c n → KitEmpty k m ≡ KitEmpty c n
kit_one boxes command k c m n f g =
    let config : f.config ≡ g.config = (let e = sym f.loads ∙ g.loads in cc) in
    let kind : k ≡ c = f.kind_is ∙ ap kind_of config ∙ sym g.kind_is in
    let used : m ≡ n = f.used_is ∙ ap boxes.used kind ∙ sym g.used_is in
    λ i. KitEmpty (kind i) (used i)

-- what refuses a command as a whole is one of its number
command_one : (m : Moment) (c : Command) (r q : Refusal)
    → number r ≡ number q → RefusesCommand m c r → RefusesCommand m c q
    → r ≡ q
command_one m c (NameTaken a) (NameTaken b) e f g = ap NameTaken (some_same _ a b f.new g.new)
command_one m c (NoSuchName a) (NoSuchName b) e f g =
    ap NoSuchName (some_same _ a b f.old g.old)
command_one m c (WrongSort (Some a)) (WrongSort (Some b)) e f g =
    ap (λ n. WrongSort (Some n)) (some_same _ a b f.old g.old)
command_one m c (WrongSort None) q e f g = absurd f
command_one m c (WrongSort (Some a)) (WrongSort None) e f g = absurd g
command_one m c (TooManyNodes a) (TooManyNodes b) e f g =
    ap TooManyNodes (f.most_is ∙ sym g.most_is)
command_one m c (TooManyThreads a) (TooManyThreads b) e f g =
    ap TooManyThreads (f.most_is ∙ sym g.most_is)
command_one m c (NotEmpty a x) (NotEmpty b y) e f g = not_empty_one m.hierarchy c a b x y f g
command_one m c (Cycle a) (Cycle b) e f g = ap Cycle (cycle_one m.hierarchy c a b f g)
command_one m c (TooDeep a) (TooDeep b) e f g = ap TooDeep (deep_one m.hierarchy c a b f g)
command_one m c (TooManyShares a) (TooManyShares b) e f g =
    ap TooManyShares (shares_one m.hierarchy c a b f g)
command_one m c (KitEmpty a x) (KitEmpty b y) e f g = kit_one m.boxes c a b x y f g
command_one m c (NoDerivation a x) (NoDerivation b y) e f g =
    let same = first_same (dues m.hierarchy c) (LacksDerivation m.depth) a b f.0 g.0 in
    let name : a ≡ b = f.0.tells.whose ∙ ap (λ (d : Due). d.name) same.item_same ∙ sym g.0.tells.whose in
    let depth : x ≡ y = f.1 ∙ sym g.1 in
    λ i. NoDerivation (name i) (depth i)
command_one m c (TermsUnfit a) q e f g = absurd f
command_one m c (PriorityTaken a) q e f g = absurd f
command_one m c (SeatsFull a x) q e f g = absurd f
command_one m c (NoRoom a x) q e f g = absurd f
command_one m c _ _ e f g = cc

-- what refuses it at one place is one of its number
record IsSameFault (h : Hierarchy) (spot : Spot) (a b : Text) (x y : SeatFault) (f : HasFault h spot a x)
    (g : HasFault h spot b y) : Type 0 where
  name : a ≡ b
  terms : f.terms ≡ g.terms
  scheduler : f.scheduler ≡ g.scheduler

fault_same : (h : Hierarchy) (spot : Spot) (a b : Text) (x y : SeatFault) (f : HasFault h spot a x)
    (g : HasFault h spot b y) → IsSameFault h spot a b x y f g
fault_same h spot a b x y f g =
    let both : Under a f.terms ≡ Under b g.terms = sym f.place ∙ g.place in
    let name : a ≡ b = cc in
    let found : Some (Loaded f.scheduler) ≡ Some (Loaded g.scheduler) =
    sym f.there ∙ ap (node_of h) name ∙ g.there in
    record { name = name; terms = cc; scheduler = cc }

room_one : (h : Hierarchy) (spot : Spot) (a b m n : ℕ)
    → ((name : Text) × HasFault h spot name (faults.NoRoom a m))
    → ((name : Text) × HasFault h spot name (faults.NoRoom b n)) → NoRoom a m ≡ NoRoom b n
room_one h spot a b m n f g =
    let same = fault_same h spot f.0 g.0 (faults.NoRoom a m) (faults.NoRoom b n) f.1 g.1 in
    let free : a ≡ b = f.1.applies.left
    ∙ ap (λ (s : Scheduler). room_total s.config - room_used s.config s.book) same.scheduler
    ∙ sym g.1.applies.left in
    let asked : m ≡ n = f.1.applies.asks ∙ (λ i. room_asked ((same.scheduler i).config) (same.terms i))
    ∙ sym g.1.applies.asks in
    λ i. NoRoom (free i) (asked i)

priority_one : (h : Hierarchy) (spot : Spot) (p q : ℕ)
    → ((name : Text) × HasFault h spot name (faults.PriorityTaken p))
    → ((name : Text) × HasFault h spot name (faults.PriorityTaken q)) → p ≡ q
priority_one h spot p q f g =
    let same = fault_same h spot f.0 g.0 (faults.PriorityTaken p) (faults.PriorityTaken q) f.1 g.1 in
    let both : Prio p ≡ Prio q = sym f.1.applies.0 ∙ same.terms ∙ g.1.applies.0 in
    cc

sort_one : (h : Hierarchy) (command : Command) (spot : Spot) (a b : Option Text)
    → RefusesPlace h command spot (WrongSort a) → RefusesPlace h command spot (WrongSort b) → a ≡ b
sort_one h command Cpu None None f g = refl
sort_one h command (Under sched terms) (Some a) (Some b) f g = ap (λ n. Some n) (f.0 ∙ sym g.0)
sort_one h command Cpu (Some a) b f g = absurd f
sort_one h command Cpu None (Some b) f g = absurd g
sort_one h command (Under sched terms) None b f g = absurd f
sort_one h command (Under sched terms) (Some a) None f g = absurd g

full_one : (h : Hierarchy) (command : Command) (spot : Spot) (a b : Option Text) (m n : ℕ)
    → RefusesPlace h command spot (SeatsFull a m) → RefusesPlace h command spot (SeatsFull b n)
    → SeatsFull a m ≡ SeatsFull b n
full_one h command spot None None m n f g = (let e = f.seats_are ∙ sym g.seats_are in λ i. SeatsFull None (e i))
full_one h command spot None (Some b) m n f g =
    absurd (let e : Cpu ≡ Under b g.terms = sym f.place ∙ g.place in cc)
full_one h command spot (Some a) None m n f g =
    absurd (let e : Cpu ≡ Under a f.terms = sym g.place ∙ f.place in cc)
full_one h command spot (Some a) (Some b) m n f g =
    let same = fault_same h spot a b (faults.Full m) (faults.Full n) f g in
    let e : m ≡ n = f.applies.1 ∙ ap (λ (s : Scheduler). most_seats s.config) same.scheduler
    ∙ sym g.applies.1 in
    λ i. SeatsFull (Some (same.name i)) (e i)

place_one : (h : Hierarchy) (command : Command) (spot : Spot) (r q : Refusal) → number r ≡ number q
    → RefusesPlace h command spot r → RefusesPlace h command spot q → r ≡ q
place_one h command spot (NoSuchName a) (NoSuchName b) e f g =
    ap NoSuchName (some_same _ a b f.place g.place)
place_one h command spot (WrongSort a) (WrongSort b) e f g = ap WrongSort (sort_one h command spot a b f g)
place_one h command spot (TermsUnfit a) (TermsUnfit b) e f g =
    ap TermsUnfit (fault_same h spot a b faults.Unfit faults.Unfit f g).name
place_one h command spot (PriorityTaken a) (PriorityTaken b) e f g =
    ap PriorityTaken (priority_one h spot a b f g)
place_one h command spot (SeatsFull a m) (SeatsFull b n) e f g = full_one h command spot a b m n f g
place_one h command spot (NoRoom a m) (NoRoom b n) e f g = room_one h spot a b m n f g
place_one h command spot (NameTaken a) q e f g = absurd f
place_one h command spot (TooManyNodes a) q e f g = absurd f
place_one h command spot (TooManyThreads a) q e f g = absurd f
place_one h command spot (NotEmpty a m) q e f g = absurd f
place_one h command spot (Cycle a) q e f g = absurd f
place_one h command spot (TooDeep a) q e f g = absurd f
place_one h command spot (TooManyShares a) q e f g = absurd f
place_one h command spot (KitEmpty a m) q e f g = absurd f
place_one h command spot (NoDerivation a m) q e f g = absurd f
place_one h command spot _ _ e f g = cc

first_one : (m : Moment) (c : Command) (r q : Refusal) → number r ≡ number q → RefusesFirstPlace m c r
    → RefusesFirstPlace m c q → r ≡ q
first_one m c r q e f g =
    let mine : IsFirstSuch (spots_of c) (RefusesBy m.hierarchy c (number q)) r =
    subst (λ n. IsFirstSuch (spots_of c) (RefusesBy m.hierarchy c n) r) e f.first in
    let same = first_same (spots_of c) (RefusesBy m.hierarchy c (number q)) r q mine g.first in
    let theirs : RefusesPlace m.hierarchy c mine.item q =
    subst (λ spot. RefusesPlace m.hierarchy c spot q) (sym same.item_same) g.first.tells.refuses in
    place_one m.hierarchy c mine.item r q e mine.tells.refuses theirs

-- what applies is one of its number
pub applies_one : (m : Moment) (c : Command) (r q : Refusal) → number r ≡ number q → Applies m c r
    → Applies m c q → r ≡ q
applies_one m c r q e (inl f) (inl g) = command_one m c r q e f g
applies_one m c r q e (inl f) (inr g) = absurd (g.only r e f)
applies_one m c r q e (inr f) (inl g) = absurd (f.only q (sym e) g)
applies_one m c r q e (inr f) (inr g) = first_one m c r q e f g

settled_one : (depth : ℕ) (due : List Due) (seats others : List Seated) → AreSettled depth due seats
    → AreSettled depth due others → AreAlikeSeats seats others
settled_one depth [] [] [] f g = tt
settled_one depth [] [] (other ∷ others) f g = absurd g
settled_one depth [] (seat ∷ seats) others f g = absurd f
settled_one depth (d ∷ due) [] others f g = absurd f
settled_one depth (d ∷ due) (seat ∷ seats) [] f g = absurd g
settled_one depth (d ∷ due) (seat ∷ seats) (other ∷ others) f g =
    let same : IsAlikeSeat seat other = record {
      name = f.0.name ∙ sym g.0.name;
      port = f.0.port ∙ sym g.0.port;
      ends = f.0.derives.derives.ends ∙ sym g.0.derives.derives.ends;
    } in
    (same, settled_one depth due seats others f.1 g.1)

pub answer_one : (m : Moment) (c : Command) (a b : Answer) → IsAnswer m c a → IsAnswer m c b
    → IsAlikeAnswer a b
answer_one m c (Done seats) (Done others) f g =
    settled_one m.depth (dues m.hierarchy c) seats others f.settled g.settled
answer_one m c (Done seats) (Refused q) f g = f.none q g.applies
answer_one m c (Refused r) (Done others) f g = g.none r f.applies
answer_one m c (Refused r) (Refused q) f g =
    let x = f.least q g.applies in
    let y = g.least r f.applies in
    applies_one m c r q (omega (arith, x, y)) f.applies g.applies
