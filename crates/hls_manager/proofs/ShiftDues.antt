-- What a move is to derive, what is told of it, and that this has a text.
use Rattle.std.proofs.Common.{◌≡◌, ℕ, zero, suc, ◌<◌, ◌≤◌, List, [], ◌∷◌, Option, Some, None, refl, sym, ap}
use Rattle.std.proofs.Common.{◌∙◌, arith, subst, slice_get, length}
use Rattle.std.specs.Prelude.{option_map}
use Rattle.std.specs.List.{AllByRecursion}
use Rattle.std.proofs.lemmas.Option.{slice_get_within, slice_get-map}
use Rattle.hls_text.specs.Lines.{Text}
use Rattle.hls_chron.specs.Name.{IsName}
use Rattle.hls_chron.specs.Ranges.{ConfigInRange}
use Rattle.hls_chron.specs.declared.plain.Kind.{Kind}
use Rattle.hls_guarantee.specs.declared.Guarantee.{Guarantee}
use Rattle.hls_derive.specs.declared.derivation.Derivation.{Derivation}
use Rattle.hls_derive.specs.Derivation.{PortFits, IsWithinGrammar}
use Rattle.hls_derive.proofs.Derivings.{follow-valid, follow-start}
use Rattle.hls_scenario.specs.declared.scenario.Spot.{Spot}
use Rattle.hls_scenario.specs.declared.scenario.Spot.TheVariants.{Cpu, Under}
use Rattle.hls_scenario.specs.declared.scenario.Perch.{Perch}
use Rattle.hls_scenario.specs.declared.scenario.Command.TheVariants as said
use Rattle.hls_report_text.specs.declared.report.Seated.{Seated}
use Rattle.hls_report_text.specs.WellFormed.{IsSeated}
use Rattle.hls_machine.specs.Hierarchy.{Hierarchy, Node, Loaded, Admitted, SeatHolder, Seat as TakenSeat}
use Rattle.hls_machine.specs.Hierarchy.{seat_of, seats_of, config_of, haves_of, name_of}
use Rattle.hls_machine.specs.Lists.{IsListed}
use Rattle.hls_legal.specs.Moment.{number_of}
use Rattle.hls_legal.specs.Dues.{Due, dues, due_at, dues_on, Derives, IsUnderivable, IsSettled, AreSettled}
use Rattle.hls_legal.specs.Dues.{config_there, haves_there, told_name}
use Rattle.hls_legal.specs.Refusals.{IsFirstSuch, LacksDerivation}
use Rattle.hls_legal.proofs.Found.{named_is}
use Rattle.hls_tree.specs.Reads.{IsParent, taken_on}
use Rattle.hls_tree.specs.declared.seat.Seat.{Seat}
use Rattle.hls_manager.specs.Seats.{config_at, haves_at, due_for}
use Rattle.hls_machine.specs.Legal.{IsReached}
use Rattle.hls_manager.specs.Inside.Holders.{due_held}
use Rattle.hls_manager.specs.Inside.Shifts.{IsAtSpot, IsAimed}
use Rattle.hls_manager.proofs.Ranged.{IsRangedNode, AllRanged, legal_ranged}
use Rattle.hls_manager.proofs.Searches.{port_fits}
use Rattle.hls_manager.proofs.Askings.{at_parent}
use Rattle.hls_manager.proofs.NamedNodes.{reached_name}
use Rattle.hls_manager.proofs.Rederivals.{dues_held, held_seat}
use Rattle.hls_chron.proofs.ConfigLaws.{few_ports}

-- ---- the due of the mover

module _ (h : Hierarchy) (listed : IsListed h) (name : Text) (perch : Perch) (id : ℕ) (seat : Seat)
    (aimed : IsAimed h name perch id seat) where
  config_by : (parent : Option ℕ) (spot : Spot) → IsAtSpot h parent spot → config_at h parent ≡ config_there h spot
  config_by None Cpu is = refl
  config_by (Some p) (Under sched terms) is = ap config_of (sym (named_is h listed p sched is.0))
  config_by None (Under sched terms) is = absurd is
  config_by (Some p) Cpu is = absurd is

  haves_by : (parent : Option ℕ) (spot : Spot) → IsAtSpot h parent spot → haves_at h parent ≡ haves_there h spot
  haves_by None Cpu is = refl
  haves_by (Some p) (Under sched terms) is = ap haves_of (sym (named_is h listed p sched is.0))
  haves_by None (Under sched terms) is = absurd is
  haves_by (Some p) Cpu is = absurd is

  pub mover_due : due_for h name 0 seat ≡ due_at h name 0 perch
  mover_due =
      let config = config_by seat.parent perch.spot aimed.spot in
      let haves = haves_by seat.parent perch.spot aimed.spot in
      λ i. record {
        name = name;
        port = 0;
        place = record { config = config i; terms = aimed.terms i };
        haves = haves i;
        want = aimed.kept i;
      }

  pub aimed_parent : IsParent h seat.parent
  aimed_parent = at_parent h seat.parent perch.spot aimed.spot

-- ---- lists of dues

pub settled_derives : (depth : ℕ) (ds : List Due) (seats : List Seated) → AreSettled depth ds seats → (at : ℕ)
    (due : Due) → slice_get ds at ≡ Some due → (d : Derivation) × Derives depth due d
settled_derives depth [] seats are at due e = absurd (cc)
settled_derives depth (x ∷ ds) [] are at due e = absurd are
settled_derives depth (x ∷ ds) (s ∷ seats) are zero due e =
    (let same : x ≡ due = cc in
    (s.derivation, subst (λ (y : Due). Derives depth y s.derivation) same are.0.derives))
settled_derives depth (x ∷ ds) (s ∷ seats) are (suc at) due e = settled_derives depth ds seats are.1 at due e

-- no due is without a derivation
pub none_lacks : (depth : ℕ) (ds : List Due) (seats : List Seated) → AreSettled depth ds seats → (name : Text)
    → ¬ IsFirstSuch ds (LacksDerivation depth) name
none_lacks depth ds seats are name f =
    (let d = settled_derives depth ds seats are f.at f.item f.item_is in f.tells.lacks d.0 d.1)

pub lacks_first : (depth : ℕ) (due : Due) (ds : List Due) → IsUnderivable depth due
    → IsFirstSuch (due ∷ ds) (LacksDerivation depth) due.name
lacks_first depth due ds lacks = record {
  at = 0;
  item = due;
  item_is = refl;
  tells = record { whose = refl; lacks = lacks };
  first = λ before other some lt e tells. absurd (omega (arith, lt));
}

pub lacks_later : (depth : ℕ) (due : Due) (ds : List Due) (d : Derivation) → Derives depth due d → (name : Text)
    → IsFirstSuch ds (LacksDerivation depth) name → IsFirstSuch (due ∷ ds) (LacksDerivation depth) name
lacks_later depth due ds d derives name f = record {
  at = suc f.at;
  item = f.item;
  item_is = f.item_is;
  tells = f.tells;
  first = λ before other some lt e tells. by before other some lt e tells;
}
  where
    by : (before : ℕ) (other : Due) (some : Text) → before < suc f.at → slice_get (due ∷ ds) before ≡ Some other
        → ¬ LacksDerivation depth other some
    by zero other some lt e tells =
        (let same : due ≡ other = cc in tells.lacks d (subst (λ (y : Due). Derives depth y d) same derives))
    by (suc before) other some lt e tells = f.first before other some (omega (arith, lt)) e tells

pub move_dues : (h : Hierarchy) (name : Text) (perch : Perch) (id : ℕ) → number_of h name ≡ Some id
    → dues h (said.Move name perch) ≡ due_at h name 0 perch ∷ dues_on h perch.want (Some id)
move_dues h name perch id e = ap (λ n. due_at h name 0 perch ∷ dues_on h perch.want n) e

-- ---- what is told has a text

-- a due of a seat with a name, of a port that there may be, at a configuration in its ranges
pub record IsTellable (due : Due) : Type 0 where
  pub named : IsName due.name
  pub port : due.port ≤ 3
  pub config : ConfigInRange due.place.config

derivation_within : (depth : ℕ) → depth ≤ 6 → (due : Due) (d : Derivation) → ConfigInRange due.place.config
    → Derives depth due d → IsWithinGrammar d
derivation_within depth shallow due d range told =
    let derived = told.derives in
    let through = derived.sched.through in
    let short = told.short in
    record {
      from = follow-start d.from d.before derived.before through.from;
      before = follow-valid d.from d.before derived.before;
      sched = through.to;
      after = follow-valid d.sched.to d.after derived.after;
      port = subst (λ (kind : Kind). PortFits kind d.sched.port) (sym derived.kind)
          (port_fits due.place.config d.sched.port range through.port_of);
      depth = omega (arith, short, shallow);
    }

seat_told : (depth : ℕ) → depth ≤ 6 → (due : Due) (s : Seated) → IsTellable due → IsSettled depth due s → IsSeated s
seat_told depth shallow due s is told = record {
  named = subst (λ (n : Text). IsName n) (sym told.name) is.named;
  port = (let e = told.port in let le = is.port in omega (arith, e, le));
  derivation = derivation_within depth shallow due s.derivation is.config told.derives;
}

pub seats_told : (depth : ℕ) → depth ≤ 6 → (ds : List Due) (seats : List Seated) → AreSettled depth ds seats
    → ((at : ℕ) (due : Due) → slice_get ds at ≡ Some due → IsTellable due) → AllByRecursion IsSeated seats
seats_told depth shallow [] [] are is = tt
seats_told depth shallow [] (s ∷ seats) are is = absurd are
seats_told depth shallow (x ∷ ds) [] are is = absurd are
seats_told depth shallow (x ∷ ds) (s ∷ seats) are is = (
  seat_told depth shallow x s (is 0 x refl) are.0,
  seats_told depth shallow ds seats are.1 (λ at due e. is (suc at) due e),
)

-- ---- the dues of a move are tellable

few_seats : (node : Option Node) → IsRangedNode node → length (seats_of node) ≤ 4
few_seats None is = omega arith
few_seats (Some (Admitted t)) is = omega arith
few_seats (Some (Loaded s)) is =
    (let e = is.1 in let le = few_ports s.config is.2 in omega (arith, e, le))

config_ranged : (node : Option Node) → IsRangedNode node → ConfigInRange (config_of node)
config_ranged None is = tt
config_ranged (Some (Admitted t)) is = tt
config_ranged (Some (Loaded s)) is = is.2

module _ (h : Hierarchy) (is : IsReached h) where
  ranged : AllRanged h
  ranged = subst (λ (g : Hierarchy). AllRanged g) (sym is.leads) (legal_ranged is.past is.legal)

  name_by : (node : Option Node) (port : ℕ) (seat : TakenSeat) → seat_of node port ≡ Some seat
      → (name : Text) × (name_of node ≡ Some name)
  name_by None port seat e = absurd (cc)
  name_by (Some (Loaded s)) port seat e = (s.name, refl)
  name_by (Some (Admitted t)) port seat e = (t.name, refl)

  held_tellable : (k at : ℕ) (has : Guarantee) (s : SeatHolder) → slice_get (taken_on h k) at ≡ Some s
      → IsTellable (due_held h k has s)
  held_tellable k at has s e =
      let seat = held_seat h k at s.node s.port e in
      let name = name_by (h.nodes s.node) s.port seat.0 seat.1 in
      let lt = slice_get_within (seats_of (h.nodes s.node)) s.port seat.0 seat.1 in
      let le = few_seats (h.nodes s.node) (ranged s.node) in
      record {
        named = subst (λ (n : Text). IsName n) (ap told_name (sym name.1)) (reached_name h is s.node name.0 name.1);
        port = omega (arith, lt, le);
        config = config_ranged (h.nodes k) (ranged k);
      }

  some_held : (k at : ℕ) (has : Guarantee) (any : Option SeatHolder) (due : Due) → slice_get (taken_on h k) at ≡ any
      → option_map (due_held h k has) any ≡ Some due → IsTellable due
  some_held k at has None due e f = absurd (cc)
  some_held k at has (Some s) due e f =
      (let same : due_held h k has s ≡ due = cc in
      subst (λ (d : Due). IsTellable d) same (held_tellable k at has s e))

  pub on_tellable : (k at : ℕ) (has : Guarantee) (due : Due) → slice_get (dues_on h has (Some k)) at ≡ Some due
      → IsTellable due
  on_tellable k at has due e =
      some_held k at has (slice_get (taken_on h k) at) due refl
      (sym (ap (λ ds. slice_get ds at) (dues_held h k has) ∙ slice_get-map (due_held h k has) (taken_on h k) at) ∙ e)

  pub mover_tellable : (listed : IsListed h) (name : Text) (perch : Perch) (id : ℕ) (seat : Seat)
      → IsAimed h name perch id seat → IsName name → IsTellable (due_at h name 0 perch)
  mover_tellable listed name perch id seat aimed named =
      subst (λ (d : Due). IsTellable d) (mover_due h listed name perch id seat aimed)
      (record { named = named; port = omega arith; config = by seat.parent })
    where
      by : (parent : Option ℕ) → ConfigInRange (config_at h parent)
      by None = tt
      by (Some p) = config_ranged (h.nodes p) (ranged p)

  pub move_tellable : (listed : IsListed h) (name : Text) (perch : Perch) (id : ℕ) (seat : Seat)
      → IsAimed h name perch id seat → IsName name → number_of h name ≡ Some id → (at : ℕ) (due : Due)
      → slice_get (dues h (said.Move name perch)) at ≡ Some due → IsTellable due
  move_tellable listed name perch id seat aimed named number at due e =
      by at (sym (ap (λ ds. slice_get ds at) (move_dues h name perch id number)) ∙ e)
    where
      by : (at : ℕ) → slice_get (due_at h name 0 perch ∷ dues_on h perch.want (Some id)) at ≡ Some due
          → IsTellable due
      by zero f =
          (let same : due_at h name 0 perch ≡ due = cc in
          subst (λ (d : Due). IsTellable d) same (mover_tellable listed name perch id seat aimed named))
      by (suc at) f = on_tellable id at perch.want due f
