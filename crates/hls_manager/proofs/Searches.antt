-- What a search is asked for a seat that is wanted, and what it tells, by the hierarchy.
use Rattle.std.proofs.Common.{◌≡◌, ℕ, suc, ◌≤◌, ◌<◌, ◌≢◌, List, [], ◌∷◌, Option, Some, None, refl, sym, ◌∙◌}
use Rattle.std.proofs.Common.{length, subst, arith}
use Rattle.std.specs.Prelude.{All}
use Rattle.std.proofs.lemmas.List.Elements.{All-nil, All-cons, All-map}
use Rattle.std.proofs.lemmas.List.{length-map}
use Rattle.hls_text.specs.Lines.{Text}
use Rattle.hls_chron.specs.declared.plain.Config.{Config}
use Rattle.hls_chron.specs.declared.plain.Kind.TheVariants as kinds
use Rattle.hls_chron.specs.declared.plain.Kind.{Kind}
use Rattle.hls_chron.specs.Kinds.{kind_of, port_count, IsPort}
use Rattle.hls_chron.specs.Ranges.{ConfigInRange, TermsInRange}
use Rattle.hls_guarantee.specs.declared.Guarantee.{Guarantee}
use Rattle.hls_guarantee.specs.declared.Guarantee.TheVariants as guarantees
use Rattle.hls_guarantee.specs.Limits.{IsNarrow}
use Rattle.hls_derive.specs.declared.derivation.Place.{Place}
use Rattle.hls_derive.specs.declared.derivation.Derivation.{Derivation}
use Rattle.hls_derive.specs.Derivation.{PortFits, IsWithinGrammar}
use Rattle.hls_derive.proofs.Derivings.{follow-valid, follow-start}
use Rattle.hls_search.specs.Search.{CanSearch}
use Rattle.hls_machine.specs.Hierarchy.{Hierarchy, Node, Loaded, Admitted, Seat as TakenSeat, config_of, haves_of}
use Rattle.hls_legal.specs.Dues.{Derives}
use Rattle.hls_tree.specs.Reads.{IsLoaded, IsParent}
use Rattle.hls_tree.specs.declared.seat.Seat.{Seat}
use Rattle.hls_manager.specs.Seats.{config_at, haves_at, due_for}
use Rattle.hls_machine.specs.Legal.{IsReached}
use Rattle.hls_manager.proofs.Ranged.{AreInRange, IsRangedNode, reached_ranged}
use Rattle.hls_chron.proofs.ConfigLaws.{port_within, few_ports, sole_port}

-- ---- what is asked

-- a configuration in its ranges, and a guarantee for each of its ports, within the limits of a scenario
pub record AreFit (config : Config) (haves : List Guarantee) : Type 0 where
  pub config_fits : ConfigInRange config
  pub ports : length haves ≡ port_count config
  pub narrow : All IsNarrow haves

abbrev IsNarrowSeat : TakenSeat → Type 0
IsNarrowSeat seat = IsNarrow seat.kept

narrow_seats : (seats : List TakenSeat) → AreInRange seats → All IsNarrowSeat seats
narrow_seats [] ranged = All-nil IsNarrowSeat
narrow_seats (seat ∷ seats) ranged =
    All-cons IsNarrowSeat seat seats (ranged 0 seat refl).kept
    (narrow_seats seats (λ port other e. ranged (suc port) other e))

fit_node : (node : Option Node) → IsLoaded node → IsRangedNode node → AreFit (config_of node) (haves_of node)
fit_node None is ranged = absurd (let there = is.there in cc)
fit_node (Some (Admitted t)) is ranged = absurd (let there = is.there in cc)
fit_node (Some (Loaded s)) is ranged = record {
  config_fits = ranged.2;
  ports = length-map s.ports _ ∙ ranged.1;
  narrow = All-map IsNarrow (λ (seat : TakenSeat). seat.kept) s.ports (narrow_seats s.ports ranged.0);
}

pub fit_at : (h : Hierarchy) → IsReached h → (parent : Option ℕ) → IsParent h parent
    → AreFit (config_at h parent) (haves_at h parent)
fit_at h is None there = record {
  config_fits = tt;
  ports = refl;
  narrow = All-cons IsNarrow guarantees.All [] tt (All-nil IsNarrow);
}
fit_at h is (Some p) there = fit_node (h.nodes p) there (reached_ranged h is p)

module _ (h : Hierarchy) (seat : Seat) (config : Config) (haves : List Guarantee)
    (config_is : config ≡ config_at h seat.parent) (haves_are : haves ≡ haves_at h seat.parent) where
  abbrev place : Place
  place = record { config = config; terms = seat.terms }

  fit : IsReached h → IsParent h seat.parent → AreFit config haves
  fit is there =
      subst (λ (c : Config). AreFit c haves) (sym config_is)
      (subst (λ (g : List Guarantee). AreFit (config_at h seat.parent) g) (sym haves_are)
      (fit_at h is seat.parent there))

  pub can_search : IsReached h → IsParent h seat.parent → TermsInRange seat.terms → IsNarrow seat.kept
      → CanSearch place haves seat.kept
  can_search is there range narrow =
      let fits = fit is there in
      record {
        config = fits.config_fits;
        terms = range;
        ports = fits.ports;
        each_have = fits.narrow;
        wanted = narrow;
      }

-- ---- what is told has a text

fits_by : (kind : Kind) (port : ℕ) → (kind ≢ kinds.Join → port ≡ 0) → port < 4 → PortFits kind port
fits_by kinds.Join port zero few = omega (arith, few)
fits_by kinds.Cpu port zero few = zero (λ e. cc)
fits_by kinds.Fp port zero few = zero (λ e. cc)
fits_by kinds.Edf port zero few = zero (λ e. cc)
fits_by kinds.Sfq port zero few = zero (λ e. cc)
fits_by kinds.Rr port zero few = zero (λ e. cc)
fits_by kinds.Wheel port zero few = zero (λ e. cc)

pub port_fits : (config : Config) (port : ℕ) → ConfigInRange config → IsPort config port
    → PortFits (kind_of config) port
port_fits config port range is =
    let lt = port_within config port is in
    let few = few_ports config range in
    fits_by (kind_of config) port (λ ne. sole_port config port ne is) (omega (arith, lt, few))

pub within_grammar : (h : Hierarchy) (seat : Seat) → IsReached h → IsParent h seat.parent → (depth : ℕ) → depth ≤ 6
    → (name : Text) (port : ℕ) (d : Derivation) → Derives depth (due_for h name port seat) d → IsWithinGrammar d
within_grammar h seat is there depth shallow name port d told =
    let derived = told.derives in
    let through = derived.sched.through in
    let fits = fit_at h is seat.parent there in
    let short = told.short in
    record {
      from = follow-start d.from d.before derived.before through.from;
      before = follow-valid d.from d.before derived.before;
      sched = through.to;
      after = follow-valid d.sched.to d.after derived.after;
      port = subst (λ (kind : Kind). PortFits kind d.sched.port) (sym derived.kind)
          (port_fits (config_at h seat.parent) d.sched.port fits.config_fits through.port_of);
      depth = omega (arith, short, shallow);
    }
