-- The scheduler on which a seat is asked for, where nothing but the want of a derivation refuses the request.
use Rattle.std.proofs.Common.{◌≡◌, ◌≢◌, ℕ, inl, inr, List, Option, Some, None, Bool, refl, sym, ap, ◌∙◌, arith, subst}
use Rattle.hls_text.specs.Lines.{Text}
use Rattle.hls_chron.specs.declared.plain.Config.{Config}
use Rattle.hls_chron.specs.declared.plain.Config.TheVariants as configs
use Rattle.hls_chron.specs.declared.plain.Terms.{Terms}
use Rattle.hls_chron.specs.declared.plain.Terms.TheVariants as terms
use Rattle.hls_chron.specs.Kinds.{kind_of, terms_kind}
use Rattle.hls_chron.specs.Ranges.{TermsInRange}
use Rattle.hls_kinds.specs.declared.fault.SeatFault.TheVariants as faults
use Rattle.hls_kinds.specs.Faults as seats
use Rattle.hls_kinds.specs.Fits.{Exceeds}
use Rattle.hls_guarantee.specs.declared.Guarantee.{Guarantee}
use Rattle.hls_scenario.specs.declared.scenario.Spot.TheVariants.{Under}
use Rattle.hls_scenario.specs.declared.scenario.Command.{Command}
use Rattle.hls_scenario.specs.Grammar.{IsTerms}
use Rattle.hls_report_text.specs.declared.refusal.Refusal.{Refusal}
use Rattle.hls_report_text.specs.declared.refusal.Refusal.TheVariants.{NoSuchName, WrongSort, TermsUnfit}
use Rattle.hls_machine.specs.Hierarchy.{Hierarchy, Node, Loaded, Admitted, Scheduler, config_of, haves_of}
use Rattle.hls_machine.specs.Steps.{is_thread}
use Rattle.hls_machine.specs.Legal.{IsReached}
use Rattle.hls_machine.proofs.Books.{AllMade, IsMadeNode, legal_made}
use Rattle.hls_book.proofs.Books.{kind_made}
use Rattle.hls_legal.specs.Moment.{Moment, NamesScheduler, node_of}
use Rattle.hls_legal.specs.Answers.{number, RefusesPlace}
use Rattle.hls_legal.proofs.KindLaws.{kind_cases}
use Rattle.hls_tree.specs.Reads.{IsLoaded}
use Rattle.hls_manager.proofs.Searches.{AreFit, fit_at}
use Rattle.hls_offer_asks.specs.declared.wish.Wish.{Wish}
use Rattle.hls_offer_asks.specs.Requests.{request_of}
use Rattle.hls_offer_asks.specs.Inside.Hindering.{IsUnhindered}
use Rattle.hls_offer_asks.proofs.Alike.{asks, place_applies}

-- a scheduler has the name, and seats of its kind have such terms
pub record IsSeatable (h : Hierarchy) (on : Text) (its : Terms) : Type 0 where
  pub scheduler : Scheduler
  pub there : node_of h on ≡ Some (Loaded scheduler)
  pub of_kind : terms_kind its ≡ kind_of scheduler.config
  pub within : ¬ Exceeds scheduler.config its

module _ (known : Bool) (m : Moment) (name on : Text) (its : Terms) (g : Guarantee)
    (un : IsUnhindered m (asks known name on its g)) where
  abbrev h : Hierarchy
  h = m.hierarchy

  abbrev c : Command
  c = asks known name on its g

  no_place : (r : Refusal) → number r ≢ 24 → RefusesPlace h c (Under on its) r → ⊥
  no_place r ne refuses =
      un r ne (place_applies known m name on its g r refuses
      (λ other same by. un other (λ last. ne (sym same ∙ last)) (inl by)))

  module _ (s : Scheduler) (there : node_of h on ≡ Some (Loaded s)) where
    no_unfit : seats.Applies s.config s.book its faults.Unfit → ⊥
    no_unfit applies = no_place (TermsUnfit on) (λ last. omega (arith, last)) (record {
      terms = its;
      place = refl;
      scheduler = s;
      there = there;
      applies = applies;
    })

    seatable : IsSeatable h on its
    seatable = record {
      scheduler = s;
      there = there;
      of_kind = elim (kind_cases (terms_kind its) (kind_of s.config)) [
        | inl same ↦ same
        | inr ne ↦ absurd (no_unfit (inl ne))
      ];
      within = λ more. no_unfit (inr more);
    }

  by_node : (node : Option Node) → node_of h on ≡ node → IsSeatable h on its
  by_node None e =
      absurd (no_place (NoSuchName on) (λ last. omega (arith, last)) (record { place = refl; unknown = e }))
  by_node (Some (Admitted t)) e =
      absurd (no_place (WrongSort (Some on)) (λ last. omega (arith, last))
      (refl, record { thread = t; there = e }))
  by_node (Some (Loaded s)) e = seatable s e

  pub is_seatable : IsSeatable h on its
  is_seatable = by_node (node_of h on) refl

pub wish_seatable : (m : Moment) (wish : Wish) (g : Guarantee) → IsUnhindered m (request_of m.hierarchy wish g)
    → IsSeatable m.hierarchy wish.on wish.terms
wish_seatable m wish g un =
    is_seatable (is_thread (node_of m.hierarchy wish.name)) m wish.name wish.on wish.terms g un

-- ---- what is loaded is not the processor

loaded_by : (node : Option Node) → IsLoaded node → IsMadeNode node → config_of node ≢ configs.Cpu
loaded_by None is made e = (let there = is.there in cc)
loaded_by (Some (Admitted t)) is made e = (let there = is.there in cc)
loaded_by (Some (Loaded s)) is made e = kind_made s.config s.book made (ap kind_of e)

pub not_processor : (h : Hierarchy) → IsReached h → (id : ℕ) → IsLoaded (h.nodes id)
    → config_of (h.nodes id) ≢ configs.Cpu
not_processor h reached id is =
    loaded_by (h.nodes id) is
    (subst (λ (g : Hierarchy). AllMade g) (sym reached.leads) (legal_made reached.past reached.legal) id)

pub terms_range : (its : Terms) → IsTerms its → TermsInRange its
terms_range terms.Cpu is = tt
terms_range (terms.Prio priority) is = is
terms_range (terms.Res hard x y) is = is
terms_range (terms.Weight weight) is = is
terms_range (terms.Slots places) is = is
terms_range terms.Turn is = tt
terms_range terms.Sole is = tt

-- ---- by the number of the scheduler

pub names_it : (h : Hierarchy) (on : Text) (its : Terms) → IsSeatable h on its → NamesScheduler h on
names_it h on its at = record { scheduler = at.scheduler; there = at.there }

pub fit_on : (h : Hierarchy) → IsReached h → (id : ℕ) → IsLoaded (h.nodes id)
    → AreFit (config_of (h.nodes id)) (haves_of (h.nodes id))
fit_on h reached id is = fit_at h reached (Some id) is

pub fit_as : (h : Hierarchy) → IsReached h → (id : ℕ) → IsLoaded (h.nodes id) → (config : Config)
    (haves : List Guarantee) → config ≡ config_of (h.nodes id) → haves ≡ haves_of (h.nodes id) → AreFit config haves
fit_as h reached id is config haves e f =
    subst (λ (c : Config). AreFit c haves) (sym e)
    (subst (λ (l : List Guarantee). AreFit (config_of (h.nodes id)) l) (sym f) (fit_on h reached id is))
