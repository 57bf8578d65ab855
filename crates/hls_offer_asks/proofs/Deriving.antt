-- The first terms that have a derivation, from what is asked of the scheduler.
use Rattle.std.proofs.Common.{◌≡◌, ℕ, List, Option, Some, None, sym, ap, ◌∙◌, subst}
use Rattle.hls_text.specs.Lines.{Text}
use Rattle.hls_chron.specs.declared.plain.Config.{Config}
use Rattle.hls_chron.specs.declared.plain.Terms.{Terms}
use Rattle.hls_guarantee.specs.declared.Guarantee.{Guarantee}
use Rattle.hls_machine.specs.Hierarchy.{config_of, haves_of}
use Rattle.hls_machine.specs.Legal.{IsReached}
use Rattle.hls_legal.specs.Tells.{HasName}
use Rattle.hls_legal.specs.Moment.{Moment, node_of}
use Rattle.hls_legal.proofs.Found.{named_is}
use Rattle.hls_manager.proofs.Outcomes.{reached_listed}
use Rattle.hls_offer_laws.specs.Offered.{IsOffered}
use Rattle.hls_offer_lines.specs.declared.terms.TermsAsked.{TermsAsked}
use Rattle.hls_offer_lines.specs.Cost.{IsFirstIfAny, IsFit, IsHadOn}
use Rattle.hls_offer_asks.specs.declared.needs.Need.{Need}
use Rattle.hls_offer_asks.specs.Needs.{IsDerivedOn, config_on}
use Rattle.hls_offer_asks.specs.Inside.Trying.{IsDerivedFirst}

module _ (m : Moment) (need : Need) (on : Text) (asked : TermsAsked) (periods : Option (List ℕ))
    (config : asked.config ≡ config_on m on) (haves : asked.haves.now ≡ haves_of (node_of m.hierarchy on))
    (depth : asked.depth ≡ m.depth) (wanted : asked.wanted ≡ need.wanted) where
  same_had : (its : Terms) → IsHadOn asked its ≡ IsDerivedOn m need on its
  same_had its = λ i. IsOffered (record { config = config i; terms = its }) (haves i) (depth i) (wanted i)

  derived_if_had : (its : Terms) → IsHadOn asked its → IsDerivedOn m need on its
  derived_if_had its had = subst (λ (T : Type 0). T) (same_had its) had

  had_if_derived : (its : Terms) → IsDerivedOn m need on its → IsHadOn asked its
  had_if_derived its is = subst (λ (T : Type 0). T) (sym (same_had its)) is

  fit_there : (its : Terms) → IsFit (config_on m on) periods its → IsFit asked.config periods its
  fit_there its fit = subst (λ (c : Config). IsFit c periods its) (sym config) fit

  pub first_derived : (first : Option Terms) → IsFirstIfAny asked periods first
      → IsDerivedFirst m need on periods first
  first_derived None none = λ its fit derived. none its (fit_there its fit) (had_if_derived its derived)
  first_derived (Some its) is = record {
    fits = subst (λ (c : Config). IsFit c periods its) config is.fits;
    holds = derived_if_had its is.had;
    first = λ other fit derived. is.first other (fit_there other fit) (had_if_derived other derived);
  }

pub config_found : (m : Moment) → IsReached m.hierarchy → (on : Text) (id : ℕ) → HasName m.hierarchy id on
    → (config : Config) → config ≡ config_of (m.hierarchy.nodes id) → config ≡ config_on m on
config_found m reached on id has config e =
    e ∙ ap config_of (sym (named_is m.hierarchy (reached_listed m.hierarchy reached) id on has))

pub haves_found : (m : Moment) → IsReached m.hierarchy → (on : Text) (id : ℕ) → HasName m.hierarchy id on
    → (haves : List Guarantee) → haves ≡ haves_of (m.hierarchy.nodes id)
    → haves ≡ haves_of (node_of m.hierarchy on)
haves_found m reached on id has haves e =
    e ∙ ap haves_of (sym (named_is m.hierarchy (reached_listed m.hierarchy reached) id on has))
