-- The first terms with which a need is done, from the first that have a derivation.
use Rattle.std.proofs.Common.{◌≡◌, ◌≢◌, ℕ, ◌≤◌, ◌<◌, inl, inr, List, Option, Some, None, refl, sym, ap, ◌∙◌}
use Rattle.std.proofs.Common.{subst, arith}
use Rattle.std.proofs.lemmas.Bool.{cases_lt}
use Rattle.hls_text.specs.Lines.{Text}
use Rattle.hls_chron.specs.declared.plain.Config.{Config}
use Rattle.hls_chron.specs.declared.plain.Config.TheVariants as configs
use Rattle.hls_chron.specs.declared.plain.Terms.{Terms}
use Rattle.hls_chron.specs.declared.plain.Terms.TheVariants as terms
use Rattle.hls_chron.specs.Kinds.{kind_of}
use Rattle.hls_chron.specs.Ranges.{TermsInRange}
use Rattle.hls_kinds.specs.Fits.{Exceeds}
use Rattle.hls_report_text.specs.declared.refusal.Refusal.{Refusal}
use Rattle.hls_report_text.specs.declared.refusal.Refusal.TheVariants.{NoDerivation}
use Rattle.hls_machine.specs.Hierarchy.{Node, config_of}
use Rattle.hls_machine.specs.Legal.{IsReached}
use Rattle.hls_legal.specs.Moment.{Moment}
use Rattle.hls_offer_lines.specs.Cost.{ComesBefore, HasPeriodOf, IsFit}
use Rattle.hls_offer_asks.specs.declared.needs.Need.{Need}
use Rattle.hls_offer_asks.specs.declared.needs.Had.{Had}
use Rattle.hls_offer_asks.specs.declared.needs.Had.TheVariants.{At, Refused}
use Rattle.hls_offer_asks.specs.Needs.{IsBarred, IsDerivedOn, IsDoneOn, IsFirstWith, IsHad, IsNowhereElse, IsRefusedOn}
use Rattle.hls_offer_asks.specs.Needs.{IsUnbarred, NoneDone, config_on, wish_of}
use Rattle.hls_offer_asks.specs.Inside.Trying.{IsDerivedFirst, IsDoneBehind, IsDoneBelow, IsTried}
use Rattle.hls_offer_asks.proofs.Asked.{done_unhindered, offered_if_done}
use Rattle.hls_offer_asks.proofs.Seatable.{wish_seatable}
use Rattle.hls_offer_asks.proofs.Dearer.{none_dearer, room_rises}

no_excess : (config : Config) (p : ℕ) → ¬ Exceeds config (terms.Prio p)
no_excess configs.Fp p more = more
no_excess _ p more = more

module _ (m : Moment) (reached : IsReached m.hierarchy) (need : Need) (on : Text) (periods : Option (List ℕ)) where
  -- ---- what is done has a derivation, and fits

  derived_if_done : (its : Terms) → IsDoneOn m need on its → IsDerivedOn m need on its
  derived_if_done its done = offered_if_done m reached (wish_of need on its) need.wanted done

  fits_if_done : (its : Terms) → TermsInRange its → HasPeriodOf periods its → IsDoneOn m need on its
      → IsFit (config_on m on) periods its
  fits_if_done its range period done =
      let at = wish_seatable m (wish_of need on its) need.wanted (done_unhindered m _ done.0 done.1) in
      record {
        range = range;
        of_kind = at.of_kind ∙ ap (λ (n : Option Node). kind_of (config_of n)) (sym at.there);
        within = subst (λ (n : Option Node). ¬ Exceeds (config_of n) its) (sym at.there) at.within;
        period = period;
      }

  not_both : (its : Terms) (refusal : Refusal) → IsRefusedOn m need on refusal its → IsDoneOn m need on its → ⊥
  not_both its refusal refused done = done.1.none refusal refused.applies

  -- ---- it is done with the first ones that have a derivation

  first_done : (its : Terms) → IsFirstWith (config_on m on) periods (IsDerivedOn m need on) its
      → IsDoneOn m need on its → IsFirstWith (config_on m on) periods (IsDoneOn m need on) its
  first_done its first done = record {
    fits = first.fits;
    holds = done;
    first = λ other fits also. first.first other fits (derived_if_done other also);
  }

  -- ---- or with a later priority

  module _ (high : ℕ) (first : IsFirstWith (config_on m on) periods (IsDerivedOn m need on) (terms.Prio high))
      (refusal : Refusal) (refused : IsRefusedOn m need on refusal (terms.Prio high)) where
    none_above : (p : ℕ) → high ≤ p → IsFit (config_on m on) periods (terms.Prio p)
        → IsDoneOn m need on (terms.Prio p) → ⊥
    none_above p from fits done = elim (cases_lt high p) [
      | inl above ↦ first.first (terms.Prio p) fits (derived_if_done (terms.Prio p) done) above
      | inr le ↦
          let same : p ≡ high = omega (arith, from, le) in
          not_both (terms.Prio high) refusal refused
          (subst (λ n. IsDoneOn m need on (terms.Prio n)) same done)
    ]

    later_done : (low : ℕ) → IsDoneBelow m need on high low
        → IsFirstWith (config_on m on) periods (IsDoneOn m need on) (terms.Prio low)
    later_done low is = record {
      fits = record {
        range = (let top : high ≤ 31 = first.fits.range in let less = is.below in omega (arith, top, less));
        of_kind = first.fits.of_kind;
        within = no_excess (config_on m on) low;
        period = tt;
      };
      holds = is.done;
      first = none_before;
    }
      where
        none_before : (other : Terms) → IsFit (config_on m on) periods other → IsDoneOn m need on other
            → ¬ ComesBefore other (terms.Prio low)
        none_before (terms.Prio p) fits done before = elim (cases_lt p high) [
          | inl less ↦ is.between p before less done
          | inr from ↦ none_above p from fits done
        ]
        none_before _ fits done before = before

    none_later : ((p : ℕ) → p < high → ¬ IsDoneOn m need on (terms.Prio p)) → NoneDone m need on periods
    none_later none its range period done = by its (fits_if_done its range period done) done
      where
        by : (its : Terms) → IsFit (config_on m on) periods its → IsDoneOn m need on its → ⊥
        by (terms.Prio p) fits done = elim (cases_lt p high) [
          | inl less ↦ none p less done
          | inr from ↦ none_above p from fits done
        ]
        by other fits done = (let both = fits.of_kind ∙ sym first.fits.of_kind in cc)

  -- ---- or with none

  none_behind : (its : Terms) → ((p : ℕ) → its ≢ terms.Prio p)
      → IsFirstWith (config_on m on) periods (IsDerivedOn m need on) its → (refusal : Refusal)
      → IsRefusedOn m need on refusal its → NoneDone m need on periods
  none_behind its apart first refusal refused other range period done =
      let fits = fits_if_done other range period done in
      let late = first.first other fits (derived_if_done other done) in
      none_dearer m reached need on its other apart periods first.fits first.holds
      (room_rises (config_on m on) its other first.fits.of_kind fits.of_kind late) done refusal refused

  none_done : (its : Terms) → IsFirstWith (config_on m on) periods (IsDerivedOn m need on) its
      → (refusal : Refusal) → IsRefusedOn m need on refusal its → IsDoneBehind m need on its None
      → NoneDone m need on periods
  none_done (terms.Prio high) first refusal refused behind = none_later high first refusal refused behind
  none_done terms.Cpu first refusal refused behind = none_behind terms.Cpu (λ p e. cc) first refusal refused
  none_done (terms.Res hard x y) first refusal refused behind =
      none_behind (terms.Res hard x y) (λ p e. cc) first refusal refused
  none_done (terms.Weight w) first refusal refused behind =
      none_behind (terms.Weight w) (λ p e. cc) first refusal refused
  none_done (terms.Slots k) first refusal refused behind =
      none_behind (terms.Slots k) (λ p e. cc) first refusal refused
  none_done terms.Turn first refusal refused behind = none_behind terms.Turn (λ p e. cc) first refusal refused
  none_done terms.Sole first refusal refused behind = none_behind terms.Sole (λ p e. cc) first refusal refused

  done_later : (its other : Terms) → IsFirstWith (config_on m on) periods (IsDerivedOn m need on) its
      → (refusal : Refusal) → IsRefusedOn m need on refusal its → IsDoneBehind m need on its (Some other)
      → IsFirstWith (config_on m on) periods (IsDoneOn m need on) other
  done_later (terms.Prio high) (terms.Prio low) first refusal refused behind =
      later_done high first refusal refused low behind
  done_later _ _ first refusal refused behind = absurd behind

  -- ---- together

  module _ (free : IsUnbarred m need on) where
    had_by : (its : Terms) → IsFirstWith (config_on m on) periods (IsDerivedOn m need on) its → (had : Had)
        → IsTried m need on its had → IsHad m need on periods had
    had_by its first (At other) (inl (same, done)) =
        subst (λ (t : Terms). IsFirstWith (config_on m on) periods (IsDoneOn m need on) t) (sym same)
        (first_done its first done)
    had_by its first (At other) (inr (refusal, refused, behind)) = done_later its other first refusal refused behind
    had_by its first (Refused None refusal) tried = absurd tried
    had_by its first (Refused (Some other) refusal) (same, refused, behind) =
        subst (λ (t : Terms). IsHad m need on periods (Refused (Some t) refusal)) (sym same) (record {
          unbarred = free;
          first = first;
          refused = refused;
          none = none_done its first refusal refused behind;
        })

    nowhere_by : (its : Terms) → IsFirstWith (config_on m on) periods (IsDerivedOn m need on) its → (had : Had)
        → IsTried m need on its had → IsNowhereElse m need on periods had
    nowhere_by its first (At other) tried = tt
    nowhere_by its first (Refused None refusal) tried = absurd tried
    nowhere_by its first (Refused (Some other) refusal) (same, refused, behind) =
        none_done its first refusal refused behind

    pub tried_had : (its : Terms) → IsDerivedFirst m need on periods (Some its) → (had : Had)
        → IsTried m need on its had → IsHad m need on periods had
    tried_had its first had tried = had_by its first had tried

    pub tried_nowhere : (its : Terms) → IsDerivedFirst m need on periods (Some its) → (had : Had)
        → IsTried m need on its had → IsNowhereElse m need on periods had
    tried_nowhere its first had tried = nowhere_by its first had tried

    -- none has a derivation
    pub underived_had : IsDerivedFirst m need on periods None
        → IsHad m need on periods (Refused None (NoDerivation need.name m.depth))
    underived_had none = inr (record { unbarred = free; none = none; refusal_is = refl })

    pub underived_nowhere : IsDerivedFirst m need on periods None → NoneDone m need on periods
    underived_nowhere none its range period done =
        none its (fits_if_done its range period done) (derived_if_done its done)

  -- the names are wrong
  pub barred_nowhere : (refusal : Refusal) → IsBarred m need on refusal → NoneDone m need on periods
  barred_nowhere refusal barred its range period done = not_both its refusal (barred.refused its) done
