-- Derivations from their parts, and what a place lends.
use Rattle.std.proofs.Common.{◌≡◌, ◌≢◌, ℕ, ◌+◌, ◌*◌, ◌≤◌, ◌⊎◌, inl, inr, List, [], length, refl, sym, subst, arith}
use Rattle.std.specs.Prelude.{Some, slice_get}
use Rattle.std.proofs.lemmas.Option.{slice_get_within}
use Rattle.hls_chron.specs.declared.plain.Config.{Config}
use Rattle.hls_chron.specs.declared.plain.Config.TheVariants as configs
use Rattle.hls_chron.specs.declared.plain.Sharing.{Sharing}
use Rattle.hls_chron.specs.declared.plain.Terms.{Terms}
use Rattle.hls_chron.specs.declared.plain.Terms.TheVariants as terms
use Rattle.hls_chron.specs.Ranges.{ConfigInRange, TermsInRange}
use Rattle.hls_guarantee.specs.declared.Guarantee.{Guarantee}
use Rattle.hls_guarantee.specs.declared.Guarantee.TheVariants.{All, Psbe}
use Rattle.hls_guarantee.specs.Limits.{IsValid, IsNarrow}
use Rattle.hls_chron.specs.Kinds.{IsPort, kind_of, by_shares}
use Rattle.hls_guarantee.specs.Steps.{LendsByTerms, LendsNothing, LendsThrough}
use Rattle.hls_derive.specs.declared.derivation.Place.{Place}
use Rattle.hls_derive.specs.declared.derivation.Step.{Step}
use Rattle.hls_search_laws.proofs.Makes.{narrow-valid}
use Rattle.hls_search.specs.Inside.Chains.{LeadsTo}
use Rattle.hls_search.specs.Inside.Found.{through, Derives}
use Rattle.hls_search.specs.Inside.Places.{LendsOfAll, LendsShares, LendsOfAllOf, LendsSharesOf}
use Rattle.hls_chron.specs.declared.plain.Kind.{Kind}
use Rattle.hls_chron.specs.declared.plain.Kind.TheVariants as kinds
use Rattle.hls_search.proofs.Shares.{part-valid}
use Rattle.hls_search.proofs.Taking.{others_of, fair-size, fair-part, turn-size, turn-part}
use Rattle.hls_chron.proofs.ConfigLaws.{first_port, sole_port, sharing_or_not}

-- what is lent of a narrow guarantee is valid
abbrev LendsValid : Config → Type 0
LendsValid config = (its : Terms) (g h : Guarantee) → ConfigInRange config → TermsInRange its → IsNarrow g
    → LendsByTerms config its g h → IsValid h

fair_valid : (sharing : Sharing) → LendsValid (by_shares sharing)
fair_valid sharing (terms.Weight weight) (Psbe s d) (Psbe p e) rc rt narrow lends =
    let fits : weight ≤ sharing.total = (let sum = lends.weights in omega arith) in
    part-valid weight sharing.total (others_of sharing weight) s d p e (fair-size sharing weight rc rt fits) narrow
    (fair-part sharing weight s d p e lends)
fair_valid sharing _ _ _ rc rt narrow lends = absurd lends

other_valid : (config : Config) → kind_of config ≢ kinds.Sfq → LendsValid config
other_valid configs.Cpu ne terms.Cpu All h rc rt narrow lends = subst IsValid (sym lends) tt
other_valid configs.Fp ne (terms.Prio priority) g h rc rt narrow lends =
    subst IsValid (sym lends.1) (narrow-valid g narrow)
other_valid configs.Edf ne (terms.Res hard x y) All h rc rt narrow lends =
    subst IsValid (sym lends) (record { some = rt.0; fits = rt.1; size = omega (arith, rt.2) })
other_valid (configs.Wheel frame) ne (terms.Slots places) All h rc rt narrow lends =
    subst IsValid (sym lends.1) (record { some = rt.0; fits = lends.0; size = omega (arith, rc.1) })
other_valid (configs.Rr quantum) ne terms.Turn (Psbe s d) (Psbe p e) rc rt narrow lends =
    part-valid 1 32 (31 * quantum) s d p e (turn-size quantum rc) narrow (turn-part quantum s d p e lends)
other_valid (configs.Join ports) ne terms.Sole g h rc rt narrow lends =
    subst IsValid (sym lends.1) (narrow-valid g narrow)
other_valid config ne _ _ _ rc rt narrow lends = absurd (grind (arith, ne, lends))

pub lent-valid : (config : Config) (its : Terms) (g h : Guarantee) → ConfigInRange config → TermsInRange its
    → IsNarrow g → LendsByTerms config its g h → IsValid h
lent-valid = sharing_or_not LendsValid fair_valid other_valid

-- what lends nothing anyway is lent at each port
pub nothing-lent : (config : Config) (its : Terms) (have want : Guarantee) → ConfigInRange config → IsValid have
    → IsValid want → LendsNothing config want → LendsThrough config its 0 have want
nothing-lent config its have want range from to nothing = record {
  from = from;
  to = to;
  port_of = first_port config range;
  lends = inr nothing;
}

or-nothing : (config : Config) (its : Terms) (g h : Guarantee) → (LendsNothing config h → ⊥)
    → LendsByTerms config its g h ⊎ LendsNothing config h → LendsByTerms config its g h
or-nothing config its g h some (inl lends) = lends
or-nothing config its g h some (inr lends) = absurd (some lends)

pub by-its-terms : (config : Config) (its : Terms) (port : ℕ) (g h : Guarantee) → (LendsNothing config h → ⊥)
    → LendsThrough config its port g h → LendsByTerms config its g h
by-its-terms config its port g h some lends = or-nothing config its g h some lends.lends

of_no_join : (kind : Kind) → LendsOfAllOf kind ⊎ LendsSharesOf kind → kind ≢ kinds.Join
of_no_join kinds.Join (inl of) e = absurd of
of_no_join kinds.Join (inr of) e = absurd of
of_no_join kinds.Cpu of e = cc
of_no_join kinds.Fp of e = cc
of_no_join kinds.Edf of e = cc
of_no_join kinds.Sfq of e = cc
of_no_join kinds.Rr of e = cc
of_no_join kinds.Wheel of e = cc

pub sole-port : (config : Config) (port : ℕ) → LendsOfAll config ⊎ LendsShares config → IsPort config port → port ≡ 0
sole-port config port kind is = sole_port config port (of_no_join (kind_of config) kind) is

-- no conversion
pub leads-none : (g : Guarantee) → LeadsTo 0 g g []
leads-none g = record { follows = tt; ends = refl; fits = omega arith }

pub leads-exact : (n : ℕ) (g h : Guarantee) (steps : List Step) → LeadsTo n g h steps
    → LeadsTo (length steps) g h steps
leads-exact n g h steps leads = record { follows = leads.follows; ends = leads.ends; fits = omega arith }

pub derives : (place : Place) (haves : List Guarantee) (want : Guarantee) (n a b port : ℕ) (from into to : Guarantee)
    (before after : List Step) → slice_get haves port ≡ Some from → LendsThrough place.config place.terms port into to
    → LeadsTo a from into before → LeadsTo b to want after → a + b ≤ n
    → Derives place haves want n (through place port from before to after)
derives place haves want n a b port from into to before after there lends first last fits = record {
  is = record {
    starts = there;
    before = first.follows;
    kind = refl;
    sched = record {
      has = slice_get_within haves port from there;
      through = subst (λ v. LendsThrough place.config place.terms port v to) (sym first.ends) lends;
    };
    after = last.follows;
    ends = last.ends;
  };
  few = (let x = first.fits in let y = last.fits in omega arith);
}
