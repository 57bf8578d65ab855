-- The best of the candidates that were tried, port by port, is the best.
use Rattle.std.proofs.Common.{◌≡◌, ℕ, ◌+◌, ◌≤◌, ◌<◌, List, length, refl, sym, subst, arith, below_more}
use Rattle.std.specs.Prelude.{Option, Some, None, Result, Ok, Err, IfOk, IfSome, slice_get}
use Rattle.std.proofs.lemmas.Option.{slice_get_within}
use Rattle.hls_chron.specs.declared.plain.Config.{Config}
use Rattle.hls_chron.specs.declared.plain.Kind.{Kind}
use Rattle.hls_chron.specs.declared.plain.Kind.TheVariants as kinds
use Rattle.hls_chron.specs.declared.plain.Terms.{Terms}
use Rattle.hls_chron.specs.declared.plain.Terms.TheVariants as terms
use Rattle.hls_chron.specs.Kinds.{kind_of}
use Rattle.hls_chron.specs.Ranges.{ConfigInRange, TermsInRange}
use Rattle.hls_guarantee.specs.declared.Guarantee.{Guarantee}
use Rattle.hls_guarantee.specs.declared.Guarantee.TheVariants.{Null}
use Rattle.hls_guarantee.specs.Limits.{IsNarrow, IsValid}
use Rattle.hls_search_laws.proofs.Makes.{narrow-valid}
use Rattle.hls_search.proofs.Deriving.{lent-valid}
use Rattle.hls_offer_laws.specs.Offered.{IsLentAt, IsLentOf, IsLent, LendsOfShare}
use Rattle.hls_offer_laws.specs.Candidates.{IsWindow}
use Rattle.hls_offer_laws.proofs.Shares.{narrow-share}
use Rattle.hls_offer_best.specs.declared.seat.Seat.{Seat}
use Rattle.hls_offer_best.specs.declared.windows.Window.{Window}
use Rattle.hls_offer_best.specs.declared.windows.Form.{Form}
use Rattle.hls_offer_best.specs.declared.windows.Form.TheVariants.{Blocks, Windows}
use Rattle.hls_offer_best.specs.Best.{Offers, IsMostIfAny, formed, Gives}
use Rattle.hls_offer_best.specs.Inside.Trying.{IsUpTo}

pub if-each : {A : Type 0} {P : A → Type 0} (found : Option A) → ((x : A) → found ≡ Some x → P x) → IfSome found P
if-each None each = tt
if-each (Some x) each = each x refl

pub if-ok-both : {A E : Type 0} {P Q R : A → Type 0} (r : Result A E) → ((x : A) → P x → Q x → R x)
    → IfOk r P → IfOk r Q → IfOk r R
if-ok-both (Ok x) on p q = on x p q
if-ok-both (Err e) on p q = tt

-- what is lent of a narrow guarantee is valid
pub lent-of-valid : (config : Config) (its : Terms) (have lent : Guarantee) → ConfigInRange config
    → TermsInRange its → IsNarrow have → IsLentOf config its have lent → IsValid lent
lent-of-valid config = valid-at (kind_of config) config
  where
    of-share : (config : Config) (its : Terms) (have lent : Guarantee) → ConfigInRange config → TermsInRange its
        → IsNarrow have → LendsOfShare config its have lent → IsValid lent
    of-share config its have lent rc rt narrow lends =
        lent-valid config its lends.0 lent rc rt (narrow-share have lends.0 narrow lends.1) lends.2

    valid-at : (kind : Kind) (config : Config) (its : Terms) (have lent : Guarantee) → ConfigInRange config
        → TermsInRange its → IsNarrow have → IsLentAt kind config its have lent → IsValid lent
    valid-at kinds.Join config terms.Sole have lent rc rt narrow lends =
        subst IsValid (sym lends) (narrow-valid have narrow)
    valid-at kinds.Sfq config its have lent rc rt narrow lends = of-share config its have lent rc rt narrow lends
    valid-at kinds.Rr config its have lent rc rt narrow lends = of-share config its have lent rc rt narrow lends
    valid-at _ config its have lent rc rt narrow lends = lent-valid config its have lent rc rt narrow lends

-- each candidate through this port is up to the most
abbrev pub Tried : Window → Option ℕ → (have : Guarantee) → Type 0
Tried window most have = (lent : Guarantee) (x : ℕ) → IsLentOf window.seat.place.config window.seat.place.terms
    have lent
    → (lent ≡ Null → ⊥) → IsWindow lent x window.y → Gives window x → IsUpTo most x

-- and through each of the first ports
abbrev pub TriedBelow : Window → (haves : List Guarantee) → Option ℕ → (n : ℕ) → Type 0
TriedBelow window haves most n =
    (port : ℕ) → port < n → (have : Guarantee) → slice_get haves port ≡ Some have → Tried window most have

pub tried-more : (window : Window) (haves : List Guarantee) (most more : Option ℕ) (n : ℕ) (have : Guarantee)
    → slice_get haves n ≡ Some have → ((x : ℕ) → IsUpTo most x → IsUpTo more x) → TriedBelow window haves most n
    → Tried window more have → TriedBelow window haves more (n + 1)
tried-more window haves most more n have there kept before here =
    below_more (λ port. (other : Guarantee) → slice_get haves port ≡ Some other → Tried window more other) n
    (λ port less other at lent x lends some candidate gives.
    kept x (before port less other at lent x lends some candidate gives))
    (λ other at. (let same : have ≡ other = cc in subst (λ v. Tried window more v) same here))

-- what is offered is no more than a candidate that is offered
abbrev pub HasCandidate : Window → (x : ℕ) → Type 0
HasCandidate window x = (lent : Guarantee) × (best : ℕ) × IsLent window.seat.place window.seat.haves.now lent
    × IsWindow lent best window.y × (x ≤ best) × Gives window best

pub up-to : (window : Window) (most : Option ℕ) (n : ℕ) → length window.seat.haves.now ≤ n
    → TriedBelow window window.seat.haves.now most n → (x : ℕ) → HasCandidate window x
    → (best : ℕ) × (x ≤ best) × IsUpTo most best
up-to window most n all tried x (lent, best, is, candidate, le, gives) =
    let within : is.port < length window.seat.haves.now =
    slice_get_within window.seat.haves.now is.port is.have is.there in
    (best, le, tried is.port (omega arith) is.have is.there lent best is.lends is.some candidate gives)

pub most-of-all : (window : Window) (most : Option ℕ) (n : ℕ) → length window.seat.haves.now ≤ n
    → TriedBelow window window.seat.haves.now most n → IfSome most (λ x. Gives window x)
    → ((x : ℕ) → Gives window x → HasCandidate window x) → IsMostIfAny (λ x. Gives window x) most
most-of-all window None n all tried gives each =
    λ x held. (let its = up-to window None n all tried x (each x held) in its.2)
most-of-all window (Some most) n all tried gives each = record {
  meets = gives;
  most = λ more held. (let its = up-to window (Some most) n all tried more (each more held) in omega (
    arith,
    its.1,
    its.2,
  ));
}

-- by the form of the window
abbrev pub Candidates : (seat : Seat) (form : Form) → Type 0
Candidates seat form = (x y : ℕ) → Offers seat (formed form x y)
    → (lent : Guarantee) × (best : ℕ) × IsLent seat.place seat.haves.now lent × IsWindow lent best y × (x ≤ best)
    × Offers seat (formed form best y)

pub by-form : (seat : Seat) (form : Form) → Candidates seat Blocks → Candidates seat Windows → Candidates seat form
by-form seat Blocks blocks windows = blocks
by-form seat Windows blocks windows = windows
