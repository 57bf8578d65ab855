-- What is lent for offers, by the kind of the place.
use Rattle.std.proofs.Common.{refl, ◌∙◌, ◌≡◌, ℕ, ◌⊎◌, ◌↔◌, inl, inr, sym, subst}
use Rattle.std.specs.Prelude.{Option, Some}
use Rattle.hls_chron.specs.declared.plain.Config.{Config}
use Rattle.hls_chron.specs.declared.plain.Config.TheVariants as configs
use Rattle.hls_chron.specs.declared.plain.Kind.{Kind}
use Rattle.hls_chron.specs.declared.plain.Kind.TheVariants as kinds
use Rattle.hls_chron.specs.declared.plain.Terms.{Terms}
use Rattle.hls_chron.specs.declared.plain.Terms.TheVariants as terms
use Rattle.hls_chron.specs.Kinds.{kind_of}
use Rattle.hls_chron.specs.Ranges.{ConfigInRange}
use Rattle.hls_chron.proofs.ConfigLaws.{of_join}
use Rattle.hls_guarantee.proofs.Lendings.{lends-one}
use Rattle.hls_guarantee.specs.declared.Guarantee.{Guarantee}
use Rattle.hls_guarantee.specs.declared.Guarantee.TheVariants.{Null}
use Rattle.hls_guarantee.specs.Steps.{LendsByTerms}
use Rattle.hls_search.specs.Inside.Places.{LendsSharesOf}
use Rattle.hls_offer_laws.specs.Offered.{LendsOfShare, IsLentAt, IsLentOf}
use Rattle.hls_offer_laws.proofs.Shares.{share-one}

-- a place that lends neither what its ports have nor parts of shares
abbrev pub IsPlain : Kind → Type 0
IsPlain kinds.Join = ⊥
IsPlain kinds.Sfq = ⊥
IsPlain kinds.Rr = ⊥
IsPlain _ = Unit {0}

pub plain : {kind : Kind} → (kind ≡ kinds.Cpu) ⊎ ((kind ≡ kinds.Fp) ⊎ ((kind ≡ kinds.Edf) ⊎ (kind ≡ kinds.Wheel)))
    → IsPlain kind
plain (inl is) = subst IsPlain (sym is) tt
plain (inr (inl is)) = subst IsPlain (sym is) tt
plain (inr (inr (inl is))) = subst IsPlain (sym is) tt
plain (inr (inr (inr is))) = subst IsPlain (sym is) tt

pub of-plain : (kind : Kind) (config : Config) (its : Terms) (have lent : Guarantee) → IsPlain kind
    → IsLentAt kind config its have lent → LendsByTerms config its have lent
of-plain kinds.Join config its have lent is lends = absurd is
of-plain kinds.Sfq config its have lent is lends = absurd is
of-plain kinds.Rr config its have lent is lends = absurd is
of-plain _ config its have lent is lends = lends

pub plain-of : (kind : Kind) (config : Config) (its : Terms) (have lent : Guarantee) → IsPlain kind
    → LendsByTerms config its have lent → IsLentAt kind config its have lent
plain-of kinds.Join config its have lent is lends = absurd is
plain-of kinds.Sfq config its have lent is lends = absurd is
plain-of kinds.Rr config its have lent is lends = absurd is
plain-of _ config its have lent is lends = lends

-- a place that lends parts of shares
pub shares : {kind : Kind} → (kind ≡ kinds.Sfq) ⊎ (kind ≡ kinds.Rr) → LendsSharesOf kind
shares (inl is) = subst LendsSharesOf (sym is) tt
shares (inr is) = subst LendsSharesOf (sym is) tt

pub of-share : (kind : Kind) (config : Config) (its : Terms) (have lent : Guarantee) → LendsSharesOf kind
    → IsLentAt kind config its have lent → LendsOfShare config its have lent
of-share kinds.Sfq config its have lent of lends = lends
of-share kinds.Rr config its have lent of lends = lends
of-share _ config its have lent of lends = absurd of

pub share-by : (kind : Kind) (config : Config) (its : Terms) (have lent : Guarantee) → LendsSharesOf kind
    → LendsOfShare config its have lent → IsLentAt kind config its have lent
share-by kinds.Sfq config its have lent of lends = lends
share-by kinds.Rr config its have lent of lends = lends
share-by _ config its have lent of lends = absurd of

-- two facts that say the same of each guarantee
pub on-each : {found : Option Guarantee} {P Q : Guarantee → Type 0} → ((g : Guarantee) → P g → Q g)
    → ((g : Guarantee) → Q g → P g) → ((g : Guarantee) → (found ≡ Some g) ↔ (P g × (g ≡ Null → ⊥)))
    → (g : Guarantee) → (found ≡ Some g) ↔ (Q g × (g ≡ Null → ⊥))
on-each to from exact g = (
  λ is. (let both = (exact g).0 is in (to g both.0, both.1)),
  λ both. (exact g).1 (from g both.0, both.1),
)

pub by-terms : (config : Config) (its : Terms) (g h : Guarantee) (found : Option Guarantee) → ConfigInRange config
    → LendsByTerms config its g h
    → ((kept : Guarantee) → (found ≡ Some kept) ↔ ((kept ≡ h) × (kept ≡ Null → ⊥))) → (lent : Guarantee)
    → (found ≡ Some lent) ↔ (LendsByTerms config its g lent × (lent ≡ Null → ⊥))
by-terms config its g h found range lends exact lent = (
  λ is. (let both = (exact lent).0 is in (subst (LendsByTerms config its g) (sym both.0) lends, both.1)),
  λ both. (exact lent).1 (lends-one config its g lent h range both.0 lends, both.1),
)

pub by-join : (config : Config) (its : Terms) (have lent : Guarantee) → kind_of config ≡ kinds.Join
    → IsLentOf config its have lent → (its ≡ terms.Sole) × (lent ≡ have)
by-join config its have lent is =
    of_join (λ config. IsLentOf config its have lent → (its ≡ terms.Sole) × (lent ≡ have))
    (λ ports. at-join ports its have lent) config is
  where
    at-join : (ports : ℕ) (its : Terms) (have lent : Guarantee) → IsLentOf (configs.Join ports) its have lent
        → (its ≡ terms.Sole) × (lent ≡ have)
    at-join ports terms.Sole have lent lends = (refl, lends)
    at-join ports _ have lent lends = absurd lends

pub join-by : (config : Config) (its : Terms) (have lent : Guarantee) → kind_of config ≡ kinds.Join
    → its ≡ terms.Sole → lent ≡ have → IsLentOf config its have lent
join-by config its have lent is sole same =
    subst (λ v. IsLentAt v config its have lent) (sym is)
    (subst (λ v. IsLentAt kinds.Join config v have lent) (sym sole) same)

-- what is lent of one guarantee is one guarantee
pub lent-one : (config : Config) (its : Terms) (have lent other : Guarantee) → ConfigInRange config
    → IsLentOf config its have lent → IsLentOf config its have other → lent ≡ other
lent-one config = one-at (kind_of config) config
  where
    shared : (config : Config) (its : Terms) (have lent other : Guarantee) → ConfigInRange config
        → LendsOfShare config its have lent → LendsOfShare config its have other → lent ≡ other
    shared config its have lent other range a b =
        lends-one config its a.0 lent other range a.2
        (subst (λ v. LendsByTerms config its v other) (share-one have b.0 a.0 b.1 a.1) b.2)

    one-at : (kind : Kind) (config : Config) (its : Terms) (have lent other : Guarantee) → ConfigInRange config
        → IsLentAt kind config its have lent → IsLentAt kind config its have other → lent ≡ other
    one-at kinds.Join config terms.Sole have lent other range a b = a ∙ sym b
    one-at kinds.Sfq config its have lent other range a b = shared config its have lent other range a b
    one-at kinds.Rr config its have lent other range a b = shared config its have lent other range a b
    one-at _ config its have lent other range a b = lends-one config its have lent other range a b
