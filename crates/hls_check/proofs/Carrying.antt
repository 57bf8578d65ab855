-- Derivations carry supply.
use Rattle.std.proofs.Common.{◌≡◌, ℕ, Bool, List, [], ◌∷◌, sym, subst, ◌∙◌, inl, inr}
use Rattle.std.specs.Prelude.{Some, slice_get}
use Rattle.hls_chron.specs.declared.plain.Config.{Config}
use Rattle.hls_chron.specs.declared.plain.Config.TheVariants as configs
use Rattle.hls_chron.specs.declared.plain.Terms.{Terms}
use Rattle.hls_chron.specs.declared.plain.Terms.TheVariants as terms
use Rattle.hls_chron.specs.Ledger.{Ledger, now_of}
use Rattle.hls_chron.specs.Seats.{asked, served}
use Rattle.hls_kinds.specs.declared.tenant.Tenant.TheVariants.{Sits}
use Rattle.hls_kinds.specs.Tenants.{tenant_at, settled_at}
use Rattle.hls_guarantee.specs.declared.Guarantee.{Guarantee}
use Rattle.hls_guarantee.specs.declared.Guarantee.TheVariants.{All}
use Rattle.hls_guarantee.specs.Supply.{Supplies}
use Rattle.hls_guarantee.specs.Steps.{LendsByTerms, LendsThrough}
use Rattle.hls_guarantee.proofs.Conversions.{converts-supplies}
use Rattle.hls_book.specs.Promise.{given, asked_by, HasPorts, KeepsPromise}
use Rattle.hls_derive.specs.declared.derivation.Place.{Place}
use Rattle.hls_derive.specs.declared.derivation.Step.{Step}
use Rattle.hls_derive.specs.declared.derivation.Derivation.{Derivation}
use Rattle.hls_derive.specs.Derivation.{end_of}
use Rattle.hls_derive.specs.Derives.{FollowsBy, IsDerivation}

follows-supply : (g : Guarantee) (steps : List Step) (f a : ℕ → Bool) (lo hi : ℕ) → FollowsBy g steps
    → Supplies g f a lo hi → Supplies (end_of g steps) f a lo hi
follows-supply g [] f a lo hi follow supply = supply
follows-supply g (s ∷ steps) f a lo hi follow supply =
    follows-supply s.to steps f a lo hi follow.1 (converts-supplies s.rule g s.to f a lo hi follow.0 supply)

begins : (place : Place) (haves : List Guarantee) (want have : Guarantee) (d : Derivation)
    → IsDerivation place haves want d → slice_get haves d.sched.port ≡ Some have → have ≡ d.from
begins place haves want have d is at = (let both : Some have ≡ Some d.from = sym at ∙ is.starts in cc)

pub derivation-carries : (place : Place) (haves : List Guarantee) (have want : Guarantee) (d : Derivation)
    (b : Ledger) (slot since : ℕ) → IsDerivation place haves want d → slice_get haves d.sched.port ≡ Some have
    → KeepsPromise place.config b → HasPorts place.config b → tenant_at b slot ≡ Sits place.terms since
    → Supplies have (given b d.sched.port) (asked_by place.config b) (settled_at b) (now_of b)
    → Supplies want (served b slot) (asked b slot) since (now_of b)
derivation-carries place haves have want d b slot since is at promise ports sits supply =
    let f = given b d.sched.port in
    let a = asked_by place.config b in
    let start : Supplies d.from f a (settled_at b) (now_of b) =
    subst (λ g. Supplies g f a (settled_at b) (now_of b)) (begins place haves want have d is at) supply in
    let there = follows-supply d.from d.before f a (settled_at b) (now_of b) is.before start in
    let lent = promise.kept ports slot since d.sched.port place.terms (end_of d.from d.before) d.sched.to sits
    is.sched.through there in
    let last = follows-supply d.sched.to d.after (served b slot) (asked b slot) since (now_of b) is.after
    lent in
    subst (λ g. Supplies g (served b slot) (asked b slot) since (now_of b)) is.ends last

-- the processor lends what it has
processor-same : (m : Terms) (g h : Guarantee) → LendsByTerms configs.Cpu m g h → g ≡ h
processor-same terms.Cpu All h lends = sym lends
processor-same _ _ _ lends = absurd lends

processor-lends : (config : Config) (m : Terms) (port : ℕ) (g h : Guarantee) → config ≡ configs.Cpu
    → LendsThrough config m port g h → g ≡ h
processor-lends config m port g h is lends =
    let at : LendsThrough configs.Cpu m port g h = subst (λ v. LendsThrough v m port g h) is lends in
    elim at.lends [ inl by ↦ processor-same m g h by | inr nothing ↦ absurd nothing ]

pub processor-carries : (place : Place) (haves : List Guarantee) (have want : Guarantee) (d : Derivation)
    (f a : ℕ → Bool) (lo hi : ℕ) → place.config ≡ configs.Cpu → IsDerivation place haves want d
    → slice_get haves d.sched.port ≡ Some have → Supplies have f a lo hi → Supplies want f a lo hi
processor-carries place haves have want d f a lo hi cpu is at supply =
    let start = subst (λ g. Supplies g f a lo hi) (begins place haves want have d is at) supply in
    let there = follows-supply d.from d.before f a lo hi is.before start in
    let same = processor-lends place.config place.terms d.sched.port (end_of d.from d.before) d.sched.to cpu
    is.sched.through in
    let lent = subst (λ g. Supplies g f a lo hi) same there in
    subst (λ g. Supplies g f a lo hi) is.ends (follows-supply d.sched.to d.after f a lo hi is.after lent)
