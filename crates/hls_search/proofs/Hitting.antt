-- Where what is tried fails, nothing is hit.
use Rattle.std.proofs.Common.{◌≡◌, ℕ, ◌+◌, ◌-◌, ◌≤◌, ◌<◌, ◌⊎◌, List, length, refl, sym, ◌∙◌, ap, subst}
use Rattle.std.proofs.Common.{arith, below_more}
use Rattle.std.specs.Prelude.{Some, None, slice_get}
use Rattle.std.proofs.lemmas.Option.{slice_get_within}
use Rattle.hls_frac.specs.declared.Frac.{Frac}
use Rattle.hls_chron.specs.declared.plain.Config.{Config}
use Rattle.hls_chron.specs.declared.plain.Terms.{Terms}
use Rattle.hls_chron.specs.Ranges.{ConfigInRange}
use Rattle.hls_guarantee.specs.declared.Guarantee.{Guarantee}
use Rattle.hls_guarantee.specs.declared.Guarantee.TheVariants.{All, Null, Resb, Resc, Psbe}
use Rattle.hls_guarantee.specs.declared.rule.RuleName.{RuleName}
use Rattle.hls_guarantee.specs.declared.rule.RuleName.TheVariants.{R4, R5, R8}
use Rattle.hls_guarantee.specs.Limits.{IsValid, IsNarrow}
use Rattle.hls_guarantee.specs.Conversions.{Converts}
use Rattle.hls_guarantee.specs.Steps.{LendsByTerms}
use Rattle.hls_guarantee.proofs.Lendings.{lends-one}
use Rattle.hls_derive.specs.declared.derivation.Place.{Place}
use Rattle.hls_derive.specs.declared.derivation.Derivation.{Derivation}
use Rattle.hls_derive.specs.Answers.{Answers}
use Rattle.hls_derive.specs.Derives.{IsDerivation, IsWholeShare}
use Rattle.hls_frac.proofs.Quotients.{quotient-same}
use Rattle.hls_rules.proofs.BestOnes.{IsSingle, single-strongest}
use Rattle.hls_rules.proofs.Answering.{strongest-same}
use Rattle.hls_rules.proofs.Decided.{answer-one}
use Rattle.hls_search_laws.specs.Words.{IsFound}
use Rattle.hls_search_laws.proofs.Ways.{Way, converts-way, way-converts}
use Rattle.hls_search_laws.proofs.Ways.Way.{r4, r5}
use Rattle.hls_search_laws.proofs.Makes.{make-blocks, make-windows, narrow-valid, share-narrow}
use Rattle.hls_search_laws.proofs.Makes.{blocks-most, windows-most}
use Rattle.hls_search_laws.proofs.Finding.{single-answers}
use Rattle.hls_search.specs.Inside.Places.{IsBestShare, ToShare, HitsByBest, LendsOfAll, LendsShares}
use Rattle.hls_search.specs.Inside.Places.IsBestShare.{itself, of_blocks, of_windows, of_all}
use Rattle.hls_search.proofs.BestShares.{whole-narrow}
use Rattle.hls_search.proofs.Deriving.{sole-port}

-- ---- the best share

no-answer : (rule : RuleName) (g h wanted : Guarantee) → IsValid wanted → IsSingle rule → Converts rule g h
    → Answers rule g wanted None → ⊥
no-answer rule g h wanted valid single c answers =
    let same : Some h ≡ None =
    answer-one rule g wanted (Some h) None c.from valid (single-answers rule g h wanted single c) answers in
    (let no : ⊥ = cc in no)

-- the rule that makes a share answers
pub share-answered : (rule : RuleName) (have whole : Guarantee) → ToShare rule have → IsNarrow have
    → IsWholeShare whole → IsValid whole → Answers rule have whole None → ⊥
share-answered R4 (Resb hard x y) whole to narrow is valid answers =
    let m = make-blocks x y narrow in
    let c : Converts R4 (Resb hard x y) (Psbe m.s m.d) =
    way-converts narrow (narrow-valid (Psbe m.s m.d) m.narrow) (r4 m.rate m.error) in
    no-answer R4 (Resb hard x y) (Psbe m.s m.d) whole valid tt c answers
share-answered R5 (Resc hard x y) whole to narrow is valid answers =
    let m = make-windows x y narrow in
    let c : Converts R5 (Resc hard x y) (Psbe m.s m.d) =
    way-converts narrow (narrow-valid (Psbe m.s m.d) m.narrow) (r5 m.rate m.error) in
    no-answer R5 (Resc hard x y) (Psbe m.s m.d) whole valid tt c answers
share-answered R8 All (Psbe s d) to narrow is valid answers =
    let c : Converts R8 All (Psbe s d) = record { from = tt; to = valid; leads = tt } in
    let same : None ≡ Some (Psbe s d) = answers.meets c in
    (let no : ⊥ = cc in no)
share-answered R8 All whole to narrow is valid answers = absurd is
share-answered _ _ whole to narrow is valid answers = absurd to

blocks-narrow : {g h : Guarantee} → IsNarrow g → Way R4 g h → IsNarrow h
blocks-narrow narrow (r4 {x = x} {y = y} {s = s} {d = d} rate error) =
    share-narrow x y _ s d narrow (blocks-most x y narrow) rate error

windows-narrow : {g h : Guarantee} → IsNarrow g → Way R5 g h → IsNarrow h
windows-narrow narrow (r5 {x = x} {y = y} {s = s} {d = d} rate error) =
    share-narrow x y _ s d narrow (windows-most x y narrow) rate error

wholly-narrow : (whole : Guarantee) → IsWholeShare whole → IsNarrow whole
wholly-narrow (Psbe s d) is = whole-narrow s d is
wholly-narrow _ is = absurd is

pub best-narrow : (have : Guarantee) (count : ℕ) (best : Guarantee) → IsNarrow have → IsBestShare have count best
    → IsNarrow best
best-narrow have count best narrow itself = narrow
best-narrow have count best narrow (of_blocks c) = blocks-narrow narrow (converts-way R4 _ _ c)
best-narrow have count best narrow (of_windows c) = windows-narrow narrow (converts-way R5 _ _ c)
best-narrow have count best narrow (of_all whole) = wholly-narrow best whole

whole-converts : (whole : Guarantee) → IsWholeShare whole → Converts R8 All whole
whole-converts (Psbe s d) is =
    record { from = tt; to = narrow-valid (Psbe s d) (whole-narrow s d is); leads = tt }
whole-converts _ is = absurd is

-- and answers the best share
pub share-best : (rule : RuleName) (have whole h : Guarantee) → ToShare rule have → IsNarrow have
    → IsWholeShare whole → Answers rule have whole (Some h) → Converts rule have h
    → IsBestShare have 1 h × IsNarrow h
share-best R4 (Resb hard x y) whole h to narrow is answers c =
    (of_blocks c, blocks-narrow narrow (converts-way R4 (Resb hard x y) h c))
share-best R5 (Resc hard x y) whole h to narrow is answers c =
    (of_windows c, windows-narrow narrow (converts-way R5 (Resc hard x y) h c))
share-best R8 All whole h to narrow is answers c =
    let same : Some h ≡ Some whole = answers.meets (whole-converts whole is) in
    let one : whole ≡ h = cc in
    (of_all (subst IsWholeShare one is), subst IsNarrow one (wholly-narrow whole is))
share-best _ _ whole h to narrow is answers c = absurd to

pub best-itself : (have : Guarantee) (s d : Frac) (n : ℕ) → have ≡ Psbe s d → n ≡ 0 → IsBestShare have n have
best-itself have s d n is none =
    subst (λ k. IsBestShare have k have) (sym none)
    (subst (λ v. IsBestShare v 0 v) (sym is) itself)

psbe-same : (s d t e : Frac) → s ≡ t → d ≡ e → Psbe s d ≡ Psbe t e
psbe-same s d t e first second = ap (λ (f : Frac). Psbe f d) first ∙ ap (λ (f : Frac). Psbe t f) second

whole-same : (g h : Guarantee) → IsWholeShare g → IsWholeShare h → g ≡ h
whole-same (Psbe s d) (Psbe t e) a b =
    psbe-same s d t e (quotient-same s t 1 1 1 1 (omega arith) (omega arith) a.0 b.0 refl)
    (quotient-same d e 0 1 0 1 (omega arith) (omega arith) a.1 b.1 refl)
whole-same (Psbe s d) _ a b = absurd b
whole-same _ _ a b = absurd a

one-conclusion : (rule : RuleName) (g h k : Guarantee) → IsSingle rule → Converts rule g h → Converts rule g k
    → h ≡ k
one-conclusion rule g h k single a b =
    strongest-same rule g h k (single-strongest rule g h single a) (single-strongest rule g k single b)

-- there is one best share
pub best-one : {have g h : Guarantee} {i j : ℕ} → IsBestShare have i g → IsBestShare have j h → (i ≡ j) × (g ≡ h)
best-one itself itself = (refl, refl)
best-one (of_blocks a) (of_blocks b) = (refl, one-conclusion R4 _ _ _ tt a b)
best-one (of_windows a) (of_windows b) = (refl, one-conclusion R5 _ _ _ tt a b)
best-one (of_all a) (of_all b) = (refl, whole-same _ _ a b)

pub no-best : {count : ℕ} {g : Guarantee} → IsBestShare Null count g → ⊥
no-best best = elim best [ ]

-- what is hit by the best share, is hit by the one that was found
pub best-hit : (config : Config) (its : Terms) (n count : ℕ) (have other share want : Guarantee)
    (haves : List Guarantee) → slice_get haves 0 ≡ Some have → slice_get haves 0 ≡ Some other
    → IsBestShare have count share → HitsByBest config its n other want
    → (count ≤ n) × (out : Guarantee) × LendsByTerms config its share out × IsFound (n - count) out want
best-hit config its n count have other share want haves there too best hit =
    let same : other ≡ have = (let both : Some other ≡ Some have = sym too ∙ there in cc) in
    let is : IsBestShare have hit.count hit.best = subst (λ v. IsBestShare v hit.count hit.best) same hit.is in
    let one = best-one is best in (
      subst (λ k. k ≤ n) one.0 hit.fits,
      hit.lent,
      subst (λ v. LendsByTerms config its v hit.lent) one.1 hit.lends,
      subst (λ k. IsFound (n - k) hit.lent want) one.0 hit.found,
    )

-- what is lent is one guarantee, from which a word is found
pub lent-found : (config : Config) (its : Terms) (g out to want : Guarantee) (n : ℕ) → ConfigInRange config
    → LendsByTerms config its g out → LendsByTerms config its g to → IsFound n out want → IsFound n to want
lent-found config its g out to want n range a b found =
    subst (λ v. IsFound n v want) (lends-one config its g out to range a b) found

-- a place with one port
pub sole-have : (place : Place) (haves : List Guarantee) (want have : Guarantee) (d : Derivation)
    → LendsOfAll place.config ⊎ LendsShares place.config → slice_get haves 0 ≡ Some have
    → IsDerivation place haves want d → d.from ≡ have
sole-have place haves want have d kind there is =
    let port : d.sched.port ≡ 0 = sole-port place.config d.sched.port kind is.sched.through.port_of in
    let first : slice_get haves 0 ≡ Some d.from = subst (λ k. slice_get haves k ≡ Some d.from) port is.starts in
    (let both : Some d.from ≡ Some have = sym first ∙ there in cc)

-- ---- several ports

-- from none of the first n ports a word is found
abbrev pub NoneFound : (haves : List Guarantee) (want : Guarantee) (depth n : ℕ) → Type 0
NoneFound haves want depth n =
    (port : ℕ) → port < n → (have : Guarantee) → slice_get haves port ≡ Some have → IsFound depth have want → ⊥

pub none_found-more : (haves : List Guarantee) (want have : Guarantee) (depth n : ℕ) → slice_get haves n ≡ Some have
    → (IsFound depth have want → ⊥) → NoneFound haves want depth n → NoneFound haves want depth (n + 1)
none_found-more haves want have depth n there none held =
    below_more (λ port. (other : Guarantee) → slice_get haves port ≡ Some other → IsFound depth other want → ⊥) n held
    (λ other too found.
    let same : other ≡ have = (let both : Some other ≡ Some have = sym too ∙ there in cc) in
    none (subst (λ v. IsFound depth v want) same found))

pub found-nowhere : (place : Place) (haves : List Guarantee) (want : Guarantee) (d : Derivation) (depth n : ℕ)
    → length haves ≤ n → NoneFound haves want depth n → IsDerivation place haves want d
    → IsFound depth d.from want → ⊥
found-nowhere place haves want d depth n all none is found =
    let within : d.sched.port < length haves = slice_get_within haves d.sched.port d.from is.starts in
    none d.sched.port (omega arith) d.from is.starts found
