-- What has a derivation at a place is hit by what the search tries there.
use Rattle.std.proofs.Common.{◌≡◌, ℕ, ◌+◌, ◌≤◌, ◌⊎◌, inl, inr, List, length, refl, sym, subst, arith}
use Rattle.std.specs.Prelude.{Some, slice_get, All as Each}
use Rattle.std.proofs.lemmas.Option.{slice_get_within, get_or_from_slice_get}
use Rattle.hls_chron.specs.declared.plain.Config.{Config}
use Rattle.hls_chron.specs.declared.plain.Config.TheVariants as configs
use Rattle.hls_chron.specs.declared.plain.Terms.{Terms}
use Rattle.hls_chron.specs.declared.plain.Terms.TheVariants as terms
use Rattle.hls_chron.specs.Ranges.{ConfigInRange, TermsInRange}
use Rattle.hls_guarantee.specs.declared.Guarantee.{Guarantee}
use Rattle.hls_guarantee.specs.declared.Guarantee.TheVariants.{All, Psbe}
use Rattle.hls_guarantee.specs.Satisfaction.{IsSoft}
use Rattle.hls_guarantee.specs.Limits.{IsValid, IsNarrow}
use Rattle.hls_guarantee.specs.Steps.{LendsByTerms, LendsNothing}
use Rattle.hls_derive.specs.declared.derivation.Place.{Place}
use Rattle.hls_derive.specs.declared.derivation.Derivation.{Derivation}
use Rattle.hls_derive.specs.Derivation.{conversions, end_of}
use Rattle.hls_derive.specs.Derives.{IsDerivation}
use Rattle.hls_search_laws.specs.Words.{IsFound}
use Rattle.hls_search_laws.proofs.Closed.{Closed}
use Rattle.hls_search_laws.proofs.Makes.{narrow-valid}
use Rattle.hls_search_laws.proofs.Reached.{closed, closed-along}
use Rattle.hls_search_laws.proofs.Finding.{found-closed}
use Rattle.hls_search_laws.proofs.Ends.{closed-null, closed-all, soft-on, found-more}
use Rattle.hls_search.specs.Search.{CanSearch}
use Rattle.hls_search.specs.Inside.Places.{PassesOn, LendsShares, LendsOfAll, HitsByBest, HitsByGoal}
use Rattle.hls_search.proofs.Taking.{parted}
use Rattle.hls_search.proofs.BestShares.{part-hits}

-- the guarantee of a port is within the limits of a scenario
pub narrow-at : (haves : List Guarantee) (port : ℕ) (have : Guarantee) → Each IsNarrow haves
    → slice_get haves port ≡ Some have → IsNarrow have
narrow-at haves port have each there =
    subst IsNarrow (get_or_from_slice_get haves port have have there)
    (each port have (slice_get_within haves port have there))

-- a derivation in closed form: i conversions to the guarantee of the scheduler step, and j after it
pub record Parts (place : Place) (have want : Guarantee) (n : ℕ) : Type 0 where
  pub i : ℕ
  pub j : ℕ
  pub into : Guarantee
  pub out : Guarantee
  pub narrow : IsNarrow have
  pub into_valid : IsValid into
  pub out_valid : IsValid out
  pub before : Closed i have into
  pub lends : LendsByTerms place.config place.terms into out
  pub after : Closed j out want
  pub through : Closed i have out → Closed (i + j) have want
  pub fits : i + j ≤ n

nothing-on : (config : Config) (h want : Guarantee) (n : ℕ) → LendsNothing config h → Closed n h want
    → LendsNothing config want
nothing-on configs.Cpu h want n lends c = lends
nothing-on config h want n lends c = closed-null (subst (λ v. Closed n v want) lends c)

-- from the place's terms, where nothing is wanted of it that it lends anyway
by-terms : (config : Config) (its : Terms) (g h want : Guarantee) (n : ℕ) → (LendsNothing config want → ⊥)
    → Closed n h want → LendsByTerms config its g h ⊎ LendsNothing config h → LendsByTerms config its g h
by-terms config its g h want n some c (inl lends) = lends
by-terms config its g h want n some c (inr lends) = absurd (some (nothing-on config h want n lends c))

pub parts : (place : Place) (haves : List Guarantee) (want : Guarantee) (d : Derivation) (n : ℕ)
    → CanSearch place haves want → (LendsNothing place.config want → ⊥) → IsDerivation place haves want d
    → conversions d ≤ n → Parts place d.from want n
parts place haves want d n can some is few =
    let narrow : IsNarrow d.from = narrow-at haves d.sched.port d.from can.each_have is.starts in
    let into : Guarantee = end_of d.from d.before in
    let out : Guarantee = d.sched.to in
    let out_valid : IsValid out = is.sched.through.to in
    let after : Closed (0 + length d.after) out want =
    subst (λ v. Closed (0 + length d.after) out v) is.ends (closed out d.after out_valid is.after) in
    let i : ℕ = 0 + length d.before in
    let j : ℕ = 0 + length d.after in
    record {
      i = i;
      j = j;
      into = into;
      out = out;
      narrow = narrow;
      into_valid = is.sched.through.from;
      out_valid = out_valid;
      before = closed d.from d.before (narrow-valid d.from narrow) is.before;
      lends = by-terms place.config place.terms into out want (0 + length d.after) some after
          is.sched.through.lends;
      after = after;
      through = λ c.
          let on = closed-along i d.from out d.after (narrow-valid d.from narrow) c is.after in
          let e : i + length d.after ≡ i + j = omega arith in
          subst (λ v. Closed (i + j) d.from v) is.ends (subst (λ k. Closed k d.from (end_of out d.after)) e on);
      fits = omega arith;
    }

-- where a place passes on what it has, all conversions may stand before the step
before-hits : (config : Config) (its : Terms) (n i j : ℕ) (have into out want : Guarantee) → IsNarrow have
    → IsNarrow want → PassesOn config → LendsByTerms config its into out → Closed i have into
    → Closed j out want → (Closed i have out → Closed (i + j) have want) → i + j ≤ n
    → LendsByTerms config its want want × IsFound n have want
before-hits configs.Fp (terms.Prio priority) n i j have into out want vh vw passes lends before after on room =
    let c = on (subst (λ v. Closed i have v) (sym lends.1) before) in (
      (lends.0, refl),
      found-more n room (found-closed (i + j) (narrow-valid have vh) (narrow-valid want vw) c),
    )
before-hits (configs.Join ports) terms.Sole n i j have into out want vh vw passes lends before after on room =
    let c = on (subst (λ v. Closed i have v) (sym lends.1) before) in (
      (soft-on (subst IsSoft (sym lends.1) lends.0) after, refl),
      found-more n room (found-closed (i + j) (narrow-valid have vh) (narrow-valid want vw) c),
    )
before-hits configs.Fp its n i j have into out want vh vw passes lends before after on room = absurd lends
before-hits (configs.Join ports) its n i j have into out want vh vw passes lends before after on room = absurd lends
before-hits config its n i j have into out want vh vw passes lends before after on room = absurd passes

-- where it lends of every tick alone, all conversions stand after the step
after-hits : (config : Config) (its : Terms) (n i j : ℕ) (have into out want : Guarantee) → IsNarrow have
    → IsNarrow want → IsValid out → LendsOfAll config → LendsByTerms config its into out → Closed i have into
    → Closed j out want → i + j ≤ n → LendsByTerms config its have out × IsFound n out want
after-hits configs.Cpu terms.Cpu n i j have All out want vh vw vo of lends before after room = (
  subst (λ v. LendsByTerms configs.Cpu terms.Cpu v out) (sym (closed-all before)) lends,
  found-more n (omega arith) (found-closed j vo (narrow-valid want vw) after),
)
after-hits configs.Edf (terms.Res hard x y) n i j have All out want vh vw vo of lends before after room = (
  subst (λ v. LendsByTerms configs.Edf (terms.Res hard x y) v out) (sym (closed-all before)) lends,
  found-more n (omega arith) (found-closed j vo (narrow-valid want vw) after),
)
after-hits (configs.Wheel frame) (terms.Slots places) n i j have All out want vh vw vo of lends before after room = (
  subst (λ v. LendsByTerms (configs.Wheel frame) (terms.Slots places) v out) (sym (closed-all before)) lends,
  found-more n (omega arith) (found-closed j vo (narrow-valid want vw) after),
)
after-hits configs.Cpu its n i j have into out want vh vw vo of lends before after room = absurd lends
after-hits configs.Edf its n i j have into out want vh vw vo of lends before after room = absurd lends
after-hits (configs.Wheel frame) its n i j have into out want vh vw vo of lends before after room = absurd lends
after-hits config its n i j have into out want vh vw vo of lends before after room = absurd of

-- where it lends parts of shares, conversions may stand on both sides
share-hits : (config : Config) (its : Terms) (n i j : ℕ) (have into out want : Guarantee)
    → ConfigInRange config → TermsInRange its → IsNarrow have
    → IsNarrow want → IsValid into → IsValid out → LendsShares config → LendsByTerms config its into out
    → Closed i have into → Closed j out want → i + j ≤ n
    → HitsByBest config its n have want ⊎ HitsByGoal config its n have want
share-hits config its n i j have (Psbe s d) (Psbe p e) want rc rt vh vw vi vo of lends before after room =
    let by = parted config its (Psbe s d) (Psbe p e) rc rt of lends in
    part-hits config its by.weight by.total by.others by.is n i j s d p e vh vw vi vo
    (by.is.part (Psbe s d) (Psbe p e) lends) before after room
share-hits config its n i j have into out want rc rt vh vw vi vo of lends before after room =
    absurd (let by = parted config its into out rc rt of lends in by.is.part into out lends)

-- ---- the same of a derivation

module _ (place : Place) (haves : List Guarantee) (want : Guarantee) (d : Derivation) (n : ℕ)
    (can : CanSearch place haves want) (some : LendsNothing place.config want → ⊥)
    (is : IsDerivation place haves want d) (few : conversions d ≤ n) where
  pub derived-before : PassesOn place.config
      → LendsByTerms place.config place.terms want want × IsFound n d.from want
  derived-before passes =
      let p = parts place haves want d n can some is few in
      before-hits place.config place.terms n p.i p.j d.from p.into p.out want p.narrow can.wanted passes p.lends
      p.before p.after p.through p.fits

  pub derived-after : LendsOfAll place.config
      → (out : Guarantee) × LendsByTerms place.config place.terms d.from out × IsFound n out want
  derived-after of =
      let p = parts place haves want d n can some is few in
      let hit = after-hits place.config place.terms n p.i p.j d.from p.into p.out want p.narrow can.wanted
      p.out_valid of p.lends p.before p.after p.fits in
      (p.out, hit.0, hit.1)

  pub derived-shares : LendsShares place.config
      → HitsByBest place.config place.terms n d.from want ⊎ HitsByGoal place.config place.terms n d.from want
  derived-shares of =
      let p = parts place haves want d n can some is few in
      share-hits place.config place.terms n p.i p.j d.from p.into p.out want can.config can.terms p.narrow
      can.wanted p.into_valid p.out_valid of p.lends p.before p.after p.fits
