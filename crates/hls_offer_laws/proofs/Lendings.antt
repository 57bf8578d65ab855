-- From what is lent, what a rate and an error bound is offered as soon as there may be two conversions.
use Rattle.std.proofs.Common.{◌≡◌, ℕ, ◌-◌, ◌≤◌, ◌<◌, inl, List, length, refl, sym, subst, arith}
use Rattle.std.specs.Prelude.{Some, slice_get}
use Rattle.std.proofs.lemmas.Option.{slice_get_within}
use Rattle.hls_frac.specs.declared.Frac.{Frac}
use Rattle.hls_chron.specs.declared.plain.Config.{Config}
use Rattle.hls_chron.specs.declared.plain.Config.TheVariants as configs
use Rattle.hls_chron.specs.declared.plain.Terms.{Terms}
use Rattle.hls_chron.specs.declared.plain.Terms.TheVariants as terms
use Rattle.hls_chron.specs.Kinds.{port_count, IsPort}
use Rattle.hls_guarantee.specs.declared.Guarantee.{Guarantee}
use Rattle.hls_guarantee.specs.declared.Guarantee.TheVariants.{All, Null, Resb, Resc, Psbe}
use Rattle.hls_guarantee.specs.Satisfaction.{IsSoft}
use Rattle.hls_guarantee.specs.Limits.{IsValid, IsNarrow}
use Rattle.hls_guarantee.specs.Steps.{LendsByTerms}
use Rattle.hls_derive.specs.declared.derivation.Place.{Place}
use Rattle.hls_search_laws.proofs.Closed.{Least, Closed}
use Rattle.hls_search_laws.proofs.Closed.Least.{least-all, least-blocks, least-windows, least-share}
use Rattle.hls_search_laws.proofs.Makes.{narrow-valid}
use Rattle.hls_search.specs.Inside.Parts.{PartOf}
use Rattle.hls_search.specs.Inside.Places.{LendsShares}
use Rattle.hls_search.proofs.Completing.{narrow-at}
use Rattle.hls_search.proofs.Deriving.{lent-valid}
use Rattle.hls_search.proofs.Taking.{parted}
use Rattle.hls_offer_laws.specs.Offered.{CanOffer, IsOffered, IsShareOf, IsLentOf, IsLent}
use Rattle.hls_offer_laws.proofs.Leading.{closed-leads, offered}
use Rattle.hls_offer_laws.proofs.Shares.{narrow-share, share-leads}
use Rattle.hls_offer_laws.proofs.Comings.{before-also, after-also}
use Rattle.hls_chron.proofs.ConfigLaws.{is_port}

-- what so many conversions of what is lent reach is offered
pub record Lending (place : Place) (haves : List Guarantee) (n : ℕ) (lent : Guarantee) : Type 0 where
  pub valid : IsValid lent
  pub room : ℕ
  pub enough : (k : ℕ) → Least lent k → k ≤ room
  pub also : (other : Guarantee) → IsValid other → IsSoft other → Closed room lent other
      → IsOffered place haves n other

least-most : {g : Guarantee} {k : ℕ} → Least g k → k ≤ 2
least-most least-all = omega arith
least-most least-blocks = omega arith
least-most least-windows = omega arith
least-most least-share = omega arith

share-most : {s d : Frac} {k : ℕ} → Least (Psbe s d) k → k ≤ 1
share-most least-share = omega arith

part-most : {k : ℕ} (weight total others : ℕ) (g h : Guarantee) → PartOf weight total others g h → Least h k → k ≤ 1
part-most weight total others (Psbe s d) (Psbe p e) part least = share-most least
part-most weight total others g h part least = absurd part

pub least-some : (g : Guarantee) → (g ≡ Null → ⊥) → (k : ℕ) × Least g k
least-some All some = (1, least-all)
least-some Null some = absurd (some refl)
least-some (Resb hard x y) some = (2, least-blocks)
least-some (Resc hard x y) some = (2, least-windows)
least-some (Psbe s d) some = (1, least-share)

module _ (haves : List Guarantee) (n port : ℕ) (two : 2 ≤ n) (have : Guarantee)
    (there : slice_get haves port ≡ Some have) (narrow : IsNarrow have) where
  passed : (place : Place) → IsPort place.config port
      → ((other : Guarantee) → IsSoft other → LendsByTerms place.config place.terms other other)
      → Lending place haves n have
  passed place port_of lends =
      let valid = narrow-valid have narrow in
      record {
        valid = valid;
        room = n;
        enough = λ k least. (let most = least-most least in omega arith);
        also = λ other vo soft on.
            before-also place haves n n port have there valid port_of (omega arith) other vo (lends other soft) on;
      }

  of-all : (place : Place) (lent : Guarantee) → CanOffer place haves → IsPort place.config port
      → LendsByTerms place.config place.terms have lent → Lending place haves n lent
  of-all place lent can port_of lends =
      let vl : IsValid lent = lent-valid place.config place.terms have lent can.config can.terms narrow lends in
      record {
        valid = vl;
        room = n;
        enough = λ k least. (let most = least-most least in omega arith);
        also = λ other vo soft on.
            after-also place haves n n port have there (narrow-valid have narrow) port_of (omega arith) lent vl lends
            other vo on;
      }

  of-share : (config : Config) (its : Terms) (share lent : Guarantee)
      → CanOffer (record { config = config; terms = its }) haves → IsPort config port → LendsShares config
      → IsShareOf have share → LendsByTerms config its share lent
      → Lending (record { config = config; terms = its }) haves n lent
  of-share config its share lent can port_of of is lends =
      let place : Place = record { config = config; terms = its } in
      let ns : IsNarrow share = narrow-share have share narrow is in
      let vl : IsValid lent = lent-valid config its share lent can.config can.terms ns lends in
      let takes = parted config its share lent can.config can.terms of lends in
      let first = share-leads have share (narrow-valid have narrow) is in
      record {
        valid = vl;
        room = n - 1;
        enough = λ k least.
            let part = takes.is.part share lent lends in
            let most = part-most takes.weight takes.total takes.others share lent part least in omega arith;
        also = λ other vo soft on.
            let last = closed-leads (n - 1) lent other vl vo on in
            offered place haves other n 1 (n - 1) port have share lent first.0 last.0 there
            (record { from = narrow-valid share ns; to = vl; port_of = port_of; lends = inl lends }) first.1 last.1
            (omega arith);
      }

  lend : (config : Config) (its : Terms) (lent : Guarantee) → CanOffer (record { config = config; terms = its }) haves
      → IsPort config port → IsLentOf config its have lent
      → Lending (record { config = config; terms = its }) haves n lent
  lend configs.Fp (terms.Prio priority) lent can port_of lends =
      let place : Place = record { config = configs.Fp; terms = terms.Prio priority } in
      subst (Lending place haves n) (sym lends.1) (passed place port_of (λ other soft. (lends.0, refl)))
  lend (configs.Join ports) terms.Sole lent can port_of lends =
      let place : Place = record { config = configs.Join ports; terms = terms.Sole } in
      subst (Lending place haves n) (sym lends) (passed place port_of (λ other soft. (soft, refl)))
  lend configs.Cpu its lent can port_of lends =
      of-all (record { config = configs.Cpu; terms = its }) lent can port_of lends
  lend configs.Edf its lent can port_of lends =
      of-all (record { config = configs.Edf; terms = its }) lent can port_of lends
  lend (configs.Wheel frame) its lent can port_of lends =
      of-all (record { config = configs.Wheel frame; terms = its }) lent can port_of lends
  lend configs.Fp _ lent can port_of lends = absurd lends
  lend (configs.Join ports) _ lent can port_of lends = absurd lends
  -- all others lend parts of shares
  lend config its lent can port_of lends = of-share config its lends.0 lent can port_of tt lends.1 lends.2

pub lending : (place : Place) (haves : List Guarantee) (n : ℕ) (lent : Guarantee) → CanOffer place haves → 2 ≤ n
    → IsLent place haves lent → Lending place haves n lent
lending place haves n lent can two is =
    let within : is.port < length haves = slice_get_within haves is.port is.have is.there in
    let fits : is.port < port_count place.config = (let all = can.ports in omega arith) in
    lend haves n is.port two is.have is.there (narrow-at haves is.port is.have can.each_have is.there) place.config
    place.terms lent can (is_port place.config is.port fits) is.lends
