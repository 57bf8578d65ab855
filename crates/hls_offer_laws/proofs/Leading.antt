-- Chains of conversions from words that were found, and derivations from chains.
use Rattle.std.proofs.Common.{◌≡◌, ℕ, ◌+◌, ◌≤◌, true, false, List, [], ◌∷◌, length, subst, arith}
use Rattle.std.specs.Prelude.{Some, slice_get}
use Rattle.hls_guarantee.specs.declared.Guarantee.{Guarantee}
use Rattle.hls_guarantee.specs.declared.Guarantee.TheVariants.{All, Null, Resb, Resc, Psbe}
use Rattle.hls_guarantee.specs.declared.rule.RuleName.{RuleName}
use Rattle.hls_guarantee.specs.Limits.{IsValid}
use Rattle.hls_guarantee.specs.Conversions.{Converts}
use Rattle.hls_guarantee.specs.Steps.{LendsThrough}
use Rattle.hls_derive.specs.declared.derivation.Place.{Place}
use Rattle.hls_derive.specs.declared.derivation.Step.{Step}
use Rattle.hls_rules.proofs.Decided.{answer-sound}
use Rattle.hls_search_laws.specs.Words.{asked_before, Walks, IsFound}
use Rattle.hls_search_laws.proofs.Closed.{Closed}
use Rattle.hls_search_laws.proofs.Reached.{closed}
use Rattle.hls_search_laws.proofs.Finding.{found-closed}
use Rattle.hls_search.specs.Inside.Chains.{LeadsTo}
use Rattle.hls_search.specs.Inside.Found.{derivation_of, through}
use Rattle.hls_search.proofs.Deriving.{derives}
use Rattle.hls_offer_laws.specs.Offered.{IsOffered}

asked-valid : (rest : List RuleName) (wanted : Guarantee) → IsValid wanted → IsValid (asked_before rest wanted)
asked-valid [] wanted v = v
asked-valid (rule ∷ rest) All v = v
asked-valid (rule ∷ rest) Null v = v
asked-valid (rule ∷ rest) (Resb true x y) v = v
asked-valid (rule ∷ rest) (Resb false x y) v = v
asked-valid (rule ∷ rest) (Resc hard x y) v = v
asked-valid (rule ∷ rest) (Psbe s d) v = v

-- the conversions of a word
walk-leads : (word : List RuleName) (g wanted : Guarantee) → IsValid g → IsValid wanted → Walks word g wanted
    → (steps : List Step) × LeadsTo (length word) g wanted steps
walk-leads [] g wanted vg vw walks = ([], record { follows = tt; ends = walks; fits = omega arith })
walk-leads (rule ∷ rest) g wanted vg vw walks =
    let c : Converts rule g walks.0 =
    answer-sound rule g (asked_before rest wanted) walks.0 vg (asked-valid rest wanted vw) walks.1 in
    let next = walk-leads rest walks.0 wanted c.to vw walks.2 in
    let step : Step = record { rule = rule; to = walks.0 } in (
      step ∷ next.0,
      record { follows = (c, next.1.follows); ends = next.1.ends; fits = omega (arith, next.1.fits) },
    )

pub found-leads : (n : ℕ) (g w : Guarantee) → IsValid g → IsValid w → IsFound n g w
    → (steps : List Step) × LeadsTo n g w steps
found-leads n g w vg vw found =
    let leads = walk-leads found.word g w vg vw found.walks in (
      leads.0,
      record {
        follows = leads.1.follows;
        ends = leads.1.ends;
        fits = (let a = leads.1.fits in let b = found.fits in omega arith);
      },
    )

pub closed-leads : (n : ℕ) (g w : Guarantee) → IsValid g → IsValid w → Closed n g w
    → (steps : List Step) × LeadsTo n g w steps
closed-leads n g w vg vw c = found-leads n g w vg vw (found-closed n vg vw c)

pub found-reached : (n : ℕ) (g w : Guarantee) → IsValid g → IsValid w → IsFound n g w
    → (m : ℕ) × (m ≤ n) × Closed m g w
found-reached n g w vg vw found =
    let leads = found-leads n g w vg vw found in (
      0 + length leads.0,
      omega (arith, leads.1.fits),
      subst (λ v. Closed (0 + length leads.0) g v) leads.1.ends (closed g leads.0 vg leads.1.follows),
    )

-- conversions, the scheduler step and conversions
pub offered : (place : Place) (haves : List Guarantee) (wanted : Guarantee) (n a b port : ℕ)
    (from into to : Guarantee) (before after : List Step) → slice_get haves port ≡ Some from
    → LendsThrough place.config place.terms port into to → LeadsTo a from into before → LeadsTo b to wanted after
    → a + b ≤ n → IsOffered place haves n wanted
offered place haves wanted n a b port from into to before after there lends first last fits =
    let d = derives place haves wanted n a b port from into to before after there lends first last fits in
    record {
      derivation = derivation_of (through place port from before to after);
      derives = d.is;
      fits = d.few;
    }
