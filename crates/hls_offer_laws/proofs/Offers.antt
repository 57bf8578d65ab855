-- What is offered of each form, and from what is lent.
use Rattle.std.proofs.Common.{◌≡◌, ℕ, ◌≤◌, ◌⊎◌, inl, inr, true, false, List, refl, sym, subst, arith}
use Rattle.hls_frac.specs.declared.Frac.{Frac}
use Rattle.hls_guarantee.specs.declared.Guarantee.{Guarantee}
use Rattle.hls_guarantee.specs.declared.Guarantee.TheVariants.{All, Resb, Resc, Psbe}
use Rattle.hls_guarantee.specs.declared.rule.RuleName.TheVariants.{R1}
use Rattle.hls_guarantee.specs.Limits.{IsReservation, IsValid, IsNarrow}
use Rattle.hls_guarantee.specs.Satisfaction.{IsSoft}
use Rattle.hls_guarantee.specs.Conversions.{Converts}
use Rattle.hls_derive.specs.declared.derivation.Place.{Place}
use Rattle.hls_derive.proofs.Derivings.{follow-end}
use Rattle.hls_search_laws.proofs.Quads.{IsBetter, quad, quad-ok, better-trans}
use Rattle.hls_search_laws.proofs.Ways.{way-converts}
use Rattle.hls_search_laws.proofs.Ways.Way.{r4, r5}
use Rattle.hls_search_laws.proofs.Closed.{Closed}
use Rattle.hls_search_laws.proofs.Closed.Rates.{by4, by5}
use Rattle.hls_search_laws.proofs.Closed.Shape.{c1}
use Rattle.hls_search_laws.proofs.Closed.Gives.{share}
use Rattle.hls_search_laws.proofs.Closed.{Gives}
use Rattle.hls_search_laws.proofs.Closed.Closed.{bound, shape, same, rates}
use Rattle.hls_search_laws.proofs.Ends.{closed-all}
use Rattle.hls_offer_laws.specs.Offered.{CanOffer, IsOffered, IsShareOf, IsLent}
use Rattle.hls_offer_laws.specs.Candidates.{IsWindow, IsWait}
use Rattle.hls_offer_laws.proofs.Shares.{share-even, share-some, better-converts}
use Rattle.hls_offer_laws.proofs.Comings.{Comes, comes, comes-on}
use Rattle.hls_offer_laws.proofs.Lendings.{lending, least-some}
use Rattle.hls_offer_laws.proofs.WindowLaws.{least-not-null, best-blocks, best-windows}
use Rattle.hls_offer_laws.proofs.WaitLaws.{best-wait}

pub offered-valid : (place : Place) (haves : List Guarantee) (n : ℕ) (wanted : Guarantee)
    → IsOffered place haves n wanted → IsValid wanted
offered-valid place haves n wanted offers =
    let d = offers.derivation in
    let is = offers.derives in
    subst IsValid is.ends (follow-end d.sched.to d.after is.after is.sched.through.to)

-- ---- hard ones, and every tick

hard-blocks : {n : ℕ} {lent : Guarantee} (x y : ℕ) → Closed n lent (Resb true x y)
    → (lent ≡ Resb true x y) ⊎ (lent ≡ Resc true x y)
hard-blocks x y same = inl refl
hard-blocks x y (shape (c1 c)) = inr refl
hard-blocks x y (rates le (by4 way)) = elim way [ ]
hard-blocks x y (rates le (by5 way)) = elim way [ ]
hard-blocks x y (bound least le gives) = elim gives [ ]

hard-windows : {n : ℕ} {lent : Guarantee} (x y : ℕ) → Closed n lent (Resc true x y) → lent ≡ Resc true x y
hard-windows x y same = refl
hard-windows x y (shape s) = elim s [ ]
hard-windows x y (rates le (by4 way)) = elim way [ ]
hard-windows x y (rates le (by5 way)) = elim way [ ]
hard-windows x y (bound least le gives) = elim gives [ ]

-- ---- shares

pub record Shared (lent : Guarantee) (n : ℕ) (s d : Frac) : Type 0 where
  pub top : Guarantee
  pub is : IsShareOf lent top
  pub rate : Frac
  pub error : Frac
  pub is_share : top ≡ Psbe rate error
  pub valid : IsValid (Psbe rate error)
  pub gives : (top ≡ Psbe s d) ⊎ Converts R1 top (Psbe s d)
  pub closed : Closed n lent (Psbe rate error)

best-share-of : {n : ℕ} {lent : Guarantee} (s d : Frac) → IsValid lent → IsValid (Psbe s d)
    → Closed n lent (Psbe s d) → Shared lent n s d
best-share-of s d vl vw same = record {
  top = Psbe s d;
  is = refl;
  rate = s;
  error = d;
  is_share = refl;
  valid = vw;
  gives = inl refl;
  closed = same;
}
best-share-of s d vl vw (shape x) = elim x [ ]
best-share-of s d vl vw (rates le (by4 (r4 rate error))) = record {
  top = Psbe s d;
  is = way-converts vl vw (r4 rate error);
  rate = s;
  error = d;
  is_share = refl;
  valid = vw;
  gives = inl refl;
  closed = rates le (by4 (r4 rate error));
}
best-share-of s d vl vw (rates le (by5 (r5 rate error))) = record {
  top = Psbe s d;
  is = way-converts vl vw (r5 rate error);
  rate = s;
  error = d;
  is_share = refl;
  valid = vw;
  gives = inl refl;
  closed = rates le (by5 (r5 rate error));
}
best-share-of {n} {lent} s d vl vw (bound least le (share better)) =
    let its = share-some lent vl (least-not-null least) in
    let even = share-even lent its.0 vl its.1 in
    let whole : IsBetter (quad (Psbe even.s even.d)) (quad (Psbe s d)) =
    better-trans (quad-ok lent vl) even.no_worse better in
    record {
      top = its.0;
      is = its.1;
      rate = even.s;
      error = even.d;
      is_share = even.is;
      valid = even.valid;
      gives = inr (subst (λ v. Converts R1 v (Psbe s d)) (sym even.is)
          (better-converts even.s even.d s d even.valid vw whole));
      closed = bound least le (share even.no_better);
    }

-- ---- the same at a place

module _ (place : Place) (haves : List Guarantee) (n : ℕ) (can : CanOffer place haves) where
  pub all-lent : IsOffered place haves n All → IsLent place haves All
  all-lent offers =
      let on = comes-on place haves n All can tt (λ none. (let no : ⊥ = cc in no)) (λ s d is. (let no : ⊥ = cc in no))
      offers in
      subst (IsLent place haves) (closed-all on.closed) on.is

  pub hard-blocks-lent : (x y : ℕ) → IsOffered place haves n (Resb true x y)
      → IsLent place haves (Resb true x y) ⊎ IsLent place haves (Resc true x y)
  hard-blocks-lent x y offers =
      let on = comes-on place haves n (Resb true x y) can (offered-valid place haves n (Resb true x y) offers)
      (λ none. (let no : ⊥ = cc in no)) (λ s d is. (let no : ⊥ = cc in no)) offers in
      elim (hard-blocks x y on.closed) [
        | inl is ↦ inl (subst (IsLent place haves) is on.is)
        | inr is ↦ inr (subst (IsLent place haves) is on.is)
      ]

  pub hard-windows-lent : (x y : ℕ) → IsOffered place haves n (Resc true x y) → IsLent place haves (Resc true x y)
  hard-windows-lent x y offers =
      let on = comes-on place haves n (Resc true x y) can (offered-valid place haves n (Resc true x y) offers)
      (λ none. (let no : ⊥ = cc in no)) (λ s d is. (let no : ⊥ = cc in no)) offers in
      subst (IsLent place haves) (hard-windows x y on.closed) on.is

  pub blocks-candidate : (x y : ℕ) → IsOffered place haves n (Resb false x y)
      → (lent : Guarantee) × (best : ℕ) × IsLent place haves lent × IsWindow lent best y × (x ≤ best)
      × IsOffered place haves n (Resb false best y)
  blocks-candidate x y offers =
      let vw = offered-valid place haves n (Resb false x y) offers in
      let on = comes-on place haves n (Resb false x y) can vw
      (λ none. (let no : ⊥ = cc in no)) (λ s d is. (let no : ⊥ = cc in no)) offers in
      let b = best-blocks x y on.valid vw on.closed in
      (on.lent, b.best, on.is, b.candidate, b.no_less, on.also (Resb false b.best y) b.size refl b.closed)

  pub windows-candidate : (x y : ℕ) → IsOffered place haves n (Resc false x y)
      → (lent : Guarantee) × (best : ℕ) × IsLent place haves lent × IsWindow lent best y × (x ≤ best)
      × IsOffered place haves n (Resc false best y)
  windows-candidate x y offers =
      let vw = offered-valid place haves n (Resc false x y) offers in
      let on = comes-on place haves n (Resc false x y) can vw
      (λ none. (let no : ⊥ = cc in no)) (λ s d is. (let no : ⊥ = cc in no)) offers in
      let b = best-windows x y on.valid vw on.closed in
      (on.lent, b.best, on.is, b.candidate, b.no_less, on.also (Resc false b.best y) b.size refl b.closed)

  pub wait-candidate : (wait : ℕ) → IsOffered place haves n (Resc false 1 wait)
      → (lent : Guarantee) × (best : ℕ) × IsLent place haves lent × IsWait lent best × (best ≤ wait)
      × IsOffered place haves n (Resc false 1 best)
  wait-candidate wait offers =
      let vw = offered-valid place haves n (Resc false 1 wait) offers in
      let on = comes-on place haves n (Resc false 1 wait) can vw
      (λ none. (let no : ⊥ = cc in no)) (λ s d is. (let no : ⊥ = cc in no)) offers in
      let b = best-wait wait on.valid vw on.closed in
      let size : IsReservation 1 b.best =
      record { some = omega arith; fits = b.some; size = (let a = b.no_longer in omega (arith, vw.size)) } in
      (on.lent, b.best, on.is, b.candidate, b.no_longer, on.also (Resc false 1 b.best) size refl b.closed)

  share-by : (s d : Frac) → IsValid (Psbe s d) → Comes place haves n (Psbe s d)
      → (lent share : Guarantee) × IsLent place haves lent × IsShareOf lent share
      × ((share ≡ Psbe s d) ⊎ Converts R1 share (Psbe s d)) × IsOffered place haves n share
  share-by s d vw on =
      let b = best-share-of s d on.valid vw on.closed in (
        on.lent,
        b.top,
        on.is,
        b.is,
        b.gives,
        subst (IsOffered place haves n) (sym b.is_share) (on.also (Psbe b.rate b.error) b.valid tt b.closed),
      )

  pub share-candidate : (s d : Frac) → IsNarrow (Psbe s d) → IsOffered place haves n (Psbe s d)
      → (lent share : Guarantee) × IsLent place haves lent × IsShareOf lent share
      × ((share ≡ Psbe s d) ⊎ Converts R1 share (Psbe s d)) × IsOffered place haves n share
  share-candidate s d narrow offers =
      elim (comes place haves n (Psbe s d) can narrow (λ none. (let no : ⊥ = cc in no)) offers) [
        | inl on ↦ share-by s d (offered-valid place haves n (Psbe s d) offers) on
        | inr goal ↦ (goal.lent, goal.lent, goal.is, goal.itself, inr goal.gives, goal.offers)
      ]

  -- where there may be two conversions, what a rate and an error bound is offered
  pub given-offered : 2 ≤ n → (lent wanted : Guarantee) → IsLent place haves lent → IsValid wanted → IsSoft wanted
      → Gives (quad lent) wanted → IsOffered place haves n wanted
  given-offered two lent wanted is valid soft gives =
      let from = lending place haves n lent can two is in
      let least = least-some lent is.some in
      from.also wanted valid soft (bound least.1 (from.enough least.0 least.1) gives)

  lesser-share : 2 ≤ n → (lent : Guarantee) (s d : Frac) (wanted : Guarantee) → IsLent place haves lent
      → IsBetter (quad lent) (quad (Psbe s d)) → Converts R1 (Psbe s d) wanted → IsOffered place haves n wanted
  lesser-share two lent s d (Psbe t e) is better gives =
      let less : IsBetter (quad (Psbe s d)) (quad (Psbe t e)) =
      record { rate = gives.leads.0; delay = gives.leads.1 } in
      given-offered two lent (Psbe t e) is gives.to tt
      (share (better-trans (quad-ok (Psbe s d) gives.from) better less))
  lesser-share two lent s d wanted is better gives = absurd gives.leads

  -- and so are a share and its lesser ones
  pub share-offered : 2 ≤ n → (lent top : Guarantee) → IsLent place haves lent → IsShareOf lent top
      → IsOffered place haves n top
  share-offered two lent top is its =
      let vl : IsValid lent = (lending place haves n lent can two is).valid in
      let even = share-even lent top vl its in
      subst (IsOffered place haves n) (sym even.is)
      (given-offered two lent (Psbe even.s even.d) is even.valid tt (share even.no_better))

  pub lesser-offered : 2 ≤ n → (lent top wanted : Guarantee) → IsLent place haves lent → IsShareOf lent top
      → Converts R1 top wanted → IsOffered place haves n wanted
  lesser-offered two lent top wanted is its gives =
      let vl : IsValid lent = (lending place haves n lent can two is).valid in
      let even = share-even lent top vl its in
      lesser-share two lent even.s even.d wanted is even.no_better
      (subst (λ v. Converts R1 v wanted) even.is gives)
