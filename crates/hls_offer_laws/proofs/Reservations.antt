-- The sizes of reservations at a scheduler by deadline.
use Rattle.std.proofs.Common.{◌≡◌, ℕ, ◌≤◌, ◌<◌, ◌⊎◌, inl, inr, Bool}
use Rattle.std.proofs.Common.{true, false, List, [], length, refl, sym, subst, arith}
use Rattle.std.specs.Prelude.{Some, slice_get, All as Each}
use Rattle.std.proofs.lemmas.Option.{slice_get_within}
use Rattle.hls_chron.specs.declared.plain.Config.TheVariants.{Edf}
use Rattle.hls_chron.specs.declared.plain.Terms.TheVariants.{Res}
use Rattle.hls_chron.specs.Ranges.{TermsInRange}
use Rattle.hls_guarantee.specs.declared.Guarantee.{Guarantee}
use Rattle.hls_guarantee.specs.declared.Guarantee.TheVariants.{All, Null, Resb, Resc, Psbe}
use Rattle.hls_guarantee.specs.Limits.{IsReservation, IsValid, IsNarrow}
use Rattle.hls_guarantee.specs.Steps.{LendsByTerms}
use Rattle.hls_search_laws.proofs.Closed.{Closed}
use Rattle.hls_search_laws.proofs.Closed.Closed.{same}
use Rattle.hls_search_laws.proofs.Makes.{narrow-valid}
use Rattle.hls_search.proofs.Completing.{narrow-at}
use Rattle.hls_search.proofs.Deriving.{leads-none}
use Rattle.hls_offer_laws.specs.Offered.{CanOffer, IsOffered, IsShareOf}
use Rattle.hls_offer_laws.specs.Candidates.{reservation, IsSize}
use Rattle.hls_offer_laws.proofs.Leading.{offered}
use Rattle.hls_offer_laws.proofs.Comings.{Comes, comes, after-also}
use Rattle.hls_offer_laws.proofs.Offers.{hard-blocks-lent}
use Rattle.hls_offer_laws.proofs.SizeLaws.{smaller, size-leads}

in-range : (x y : ℕ) → (1 ≤ x) × (x ≤ y) × (y ≤ 10000) → IsReservation x y
in-range x y range = record { some = range.0; fits = range.1; size = omega (arith, range.2) }

lent-of : (hard : Bool) (x y : ℕ) (have lent : Guarantee) → LendsByTerms Edf (Res hard x y) have lent
    → (have ≡ All) × (lent ≡ Resb hard x y)
lent-of hard x y All lent lends = (refl, lends)
lent-of hard x y _ lent lends = absurd lends

blocks-no-share : (hard : Bool) (x y : ℕ) → IsShareOf (Resb hard x y) (Resb hard x y) → ⊥
blocks-no-share hard x y c = c.leads

is-null : (g : Guarantee) → (g ≡ Null) ⊎ (g ≡ Null → ⊥)
is-null Null = inl refl
is-null All = inr (λ e. (let no : ⊥ = cc in no))
is-null (Resb hard x y) = inr (λ e. (let no : ⊥ = cc in no))
is-null (Resc hard x y) = inr (λ e. (let no : ⊥ = cc in no))
is-null (Psbe s d) = inr (λ e. (let no : ⊥ = cc in no))

module _ (haves : List Guarantee) (n : ℕ) (one : length haves ≡ 1) (narrow : Each IsNarrow haves) where
  open-at : (hard : Bool) (x y : ℕ) → TermsInRange (Res hard x y) → CanOffer (reservation hard x y) haves
  open-at hard x y range = record { config = tt; terms = range; ports = one; each_have = narrow }

  -- what conversions of its blocks reach is offered
  on-blocks : (room port : ℕ) (hard : Bool) (x y : ℕ) (wanted : Guarantee) → TermsInRange (Res hard x y)
      → slice_get haves port ≡ Some All → port ≡ 0 → room ≤ n → IsValid wanted → Closed room (Resb hard x y) wanted
      → IsOffered (reservation hard x y) haves n wanted
  on-blocks room port hard x y wanted range there sole fits valid c =
      after-also (reservation hard x y) haves n room port All there tt sole fits (Resb hard x y) (in-range x y range)
      refl wanted valid c

  -- nothing is offered on all terms
  nothing-offered : (hard : Bool) (x y : ℕ) (have : Guarantee) → slice_get haves 0 ≡ Some have → IsValid have
      → IsOffered (reservation hard x y) haves n Null
  nothing-offered hard x y have there valid =
      offered (reservation hard x y) haves Null n 0 0 0 have have Null [] [] there
      (record { from = valid; to = tt; port_of = refl; lends = inr refl }) (leads-none have) (leads-none Null)
      (omega arith)

  comes-sized : (hard : Bool) (x y : ℕ) (wanted : Guarantee) → TermsInRange (Res hard x y) → IsNarrow wanted
      → (wanted ≡ Null → ⊥) → IsOffered (reservation hard x y) haves n wanted
      → Comes (reservation hard x y) haves n wanted
  comes-sized hard x y wanted range nw some offers =
      elim (comes (reservation hard x y) haves n wanted (open-at hard x y range) nw some offers) [
        | inl on ↦ on
        | inr goal ↦
            let lent : goal.lent ≡ Resb hard x y = (lent-of hard x y goal.is.have goal.lent goal.is.lends).1 in
            absurd (blocks-no-share hard x y (subst (λ v. IsShareOf v v) lent goal.itself))
      ]

  sized : (hard : Bool) (x y : ℕ) (wanted : Guarantee) → TermsInRange (Res hard x y) → IsNarrow wanted
      → ((ticks period : ℕ) → wanted ≡ Resb true ticks period → ⊥) → (wanted ≡ Null → ⊥)
      → Comes (reservation hard x y) haves n wanted
      → (size : ℕ) × IsSize wanted size y × (size ≤ x) × IsOffered (reservation false size y) haves n wanted
  sized hard x y wanted range nw soft some on =
      let from = lent-of hard x y on.is.have on.lent on.is.lends in
      let c : Closed on.room (Resb hard x y) wanted = subst (λ v. Closed on.room v wanted) from.1 on.closed in
      let valid = narrow-valid wanted nw in
      let s = smaller x y wanted (in-range x y range) valid soft some c in
      let there : slice_get haves on.is.port ≡ Some All =
      subst (λ v. slice_get haves on.is.port ≡ Some v) from.0 on.is.there in
      let within : on.is.port < length haves = slice_get_within haves on.is.port All there in
      let sole : on.is.port ≡ 0 = omega (arith, within, one) in (
        s.size,
        s.is,
        s.no_more,
        on-blocks on.room on.is.port false s.size y wanted
            (s.some, omega (arith, s.no_more, range.1), range.2) there sole on.fits valid s.closed,
      )

  sized-nothing : (hard : Bool) (x y : ℕ) → TermsInRange (Res hard x y) → IsOffered (reservation hard x y) haves n Null
      → (size : ℕ) × IsSize Null size y × (size ≤ x) × IsOffered (reservation false size y) haves n Null
  sized-nothing hard x y range offers =
      let d = offers.derivation in
      let there : slice_get haves 0 ≡ Some d.from =
      subst (λ k. slice_get haves k ≡ Some d.from) offers.derives.sched.through.port_of offers.derives.starts in
      let valid = narrow-valid d.from (narrow-at haves 0 d.from narrow there) in
      (1, inl refl, range.0, nothing-offered false 1 y d.from there valid)

  pub size-candidate : (hard : Bool) (x y : ℕ) (wanted : Guarantee) → TermsInRange (Res hard x y) → IsNarrow wanted
      → ((ticks period : ℕ) → wanted ≡ Resb true ticks period → ⊥)
      → IsOffered (reservation hard x y) haves n wanted
      → (size : ℕ) × IsSize wanted size y × (size ≤ x) × IsOffered (reservation false size y) haves n wanted
  size-candidate hard x y wanted range nw soft offers = elim (is-null wanted) [
    | inl none ↦
        subst (λ v. (size : ℕ) × IsSize v size y × (size ≤ x) × IsOffered (reservation false size y) haves n v)
        (sym none)
        (sized-nothing hard x y range (subst (IsOffered (reservation hard x y) haves n) none offers))
    | inr some ↦
        sized hard x y wanted range nw soft some (comes-sized hard x y wanted range nw some offers)
  ]

  pub hard-size : (hard : Bool) (x y ticks period : ℕ) → TermsInRange (Res hard x y)
      → IsOffered (reservation hard x y) haves n (Resb true ticks period)
      → (hard ≡ true) × (x ≡ ticks) × (y ≡ period)
  hard-size hard x y ticks period range offers =
      elim (hard-blocks-lent (reservation hard x y) haves n (open-at hard x y range) ticks period offers) [
        | inl is ↦
            let e : Resb true ticks period ≡ Resb hard x y =
            (lent-of hard x y is.have (Resb true ticks period) is.lends).1 in (cc, cc, cc)
        | inr is ↦
            let e : Resc true ticks period ≡ Resb hard x y =
            (lent-of hard x y is.have (Resc true ticks period) is.lends).1 in
            absurd (let no : ⊥ = cc in no)
      ]

  -- what a reservation is enough for
  pub size-offered : 2 ≤ n → slice_get haves 0 ≡ Some All → (x y : ℕ) (wanted : Guarantee)
      → TermsInRange (Res false x y) → IsNarrow wanted → IsSize wanted x y
      → IsOffered (reservation false x y) haves n wanted
  size-offered two there x y wanted range nw is =
      on-blocks n 0 false x y wanted range there refl (omega arith) (narrow-valid wanted nw)
      (size-leads n x y wanted two (in-range x y range) is)

  pub hard-offered : slice_get haves 0 ≡ Some All → (x y : ℕ) → TermsInRange (Res true x y)
      → IsOffered (reservation true x y) haves n (Resb true x y)
  hard-offered there x y range =
      on-blocks 0 0 true x y (Resb true x y) range there refl (omega arith) (in-range x y range) same
