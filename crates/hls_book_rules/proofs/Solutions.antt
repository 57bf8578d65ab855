-- One solution of the rules alone.
use Rattle.std.proofs.Common.{◌≡◌, ℕ, zero, suc, ◌+◌, sym, ap, ◌∙◌, arith, Bool, true, inl, inr}
use Rattle.std.proofs.lemmas.Bool.{cases_lt}
use Rattle.hls_chron.specs.Ledger.{Ledger}
use Rattle.hls_kinds.specs.declared.reservations.Claim.{Claim}
use Rattle.hls_kinds.specs.declared.reservations.Reservation.{Reservation}
use Rattle.hls_kinds.specs.Tags.{share_in, start_tag}
use Rattle.hls_kinds.specs.Tenants.{tenant_then}
use Rattle.hls_kinds.proofs.TagLaws.{AgreeBefore, start_of-agree, since-then, start_tag-is}
use Rattle.hls_kinds.specs.Reservations.{asked_before}
use Rattle.hls_kinds.specs.Reservations.{claim_within, claim_served}
use Rattle.hls_book_rules.specs.Budgets.{claim_before}
use Rattle.hls_kinds.specs.Tags.{MeetTagRules}
use Rattle.hls_kinds.specs.Reservations.{MeetBudgetRules}
use Rattle.hls_book_rules.proofs.Budgets.{budget_rules}

module _ (quantum : ℕ) (b : Ledger) (tags : ℕ → ℕ → ℕ) (rules : MeetTagRules quantum b tags) where
  -- where the tags of all earlier ticks are the same
  same_tag : (t slot : ℕ) → AgreeBefore tags (start_tag quantum b) t → tags t slot ≡ start_tag quantum b t slot
  same_tag t slot before =
      rules t slot
      ∙ start_of-agree quantum b tags (start_tag quantum b) (share_in (tenant_then b slot t)) t slot
      (since-then b slot t) before
      ∙ sym (start_tag-is quantum b t slot)

  same_before : (n : ℕ) → AgreeBefore tags (start_tag quantum b) n
  same_before zero z slot lt = absurd (omega (arith, lt))
  same_before (suc n) z slot lt = elim (cases_lt z n) [
    | inl earlier ↦ same_before n z slot earlier
    | inr last ↦
        let here : z ≡ n = omega (arith, last, lt) in
        rw here (same_tag n slot (same_before n))
  ]

  pub only_tags : (t slot : ℕ) → tags t slot ≡ start_tag quantum b t slot
  only_tags t slot = same_tag t slot (same_before t)

module _ (r : Reservation) (asks serves : ℕ → Bool) (claims : ℕ → Claim)
    (sure : (n : ℕ) → serves (r.since + n) ≡ true → asks (r.since + n) ≡ true)
    (rules : MeetBudgetRules r asks serves claims) where
  pub only_claims : (n : ℕ) → claims n ≡ claim_before r asks serves n
  only_claims zero = rules.begins ∙ sym (budget_rules r asks serves 0).begins
  only_claims (suc n) =
      let next : suc n ≡ n + 1 = omega arith in
      let step : Claim → Claim = λ claim.
      claim_served (serves (r.since + n))
      (claim_within r (asks (r.since + n)) (asked_before r asks n) (r.since + n) claim)
      in
      ap claims next ∙ rules.goes_on n ∙ ap step (only_claims n)
      ∙ sym ((budget_rules r asks serves n).goes_on (sure n)) ∙ ap (claim_before r asks serves) (sym next)
