-- What ticks leave of what is known of the present tick, where the next one is calm.
use Rattle.std.proofs.Common.{◌≡◌, ℕ, ◌-◌, ◌<◌, List, Option, Some, None, Bool, true, false, refl, ap, ◌∙◌}
use Rattle.std.proofs.Common.{arith, inl, inr, subst}
use Rattle.std.specs.Prelude.{is_some, IfSome, nat_lt, nat_le, ◌&&◌, if◌then◌else◌}
use Rattle.std.proofs.lemmas.Bool.{cases_Bool, cases_lt, eq-eqb}
use Rattle.std.proofs.lemmas.Bool.Decides.{nat_tests}
use Rattle.hls_chron.specs.declared.plain.Terms.{Terms}
use Rattle.hls_chron.specs.declared.plain.Kind.{Kind}
use Rattle.hls_chron.specs.Ledger.{Ledger, now_of}
use Rattle.hls_chron.specs.Seats.{terms_at, is_slot}
use Rattle.hls_chron.proofs.BookLaws.{terms_at-same}
use Rattle.hls_kinds.specs.Asks.{slot_asks}
use Rattle.hls_book.specs.declared.server.Server.{Server}
use Rattle.hls_sched.specs.Seen.{Seen, leapt}
use Rattle.hls_box.specs.Inside.Sound.{IsSound}
use Rattle.hls_edf.specs.declared.choosing.Outlook.{Outlook}
use Rattle.hls_edf.specs.declared.servers.Need.TheVariants.{Budget}
use Rattle.hls_edf.specs.Choice.{server_in, amid_in, deadline_if, deadline_asking, choice_of}
use Rattle.hls_edf.specs.Changes.{charged_for, leap_of}
use Rattle.hls_edf.specs.Inside.Calm.{AreCalm, uses_up}
use Rattle.hls_edf.specs.Inside.Outlook.{HasAll, IsOutlook}
use Rattle.hls_edf.proofs.Candidates.{silent}
use Rattle.hls_edf.proofs.LeapCalm.{amid_leapt}
use Rattle.hls_edf.proofs.Outlooks.{funded_kept, outlook_on}

-- what is used up leaves no budget
used_up : (budget n : ℕ) → (nat_lt 0 budget && nat_le budget n) ≡ true → nat_lt 0 (budget - n) ≡ false
used_up budget n all = elim (cases_lt n budget) [
  | inl more ↦
      let no : nat_le budget n ≡ false = grind (arith, nat_tests) in
      let yes : nat_lt 0 budget ≡ true = grind (arith, nat_tests) in
      absurd (let both = rw (yes, no) at all in cc)
  | inr le ↦ grind (arith, nat_tests)
]

none_left : (asked : Bool) (budget deadline : ℕ) → nat_lt 0 budget ≡ false
    → (if asked && nat_lt 0 budget then Some deadline else None) ≡ None
none_left false budget deadline none = refl
none_left true budget deadline none = rw none refl

charged_out : (served : Bool) (n : ℕ) (c : Server) (seat : Option Terms) → served ≡ true
    → (nat_lt 0 c.budget && nat_le c.budget n) ≡ true → deadline_if Budget (charged_for served n c) seat ≡ None
charged_out true n c seat is all = none_left c.asked (c.budget - n) c.deadline (used_up c.budget n all)
charged_out false n c seat is all = absurd cc

spent_by : (servers after : List Server) (b later : Ledger) (mask n : ℕ) (to : Option ℕ)
    → ((slot : ℕ) → slot < 32 → slot_asks mask slot ≡ true
    → amid_in after later mask slot ≡ charged_for (is_slot to slot) n (amid_in servers b mask slot))
    → IfSome to (λ slot. slot < 32) → uses_up servers b mask to n ≡ true
    → IfSome to (λ slot. deadline_asking Budget after later mask slot ≡ None)
spent_by servers after b later mask n None amid within all = tt
spent_by servers after b later mask n (Some slot) amid within all = elim (cases_Bool (slot_asks mask slot)) [
  | inl on ↦
      ap (λ (c : Server). deadline_if Budget c (terms_at later slot)) (amid slot within on)
      ∙ charged_out (is_slot (Some slot) slot) n (amid_in servers b mask slot) (terms_at later slot)
      (eq-eqb slot slot refl) all
  | inr off ↦ silent Budget after later mask slot off
]

pub outlook_spent : (o p : Outlook) (servers : List Server) (b : Ledger) (mask : ℕ)
    → IsOutlook (record o { best = p.best }) servers b mask → p.soonest ≡ o.soonest
    → HasAll p.funded Budget servers b mask → IsOutlook p servers b mask
outlook_spent o p servers b mask is same all = record {
  chosen = is.chosen;
  soonest = λ some. same ∙ is.soonest (subst (λ (v : ℕ). 0 < v) same some);
  funded = all;
}

module _ (kind : Kind) (s t : Seen) (servers after : List Server) (choice to : Option ℕ) (n until : ℕ)
    (sound : IsSound kind s) (is : t ≡ leapt n choice s)
    (filled : (slot : ℕ) → slot < 32 → server_in after slot ≡ leap_of (server_in servers slot)
    (is_some (terms_at s.book slot)) (slot_asks s.mask slot) (is_slot to slot) (now_of s.book) n)
    (calm : AreCalm until after s.book s.mask) (soon : now_of t.book < until) where
  pub funded_leapt : (among : ℕ) → HasAll among Budget servers s.book s.mask
      → HasAll among Budget after t.book t.mask
  funded_leapt among all =
      rw is (funded_kept servers after s.book (leapt n choice s).book s.mask n to
      (λ slot. terms_at-same (leapt n choice s).book s.book slot refl)
      (amid_leapt kind s (leapt n choice s) servers after choice to n until sound refl filled calm (rw is at soon))
      among all)

  pub outlook_leapt : (o : Outlook) (best : Option ℕ) → best ≡ choice_of after t.book t.mask
      → IsOutlook o servers s.book s.mask → IsOutlook (record o { best = best }) after t.book t.mask
  outlook_leapt o best chosen was =
      rw is (outlook_on servers after s.book (leapt n choice s).book s.mask n to
      (λ slot. terms_at-same (leapt n choice s).book s.book slot refl)
      (amid_leapt kind s (leapt n choice s) servers after choice to n until sound refl filled calm (rw is at soon))
      o best (rw is at chosen) was)

  pub spent_leapt : IfSome to (λ slot. slot < 32) → uses_up servers s.book s.mask to n ≡ true
      → IfSome to (λ slot. deadline_asking Budget after t.book t.mask slot ≡ None)
  spent_leapt within all =
      rw is (spent_by servers after s.book (leapt n choice s).book s.mask n to
      (amid_leapt kind s (leapt n choice s) servers after choice to n until sound refl filled calm (rw is at soon))
      within all)
