-- A request for a seat of a thread has one seat to derive.
use Rattle.std.proofs.Common.{◌≡◌, ◌≢◌, ℕ, inl, inr, List, [], ◌∷◌, ◌++◌, Option, Some, None, Bool, true, false, refl}
use Rattle.std.proofs.Common.{ap, ◌∙◌}
use Rattle.std.specs.Prelude.{flat_map}
use Rattle.std.proofs.lemmas.Bool.{cases_eq, ne_eqb}
use Rattle.hls_text.specs.Lines.{Text}
use Rattle.hls_chron.specs.declared.plain.Terms.{Terms}
use Rattle.hls_guarantee.specs.declared.Guarantee.{Guarantee}
use Rattle.hls_scenario.specs.declared.scenario.Spot.TheVariants.{Under}
use Rattle.hls_machine.specs.Hierarchy.{Hierarchy, Admitted, Place, Processor, At, Seat, SeatHolder, seat_of}
use Rattle.hls_machine.specs.Legal.{IsReached, IsThread}
use Rattle.hls_machine.specs.Seated.{IsSeated, SitsThere}
use Rattle.hls_machine.proofs.Commands.{thread_empty}
use Rattle.hls_legal.specs.Moment.{NamesThread}
use Rattle.hls_legal.specs.Dues.{Due, due_at, dues, dues_on, dues_of, dues_in}
use Rattle.hls_legal.proofs.Found.{named_there}
use Rattle.hls_manager.proofs.Outcomes.{reached_seated}
use Rattle.hls_offer_asks.proofs.Alike.{asks}

-- nobody sits on a thread, so no seat is derived anew
module _ (h : Hierarchy) (seated : IsSeated h) (k : ℕ) (is : IsThread (h.nodes k)) where
  no_sitter : (c port slot : ℕ) (seat : Seat) → seat_of (h.nodes c) port ≡ Some seat → seat.place ≢ At k slot
  no_sitter c port slot seat sits at =
      let there : SitsThere h c port (At k slot) = record { seat = seat; sits = sits; at_place = at } in
      let taken = seated.taken c port k slot there in
      let empty = thread_empty (h.nodes k) is slot in
      cc

  none_due : (has : Guarantee) (s : SeatHolder) → dues_of h k has s (seat_of (h.nodes s.node) s.port) ≡ []
  none_due has s = by (seat_of (h.nodes s.node) s.port) refl
    where
      at_place : (seat : Seat) → seat_of (h.nodes s.node) s.port ≡ Some seat → (place : Place) → seat.place ≡ place
          → dues_in h k has s seat place ≡ []
      at_place seat e Processor at = refl
      at_place seat e (At p slot) at = elim (cases_eq p k) [
        | inl same ↦ absurd (no_sitter s.node s.port slot seat e (at ∙ ap (λ n. At n slot) same))
        | inr ne ↦ rw (ne_eqb p k ne) refl
      ]

      by : (o : Option Seat) → seat_of (h.nodes s.node) s.port ≡ o → dues_of h k has s o ≡ []
      by None e = refl
      by (Some seat) e = at_place seat e seat.place refl

  nothing_due : (has : Guarantee) (seats : List SeatHolder)
      → flat_map (λ (s : SeatHolder). dues_of h k has s (seat_of (h.nodes s.node) s.port)) seats ≡ []
  nothing_due has [] = refl
  nothing_due has (s ∷ seats) =
      ap (λ l. l ++ flat_map (λ (s : SeatHolder). dues_of h k has s (seat_of (h.nodes s.node) s.port)) seats)
      (none_due has s)
      ∙ nothing_due has seats

abbrev pub due_for : Hierarchy → (name on : Text) → Terms → (wanted : Guarantee) → Due
due_for h name on terms wanted = due_at h name 0 (record { spot = Under on terms; want = wanted })

pub one_due : (known : Bool) (h : Hierarchy) → IsReached h → (name on : Text)
    → (known ≡ true → NamesThread h name) → (terms : Terms) (g : Guarantee)
    → dues h (asks known name on terms g) ≡ due_for h name on terms g ∷ []
one_due true h reached name on moved terms g =
    let names = moved refl in
    let found = named_there h name (Admitted names.thread) names.there in
    ap (λ n. due_for h name on terms g ∷ dues_on h g n) found.found
    ∙ ap (λ l. due_for h name on terms g ∷ l)
    (nothing_due h (reached_seated h reached) found.number
    (record { thread = names.thread; there = found.there }) g h.seats)
one_due false h reached name on moved terms g = refl
