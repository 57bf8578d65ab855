-- No chain of schedulers is longer than the commands that loaded them.
use Rattle.std.proofs.Common.{◌≡◌, ℕ, zero, suc, inl, inr, ◌+◌, ◌<◌, ◌≤◌, List, [], ◌∷◌, Bool, true}
use Rattle.std.proofs.Common.{length}
use Rattle.std.proofs.Common.{refl, sym, ap, ◌∙◌, subst, arith}
use Rattle.std.specs.Prelude.{Option, Some, None, Contains, nat_lt}
use Rattle.std.proofs.lemmas.Bool.{cases_lt, cases_Bool, lt-ltb, le-ltb}
use Rattle.hls_text.specs.Lines.{Text}
use Rattle.hls_chron.specs.declared.plain.Terms.{Terms}
use Rattle.hls_chron.specs.Seats.{terms_at}
use Rattle.hls_chron.specs.Ticks.{one_if}
use Rattle.hls_chron.proofs.CountLaws.{one_if-le}
use Rattle.hls_report_text.specs.declared.report.Answered.{Answered}
use Rattle.hls_machine.specs.Hierarchy.{Hierarchy, Node, Loaded, Admitted, At, book_of}
use Rattle.hls_machine.specs.Steps.{is_scheduler}
use Rattle.hls_machine.specs.Legal.{SitsOn, IsBelow}
use Rattle.hls_machine.specs.Linked.{SitsBelow, SitsAt}
use Rattle.hls_machine.specs.Lists.{Lists}
use Rattle.hls_machine.specs.Readings.{IsUnderBy}
use Rattle.hls_machine.specs.Seated.{SitsThere, IsSeated}
use Rattle.hls_machine.proofs.Kept.{IsSound}
use Rattle.hls_machine.proofs.Listings.{First, Later, in_cases, none_in}
use Rattle.hls_machine.proofs.Readings.{below_rank}
use Rattle.hls_legal.specs.Under.{is_under}
use Rattle.hls_legal.specs.Tells.{HasName}
use Rattle.hls_legal.proofs.Told.{Unique}
use Rattle.hls_legal.proofs.Seatings.{AreSeatedBy, below_by_names, names_by_below}

-- ---- how many have a lower rank

abbrev pub lower : (rank : ℕ → ℕ) → (r : ℕ) → List ℕ → ℕ
lower rank r [] = 0
lower rank r (s ∷ xs) = one_if (nat_lt (rank s) r) + lower rank r xs

pub lower-length : (rank : ℕ → ℕ) (r : ℕ) (xs : List ℕ) → lower rank r xs ≤ length xs
lower-length rank r [] = omega arith
lower-length rank r (s ∷ xs) = omega (arith, lower-length rank r xs, one_if-le (nat_lt (rank s) r))

more_pass : (a r q : ℕ) → r ≤ q → one_if (nat_lt a r) ≤ one_if (nat_lt a q)
more_pass a r q le = elim (cases_lt a r) [
  | inl lt ↦
      let on : one_if (nat_lt a q) ≡ 1 = ap one_if (lt-ltb a q (omega arith)) in
      let few = one_if-le (nat_lt a r) in
      omega arith
  | inr ge ↦
      let off : one_if (nat_lt a r) ≡ 0 = ap one_if (le-ltb a r ge) in
      omega arith
]

lower-more : (rank : ℕ → ℕ) (r q : ℕ) (xs : List ℕ) → r ≤ q → lower rank r xs ≤ lower rank q xs
lower-more rank r q [] le = omega arith
lower-more rank r q (s ∷ xs) le = omega (arith, lower-more rank r q xs le, more_pass (rank s) r q le)

pub lower-strict : (rank : ℕ → ℕ) (p q : ℕ) (xs : List ℕ) → rank p < q → Contains xs p
    → lower rank (rank p) xs + 1 ≤ lower rank q xs
lower-strict rank p q [] lt has = absurd (none_in p has)
lower-strict rank p q (s ∷ xs) lt has = elim (in_cases s xs p has) [
  | First same ↦
      let e : rank s ≡ rank p = ap rank same in
      let off : one_if (nat_lt (rank s) (rank p)) ≡ 0 = ap one_if (le-ltb (rank s) (rank p) (omega arith)) in
      let on : one_if (nat_lt (rank s) q) ≡ 1 = ap one_if (lt-ltb (rank s) q (omega arith)) in
      omega (arith, lower-more rank (rank p) q xs (omega arith))
  | Later rest ↦
      omega (arith, lower-strict rank p q xs lt rest, more_pass (rank s) (rank p) q (omega arith))
]

-- ---- chains

taken_scheduler : (node : Option Node) (slot : ℕ) (terms : Terms) → terms_at (book_of node) slot ≡ Some terms
    → is_scheduler node ≡ true
unfolding terms_at
taken_scheduler None slot terms e = absurd (cc)
taken_scheduler (Some (Loaded s)) slot terms e = refl
taken_scheduler (Some (Admitted t)) slot terms e = absurd (cc)

pub sits_on_scheduler : (h : Hierarchy) → IsSeated h → (d p : ℕ) → SitsOn h d p
    → is_scheduler (h.nodes p) ≡ true
sits_on_scheduler h seated d p on =
    let there : SitsThere h d on.port (At p on.slot) =
    record { seat = on.seat; sits = on.sits; at_place = on.at_place } in
    taken_scheduler (h.nodes p) on.slot on.seat.terms (seated.taken d on.port p on.slot there)

module _ (h : Hierarchy) (rank : ℕ → ℕ) (sound : IsSound h rank) (seated : IsSeated h)
    (lists : Lists h.schedulers (λ k. is_scheduler (h.nodes k))) (k : ℕ) where
  rank_below : (d p : ℕ) → SitsOn h d p → rank p < rank d
  rank_below d p on =
      let sits : SitsBelow h rank d on.port on.seat p on.slot =
      subst (SitsAt h rank d on.port on.seat) on.at_place (sound.sits d on.port on.seat on.sits) in
      sits.below

  chain_bound : (count d : ℕ) → IsUnderBy h k count d → count ≤ lower rank (rank d) h.schedulers
  chain_bound zero d under = omega arith
  chain_bound (suc count) d under =
      let p = under.0 in
      omega (
        arith,
        chain_bound count p under.2,
        lower-strict rank p (rank d) h.schedulers (rank_below d p under.1)
            (lists.all p (sits_on_scheduler h seated d p under.1)),
      )

  -- a node is below another in the run exactly where the commands tell it
  pub under_told : (before : List Answered) → Unique h.nodes → AreSeatedBy h before
      → length h.schedulers ≤ length before → (top : Text) → HasName h k top → (below : ℕ → Bool)
      → IsBelow h k below → (d : ℕ) (name : Text) → HasName h d name → below d ≡ is_under before top name
  under_told before unique told few top is_top below is d name named = elim (cases_Bool (below d)) [
    | inl on ↦
        let under = below_rank h rank sound k below is (suc (rank d)) d (omega arith) on in
        let bound = chain_bound under.0 d under.1 in
        let most = lower-length rank (rank d) h.schedulers in
        on ∙ sym (names_by_below h before unique told k top is_top below is under.0 d name (length before)
        named
        under.1 (omega arith))
    | inr off ↦ elim (cases_Bool (is_under before top name)) [
      | inl on ↦
          (let wrong = below_by_names h before unique told k top is_top below is (length before) d name
          named on in
          absurd (cc))
      | inr away ↦ off ∙ sym away
    ]
  ]
