-- One slot more that asks: what a box comes to.
use Rattle.std.proofs.Common.{◌≡◌, ◌≢◌, ℕ, zero, suc, ◌<◌, ◌≤◌, List, Option, Some, None, Bool, true, false}
use Rattle.std.proofs.Common.{refl, sym, ap, ◌∙◌, arith, inl, inr, subst}
use Rattle.std.specs.Prelude.{◌⊎◌, IfSome, is_some, min, ◌==◌, if◌then◌else◌}
use Rattle.std.specs.Option.{option_map}
use Rattle.std.proofs.lemmas.Bool.{cases_eq}
use Rattle.std.proofs.lemmas.Bool.Decides.{nat_tests}
use Rattle.hls_chron.specs.Ledger.{Ledger, now_of}
use Rattle.hls_chron.specs.Parts.{all_parts}
use Rattle.hls_chron.specs.Seats.{SlotAsks, terms_at}
use Rattle.hls_kinds.specs.Asks.{slot_asks, with_slot}
use Rattle.hls_kinds.specs.Slots.{IsFirst}
use Rattle.hls_kinds.proofs.SlotLaws.{any_below-at}
use Rattle.hls_book.specs.declared.server.Server.{Server}
use Rattle.hls_book.specs.Servers.{replenished}
use Rattle.hls_box.specs.declared.least.SlotKey.{SlotKey}
use Rattle.hls_box.specs.Keys.{best_below, least_of, has_key, key_at, key_or}
use Rattle.hls_box.proofs.LeastLaws.{least_any, least_first, least_same}
use Rattle.hls_edf.specs.declared.choosing.Outlook.{Outlook}
use Rattle.hls_edf.specs.declared.servers.Need.{Need}
use Rattle.hls_edf.specs.declared.servers.Need.TheVariants.{Budget, Soft}
use Rattle.hls_edf.specs.Choice.{server_in, amid_in, deadline_if, deadline_asking, first_or, choice_of}
use Rattle.hls_edf.specs.Inside.Outlook.{HasAll, IsJoined, IsOutlook, soonest_of}
use Rattle.hls_edf.proofs.Bits.{same_bit, set_bit, other_slot}
use Rattle.hls_edf.proofs.Candidates.{silent as silent_key}
use Rattle.hls_edf.proofs.Outlooks.{soonest_none, soonest_more}
use Rattle.hls_edf.proofs.Silent.{off_bit}
use Rattle.hls_edf.proofs.Released.{Without, without_below}

abbrev slot_in : Option SlotKey → Option ℕ
slot_in best = option_map (λ (best : SlotKey). best.slot) best

not_least : (keys : ℕ → Option ℕ) (slot : ℕ) → keys slot ≡ None → least_of keys ≢ Some slot
not_least keys slot none is =
    let first = subst (λ (choice : Option ℕ). IfSome choice (IsFirst 32 (has_key keys) (key_at keys))) is
    (least_first keys) in
    let both : true ≡ false = sym first.chosen ∙ ap is_some none in cc

-- keys where a slot has one that had none
module _ (keys later : ℕ → Option ℕ) (slot : ℕ) (lt : slot < 32) (gone : keys slot ≡ None)
    (same : (k : ℕ) → k < 32 → k ≢ slot → later k ≡ keys k) where
  without : Without slot (best_below later 32) (best_below keys 32)
  without = without_below later keys slot (λ k within other. sym (same k within other)) gone 32 (omega arith)

  has_later : (key : ℕ) → later slot ≡ Some key → has_key later slot ≡ true
  has_later key is = ap is_some is

  -- it has none
  pub joined_none : later slot ≡ None → least_of later ≡ least_of keys
  joined_none none = least_same later keys (λ k within. elim (cases_eq k slot) [
    | inl is ↦ ap later is ∙ none ∙ sym (ap keys is ∙ gone)
    | inr other ↦ same k within other
  ])

  -- none had one
  alone_by : (choice : Option ℕ) (key : ℕ) → later slot ≡ Some key → least_of later ≡ choice
      → (choice ≡ None) ⊎ (choice ≡ Some slot) → least_of later ≡ Some slot
  alone_by choice key has is (inr here) = is ∙ here
  alone_by choice key has is (inl none) =
      let yes : is_some (least_of later) ≡ true =
      least_any later ∙ any_below-at (has_key later) 32 slot lt (has_later key has) in
      absurd (let both = sym yes ∙ ap is_some (is ∙ none) in cc)

  pub joined_alone : (key : ℕ) → later slot ≡ Some key → least_of keys ≡ None → least_of later ≡ Some slot
  joined_alone key has none = alone_by (least_of later) key has refl (elim without [
    | inl is ↦ inl (sym (ap slot_in is) ∙ none)
    | inr beaten ↦ inr (ap slot_in beaten.is)
  ])

  -- one had
  either : (best : ℕ) → least_of keys ≡ Some best → (least_of later ≡ Some best) ⊎ (least_of later ≡ Some slot)
  either best was = elim without [
    | inl is ↦ inl (sym (ap slot_in is) ∙ was)
    | inr beaten ↦ inr (ap slot_in beaten.is)
  ]

  first_is : (at : ℕ) → least_of later ≡ Some at → IsFirst 32 (has_key later) (key_at later) at
  first_is at is = subst (λ (choice : Option ℕ). IfSome choice (IsFirst 32 (has_key later) (key_at later))) is
      (least_first later)

  module _ (best held key : ℕ) (within : best < 32) (was : least_of keys ≡ Some best) (had : later best ≡ Some held)
      (has : later slot ≡ Some key) where
    held_is : key_at later best ≡ held
    held_is = ap key_or had

    key_is : key_at later slot ≡ key
    key_is = ap key_or has

    pub joined_before : key ≤ held → (key ≡ held → slot < best) → least_of later ≡ Some slot
    joined_before le tie = elim (either best was) [
      | inl stays ↦
          let first = first_is best stays in
          let least : held ≤ key = rw (held_is, key_is) at (first.least slot lt (has_later key has)) in
          let level : key ≡ held = omega (arith, le, least) in
          let behind : best ≤ slot = first.first slot lt (has_later key has) (held_is ∙ sym level ∙ sym key_is) in
          absurd (omega (arith, behind, tie level))
      | inr goes ↦ goes
    ]

    pub joined_behind : held ≤ key → (key ≡ held → best ≤ slot) → least_of later ≡ Some best
    joined_behind le tie = elim (either best was) [
      | inl stays ↦ stays
      | inr goes ↦
          let first = first_is slot goes in
          let least : key ≤ held = rw (held_is, key_is) at (first.least best within (ap is_some had)) in
          let level : key ≡ held = omega (arith, le, least) in
          let ahead : slot ≤ best = first.first best within (ap is_some had) (key_is ∙ level ∙ sym held_is) in
          let same : slot ≡ best = omega (arith, ahead, tie level) in
          goes ∙ ap (λ (at : ℕ). Some at) same
    ]

-- the choice
first_none : (urgent soft : Option ℕ) → first_or urgent soft ≡ None → urgent ≡ None
first_none None soft none = refl
first_none (Some at) soft none = absurd cc

first_some : (urgent soft : Option ℕ) (slot : ℕ) → urgent ≡ Some slot → first_or urgent soft ≡ Some slot
first_some urgent soft slot is = rw is refl

by_need : (urgent soft : Option ℕ) (slot : ℕ) → first_or urgent soft ≡ Some slot
    → (urgent ≡ Some slot) ⊎ ((urgent ≡ None) × (soft ≡ Some slot))
by_need None soft slot is = inr (refl, is)
by_need (Some at) soft slot is = inl is

module _ (servers : List Server) (b : Ledger) (mask later slot : ℕ) (lt : slot < 32)
    (is : IsJoined slot mask later) where
  bit_same : (k : ℕ) → k ≢ slot → slot_asks later k ≡ slot_asks mask k
  bit_same k other = ap (λ m. slot_asks m k) is.joined ∙ same_bit mask slot k other

  bit_on : slot_asks later slot ≡ true
  bit_on = ap (λ m. slot_asks m slot) is.joined ∙ set_bit mask slot

  key_gone : (need : Need) → deadline_asking need servers b mask slot ≡ None
  key_gone need = silent_key need servers b mask slot is.silent

  key_same : (need : Need) (k : ℕ) → k < 32 → k ≢ slot
      → deadline_asking need servers b later k ≡ deadline_asking need servers b mask k
  key_same need k within other =
      ap (λ asks. deadline_if need (replenished all_parts (server_in servers k) asks (now_of b)) (terms_at b k))
      (bit_same k other)

  pub choice_alone : (key : ℕ) → deadline_asking Budget servers b later slot ≡ Some key
      → choice_of servers b mask ≡ None → choice_of servers b later ≡ Some slot
  choice_alone key has none =
      first_some (least_of (deadline_asking Budget servers b later))
      (least_of (deadline_asking Soft servers b later)) slot
      (joined_alone (deadline_asking Budget servers b mask) (deadline_asking Budget servers b later) slot lt
      (key_gone Budget) (key_same Budget) key has
      (first_none (least_of (deadline_asking Budget servers b mask))
      (least_of (deadline_asking Soft servers b mask)) none))

  not_joined : (best : ℕ) → choice_of servers b mask ≡ Some best → best ≢ slot
  not_joined best chosen same = elim (by_need (least_of (deadline_asking Budget servers b mask))
      (least_of (deadline_asking Soft servers b mask)) best chosen) [
        | inl urgent ↦ not_least (deadline_asking Budget servers b mask) slot (key_gone Budget)
            (urgent ∙ ap (λ (at : ℕ). Some at) same)
        | inr soft ↦ not_least (deadline_asking Soft servers b mask) slot (key_gone Soft)
            (soft.1 ∙ ap (λ (at : ℕ). Some at) same)
      ]

  module _ (best held : ℕ) (within : best < 32) (chosen : choice_of servers b mask ≡ Some best)
      (had : deadline_asking Budget servers b later best ≡ Some held) where
    had_before : deadline_asking Budget servers b mask best ≡ Some held
    had_before = sym (key_same Budget best within (not_joined best chosen)) ∙ had

    -- it was chosen by its budget
    was_urgent : least_of (deadline_asking Budget servers b mask) ≡ Some best
    was_urgent = elim (by_need (least_of (deadline_asking Budget servers b mask))
        (least_of (deadline_asking Soft servers b mask)) best chosen) [
          | inl urgent ↦ urgent
          | inr soft ↦
              let yes : is_some (least_of (deadline_asking Budget servers b mask)) ≡ true =
              least_any (deadline_asking Budget servers b mask)
              ∙ any_below-at (has_key (deadline_asking Budget servers b mask)) 32 best within (ap is_some had_before) in
              absurd (let both = sym yes ∙ ap is_some soft.0 in cc)
        ]

    pub choice_stays_alone : deadline_asking Budget servers b later slot ≡ None
        → choice_of servers b later ≡ Some best
    choice_stays_alone none =
        first_some (least_of (deadline_asking Budget servers b later))
        (least_of (deadline_asking Soft servers b later)) best
        (joined_none (deadline_asking Budget servers b mask) (deadline_asking Budget servers b later) slot lt
        (key_gone Budget) (key_same Budget) none ∙ was_urgent)

    pub choice_goes : (key : ℕ) → deadline_asking Budget servers b later slot ≡ Some key → key ≤ held
        → (key ≡ held → slot < best) → choice_of servers b later ≡ Some slot
    choice_goes key has le tie =
        first_some (least_of (deadline_asking Budget servers b later))
        (least_of (deadline_asking Soft servers b later)) slot
        (joined_before (deadline_asking Budget servers b mask) (deadline_asking Budget servers b later) slot lt
        (key_gone Budget) (key_same Budget) best held key within was_urgent had has le tie)

    pub choice_stays : (key : ℕ) → deadline_asking Budget servers b later slot ≡ Some key → held ≤ key
        → (key ≡ held → best ≤ slot) → choice_of servers b later ≡ Some best
    choice_stays key has le tie =
        first_some (least_of (deadline_asking Budget servers b later))
        (least_of (deadline_asking Soft servers b later)) best
        (joined_behind (deadline_asking Budget servers b mask) (deadline_asking Budget servers b later) slot lt
        (key_gone Budget) (key_same Budget) best held key within was_urgent had has le tie)

  -- the earliest deadline
  deadline_same : (k : ℕ) → k ≢ slot → (amid_in servers b later k).deadline ≡ (amid_in servers b mask k).deadline
  deadline_same k other =
      ap (λ asks. (replenished all_parts (server_in servers k) asks (now_of b)).deadline) (bit_same k other)

  step_same : (asks : Bool) (x y d e : ℕ) → x ≡ y → d ≡ e
      → (if asks then min x d else x) ≡ (if asks then min y e else y)
  step_same asks x y d e first second = rw (first, second) refl

  soonest_other : (n x : ℕ) → n ≢ slot → soonest_of servers b later n ≡ x
      → soonest_of servers b later (suc n)
      ≡ (if slot_asks mask n then min x (amid_in servers b mask n).deadline else x)
  soonest_other n x other was =
      soonest_more servers b later n
      ∙ ap (λ asks. if asks then min (soonest_of servers b later n) (amid_in servers b later n).deadline
      else soonest_of servers b later n) (bit_same n other)
      ∙ step_same (slot_asks mask n) (soonest_of servers b later n) x (amid_in servers b later n).deadline
      (amid_in servers b mask n).deadline was (deadline_same n other)

  soonest_below : (n : ℕ) → n ≤ slot → soonest_of servers b later n ≡ soonest_of servers b mask n
  soonest_below zero le = soonest_none servers b later ∙ sym (soonest_none servers b mask)
  soonest_below (suc n) le =
      soonest_other n (soonest_of servers b mask n) (λ e. absurd (omega (arith, le, e)))
      (soonest_below n (omega (arith, le)))
      ∙ sym (soonest_more servers b mask n)

  min_late : (asks : Bool) (x d e : ℕ)
      → (if asks then min (min x d) e else min x d) ≡ min (if asks then min x e else x) d
  min_late true x d e = omega arith
  min_late false x d e = refl

  soonest_past : (n : ℕ) → slot < n
      → soonest_of servers b later n ≡ min (soonest_of servers b mask n) (amid_in servers b later slot).deadline
  soonest_past zero past = absurd (omega (arith, past))
  soonest_past (suc n) past = elim (cases_eq n slot) [
    | inl here ↦
        let on : slot_asks later n ≡ true = ap (slot_asks later) here ∙ bit_on in
        let off : slot_asks mask n ≡ false = ap (slot_asks mask) here ∙ is.silent in
        let before : soonest_of servers b mask (suc n) ≡ soonest_of servers b mask n =
        soonest_more servers b mask n ∙ rw off refl in
        soonest_more servers b later n
        ∙ ap (λ asks. if asks then min (soonest_of servers b later n) (amid_in servers b later n).deadline
        else soonest_of servers b later n) on
        ∙ (ap (λ v. min v (amid_in servers b later n).deadline) (soonest_below n (omega (arith, here)))
        ∙ ap (λ k. min (soonest_of servers b mask n) (amid_in servers b later k).deadline) here
        ∙ sym (ap (λ v. min v (amid_in servers b later slot).deadline) before))
    | inr other ↦
        let d : ℕ = (amid_in servers b later slot).deadline in
        soonest_other n (min (soonest_of servers b mask n) d) other (soonest_past n (omega (arith, past, other)))
        ∙ min_late (slot_asks mask n) (soonest_of servers b mask n) d (amid_in servers b mask n).deadline
        ∙ sym (ap (λ v. min v d) (soonest_more servers b mask n))
  ]

  pub deadline_joined : (amid_in servers b later slot).deadline
      ≡ (replenished all_parts (server_in servers slot) true (now_of b)).deadline
  deadline_joined =
      ap (λ asks. (replenished all_parts (server_in servers slot) asks (now_of b)).deadline) bit_on

  -- all of it
  funded_joined : (among : ℕ) → HasAll among Budget servers b mask
      → HasAll (with_slot slot among) Budget servers b later
  funded_joined among all = record {
    none = λ k within off.
        let other : k ≢ slot = other_slot among slot k off in
        key_same Budget k within other ∙ all.none k within (sym (same_bit among slot k other) ∙ off);
  }

  known_joined : (before d soonest : ℕ) → (0 < before → before ≡ soonest_of servers b mask 32)
      → d ≡ (amid_in servers b later slot).deadline → soonest ≡ (if before == 0 then 0 else min before d)
      → 0 < soonest → soonest ≡ soonest_of servers b later 32
  known_joined before d soonest known its value some = elim (cases_eq before 0) [
    | inl none ↦
        let zero : soonest ≡ 0 = value ∙ rw none refl in absurd (omega (arith, some, zero))
    | inr more ↦
        let no : (before == 0) ≡ false = grind (arith, nat_tests, more) in
        let is_min : soonest ≡ min before d = value ∙ rw no refl in
        is_min ∙ ap (λ v. min v d) (known (omega (arith, more)))
        ∙ ap (min (soonest_of servers b mask 32)) its ∙ sym (soonest_past 32 lt)
  ]

  pub outlook_joined : (before : Outlook) (best : Option ℕ) (d soonest funded : ℕ)
      → best ≡ choice_of servers b later → d ≡ (amid_in servers b later slot).deadline
      → soonest ≡ (if before.soonest == 0 then 0 else min before.soonest d)
      → funded ≡ with_slot slot before.funded → IsOutlook before servers b mask
      → IsOutlook (record { best = best; soonest = soonest; funded = funded }) servers b later
  outlook_joined before best d soonest funded chosen its value bits was = record {
    chosen = chosen;
    soonest = known_joined before.soonest d soonest was.soonest its value;
    funded = rw bits (funded_joined before.funded was.funded);
  }

pub joined : (mask slot later : ℕ) → later ≡ with_slot slot mask → ¬ SlotAsks mask slot → IsJoined slot mask later
joined mask slot later is silent = record {
  joined = is;
  silent = off_bit mask slot silent;
}
