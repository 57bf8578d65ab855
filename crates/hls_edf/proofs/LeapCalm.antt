-- Many ticks that leave the choice: no budget is used up in them, and the next tick is calm.
use Rattle.std.proofs.Common.{◌≡◌, ◌≢◌, ℕ, ◌+◌, ◌<◌, List, Option, Some, None, Bool, true, false}
use Rattle.std.proofs.Common.{refl, sym, ap, ◌∙◌, subst, arith, inl, inr}
use Rattle.std.specs.Prelude.{is_some, nat_lt, nat_le, ◌⊎◌, ◌&&◌}
use Rattle.std.specs.Int.{bit_at}
use Rattle.std.proofs.lemmas.Bool.{cases_Bool, cases_lt, cases_eq, eqb-true}
use Rattle.std.proofs.lemmas.Bool.Decides.{nat_tests}
use Rattle.hls_chron.specs.declared.plain.Kind.{Kind}
use Rattle.hls_chron.specs.declared.plain.Terms.{Terms}
use Rattle.hls_chron.specs.Ledger.{Ledger, now_of}
use Rattle.hls_chron.specs.Parts.{all_parts}
use Rattle.hls_chron.specs.Seats.{SlotAsks, terms_at, is_slot}
use Rattle.hls_chron.proofs.BookLaws.{terms_at-same}
use Rattle.hls_kinds.specs.Asks.{slot_asks}
use Rattle.hls_book.specs.declared.server.Server.{Server}
use Rattle.hls_book.specs.Servers.{replenished}
use Rattle.hls_book.proofs.Replenishing.{replenished-on}
use Rattle.hls_sched.specs.Seen.{Seen, turned, leapt}
use Rattle.hls_box.specs.Keys.{least_of}
use Rattle.hls_box.specs.Inside.Sound.{IsSound}
use Rattle.hls_box.proofs.LeastLaws.{least_same}
use Rattle.hls_edf.specs.declared.servers.Need.{Need}
use Rattle.hls_edf.specs.declared.servers.Need.TheVariants.{Budget, Soft}
use Rattle.hls_edf.specs.Choice.{server_in, amid_in, deadline_if, deadline_asking, first_or, choice_of}
use Rattle.hls_edf.specs.Changes.{charged_for, leap_of}
use Rattle.hls_edf.specs.Inside.Calm.{IsCalm, AreCalm, uses_up}
use Rattle.hls_edf.proofs.Candidates.{silent}
use Rattle.hls_edf.proofs.Calm.{calm_taken, kept_taken, some_seat}
use Rattle.hls_edf.proofs.Leaping.{charged_keys, now_leapt}

-- a leap notes whether it asks
leap_asked : (c : Server) (asks served : Bool) (now n : ℕ) → (leap_of c true asks served now n).asked ≡ asks
leap_asked c asks false now n = replenished-on all_parts c asks now
leap_asked c asks true now n = replenished-on all_parts c asks now

pub calm_leapt : (c after : Server) (taken asks served : Bool) (now n t : ℕ) → taken ≡ true
    → after ≡ leap_of c true asks served now n → (asks ≡ true → t < after.deadline) → IsCalm after taken asks t
calm_leapt c after taken asks served now n t is next ahead =
    calm_taken after taken asks t is (ap (λ (at : Server). at.asked) next ∙ leap_asked c asks served now n) ahead

-- rows of the book change no seat
pub calm_on : (until n : ℕ) (after : List Server) (s t : Seen) (choice : Option ℕ) → t ≡ leapt n choice s
    → AreCalm until after s.book s.mask → AreCalm until after t.book t.mask
calm_on until n after s t choice is calm =
    rw is (record {
      calm = λ slot at lt before.
          subst (λ (seat : Option Terms). IsCalm (server_in after slot) (is_some seat) (slot_asks s.mask slot) at)
          (sym (terms_at-same (leapt n choice s).book s.book slot refl)) (calm.calm slot at lt before);
    })

left_over : (budget n : ℕ) → (nat_lt 0 budget && nat_le budget n) ≡ false → (n < budget) ⊎ (budget ≡ 0)
left_over budget n more = elim (cases_lt n budget) [
  | inl less ↦ inl less
  | inr le ↦ elim (cases_eq budget 0) [
    | inl none ↦ inr none
    | inr some ↦
        let first : nat_lt 0 budget ≡ true = grind (arith, nat_tests, some) in
        let second : nat_le budget n ≡ true = grind (arith, nat_tests) in
        absurd (let both = rw (first, second) at more in cc)
  ]
]

not_used : (servers : List Server) (b : Ledger) (mask : ℕ) (to : Option ℕ) (n slot : ℕ)
    → uses_up servers b mask to n ≡ false → is_slot to slot ≡ true
    → (n < (amid_in servers b mask slot).budget) ⊎ ((amid_in servers b mask slot).budget ≡ 0)
not_used servers b mask None n slot more is = absurd cc
not_used servers b mask (Some at) n slot more is =
    subst (λ k. (n < (amid_in servers b mask k).budget) ⊎ ((amid_in servers b mask k).budget ≡ 0))
    (eqb-true at slot is) (left_over (amid_in servers b mask at).budget n more)

module _ (s : Seen) (choice : Option ℕ) (n : ℕ) (servers after : List Server) (to : Option ℕ) (until : ℕ)
    (seated : (slot : ℕ) → SlotAsks s.mask slot → terms_at s.book slot ≢ None)
    (filled : (slot : ℕ) → slot < 32 → server_in after slot ≡ leap_of (server_in servers slot)
    (is_some (terms_at s.book slot)) (slot_asks s.mask slot) (is_slot to slot) (now_of s.book) n)
    (calm : AreCalm until after s.book s.mask) (soon : now_of s.book + n < until)
  where
    seat_asking : (slot : ℕ) → slot_asks s.mask slot ≡ true → is_some (terms_at s.book slot) ≡ true
    seat_asking slot on = some_seat (terms_at s.book slot) (seated slot (eqb-true (bit_at s.mask slot) 1 on))

    after_is : (slot : ℕ) → slot < 32 → slot_asks s.mask slot ≡ true
        → server_in after slot ≡ charged_for (is_slot to slot) n (amid_in servers s.book s.mask slot)
    after_is slot lt on =
        filled slot lt
        ∙ ap (λ taken. leap_of (server_in servers slot) taken (slot_asks s.mask slot) (is_slot to slot)
        (now_of s.book) n) (seat_asking slot on)

    amid_after : (slot : ℕ) → slot < 32 → slot_asks s.mask slot ≡ true
        → amid_in after (leapt n choice s).book s.mask slot ≡ server_in after slot
    amid_after slot lt on =
        let here : IsCalm (server_in after slot) true (slot_asks s.mask slot) (now_of s.book + n) =
        subst (λ taken. IsCalm (server_in after slot) taken (slot_asks s.mask slot) (now_of s.book + n))
        (seat_asking slot on) (calm.calm slot (now_of s.book + n) lt soon) in
        ap (replenished all_parts (server_in after slot) (slot_asks s.mask slot)) (now_leapt s choice n)
        ∙ kept_taken (server_in after slot) (slot_asks s.mask slot) (now_of s.book + n) here

    charged_many : (slot : ℕ) → slot < 32 → slot_asks s.mask slot ≡ true
        → amid_in after (leapt n choice s).book s.mask slot
        ≡ charged_for (is_slot to slot) n (amid_in servers s.book s.mask slot)
    charged_many slot lt on = amid_after slot lt on ∙ after_is slot lt on

    key_same : uses_up servers s.book s.mask to n ≡ false → (need : Need) (slot : ℕ) → slot < 32
        → deadline_asking need after (leapt n choice s).book s.mask slot
        ≡ deadline_asking need servers s.book s.mask slot
    key_same more need slot lt = elim (cases_Bool (slot_asks s.mask slot)) [
      | inl on ↦
          ap (deadline_if need (amid_in after (leapt n choice s).book s.mask slot))
          (terms_at-same (leapt n choice s).book s.book slot refl)
          ∙ ap (λ (c : Server). deadline_if need c (terms_at s.book slot)) (amid_after slot lt on ∙ after_is slot lt on)
          ∙ charged_keys need (amid_in servers s.book s.mask slot) (terms_at s.book slot) (is_slot to slot) n
          (not_used servers s.book s.mask to n slot more)
      | inr off ↦ silent need after (leapt n choice s).book s.mask slot off
          ∙ sym (silent need servers s.book s.mask slot off)
    ]

    choice_same : uses_up servers s.book s.mask to n ≡ false
        → choice_of after (leapt n choice s).book s.mask ≡ choice_of servers s.book s.mask
    choice_same more =
        ap (λ urgent. first_or urgent (least_of (deadline_asking Soft after (leapt n choice s).book s.mask)))
        (least_same (deadline_asking Budget after (leapt n choice s).book s.mask)
        (deadline_asking Budget servers s.book s.mask) (key_same more Budget))
        ∙ ap (first_or (least_of (deadline_asking Budget servers s.book s.mask)))
        (least_same (deadline_asking Soft after (leapt n choice s).book s.mask)
        (deadline_asking Soft servers s.book s.mask) (key_same more Soft))

-- after many ticks the choice stays, where the next tick is calm and no budget was used up
pub choice_leapt : (kind : Kind) (s t : Seen) (servers after : List Server) (choice to : Option ℕ) (n until : ℕ)
    → IsSound kind s → t ≡ leapt n choice s
    → ((slot : ℕ) → slot < 32 → server_in after slot ≡ leap_of (server_in servers slot)
    (is_some (terms_at s.book slot)) (slot_asks s.mask slot) (is_slot to slot) (now_of s.book) n)
    → AreCalm until after s.book s.mask → uses_up servers s.book s.mask to n ≡ false → now_of t.book < until
    → choice_of after t.book t.mask ≡ choice_of servers s.book s.mask
choice_leapt kind s t servers after choice to n until sound is filled calm more soon =
    let next : now_of (leapt n choice s).book < until = rw is at soon in
    rw is (choice_same s choice n servers after to until sound.seated filled calm
    (rw (now_leapt s choice n) at next) more)

-- after many ticks each server is as before but for what was served, where the next tick is calm
pub amid_leapt : (kind : Kind) (s t : Seen) (servers after : List Server) (choice to : Option ℕ) (n until : ℕ)
    → IsSound kind s → t ≡ leapt n choice s
    → ((slot : ℕ) → slot < 32 → server_in after slot ≡ leap_of (server_in servers slot)
    (is_some (terms_at s.book slot)) (slot_asks s.mask slot) (is_slot to slot) (now_of s.book) n)
    → AreCalm until after s.book s.mask → now_of t.book < until
    → (slot : ℕ) → slot < 32 → slot_asks s.mask slot ≡ true
    → amid_in after t.book s.mask slot ≡ charged_for (is_slot to slot) n (amid_in servers s.book s.mask slot)
amid_leapt kind s t servers after choice to n until sound is filled calm soon =
    let next : now_of (leapt n choice s).book < until = rw is at soon in
    rw is (charged_many s choice n servers after to until sound.seated filled calm
    (rw (now_leapt s choice n) at next))

-- a tick is a leap of one
pub one_tick : (s : Seen) (choice : Option ℕ) → turned choice s ≡ leapt 1 choice s
one_tick s choice = refl
