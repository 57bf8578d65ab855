-- A slot that does not ask changes nothing of what a box comes to.
use Rattle.std.proofs.Common.{◌≡◌, ◌≢◌, ℕ, zero, suc, ◌<◌, ◌≤◌, List, Bool, false}
use Rattle.std.proofs.Common.{None, refl, sym, ap, ◌∙◌, arith, inl, inr, get_or-set_other}
use Rattle.std.specs.Prelude.{min, if◌then◌else◌, slice_set}
use Rattle.std.specs.Int.{bit_at}
use Rattle.std.proofs.lemmas.Bool.{cases_Bool, cases_eq, eqb-true}
use Rattle.hls_chron.specs.declared.plain.Terms.{Terms}
use Rattle.hls_chron.specs.Ledger.{Ledger, now_of}
use Rattle.hls_chron.specs.Seats.{SlotAsks, terms_at}
use Rattle.hls_kinds.specs.Asks.{slot_asks}
use Rattle.hls_book.specs.declared.server.Server.{Server}
use Rattle.hls_book.specs.Servers.{vacant}
use Rattle.hls_box.specs.Keys.{least_of}
use Rattle.hls_box.proofs.LeastLaws.{least_none, least_same}
use Rattle.hls_box.proofs.Sounds.{seat_other, leave_other}
use Rattle.hls_sched.specs.Seen.{Seen, seated, left}
use Rattle.hls_edf.specs.declared.choosing.Outlook.{Outlook}
use Rattle.hls_edf.specs.declared.servers.Need.{Need}
use Rattle.hls_edf.specs.declared.servers.Need.TheVariants.{Budget, Soft}
use Rattle.hls_edf.specs.Choice.{server_in, amid_in, deadline_if, deadline_asking, first_or, choice_of}
use Rattle.hls_edf.specs.Inside.Outlook.{IsOutlook, far, soonest_of}
use Rattle.hls_edf.proofs.Bits.{kept_bit, gone_bit, none_asks}
use Rattle.hls_edf.proofs.Candidates.{silent}
use Rattle.hls_edf.proofs.Outlooks.{soonest_none, soonest_more}

module _ (servers after : List Server) (b later : Ledger) (mask newer slot : ℕ)
    (now : now_of later ≡ now_of b)
    (servers_same : (k : ℕ) → k ≢ slot → server_in after k ≡ server_in servers k)
    (seats_same : (k : ℕ) → k ≢ slot → terms_at later k ≡ terms_at b k)
    (bits_same : (k : ℕ) → k < 32 → k ≢ slot → slot_asks newer k ≡ slot_asks mask k)
    (was_silent : slot_asks mask slot ≡ false) (is_silent : slot_asks newer slot ≡ false) where
  amid_same : (k : ℕ) → k < 32 → k ≢ slot → amid_in after later newer k ≡ amid_in servers b mask k
  amid_same k lt other = rw (servers_same k other, bits_same k lt other, now) refl

  keys_same : (need : Need) (k : ℕ) → k < 32
      → deadline_asking need after later newer k ≡ deadline_asking need servers b mask k
  keys_same need k lt = elim (cases_eq k slot) [
    | inl is ↦
        silent need after later newer k (ap (slot_asks newer) is ∙ is_silent)
        ∙ sym (silent need servers b mask k (ap (slot_asks mask) is ∙ was_silent))
    | inr other ↦
        ap (deadline_if need (amid_in after later newer k)) (seats_same k other)
        ∙ ap (λ (c : Server). deadline_if need c (terms_at b k)) (amid_same k lt other)
  ]

  choice_same : choice_of after later newer ≡ choice_of servers b mask
  choice_same =
      ap (λ urgent. first_or urgent (least_of (deadline_asking Soft after later newer)))
      (least_same (deadline_asking Budget after later newer) (deadline_asking Budget servers b mask)
      (keys_same Budget))
      ∙ ap (first_or (least_of (deadline_asking Budget servers b mask)))
      (least_same (deadline_asking Soft after later newer) (deadline_asking Soft servers b mask) (keys_same Soft))

  step_same : (asks before : Bool) (x y d e : ℕ) → asks ≡ before → x ≡ y → d ≡ e
      → (if asks then min x d else x) ≡ (if before then min y e else y)
  step_same asks before x y d e first second third = rw (first, second, third) refl

  soonest_same : (n : ℕ) → n ≤ 32 → soonest_of after later newer n ≡ soonest_of servers b mask n
  soonest_same zero le = soonest_none after later newer ∙ sym (soonest_none servers b mask)
  soonest_same (suc n) le =
      let before = soonest_same n (omega (arith, le)) in
      soonest_more after later newer n ∙ elim (cases_eq n slot) [
        | inl is ↦
            let off : slot_asks newer n ≡ false = ap (slot_asks newer) is ∙ is_silent in
            let was : slot_asks mask n ≡ false = ap (slot_asks mask) is ∙ was_silent in
            rw off (before ∙ sym (soonest_more servers b mask n ∙ rw was refl))
        | inr other ↦
            let lt : n < 32 = omega (arith, le) in
            step_same (slot_asks newer n) (slot_asks mask n) (soonest_of after later newer n)
            (soonest_of servers b mask n) (amid_in after later newer n).deadline (amid_in servers b mask n).deadline
            (bits_same n lt other) before (ap (λ (c : Server). c.deadline) (amid_same n lt other))
            ∙ sym (soonest_more servers b mask n)
      ]

  pub outlook_same : (o : Outlook) → IsOutlook o servers b mask → IsOutlook o after later newer
  outlook_same o was = record {
    chosen = was.chosen ∙ sym choice_same;
    soonest = λ some. was.soonest some ∙ sym (soonest_same 32 (omega arith));
    funded = record { none = λ k lt off. keys_same Budget k lt ∙ was.funded.none k lt off };
  }

pub off_bit : (mask slot : ℕ) → ¬ SlotAsks mask slot → slot_asks mask slot ≡ false
off_bit mask slot silent = elim (cases_Bool (slot_asks mask slot)) [
  | inl on ↦ absurd (silent (eqb-true (bit_at mask slot) 1 on))
  | inr off ↦ off
]

-- a seat that is taken does not ask
pub outlook_seated : (o : Outlook) (s t : Seen) (servers : List Server) (slot : ℕ) (terms : Terms) (server : Server)
    → t ≡ seated slot terms s → slot_asks s.mask slot ≡ false → IsOutlook o servers s.book s.mask
    → IsOutlook o (slice_set servers slot server) t.book t.mask
outlook_seated o s t servers slot terms server is off was =
    rw is (outlook_same servers (slice_set servers slot server) s.book (seated slot terms s).book s.mask s.mask slot
    refl
    (λ k other. get_or-set_other servers slot k server vacant other)
    (λ k other. seat_other s.book slot k terms (λ e. other (sym e)))
    (λ k lt other. refl) off off o was)

-- nor one that is left, where it did not before
pub outlook_left : (o : Outlook) (s t : Seen) (servers : List Server) (slot : ℕ) (server : Server) → slot < 32
    → t ≡ left slot s → slot_asks s.mask slot ≡ false → IsOutlook o servers s.book s.mask
    → IsOutlook o (slice_set servers slot server) t.book t.mask
outlook_left o s t servers slot server within is off was =
    rw is (outlook_same servers (slice_set servers slot server) s.book (left slot s).book s.mask (left slot s).mask slot
    refl
    (λ k other. get_or-set_other servers slot k server vacant other)
    (λ k other. leave_other s.book slot k (λ e. other (sym e)))
    (λ k lt other. kept_bit s.mask slot k within lt other) off (gone_bit s.mask slot within) o was)

-- where nobody asks
soonest_silent : (servers : List Server) (b : Ledger) (n : ℕ) → soonest_of servers b 0 n ≡ far
soonest_silent servers b zero = soonest_none servers b 0
soonest_silent servers b (suc n) = soonest_more servers b 0 n ∙ rw (none_asks n) (soonest_silent servers b n)

least_silent : (need : Need) (servers : List Server) (b : Ledger) → least_of (deadline_asking need servers b 0) ≡ None
least_silent need servers b =
    least_none (deadline_asking need servers b 0) (λ slot. silent need servers b 0 slot (none_asks slot))

pub outlook_silent : (servers : List Server) (b : Ledger) (mask : ℕ) → mask ≡ 0
    → IsOutlook (record { best = None; soonest = far; funded = 0 }) servers b mask
outlook_silent servers b mask is = rw is (record {
  chosen = sym (ap (λ urgent. first_or urgent (least_of (deadline_asking Soft servers b 0)))
      (least_silent Budget servers b) ∙ least_silent Soft servers b);
  soonest = λ some. sym (soonest_silent servers b 32);
  funded = record { none = λ slot lt off. silent Budget servers b 0 slot (none_asks slot) };
})
