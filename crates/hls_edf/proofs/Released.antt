-- A slot that ceases to ask, and is not the choice, leaves the choice.
use Rattle.std.proofs.Common.{◌≡◌, ◌≢◌, ℕ, zero, suc, ◌<◌, ◌≤◌, List, Option, Some, None, Bool, true, false}
use Rattle.std.proofs.Common.{refl, sym, ap, ◌∙◌, arith, inl, inr}
use Rattle.std.specs.Prelude.{nat_le, ◌⊎◌, IfSome, if◌then◌else◌, unwrap_or}
use Rattle.std.specs.Option.{option_map}
use Rattle.std.proofs.lemmas.Bool.{cases_eq, eqb-false, leb-true, leb-false}
use Rattle.std.proofs.lemmas.Bool.Decides.{nat_tests}
use Rattle.hls_chron.specs.Ledger.{Ledger, now_of}
use Rattle.hls_chron.specs.Parts.{all_parts}
use Rattle.hls_chron.specs.Seats.{terms_at, is_slot}
use Rattle.hls_kinds.specs.Asks.{slot_asks, without_slot}
use Rattle.hls_book.specs.declared.server.Server.{Server}
use Rattle.hls_book.specs.Servers.{replenished}
use Rattle.hls_box.specs.declared.least.SlotKey.{SlotKey}
use Rattle.hls_box.specs.Keys.{better_of, best_below, least_of}
use Rattle.hls_edf.specs.declared.servers.Need.{Need}
use Rattle.hls_edf.specs.declared.servers.Need.TheVariants.{Budget, Soft}
use Rattle.hls_edf.specs.Choice.{server_in, deadline_if, deadline_asking, first_or, choice_of}
use Rattle.hls_edf.specs.Inside.Outlook.{HasAll}
use Rattle.hls_edf.proofs.Bits.{kept_bit, gone_bit}
use Rattle.hls_edf.proofs.Candidates.{silent}

-- the best is the slot, and without it none is better
pub record Beaten (slot : ℕ) (best after : Option SlotKey) : Type 0 where
  pub key : ℕ
  pub is : best ≡ Some (record { slot = slot; key = key })
  pub behind : IfSome after (λ held. key ≤ held.key)

-- without the slot the best is the same, or the slot was the best
abbrev pub Without : (slot : ℕ) → (best after : Option SlotKey) → Type 0
Without slot best after = (after ≡ best) ⊎ Beaten slot best after

abbrev key_at_slot : (slot key : ℕ) → Option SlotKey
key_at_slot slot key = Some (record { slot = slot; key = key })

abbrev key_in : Option SlotKey → ℕ
key_in None = 0
key_in (Some held) = held.key

lower : (after : Option SlotKey) (key least : ℕ) → key ≤ least → IfSome after (λ held. least ≤ held.key)
    → IfSome after (λ held. key ≤ held.key)
lower None key least le behind = tt
lower (Some held) key least le behind = omega (arith, le, behind)

-- the slot itself
gone_by : (slot n : ℕ) (held : SlotKey) (after : Option SlotKey) (key : ℕ) → n ≡ slot
    → Without slot (Some held) after → (stays : Bool) → nat_le held.key key ≡ stays
    → Without slot (if stays then Some held else Some (record { slot = n; key = key })) after
gone_by slot n held after key is was true test = was
gone_by slot n held after key is was false test =
    let here : key_at_slot n key ≡ key_at_slot slot key = ap (λ s. key_at_slot s key) is in
    let less = leb-false held.key key test in
    elim was [
      | inl same ↦ inr (record { key = key; is = here; behind = rw same (omega (arith, less)) })
      | inr beaten ↦
          let its : held.key ≡ beaten.key = ap key_in beaten.is in
          inr (record {
            key = key;
            is = here;
            behind = lower after key beaten.key (omega (arith, less, its)) beaten.behind;
          })
    ]

without_gone : (slot n : ℕ) (best after : Option SlotKey) (key : Option ℕ) → n ≡ slot → Without slot best after
    → Without slot (better_of best n key) after
without_gone slot n best after None is was = was
without_gone slot n None after (Some key) is was = elim was [
  | inl same ↦ inr (record {
    key = key;
    is = ap (λ s. key_at_slot s key) is;
    behind = rw same tt;
  })
  | inr beaten ↦ let none = beaten.is in absurd cc
]
without_gone slot n (Some held) after (Some key) is was =
    gone_by slot n held after key is was (nat_le held.key key) refl

-- another slot
either_behind : (least n : ℕ) (held : SlotKey) (key : ℕ) (stays : Bool) → least ≤ held.key → least ≤ key
    → IfSome (if stays then Some held else Some (record { slot = n; key = key })) (λ held. least ≤ held.key)
either_behind least n held key true first second = first
either_behind least n held key false first second = second

beaten_more : (slot n least : ℕ) (after : Option SlotKey) (key : ℕ) → IfSome after (λ held. least ≤ held.key)
    → (stays : Bool) → nat_le least key ≡ stays
    → Without slot (if stays then Some (record { slot = slot; key = least }) else Some (record { slot = n; key = key }))
    (better_of after n (Some key))
beaten_more slot n least None key behind true test =
    inr (record { key = least; is = refl; behind = leb-true least key test })
beaten_more slot n least None key behind false test = inl refl
beaten_more slot n least (Some held) key behind true test =
    inr (record {
      key = least;
      is = refl;
      behind = either_behind least n held key (nat_le held.key key) behind (leb-true least key test);
    })
beaten_more slot n least (Some held) key behind false test =
    let less = leb-false least key test in
    let no : nat_le held.key key ≡ false = grind (arith, nat_tests) in
    inl (rw no refl)

without_other : (slot n : ℕ) (best after : Option SlotKey) (key : Option ℕ) → Without slot best after
    → Without slot (better_of best n key) (better_of after n key)
without_other slot n best after None was = was
without_other slot n best after (Some key) was = elim was [
  | inl same ↦ inl (ap (λ at. better_of at n (Some key)) same)
  | inr beaten ↦
      rw (beaten.is) (beaten_more slot n beaten.key after key beaten.behind (nat_le beaten.key key) refl)
]

-- slot by slot
module _ (keys later : ℕ → Option ℕ) (slot : ℕ) (same : (k : ℕ) → k < 32 → k ≢ slot → later k ≡ keys k)
    (gone : later slot ≡ None) where
  pub without_below : (n : ℕ) → n ≤ 32 → Without slot (best_below keys n) (best_below later n)
  unfolding best_below
  without_below zero le = inl refl
  without_below (suc n) le = elim (cases_eq n slot) [
    | inl is ↦
        let none : later n ≡ None = ap later is ∙ gone in
        rw none (without_gone slot n (best_below keys n) (best_below later n) (keys n) is
        (without_below n (omega (arith, le))))
    | inr other ↦
        let on : later n ≡ keys n = same n (omega (arith, le)) other in
        rw on (without_other slot n (best_below keys n) (best_below later n) (keys n)
        (without_below n (omega (arith, le))))
  ]

  pub least_without : least_of keys ≢ Some slot → least_of later ≡ least_of keys
  least_without other = elim (without_below 32 (omega arith)) [
    | inl is ↦ ap (option_map (λ (best : SlotKey). best.slot)) is
    | inr beaten ↦ absurd (other (ap (option_map (λ (best : SlotKey). best.slot)) beaten.is))
  ]

-- the choice
not_slot : (to : Option ℕ) (slot : ℕ) → is_slot to slot ≡ false → to ≢ Some slot
not_slot None slot miss = λ e. cc
not_slot (Some at) slot miss = λ e. eqb-false at slot miss (ap (λ to. unwrap_or to 0) e)

first_kept : (urgent urgent_later soft soft_later : Option ℕ) (slot : ℕ)
    → (urgent ≢ Some slot → urgent_later ≡ urgent) → (soft ≢ Some slot → soft_later ≡ soft)
    → is_slot (first_or urgent soft) slot ≡ false → first_or urgent_later soft_later ≡ first_or urgent soft
first_kept (Some at) urgent_later soft soft_later slot same same_soft miss =
    rw (same (not_slot (Some at) slot miss)) refl
first_kept None urgent_later soft soft_later slot same same_soft miss =
    rw (same (not_slot None slot refl), same_soft (not_slot soft slot miss)) refl

pub choice_released : (servers : List Server) (b : Ledger) (mask slot : ℕ) (best : Option ℕ) → slot < 32
    → best ≡ choice_of servers b mask → is_slot best slot ≡ false
    → best ≡ choice_of servers b (without_slot slot mask)
choice_released servers b mask slot best lt chosen miss =
    let later = without_slot slot mask in
    let least = λ (need : Need).
    least_without (deadline_asking need servers b mask) (deadline_asking need servers b later) slot
    (λ k within other. ap (λ asks. deadline_if need (replenished all_parts (server_in servers k) asks (now_of b))
    (terms_at b k)) (kept_bit mask slot k lt within other))
    (silent need servers b later slot (gone_bit mask slot lt)) in
    chosen ∙ sym (first_kept (least_of (deadline_asking Budget servers b mask))
    (least_of (deadline_asking Budget servers b later)) (least_of (deadline_asking Soft servers b mask))
    (least_of (deadline_asking Soft servers b later)) slot (least Budget) (least Soft)
    (sym (ap (λ at. is_slot at slot) chosen) ∙ miss))

-- who may have budget
pub funded_released : (servers : List Server) (b : Ledger) (mask slot among : ℕ) → slot < 32
    → HasAll among Budget servers b mask → HasAll among Budget servers b (without_slot slot mask)
funded_released servers b mask slot among lt all =
    let later = without_slot slot mask in
    record {
      none = λ k within off. elim (cases_eq k slot) [
        | inl is ↦ silent Budget servers b later k (ap (slot_asks later) is ∙ gone_bit mask slot lt)
        | inr other ↦
            ap (λ asks. deadline_if Budget (replenished all_parts (server_in servers k) asks (now_of b))
            (terms_at b k)) (kept_bit mask slot k lt within other)
            ∙ all.none k within off
      ];
    }
