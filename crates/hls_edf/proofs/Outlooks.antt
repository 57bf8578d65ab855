-- What is known of the present tick, and what ticks leave of it.
use Rattle.std.proofs.Common.{◌≡◌, ℕ, zero, suc, ◌+◌, ◌-◌, ◌^◌, ◌<◌, ◌≤◌, List, Option, Some, None, Bool, true, false}
use Rattle.std.proofs.Common.{refl, sym, ap, ◌∙◌, arith, inl, inr, add-one}
use Rattle.std.specs.Prelude.{min, nat_lt, ◌&&◌, if◌then◌else◌}
use Rattle.std.specs.Int.{bit_at}
use Rattle.std.proofs.lemmas.Bool.{cases_Bool, cases_eq, cases_lt, eqb-true, eq-eqb}
use Rattle.std.proofs.lemmas.Bool.Decides.{nat_tests}
use Rattle.hls_chron.specs.declared.plain.Terms.{Terms}
use Rattle.hls_chron.specs.Ledger.{Ledger, now_of}
use Rattle.hls_chron.specs.Seats.{terms_at, is_slot}
use Rattle.hls_chron.specs.Parts.{all_parts}
use Rattle.hls_kinds.specs.Asks.{slot_asks, with_slot}
use Rattle.hls_kinds.specs.Stands.{always}
use Rattle.hls_sched.proofs.Masks.{asks_with_same, still_asks_with}
use Rattle.hls_book.specs.declared.server.Server.{Server}
use Rattle.hls_book.specs.Servers.{replenished}
use Rattle.hls_book.proofs.Replenishing.{replenished-on}
use Rattle.hls_box.specs.Keys.{least_of}
use Rattle.hls_box.proofs.LeastLaws.{least_same, least_none}
use Rattle.hls_edf.specs.declared.choosing.Outlook.{Outlook}
use Rattle.hls_edf.specs.declared.servers.Need.{Need}
use Rattle.hls_edf.specs.declared.servers.Need.TheVariants.{Budget, Soft}
use Rattle.hls_edf.specs.Choice.{server_in, amid_in, soft_in, deadline_if, deadline_asking, choice_of}
use Rattle.hls_edf.specs.Changes.{charged_for}
use Rattle.hls_edf.specs.Ahead.{ahead_of}
use Rattle.hls_edf.specs.Inside.Outlook.{far, soonest_of, by_budget, with_funded, HasAll, IsHard, IsOutlook}
use Rattle.hls_edf.proofs.AheadLaws.{ahead_none, ahead_more}
use Rattle.hls_edf.proofs.Candidates.{silent}

pub soonest_none : (servers : List Server) (b : Ledger) (mask : ℕ) → soonest_of servers b mask 0 ≡ far
unfolding soonest_of
soonest_none servers b mask = refl

pub soonest_more : (servers : List Server) (b : Ledger) (mask n : ℕ)
    → soonest_of servers b mask (suc n)
    ≡ (if slot_asks mask n then min (soonest_of servers b mask n) (amid_in servers b mask n).deadline
    else soonest_of servers b mask n)
unfolding soonest_of
soonest_more servers b mask n = refl

-- one slot more that asks
pub soonest_step : (servers : List Server) (b : Ledger) (mask n least next : ℕ) → slot_asks mask n ≡ true
    → least ≡ soonest_of servers b mask n → next ≡ min least (amid_in servers b mask n).deadline
    → next ≡ soonest_of servers b mask (n + 1)
soonest_step servers b mask n least next on before is =
    is ∙ ap (λ v. min v (amid_in servers b mask n).deadline) before
    ∙ sym (ap (soonest_of servers b mask) (add-one n) ∙ soonest_more servers b mask n ∙ rw on refl)

-- slots that do not ask change nothing
soonest_between : (servers : List Server) (b : Ledger) (mask n more : ℕ)
    → ((slot : ℕ) → n ≤ slot → slot < n + more → slot_asks mask slot ≡ false)
    → soonest_of servers b mask (n + more) ≡ soonest_of servers b mask n
soonest_between servers b mask n zero off =
    let same : n + 0 ≡ n = omega arith in ap (soonest_of servers b mask) same
soonest_between servers b mask n (suc more) off =
    let next : n + suc more ≡ suc (n + more) = omega arith in
    let silent : slot_asks mask (n + more) ≡ false = off (n + more) (omega arith) (omega arith) in
    ap (soonest_of servers b mask) next ∙ soonest_more servers b mask (n + more) ∙ rw silent
    (soonest_between servers b mask n more (λ slot le lt. off slot le (omega (arith, lt))))

pub soonest_up : (servers : List Server) (b : Ledger) (mask n next : ℕ) → n ≤ next
    → ((slot : ℕ) → n ≤ slot → slot < next → slot_asks mask slot ≡ false)
    → soonest_of servers b mask next ≡ soonest_of servers b mask n
soonest_up servers b mask n next le off =
    let sum : n + (next - n) ≡ next = omega (arith, le) in
    ap (soonest_of servers b mask) (sym sum)
    ∙ soonest_between servers b mask n (next - n) (λ slot from lt. off slot from (omega (arith, le, lt)))

-- the ticks to it
far_ahead : (now : ℕ) → now < 2 ^ 32 → always ≡ min always (far - now)
far_ahead now lt = omega (arith, lt)

min_ahead : (soonest d now : ℕ) → min (min always (soonest - now)) (d - now) ≡ min always (min soonest d - now)
min_ahead soonest d now = omega arith

ahead_step_by : (asks : Bool) (x soonest d now : ℕ) → x ≡ min always (soonest - now)
    → (if asks then min x (d - now) else x) ≡ min always ((if asks then min soonest d else soonest) - now)
ahead_step_by true x soonest d now is = ap (λ v. min v (d - now)) is ∙ min_ahead soonest d now
ahead_step_by false x soonest d now is = is

pub ahead_by : (servers : List Server) (b : Ledger) (mask n : ℕ) → now_of b < 2 ^ 32
    → ahead_of servers b mask n ≡ min always (soonest_of servers b mask n - now_of b)
ahead_by servers b mask zero lt =
    ahead_none servers b mask ∙ rw (soonest_none servers b mask) (far_ahead (now_of b) lt)
ahead_by servers b mask (suc n) lt =
    ahead_more servers b mask n
    ∙ ahead_step_by (slot_asks mask n) (ahead_of servers b mask n) (soonest_of servers b mask n)
    (amid_in servers b mask n).deadline (now_of b) (ahead_by servers b mask n lt)
    ∙ sym (ap (λ v. min always (v - now_of b)) (soonest_more servers b mask n))

-- all slots that ask
pub all_asking : (need : Need) (servers : List Server) (b : Ledger) (mask : ℕ) → HasAll mask need servers b mask
all_asking need servers b mask = record { none = λ slot lt off. silent need servers b mask slot off }

-- no seat is soft
never_soft : (asked : Bool) (seat : Option Terms) (deadline : ℕ) → soft_in seat ≡ false
    → (if asked && soft_in seat then Some deadline else None) ≡ None
never_soft true seat deadline hard = rw hard refl
never_soft false seat deadline hard = refl

pub none_soft : (soft : Bool) (servers : List Server) (b : Ledger) (mask : ℕ) → IsHard soft b → soft ≡ false
    → least_of (deadline_asking Soft servers b mask) ≡ None
none_soft soft servers b mask are is =
    least_same (deadline_asking Soft servers b mask) (λ slot. None)
    (λ slot lt. never_soft (amid_in servers b mask slot).asked (terms_at b slot)
    (amid_in servers b mask slot).deadline (are.hard is slot lt))
    ∙ least_none (λ slot. None) (λ slot. refl)

-- one slot more with budget, or without
funded_one : (keys : ℕ → Option ℕ) (funded n : ℕ)
    → ((k : ℕ) → k < n → slot_asks funded k ≡ false → keys k ≡ None)
    → (k : ℕ) → k < n + 1 → slot_asks (with_slot n funded) k ≡ false → keys k ≡ None
funded_one keys funded n before k lt off = elim (cases_eq k n) [
  | inl is ↦
      let on : slot_asks (with_slot n funded) n ≡ true =
      eq-eqb (bit_at (with_slot n funded) n) 1 (asks_with_same funded n) in
      let at : slot_asks (with_slot n funded) k ≡ true = ap (slot_asks (with_slot n funded)) is ∙ on in
      absurd (let both = sym off ∙ at in cc)
  | inr other ↦ before k (omega (arith, lt, other)) (elim (cases_Bool (slot_asks funded k)) [
    | inl on ↦
        let still : slot_asks (with_slot n funded) k ≡ true =
        eq-eqb (bit_at (with_slot n funded) k) 1
        (still_asks_with funded n k (eqb-true (bit_at funded k) 1 on)) in
        absurd (let both = sym off ∙ still in cc)
    | inr none ↦ none
  ])
]

unfunded_one : (keys : ℕ → Option ℕ) (funded n : ℕ) → keys n ≡ None
    → ((k : ℕ) → k < n → slot_asks funded k ≡ false → keys k ≡ None)
    → (k : ℕ) → k < n + 1 → slot_asks funded k ≡ false → keys k ≡ None
unfunded_one keys funded n none before k lt off = elim (cases_eq k n) [
  | inl is ↦ ap keys is ∙ none
  | inr other ↦ before k (omega (arith, lt, other)) off
]

pub funded_more : (keys : ℕ → Option ℕ) (funded n : ℕ) (has : Bool) → (has ≡ false → keys n ≡ None)
    → ((k : ℕ) → k < n → slot_asks funded k ≡ false → keys k ≡ None)
    → (k : ℕ) → k < n + 1 → slot_asks (with_funded n has funded) k ≡ false → keys k ≡ None
funded_more keys funded n true none before = funded_one keys funded n before
funded_more keys funded n false none before = unfunded_one keys funded n (none refl) before

-- the key of one that asks
asking_key : (asks : Bool) (server : Server) (now : ℕ) (seat : Option Terms) → asks ≡ true
    → deadline_if Budget (replenished all_parts server asks now) seat
    ≡ by_budget (replenished all_parts server true now)
asking_key true server now seat on =
    let asked : (replenished all_parts server true now).asked ≡ true = replenished-on all_parts server true now in
    rw asked refl
asking_key false server now seat on = absurd cc

pub key_by_budget : (servers : List Server) (b : Ledger) (mask slot : ℕ) → slot_asks mask slot ≡ true
    → by_budget (replenished all_parts (server_in servers slot) true (now_of b))
    ≡ deadline_asking Budget servers b mask slot
key_by_budget servers b mask slot on =
    sym (asking_key (slot_asks mask slot) (server_in servers slot) (now_of b) (terms_at b slot) on)

no_budget : (has : Bool) (deadline : ℕ) → has ≡ false → (if has then Some deadline else None) ≡ None
no_budget false deadline is = refl
no_budget true deadline is = absurd cc

pub key_unfunded : (servers : List Server) (b : Ledger) (mask slot : ℕ) → slot_asks mask slot ≡ true
    → nat_lt 0 (replenished all_parts (server_in servers slot) true (now_of b)).budget ≡ false
    → deadline_asking Budget servers b mask slot ≡ None
key_unfunded servers b mask slot on none =
    sym (key_by_budget servers b mask slot on)
    ∙ no_budget (nat_lt 0 (replenished all_parts (server_in servers slot) true (now_of b)).budget)
    (replenished all_parts (server_in servers slot) true (now_of b)).deadline none

-- up to the next slot that asks
pub funded_up : (keys : ℕ → Option ℕ) (funded n next : ℕ)
    → ((slot : ℕ) → n ≤ slot → slot < next → keys slot ≡ None)
    → ((k : ℕ) → k < n → slot_asks funded k ≡ false → keys k ≡ None)
    → (k : ℕ) → k < next → slot_asks funded k ≡ false → keys k ≡ None
funded_up keys funded n next silent before k lt off = elim (cases_lt k n) [
  | inl less ↦ before k less off
  | inr le ↦ silent k le lt
]

-- ticks that served a slot, or none
charged_deadline : (served : Bool) (n : ℕ) (c : Server) → (charged_for served n c).deadline ≡ c.deadline
charged_deadline true n c = refl
charged_deadline false n c = refl

less_budget : (asked : Bool) (budget n deadline : ℕ)
    → (if asked && nat_lt 0 budget then Some deadline else None) ≡ None
    → (if asked && nat_lt 0 (budget - n) then Some deadline else None) ≡ None
less_budget false budget n deadline none = refl
less_budget true budget n deadline none = elim (cases_eq budget 0) [
  | inl is ↦
      let no : nat_lt 0 (budget - n) ≡ false = grind (arith, nat_tests, is) in rw no refl
  | inr some ↦
      let yes : nat_lt 0 budget ≡ true = grind (arith, nat_tests, some) in
      absurd (let e = rw yes at none in cc)
]

charged_none : (served : Bool) (n : ℕ) (c : Server) (seat : Option Terms) → deadline_if Budget c seat ≡ None
    → deadline_if Budget (charged_for served n c) seat ≡ None
charged_none true n c seat none = less_budget c.asked c.budget n c.deadline none
charged_none false n c seat none = none

module _ (servers after : List Server) (b later : Ledger) (mask n : ℕ) (to : Option ℕ)
    (seats : (slot : ℕ) → terms_at later slot ≡ terms_at b slot)
    (amid : (slot : ℕ) → slot < 32 → slot_asks mask slot ≡ true
    → amid_in after later mask slot ≡ charged_for (is_slot to slot) n (amid_in servers b mask slot)) where
  same_if : (asks : Bool) (x y d e : ℕ) → x ≡ y → (asks ≡ true → d ≡ e)
      → (if asks then min x d else x) ≡ (if asks then min y e else y)
  same_if true x y d e before here = ap (λ v. min v d) before ∙ ap (min y) (here refl)
  same_if false x y d e before here = before

  soonest_kept : (k : ℕ) → k ≤ 32 → soonest_of after later mask k ≡ soonest_of servers b mask k
  soonest_kept zero le = soonest_none after later mask ∙ sym (soonest_none servers b mask)
  soonest_kept (suc k) le =
      soonest_more after later mask k
      ∙ same_if (slot_asks mask k) (soonest_of after later mask k) (soonest_of servers b mask k)
      (amid_in after later mask k).deadline (amid_in servers b mask k).deadline
      (soonest_kept k (omega (arith, le)))
      (λ on. ap (λ (c : Server). c.deadline) (amid k (omega (arith, le)) on)
      ∙ charged_deadline (is_slot to k) n (amid_in servers b mask k))
      ∙ sym (soonest_more servers b mask k)

  none_kept : (slot : ℕ) → slot < 32 → deadline_asking Budget servers b mask slot ≡ None
      → deadline_asking Budget after later mask slot ≡ None
  none_kept slot lt none = elim (cases_Bool (slot_asks mask slot)) [
    | inl on ↦
        ap (deadline_if Budget (amid_in after later mask slot)) (seats slot)
        ∙ ap (λ (c : Server). deadline_if Budget c (terms_at b slot)) (amid slot lt on)
        ∙ charged_none (is_slot to slot) n (amid_in servers b mask slot) (terms_at b slot) none
    | inr off ↦ silent Budget after later mask slot off
  ]

  pub funded_kept : (among : ℕ) → HasAll among Budget servers b mask → HasAll among Budget after later mask
  funded_kept among all = record { none = λ slot lt off. none_kept slot lt (all.none slot lt off) }

  pub outlook_on : (o : Outlook) (best : Option ℕ) → best ≡ choice_of after later mask
      → IsOutlook o servers b mask → IsOutlook (record o { best = best }) after later mask
  outlook_on o best chosen is = record {
    chosen = chosen;
    soonest = λ some. is.soonest some ∙ sym (soonest_kept 32 (omega arith));
    funded = funded_kept o.funded is.funded;
  }
