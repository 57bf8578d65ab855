-- Virtual time, finish tags and start tags, from tick to tick.
use Rattle.std.proofs.Common.{◌≡◌, ℕ, ◌+◌, ◌*◌, ◌-◌, ◌<◌, ◌≤◌, suc, refl, sym, arith, ap, ◌∙◌, inl}
use Rattle.std.proofs.Common.{inr}
use Rattle.std.proofs.Common.{Bool, true, false, add-one}
use Rattle.std.specs.Prelude.{Some, None, max, is_some, not, ◌&&◌, if◌then◌else◌}
use Rattle.std.proofs.lemmas.Bool.{cases_eq}
use Rattle.hls_chron.specs.declared.plain.Terms.TheVariants as terms
use Rattle.hls_chron.specs.Ledger.{Ledger, now_of, row_at, before}
use Rattle.hls_chron.specs.Seats.{asked, served}
use Rattle.hls_chron.specs.Ticks.{one_if, count}
use Rattle.hls_chron.proofs.CountLaws.{count-none, count-push}
use Rattle.hls_kinds.specs.declared.tags.Share.{Share}
use Rattle.hls_kinds.specs.declared.tenant.Tenant.{Tenant}
use Rattle.hls_kinds.specs.declared.tenant.Tenant.TheVariants.{Vacant, Sits, Left}
use Rattle.hls_kinds.specs.Ticks.{last_of, next_or}
use Rattle.hls_kinds.specs.Tenants.{tenant_then}
use Rattle.hls_kinds.specs.Turns.{turn_goes_on}
use Rattle.hls_kinds.specs.Tags.{begins_turn, tag_step, share_in, slot_or, tag_served, time_by, finish_after}
use Rattle.hls_kinds.specs.Tags.{finish_by}
use Rattle.hls_kinds.specs.Tags.{asking_since, start_of, start_tag}
use Rattle.hls_kinds.proofs.TickLaws.{after_last-le}
use Rattle.hls_kinds.proofs.TagLaws.{since-then, start_tag-is}
use Rattle.hls_book.specs.ShareBook.{KeepsSittings}

-- the last tick of a test, by whether one more tick is among those of the test
last_suc : (p : ℕ → Bool) (i n : ℕ) (hit : Bool) → p (i + n) ≡ hit
    → last_of p i (suc n) ≡ (if hit then Some (i + n) else last_of p i n)
unfolding last_of
last_suc p i n hit is = rw is refl

last_none : (p : ℕ → Bool) (i : ℕ) → last_of p i 0 ≡ None
unfolding last_of
last_none p i = refl

pub last-none-at : (p : ℕ → Bool) (i t : ℕ) → i ≡ t → last_of p i (t - i) ≡ None
last-none-at p i t e = let z : t - i ≡ 0 = omega arith in rw z (last_none p i)

pub last-here-at : (p : ℕ → Bool) (i t : ℕ) → i ≤ t → p t ≡ true → last_of p i (suc t - i) ≡ Some t
last-here-at p i t le is =
    let e : suc t - i ≡ suc (t - i) = omega arith in
    let f : i + (t - i) ≡ t = omega arith in
    ap (last_of p i) e ∙ last_suc p i (t - i) true (ap p f ∙ is) ∙ ap (λ n. Some n) f

pub last-not-at : (p : ℕ → Bool) (i t : ℕ) → i ≤ t → p t ≡ false
    → last_of p i (suc t - i) ≡ last_of p i (t - i)
last-not-at p i t le miss =
    let e : suc t - i ≡ suc (t - i) = omega arith in
    let f : i + (t - i) ≡ t = omega arith in
    ap (last_of p i) e ∙ last_suc p i (t - i) false (ap p f ∙ miss)

count_none_at : (p : ℕ → Bool) (i t : ℕ) → i ≡ t → count p i (t - i) ≡ 0
count_none_at p i t e = let z : t - i ≡ 0 = omega arith in ap (count p i) z ∙ count-none p i

count_more_at : (p : ℕ → Bool) (i t : ℕ) → i ≤ t → count p i (suc t - i) ≡ count p i (t - i) + one_if (p t)
count_more_at p i t le =
    let e : suc t - i ≡ suc (t - i) = omega arith in
    let f : i + (t - i) ≡ t = omega arith in
    ap (count p i) e ∙ count-push p i (t - i) ∙ ap (λ n. count p i (t - i) + one_if (p n)) f

-- of a book, by tick: the virtual time, and the share and the finish tag of a slot
abbrev pub v_of : (quantum : ℕ) → Ledger → ℕ → ℕ
v_of quantum b t = time_by quantum b (start_tag quantum b) t

abbrev pub share_at : Ledger → (t slot : ℕ) → Share
share_at b t slot = share_in (tenant_then b slot t)

abbrev pub f_of : (quantum : ℕ) → Ledger → (t slot : ℕ) → ℕ
f_of quantum b t slot = finish_by quantum b (start_tag quantum b) (share_at b t slot) slot t

-- the virtual time
pub v-first : (quantum : ℕ) (b : Ledger) → v_of quantum b b.start ≡ 0
v-first quantum b = ap (tag_served b (start_tag quantum b)) (last-none-at (begins_turn quantum b) b.start b.start refl)

v_stays : (quantum : ℕ) (b : Ledger) (t : ℕ) → b.start ≤ t → begins_turn quantum b t ≡ false
    → v_of quantum b (suc t) ≡ v_of quantum b t
v_stays quantum b t le missed =
    ap (tag_served b (start_tag quantum b)) (last-not-at (begins_turn quantum b) b.start t le missed)

begins_by_row : (served on : Bool) → served ≡ false → (served && not on) ≡ false
begins_by_row served on none = rw none refl

begins_by_turn : (served on : Bool) → on ≡ true → (served && not on) ≡ false
begins_by_turn true on is = rw is refl
begins_by_turn false on is = refl

begins_both : (served on : Bool) → served ≡ true → on ≡ false → (served && not on) ≡ true
begins_both served on is off = rw (is, off) refl

pub v-none : (quantum : ℕ) (b : Ledger) (t : ℕ) → b.start ≤ t → (row_at b t).to ≡ None
    → v_of quantum b (suc t) ≡ v_of quantum b t
v-none quantum b t le none =
    v_stays quantum b t le (begins_by_row (is_some (row_at b t).to)
    (turn_goes_on quantum (before t b) (row_at b t).mask) (ap is_some none))

-- where a turn goes on, and where one begins
pub v-on : (quantum : ℕ) (b : Ledger) (t : ℕ) → b.start ≤ t
    → turn_goes_on quantum (before t b) (row_at b t).mask ≡ true → v_of quantum b (suc t) ≡ v_of quantum b t
v-on quantum b t le on =
    v_stays quantum b t le (begins_by_turn (is_some (row_at b t).to)
    (turn_goes_on quantum (before t b) (row_at b t).mask) on)

pub v-begun : (quantum : ℕ) (b : Ledger) (t k : ℕ) → b.start ≤ t → (row_at b t).to ≡ Some k
    → turn_goes_on quantum (before t b) (row_at b t).mask ≡ false → v_of quantum b (suc t) ≡ start_tag quantum b t k
v-begun quantum b t k le is off =
    ap (tag_served b (start_tag quantum b))
    (last-here-at (begins_turn quantum b) b.start t le
    (begins_both (is_some (row_at b t).to) (turn_goes_on quantum (before t b) (row_at b t).mask) (ap is_some is) off))
    ∙ ap (λ to. start_tag quantum b t (slot_or to)) is

-- at the tick of its seating or of a settling
pub f-fresh : (quantum : ℕ) (b : Ledger) (t k : ℕ) → (share_at b t k).since ≡ t
    → f_of quantum b t k ≡ v_of quantum b t + quantum * tag_step (share_at b t k).weight
f-fresh quantum b t k new =
    ap (finish_after quantum b (start_tag quantum b) (share_at b t k) k) (last-none-at (served b k)
    (share_at b t k).since t
    new)
    ∙ ap (λ n. v_of quantum b n + quantum * tag_step (share_at b t k).weight) new

start_zero : (quantum : ℕ) (b : Ledger) (share : Share) (k r t : ℕ) → r ≡ t
    → max (v_of quantum b r) (finish_by quantum b (start_tag quantum b) share k r)
    + count (served b k) r (t - r) * tag_step
    share.weight
    ≡ max (v_of quantum b t) (finish_by quantum b (start_tag quantum b) share k t)
start_zero quantum b share k r t e =
    ap (λ n. max (v_of quantum b r) (finish_by quantum b (start_tag quantum b) share k r) + n * tag_step share.weight)
    (count_none_at (served b k) r t e)
    ∙ omega arith ∙ ap (λ n. max (v_of quantum b n) (finish_by quantum b (start_tag quantum b) share k n)) e

one_more : (quantum : ℕ) (b : Ledger) (share : Share) (k t r q : ℕ) → q ≡ r
    → count (served b k) r (suc t - r) ≡ count (served b k) r (t - r) + one_if (served b k t)
    → max (v_of quantum b q) (finish_by quantum b (start_tag quantum b) share k q)
    + count (served b k) q (suc t - q) * tag_step
    share.weight
    ≡ max (v_of quantum b r) (finish_by quantum b (start_tag quantum b) share k r)
    + count (served b k) r (t - r) * tag_step
    share.weight
    + one_if (served b k t) * tag_step share.weight
one_more quantum b share k t r q same had =
    ap (λ n. max (v_of quantum b n) (finish_by quantum b (start_tag quantum b) share k n)
    + count (served b k) n (suc t - n) * tag_step share.weight) same
    ∙ ap (λ n. max (v_of quantum b r) (finish_by quantum b (start_tag quantum b) share k r)
    + n * tag_step share.weight) had
    ∙ omega arith

abbrev silent : Ledger → (slot : ℕ) → ℕ → Bool
silent b slot z = not (asked b slot z)

pub s-fresh : (quantum : ℕ) (b : Ledger) (t k : ℕ) → (share_at b t k).since ≡ t
    → start_tag quantum b t k ≡ max (v_of quantum b t) (f_of quantum b t k)
s-fresh quantum b t k new =
    let r : asking_since b (share_at b t k).since k t ≡ t =
    ap (next_or (share_at b t k).since) (last-none-at (silent b k) (share_at b t k).since t new) ∙ new in
    start_tag-is quantum b t k ∙ start_zero quantum b (share_at b t k) k (asking_since b (share_at b t k).since k t) t r

-- where the seat stays
module _ (quantum : ℕ) (b : Ledger) (t k : ℕ) (same : share_at b (suc t) k ≡ share_at b t k) where
  since_le : (share_at b t k).since ≤ t
  since_le = since-then b k t

  f_stays : f_of quantum b (suc t) k ≡ finish_by quantum b (start_tag quantum b) (share_at b t k) k (suc t)
  f_stays = ap (λ share. finish_by quantum b (start_tag quantum b) share k (suc t)) same

  pub f-served : served b k t ≡ true
      → f_of quantum b (suc t) k ≡ start_tag quantum b t k + tag_step (share_at b t k).weight
  f-served is = f_stays ∙ ap (finish_after quantum b (start_tag quantum b) (share_at b t k) k)
      (last-here-at (served b k) (share_at b t k).since t since_le is)

  pub f-unserved : served b k t ≡ false → f_of quantum b (suc t) k ≡ f_of quantum b t k
  f-unserved miss = f_stays ∙ ap (finish_after quantum b (start_tag quantum b) (share_at b t k) k)
      (last-not-at (served b k) (share_at b t k).since t since_le miss)

  s_stays : start_tag quantum b (suc t) k ≡ start_of quantum b (start_tag quantum b) (share_at b t k) (suc t) k
  s_stays = start_tag-is quantum b (suc t) k
      ∙ ap (λ share. start_of quantum b (start_tag quantum b) share (suc t) k) same

  pub s-off : asked b k t ≡ false
      → start_tag quantum b (suc t) k ≡ max (v_of quantum b (suc t)) (f_of quantum b (suc t) k)
  s-off off =
      let r : asking_since b (share_at b t k).since k (suc t) ≡ suc t =
      ap (next_or (share_at b t k).since)
      (last-here-at (silent b k) (share_at b t k).since t since_le (ap not off)) ∙ omega arith in
      s_stays ∙ start_zero quantum b (share_at b t k) k (asking_since b (share_at b t k).since k (suc t)) (suc t) r
      ∙ ap (max (v_of quantum b (suc t))) (sym f_stays)

  pub s-on : asked b k t ≡ true
      → start_tag quantum b (suc t) k
      ≡ start_tag quantum b t k + one_if (served b k t) * tag_step (share_at b t k).weight
  s-on on =
      let r : asking_since b (share_at b t k).since k (suc t) ≡ asking_since b (share_at b t k).since k t =
      ap (next_or (share_at b t k).since)
      (last-not-at (silent b k) (share_at b t k).since t since_le (ap not on)) in
      let before : asking_since b (share_at b t k).since k t ≤ t =
      omega (arith, since_le, after_last-le (silent b k) (share_at b t k).since (t - (share_at b t k).since))
      in
      let had = count_more_at (served b k) (asking_since b (share_at b t k).since k t) t before in
      s_stays
      ∙ one_more quantum b (share_at b t k) k t (asking_since b (share_at b t k).since k t)
      (asking_since b (share_at b t k).since k (suc t)) r had
      ∙ ap (λ s. s + one_if (served b k t) * tag_step (share_at b t k).weight) (sym (start_tag-is quantum b t k))

-- a share in the next tick: none, of a seat seated or settled in it, or as it was
pub data Goes (b : Ledger) (t slot : ℕ) : Type 0 where
  Gone : (none : (share_at b (suc t) slot).weight ≡ 0) → Goes b t slot
  Fresh : (new : (share_at b (suc t) slot).since ≡ suc t) → Goes b t slot
  Stays : (same : share_at b (suc t) slot ≡ share_at b t slot) → Goes b t slot

sits_goes : (b : Ledger) (t slot weight since : ℕ) → KeepsSittings b → t < now_of b
    → tenant_then b slot (suc t) ≡ Sits (terms.Weight weight) since → Goes b t slot
sits_goes b t slot weight since kept lt sits = elim (cases_eq since (t + 1)) [
  | inl new ↦ Fresh (ap (λ tenant. (share_in tenant).since) sits ∙ new ∙ omega arith)
  | inr old ↦
      let later : tenant_then b slot (t + 1) ≡ Sits (terms.Weight weight) since =
      ap (tenant_then b slot) (add-one t) ∙ sits in
      Stays (ap share_in (sits ∙ sym (kept.next t slot since (terms.Weight weight) lt later old)))
]

goes_by : (b : Ledger) (t slot : ℕ) (tenant : Tenant) → KeepsSittings b → t < now_of b
    → tenant_then b slot (suc t) ≡ tenant → Goes b t slot
goes_by b t slot Vacant kept lt is = Gone (ap (λ tenant. (share_in tenant).weight) is)
goes_by b t slot (Left terms since at) kept lt is = Gone (ap (λ tenant. (share_in tenant).weight) is)
goes_by b t slot (Sits (terms.Weight weight) since) kept lt is = sits_goes b t slot weight since kept lt is
goes_by b t slot (Sits _ since) kept lt is = Gone (ap (λ tenant. (share_in tenant).weight) is)

pub goes-on : (b : Ledger) (t slot : ℕ) → KeepsSittings b → t < now_of b → Goes b t slot
goes-on b t slot kept lt = goes_by b t slot (tenant_then b slot (suc t)) kept lt refl

begins_by : (b : Ledger) (slot : ℕ) (tenant : Tenant) → KeepsSittings b → tenant_then b slot b.start ≡ tenant
    → 0 < (share_in tenant).weight → (share_at b b.start slot).since ≡ b.start
begins_by b slot Vacant kept is some = absurd (omega (arith, some))
begins_by b slot (Left terms since at) kept is some = absurd (omega (arith, some))
begins_by b slot (Sits (terms.Weight weight) since) kept is some =
    ap (λ tenant. (share_in tenant).since) is ∙ kept.first slot since (terms.Weight weight) is
begins_by b slot (Sits _ since) kept is some = absurd (omega (arith, some))

-- who sits in the tick of the start was seated or settled in it
pub begins : (b : Ledger) (slot : ℕ) → KeepsSittings b → 0 < (share_at b b.start slot).weight
    → (share_at b b.start slot).since ≡ b.start
begins b slot kept some = begins_by b slot (tenant_then b slot b.start) kept refl some
