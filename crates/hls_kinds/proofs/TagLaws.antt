-- Rounds of start tags: one more, and enough of them.
use Rattle.std.proofs.Common.{◌≡◌, ℕ, zero, suc, ◌+◌, ◌-◌, ◌*◌, ◌<◌, ◌≤◌, max, refl, ap, ◌∙◌, add-one, arith}
use Rattle.std.proofs.Common.{List, [], ◌∷◌, fold, filter, Bool, true, false}
use Rattle.std.specs.Prelude.{Option, Some, None, not, nat_le, if◌then◌else◌, ◌==◌}
use Rattle.std.proofs.lemmas.Bool.{leb-true}
use Rattle.hls_chron.specs.declared.book.Mark.{Mark}
use Rattle.hls_chron.specs.declared.book.Event.{Event}
use Rattle.hls_chron.specs.declared.book.Event.TheVariants.{Seat, Leave, Settle}
use Rattle.hls_chron.specs.declared.plain.Terms.{Terms}
use Rattle.hls_chron.specs.declared.plain.Terms.TheVariants as terms
use Rattle.hls_kinds.specs.declared.tags.Share.{Share}
use Rattle.hls_kinds.specs.declared.tenant.Tenant.{Tenant}
use Rattle.hls_kinds.specs.declared.tenant.Tenant.TheVariants.{Vacant, Sits, Left}
use Rattle.hls_chron.specs.Ledger.{Ledger, row_at, before}
use Rattle.hls_chron.specs.Seats.{asked, served}
use Rattle.hls_chron.specs.Ticks.{count}
use Rattle.hls_kinds.specs.Ticks.{last_of}
use Rattle.hls_kinds.specs.Tenants.{after_leaving, after_settling, tenant_after, tenant_at, tenant_then}
use Rattle.hls_kinds.specs.Tags.{begins_turn, tag_step, share_in, slot_or, tag_served, time_by, finish_after, finish_by}
use Rattle.hls_kinds.specs.Tags.{asking_since, start_of, start_by, start_tags, start_tag}
use Rattle.hls_kinds.proofs.TickLaws.{after_last-le}

pub start_tags-zero : (quantum : ℕ) (b : Ledger) (t slot : ℕ) → start_tags quantum b 0 t slot ≡ 0
unfolding start_tags
start_tags-zero quantum b t slot = refl

pub start_tags-more : (quantum : ℕ) (b : Ledger) (m n t slot : ℕ) → m ≡ n + 1
    → start_tags quantum b m t slot ≡ start_by quantum b (start_tags quantum b n) t slot
unfolding start_tags
start_tags-more quantum b m n t slot more = rw (more, add-one n) refl

-- a start tag from what it is made of
pub start_of-parts : (quantum : ℕ) (b : Ledger) (start : ℕ → ℕ → ℕ) (share : Share)
    (t slot r time finish greatest had step more : ℕ)
    → r ≡ asking_since b share.since slot t → time ≡ time_by quantum b start r
    → finish ≡ finish_by quantum b start share slot r
    → greatest ≡ max time finish → had ≡ count (served b slot) r (t - r) → step ≡ tag_step share.weight
    → more ≡ had * step → greatest + more ≡ start_of quantum b start share t slot
start_of-parts quantum b start share t slot r time finish greatest had step more is_r is_time is_finish is_greatest
    is_had
    is_step is_more = rw (is_greatest, is_more, is_time, is_finish, is_had, is_step, is_r) refl

-- two ways to give start tags agree before tick t
abbrev pub AgreeBefore : (f g : ℕ → ℕ → ℕ) → ℕ → Type 0
AgreeBefore f g t = (z slot : ℕ) → z < t → f z slot ≡ g z slot

found_before : (test : ℕ → Bool) (i n z : ℕ) (hit : Bool)
    → (last_of test i n ≡ Some z → (i ≤ z) × (z < i + n))
    → (if hit then Some (i + n) else last_of test i n) ≡ Some z → (i ≤ z) × (z < i + suc n)
found_before test i n z true earlier is =
    let same : i + n ≡ z = ap slot_or is in (omega (arith, same), omega (arith, same))
found_before test i n z false earlier is =
    let within = earlier is in (within.0, omega (arith, within.1))

pub last-within : (test : ℕ → Bool) (i n z : ℕ) → last_of test i n ≡ Some z → (i ≤ z) × (z < i + n)
unfolding last_of
last-within test i zero z is = absurd (let h = is in cc)
last-within test i (suc n) z is = found_before test i n z (test (i + n)) (last-within test i n z) is

pub last-before : (test : ℕ → Bool) (i t z : ℕ) → last_of test i (t - i) ≡ Some z → z < t
last-before test i t z is = let within = last-within test i (t - i) z is in omega (arith, within.0, within.1)

served-agree : (b : Ledger) (f g : ℕ → ℕ → ℕ) (t : ℕ) (last : Option ℕ) → AgreeBefore f g t
    → ((z : ℕ) → last ≡ Some z → z < t) → tag_served b f last ≡ tag_served b g last
served-agree b f g t None agree before = refl
served-agree b f g t (Some z) agree before = agree z (slot_or (row_at b z).to) (before z refl)

pub time-agree : (quantum : ℕ) (b : Ledger) (f g : ℕ → ℕ → ℕ) (t : ℕ) → AgreeBefore f g t → time_by quantum b f t
    ≡ time_by quantum b g t
time-agree quantum b f g t agree =
    let test : ℕ → Bool = begins_turn quantum b in
    served-agree b f g t (last_of test b.start (t - b.start)) agree (last-before test b.start t)

earlier : (f g : ℕ → ℕ → ℕ) (r t : ℕ) → r ≤ t → AgreeBefore f g t → AgreeBefore f g r
earlier f g r t le agree = λ z slot lt. agree z slot (omega (arith, le, lt))

finish-by-agree : (quantum : ℕ) (b : Ledger) (f g : ℕ → ℕ → ℕ) (share : Share) (slot t : ℕ) (last : Option ℕ)
    → share.since ≤ t → AgreeBefore f g t → ((z : ℕ) → last ≡ Some z → z < t)
    → finish_after quantum b f share slot last ≡ finish_after quantum b g share slot last
finish-by-agree quantum b f g share slot t None since agree before =
    ap (λ v. v + quantum * tag_step share.weight)
    (time-agree quantum b f g share.since (earlier f g share.since t since agree))
finish-by-agree quantum b f g share slot t (Some z) since agree before =
    ap (λ v. v + tag_step share.weight) (agree z slot (before z refl))

pub finish-agree : (quantum : ℕ) (b : Ledger) (f g : ℕ → ℕ → ℕ) (share : Share) (slot t r : ℕ) → share.since ≤ t → r ≤ t
    → AgreeBefore f g t → finish_by quantum b f share slot r ≡ finish_by quantum b g share slot r
finish-agree quantum b f g share slot t r since le agree =
    finish-by-agree quantum b f g share slot t (last_of (served b slot) share.since (r - share.since)) since agree
    (λ z is. let lt = last-before (served b slot) share.since r z is in omega (arith, lt, le))

pub start_of-agree : (quantum : ℕ) (b : Ledger) (f g : ℕ → ℕ → ℕ) (share : Share) (t slot : ℕ) → share.since ≤ t
    → AgreeBefore f g t → start_of quantum b f share t slot ≡ start_of quantum b g share t slot
start_of-agree quantum b f g share t slot since agree =
    let test : ℕ → Bool = λ z. not (asked b slot z) in
    let le : asking_since b share.since slot t ≤ t
    = omega (arith, since, after_last-le test share.since (t - share.since)) in
    let r = asking_since b share.since slot t in
    rw (
      time-agree quantum b f g r (earlier f g r t le agree),
      finish-agree quantum b f g share slot t r since le agree,
    ) refl

-- a seat that sits in tick t was seated or settled by then
abbrev SinceBy : (t : ℕ) → Tenant → Type 0
SinceBy t Vacant = Unit {0}
SinceBy t (Sits terms since) = since ≤ t
SinceBy t (Left terms since at) = Unit {0}

seat_since : (here : Bool) (t tick : ℕ) (terms : Terms) (tenant : Tenant) → tick ≤ t → SinceBy t tenant
    → SinceBy t (if here then Sits terms tick else tenant)
seat_since true t tick terms tenant le by = le
seat_since false t tick terms tenant le by = by

left_since : (t tick : ℕ) (tenant : Tenant) → SinceBy t (after_leaving tick tenant)
left_since t tick Vacant = tt
left_since t tick (Sits terms since) = tt
left_since t tick (Left terms since at) = tt

leave_since : (here : Bool) (t tick : ℕ) (tenant : Tenant) → SinceBy t tenant
    → SinceBy t (if here then after_leaving tick tenant else tenant)
leave_since true t tick tenant by = left_since t tick tenant
leave_since false t tick tenant by = by

settle_since : (t tick : ℕ) (tenant : Tenant) → tick ≤ t → SinceBy t (after_settling tick tenant)
settle_since t tick Vacant le = tt
settle_since t tick (Sits terms since) le = le
settle_since t tick (Left terms since at) le = tt

after_since : (slot t tick : ℕ) (tenant : Tenant) (event : Event) → tick ≤ t → SinceBy t tenant
    → SinceBy t (tenant_after slot tick tenant event)
after_since slot t tick tenant (Seat at terms) le by = seat_since (at == slot) t tick terms tenant le by
after_since slot t tick tenant (Leave at) le by = leave_since (at == slot) t tick tenant by
after_since slot t tick tenant Settle le by = settle_since t tick tenant le

abbrev tenants : (slot : ℕ) → Tenant → List Mark → Tenant
tenants slot tenant marks = fold (λ tenant (m : Mark). tenant_after slot m.tick tenant m.event) tenant marks

abbrev by_tick : ℕ → Mark → Bool
by_tick t m = nat_le m.tick t

kept_since : (slot t : ℕ) (tenant : Tenant) (m : Mark) (marks : List Mark) (kept : Bool)
    → nat_le m.tick t ≡ kept
    → SinceBy t tenant
    → ((tenant : Tenant) → SinceBy t tenant → SinceBy t (tenants slot tenant (filter (by_tick t) marks)))
    → SinceBy t (tenants slot tenant (if kept then m ∷ filter (by_tick t) marks else filter
    (by_tick t) marks))
kept_since slot t tenant m marks true kept by rest =
    rest (tenant_after slot m.tick tenant m.event)
    (after_since slot t m.tick tenant m.event (leb-true m.tick t kept) by)
kept_since slot t tenant m marks false kept by rest = rest tenant by

fold_since : (slot t : ℕ) (marks : List Mark) (tenant : Tenant) → SinceBy t tenant
    → SinceBy t (tenants slot tenant (filter (by_tick t) marks))
fold_since slot t [] tenant by = by
fold_since slot t (m ∷ marks) tenant by =
    kept_since slot t tenant m marks (nat_le m.tick t) refl by (fold_since slot t marks)

share_since : (t : ℕ) (tenant : Tenant) → SinceBy t tenant → (share_in tenant).since ≤ t
share_since t Vacant by = omega arith
share_since t (Left terms since at) by = omega arith
share_since t (Sits (terms.Weight weight) since) by = by
share_since t (Sits _ since) by = omega arith

pub since-then : (b : Ledger) (slot t : ℕ) → (share_in (tenant_then b slot t)).since ≤ t
unfolding tenant_at before
since-then b slot t = share_since t _ (fold_since slot t b.marks Vacant tt)

-- more rounds change no tag of a tick that had enough of them
pub start_tags-enough : (quantum : ℕ) (b : Ledger) (n m t slot : ℕ) → t < n → t < m
    → start_tags quantum b n t slot ≡ start_tags quantum b m t slot
unfolding start_tags
start_tags-enough quantum b zero m t slot lt_n lt_m = absurd (omega (arith, lt_n))
start_tags-enough quantum b (suc n) zero t slot lt_n lt_m = absurd (omega (arith, lt_m))
start_tags-enough quantum b (suc n) (suc m) t slot lt_n lt_m =
    start_of-agree quantum b (start_tags quantum b n) (start_tags quantum b m) (share_in (tenant_then b slot t)) t slot
    (since-then b slot t)
    (λ z k lt. start_tags-enough quantum b n m z k (omega (arith, lt, lt_n)) (omega (arith, lt, lt_m)))

-- the start tags are those of the rules, by themselves
pub start_tag-is : (quantum : ℕ) (b : Ledger) (t slot : ℕ) → start_tag quantum b t slot
    ≡ start_by quantum b (start_tag quantum b) t slot
start_tag-is quantum b t slot =
    start_tags-more quantum b (t + 1) t t slot refl
    ∙ start_of-agree quantum b (start_tags quantum b t) (start_tag quantum b) (share_in (tenant_then b slot t)) t slot
    (since-then b slot t)
    (λ z k lt. start_tags-enough quantum b t (z + 1) z k lt (omega arith))

pub ruleset tag_rounds = (start_tags-zero, start_tags-more)
