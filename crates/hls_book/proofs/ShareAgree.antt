-- Start tags at a tick go by the rows before it and the marks up to it.
use Rattle.std.proofs.Common.{◌≡◌, ℕ, zero, suc, ◌+◌, ◌-◌, ◌*◌, ◌<◌, ◌≤◌, max, refl, sym, ap, ◌∙◌, arith}
use Rattle.std.proofs.Common.{List, [], ◌∷◌, filter, Bool, false, inl, inr}
use Rattle.std.specs.Prelude.{Option, Some, None, is_some, not, ◌&&◌, nat_le, if◌then◌else◌}
use Rattle.std.proofs.lemmas.Bool.{cases_Bool, cases_lt, lt-ltb, le-ltb}
use Rattle.std.proofs.lemmas.Bool.Decides.{nat_tests}
use Rattle.std.proofs.lemmas.List.{get_or-take, length-take-le, take-take}
use Rattle.hls_chron.specs.declared.book.TickRow.{TickRow}
use Rattle.hls_chron.specs.declared.book.Mark.{Mark}
use Rattle.hls_chron.specs.Ledger.{Ledger, now_of, row_at, before, no_row}
use Rattle.hls_chron.specs.Seats.{asked, served}
use Rattle.hls_chron.specs.Ticks.{count}
use Rattle.hls_chron.proofs.CountLaws.{count-agree}
use Rattle.hls_kinds.specs.declared.tags.Share.{Share}
use Rattle.hls_kinds.specs.Ticks.{last_of, next_or}
use Rattle.hls_kinds.specs.Tenants.{tenant_then}
use Rattle.hls_kinds.specs.Turns.{turn_goes_on}
use Rattle.hls_kinds.specs.Tags.{begins_turn, tag_step, share_in, slot_or, tag_served, time_by, finish_after}
use Rattle.hls_kinds.specs.Tags.{finish_by}
use Rattle.hls_kinds.specs.Tags.{asking_since, start_of, start_by, start_tags, start_tag}
use Rattle.hls_kinds.proofs.MarkLaws.{tenant_at-same}
use Rattle.hls_kinds.proofs.TickLaws.{after_last-le}
use Rattle.hls_kinds.proofs.TagLaws.{since-then, last-before, start_tags-zero, start_tags-more}

if_same : (hit hit' : Bool) (at at' : ℕ) (rest rest' : Option ℕ) → hit ≡ hit' → rest ≡ rest' → at ≡ at'
    → (if hit then Some at else rest) ≡ (if hit' then Some at' else rest')
if_same hit hit' at at' rest rest' a b c = rw (a, b, c) refl

pub last-agree : (f g : ℕ → Bool) (i n : ℕ) → ((t : ℕ) → i ≤ t → t < i + n → f t ≡ g t)
    → last_of f i n ≡ last_of g i n
unfolding last_of
last-agree f g i zero same = refl
last-agree f g i (suc n) same =
    if_same (f (i + n)) (g (i + n)) (i + n) (i + n) (last_of f i n) (last_of g i n)
    (same (i + n) (omega arith) (omega arith))
    (last-agree f g i n (λ t lo hi. same t lo (omega arith))) refl

-- the books say the same of the ticks before t
pub record SameRows (a b : Ledger) (t : ℕ) : Type 0 where
  pub start : a.start ≡ b.start
  pub rows : (z : ℕ) → z < t → row_at a z ≡ row_at b z
  pub befores : (z : ℕ) → z < t → before z a ≡ before z b

-- and of who sits in them and in t
pub record SameUpTo (a b : Ledger) (t : ℕ) : Type 0 where
  pub before : SameRows a b t
  pub tenants : (z slot : ℕ) → z ≤ t → tenant_then a slot z ≡ tenant_then b slot z

asked-same : (a b : Ledger) (slot z : ℕ) → row_at a z ≡ row_at b z → asked a slot z ≡ asked b slot z
unfolding asked
asked-same a b slot z same = rw same refl

served-same : (a b : Ledger) (slot z : ℕ) → row_at a z ≡ row_at b z → served a slot z ≡ served b slot z
unfolding served
served-same a b slot z same = rw same refl

-- two ways to give start tags that agree before t
abbrev pub AgreeBefore : (f g : ℕ → ℕ → ℕ) → ℕ → Type 0
AgreeBefore f g t = (z slot : ℕ) → z < t → f z slot ≡ g z slot

tag_served-same : (a b : Ledger) (f g : ℕ → ℕ → ℕ) (t : ℕ) (last : Option ℕ) → SameRows a b t
    → AgreeBefore f g t
    → ((z : ℕ) → last ≡ Some z → z < t) → tag_served a f last ≡ tag_served b g last
tag_served-same a b f g t None same agree before = refl
tag_served-same a b f g t (Some z) same agree before =
    rw (same.rows z (before z refl)) (agree z (slot_or (row_at b z).to) (before z refl))

-- in it a turn begins in the one where it does in the other
begins-same : (quantum : ℕ) (a b : Ledger) (z : ℕ) → row_at a z ≡ row_at b z → before z a ≡ before z b
    → begins_turn quantum a z ≡ begins_turn quantum b z
begins-same quantum a b z row book =
    ap (λ (r : TickRow). is_some r.to && not (turn_goes_on quantum (before z a) r.mask)) row
    ∙ ap (λ (m : Ledger). is_some (row_at b z).to && not (turn_goes_on quantum m (row_at b z).mask)) book

pub time-same : (quantum : ℕ) (a b : Ledger) (f g : ℕ → ℕ → ℕ) (t r : ℕ) → SameRows a b t → r ≤ t → AgreeBefore f g t
    → time_by quantum a f r ≡ time_by quantum b g r
time-same quantum a b f g t r same le agree =
    let one : ℕ → Bool = begins_turn quantum a in
    let two : ℕ → Bool = begins_turn quantum b in
    let last : last_of one b.start (r - b.start) ≡ last_of two b.start (r - b.start) =
    last-agree one two b.start (r - b.start)
    (λ z lo hi. begins-same quantum a b z (same.rows z (omega arith)) (same.befores z (omega arith))) in
    ap (λ i. tag_served a f (last_of one i (r - i))) same.start ∙ ap (tag_served a f) last
    ∙ tag_served-same a b f g t (last_of two b.start (r - b.start)) same agree
    (λ z is. let lt = last-before two b.start r z is in omega (arith, lt, le))

finish_after-same : (quantum : ℕ) (a b : Ledger) (f g : ℕ → ℕ → ℕ) (t : ℕ) (share : Share) (slot : ℕ) (last : Option ℕ)
    → SameRows a b t → share.since ≤ t → AgreeBefore f g t → ((z : ℕ) → last ≡ Some z → z < t)
    → finish_after quantum a f share slot last ≡ finish_after quantum b g share slot last
finish_after-same quantum a b f g t share slot None same le agree before =
    ap (λ v. v + quantum * tag_step share.weight) (time-same quantum a b f g t share.since same le agree)
finish_after-same quantum a b f g t share slot (Some z) same le agree before =
    ap (λ v. v + tag_step share.weight) (agree z slot (before z refl))

pub finish-same : (quantum : ℕ) (a b : Ledger) (f g : ℕ → ℕ → ℕ) (t r : ℕ) (share : Share) (slot : ℕ) → SameRows a b t
    → share.since ≤ t → r ≤ t → AgreeBefore f g t
    → finish_by quantum a f share slot r ≡ finish_by quantum b g share slot r
finish-same quantum a b f g t r share slot same since le agree =
    let last : last_of (served a slot) share.since (r - share.since) ≡
    last_of (served b slot) share.since (r - share.since) =
    last-agree (served a slot) (served b slot) share.since (r - share.since)
    (λ z lo hi. served-same a b slot z (same.rows z (omega arith))) in
    ap (finish_after quantum a f share slot) last
    ∙ finish_after-same quantum a b f g t share slot (last_of (served b slot) share.since (r - share.since)) same
    since agree
    (λ z is. let lt = last-before (served b slot) share.since r z is in omega (arith, lt, le))

asking_since-same : (a b : Ledger) (t z since slot : ℕ) → SameRows a b t → z ≤ t
    → asking_since a since slot z ≡ asking_since b since slot z
asking_since-same a b t z since slot same le =
    ap (next_or since) (last-agree (λ u. not (asked a slot u)) (λ u. not (asked b slot u)) since (z - since)
    (λ u lo hi. ap not (asked-same a b slot u (same.rows u (omega arith)))))

-- from where it asks on, the virtual time and the finish tag there, and the ticks served
start_from : (quantum : ℕ) (share : Share) (a b : Ledger) (f g : ℕ → ℕ → ℕ) (slot z : ℕ) (r q : ℕ) → q ≡ r
    → time_by quantum a f r ≡ time_by quantum b g r
    → finish_by quantum a f share slot r ≡ finish_by quantum b g share slot r
    → count (served a slot) r (z - r) ≡ count (served b slot) r (z - r)
    → max (time_by quantum a f q) (finish_by quantum a f share slot q) + count (served a slot) q (z - q) * tag_step
    share.weight
    ≡ max (time_by quantum b g r) (finish_by quantum b g share slot r) + count (served b slot) r (z - r) * tag_step
    share.weight
start_from quantum share a b f g slot z r q same time finish counts =
    ap (λ x. max (time_by quantum a f x) (finish_by quantum a f share slot x)
    + count (served a slot) x (z - x) * tag_step share.weight) same
    ∙ ap (λ x. max x (finish_by quantum a f share slot r) + count (served a slot) r (z - r) * tag_step share.weight)
    time
    ∙ ap (λ x. max (time_by quantum b g r) x + count (served a slot) r (z - r) * tag_step share.weight) finish
    ∙ ap (λ x. max (time_by quantum b g r) (finish_by quantum b g share slot r) + x * tag_step share.weight) counts

start_of-same : (quantum : ℕ) (a b : Ledger) (f g : ℕ → ℕ → ℕ) (t z : ℕ) (share : Share) (slot : ℕ)
    → SameRows a b t → z ≤ t
    → share.since ≤ z → AgreeBefore f g z → start_of quantum a f share z slot ≡ start_of quantum b g share z slot
start_of-same quantum a b f g t z share slot same le since agree =
    let less : SameRows a b z = record {
      start = same.start;
      rows = λ u lt. same.rows u (omega arith);
      befores = λ u lt. same.befores u (omega arith);
    } in
    let r = asking_since b share.since slot z in
    let early : asking_since b share.since slot z ≤ z =
    omega (arith, since, after_last-le (λ u. not (asked b slot u)) share.since (z - share.since)) in
    let counts = count-agree (served a slot) (served b slot) r (z - r)
    (λ u lo hi. served-same a b slot u (same.rows u (omega arith))) in
    start_from quantum share a b f g slot z r (asking_since a share.since slot z)
    (asking_since-same a b t z share.since slot same le)
    (time-same quantum a b f g z r less early agree)
    (finish-same quantum a b f g z r share slot less since early agree)
    counts

start_by-same : (quantum : ℕ) (a b : Ledger) (f g : ℕ → ℕ → ℕ) (t z slot : ℕ) → SameUpTo a b t → z ≤ t
    → AgreeBefore f g z
    → start_by quantum a f z slot ≡ start_by quantum b g z slot
start_by-same quantum a b f g t z slot same le agree =
    ap (λ tenant. start_of quantum a f (share_in tenant) z slot) (same.tenants z slot le)
    ∙ start_of-same quantum a b f g t z (share_in (tenant_then b slot z)) slot same.before le (since-then b slot z)
    agree

pub start_tags-same : (quantum : ℕ) (a b : Ledger) (t n z slot : ℕ) → SameUpTo a b t → z ≤ t
    → start_tags quantum a n z slot ≡ start_tags quantum b n z slot
start_tags-same quantum a b t zero z slot same le = start_tags-zero quantum a z slot
    ∙ sym (start_tags-zero quantum b z slot)
start_tags-same quantum a b t (suc n) z slot same le =
    start_tags-more quantum a (suc n) n z slot (omega arith)
    ∙ start_by-same quantum a b (start_tags quantum a n) (start_tags quantum b n) t z slot same le
    (λ u k lt. start_tags-same quantum a b t n u k same (omega arith))
    ∙ sym (start_tags-more quantum b (suc n) n z slot (omega arith))

pub start_tag-same : (quantum : ℕ) (a b : Ledger) (t z slot : ℕ) → SameUpTo a b t → z ≤ t
    → start_tag quantum a z slot ≡ start_tag quantum b z slot
start_tag-same quantum a b t z slot same le = start_tags-same quantum a b t (z + 1) z slot same le

-- the book as it stood before a tick
pub row_before : (t z : ℕ) (b : Ledger) → z < t → row_at (before t b) z ≡ row_at b z
unfolding row_at before
row_before t z b lt = elim (cases_lt z b.start) [
  | inl early ↦ rw (lt-ltb z b.start early) refl
  | inr late ↦ rw (le-ltb z b.start late) (get_or-take (t - b.start) b.rows (z - b.start) no_row
      (omega arith))
]

abbrev by_tick : ℕ → Mark → Bool
by_tick t m = nat_le m.tick t

filter_twice : (z t : ℕ) (marks : List Mark) → z ≤ t
    → filter (by_tick z) (filter (by_tick t) marks) ≡ filter (by_tick z) marks
filter_twice z t [] le = refl
filter_twice z t (m ∷ marks) le = elim (cases_Bool (nat_le m.tick t)) [
  | inl kept ↦ rw kept (ap (λ rest. if nat_le m.tick z then m ∷ rest else rest) (filter_twice z t marks le))
  | inr out ↦
      let no : nat_le m.tick z ≡ false = grind (arith, nat_tests, out, le) in
      rw (out, no) (filter_twice z t marks le)
]

marks_before : (t z : ℕ) (b : Ledger) → z ≤ t → (before z (before t b)).marks ≡ (before z b).marks
unfolding before
marks_before t z b le = filter_twice z t b.marks le

pub start_before : (t : ℕ) (b : Ledger) → (before t b).start ≡ b.start
unfolding before
start_before t b = refl

before_twice : (t z : ℕ) (b : Ledger) → z ≤ t → before z (before t b) ≡ before z b
unfolding before
before_twice t z b le =
    let fewer : z - b.start ≤ t - b.start = omega (arith, le) in
    rw (take-take (z - b.start) (t - b.start) b.rows fewer, filter_twice z t b.marks le) refl

pub same-before : (t : ℕ) (b : Ledger) → SameUpTo (before t b) b t
same-before t b = record {
  before = record {
    start = start_before t b;
    rows = λ z lt. row_before t z b lt;
    befores = λ z lt. before_twice t z b (omega (arith, lt));
  };
  tenants = λ z slot le. tenant_at-same (before z (before t b)) (before z b) slot (marks_before t z b le);
}

pub now-before : (t : ℕ) (b : Ledger) → b.start ≤ t → t ≤ now_of b → now_of (before t b) ≡ t
unfolding before
now-before t b lo hi = omega (arith, length-take-le (t - b.start) b.rows (omega arith))

-- books that differ in their room alone
marks_same : (a b : Ledger) (t : ℕ) → a.marks ≡ b.marks → (before t a).marks ≡ (before t b).marks
unfolding before
marks_same a b t same = rw same refl

row_same : (a b : Ledger) (t : ℕ) → a.start ≡ b.start → a.rows ≡ b.rows → row_at a t ≡ row_at b t
unfolding row_at
row_same a b t start rows = rw (start, rows) refl
