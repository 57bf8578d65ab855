-- The demand, the promise and the cap of a book.
use Rattle.std.proofs.Common.{◌≡◌, ℕ, zero, suc, ◌+◌, ◌*◌, ◌-◌, ◌<◌, ◌≤◌, refl, sym, arith, ap, ◌∙◌, inl, inr}
use Rattle.std.proofs.Common.{Bool, true, false, Some, [], subst}
use Rattle.std.specs.Prelude.{◌&&◌, ◌==◌, is_some}
use Rattle.hls_chron.specs.Ticks.{count}
use Rattle.hls_chron.specs.declared.plain.Config.TheVariants.{Edf}
use Rattle.hls_chron.specs.declared.plain.Terms.{Terms}
use Rattle.hls_chron.specs.declared.plain.Terms.TheVariants.{Res}
use Rattle.hls_chron.specs.Ledger.{Ledger, now_of, row_at}
use Rattle.hls_chron.specs.Seats.{asked, served}
use Rattle.hls_chron.proofs.BookLaws.{row_at-unwritten, dated-unmarked}
use Rattle.hls_kinds.specs.declared.tenant.Tenant.TheVariants.{Vacant, Sits}
use Rattle.hls_kinds.specs.declared.reservations.Reservation.{Reservation}
use Rattle.hls_kinds.specs.Slots.{sum_below}
use Rattle.hls_kinds.specs.Tenants.{tenant_at, settled_at}
use Rattle.hls_chron.specs.Parts.{all_parts, parts}
use Rattle.hls_kinds.specs.Reservations.{deadline_after, budget_after, last_replenished}
use Rattle.hls_guarantee.specs.declared.Guarantee.{Guarantee}
use Rattle.hls_guarantee.specs.declared.Guarantee.TheVariants as guarantees
use Rattle.hls_guarantee.specs.declared.Guarantee.TheVariants.{Resb}
use Rattle.hls_guarantee.specs.Cap.{KeepsCap}
use Rattle.hls_guarantee.specs.Supply.{Supplies}
use Rattle.hls_guarantee.specs.Steps.{LendsByTerms, LendsNothing}
use Rattle.hls_book.specs.Promise as promises
use Rattle.hls_book.specs.Promise.{given, asked_by, KeepsPromise}
use Rattle.hls_book.specs.declared.server.Server.{Server}
use Rattle.hls_book.specs.Servers.{AreSound, HaveRoom, vacant, claimed_by}
use Rattle.hls_book.specs.Recomputed.{server_within}
use Rattle.hls_book.specs.Books.{server_at, IsGiven, IsTenant, KeepsReservations, ReachesDeadline}
use Rattle.hls_kinds.proofs.Sums.{sum-eq}
use Rattle.hls_book.proofs.Claimed.{due-vacant}
use Rattle.hls_chron.proofs.PartLaws.{parts-rate, parts-near}
use Rattle.hls_book.proofs.Parts.{parts-big}
use Rattle.hls_book.proofs.Deadlines.{count_more, last_before}
use Rattle.hls_book.proofs.Caps.{cap}
use Rattle.hls_book.proofs.Pieces.{run_satisfies}
use Rattle.hls_book.proofs.RowSteps.{server_now}
use Rattle.hls_book.proofs.Each.{sits, seat_is}

-- a book that begins
pub sum-nothing : (n : ℕ) → sum_below (λ slot. 0) n ≡ 0
unfolding sum_below
sum-nothing zero = refl
sum-nothing (suc n) = omega (arith, sum-nothing n)

pub tenant_at-unmarked : (b : Ledger) (slot : ℕ) → b.marks ≡ [] → tenant_at b slot ≡ Vacant
unfolding tenant_at
tenant_at-unmarked b slot unmarked = rw unmarked refl

settled_at-unmarked : (b : Ledger) → b.marks ≡ [] → settled_at b ≡ b.start
unfolding settled_at
settled_at-unmarked b unmarked = rw unmarked refl

served-unwritten : (b : Ledger) (slot t : ℕ) → b.rows ≡ [] → served b slot t ≡ false
unfolding served
served-unwritten b slot t unwritten = rw (row_at-unwritten b t unwritten) refl

pub server_at-unmarked : (b : Ledger) (slot : ℕ) → b.marks ≡ [] → server_at b slot ≡ vacant
server_at-unmarked b slot unmarked = ap (server_now b slot) (tenant_at-unmarked b slot unmarked)

no_sits : (b : Ledger) (slot : ℕ) (r : Reservation) (hard : Bool) → b.marks ≡ [] → tenant_at b slot
    ≡ sits r hard → ⊥
no_sits b slot r hard unmarked sat = let none = tenant_at-unmarked b slot unmarked in cc

new-sound : (b : Ledger) → b.marks ≡ [] → AreSound all_parts 32 (server_at b)
new-sound b unmarked = record {
  fits =
      let same = sum-eq (λ slot. (server_at b slot).parts) (λ slot. 0) 32
      (λ slot lt. ap (λ (c : Server). c.parts) (server_at-unmarked b slot unmarked)) in
      omega (arith, same, sum-nothing 32);
  sound = λ slot lt. rw (server_at-unmarked b slot unmarked) (record {
    small = omega arith;
    rate = omega arith;
    live = λ e. absurd (cc);
  });
}

new-room : (b : Ledger) → b.marks ≡ [] → HaveRoom all_parts 32 (server_at b) (now_of b)
new-room b unmarked = record {
  room = λ bound le.
      let same = sum-eq (λ slot. claimed_by all_parts (server_at b slot) (now_of b) bound) (λ slot. 0) 32
      (λ slot lt. ap (λ (c : Server). claimed_by all_parts c (now_of b) bound)
      (server_at-unmarked b slot unmarked)
      ∙ due-vacant all_parts (now_of b) bound) in
      omega (arith, same, sum-nothing 32);
}

pub keeps-new : (b : Ledger) → b.rows ≡ [] → b.marks ≡ [] → KeepsReservations b
keeps-new b unwritten unmarked = record {
  dated = dated-unmarked b unmarked;
  settled = rw (settled_at-unmarked b unmarked) (omega arith);
  within = λ slot beyond. tenant_at-unmarked b slot unmarked;
  tenants = λ slot. subst (λ tenant. IsTenant tenant (now_of b)) (sym (tenant_at-unmarked b slot unmarked))
      tt;
  sound = new-sound b unmarked;
  sure = λ slot t lt serving. absurd (let none = served-unwritten b slot t unwritten in cc);
  hard = λ slot r sat. absurd (no_sits b slot r true unmarked sat);
  room = λ given. new-room b unmarked;
  each = λ given slot hard r sat. absurd (no_sits b slot r hard unmarked sat);
}

-- an asking seat reaches its deadline with no budget
demand : (b : Ledger) (slot : ℕ) (hard : Bool) (r : Reservation) (n last : ℕ) → KeepsReservations b
    → IsGiven b
    → tenant_at b slot ≡ sits r hard → r.since + n < now_of b → asked b slot (r.since + n) ≡ true
    → last_replenished r (asked b slot) (served b slot) (suc n) ≡ Some last → last + r.y ≤ r.since + n + 1
    → (last + r.y ≡ r.since + n + 1) × (budget_after r (served b slot) (Some last) (r.since + n + 1) ≡ 0)
demand b slot hard r n last keeps given sat before on is reached =
    let fits = (keeps.each given slot hard r sat).fits n before on in
    let budget : (server_within r (asked b slot) (served b slot) n).budget
    ≡ r.x - count (served b slot) last (r.since + n - last) =
    ap (λ l. budget_after r (served b slot) l (r.since + n)) is in
    let deadline : (server_within r (asked b slot) (served b slot) n).deadline ≡ last + r.y =
    ap (deadline_after r) is in
    let le : last ≤ r.since + n = omega (arith, last_before r (asked b slot) (served b slot) (suc n) last is)
    in
    let more = count_more (served b slot) last (r.since + n) le in
    (omega (arith, fits, deadline, reached), omega (arith, fits, deadline, reached, budget, more))

pub deadline-found : (b : Ledger) (slot t last : ℕ) (r : Reservation) → KeepsReservations b → IsGiven b
    → ReachesDeadline b slot r t last
    → (last + r.y ≡ t + 1) × (budget_after r (served b slot) (Some last) (t + 1) ≡ 0)
deadline-found b slot t last r keeps given reaches =
    let at : r.since + (t - r.since) ≡ t = omega (arith, reaches.since) in
    let ticks : t + 1 - r.since ≡ suc (t - r.since) = omega (arith, reaches.since) in
    let on : asked b slot (r.since + (t - r.since)) ≡ true = rw at reaches.asks in
    let is : last_replenished r (asked b slot) (served b slot) (suc (t - r.since)) ≡ Some last =
    rw ticks at reaches.replenished in
    let found = demand b slot reaches.hard r (t - r.since) last keeps given reaches.sits
    (omega (arith, at, reaches.past))
    on is (omega (arith, at, reaches.reached)) in
    subst (λ k. (last + r.y ≡ k + 1) × (budget_after r (served b slot) (Some last) (k + 1) ≡ 0)) at found

-- from the ticks that a port gave
given_by : (b : Ledger) (port t : ℕ) → given b port t ≡ true → is_some (row_at b t).to ≡ true
unfolding promises.given
given_by b port t is = left (is_some (row_at b t).to) ((row_at b t).port == port) is where
  left : (a c : Bool) → (a && c) ≡ true → a ≡ true
  left true c e = refl
  left false c e = absurd (cc)

pub is_given : (b : Ledger) (port : ℕ) → Supplies guarantees.All (given b port) (asked_by Edf b)
    (settled_at b) (now_of b)
    → IsGiven b
is_given b port supplied = record {
  given = λ t from lt on.
      let one : (k : ℕ) → t ≤ k → k < t + 1 → asked_by Edf b k ≡ true =
      λ k lo hi. let same : t ≡ k = omega arith in rw (← same) on in
      given_by b port t (supplied.met t (t + 1) from (omega (arith, lt)) one t (omega arith) (omega arith));
}

-- the cap of a hard seat, whatever was given
pub cap-kept : (b : Ledger) (slot : ℕ) (r : Reservation) → KeepsReservations b → tenant_at b slot
    ≡ sits r true
    → KeepsCap (Resb true r.x r.y) (served b slot) r.since (now_of b)
cap-kept b slot r keeps sat i n lo hi =
    let stay = seat_is b slot r true keeps.tenants sat in
    let some : 0 < r.x = stay.0.0 in
    let narrow : r.x ≤ r.y = stay.0.1 in
    let wide : 0 < r.y = omega arith in
    let at : r.since + (i - r.since) ≡ i = omega arith in
    let to : r.since + (i - r.since + n) - (r.since + (i - r.since)) ≡ n = omega arith in
    let most = cap r (asked b slot) (served b slot) (now_of b) (i - r.since) n (parts-rate r.x r.y wide)
    (parts-near r.x r.y wide) (parts-big r.x r.y some narrow stay.0.2) narrow wide (omega arith)
    (λ k from before. keeps.sure slot k before) (keeps.hard slot r sat) in
    let counted : count (served b slot) i n * all_parts ≤ parts r.x r.y * n + 2 * r.x * all_parts =
    rw (to, at) at most in counted

cap_case : (b : Ledger) (slot : ℕ) (hard : Bool) (r : Reservation) → KeepsReservations b → tenant_at b slot
    ≡ sits r hard
    → KeepsCap (Resb hard r.x r.y) (served b slot) r.since (now_of b)
cap_case b slot true r keeps sat = cap-kept b slot r keeps sat
cap_case b slot false r keeps sat = tt

supplied : (b : Ledger) (slot : ℕ) (hard : Bool) (r : Reservation) → KeepsReservations b → IsGiven b
    → tenant_at b slot ≡ sits r hard
    → Supplies (Resb hard r.x r.y) (served b slot) (asked b slot) r.since (now_of b)
supplied b slot hard r keeps given sat =
    let stay = seat_is b slot r hard keeps.tenants sat in
    record {
      met = λ i j from to on. run_satisfies r hard (asked b slot) (served b slot) (now_of b) i j stay.0.0
          stay.0.1 from to
          on (keeps.each given slot hard r sat) (λ is. keeps.hard slot r (rw is at sat));
      capped = cap_case b slot hard r keeps sat;
    }

by_terms : (b : Ledger) (slot since port : ℕ) (terms : Terms) (g h : Guarantee) → KeepsReservations b
    → tenant_at b slot ≡ Sits terms since → LendsByTerms Edf terms g h
    → Supplies g (given b port) (asked_by Edf b) (settled_at b) (now_of b)
    → Supplies h (served b slot) (asked b slot) since (now_of b)
by_terms b slot since port (Res hard x y) guarantees.All h keeps sat lends has =
    rw lends (supplied b slot hard (record { x = x; y = y; since = since }) keeps (is_given b port has) sat)
by_terms b slot since port _ _ h keeps sat lends has = absurd lends

nothing : (b : Ledger) (slot since : ℕ) (h : Guarantee) → LendsNothing Edf h
    → Supplies h (served b slot) (asked b slot) since (now_of b)
nothing b slot since h lends = rw lends (record { met = λ i j from to on. tt; capped = tt })

pub promise-kept : (b : Ledger) → KeepsReservations b → KeepsPromise Edf b
promise-kept b keeps = record {
  kept = λ ports slot since port terms g h sat lends has. elim lends.lends [
    | inl lent ↦ by_terms b slot since port terms g h keeps sat lent has
    | inr none ↦ nothing b slot since h none
  ];
}
