-- In a legal run the book of a scheduler has the seat of each thread since the tick in which the thread's stay began.
use Rattle.std.proofs.Common.{◌≡◌, ◌≢◌, ℕ, zero, suc, inl, inr, List, [], ◌∷◌, ◌++◌, ◌||◌, slice_get, Option, Some}
use Rattle.std.proofs.Common.{None, Bool, true, false, if◌then◌else◌, ◌==◌, refl, sym, ap, ◌∙◌, subst, fold}
use Rattle.std.proofs.lemmas.List.Sums.{fold-append}
use Rattle.std.proofs.lemmas.Bool.{cases_eq, cases_Bool, eq-eqb}
use Rattle.hls_chron.specs.declared.plain.Terms.{Terms}
use Rattle.hls_chron.specs.declared.book.Event.{Event}
use Rattle.hls_chron.specs.declared.book.Event.TheVariants.{Settle}
use Rattle.hls_chron.specs.Ledger.{now_of}
use Rattle.hls_kinds.specs.declared.tenant.Tenant.{Tenant}
use Rattle.hls_kinds.specs.declared.tenant.Tenant.TheVariants.{Vacant, Sits, Left}
use Rattle.hls_kinds.specs.Tenants.{after_settling, tenant_after, tenant_at}
use Rattle.hls_machine.specs.Hierarchy.{Hierarchy, Node, Loaded, Admitted, Thread, At, Seat, Wake, Asleep}
use Rattle.hls_machine.specs.Hierarchy.{seats_of, seat_of, book_of, start}
use Rattle.hls_machine.specs.Steps.{Step, Refuse, Load, Admit, End, Unload, Move, Rouse, Block, Elapse, Hop, hop_at}
use Rattle.hls_machine.specs.Steps.{hops_of, marked, renewed, roused, reseated, ticked, seatings, leavings, effect}
use Rattle.hls_machine.specs.Steps.{nobody, is_thread, loaded, admitted, row_by, with_wake, wake_by, elapsed, after}
use Rattle.hls_machine.specs.Steps.{state, Path}
use Rattle.hls_machine.specs.Legal.{Can, IsLegal, IsBelow}
use Rattle.hls_machine.specs.Linked.{book_at, SitsBelow, SitsAt}
use Rattle.hls_machine.proofs.Marks.{tenant_at-marks, now_of-marks}
use Rattle.hls_machine.proofs.Nodes.{nobody_sits, book-roused, tenant-marked, seats-renewed}
use Rattle.hls_machine.proofs.Seatings.{Elsewhere, Apart, seatings_off, seatings_here, leavings_off}
use Rattle.hls_machine.proofs.Kept.{IsSound, at_same, at_other}
use Rattle.hls_machine.proofs.Effects.{Owed, effect_sound, rank_after}
use Rattle.hls_machine.proofs.Runs.{Kept, step_owes, step_keeps, start_kept}
use Rattle.hls_machine.proofs.Stays.{begun_now}
use Rattle.hls_kinds.proofs.MarkLaws.{tenant_at-row}
use Rattle.hls_legal.proofs.Alike.{alike_other}

abbrev pub SitsSince : Hierarchy → Type 0
SitsSince h = (c : ℕ) (t : Thread) (p slot : ℕ) → h.nodes c ≡ Some (Admitted t) → t.seat.place ≡ At p slot
    → tenant_at (book_at h p) slot ≡ Sits t.seat.terms t.stay

-- who sits after a settling sits since then
settled_sits : (now since : ℕ) (terms : Terms) (t : Tenant) → after_settling now t ≡ Sits terms since → since ≡ now
settled_sits now since terms Vacant e = absurd (cc)
settled_sits now since terms (Left other from at) e = absurd (cc)
settled_sits now since terms (Sits other from) e = cc

settled_since : (now since slot : ℕ) (terms : Terms) (node : Option Node)
    → tenant_at (book_of (renewed true now node)) slot ≡ Sits terms since
    → since ≡ now_of (book_of (renewed true now node))
settled_since now since slot terms None e = absurd (nobody_sits 0 0 0 slot since terms e)
settled_since now since slot terms (Some (Admitted t)) e = absurd (nobody_sits 0 0 0 slot since terms e)
settled_since now since slot terms (Some (Loaded s)) e =
    settled_sits (now_of s.book) since terms (tenant_at s.book slot)
    (sym (tenant_at-marks s.book slot (Settle ∷ [])) ∙ e)

-- a thread in a node that is marked, or renewed, was there before
marked_thread : (events : List Event) (node : Option Node) (t : Thread) → marked events node ≡ Some (Admitted t)
    → node ≡ Some (Admitted t)
marked_thread events None t e = absurd (cc)
marked_thread events (Some (Loaded s)) t e = absurd (cc)
marked_thread events (Some (Admitted x)) t e = e

-- who takes a seat sits since then
taken_since : (gone taken : List Seat) (p slot since port : ℕ) (seat : Seat) (terms : Terms) (node : Option Node)
    → Apart taken → slice_get taken port ≡ Some seat → seat.place ≡ At p slot
    → tenant_at (book_of (marked (leavings gone p ++ seatings taken p) node)) slot ≡ Sits terms since
    → since ≡ now_of (book_of (marked (leavings gone p ++ seatings taken p) node))
taken_since gone taken p slot since port seat terms None apart g is e = absurd (nobody_sits 0 0 0 slot since terms e)
taken_since gone taken p slot since port seat terms (Some (Admitted t)) apart g is e =
    absurd (nobody_sits 0 0 0 slot since terms e)
taken_since gone taken p slot since port seat terms (Some (Loaded s)) apart g is e =
    let now = now_of s.book in
    let was = tenant_at s.book slot in
    let here : Sits seat.terms now ≡ Sits terms since =
    sym (tenant_at-marks s.book slot (leavings gone p ++ seatings taken p)
    ∙ fold-append (tenant_after slot now) was (leavings gone p) (seatings taken p)
    ∙ seatings_here taken p slot now port seat (fold (tenant_after slot now) was (leavings gone p)) apart g is) ∙ e in
    let same : now ≡ since = cc in
    sym same ∙ sym (now_of-marks s.book (leavings gone p ++ seatings taken p))

-- who takes no seat there, and leaves none, changes nothing of a slot
kept_since : (gone taken : List Seat) (p slot since : ℕ) (terms : Terms) (node : Option Node)
    → Elsewhere gone p slot → Elsewhere taken p slot → tenant_at (book_of node) slot ≡ Sits terms since
    → tenant_at (book_of (marked (leavings gone p ++ seatings taken p) node)) slot ≡ Sits terms since
kept_since gone taken p slot since terms node off away e =
    let now = now_of (book_of node) in
    let was = tenant_at (book_of node) slot in
    tenant-marked (leavings gone p ++ seatings taken p) node slot since terms e
    ∙ fold-append (tenant_after slot now) was (leavings gone p) (seatings taken p)
    ∙ seatings_off taken p slot now (fold (tenant_after slot now) was (leavings gone p)) away
    ∙ leavings_off gone p slot now was off
    ∙ e

-- of the threads, those that are below sit on what is below
abbrev IsAbove : Hierarchy → (k : ℕ) → (below : ℕ → Bool) → Type 0
IsAbove h k below = (c : ℕ) (seat : Seat) (p slot : ℕ) → is_thread (h.nodes c) ≡ true
    → seat_of (h.nodes c) 0 ≡ Some seat → seat.place ≡ At p slot → c ≢ k → below c ≡ true → below p ≡ true

module _ (h : Hierarchy) (rank : ℕ → ℕ) (sound : IsSound h rank) (k : ℕ) (node : Option Node) (below : ℕ → Bool)
    (owed : Owed h rank k node below) (up : IsAbove h k below) (was : SitsSince h) where
  abbrev made : Hierarchy
  made = effect h k node below

  abbrev gone : List Seat
  gone = seats_of (h.nodes k)

  abbrev taken : List Seat
  taken = seats_of node

  abbrev inner : ℕ → Option Node
  inner c = if c == k then node else marked (leavings gone c ++ seatings taken c) (h.nodes c)

  module _ (c : ℕ) (t : Thread) (p slot : ℕ) (there : made.nodes c ≡ Some (Admitted t))
      (at_place : t.seat.place ≡ At p slot) where
    after_sound : IsSound made (rank_after h rank sound k node below owed)
    after_sound = effect_sound h rank sound k node below owed

    seat_there : seat_of (made.nodes c) 0 ≡ Some t.seat
    seat_there = ap (λ n. seat_of n 0) there

    sits : SitsBelow made (rank_after h rank sound k node below owed) c 0 t.seat p slot
    sits = subst (SitsAt made (rank_after h rank sound k node below owed) c 0 t.seat) at_place
        (after_sound.sits c 0 t.seat seat_there)

    begun : (below c || c == k) ≡ true → t.stay ≡ h.now
    begun on = begun_now h rank k node below owed c t on there

    or_left : (a b : Bool) → a ≡ true → (a || b) ≡ true
    or_left true b e = refl
    or_left false b e = absurd (cc)

    or_right : (a b : Bool) → b ≡ true → (a || b) ≡ true
    or_right true b e = refl
    or_right false b e = e

    -- the seat of k
    new_seat : c ≡ k → slice_get taken 0 ≡ Some t.seat
    new_seat is =
        sym (ap (λ seats. slice_get seats 0) (seats-renewed (below c) h.now (inner c)
        ∙ ap seats_of (at_same c k node (marked (leavings gone c ++ seatings taken c) (h.nodes c)) is)))
        ∙ seat_there

    -- another's
    was_there : c ≢ k → below c ≡ false → h.nodes c ≡ Some (Admitted t)
    was_there ne off =
        marked_thread (leavings gone c ++ seatings taken c) (h.nodes c) t
        (sym (at_other c k node (marked (leavings gone c ++ seatings taken c) (h.nodes c)) ne)
        ∙ sym (ap (λ b. renewed b h.now (inner c)) off) ∙ there)

    old_seat : c ≢ k → seat_of (h.nodes c) 0 ≡ Some t.seat
    old_seat ne = sym (ap (λ seats. slice_get seats 0) (alike_other h k node below c ne).seats) ∙ seat_there

    above_it : c ≢ k → below c ≡ true → below p ≡ true
    above_it ne on = up c t.seat p slot (sym (alike_other h k node below c ne).sort ∙ ap is_thread there)
        (old_seat ne) at_place ne on

    not_settled : c ≢ k → below c ≡ false → below p ≡ false
    not_settled ne off = elim (cases_Bool (below p)) [
      | inl on ↦ let bad = owed.down c 0 t.seat p slot (old_seat ne) at_place on in absurd (cc)
      | inr idle ↦ idle
    ]

    settled_now : below p ≡ true → sits.from ≡ h.now
    settled_now on =
        let is : made.nodes p ≡ renewed true h.now (inner p) = ap (λ b. renewed b h.now (inner p)) on in
        settled_since h.now sits.from slot t.seat.terms (inner p) (sym (ap (λ n. tenant_at (book_of n) slot) is)
        ∙ sits.sits)
        ∙ sym (ap (λ n. now_of (book_of n)) is) ∙ sits.now

    parent : p ≢ k → below p ≡ false → made.nodes p ≡ marked (leavings gone p ++ seatings taken p) (h.nodes p)
    parent ne off = ap (λ b. renewed b h.now (inner p)) off
        ∙ at_other p k node (marked (leavings gone p ++ seatings taken p) (h.nodes p)) ne

    taken_now : c ≡ k → below p ≡ false → sits.from ≡ h.now
    taken_now is off =
        let mine = new_seat is in
        let ne : p ≢ k = λ e. owed.not_on_it 0 t.seat slot mine (at_place ∙ ap (λ n. At n slot) e) in
        let here = parent ne off in
        taken_since gone taken p slot sits.from 0 t.seat t.seat.terms (h.nodes p) owed.apart mine at_place
        (sym (ap (λ n. tenant_at (book_of n) slot) here) ∙ sits.sits)
        ∙ sym (ap (λ n. now_of (book_of n)) here) ∙ sits.now

    kept_on : c ≢ k → below c ≡ false → below p ≡ false → tenant_at (book_at made p) slot ≡ Sits t.seat.terms t.stay
    kept_on ne off idle =
        let old = was_there ne off in
        let had = was c t p slot old at_place in
        let apart : p ≢ k = λ e.
        (let rider = owed.riders c 0 t.seat slot t.stay (old_seat ne) (at_place ∙ ap (λ n. At n slot) e)
        (sym (ap (λ n. tenant_at (book_at h n) slot) e) ∙ had) in
        let on = rider.settles in let same = ap below e in cc) in
        let here = parent apart idle in
        let off_gone : Elsewhere gone p slot = λ q two f at_two.
        ne (sound.alone c k 0 q t.seat two (old_seat ne) f (at_place ∙ sym at_two)).node in
        let off_taken : Elsewhere taken p slot = λ q two f at_two.
        ne (after_sound.alone c k 0 q t.seat two seat_there
        (ap (λ seats. slice_get seats q) (seats-renewed (below k) h.now (inner k)
        ∙ ap seats_of (at_same k k node (marked (leavings gone k ++ seatings taken k) (h.nodes k)) refl)) ∙ f)
        (at_place ∙ sym at_two)).node in
        ap (λ n. tenant_at (book_of n) slot) here
        ∙ kept_since gone taken p slot t.stay t.seat.terms (h.nodes p) off_gone off_taken had

    now_since : sits.from ≡ h.now → t.stay ≡ h.now → tenant_at (book_at made p) slot ≡ Sits t.seat.terms t.stay
    now_since e f = sits.sits ∙ ap (λ n. Sits t.seat.terms n) (e ∙ sym f)

    goes_on : tenant_at (book_at made p) slot ≡ Sits t.seat.terms t.stay
    goes_on = elim (cases_eq c k) [
      | inl is ↦
          let begins = begun (or_right (below c) (c == k) (eq-eqb c k is)) in
          elim (cases_Bool (below p)) [
            | inl on ↦ now_since (settled_now on) begins
            | inr off ↦ now_since (taken_now is off) begins
          ]
      | inr ne ↦ elim (cases_Bool (below c)) [
        | inl on ↦
            let begins = begun (or_left (below c) (c == k) on) in
            now_since (settled_now (above_it ne on)) begins
        | inr off ↦ kept_on ne off (not_settled ne off)
      ]
    ]

  pub effect_since : SitsSince (effect h k node below)
  effect_since c t p slot there at_place = goes_on c t p slot there at_place

-- ---- steps

nobody_above : (h : Hierarchy) (k : ℕ) → IsAbove h k nobody
nobody_above h k c seat p slot thread at sits ne on = absurd (cc)

lone_seat : (node : Option Node) (seat other : Seat) (port : ℕ) → is_thread node ≡ true → seat_of node 0 ≡ Some seat
    → seat_of node port ≡ Some other → other ≡ seat
lone_seat None seat other port is e f = absurd (cc)
lone_seat (Some (Loaded s)) seat other port is e f = absurd (cc)
lone_seat (Some (Admitted t)) seat other zero is e f = cc
lone_seat (Some (Admitted t)) seat other (suc port) is e f = absurd (cc)

move_above : (h : Hierarchy) (k : ℕ) (below : ℕ → Bool) → IsBelow h k below → IsAbove h k below
move_above h k below is c seat p slot thread at sits ne on = elim (is.up c on) [
  | inl same ↦ absurd (ne same)
  | inr above ↦
      let lone = lone_seat (h.nodes c) seat above.1.seat above.1.port thread at above.1.sits in
      let place : At above.0 above.1.slot ≡ At p slot =
      sym above.1.at_place ∙ ap (λ (x : Seat). x.place) lone ∙ sits in
      let same : above.0 ≡ p = cc in
      sym (ap below same) ∙ above.2
]

roused_case : (how : Wake) (node : Option Node) (t : Thread) → roused how node ≡ Some (Admitted t)
    → (x : Thread) × (node ≡ Some (Admitted x)) × (x.seat ≡ t.seat) × (x.stay ≡ t.stay)
roused_case how None t e = absurd (cc)
roused_case how (Some (Loaded s)) t e = absurd (cc)
roused_case how (Some (Admitted x)) t e =
    let same : record x { wake = how } ≡ t = cc in
    (x, refl, ap (λ (y : Thread). y.seat) same, ap (λ (y : Thread). y.stay) same)

roused_if : (how : Wake) (node : Option Node) (t : Thread) (b : Bool)
    → (if b then roused how node else node) ≡ Some (Admitted t)
    → (x : Thread) × (node ≡ Some (Admitted x)) × (x.seat ≡ t.seat) × (x.stay ≡ t.stay)
roused_if how any t true e = roused_case how any t e
roused_if how any t false e = (t, e, refl, refl)

roused_book : (how : Wake) (node : Option Node) (b : Bool)
    → book_of (if b then roused how node else node) ≡ book_of node
roused_book how any true = book-roused how any
roused_book how any false = refl

since_roused : (h : Hierarchy) (k : ℕ) (how : Wake) → SitsSince h → SitsSince (with_wake h k how)
since_roused h k how was c t p slot there at_place =
    let old = roused_if how (h.nodes c) t (c == k) there in
    ap (λ b. tenant_at b slot) (roused_book how (h.nodes p) (p == k))
    ∙ was c old.0 p slot old.1 (ap (λ (x : Seat). x.place) old.2 ∙ at_place)
    ∙ ap (λ (x : Seat). Sits x.terms old.0.stay) old.2 ∙ ap (λ n. Sits t.seat.terms n) old.3

ticked_thread : (mask : ℕ) (hop : Option Hop) (node : Option Node) (t : Thread)
    → ticked mask hop node ≡ Some (Admitted t)
    → node ≡ Some (Admitted t)
ticked_thread mask hop None t e = absurd (cc)
ticked_thread mask hop (Some (Loaded s)) t e = absurd (cc)
ticked_thread mask hop (Some (Admitted x)) t e = e

ticked_tenant : (mask : ℕ) (hop : Option Hop) (node : Option Node) (slot : ℕ)
    → tenant_at (book_of (ticked mask hop node)) slot ≡ tenant_at (book_of node) slot
ticked_tenant mask hop None slot = refl
ticked_tenant mask hop (Some (Loaded s)) slot = tenant_at-row s.book (row_by mask hop) slot
ticked_tenant mask hop (Some (Admitted t)) slot = refl

since_elapsed : (h : Hierarchy) (asking : ℕ → Bool) (masks : ℕ → ℕ) (path : Option Path) → SitsSince h
    → SitsSince (elapsed h asking masks path)
since_elapsed h asking masks path was c t p slot there at_place =
    ticked_tenant (masks p) (hop_at (hops_of path) p) (h.nodes p) slot
    ∙ was c t p slot (ticked_thread (masks c) (hop_at (hops_of path) c) (h.nodes c) t there) at_place

step_since : (h : Hierarchy) (step : Step) → Kept h → Can h step → SitsSince h → SitsSince (after h step)
step_since h Refuse k can was = was
step_since h (Load c name config spare_ticks spare_marks seats) k can was =
    effect_since h k.rank k.sound c (Some (Loaded (loaded h.now name config spare_ticks spare_marks seats))) nobody
    (step_owes h k.rank (Load c name config spare_ticks spare_marks seats) k.sound can) (nobody_above h c) was
step_since h (Admit c name seat) k can was =
    effect_since h k.rank k.sound c (Some (Admitted (admitted h.now name seat))) nobody
    (step_owes h k.rank (Admit c name seat) k.sound can) (nobody_above h c) was
step_since h (End c) k can was =
    effect_since h k.rank k.sound c None nobody (step_owes h k.rank (End c) k.sound can) (nobody_above h c) was
step_since h (Unload c) k can was =
    effect_since h k.rank k.sound c None nobody (step_owes h k.rank (Unload c) k.sound can) (nobody_above h c) was
step_since h (Move c seat below) k can was =
    effect_since h k.rank k.sound c (reseated seat (h.nodes c)) below
    (step_owes h k.rank (Move c seat below) k.sound can) (move_above h c below can.0.under) was
step_since h (Rouse c burst) k can was = since_roused h c (wake_by burst h.now) was
step_since h (Block c) k can was = since_roused h c Asleep was
step_since h (Elapse asking masks path) k can was = since_elapsed h asking masks path was

run_since : (steps : List Step) (h : Hierarchy) → Kept h → IsLegal h steps → SitsSince h → SitsSince (state h steps)
run_since [] h k legal was = was
run_since (step ∷ steps) h k legal was =
    run_since steps (after h step) (step_keeps h step k legal.0) legal.1 (step_since h step k legal.0 was)

pub sits_since : (steps : List Step) → IsLegal start steps → SitsSince (state start steps)
sits_since steps legal = run_since steps start start_kept legal (λ c t p slot there at_place. absurd (cc))
