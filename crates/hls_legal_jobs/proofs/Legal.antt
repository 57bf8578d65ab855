-- Jobs of the threads of legal runs.
use Rattle.std.proofs.Common.{◌≡◌, ℕ, ◌+◌, ◌<◌, List, Option, Some, None, Bool, true, false, ◌&&◌, is_some}
use Rattle.std.proofs.Common.{◌==◌, refl, sym, ap, ◌∙◌, subst, arith}
use Rattle.hls_chron.specs.declared.plain.Config.{Config}
use Rattle.hls_chron.specs.declared.plain.Config.TheVariants as configs
use Rattle.hls_chron.specs.declared.plain.Terms.{Terms}
use Rattle.hls_chron.specs.declared.plain.Terms.TheVariants.{Res}
use Rattle.hls_chron.specs.declared.plain.Kind.TheVariants as kinds
use Rattle.hls_chron.specs.Kinds.{kind_of}
use Rattle.hls_chron.specs.Ledger.{Ledger, now_of, row_at}
use Rattle.hls_chron.specs.Seats.{asked, served}
use Rattle.hls_kinds.specs.declared.tenant.Tenant.TheVariants.{Sits}
use Rattle.hls_kinds.specs.declared.reservations.Reservation.{Reservation}
use Rattle.hls_kinds.specs.Tenants.{tenant_at, settled_at}
use Rattle.hls_kinds.specs.Made.{IsMade}
use Rattle.hls_kinds.proofs.MarkLaws.{sits_on}
use Rattle.hls_guarantee.specs.declared.Guarantee.{Guarantee}
use Rattle.hls_guarantee.specs.declared.Guarantee.TheVariants.{All}
use Rattle.hls_guarantee.specs.Supply.{Supplies}
use Rattle.hls_book.specs.Promise.{given, asked_by}
use Rattle.hls_book.specs.Books.{IsGiven}
use Rattle.hls_book.proofs.Books.{admission_made, reservations_made}
use Rattle.hls_machine.specs.Hierarchy.{Hierarchy, Node, Loaded, Admitted, Seat, Scheduler, Tick, start}
use Rattle.hls_machine.specs.Hierarchy.{seat_of, book_of, had_asked, was_served, asking_of, given_of, since_of}
use Rattle.hls_machine.specs.Steps.{Step, state}
use Rattle.hls_machine.specs.Legal.{IsLegal}
use Rattle.hls_machine.specs.Linked.{book_at, IsSupplied, SitsBelow, SitsAt}
use Rattle.hls_machine.proofs.Nodes.{nobody_sits}
use Rattle.hls_machine.proofs.Moments.{linked, supplied}
use Rattle.hls_machine.proofs.Runs.{run_keeps, start_kept}
use Rattle.hls_machine.proofs.Books.{AllMade, made_at, legal_made}
use Rattle.hls_machine.proofs.Supply.{run_promised}
use Rattle.hls_legal_jobs.specs.Jobs.{AsksForJobs, AreInTime}
use Rattle.hls_legal_jobs.specs.Runs.{HasReservation}
use Rattle.hls_legal_jobs.proofs.InTime.{jobs_in_book}
use Rattle.hls_legal_jobs.proofs.SeatedSince.{sits_since}
use Rattle.hls_legal_jobs.proofs.Agreeing.{Agree, turned, jobs-agree, in_time-agree}
use Rattle.hls_chron.proofs.ConfigLaws.{of_edf}

-- who sits on a node sits on a scheduler
record IsLoaded (node : Option Node) : Type 0 where
  pub scheduler : Scheduler
  pub there : node ≡ Some (Loaded scheduler)

loaded_there : (node : Option Node) (slot since : ℕ) (terms : Terms) → tenant_at (book_of node) slot ≡ Sits terms since
    → IsLoaded node
loaded_there None slot since terms e = absurd (nobody_sits 0 0 0 slot since terms e)
loaded_there (Some (Admitted t)) slot since terms e = absurd (nobody_sits 0 0 0 slot since terms e)
loaded_there (Some (Loaded s)) slot since terms e = record { scheduler = s; there = refl }

edf_config : (config : Config) → kinds.Edf ≡ kind_of config → config ≡ configs.Edf
edf_config config e =
    of_edf (λ config. config ≡ configs.Edf)
    refl config (sym e)

reservations_config : (config : Config) (b : Ledger) (slot since x y : ℕ) (hard : Bool) → IsMade config b
    → tenant_at b slot ≡ Sits (Res hard x y) since → config ≡ configs.Edf
reservations_config config b slot since x y hard made e =
    edf_config config
    ((admission_made config b made).seats.of_kind slot (Res hard x y) (sits_on b slot since (Res hard x y) e))

given-some : (b : Ledger) (port t : ℕ) → given b port t ≡ true → is_some (row_at b t).to ≡ true
unfolding given
given-some b port t e = and_left (is_some (row_at b t).to) ((row_at b t).port == port) e
  where
    and_left : (a c : Bool) → (a && c) ≡ true → a ≡ true
    and_left true c e = refl
    and_left false c e = absurd (cc)

-- a scheduler for which all is guaranteed is given each tick in which it asks
all_given : (b : Ledger) (port : ℕ) (g : Guarantee) → g ≡ All
    → Supplies g (given b port) (asked_by configs.Edf b) (settled_at b) (now_of b) → IsGiven b
all_given b port g is supply = record {
  given = λ t from to on.
      let all : Supplies All (given b port) (asked_by configs.Edf b) (settled_at b) (now_of b) =
      subst (λ (x : Guarantee). Supplies x (given b port) (asked_by configs.Edf b) (settled_at b)
      (now_of b)) is supply in
      given-some b port t (all.met t (t + 1) from (omega arith)
      (λ u lo hi. let same : u ≡ t = omega arith in
      ap (asked_by configs.Edf b) same ∙ on) t (omega arith) (omega arith));
}

-- what is known of the scheduler on which a thread sits
by_book : (past : ℕ → Tick) (k port now : ℕ) (node : Option Node) (s : Scheduler) (g : Guarantee)
    → node ≡ Some (Loaded s) → s.config ≡ configs.Edf → now_of (book_of node) ≡ now
    → Supplies g (given_of past k node port) (asking_of past k node) (since_of node) now
    → Supplies g (given s.book port) (asked_by configs.Edf s.book) (settled_at s.book) (now_of s.book)
by_book past k port now any s g there edf clock supply =
    let here : Supplies g (given s.book port) (asked_by s.config s.book) (settled_at s.book) now =
    subst (λ (n : Option Node). Supplies g (given_of past k n port) (asking_of past k n)
    (since_of n) now) there supply in
    let on : Supplies g (given s.book port) (asked_by configs.Edf s.book) (settled_at s.book) now =
    subst (λ (config : Config). Supplies g (given s.book port) (asked_by config s.book)
    (settled_at s.book) now) edf here in
    subst (λ (hi : ℕ). Supplies g (given s.book port) (asked_by configs.Edf s.book) (settled_at s.book) hi)
    (sym clock ∙ ap (λ n. now_of (book_of n)) there) on

module _ (h : Hierarchy) (rank : ℕ → ℕ) (sits_now : (c port : ℕ) (seat : Seat) → seat_of (h.nodes c) port ≡ Some seat
    → SitsAt h rank c port seat seat.place) (supply : IsSupplied h) (made : AllMade h)
    (k : ℕ) (r : Reservation) (has : HasReservation h k r)
    (since : tenant_at (book_at h has.scheduler) has.slot ≡ Sits has.thread.seat.terms has.thread.stay)
    (periods : ℕ → ℕ) (from : ℕ) (released : ℕ → Bool) where
  abbrev p : ℕ
  p = has.scheduler

  below_now : SitsBelow h rank k 0 has.thread.seat p has.slot
  below_now = subst (SitsAt h rank k 0 has.thread.seat) has.sits
      (sits_now k 0 has.thread.seat (ap (λ n. seat_of n 0) has.there))

  tenant_now : tenant_at (book_at h p) has.slot ≡ Sits (Res has.hard r.x r.y) r.since
  tenant_now = since ∙ ap (λ terms. Sits terms has.thread.stay) has.terms
      ∙ ap (λ n. Sits (Res has.hard r.x r.y) n) has.since

  loaded : IsLoaded (h.nodes p)
  loaded = loaded_there (h.nodes p) has.slot r.since (Res has.hard r.x r.y) tenant_now

  abbrev b : Ledger
  b = loaded.scheduler.book

  tenant_there : tenant_at b has.slot ≡ Sits (Res has.hard r.x r.y) r.since
  tenant_there = sym (ap (λ n. tenant_at (book_of n) has.slot) loaded.there) ∙ tenant_now

  made_there : IsMade loaded.scheduler.config b
  made_there = made_at h p loaded.scheduler made loaded.there

  edf : loaded.scheduler.config ≡ configs.Edf
  edf = reservations_config loaded.scheduler.config b has.slot r.since r.x r.y has.hard made_there tenant_there

  made_edf : IsMade configs.Edf b
  made_edf = subst (λ (config : Config). IsMade config b) edf made_there

  given_there : IsGiven b
  given_there = all_given b has.all.port has.all.seat.kept has.all.kept
      (by_book h.past p has.all.port h.now (h.nodes p) loaded.scheduler has.all.seat.kept loaded.there edf
      below_now.now (supply p has.all.port has.all.seat has.all.sits))

  clock : now_of b ≡ h.now
  clock = sym (ap (λ n. now_of (book_of n)) loaded.there) ∙ below_now.now

  stays_since : since_of (h.nodes k) ≡ r.since
  stays_since = ap since_of has.there ∙ has.since

  asks_alike : Agree (asked b has.slot) (had_asked h.past k) r.since (now_of b)
  asks_alike t from to =
      sym (ap (λ n. asked (book_of n) has.slot t) loaded.there)
      ∙ below_now.asks t (omega (arith, stays_since)) (omega (arith, clock))
      ∙ ap (λ n. asking_of h.past k n t) has.there

  serves_alike : Agree (served b has.slot) (was_served h.past k) r.since (now_of b)
  serves_alike t from to =
      sym (ap (λ n. served (book_of n) has.slot t) loaded.there)
      ∙ below_now.gives t (omega (arith, stays_since)) (omega (arith, clock))
      ∙ ap (λ n. given_of h.past k n 0 t) has.there

  pub wide : 0 < r.x
  wide =
      let tenant = rw tenant_there at ((reservations_made b made_edf).tenants has.slot) in
      tenant.0.0

  pub jobs_in_hierarchy : AsksForJobs r periods from released (had_asked h.past k) (was_served h.past k) h.now
      → AreInTime r periods from released (had_asked h.past k) (was_served h.past k) h.now
  jobs_in_hierarchy jobs =
      let theirs : AsksForJobs r periods from released (had_asked h.past k) (was_served h.past k) (now_of b) =
      rw clock jobs in
      let mine = jobs-agree r periods from released (had_asked h.past k) (asked b has.slot) (was_served h.past k)
      (served b has.slot)
      (now_of b) (turned (asked b has.slot) (had_asked h.past k) r.since (now_of b) asks_alike)
      (turned (served b has.slot) (was_served h.past k) r.since (now_of b) serves_alike) theirs in
      let good = jobs_in_book b has.slot has.hard r periods from released made_edf given_there tenant_there mine in
      subst (λ (now : ℕ). AreInTime r periods from released (had_asked h.past k) (was_served h.past k) now) clock
      (in_time-agree r periods from released (asked b has.slot) (had_asked h.past k) (served b has.slot)
      (was_served h.past k)
      (now_of b) asks_alike serves_alike jobs.since good)

pub jobs_in_run : (steps : List Step) (k : ℕ) (r : Reservation) (periods : ℕ → ℕ) (from : ℕ) (released : ℕ → Bool)
    → IsLegal start steps
    → HasReservation (state start steps) k r
    → AsksForJobs r periods from released (had_asked (state start steps).past k)
    (was_served (state start steps).past k) (state start steps).now
    → AreInTime r periods from released (had_asked (state start steps).past k) (was_served (state start steps).past k)
    (state start steps).now
jobs_in_run steps k r periods from released legal has =
    let kept = run_keeps steps start start_kept legal in
    jobs_in_hierarchy (state start steps) kept.rank kept.sound.sits
    (supplied (state start steps) kept.rank (linked (state start steps) kept.rank kept.sound)
    (run_promised steps legal))
    (legal_made steps legal) k r has
    (sits_since steps legal k has.thread has.scheduler has.slot has.there has.sits) periods from released

pub wide_in_run : (steps : List Step) (k : ℕ) (r : Reservation) → IsLegal start steps
    → HasReservation (state start steps) k r → 0 < r.x
wide_in_run steps k r legal has =
    let kept = run_keeps steps start start_kept legal in
    wide (state start steps) kept.rank kept.sound.sits
    (supplied (state start steps) kept.rank (linked (state start steps) kept.rank kept.sound)
    (run_promised steps legal))
    (legal_made steps legal) k r has
    (sits_since steps legal k has.thread has.scheduler has.slot has.there has.sits) (λ w. 1) 0 (λ t. false)
