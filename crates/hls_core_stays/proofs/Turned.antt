-- What a turnover and a tick need, and come to.
use Rattle.std.proofs.Common.{◌≡◌, ℕ, ◌+◌, ◌-◌, ◌<◌, ◌≤◌, ◌^◌, ◌∷◌, [], ◌++◌, List, Bool, true, false}
use Rattle.std.proofs.Common.{length, refl, sym, ap, ◌∙◌, subst, arith, is_none, is_some}
use Rattle.std.specs.Prelude.{Option, Some, None, slice_get, slice_set}
use Rattle.std.specs.Global.{Vec}
use Rattle.hls_scenario.specs.declared.scenario.Command.{Command}
use Rattle.hls_chron.specs.Ticks.{count}
use Rattle.hls_chron.proofs.CountLaws.{count-le}
use Rattle.hls_sched.specs.Seen.{Seen}
use Rattle.hls_machine.specs.Hierarchy.{Hierarchy, Stay, Wake, had_asked, was_served, is_just}
use Rattle.hls_machine.specs.Steps.{Step, Path, after, thread_of, is_thread, with_wake}
use Rattle.hls_machine.specs.Legal.{IsThread, asks_now}
use Rattle.hls_machine.specs.Supplied.{end_of}
use Rattle.hls_legal.specs.Agrees.{idle_in}
use Rattle.hls_tree.specs.Trees.{IsTreeOf, IsReadyOf, Stands, ready_of}
use Rattle.hls_tree.specs.declared.tree.Tree.{Tree}
use Rattle.hls_core_stays.specs.Tallies.{AreStays, IsTally, IsNoted, waited, lasting}
use Rattle.hls_core_stays.specs.Changes.{Turns, MayTurn, Ticks, MayTick, flagged}
use Rattle.hls_core_stays.specs.Inside.Steps.{HasOpen, MayClose, noted_tally, served_tally}
use Rattle.hls_core_stays.specs.Inside.Renewals.{AreRenewable, IsRousing, MayNote}
use Rattle.hls_core_stays.specs.declared.stays.Stays.{Stays}
use Rattle.hls_core_stays.specs.declared.tally.Tally.{Tally}
use Rattle.hls_core_stays.specs.declared.turnover.Turnover.{Turnover}
use Rattle.hls_core_stays.specs.declared.turnover.Turnover.TheVariants.{Nothing, Begins, Ends, Reseats, Renews, Rouses}
use Rattle.hls_core_stays.proofs.Lists.{inner, length-set}
use Rattle.hls_core_stays.proofs.Lasting.{open_in, has_kept}
use Rattle.hls_core_stays.proofs.Ends.{Finds, HasTally, tally_found}
use Rattle.hls_core_stays.proofs.Noted.{note_one}
use Rattle.hls_core_stays.proofs.Ticked.{Goes, IsOn, grown, times, on_ticks, unserved, served_tallies}
use Rattle.hls_tree_nodes.specs.Leapt.{later}
use Rattle.hls_core_stays.proofs.Follows.{follow_nothing, follow_begins, follow_ends, follow_rouses}
use Rattle.hls_core_stays.proofs.Follows.{HasBegun, HasEnded, HasRoused, thread_is, has_open}
use Rattle.hls_core_stays.proofs.Moves.{follow_reseats, follow_renews, HasReseated, HaveRenewed, RenewsThese}

times_most : (b : Bool) (n : ℕ) → times b n ≤ n
times_most true n = omega arith
times_most false n = omega arith

-- V and P are what the checker knows a box by
module _ {V : Type 0} {P : V → Type 0} (seen : (x : V) × P x → Seen) (s : Stays) (t : Tree V P) where
  pub turn_nothing : (turnover : Turnover) (h : Hierarchy) (command : Command) (step : Step) → turnover ≡ Nothing
      → Turns seen s t turnover h command step → AreStays s (after h step)
  turn_nothing turnover h command step is x =
      follow_nothing s h command step (subst
      (Rattle.hls_core_stays.specs.Turnovers.IsTurnover h command) is x.of) x.does
      x.can x.standing x.listed x.stays

  pub turn_begins : (turnover : Turnover) (h : Hierarchy) (command : Command) (step : Step) → turnover ≡ Begins
      → (x : Turns seen s t turnover h command step) → HasBegun s h (after h step) x.stays.kept
  turn_begins turnover h command step is x =
      follow_begins s h command step (subst (Rattle.hls_core_stays.specs.Turnovers.IsTurnover h command) is x.of) x.does
      x.can x.standing x.listed x.stays

  pub turn_ends : (turnover : Turnover) (h : Hierarchy) (command : Command) (step : Step) (id : ℕ)
      → turnover ≡ Ends id → (x : Turns seen s t turnover h command step)
      → HasEnded s h (after h step) x.stays.kept id
  turn_ends turnover h command step id is x =
      follow_ends s h id command step (subst
      (Rattle.hls_core_stays.specs.Turnovers.IsTurnover h command) is x.of) x.does
      x.can x.standing x.listed x.stays

  pub turn_reseats : (turnover : Turnover) (h : Hierarchy) (command : Command) (step : Step) (id : ℕ)
      → turnover ≡ Reseats id → (x : Turns seen s t turnover h command step)
      → HasReseated s h (after h step) x.stays.kept id
  turn_reseats turnover h command step id is x =
      follow_reseats s h id command step (subst
      (Rattle.hls_core_stays.specs.Turnovers.IsTurnover h command) is x.of) x.does
      x.can x.tells x.standing x.listed x.stays

  pub turn_renews : (turnover : Turnover) (h : Hierarchy) (command : Command) (step : Step) (ids : List ℕ)
      → RenewsThese turnover ids → (x : Turns seen s t turnover h command step)
      → HaveRenewed s h (after h step) x.stays.kept ids
  turn_renews turnover h command step ids is x =
      follow_renews s h ids turnover command step x.of is x.does x.can x.tells x.standing x.listed x.stays

  pub begins_stands : (turnover : Turnover) → turnover ≡ Begins → MayTurn seen s t turnover
      → Stands seen t (λ h. (k : ℕ) × (front : List ℕ) × (h.threads ≡ front ++ k ∷ []))
  begins_stands turnover is may =
      let b = turn_begins turnover may.h may.command may.step is may.turns in
      record {
        h = after may.h may.step;
        tree = may.turns.tree;
        seated = may.seated;
        listed = may.listed;
        is = (b.k, b.front, b.threads);
      }

  pub ends_may : (turnover : Turnover) (id : ℕ) → turnover ≡ Ends id → MayTurn seen s t turnover → MayClose s id
  ends_may turnover id is may =
      let e = turn_ends turnover may.h may.command may.step id is may.turns in
      record { h = after may.h may.step; stays = may.turns.stays.kept; are = e.are; has = e.has }

  pub reseats_stands : (turnover : Turnover) (id : ℕ) → turnover ≡ Reseats id → MayTurn seen s t turnover
      → Stands seen t (λ h. IsThread (h.nodes id))
  reseats_stands turnover id is may =
      let r = turn_reseats turnover may.h may.command may.step id is may.turns in
      record {
        h = after may.h may.step;
        tree = may.turns.tree;
        seated = may.seated;
        listed = may.listed;
        is = r.thread;
      }

  pub reseats_may : (turnover : Turnover) (id : ℕ) → turnover ≡ Reseats id → MayTurn seen s t turnover → MayClose s id
  reseats_may turnover id is may =
      let r = turn_reseats turnover may.h may.command may.step id is may.turns in
      record { h = after may.h may.step; stays = may.turns.stays.kept; are = r.are; has = r.has }

  pub renews_stands : (turnover : Turnover) (ids : List ℕ) → RenewsThese turnover ids → MayTurn seen s t turnover
      → Stands seen t (λ h. IsReadyOf seen t h × ((stays : List Stay) × AreRenewable s h stays ids))
  renews_stands turnover ids is may =
      let r = turn_renews turnover may.h may.command may.step ids is may.turns in
      record {
        h = after may.h may.step;
        tree = may.turns.tree;
        seated = may.seated;
        listed = may.listed;
        is = (may.turns.ready, (may.turns.stays.kept, r.may));
      }

  pub rouses_now : (turnover : Turnover) (h : Hierarchy) (command : Command) (step : Step) (id : ℕ)
      → turnover ≡ Rouses id → Turns seen s t turnover h command step → HasRoused h step id
  rouses_now turnover h command step id is x =
      follow_rouses h id command step (subst
      (Rattle.hls_core_stays.specs.Turnovers.IsTurnover h command) is x.of) x.does
      x.can x.listed

  rousing : (h : Hierarchy) (step : Step) (id : ℕ) → AreStays s h → IsTreeOf seen t (after h step)
      → IsReadyOf seen t (after h step) → (x : HasRoused h step id) → IsRousing seen s t h id x.how
  rousing h step id are tree ready x = record {
    are = are;
    has = x.has;
    thread = x.thread;
    tree = subst (IsTreeOf seen t) x.leads tree;
    ready = subst (IsReadyOf seen t) x.leads ready;
  }

  pub rouses_may : (turnover : Turnover) (id : ℕ) → turnover ≡ Rouses id → MayTurn seen s t turnover
      → MayNote seen s t id
  rouses_may turnover id is may =
      let x = rouses_now turnover may.h may.command may.step id is may.turns in
      record {
        h = may.h;
        how = x.how;
        rousing = rousing may.h may.step id may.turns.stays may.turns.tree may.turns.ready x;
      }

  pub turn_rouses : (turnover : Turnover) (id : ℕ) (new : Stays)
      → ((h : Hierarchy) (how : Wake) → IsRousing seen s t h id how → AreStays new (with_wake h id how))
      → turnover ≡ Rouses id → (h : Hierarchy) (command : Command) (step : Step)
      → Turns seen s t turnover h command step → AreStays new (after h step)
  turn_rouses turnover id new noted is h command step turns =
      let x = rouses_now turnover h command step id is turns in
      subst (AreStays new) (sym x.leads) (noted h x.how (rousing h step id turns.stays turns.tree turns.ready x))

  -- ---- a thread that is woken or blocked

  has_now : (h : Hierarchy) (k : ℕ) (are : AreStays s h) → HasOpen h.stays k → HasOpen are.kept k
  has_now h k are has = has_kept h.stays are.kept k (sym are.all) has

  roused_has : (id : ℕ) → (may : MayNote seen s t id) → HasOpen may.rousing.are.kept id
  roused_has id may = has_now may.h id may.rousing.are may.rousing.has

  roused_tally : (id place : ℕ) (may : MayNote seen s t id) → Finds s id place
      → HasTally s may.h place (roused_has id may).stay
  roused_tally id place may finds =
      tally_found s may.h may.rousing.are.kept id place may.rousing.are.are (roused_has id may) finds

  pub note_within : (id place : ℕ) → MayNote seen s t id → Finds s id place → place < length s.tallies.items
  note_within id place may finds = (roused_tally id place may finds).within

  -- what is noted fits
  few_ready : (h : Hierarchy) (stay : Stay) (tally : Tally) (now : ℕ) → IsTally h stay tally → stay.until ≡ None
      → now ≡ h.now → tally.ready + waited now tally.ready_since ≤ now
  few_ready h stay tally now is none at_now =
      let most = count-le (had_asked h.past stay.thread) stay.since (end_of h.now stay.until - stay.since) in
      let end : end_of h.now tally.until ≡ now = ap (end_of h.now) (is.until ∙ none) ∙ sym at_now in
      let total : tally.ready + waited now tally.ready_since
      ≡ count (had_asked h.past stay.thread) stay.since (end_of h.now stay.until - stay.since) =
      ap (λ n. tally.ready + waited n tally.ready_since) (sym end) ∙ is.ready in
      let past = is.past in omega (arith, most, total, past, at_now)

  pub note_fits : (id place now : ℕ) (tally : Tally) → MayNote seen s t id → Finds s id place
      → ((h : Hierarchy) → IsTreeOf seen t h → now ≡ h.now) → slice_get s.tallies.items place ≡ Some tally
      → tally.ready + waited now tally.ready_since ≤ now
  note_fits id place now tally may finds at_now e =
      let has = roused_has id may in
      let x = roused_tally id place may finds in
      let same : x.tally ≡ tally = inner x.tally tally (sym x.there ∙ e) in
      few_ready may.h has.stay tally now (subst (IsTally may.h has.stay) same x.is) has.is_open
      (at_now (with_wake may.h id may.how) may.rousing.tree)

  pub note_does : (id place now : ℕ) (ready : Bool) (new : Stays) → Finds s id place
      → ((h : Hierarchy) → IsTreeOf seen t h → now ≡ h.now) → ready ≡ ready_of seen t id
      → ((tally : Tally) → slice_get s.tallies.items place ≡ Some tally
      → new.tallies.items ≡ slice_set s.tallies.items place (noted_tally ready now tally))
      → new.idle ≡ s.idle → (h : Hierarchy) (how : Wake) → IsRousing seen s t h id how
      → AreStays new (with_wake h id how)
  note_does id place now ready new finds at_now flag set idle h how x = record {
    kept = x.are.kept;
    are = note_one s new h x.are.kept id place now how ready x.are.are (has_now h id x.are x.has) finds
        (at_now (with_wake h id how) x.tree) (λ y there. x.ready id y there ∙ sym flag) set idle;
    all = x.are.all;
  }

  -- ---- ticks

  asks_as_noted : (h : Hierarchy) (asking : ℕ → Bool) (k mask : ℕ) (since : Option ℕ) → is_thread (h.nodes k) ≡ true
      → asking k ≡ asks_now h k mask (h.nodes k) → IsNoted h k since → asking k ≡ is_some since
  asks_as_noted h asking k mask since is asks noted =
      let x = thread_is (h.nodes k) is in
      asks ∙ ap (asks_now h k mask) x.there ∙ sym (noted.is x.thread x.there)

  module _ (thread : Option ℕ) (n : ℕ) (h : Hierarchy) (asking : ℕ → Bool) (masks : ℕ → ℕ) (path : Option Path)
      (x : Ticks seen s t thread n h asking masks path) where
    abbrev on : IsOn h (later h asking masks path n) asking (thread_of path) n
    on = on_ticks h asking masks path n

    goes : (i : ℕ) (stay : Stay) → slice_get x.stays.kept i ≡ Some stay → stay.until ≡ None
        → Goes h (later h asking masks path n) asking (thread_of path) n on (ready_of seen t) stay
    goes i stay e none = record {
      asks = λ since noted.
          (let at = open_in x.stays.kept h.stays i stay x.stays.all e none in
          asks_as_noted h asking stay.thread (masks stay.thread) since (x.standing.there at.0 stay at.1 none)
          (x.can.0.nodes stay.thread) noted);
      others = λ y off there. x.others stay.thread y (ap (λ o. is_just o stay.thread) (sym x.to) ∙ off) there;
    }

    served_has : (k : ℕ) → thread ≡ Some k → HasOpen x.stays.kept k
    served_has k is = has_now h k x.stays (has_open h k x.listed (x.comes k is))

    pub tick_idle : (new : Stays) → thread ≡ None → new.tallies.items ≡ s.tallies.items → new.idle ≡ s.idle + n
        → AreStays new (flagged (ready_of seen t) (later h asking masks path n))
    tick_idle new none same idle = record {
      kept = x.stays.kept;
      are = record {
        many = ap length same ∙ x.stays.are.many;
        each = λ i stay tally e f.
            unserved h (later h asking masks path n) asking (thread_of path) n on (ready_of seen t) stay tally
            (x.stays.are.each i stay tally e (ap (λ l. slice_get l i) (sym same) ∙ f))
            (λ open_yet. ap (λ o. is_just o stay.thread) (x.to ∙ none)) (goes i stay e);
        single = x.stays.are.single;
        idle = idle ∙ ap (λ m. m + n) x.stays.are.idle
            ∙ ap (λ (o : Option ℕ). idle_in h + times (is_none o) n) (sym (x.to ∙ none))
            ∙ sym on.idle;
      };
      all = x.stays.all ∙ ap lasting (sym on.stays);
    }

    pub tick_served : (new : Stays) (k place now : ℕ) (ready : Bool) → thread ≡ Some k → Finds s k place
        → ((h : Hierarchy) → IsTreeOf seen t h → now ≡ h.now) → ready ≡ ready_of seen t k
        → ((tally : Tally) → slice_get s.tallies.items place ≡ Some tally
        → new.tallies.items ≡ slice_set s.tallies.items place (noted_tally ready now (served_tally n tally)))
        → new.idle ≡ s.idle → AreStays new (flagged (ready_of seen t) (later h asking masks path n))
    tick_served new k place now ready is finds at_now flag set idle =
        let has = served_has k is in
        let y = tally_found s h x.stays.kept k place x.stays.are has finds in
        let set_by : (tally : Tally) → slice_get s.tallies.items place ≡ Some tally
        → new.tallies.items
        ≡ slice_set s.tallies.items place (noted_tally (ready_of seen t k) now (served_tally n tally)) =
        λ tally e. set tally e
        ∙ ap (λ b. slice_set s.tallies.items place (noted_tally b now (served_tally n tally))) flag in
        record {
          kept = x.stays.kept;
          are = record {
            many = ap length (set y.tally y.there)
                ∙ length-set s.tallies.items place (noted_tally ready now (served_tally n y.tally)) ∙ x.stays.are.many;
            each = served_tallies h (later h asking masks path n) asking (thread_of path) n on (ready_of seen t) s new
                x.stays.kept k place now x.stays.are has
                finds (at_now (later h asking masks path n) x.tree) (x.to ∙ is) goes set_by;
            single = x.stays.are.single;
            idle = idle ∙ x.stays.are.idle ∙ (let no : idle_in h ≡ idle_in h + 0 = omega arith in no)
                ∙ ap (λ (o : Option ℕ). idle_in h + times (is_none o) n) (sym (x.to ∙ is))
                ∙ sym on.idle;
          };
          all = x.stays.all ∙ ap lasting (sym on.stays);
        }

    tick_within : (k place : ℕ) → thread ≡ Some k → Finds s k place → place < length s.tallies.items
    tick_within k place is finds =
        (tally_found s h x.stays.kept k place x.stays.are (served_has k is) finds).within

    -- a tally before the ticks, of the thread that was served in them
    tick_few : (k place now : ℕ) (tally : Tally) → thread ≡ Some k → Finds s k place → now ≡ h.now + n
        → slice_get s.tallies.items place ≡ Some tally
        → (tally.ready + waited now tally.ready_since ≤ now) × (tally.served + n ≤ now)
    tick_few k place now tally is finds at_now e =
        let has = served_has k is in
        let y = tally_found s h x.stays.kept k place x.stays.are has finds in
        let same : y.tally ≡ tally = inner y.tally tally (sym y.there ∙ e) in
        let z = subst (IsTally h has.stay) same y.is in
        let ready = few_ready h has.stay tally h.now z has.is_open refl in
        let more = grown tally.ready h.now n tally.ready_since (z.noted has.is_open).early in
        let some = times_most (is_some tally.ready_since) n in
        let most = count-le (was_served h.past has.stay.thread) has.stay.since
        (end_of h.now has.stay.until - has.stay.since) in
        let served = z.served in
        let past = z.past in
        let total : tally.ready + waited now tally.ready_since ≤ now =
        subst (λ m. tally.ready + waited m tally.ready_since ≤ m) (sym at_now) (omega (arith, ready, more, some)) in
        (total, omega (arith, at_now, most, served, past))

  module _ (id ticks : ℕ) (may : MayTick seen s t (Some id) ticks) where
    pub serve_within : (place : ℕ) → Finds s id place → place < length s.tallies.items
    serve_within place finds =
        tick_within (Some id) ticks may.h may.asking may.masks may.path may.elapsed id place refl finds

    serve_few : (place now : ℕ) (tally : Tally) → Finds s id place
        → ((h : Hierarchy) → IsTreeOf seen t h → now ≡ h.now) → slice_get s.tallies.items place ≡ Some tally
        → (tally.ready + waited now tally.ready_since ≤ now) × (tally.served + ticks ≤ now)
    serve_few place now tally finds at_now e =
        tick_few (Some id) ticks may.h may.asking may.masks may.path may.elapsed id place now tally refl finds
        (at_now (later may.h may.asking may.masks may.path ticks) may.elapsed.tree
        ∙ (on_ticks may.h may.asking may.masks may.path ticks).now) e

    pub serve_fits : (place now : ℕ) (tally : Tally) → Finds s id place
        → ((h : Hierarchy) → IsTreeOf seen t h → now ≡ h.now) → slice_get s.tallies.items place ≡ Some tally
        → tally.ready + waited now tally.ready_since ≤ now
    serve_fits place now tally finds at_now e = (serve_few place now tally finds at_now e).0

    pub serve_counts : (place now : ℕ) (tally : Tally) → Finds s id place
        → ((h : Hierarchy) → IsTreeOf seen t h → now ≡ h.now) → slice_get s.tallies.items place ≡ Some tally
        → tally.served + ticks ≤ now
    serve_counts place now tally finds at_now e = (serve_few place now tally finds at_now e).1

  pub few_idle : (thread : Option ℕ) (ticks : ℕ) → MayTick seen s t thread ticks → s.idle + ticks < 2 ^ 32
  few_idle thread ticks may =
      let most = count-le (λ x. is_none (may.h.past x).to) 0 may.h.now in
      let are = may.elapsed.stays.are.idle in
      let early = may.elapsed.early in omega (arith, most, are, early)

  -- stays that are as they were before allow the same tick
  pub ticks_still : (new : Stays) (thread : Option ℕ) (ticks : ℕ) (h : Hierarchy) (asking : ℕ → Bool) (masks : ℕ → ℕ)
      (path : Option Path) → ((h : Hierarchy) → AreStays s h → AreStays new h)
      → Ticks seen s t thread ticks h asking masks path → Ticks seen new t thread ticks h asking masks path
  ticks_still new thread ticks h asking masks path same x = record {
    stays = same h x.stays;
    standing = x.standing;
    listed = x.listed;
    can = x.can;
    to = x.to;
    comes = x.comes;
    tree = x.tree;
    others = x.others;
    early = x.early;
  }

  pub may_still : (new : Stays) (thread : Option ℕ) (ticks : ℕ) → ((h : Hierarchy) → AreStays s h → AreStays new h)
      → MayTick seen s t thread ticks → MayTick seen new t thread ticks
  may_still new thread ticks same may = record {
    h = may.h;
    asking = may.asking;
    masks = may.masks;
    path = may.path;
    elapsed = ticks_still new thread ticks may.h may.asking may.masks may.path same may.elapsed;
  }

  pub tick_at : (thread : Option ℕ) (id ticks : ℕ) → thread ≡ Some id → MayTick seen s t thread ticks
      → MayTick seen s t (Some id) ticks
  tick_at thread id ticks is may = subst (λ o. MayTick seen s t o ticks) is may

pub these_are : (turnover : Turnover) (threads : Vec ℕ) (ids : List ℕ) → turnover ≡ Renews threads
    → ids ≡ threads.items → RenewsThese turnover ids
these_are turnover threads ids is value = subst (λ x. RenewsThese x ids) (sym is) (sym value)

pub same_stays : (s new : Stays) → new.tallies.items ≡ s.tallies.items → new.idle ≡ s.idle → (h : Hierarchy)
    → AreStays s h → AreStays new h
same_stays s new same idle h are = record {
  kept = are.kept;
  are = record {
    many = ap length same ∙ are.are.many;
    each = λ at stay tally e f. are.are.each at stay tally e (ap (λ l. slice_get l at) (sym same) ∙ f);
    single = are.are.single;
    idle = idle ∙ are.are.idle;
  };
  all = are.all;
}
