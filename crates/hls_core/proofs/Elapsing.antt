-- Ticks elapse on a tree.
use Rattle.std.proofs.Common.{◌≡◌, ℕ, zero, suc, ◌+◌, ◌<◌, ◌≤◌, ◌^◌, Bool, true, false, cond, List, [], ◌∷◌}
use Rattle.std.proofs.Common.{◌++◌, length, map}
use Rattle.std.proofs.Common.{refl, sym, ap, ◌∙◌, subst, arith}
use Rattle.std.specs.Prelude.{Option, Some, None, All}
use Rattle.std.proofs.lemmas.Bool.{eqb-true}
use Rattle.std.proofs.lemmas.List.Elements.{All-nil, All-cons}
use Rattle.hls_text.specs.Lines.{Text}
use Rattle.hls_report_text.specs.declared.report.Path.{Path}
use Rattle.hls_sched.specs.Seen.{Seen}
use Rattle.hls_machine.specs.Hierarchy.{Hierarchy, Place, Processor, At, Admitted, Thread, start, name_of}
use Rattle.hls_machine.specs.Hierarchy.{is_ready, was_served, is_just}
use Rattle.hls_machine.specs.Steps.{Hop, Step, Elapse, after, thread_of, hops_of, hop_at, ticked}
use Rattle.hls_machine.specs.Steps as steps
use Rattle.hls_machine.specs.Legal.{Can, Walk, MayRun, IsReached}
use Rattle.hls_machine.proofs.Goes.{state_goes, legal_goes}
use Rattle.hls_machine.proofs.Lists.{run_listed}
use Rattle.hls_machine.proofs.Seated.{run_seated}
use Rattle.hls_machine.specs.Lists.{IsListed}
use Rattle.hls_machine.specs.Seated.{IsSeated}
use Rattle.hls_tree_nodes.specs.TreeOf as walks
use Rattle.hls_legal.specs.Tells.{Names}
use Rattle.hls_tree.specs.Trees.{IsTreeOf, IsReadyOf, Any, Stands, PassesBy, Passes, ready_of}
use Rattle.hls_tree.specs.declared.tree.Tree.{Tree}
use Rattle.hls_manager.proofs.Outcomes.{reached_listed}
use Rattle.hls_core_stays.specs.Tallies.{AreStays}
use Rattle.hls_core_stays.specs.Changes.{Ticks, MayTick, flagged}
use Rattle.hls_core_stays.specs.declared.stays.Stays.{Stays}
use Rattle.hls_core_journal.specs.declared.journal.Journal.{Journal}
use Rattle.hls_core_journal.specs.Kept.{IsWayOrIdle}
use Rattle.hls_core_journal.specs.Ways.{names_by}
use Rattle.hls_core.specs.Begun.{next_by, used, released, is_due, ends_within, first_of}
use Rattle.hls_core.specs.Bursts.{begun_in, left_in, next_in}
use Rattle.hls_core.specs.Left.{IsLeft}
use Rattle.hls_core.specs.Inside.Ways.{IsKnown, IsRouteOrIdle, TellsRoute}
use Rattle.hls_core.specs.Cores.{AreNoted}
use Rattle.hls_core.specs.Inside.Elapses.{IsThreadOrNone, IsWithin, IsAfter, MayElapse, Elapses}
use Rattle.hls_core.specs.declared.bursts.Bursts.{Bursts}
use Rattle.hls_core.specs.declared.begun.Release.{Release}
use Rattle.hls_core.proofs.Firsts.{is_next}
use Rattle.hls_core.proofs.Wakes.{used_if, used_next, next_small}
use Rattle.hls_core.proofs.Readiness.{left_ticked, ready_ticked, still_ready}
use Rattle.hls_core.proofs.Carried.{unmoved}
use Rattle.hls_core_stays.proofs.Flags.{unflagged}
use Rattle.hls_core_stays.proofs.Ticked.{on_ticks}
use Rattle.hls_tree.proofs.Chosen.{chosen_one}
use Rattle.hls_tree_nodes.specs.Leapt.{StandsIn, MayLeap, later}
use Rattle.hls_sched.specs.Boxed.{boxed}
use Rattle.hls_tree_nodes.specs.Views.{shown_at, choice_at}

-- the thread that a walk comes to
pub record Comes (h : Hierarchy) (k : ℕ) : Type 0 where
  pub thread : Thread
  pub there : h.nodes k ≡ Some (Admitted thread)
  pub ready : is_ready (was_served h.past k) h.now thread.wake ≡ true

walk_comes : (h : Hierarchy) (masks : ℕ → ℕ) (place : Place) (hops : List Hop) (k : ℕ) → Walk h masks place hops k
    → Comes h k
walk_comes h masks place [] k walk = record { thread = walk.thread; there = walk.there; ready = walk.ready }
walk_comes h masks place (hop ∷ hops) k walk = walk_comes h masks (At hop.node hop.slot) hops k walk.1

known_by : (h : Hierarchy) (j : Journal) (k : ℕ) (name : Text) → AreNoted h j → name_of (h.nodes k) ≡ Some name
    → IsKnown h j k
known_by h j k name noted has = record { name = name; has = has; known = noted k name has }

walk_known : (h : Hierarchy) (j : Journal) (masks : ℕ → ℕ) (place : Place) (hops : List Hop) (k : ℕ) → AreNoted h j
    → Walk h masks place hops k → All (IsKnown h j) (walks.nodes_of hops k)
walk_known h j masks place [] k noted walk =
    All-cons (IsKnown h j) k [] (known_by h j k walk.thread.name noted (ap name_of walk.there)) (All-nil (IsKnown h j))
walk_known h j masks place (hop ∷ hops) k noted walk =
    All-cons (IsKnown h j) hop.node (walks.nodes_of hops k)
    (known_by h j hop.node walk.0.scheduler.name noted (ap name_of walk.0.there))
    (walk_known h j masks (At hop.node hop.slot) hops k noted walk.1)

some_nodes : (hops : List Hop) (k : ℕ) → 0 < length (walks.nodes_of hops k)
some_nodes [] k = omega arith
some_nodes (hop ∷ hops) k = omega arith

route_known : (h : Hierarchy) (j : Journal) (asking : ℕ → Bool) (masks : ℕ → ℕ) (path : Option steps.Path)
    → AreNoted h j → MayRun h asking masks path → IsRouteOrIdle h j (walks.route_of path)
route_known h j asking masks None noted may = tt
route_known h j asking masks (Some path) noted may = record {
  some = some_nodes path.hops path.thread;
  known = walk_known h j masks Processor path.hops path.thread noted may.1;
}

-- the thread of a path is there, and ready
pub runs_thread : (h : Hierarchy) (asking : ℕ → Bool) (masks : ℕ → ℕ) (path : Option steps.Path) (k : ℕ)
    → MayRun h asking masks path → is_just (thread_of path) k ≡ true → Comes h k
runs_thread h asking masks None k may on = absurd (cc)
runs_thread h asking masks (Some path) k may on =
    let same : path.thread ≡ k = eqb-true path.thread k on in
    subst (Comes h) same (walk_comes h masks Processor path.hops path.thread may.1)

pub ran : (h : Hierarchy) (asking : ℕ → Bool) (masks : ℕ → ℕ) (path : Option steps.Path) → MayRun h asking masks path
    → (k : ℕ) (t : Thread) → h.nodes k ≡ Some (Admitted t) → is_just (thread_of path) k ≡ true
    → is_ready (was_served h.past k) h.now t.wake ≡ true
ran h asking masks path may k t there on =
    let comes = runs_thread h asking masks path k may on in
    let other = comes.there in
    let same : comes.thread ≡ t = cc in
    subst (λ (x : Thread). is_ready (was_served h.past k) h.now x.wake ≡ true) same comes.ready

-- what the path tells
names_of : (h : Hierarchy) (j : Journal) (path : Option steps.Path) (told : Option Path)
    → TellsRoute h j (walks.route_of path) told → Names h path (names_by j.names.keys told)
names_of h j None None tells = tt
names_of h j None (Some p) tells = absurd tells
names_of h j (Some path) None tells = absurd tells
names_of h j (Some path) (Some p) tells = tells.names

way_of : (h : Hierarchy) (j : Journal) (path : Option steps.Path) (told : Option Path)
    → TellsRoute h j (walks.route_of path) told → IsWayOrIdle j told
way_of h j None None tells = tt
way_of h j None (Some p) tells = absurd tells
way_of h j (Some path) None tells = absurd tells
way_of h j (Some path) (Some p) tells = tells.way

-- the thread that is granted is that of the path
pub granted : (path : Option steps.Path) (route : Option (List ℕ)) (thread : Option ℕ) → route ≡ walks.route_of path
    → (route ≡ None → thread ≡ None)
    → ((front : List ℕ) (last : ℕ) → route ≡ Some (front ++ last ∷ []) → thread ≡ Some last)
    → thread ≡ thread_of path
granted None route thread e none some = none e
granted (Some path) route thread e none some = some (map (λ (hop : Hop). hop.node) path.hops) path.thread e

-- who is the thread of a path
just_is : (o : Option ℕ) (k : ℕ) → is_just o k ≡ true → o ≡ Some k
just_is None k on = absurd (cc)
just_is (Some x) k on = ap (λ n. Some n) (eqb-true x k on)

thread_later : (h : Hierarchy) (asking : ℕ → Bool) (masks : ℕ → ℕ) (path : Option steps.Path) (n k : ℕ) (t : Thread)
    → h.nodes k ≡ Some (Admitted t) → (later h asking masks path n).nodes k ≡ Some (Admitted t)
thread_later h asking masks path zero k t there = there
thread_later h asking masks path (suc n) k t there =
    ap (ticked (masks k) (hop_at (hops_of path) k)) (thread_later h asking masks path n k t there)

thread_stays : (h : Hierarchy) (asking : ℕ → Bool) (masks : ℕ → ℕ) (path : Option steps.Path) (n : ℕ)
    (thread : Option ℕ) → thread ≡ thread_of path → MayRun h asking masks path
    → IsThreadOrNone (later h asking masks path n) thread
thread_stays h asking masks path n None e may = tt
thread_stays h asking masks path n (Some k) e may =
    let here : is_just (thread_of path) k ≡ true =
    ap (λ o. is_just o k) (sym e) ∙ Rattle.std.proofs.lemmas.Bool.eq-eqb k k refl in
    let comes = runs_thread h asking masks path k may here in
    record { thread = comes.thread; there = thread_later h asking masks path n k comes.thread comes.there }

-- where ticks of a legal run lead, a legal run leads
pub later_reached : (h : Hierarchy) (asking : ℕ → Bool) (masks : ℕ → ℕ) (path : Option steps.Path) (n : ℕ)
    → IsReached h → ((m : ℕ) → m < n → Can (later h asking masks path m) (Elapse asking masks path))
    → IsReached (later h asking masks path n)
later_reached h asking masks path zero r can = r
later_reached h asking masks path (suc n) r can =
    let before = later_reached h asking masks path n r (λ m lt. can m (omega (arith, lt))) in
    let step : Step = Elapse asking masks path in
    record {
      past = before.past ++ step ∷ [];
      legal =
          legal_goes before.past start step before.legal
          (subst (λ g. Can g step) before.leads (can n (omega arith)));
      leads = ap (λ g. after g step) before.leads ∙ sym (state_goes before.past start step);
    }

-- V and P are what the checker knows a box by
module _ {V : Type 0} {P : V → Type 0} (seen : (x : V) × P x → Seen) (choice : (x : V) × P x → Option ℕ) where
  -- what a pass and the ticks after it leave
  pub record Leaps (old passed turned : Tree V P) (bursts : Bursts) (thread : Option ℕ) (n : ℕ) : Type 0 where
    pub tree : (h : Hierarchy) → IsTreeOf seen old h → IsTreeOf seen passed h
    pub passes : (h : Hierarchy) → IsTreeOf seen old h → IsReadyOf seen old h → Passes seen choice passed h
    pub flags : (k : ℕ) → ready_of seen passed k ≡ ready_of seen old k
    pub none : passed.route ≡ None → thread ≡ None
    pub some : (front : List ℕ) (last : ℕ) → passed.route ≡ Some (front ++ last ∷ []) → thread ≡ Some last
    pub law : 1 < n → (k : ℕ)
        → StandsIn n (choice_at (boxed choice) passed.nodes k) (shown_at (boxed seen) passed.nodes k)
    pub burst : IsWithin (left_in bursts) thread n
    pub ahead : (h : Hierarchy) → IsTreeOf seen old h → (k : ℕ) (release : Release) → next_in bursts k ≡ Some release
        → h.now + n ≤ release.tick
    pub elapsed : (h : Hierarchy) (asking : ℕ → Bool) (slots : ℕ → ℕ) (path : Option steps.Path)
        → IsTreeOf seen passed h → PassesBy seen choice passed h asking slots path
        → MayLeap (shown_at (boxed seen) passed.nodes) (choice_at (boxed choice) passed.nodes) h asking slots path n
        → IsAfter seen turned h asking slots path n
    pub turns : (k : ℕ) → ready_of seen turned k ≡ ready_of seen passed k

  -- and what it leaves that their thread was served
  pub record Serves (turned new : Tree V P) (bursts spent : Bursts) (thread : Option ℕ) (n : ℕ) : Type 0 where
    pub tree : (h : Hierarchy) → IsTreeOf seen turned h → IsTreeOf seen new h
    pub ready : (k : ℕ) → ready_of seen new k ≡ cond (is_just thread k)
        (cond (ends_within n (left_in bursts k)) false (ready_of seen turned k)) (ready_of seen turned k)
    pub begun : (k : ℕ) → begun_in spent k ≡ cond (is_just thread k) (used n (begun_in bursts k)) (begun_in bursts k)

  -- and what the releases leave that come in a tick
  pub record Renews (served new : Tree V P) (spent whole : Bursts) (tick : ℕ) : Type 0 where
    pub tree : (h : Hierarchy) → IsTreeOf seen served h → IsTreeOf seen new h
    pub flags : (h : Hierarchy) → IsTreeOf seen served h → IsListed h → (k : ℕ) (t : Thread)
        → h.nodes k ≡ Some (Admitted t)
        → ready_of seen new k ≡ cond (is_due tick (next_in spent k)) true (ready_of seen served k)
    pub begun : (k : ℕ) → begun_in whole k ≡ released tick (begun_in spent k)

  -- the first release of all, once it is known
  pub known_may : (t : Tree V P) (bursts known : Bursts) (stays : Stays) (j : Journal) (most : ℕ)
      → ((k : ℕ) → begun_in known k ≡ begun_in bursts k) → (h : Hierarchy)
      → MayElapse seen t bursts stays j most h → MayElapse seen t known stays j most h
  known_may t bursts known stays j most same h may = record {
    at_state = unmoved seen t bursts known h same may.at_state;
    stays = may.stays;
    standing = may.standing;
    noted = may.noted;
    early = may.early;
    short = may.short;
  }

  pub known_stands : (t : Tree V P) (bursts known : Bursts) (stays : Stays) (j : Journal) (most : ℕ)
      → ((k : ℕ) → begun_in known k ≡ begun_in bursts k)
      → Stands seen t (MayElapse seen t bursts stays j most) → Stands seen t (MayElapse seen t known stays j most)
  known_stands t bursts known stays j most same x = record {
    h = x.h;
    tree = x.tree;
    seated = x.seated;
    listed = x.listed;
    is = known_may t bursts known stays j most same x.h x.is;
  }

  pub ticks_fit : (t : Tree V P) (bursts : Bursts) (stays : Stays) (j : Journal) (most n now : ℕ) → n ≤ most
      → ((h : Hierarchy) → IsTreeOf seen t h → now ≡ h.now) → Stands seen t (MayElapse seen t bursts stays j most)
      → now + n < 2 ^ 32
  ticks_fit t bursts stays j most n now le at_now x =
      let here = at_now x.h x.tree in
      let early = x.is.early in
      let short = x.is.short in omega (arith, here, early, short, le)

  -- it comes later than now
  pub first_later : (t : Tree V P) (bursts : Bursts) (stays : Stays) (j : Journal) (most now : ℕ) (first : Option ℕ)
      → first ≡ first_of bursts.begun.items → ((h : Hierarchy) → IsTreeOf seen t h → now ≡ h.now)
      → Stands seen t (MayElapse seen t bursts stays j most) → (tick : ℕ) → first ≡ Some tick → now < tick
  first_later t bursts stays j most now first is at_now x tick e =
      let next = is_next bursts.begun.items tick (sym is ∙ e) in
      let small = next_small (was_served x.h.past next.node) x.h.now (begun_in bursts next.node) (x.h.nodes next.node)
      next.release (x.is.at_state.left.at next.node) next.next_is in
      let here = at_now x.h x.tree in
      let later = small.later in
      let tick_is = next.tick_is in omega (arith, here, later, tick_is)

  pub passed_stands : (old new : Tree V P) (bursts : Bursts) (stays : Stays) (j : Journal) (most : ℕ)
      → Stands seen old (MayElapse seen old bursts stays j most)
      → ((h : Hierarchy) → IsTreeOf seen old h → IsTreeOf seen new h)
      → ((h : Hierarchy) → IsTreeOf seen old h → IsReadyOf seen old h → Passes seen choice new h)
      → Stands seen new (λ h. IsRouteOrIdle h j new.route)
  passed_stands old new bursts stays j most x tree passes =
      let p = passes x.h x.tree x.is.at_state.ready in record {
        h = x.h;
        tree = tree x.h x.tree;
        seated = x.seated;
        listed = x.listed;
        is = subst (IsRouteOrIdle x.h j) (sym p.3.route_is)
            (route_known x.h j p.0 p.1 p.2 x.is.noted p.3.can.1);
      }

  pub passed_any : (old new : Tree V P) (bursts : Bursts) (stays : Stays) (j : Journal) (most : ℕ)
      → Stands seen old (MayElapse seen old bursts stays j most)
      → ((h : Hierarchy) → IsTreeOf seen old h → IsTreeOf seen new h) → Stands seen new Any
  passed_any old new bursts stays j most x tree = record {
    h = x.h;
    tree = tree x.h x.tree;
    seated = x.seated;
    listed = x.listed;
    is = tt;
  }

  -- one tick
  one_can : (h : Hierarchy) (asking : ℕ → Bool) (slots : ℕ → ℕ) (path : Option steps.Path) (m : ℕ) → m < 1
      → Can h (Elapse asking slots path) → Can (later h asking slots path m) (Elapse asking slots path)
  one_can h asking slots path zero lt can = can
  one_can h asking slots path (suc m) lt can = absurd (omega (arith, lt))

  pub after_one : (new : Tree V P) (h : Hierarchy) (asking : ℕ → Bool) (slots : ℕ → ℕ) (path : Option steps.Path)
      (n : ℕ) → n ≡ 1 → Can h (Elapse asking slots path)
      → IsTreeOf seen new (after h (Elapse asking slots path)) → IsAfter seen new h asking slots path n
  after_one new h asking slots path n one can tree =
      subst (IsAfter seen new h asking slots path) (sym one)
      (record { can = λ m lt. one_can h asking slots path m lt can; tree = tree })

  pub leap_stands : (old new : Tree V P) (bursts : Bursts) (stays : Stays) (j : Journal) (most n : ℕ)
      → Stands seen old (MayElapse seen old bursts stays j most)
      → ((h : Hierarchy) → IsTreeOf seen old h → IsTreeOf seen new h) → new.horizon ≡ old.horizon → n ≤ most
      → Stands seen new (λ h. h.now + n ≤ new.horizon)
  leap_stands old new bursts stays j most n x tree same le = record {
    h = x.h;
    tree = tree x.h x.tree;
    seated = x.seated;
    listed = x.listed;
    is = (let early = x.is.early in omega (arith, early, same, le));
  }

  module _ (old passed turned : Tree V P) (bursts : Bursts) (stays : Stays) (j : Journal) (most n : ℕ)
      (thread : Option ℕ) (leaps : Leaps old passed turned bursts thread n) where
    thread_is : (h : Hierarchy) (asking : ℕ → Bool) (slots : ℕ → ℕ) (path : Option steps.Path)
        → PassesBy seen choice passed h asking slots path → thread ≡ thread_of path
    thread_is h asking slots path by = granted path passed.route thread by.route_is leaps.none leaps.some

    may_leap : (h : Hierarchy) (asking : ℕ → Bool) (slots : ℕ → ℕ) (path : Option steps.Path)
        → MayElapse seen old bursts stays j most h → PassesBy seen choice passed h asking slots path
        → MayLeap (shown_at (boxed seen) passed.nodes) (choice_at (boxed choice) passed.nodes) h asking slots path n
    may_leap h asking slots path may by =
        let is_thread = thread_is h asking slots path by in
        let still : (m k : ℕ) (t : Thread) → m < n → h.nodes k ≡ Some (Admitted t)
        → is_ready (was_served (later h asking slots path m).past k) (later h asking slots path m).now t.wake
        ≡ is_ready (was_served h.past k) h.now t.wake =
        λ m k t lt there. still_ready h asking slots path m (begun_in bursts) may.at_state.left k t there
        (ran h asking slots path by.can.1 k t there)
        (λ rest on is. (let all = leaps.burst k rest (is_thread ∙ just_is (thread_of path) k on) is in
        omega (arith, all, lt)))
        (λ release next. (let ahead = leaps.ahead h may.at_state.tree k release next in
        let now = (on_ticks h asking slots path m).now in omega (arith, ahead, now, lt))) in
        record {
          one = λ m k slot lt on serves.
              chosen_one _ _ _ _ _ _ h asking slots path n may.at_state.reached
              (leaps.tree h may.at_state.tree).of by (leaps.law (omega (arith, lt))) m k slot (omega (arith, lt)) on
              serves;
          ready = λ m k t lt there.
              (let was = (on_ticks h asking slots path m).was k t there in
              still (suc m) k t lt was ∙ sym (still m k t (omega (arith, lt)) was));
        }

    is_after : (h : Hierarchy) (asking : ℕ → Bool) (slots : ℕ → ℕ) (path : Option steps.Path)
        → MayElapse seen old bursts stays j most h → PassesBy seen choice passed h asking slots path
        → IsAfter seen turned h asking slots path n
    is_after h asking slots path may by =
        leaps.elapsed h asking slots path (leaps.tree h may.at_state.tree) by (may_leap h asking slots path may by)

    pub turned_stands : Stands seen old (MayElapse seen old bursts stays j most)
        → Stands seen turned (λ h. IsThreadOrNone h thread)
    turned_stands x =
        let p = leaps.passes x.h x.tree x.is.at_state.ready in
        let at = is_after x.h p.0 p.1 p.2 x.is p.3 in
        let r = later_reached x.h p.0 p.1 p.2 n x.is.at_state.reached at.can in
        record {
          h = later x.h p.0 p.1 p.2 n;
          tree = at.tree;
          seated = subst IsSeated (sym r.leads) (run_seated r.past r.legal);
          listed = subst IsListed (sym r.leads) (run_listed r.past r.legal);
          is = thread_stays x.h p.0 p.1 p.2 n thread (thread_is x.h p.0 p.1 p.2 p.3) p.3.can.1;
        }

    module _ (new : Tree V P) (spent : Bursts) (serves : Serves turned new bursts spent thread n) where
      -- where they lead
      served_tree : (h : Hierarchy) (asking : ℕ → Bool) (slots : ℕ → ℕ) (path : Option steps.Path)
          → MayElapse seen old bursts stays j most h → PassesBy seen choice passed h asking slots path
          → IsTreeOf seen new (later h asking slots path n)
      served_tree h asking slots path may by =
          serves.tree (later h asking slots path n) (is_after h asking slots path may by).tree

      served_reached : (h : Hierarchy) (asking : ℕ → Bool) (slots : ℕ → ℕ) (path : Option steps.Path)
          → MayElapse seen old bursts stays j most h → PassesBy seen choice passed h asking slots path
          → IsReached (later h asking slots path n)
      served_reached h asking slots path may by =
          later_reached h asking slots path n may.at_state.reached (is_after h asking slots path may by).can

      served_flag : (h : Hierarchy) (asking : ℕ → Bool) (slots : ℕ → ℕ) (path : Option steps.Path)
          → PassesBy seen choice passed h asking slots path → (k : ℕ)
          → ready_of seen new k ≡ cond (is_just (thread_of path) k)
          (cond (ends_within n (left_in bursts k)) false (ready_of seen old k)) (ready_of seen old k)
      served_flag h asking slots path by k =
          serves.ready k
          ∙ ap (λ o. cond (is_just o k) (cond (ends_within n (left_in bursts k)) false (ready_of seen turned k))
          (ready_of seen turned k)) (thread_is h asking slots path by)
          ∙ ap (λ b. cond (is_just (thread_of path) k) (cond (ends_within n (left_in bursts k)) false b) b)
          (leaps.turns k ∙ leaps.flags k)

      spent_begun : (h : Hierarchy) (asking : ℕ → Bool) (slots : ℕ → ℕ) (path : Option steps.Path)
          → PassesBy seen choice passed h asking slots path → (k : ℕ)
          → begun_in spent k ≡ used_if (is_just (thread_of path) k) n (begun_in bursts k)
      spent_begun h asking slots path by k =
          serves.begun k
          ∙ ap (λ o. cond (is_just o k) (used n (begun_in bursts k)) (begun_in bursts k))
          (thread_is h asking slots path by)

      pub spent_next : (k : ℕ) → next_in spent k ≡ next_in bursts k
      spent_next k = ap next_by (serves.begun k) ∙ used_next (is_just thread k) n (begun_in bursts k)

      pub spent_none : (tick : ℕ) {A : Type 0} → (A → (k : ℕ) → is_due tick (next_in bursts k) ≡ false) → A → (k : ℕ)
          → is_due tick (next_in spent k) ≡ false
      spent_none tick none other k = ap (is_due tick) (spent_next k) ∙ none other k

      -- what the ticks of stays ask
      may_count : (h : Hierarchy) (asking : ℕ → Bool) (masks : ℕ → ℕ) (path : Option steps.Path) → n ≤ most
          → MayElapse seen old bursts stays j most h → PassesBy seen choice passed h asking masks path
          → Ticks seen stays new thread n h asking masks path
      may_count h asking masks path le may by =
          let is_thread = thread_is h asking masks path by in
          record {
            stays = may.stays;
            standing = may.standing;
            listed = reached_listed h may.at_state.reached;
            can = by.can;
            to = sym is_thread;
            comes = λ k e.
                (let on : is_just (thread_of path) k ≡ true =
                ap (λ o. is_just o k) (sym is_thread ∙ e) ∙ Rattle.std.proofs.lemmas.Bool.eq-eqb k k refl in
                let comes = runs_thread h asking masks path k by.can.1 on in
                record { thread = comes.thread; there = comes.there });
            tree = served_tree h asking masks path may by;
            others = λ k t off there.
                may.at_state.ready k t there
                ∙ sym (serves.ready k
                ∙ ap (λ b. cond b (cond (ends_within n (left_in bursts k)) false (ready_of seen turned k))
                (ready_of seen turned k)) off ∙ leaps.turns k ∙ leaps.flags k);
            early = (let early = may.early in let short = may.short in omega (arith, early, short, le));
          }

      pub count_stands : n ≤ most → Stands seen old (MayElapse seen old bursts stays j most)
          → MayTick seen stays new thread n
      count_stands le x =
          let p = leaps.passes x.h x.tree x.is.at_state.ready in
          record {
            h = x.h;
            asking = p.0;
            masks = p.1;
            path = p.2;
            elapsed = may_count x.h p.0 p.1 p.2 le x.is p.3;
          }

      module _ (counted : Stays)
          (counts : (h : Hierarchy) (asking : ℕ → Bool) (slots : ℕ → ℕ) (path : Option steps.Path)
          → Ticks seen stays new thread n h asking slots path
          → AreStays counted (flagged (ready_of seen new) (later h asking slots path n))) where
        -- what the releases ask in the last of the ticks
        pub release_stands : n ≤ most → Stands seen old (MayElapse seen old bursts stays j most)
            → Stands seen new (λ h. AreStays counted (flagged (ready_of seen new) h))
        release_stands le x =
            let p = leaps.passes x.h x.tree x.is.at_state.ready in
            let r = served_reached x.h p.0 p.1 p.2 x.is p.3 in
            record {
              h = later x.h p.0 p.1 p.2 n;
              tree = served_tree x.h p.0 p.1 p.2 x.is p.3;
              seated = subst IsSeated (sym r.leads) (run_seated r.past r.legal);
              listed = reached_listed (later x.h p.0 p.1 p.2 n) r;
              is = counts x.h p.0 p.1 p.2 (may_count x.h p.0 p.1 p.2 le x.is p.3);
            }

        module _ (final : Tree V P) (whole : Bursts) (kept : Stays) (now : ℕ)
            (at_now : (h : Hierarchy) → IsTreeOf seen old h → now ≡ h.now)
            (renews : Renews new final spent whole (now + n))
            (noted : (h : Hierarchy) → IsTreeOf seen new h → IsListed h
            → AreStays counted (flagged (ready_of seen new) h) → AreStays kept (flagged (ready_of seen final) h)) where
          last_tick : (h : Hierarchy) (asking : ℕ → Bool) (slots : ℕ → ℕ) (path : Option steps.Path)
              → MayElapse seen old bursts stays j most h → now + n ≡ (later h asking slots path n).now
          last_tick h asking slots path may =
              let here = at_now h may.at_state.tree in
              let there = (on_ticks h asking slots path n).now in omega (arith, here, there)

          all_ahead : (h : Hierarchy) (asking : ℕ → Bool) (slots : ℕ → ℕ) (path : Option steps.Path)
              → MayElapse seen old bursts stays j most h → (k : ℕ) (release : Release)
              → next_in bursts k ≡ Some release → (later h asking slots path n).now ≤ release.tick
          all_ahead h asking slots path may k release e =
              let ahead = leaps.ahead h may.at_state.tree k release e in
              let there = (on_ticks h asking slots path n).now in omega (arith, ahead, there)

          final_ready : (h : Hierarchy) (asking : ℕ → Bool) (slots : ℕ → ℕ) (path : Option steps.Path)
              → MayElapse seen old bursts stays j most h → PassesBy seen choice passed h asking slots path
              → IsReadyOf seen final (later h asking slots path n)
          final_ready h asking slots path may by =
              let end : Hierarchy = later h asking slots path n in
              let listed = reached_listed end (served_reached h asking slots path may by) in
              let tree = served_tree h asking slots path may by in
              ready_ticked h asking slots path n (begun_in bursts) (ready_of seen old) (ready_of seen final)
              may.at_state.left may.at_state.ready
              (λ k t there. renews.flags end tree listed k t there
              ∙ ap (λ m. cond (is_due m (next_in spent k)) true (ready_of seen new k))
              (last_tick h asking slots path may)
              ∙ ap (λ o. cond (is_due end.now o) true (ready_of seen new k)) (spent_next k)
              ∙ ap (λ b. cond (is_due end.now (next_in bursts k)) true b) (served_flag h asking slots path by k))
              (ran h asking slots path by.can.1) (all_ahead h asking slots path may)

          final_left : (h : Hierarchy) (asking : ℕ → Bool) (slots : ℕ → ℕ) (path : Option steps.Path)
              → MayElapse seen old bursts stays j most h → PassesBy seen choice passed h asking slots path
              → IsLeft (begun_in whole) (later h asking slots path n)
          final_left h asking slots path may by =
              left_ticked h asking slots path n (begun_in bursts) (begun_in whole) may.at_state.left
              (λ k. renews.begun k
              ∙ ap (λ m. released m (begun_in spent k)) (last_tick h asking slots path may)
              ∙ ap (released (later h asking slots path n).now) (spent_begun h asking slots path by k))
              (ran h asking slots path by.can.1) (all_ahead h asking slots path may)

          pub elapses : (told : Option Path) → n ≤ most
              → ((h : Hierarchy) → IsTreeOf seen passed h → TellsRoute h j passed.route told)
              → (h : Hierarchy) → MayElapse seen old bursts stays j most h → Elapses seen final whole kept j h told n
          elapses told le tells h may =
              let p = leaps.passes h may.at_state.tree may.at_state.ready in
              let route : TellsRoute h j (walks.route_of p.2) told =
              subst (λ r. TellsRoute h j r told) p.3.route_is (tells h (leaps.tree h may.at_state.tree)) in
              let end : Hierarchy = later h p.0 p.1 p.2 n in
              let tree = served_tree h p.0 p.1 p.2 may p.3 in
              let ready = final_ready h p.0 p.1 p.2 may p.3 in
              record {
                asking = p.0;
                masks = p.1;
                path = p.2;
                is = record { can = (is_after h p.0 p.1 p.2 may p.3).can; tree = renews.tree end tree };
                names = names_of h j p.2 told route;
                way = way_of h j p.2 told route;
                ready = ready;
                left = final_left h p.0 p.1 p.2 may p.3;
                stays =
                    unflagged kept end (ready_of seen final) ready
                    (noted end tree (reached_listed end (served_reached h p.0 p.1 p.2 may p.3))
                    (counts h p.0 p.1 p.2 (may_count h p.0 p.1 p.2 le may p.3)));
              }

      -- the releases that are kept have numbers of 32 bits
      pub release_fits : (now : ℕ) → n ≤ most → ((h : Hierarchy) → IsTreeOf seen old h → now ≡ h.now)
          → Stands seen old (MayElapse seen old bursts stays j most) → (k : ℕ) (release : Release)
          → next_in spent k ≡ Some release → release.tick ≡ now + n → release.tick + release.every < 2 ^ 32
      release_fits now le at_now x k release e tick =
          let small = next_small (was_served x.h.past k) x.h.now (begun_in bursts k) (x.h.nodes k) release
          (x.is.at_state.left.at k) (sym (spent_next k) ∙ e) in
          let here = at_now x.h x.tree in
          let early = x.is.early in
          let short = x.is.short in
          let few = small.every in omega (arith, here, early, short, few, le, tick)
