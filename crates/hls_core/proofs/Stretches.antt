-- For how many ticks a grant stands, in the terms of the hierarchy.
use Rattle.std.proofs.Common.{◌≡◌, ℕ, zero, suc, ◌+◌, ◌-◌, ◌<◌, ◌≤◌, ◌⊎◌, inl, inr, Bool, true, false, cond, List}
use Rattle.std.proofs.Common.{refl, sym, ap, ◌∙◌, ◌∷◌, [], ◌++◌, arith, subst}
use Rattle.std.specs.Prelude.{Option, Some, None, is_some, option_map, min, max}
use Rattle.std.proofs.lemmas.Bool.{cases_lt, eq-eqb, ltb-true}
use Rattle.hls_chron.specs.declared.book.TickRow.{TickRow}
use Rattle.hls_chron.specs.declared.plain.Config.{Config}
use Rattle.hls_chron.specs.Ledger.{Ledger, now_of}
use Rattle.hls_chron.specs.Ticks.{count}
use Rattle.hls_chron.proofs.ConfigLaws.{by_kind}
use Rattle.hls_kinds.specs.Asks.{slot_asks}
use Rattle.hls_kinds.specs.Reservations.{deadline_at}
use Rattle.hls_kinds.specs.Stands.{always, stands_of, to_deadlines}
use Rattle.hls_releases.specs.Releases.{last_release}
use Rattle.hls_sched.specs.Seen.{config_of, tick_row, Seen}
use Rattle.hls_machine.specs.Hierarchy.{Hierarchy, Node, Loaded, Admitted, Wake, Asleep, Awake, Awake_for}
use Rattle.hls_machine.specs.Hierarchy.{Scheduler as LoadedScheduler, is_ready, was_served, is_just}
use Rattle.hls_machine.specs.Steps.{Hop, Path, hop_at, hops_of, row_by, thread_of}
use Rattle.hls_machine.specs.Legal.{MayRun}
use Rattle.hls_tree_nodes.specs.Shown.{Shown, What, Scheduler, SchedulerNode, bare, bare_in, is_sched}
use Rattle.hls_tree_nodes.specs.Shown.{mask_in, grant_in}
use Rattle.hls_tree_nodes.specs.Shown as shown
use Rattle.hls_tree_nodes.specs.Leapt.{StandsJust, stands_in}
use Rattle.hls_tree_nodes.specs.TreeOf.{IsOf, IsPassing}
use Rattle.hls_core.specs.Begun.{left_by, next_by, first_of}
use Rattle.hls_core.specs.Left.{IsLeft, left_of}
use Rattle.hls_core.specs.Leaps.{Changes, of_scheduler, of_burst, of_release, stands_by}
use Rattle.hls_core.specs.Inside.Elapses.{IsWithin, IsRest, IsStretch, MayElapse}
use Rattle.hls_sched.specs.Boxed.{boxed}
use Rattle.hls_tree_nodes.specs.Views.{shown_at, choice_at}
use Rattle.hls_tree.specs.Trees.{IsTreeOf, IsReadyOf, Stands, Passes}
use Rattle.hls_tree.specs.declared.tree.Tree.{Tree}
use Rattle.hls_core_stays.specs.declared.stays.Stays.{Stays}
use Rattle.hls_core_journal.specs.declared.journal.Journal.{Journal}
use Rattle.hls_core.specs.Bursts.{begun_in, left_in, next_in}
use Rattle.hls_core.specs.declared.begun.Begun.{Begun}
use Rattle.hls_core.specs.declared.begun.Release.{Release}
use Rattle.hls_core.specs.declared.bursts.Bursts.{Bursts}
use Rattle.hls_core.proofs.Firsts.{IsNext, is_next, next_at}
use Rattle.hls_core.proofs.Wakes.{next_coming, coming_next}
use Rattle.hls_core.proofs.Readiness.{kept_at}
use Rattle.hls_core.proofs.Elapsing.{runs_thread, ran, granted}

-- ---- the number does not go by a choice that is not used

deadlines_within : (b : Ledger) (mask n : ℕ) → to_deadlines b mask n ≤ always
unfolding to_deadlines
deadlines_within b mask zero = omega arith
deadlines_within b mask (suc n) =
    by (slot_asks mask n) (deadline_at b mask n - now_of b) (to_deadlines b mask n) (deadlines_within b mask n)
  where
    by : (asks : Bool) (ahead before : ℕ) → before ≤ always → cond asks (min before ahead) before ≤ always
    by true ahead before within = omega (arith, within)
    by false ahead before within = within

ungranted : (config : Config) (b : Ledger) (mask : ℕ) (choice : Option ℕ)
    → stands_of config b mask false None ≡ stands_of config b mask false choice
ungranted config b mask choice =
    by_kind (λ config. stands_of config b mask false None ≡ stands_of config b mask false choice) refl refl refl
    (λ sharing. refl) (λ quantum. refl) (λ frame. refl) (λ ports. refl) config

unserved : (config : Config) (b : Ledger) (mask : ℕ)
    → stands_of config b mask false None ≡ stands_of config b mask true None
unserved config b mask =
    by_kind (λ config. stands_of config b mask false None ≡ stands_of config b mask true None) refl refl
    (let within = deadlines_within b mask 32 in
    let least : to_deadlines b mask 32 ≡ min (to_deadlines b mask 32) always = omega (arith, within) in
    ap (max 1) least)
    (λ sharing. refl) (λ quantum. refl) (λ frame. refl) (λ ports. refl) config

row_stands : (config : Config) (b : Ledger) (mask : ℕ) (grant choice : Option ℕ) (other : ℕ) (hop : Option Hop)
    → tick_row mask grant choice ≡ row_by other hop
    → stands_of config b other (is_some hop) (option_map (λ (on : Hop). on.slot) hop)
    ≡ stands_of config b mask (is_some grant) choice
row_stands config b mask None choice other None e =
    ap (λ m. stands_of config b m false None) (sym (ap (λ (row : TickRow). row.mask) e))
    ∙ ungranted config b mask choice
row_stands config b mask None choice other (Some hop) e =
    absurd (let no : None ≡ Some hop.slot = ap (λ (row : TickRow). row.to) e in cc)
row_stands config b mask (Some port) None other None e =
    ap (λ m. stands_of config b m false None) (sym (ap (λ (row : TickRow). row.mask) e)) ∙ unserved config b mask
row_stands config b mask (Some port) None other (Some hop) e =
    absurd (let no : None ≡ Some hop.slot = ap (λ (row : TickRow). row.to) e in cc)
row_stands config b mask (Some port) (Some slot) other None e =
    absurd (let no : Some slot ≡ None = ap (λ (row : TickRow). row.to) e in cc)
row_stands config b mask (Some port) (Some slot) other (Some hop) e =
    ap (λ m. stands_of config b m true (Some hop.slot)) (sym (ap (λ (row : TickRow). row.mask) e))
    ∙ ap (λ to. stands_of config b mask true to) (sym (ap (λ (row : TickRow). row.to) e))

-- ---- what stands of a node, of the node of the hierarchy

stands_here : (o : Option Shown) (here : Option Node) (choice : Option ℕ) (mask : ℕ) (hop : Option Hop)
    (s : LoadedScheduler) → bare here ≡ bare_in o → here ≡ Some (Loaded s)
    → (is_sched o ≡ true → tick_row (mask_in o) (grant_in o) choice ≡ row_by mask hop)
    → stands_by s mask hop ≡ stands_in choice o
stands_here None here choice mask hop s is there row =
    absurd (let no : Some (SchedulerNode s) ≡ None = sym (ap bare there) ∙ is in cc)
stands_here (Some x) here choice mask hop s is there row = by_what x.what is row where
  by_what : (w : What) → bare here ≡ bare_in (Some (record x { what = w }))
      → (is_sched (Some (record x { what = w })) ≡ true
      → tick_row (mask_in (Some (record x { what = w }))) (grant_in (Some (record x { what = w }))) choice
      ≡ row_by mask hop)
      → stands_by s mask hop ≡ stands_in choice (Some (record x { what = w }))
  by_what (Scheduler post) same tick =
      let one : LoadedScheduler = record {
        name = x.name;
        config = config_of post.unit;
        book = post.unit.book;
        ports = x.seats;
      } in
      let all : Some (SchedulerNode s) ≡ Some (SchedulerNode one) = sym (ap bare there) ∙ same in
      let alike : s ≡ one = cc in
      ap (λ (y : LoadedScheduler). stands_by y mask hop) alike
      ∙ row_stands (config_of post.unit) post.unit.book post.unit.mask post.unit.grant choice mask hop (tick refl)
  by_what (shown.Thread ready) same tick =
      absurd (let no : Some (SchedulerNode s) ≡ Some (shown.ThreadNode x.name x.seats) = sym (ap bare there) ∙ same in
      cc)

-- who stands no longer than some is a scheduler
loaded_here : (o : Option Shown) (here : Option Node) (choice : Option ℕ) (n : ℕ) → bare here ≡ bare_in o
    → stands_in choice o ≡ n → n < always → (s : LoadedScheduler) × (here ≡ Some (Loaded s))
loaded_here None here choice n is stands less = absurd (omega (arith, stands, less))
loaded_here (Some x) here choice n is stands less = by_what x.what is stands where
  by_node : (one : LoadedScheduler) (here : Option Node) → bare here ≡ Some (SchedulerNode one)
      → (s : LoadedScheduler) × (here ≡ Some (Loaded s))
  by_node one None same = absurd cc
  by_node one (Some (Loaded s)) same = (s, refl)
  by_node one (Some (Admitted t)) same = absurd cc

  by_what : (w : What) → bare here ≡ bare_in (Some (record x { what = w }))
      → stands_in choice (Some (record x { what = w })) ≡ n → (s : LoadedScheduler) × (here ≡ Some (Loaded s))
  by_what (Scheduler post) same at = by_node _ here same
  by_what (shown.Thread ready) same at = absurd (omega (arith, at, less))

-- ---- bursts

some_left : (serves : ℕ → Bool) (now rest : ℕ) (wake : Wake) → is_ready serves now wake ≡ true
    → left_of serves now wake ≡ Some rest → 1 ≤ rest
some_left serves now rest Asleep ready left = absurd cc
some_left serves now rest Awake ready left = absurd cc
some_left serves now rest (Awake_for burst since) ready left =
    let from : ℕ = last_release burst.every since now in
    let before = ltb-true (count serves from (now - from)) burst.ticks ready in
    let same : burst.ticks - count serves from (now - from) ≡ rest = cc in omega (arith, before, same)

on_path : (path : Option Path) (k : ℕ) → thread_of path ≡ Some k → is_just (thread_of path) k ≡ true
on_path path k served = ap (λ o. is_just o k) served ∙ eq-eqb k k refl

-- who is served is ready, and so has some of its burst left
pub lasts : (h : Hierarchy) (asking : ℕ → Bool) (masks : ℕ → ℕ) (path : Option Path) (begun : ℕ → Option Begun)
    (thread : Option ℕ) → IsLeft begun h → MayRun h asking masks path → thread ≡ thread_of path
    → IsWithin (λ k. left_by (begun k)) thread 1
lasts h asking masks path begun thread is may served k rest on has =
    let comes = runs_thread h asking masks path k may (on_path path k (sym served ∙ on)) in
    some_left (was_served h.past k) h.now rest comes.thread.wake comes.ready
    (sym ((kept_at begun h k comes.thread is comes.there).left comes.ready) ∙ has)

-- ---- the stretch

module _ (s : ℕ → Option Shown) (choices : ℕ → Option ℕ) (tick horizon : ℕ) (root : Option ℕ)
    (route : Option (List ℕ)) (h : Hierarchy) (asking : ℕ → Bool) (slots : ℕ → ℕ) (path : Option Path)
    (begun : ℕ → Option Begun) (thread : Option ℕ) (most n : ℕ) (of : IsOf s tick horizon root h)
    (passing : IsPassing s choices route h asking slots path) (is_left : IsLeft begun h)
    (served : thread ≡ thread_of path) where
  abbrev left : ℕ → Option ℕ
  left k = left_by (begun k)

  abbrev next : ℕ → Option Release
  next k = next_by (begun k)

  comes_change : n < always → (StandsJust s choices n ⊎ IsRest left thread n) ⊎ IsNext next (h.now + n)
      → Changes h slots path n
  comes_change less (inl (inl just)) =
      let found = loaded_here (s just.node) (h.nodes just.node) (choices just.node) n (of.nodes just.node) just.is less
      in
      of_scheduler just.node found.0 found.1
      (stands_here (s just.node) (h.nodes just.node) (choices just.node) (slots just.node)
      (hop_at (hops_of path) just.node) found.0 (of.nodes just.node) found.1 (passing.rows just.node) ∙ just.is)
  comes_change less (inl (inr rest)) =
      let on = sym served ∙ rest.served in
      let comes = runs_thread h asking slots path rest.node passing.can.1 (on_path path rest.node on) in
      of_burst rest.node comes.thread on comes.there
      (sym ((kept_at begun h rest.node comes.thread is_left comes.there).left comes.ready) ∙ rest.rest)
  comes_change less (inr due) =
      let comes = next_coming (was_served h.past due.node) h.now (begun due.node) (h.nodes due.node) due.release
      (is_left.at due.node) due.next_is in
      of_release due.node comes.thread comes.there (comes.comes ∙ ap (λ m. Some m) due.tick_is)

  none_sooner : ((k : ℕ) → n ≤ stands_in (choices k) (s k)) → IsWithin left thread n
      → ((k : ℕ) (release : Release) → next k ≡ Some release → h.now + n ≤ release.tick) → (sooner : ℕ)
      → Changes h slots path sooner → n ≤ sooner
  none_sooner least within ahead sooner (of_scheduler k x there at) =
      let all = least k in
      let same = stands_here (s k) (h.nodes k) (choices k) (slots k) (hop_at (hops_of path) k) x (of.nodes k) there
      (passing.rows k) in
      omega (arith, all, same, at)
  none_sooner least within ahead sooner (of_burst k t on there at) =
      within k sooner (served ∙ on)
      ((kept_at begun h k t is_left there).left
      (ran h asking slots path passing.can.1 k t there (on_path path k on)) ∙ at)
  none_sooner least within ahead sooner (of_release k t there comes) =
      let due = coming_next (was_served h.past k) h.now (begun k) t.wake (h.now + sooner)
      (kept_at begun h k t is_left there) comes in
      let lo = ahead k due.release due.next in
      let at = due.tick_is in omega (arith, lo, at)

  pub stretch : most ≤ always → ((k : ℕ) → n ≤ stands_in (choices k) (s k)) → IsWithin left thread n
      → ((k : ℕ) (release : Release) → next k ≡ Some release → h.now + n ≤ release.tick)
      → (n < most → (StandsJust s choices n ⊎ IsRest left thread n) ⊎ IsNext next (h.now + n)) → IsStretch h most n
  stretch few least within ahead attained = record {
    asking = asking;
    masks = slots;
    path = path;
    can = passing.can;
    change = λ less. comes_change (omega (arith, few, less)) (attained less);
    first = none_sooner least within ahead;
  }

-- who stops the ticks: the grant, or the first release
pub stopped : {A : Type 0} (begun : List (Option Begun)) (first : Option ℕ) (now free most n : ℕ)
    → first ≡ first_of begun
    → (n < free → A) → n ≤ free → (free < most → first ≡ Some (now + free)) → n < most
    → A ⊎ IsNext (next_at begun) (now + n)
stopped {A = A} begun first now free most n is attained le early less = elim (cases_lt n free) [
  | inl sooner ↦ inl (attained sooner)
  | inr whole ↦
      let same : free ≡ n = omega (arith, whole, le) in
      inr (subst (λ m. IsNext (next_at begun) (now + m)) same
      (is_next begun (now + free) (sym is ∙ early (omega (arith, same, less)))))
]

-- V and P are what the checker knows a box by
module _ {V : Type 0} {P : V → Type 0} (seen : (x : V) × P x → Seen) (choice : (x : V) × P x → Option ℕ)
    (old passed : Tree V P) (bursts : Bursts) (stays : Stays) (j : Journal) (most : ℕ) (thread : Option ℕ)
    (tree : (h : Hierarchy) → IsTreeOf seen old h → IsTreeOf seen passed h)
    (passes : (h : Hierarchy) → IsTreeOf seen old h → IsReadyOf seen old h → Passes seen choice passed h)
    (none : passed.route ≡ None → thread ≡ None)
    (some : (front : List ℕ) (last : ℕ) → passed.route ≡ Some (front ++ last ∷ []) → thread ≡ Some last) where
  pub passed_lasts : Stands seen old (MayElapse seen old bursts stays j most) → IsWithin (left_in bursts) thread 1
  passed_lasts x =
      let p = passes x.h x.tree x.is.at_state.ready in
      lasts x.h p.0 p.1 p.2 (begun_in bursts) thread x.is.at_state.left p.3.can.1
      (granted p.2 passed.route thread p.3.route_is none some)

  pub tree_stretch : (n now : ℕ) → most ≤ always → ((h : Hierarchy) → IsTreeOf seen old h → now ≡ h.now)
      → ((k : ℕ) → n ≤ stands_in (choice_at (boxed choice) passed.nodes k) (shown_at (boxed seen) passed.nodes k))
      → IsWithin (left_in bursts) thread n
      → ((k : ℕ) (release : Release) → next_in bursts k ≡ Some release → now + n ≤ release.tick)
      → (n < most → (StandsJust (shown_at (boxed seen) passed.nodes) (choice_at (boxed choice) passed.nodes) n
      ⊎ IsRest (left_in bursts) thread n) ⊎ IsNext (next_in bursts) (now + n))
      → (h : Hierarchy) → MayElapse seen old bursts stays j most h → IsStretch h most n
  tree_stretch n now few at_now least within ahead attained h may =
      let p = passes h may.at_state.tree may.at_state.ready in
      let here = at_now h may.at_state.tree in
      stretch _ _ _ _ _ _ h p.0 p.1 p.2 (begun_in bursts) thread most n (tree h may.at_state.tree).of p.3
      may.at_state.left (granted p.2 passed.route thread p.3.route_is none some) few least within
      (λ k release next. (let lo = ahead k release next in omega (arith, here, lo)))
      (subst (λ m. n < most → (StandsJust (shown_at (boxed seen) passed.nodes) (choice_at (boxed choice) passed.nodes) n
      ⊎ IsRest (left_in bursts) thread n) ⊎ IsNext (next_in bursts) (m + n)) here attained)
