-- Readiness and what is kept of bursts, as wakes, blocks, ticks and releases come.
use Rattle.std.proofs.Common.{◌≡◌, ◌≢◌, ℕ, zero, suc, inl, inr, ◌<◌, ◌≤◌, ◌⊎◌, Bool, true, false, cond, ◌==◌}
use Rattle.std.proofs.Common.{refl, sym, ap, ◌∙◌, arith, subst}
use Rattle.std.specs.Prelude.{Option, Some, None}
use Rattle.std.proofs.lemmas.Bool.{cases_eq, eq-eqb, ne_eqb, lt-leb}
use Rattle.hls_scenario.specs.Grammar.{IsWaking}
use Rattle.hls_machine.specs.Hierarchy.{Hierarchy, Thread, Node, Loaded, Admitted, Wake, Asleep}
use Rattle.hls_machine.specs.Hierarchy.{is_ready, was_served, is_just}
use Rattle.hls_machine.specs.Steps.{Path, Hop, thread_of, roused, wake_by, with_wake, ticked, hop_at, hops_of}
use Rattle.hls_machine.specs.Legal.{IsThread}
use Rattle.hls_legal.specs.Tells.{burst_of}
use Rattle.hls_tree_nodes.specs.Leapt.{later}
use Rattle.hls_core_stays.proofs.Ticked.{IsOn, on_ticks}
use Rattle.hls_core.specs.Begun.{begun_by, left_by, next_by, released, is_due, ends_within}
use Rattle.hls_core.specs.Left.{IsKept, IsLeftOf, IsLeft}
use Rattle.hls_core.specs.declared.begun.Begun.{Begun}
use Rattle.hls_core.specs.declared.begun.Release.{Release}
use Rattle.hls_core.proofs.Wakes.{GoesOn, goes_on, used_if, used_next, wake_kept, wake_ready, undue}

-- flags say who is ready
abbrev pub SaysReady : (flag : ℕ → Bool) → Hierarchy → Type 0
SaysReady flag h = (k : ℕ) (t : Thread) → h.nodes k ≡ Some (Admitted t)
    → is_ready (was_served h.past k) h.now t.wake ≡ flag k

-- what is kept of the wake of a thread
pub kept_at : (begun : ℕ → Option Begun) (h : Hierarchy) (k : ℕ) (t : Thread) → IsLeft begun h
    → h.nodes k ≡ Some (Admitted t) → IsKept (was_served h.past k) h.now (begun k) t.wake
kept_at begun h k t is there = subst (IsLeftOf (was_served h.past k) h.now (begun k)) there (is.at k)

pub same_left : (begun new : ℕ → Option Begun) (h : Hierarchy) → ((k : ℕ) → new k ≡ begun k) → IsLeft begun h
    → IsLeft new h
same_left begun new h same is = record {
  at = λ k. subst (λ b. IsLeftOf (was_served h.past k) h.now b (h.nodes k)) (sym (same k)) (is.at k);
}

-- ---- a wake or a block

-- a thread after a wake or a block was one, and has the new wake or is another
roused_was : (how : Wake) (node : Option Node) (t : Thread) → roused how node ≡ Some (Admitted t) → t.wake ≡ how
roused_was how None t e = absurd (cc)
roused_was how (Some (Loaded s)) t e = absurd (cc)
roused_was how (Some (Admitted was)) t e = let same : record was { wake = how } ≡ t = cc in
    ap (λ (x : Thread). x.wake) (sym same)

here_or_not : (h : Hierarchy) (k c : ℕ) (how : Wake) (t : Thread)
    → (with_wake h k how).nodes c ≡ Some (Admitted t)
    → ((c ≡ k) × (t.wake ≡ how)) ⊎ ((c ≢ k) × (h.nodes c ≡ Some (Admitted t)))
here_or_not h k c how t e = by (cases_eq c k)
  where
    by : (c ≡ k) ⊎ (c ≢ k) → ((c ≡ k) × (t.wake ≡ how)) ⊎ ((c ≢ k) × (h.nodes c ≡ Some (Admitted t)))
    by (inl same) =
        let test : (c == k) ≡ true = eq-eqb c k same in
        inl (
          same,
          roused_was how (h.nodes c) t
              (ap (λ b. cond b (roused how (h.nodes c)) (h.nodes c)) (sym test) ∙ e),
        )
    by (inr other) =
        let test : (c == k) ≡ false = ne_eqb c k other in
        inr (other, ap (λ b. cond b (roused how (h.nodes c)) (h.nodes c)) (sym test) ∙ e)

-- what is kept where a thread has another wake
left_roused : (begun new : ℕ → Option Begun) (h : Hierarchy) (k : ℕ) (how : Wake) → IsThread (h.nodes k)
    → IsLeft begun h → IsKept (was_served h.past k) h.now (new k) how → ((c : ℕ) → c ≢ k → new c ≡ begun c)
    → IsLeft new (with_wake h k how)
left_roused begun new h k how thread is here others = record { at = λ c. by c (cases_eq c k) }
  where
    by : (c : ℕ) → (c ≡ k) ⊎ (c ≢ k)
        → IsLeftOf (was_served h.past c) h.now (new c) (cond (c == k) (roused how (h.nodes c)) (h.nodes c))
    by c (inl same) =
        subst (λ b. IsLeftOf (was_served h.past c) h.now (new c) (cond b (roused how (h.nodes c)) (h.nodes c)))
        (sym (eq-eqb c k same))
        (subst (λ n. IsLeftOf (was_served h.past n) h.now (new n) (roused how (h.nodes n))) (sym same)
        (subst (λ node. IsLeftOf (was_served h.past k) h.now (new k) (roused how node)) (sym thread.there) here))
    by c (inr other) =
        subst (λ b. IsLeftOf (was_served h.past c) h.now (new c) (cond b (roused how (h.nodes c)) (h.nodes c)))
        (sym (ne_eqb c k other))
        (subst (λ b. IsLeftOf (was_served h.past c) h.now b (h.nodes c)) (sym (others c other)) (is.at c))

woken_kept : (serves : ℕ → Bool) (now : ℕ) (every burst : Option ℕ) → IsWaking 2 every burst
    → IsKept serves now (begun_by every burst now) (wake_by (burst_of every burst) now)
woken_kept serves now every None waking = record { left = λ ready. refl; next = refl; fits = tt }
woken_kept serves now every (Some ticks) waking = wake_kept serves now every ticks waking

woken_ready : (serves : ℕ → Bool) (now : ℕ) (every burst : Option ℕ) → IsWaking 2 every burst
    → is_ready serves now (wake_by (burst_of every burst) now) ≡ true
woken_ready serves now every None waking = refl
woken_ready serves now every (Some ticks) waking = wake_ready serves now every ticks waking

pub left_woken : (begun new : ℕ → Option Begun) (h : Hierarchy) (k : ℕ) (every burst : Option ℕ)
    → IsWaking 2 every burst → IsThread (h.nodes k) → IsLeft begun h → new k ≡ begun_by every burst h.now
    → ((c : ℕ) → c ≢ k → new c ≡ begun c) → IsLeft new (with_wake h k (wake_by (burst_of every burst) h.now))
left_woken begun new h k every burst waking thread is here others =
    left_roused begun new h k (wake_by (burst_of every burst) h.now) thread is
    (subst (λ b. IsKept (was_served h.past k) h.now b (wake_by (burst_of every burst) h.now)) (sym here)
    (woken_kept (was_served h.past k) h.now every burst waking)) others

pub ready_woken : (flag new : ℕ → Bool) (h : Hierarchy) (k : ℕ) (every burst : Option ℕ) → IsWaking 2 every burst
    → SaysReady flag h → new k ≡ true → ((c : ℕ) → c ≢ k → new c ≡ flag c)
    → SaysReady new (with_wake h k (wake_by (burst_of every burst) h.now))
ready_woken flag new h k every burst waking says here others c t e =
    by (here_or_not h k c (wake_by (burst_of every burst) h.now) t e)
  where
    by : ((c ≡ k) × (t.wake ≡ wake_by (burst_of every burst) h.now)) ⊎ ((c ≢ k) × (h.nodes c ≡ Some (Admitted t)))
        → is_ready (was_served h.past c) h.now t.wake ≡ new c
    by (inl p) =
        ap (is_ready (was_served h.past c) h.now) p.1 ∙ woken_ready (was_served h.past c) h.now every burst waking
        ∙ sym here ∙ ap new (sym p.0)
    by (inr p) = says c t p.1 ∙ sym (others c p.0)

pub left_blocked : (begun new : ℕ → Option Begun) (h : Hierarchy) (k : ℕ) → IsThread (h.nodes k) → IsLeft begun h
    → new k ≡ None → ((c : ℕ) → c ≢ k → new c ≡ begun c) → IsLeft new (with_wake h k Asleep)
left_blocked begun new h k thread is here others =
    left_roused begun new h k Asleep thread is
    (record { left = λ ready. absurd (cc); next = ap next_by here; fits = tt }) others

pub ready_blocked : (flag new : ℕ → Bool) (h : Hierarchy) (k : ℕ) → SaysReady flag h → new k ≡ false
    → ((c : ℕ) → c ≢ k → new c ≡ flag c) → SaysReady new (with_wake h k Asleep)
ready_blocked flag new h k says here others c t e = by (here_or_not h k c Asleep t e)
  where
    by : ((c ≡ k) × (t.wake ≡ Asleep)) ⊎ ((c ≢ k) × (h.nodes c ≡ Some (Admitted t)))
        → is_ready (was_served h.past c) h.now t.wake ≡ new c
    by (inl p) =
        ap (is_ready (was_served h.past c) h.now) p.1 ∙ sym here ∙ ap new (sym p.0)
    by (inr p) = says c t p.1 ∙ sym (others c p.0)

-- ---- ticks

ticked_left : (serves : ℕ → Bool) (now : ℕ) (begun : Option Begun) (mask : ℕ) (hop : Option Hop) (node : Option Node)
    → IsLeftOf serves now begun node → IsLeftOf serves now begun (ticked mask hop node)
ticked_left serves now begun mask hop None is = is
ticked_left serves now begun mask hop (Some (Loaded s)) is = is
ticked_left serves now begun mask hop (Some (Admitted t)) is = is

module _ (h : Hierarchy) (asking : ℕ → Bool) (masks : ℕ → ℕ) (path : Option Path) where
  later_left : (m k : ℕ) (serves : ℕ → Bool) (now : ℕ) (begun : Option Begun) → IsLeftOf serves now begun (h.nodes k)
      → IsLeftOf serves now begun ((later h asking masks path m).nodes k)
  later_left zero k serves now begun is = is
  later_left (suc m) k serves now begun is =
      ticked_left serves now begun (masks k) (hop_at (hops_of path) k) ((later h asking masks path m).nodes k)
      (later_left m k serves now begun is)

module _ (h : Hierarchy) (asking : ℕ → Bool) (masks : ℕ → ℕ) (path : Option Path) (n : ℕ) where
  abbrev after_ticks : Hierarchy
  after_ticks = later h asking masks path n

  abbrev on : IsOn h after_ticks asking (thread_of path) n
  on = on_ticks h asking masks path n

  -- a wake after the ticks, and the releases in the last of them
  goes : (k : ℕ) (begun : Option Begun) (wake : Wake) → IsKept (was_served h.past k) h.now begun wake
      → (is_just (thread_of path) k ≡ true → is_ready (was_served h.past k) h.now wake ≡ true)
      → ((release : Release) → next_by begun ≡ Some release → after_ticks.now ≤ release.tick)
      → GoesOn (was_served h.past k) (was_served after_ticks.past k) h.now after_ticks.now n
      (is_just (thread_of path) k) on.now (λ from le. on.served_more k from le) begun wake
  goes k begun wake kept ran ahead =
      goes_on (was_served h.past k) (was_served after_ticks.past k) h.now after_ticks.now n (is_just (thread_of path) k)
      on.now (λ from le. on.served_more k from le) begun wake kept ran ahead

  none_next : (b : Bool) (begun : Option Begun) → next_by begun ≡ None
      → next_by (released after_ticks.now (used_if b n begun)) ≡ None
  none_next b begun none =
      ap next_by (undue after_ticks.now (used_if b n begun)
      (ap (is_due after_ticks.now) (used_next b n begun ∙ none))) ∙ used_next b n begun ∙ none

  node_left : (k : ℕ) (begun : Option Begun) (node : Option Node)
      → IsLeftOf (was_served h.past k) h.now begun node
      → ((t : Thread) → node ≡ Some (Admitted t) → is_just (thread_of path) k ≡ true
      → is_ready (was_served h.past k) h.now t.wake ≡ true)
      → ((release : Release) → next_by begun ≡ Some release → after_ticks.now ≤ release.tick)
      → IsLeftOf (was_served after_ticks.past k) after_ticks.now
      (released after_ticks.now (used_if (is_just (thread_of path) k) n begun)) node
  node_left k begun None is ran ahead = none_next (is_just (thread_of path) k) begun is
  node_left k begun (Some (Loaded s)) is ran ahead = none_next (is_just (thread_of path) k) begun is
  node_left k begun (Some (Admitted t)) is ran ahead = (goes k begun t.wake is (λ on. ran t refl on) ahead).kept

  -- what is kept after the ticks, where releases come in none but the last of them
  pub left_ticked : (begun new : ℕ → Option Begun) → IsLeft begun h
      → ((k : ℕ) → new k ≡ released after_ticks.now (used_if (is_just (thread_of path) k) n (begun k)))
      → ((k : ℕ) (t : Thread) → h.nodes k ≡ Some (Admitted t) → is_just (thread_of path) k ≡ true
      → is_ready (was_served h.past k) h.now t.wake ≡ true)
      → ((k : ℕ) (release : Release) → next_by (begun k) ≡ Some release → after_ticks.now ≤ release.tick)
      → IsLeft new after_ticks
  left_ticked begun new is whole ran ahead = record {
    at = λ k.
        later_left h asking masks path n k (was_served after_ticks.past k) after_ticks.now (new k)
        (subst (λ b. IsLeftOf (was_served after_ticks.past k) after_ticks.now b (h.nodes k)) (sym (whole k))
        (node_left k (begun k) (h.nodes k) (is.at k) (ran k) (ahead k)));
  }

  pub ready_ticked : (begun : ℕ → Option Begun) (flag new : ℕ → Bool) → IsLeft begun h → SaysReady flag h
      → ((k : ℕ) (t : Thread) → after_ticks.nodes k ≡ Some (Admitted t) → new k
      ≡ cond (is_due after_ticks.now (next_by (begun k))) true (cond (is_just (thread_of path) k)
      (cond (ends_within n (left_by (begun k))) false (flag k)) (flag k)))
      → ((k : ℕ) (t : Thread) → h.nodes k ≡ Some (Admitted t) → is_just (thread_of path) k ≡ true
      → is_ready (was_served h.past k) h.now t.wake ≡ true)
      → ((k : ℕ) (release : Release) → next_by (begun k) ≡ Some release → after_ticks.now ≤ release.tick)
      → SaysReady new after_ticks
  ready_ticked begun flag new is says whole ran ahead k t e =
      let there : h.nodes k ≡ Some (Admitted t) = on.was k t e in
      (goes k (begun k) t.wake (kept_at begun h k t is there) (ran k t there) (ahead k)).ready
      ∙ ap (λ b. cond (is_due after_ticks.now (next_by (begun k))) true (cond (is_just (thread_of path) k)
      (cond (ends_within n (left_by (begun k))) false b) b)) (says k t there)
      ∙ sym (whole k t e)

  -- one with more left than that is as ready as before
  lasting_still : (b flag : Bool) (left : Option ℕ) → (b ≡ true → (rest : ℕ) → left ≡ Some rest → n < rest)
      → cond b (cond (ends_within n left) false flag) flag ≡ flag
  lasting_still true flag None more = refl
  lasting_still true flag (Some rest) more = ap (λ b. cond b false flag) (lt-leb rest n (more refl rest refl))
  lasting_still false flag left more = refl

  not_due : (next : Option Release) → ((release : Release) → next ≡ Some release → after_ticks.now < release.tick)
      → is_due after_ticks.now next ≡ false
  not_due None ahead = refl
  not_due (Some release) ahead =
      let lt = ahead release refl in ne_eqb release.tick after_ticks.now (λ same. omega (arith, same, lt))

  pub still_ready : (begun : ℕ → Option Begun) → IsLeft begun h → (k : ℕ) (t : Thread) → h.nodes k ≡ Some (Admitted t)
      → (is_just (thread_of path) k ≡ true → is_ready (was_served h.past k) h.now t.wake ≡ true)
      → ((rest : ℕ) → is_just (thread_of path) k ≡ true → left_by (begun k) ≡ Some rest → n < rest)
      → ((release : Release) → next_by (begun k) ≡ Some release → after_ticks.now < release.tick)
      → is_ready (was_served after_ticks.past k) after_ticks.now t.wake ≡ is_ready (was_served h.past k) h.now t.wake
  still_ready begun is k t there ran more ahead =
      let flag : Bool = is_ready (was_served h.past k) h.now t.wake in
      (goes k (begun k) t.wake (kept_at begun h k t is there) ran
      (λ release e. (let lt = ahead release e in omega (arith, lt)))).ready
      ∙ ap (λ b. cond b true (cond (is_just (thread_of path) k) (cond (ends_within n (left_by (begun k))) false flag)
      flag))
      (not_due (next_by (begun k)) ahead)
      ∙ lasting_still (is_just (thread_of path) k) flag (left_by (begun k)) (λ on rest is. more rest on is)
