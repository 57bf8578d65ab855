-- What a report tells of the threads of a legal run so far: their wakes, and who was served.
use Rattle.std.proofs.Common.{◌≡◌, ◌≢◌, ℕ, inl, inr, ◌+◌, ◌-◌, ◌<◌, ◌≤◌, List, [], ◌∷◌, ◌++◌, ◌==◌}
use Rattle.std.proofs.Common.{true, false, length, slice_get, refl, sym, ap, ◌∙◌, subst, arith}
use Rattle.std.specs.Prelude.{Option, Some, None, map, option_map, option_and_then}
use Rattle.std.proofs.lemmas.Option.{slice_get-map}
use Rattle.std.proofs.lemmas.List.{length-map, length_push, map-append}
use Rattle.std.specs.List.{AllByRecursion}
use Rattle.std.proofs.lemmas.Bool.{cases_eq, eq-eqb, ne_eqb}
use Rattle.hls_text.specs.Lines.{Text}
use Rattle.hls_report_text.specs.declared.report.Answered.{Answered}
use Rattle.hls_report_text.specs.Content.{Content}
use Rattle.hls_machine.specs.Hierarchy.{Hierarchy, Node, Loaded, Admitted, Tick, name_of}
use Rattle.hls_machine.specs.Hierarchy.{is_ready as ready_legal}
use Rattle.hls_machine.specs.Hierarchy.{is_just, was_served}
use Rattle.hls_machine.specs.Steps.{Hop, Path, thread_of, is_thread}
use Rattle.hls_machine.specs.Legal.{asks_now}
use Rattle.hls_legal.specs.Commands.{has_done, rouses, last_rousing}
use Rattle.hls_legal.specs.Schedule.{path_at, last_name, is_name, is_served}
use Rattle.hls_legal.specs.Ready.{is_awake, is_ready}
use Rattle.hls_legal.specs.Tells.{nodes_on, Names}
use Rattle.hls_legal.proofs.Rousings.{rousing, rousing_at, find-snoc_hit, find-snoc_miss, names_differ}
use Rattle.hls_legal.proofs.Rousings.{names_same, wake_from, wake_since, awake_same}
use Rattle.hls_legal.proofs.Alike.{wake_of}

-- a thread and its name
pub record IsThreadNamed (nodes : ℕ → Option Node) (k : ℕ) (name : Text) : Type 0 where
  pub is : is_thread (nodes k) ≡ true
  pub named : name_of (nodes k) ≡ Some name

abbrev pub Wakes : (ℕ → Option Node) → List Answered → Type 0
Wakes nodes before = (k : ℕ) (name : Text) → IsThreadNamed nodes k name
    → wake_of (nodes k) ≡ wake_from (rousing name before)

abbrev pub Serves : Content → (now : ℕ) → (past : ℕ → Tick) → (ℕ → Option Node) → Type 0
Serves c now past nodes = (k : ℕ) (name : Text) → IsThreadNamed nodes k name
    → (x : ℕ) → wake_since now (wake_of (nodes k)) ≤ x → x < now
    → was_served past k x ≡ is_served c.stretches name x

-- what a command leaves or makes of a thread
pub data Rouses (nodes later : ℕ → Option Node) (now : ℕ) (a : Answered) (k : ℕ) (name : Text) : Type 0 where
  Leaves : IsThreadNamed nodes k name → wake_of (later k) ≡ wake_of (nodes k)
      → has_done (rouses name) a ≡ false → Rouses nodes later now a k name
  Makes : has_done (rouses name) a ≡ true → wake_of (later k) ≡ wake_from (Some a)
      → wake_since now (wake_of (later k)) ≡ now → Rouses nodes later now a k name

abbrev pub RousesEach : (nodes later : ℕ → Option Node) → (now : ℕ) → Answered → Type 0
RousesEach nodes later now a = (k : ℕ) (name : Text) → IsThreadNamed later k name
    → Rouses nodes later now a k name

wake_by_step : (nodes later : ℕ → Option Node) (now : ℕ) (before : List Answered) (a : Answered) (k : ℕ)
    (name : Text) → Wakes nodes before → Rouses nodes later now a k name
    → wake_of (later k) ≡ wake_from (rousing name (before ++ a ∷ []))
wake_by_step nodes later now before a k name wakes (Leaves thread same missed) =
    same ∙ wakes k name thread
    ∙ ap wake_from (sym (find-snoc_miss (has_done (rouses name)) before a missed))
wake_by_step nodes later now before a k name wakes (Makes hit wake since) =
    wake ∙ ap wake_from (sym (find-snoc_hit (has_done (rouses name)) before a hit))

pub wakes_step : (nodes later : ℕ → Option Node) (now : ℕ) (before : List Answered) (a : Answered)
    → Wakes nodes before → RousesEach nodes later now a → Wakes later (before ++ a ∷ [])
wakes_step nodes later now before a wakes each k name thread =
    wake_by_step nodes later now before a k name wakes (each k name thread)

serve_by_step : (c : Content) (nodes later : ℕ → Option Node) (now : ℕ) (past : ℕ → Tick) (a : Answered)
    (k : ℕ) (name : Text) → Serves c now past nodes → Rouses nodes later now a k name
    → (x : ℕ) → wake_since now (wake_of (later k)) ≤ x → x < now
    → was_served past k x ≡ is_served c.stretches name x
serve_by_step c nodes later now past a k name serves (Leaves thread same missed) x lo hi =
    serves k name thread x (subst (λ w. wake_since now w ≤ x) same lo) hi
serve_by_step c nodes later now past a k name serves (Makes hit wake since) x lo hi =
    absurd (omega (arith, since))

pub serves_step : (c : Content) (nodes later : ℕ → Option Node) (now : ℕ) (past : ℕ → Tick) (a : Answered)
    → Serves c now past nodes → RousesEach nodes later now a → Serves c now past later
serves_step c nodes later now past a serves each k name thread =
    serve_by_step c nodes later now past a k name serves (each k name thread)

-- ---- ticks

-- no two nodes have one name
abbrev pub Unique : (ℕ → Option Node) → Type 0
Unique nodes = (k c : ℕ) (name : Text) → name_of (nodes k) ≡ Some name → name_of (nodes c) ≡ Some name → k ≡ c

get_last : {A : Type 0} (xs : List A) (x : A) → slice_get (xs ++ x ∷ []) (length xs) ≡ Some x
get_last [] x = refl
get_last (y ∷ xs) x = get_last xs x

last_snoc : {A : Type 0} (xs : List A) (x : A) (n : ℕ) → n ≡ length xs + 1
    → slice_get (xs ++ x ∷ []) (n - 1) ≡ Some x
last_snoc xs x n len =
    let e : n - 1 ≡ length xs = omega arith in
    ap (slice_get (xs ++ x ∷ [])) e ∙ get_last xs x

some_inside : (name last : Option Text) → option_map (λ (n : Text). Some n) name ≡ Some last → name ≡ last
some_inside None last e = absurd (cc)
some_inside (Some n) last e = cc

-- the last of a path's nodes has the last of its names
last_named : (xs : List (Option Text)) (last : Option Text) (names : List Text)
    → xs ++ last ∷ [] ≡ map (λ n. Some n) names → last_name names ≡ last
last_named xs last names e =
    let count : length names ≡ length xs + 1 =
    sym (length-map names (λ (n : Text). Some n)) ∙ ap length (sym e) ∙ length_push xs last in
    some_inside (last_name names) last
    (sym (slice_get-map (λ (n : Text). Some n) names (length names - 1))
    ∙ ap (λ l. slice_get l (length names - 1)) (sym e)
    ∙ last_snoc xs last (length names) count)

abbrev name_in : (ℕ → Option Node) → ℕ → Option Text
name_in nodes k = name_of (nodes k)

pub path_named : (h : Hierarchy) (path : Path) (names : List Text)
    → map (name_in h.nodes) (nodes_on path) ≡ map (λ n. Some n) names
    → last_name names ≡ name_of (h.nodes path.thread)
path_named h path names e =
    let hops = map (λ (hop : Hop). hop.node) path.hops in
    last_named (map (name_in h.nodes) hops) (name_of (h.nodes path.thread)) names
    (sym (map-append (name_in h.nodes) hops (path.thread ∷ [])) ∙ e)

other_name : (nodes : ℕ → Option Node) → Unique nodes → (k c : ℕ) (name : Text)
    → name_of (nodes k) ≡ Some name
    → c ≢ k → (found : Option Text) → name_of (nodes c) ≡ found → is_name name found ≡ false
other_name nodes unique k c name named ne None e = refl
other_name nodes unique k c name named ne (Some other) e =
    names_differ name other (λ same. ne (unique c k name (e ∙ ap (λ (n : Text). Some n) same) named))

pub by_name : (nodes : ℕ → Option Node) → Unique nodes → (k c : ℕ) (name : Text)
    → name_of (nodes k) ≡ Some name
    → (c == k) ≡ is_name name (name_of (nodes c))
by_name nodes unique k c name named = elim (cases_eq c k) [
  | inl e ↦ eq-eqb c k e
      ∙ sym (ap (λ n. is_name name (name_of (nodes n))) e ∙ ap (is_name name) named
      ∙ names_same name name refl)
  | inr ne ↦ ne_eqb c k ne ∙ sym (other_name nodes unique k c name named ne (name_of (nodes c)) refl)
]

pub served_now : (h : Hierarchy) (path : Option Path) (names : Option (List Text)) (k : ℕ) (name : Text)
    → Unique h.nodes → Names h path names → name_of (h.nodes k) ≡ Some name
    → is_just (thread_of path) k ≡ is_name name (option_and_then last_name names)
served_now h None None k name unique told named = refl
served_now h None (Some names) k name unique told named = absurd told
served_now h (Some path) None k name unique told named = absurd told
served_now h (Some path) (Some names) k name unique told named =
    by_name h.nodes unique k path.thread name named
    ∙ ap (is_name name) (sym (path_named h path names told))

pub is_served-at : (c : Content) (name : Text) (t : ℕ) → is_served c.stretches name t
    ≡ is_name name (option_and_then last_name (path_at c.stretches t))
unfolding is_served
is_served-at c name t = refl

asks_thread : (h : Hierarchy) (k mask : ℕ) (node : Option Node) → is_thread node ≡ true
    → asks_now h k mask node ≡ ready_legal (was_served h.past k) h.now (wake_of node)
asks_thread h k mask None is = absurd (cc)
asks_thread h k mask (Some (Loaded s)) is = absurd (cc)
asks_thread h k mask (Some (Admitted t)) is = refl

is_ready-at : (c : Content) (name : Text) (t : ℕ) (found : Option Answered)
    → last_rousing name t c.answered ≡ found
    → is_ready c name t ≡ is_awake (is_served c.stretches name) t found
unfolding is_ready
is_ready-at c name t found e = ap (is_awake (is_served c.stretches name) t) e

-- at the time of a tick, a thread asks exactly where it is ready by the report
pub ready_now : (c : Content) (h : Hierarchy) (before left : List Answered) (k mask : ℕ) (name : Text)
    → c.answered ≡ before ++ left
    → AllByRecursion (λ (a : Answered). a.tick ≤ h.now) before
    → AllByRecursion (λ (a : Answered). h.now < a.tick) left
    → Wakes h.nodes before → Serves c h.now h.past h.nodes → IsThreadNamed h.nodes k name
    → asks_now h k mask (h.nodes k) ≡ is_ready c name h.now
ready_now c h before left k mask name all early late wakes serves thread =
    let wake = wakes k name thread in
    asks_thread h k mask (h.nodes k) thread.is
    ∙ ap (ready_legal (was_served h.past k) h.now) wake
    ∙ awake_same (was_served h.past k) (is_served c.stretches name) h.now (rousing name before)
    (λ x lo hi. serves k name thread x (subst (λ w. wake_since h.now w ≤ x) (sym wake) lo) hi)
    ∙ sym (is_ready-at c name h.now (rousing name before)
    (ap (last_rousing name h.now) all ∙ rousing_at h.now name before left early late))
