-- The lists of a legal run hold what is there.
use Rattle.std.proofs.Common.{◌≡◌, ◌≢◌, ℕ, inl, inr, List, [], ◌∷◌, ◌++◌, ◌||◌}
use Rattle.std.proofs.Common.{Option, Some, None, Bool, true, false, not, if◌then◌else◌, ◌==◌}
use Rattle.std.proofs.Common.{refl, sym, ap, ◌∙◌, subst, arith, get_or, filter}
use Rattle.std.specs.Prelude.{map, Contains}
use Rattle.std.proofs.lemmas.Bool.{cases_eq, cases_Bool, eq-eqb, ne_eqb}
use Rattle.std.proofs.lemmas.List.Elements.{Contains-append_left, Contains-append_right, Contains-push}
use Rattle.std.proofs.lemmas.List.Elements.{Contains-push_cases}
use Rattle.std.proofs.lemmas.List.Kept.{AllPairs-filter}
use Rattle.std.proofs.lemmas.List.Quantifiers.{all_pairs_push}
use Rattle.hls_chron.specs.declared.book.Event.{Event}
use Rattle.hls_machine.specs.Hierarchy.{Hierarchy, Node, Loaded, Admitted, Wake, Asleep}
use Rattle.hls_machine.specs.Hierarchy.{Seat, Stay, start, name_of, seats_of}
use Rattle.hls_machine.specs.Steps.{Hop, hop_at, hops_of, marked, renewed, reseated, roused, ticked}
use Rattle.hls_machine.specs.Steps.{listed, is_scheduler, is_thread, seatings, leavings, effect}
use Rattle.hls_machine.specs.Steps.{with_wake, elapsed, closed, stay_of, opened, nobody, loaded, admitted}
use Rattle.hls_machine.specs.Steps.{wake_by, Step, Refuse, Load, Admit, End, Unload, Move, Rouse, Block, Elapse}
use Rattle.hls_machine.specs.Steps.{after, state}
use Rattle.hls_machine.specs.Legal.{Can, IsLegal}
use Rattle.hls_machine.specs.Lists.{Lists, open_stay, IsListed}
use Rattle.hls_machine.proofs.Kept.{IsSound, at_same, at_other}
use Rattle.hls_machine.proofs.Effects.{Owed}
use Rattle.hls_machine.proofs.Listings.{First, Later, contains_later, contains_first, in_cases, none_in}
use Rattle.hls_machine.proofs.Listings.{contains_filter, filter_had, filter_true, at_contained, run_seats}
use Rattle.hls_machine.proofs.Listings.{start_seats}
use Rattle.hls_machine.proofs.Stays.{begun_now}
use Rattle.hls_machine.proofs.Runs.{Kept, step_keeps, step_owes, start_kept}

-- numbers in their order
module _ (k : ℕ) (order : List ℕ) (old new : ℕ → Bool) (lists : Lists order old)
    (same : (c : ℕ) → c ≢ k → new c ≡ old c) where
  appended : old k ≡ false → new k ≡ true → Lists (order ++ k ∷ []) new
  appended was is = record {
    all = λ c on. elim (cases_eq c k) [
      | inl e ↦ subst (Contains (order ++ k ∷ [])) (sym e) (Contains-push order k)
      | inr ne ↦ Contains-append_left order (k ∷ []) c (lists.all c (sym (same c ne) ∙ on))
    ];
    only = λ c on. elim (Contains-push_cases order k c on) [
      | inl had ↦ (let on_old = lists.only c had in same c (λ e. let no_k = ap old e in cc) ∙ on_old)
      | inr e ↦ ap new (sym e) ∙ is
    ];
    once = all_pairs_push (λ (a b : ℕ). a ≢ b) order k lists.once
        (λ i d lt e. let on = lists.only (get_or order i d) (at_contained order i d lt) in let no_k =
        ap old e in cc);
  }

  removed : new k ≡ false → Lists (filter (λ other. not (other == k)) order) new
  removed is = record {
    all = λ c on. elim (cases_eq c k) [
      | inl e ↦ absurd (let no_k = ap new e in cc)
      | inr ne ↦ contains_filter (λ other. not (other == k)) order c (rw (ne_eqb c k ne) refl)
          (lists.all c (sym (same c ne) ∙ on))
    ];
    only = λ c on.
        let passes = filter_true (λ other. not (other == k)) order c on in
        let ne : c ≢ k = λ e. (let no_c = rw (eq-eqb c k e) at passes in cc) in
        same c ne ∙ lists.only c (filter_had (λ other. not (other == k)) order c on);
    once = AllPairs-filter (λ (a b : ℕ). a ≢ b) (λ other. not (other == k)) order lists.once;
  }

  unchanged : new k ≡ old k → Lists order new
  unchanged e =
      let all_same : (c : ℕ)
      → new c ≡ old c =
      λ c. elim (cases_eq c k) [ inl is ↦ ap new is ∙ e ∙ ap old (sym is) | inr ne ↦ same c ne ] in
      record {
        all = λ c on. lists.all c (sym (all_same c) ∙ on);
        only = λ c on. all_same c ∙ lists.only c on;
        once = lists.once;
      }

  by_change : (was is : Bool) → old k ≡ was → new k ≡ is → Lists (listed was is k order) new
  by_change false true f g = appended f g
  by_change true false f g = removed g
  by_change true true f g = unchanged (g ∙ sym f)
  by_change false false f g = unchanged (g ∙ sym f)

  pub listed_lists : Lists (listed (old k) (new k) k order) new
  listed_lists = by_change (old k) (new k) refl refl

-- what a node is
scheduler-renewed : (b : Bool) (now : ℕ) (node : Option Node)
    → is_scheduler (renewed b now node) ≡ is_scheduler node
scheduler-renewed false now any = refl
scheduler-renewed true now None = refl
scheduler-renewed true now (Some (Loaded s)) = refl
scheduler-renewed true now (Some (Admitted t)) = refl

thread-renewed : (b : Bool) (now : ℕ) (node : Option Node) → is_thread (renewed b now node) ≡ is_thread node
thread-renewed false now any = refl
thread-renewed true now None = refl
thread-renewed true now (Some (Loaded s)) = refl
thread-renewed true now (Some (Admitted t)) = refl

name-renewed : (b : Bool) (now : ℕ) (node : Option Node) → name_of (renewed b now node) ≡ name_of node
name-renewed false now any = refl
name-renewed true now None = refl
name-renewed true now (Some (Loaded s)) = refl
name-renewed true now (Some (Admitted t)) = refl

-- the stay that a node has begun
abbrev pub open_in : (k : ℕ) → Option Node → Option Stay
open_in k None = None
open_in k (Some (Loaded s)) = None
open_in k (Some (Admitted t)) = Some (open_stay k t)

-- two nodes that are the same in this
record IsLike (k : ℕ) (node other : Option Node) : Type 0 where
  pub scheduler : is_scheduler node ≡ is_scheduler other
  pub thread : is_thread node ≡ is_thread other
  pub name : name_of node ≡ name_of other
  pub stay : open_in k node ≡ open_in k other

like_marked : (k : ℕ) (es : List Event) (node : Option Node) → IsLike k (marked es node) node
like_marked k es None = record { scheduler = refl; thread = refl; name = refl; stay = refl }
like_marked k es (Some (Loaded s)) = record { scheduler = refl; thread = refl; name = refl; stay = refl }
like_marked k es (Some (Admitted t)) = record { scheduler = refl; thread = refl; name = refl; stay = refl }

like_roused : (k : ℕ) (how : Wake) (b : Bool) (node : Option Node)
    → IsLike k (if b then roused how node else node) node
like_roused k how false any = record { scheduler = refl; thread = refl; name = refl; stay = refl }
like_roused k how true None = record { scheduler = refl; thread = refl; name = refl; stay = refl }
like_roused k how true (Some (Loaded s)) =
    record { scheduler = refl; thread = refl; name = refl; stay = refl }
like_roused k how true (Some (Admitted t)) =
    record { scheduler = refl; thread = refl; name = refl; stay = refl }

like_ticked : (k mask : ℕ) (hop : Option Hop) (node : Option Node) → IsLike k (ticked mask hop node) node
like_ticked k mask hop None = record { scheduler = refl; thread = refl; name = refl; stay = refl }
like_ticked k mask hop (Some (Loaded s)) =
    record { scheduler = refl; thread = refl; name = refl; stay = refl }
like_ticked k mask hop (Some (Admitted t)) =
    record { scheduler = refl; thread = refl; name = refl; stay = refl }

-- the same, with the stay of each node in one form
pub record IsKeptList (h : Hierarchy) : Type 0 where
  pub schedulers : Lists h.schedulers (λ k. is_scheduler (h.nodes k))
  pub threads : Lists h.threads (λ k. is_thread (h.nodes k))
  pub stays : (k : ℕ) (stay : Stay) → open_in k (h.nodes k) ≡ Some stay → Contains h.stays stay
  pub names : (k c : ℕ) (name : List ℕ) → name_of (h.nodes k) ≡ Some name → name_of (h.nodes c) ≡ Some name
      → k ≡ c

-- where each node is like the old one
lists_same : (order : List ℕ) (test other : ℕ → Bool) → ((k : ℕ) → other k ≡ test k) → Lists order test
    → Lists order other
lists_same order test other same lists =
    record {
      all = λ k on. lists.all k (sym (same k) ∙ on);
      only = λ k on. same k
          ∙ lists.only k on;
      once = lists.once;
    }

like_lists : (h g : Hierarchy) → ((k : ℕ) → IsLike k (g.nodes k) (h.nodes k)) → g.schedulers ≡ h.schedulers
    → g.threads ≡ h.threads → g.stays ≡ h.stays → IsKeptList h → IsKeptList g
like_lists h g like schedulers threads stays kept = record {
  schedulers =
      rw schedulers
      (lists_same h.schedulers (λ k. is_scheduler (h.nodes k)) (λ k. is_scheduler (g.nodes k))
      (λ k. (like k).scheduler) kept.schedulers);
  threads = rw threads
      (lists_same h.threads (λ k. is_thread (h.nodes k)) (λ k. is_thread (g.nodes k)) (λ k. (like k).thread)
      kept.threads);
  stays = λ k stay e. rw stays (kept.stays k stay (sym (like k).stay ∙ e));
  names = λ k c name e f. kept.names k c name (sym (like k).name ∙ e) (sym (like c).name ∙ f);
}

-- the stays that begin
opened_has : (now : ℕ) (nodes : ℕ → Option Node) (begins : ℕ → Bool) (threads : List ℕ) (c : ℕ) (stay : Stay)
    → Contains threads c → begins c ≡ true → Contains (stay_of now c (nodes c)) stay
    → Contains (opened now nodes begins threads) stay
opened_has now nodes begins [] c stay there on e = absurd (none_in c there)
opened_has now nodes begins (k ∷ threads) c stay there on e = elim (in_cases k threads c there) [
  | First same ↦
      let here : (if begins k then stay_of now k (nodes k) else []) ≡ stay_of now c (nodes c) =
      ap (λ b. if b then stay_of now k (nodes k) else []) (ap begins same ∙ on)
      ∙ ap (λ n. stay_of now n (nodes n)) same in
      Contains-append_left (if begins k then stay_of now k (nodes k) else [])
      (opened now nodes begins threads) stay (rw here e)
  | Later rest ↦ Contains-append_right (if begins k then stay_of now k (nodes k) else [])
      (opened now nodes begins threads) stay (opened_has now nodes begins threads c stay rest on e)
]

contains_map : (f : Stay → Stay) (xs : List Stay) (x : Stay) → Contains xs x → Contains (map f xs) (f x)
contains_map f [] x c = absurd (none_in x c)
contains_map f (y ∷ ys) x c = elim (in_cases y ys x c) [
  | First same ↦ subst (Contains (f y ∷ map f ys)) (ap f same) (contains_first (f y) (map f ys))
  | Later rest ↦ contains_later (f y) (map f ys) (f x) (contains_map f ys x rest)
]

-- a command
module _ (h : Hierarchy) (rank : ℕ → ℕ) (k : ℕ) (node : Option Node) (below : ℕ → Bool)
    (owed : Owed h rank k node below) (kept : IsKeptList h)
    (named : (name : List ℕ) → name_of node ≡ Some name → (c : ℕ) → c ≢ k → name_of (h.nodes c) ≢ Some name)
  where
    abbrev made : Hierarchy
    made = effect h k node below

    abbrev es : ℕ → List Event
    es c = leavings (seats_of (h.nodes k)) c ++ seatings (seats_of node) c

    abbrev inner : ℕ → Option Node
    inner c = if c == k then node else marked (es c) (h.nodes c)

    here : (c : ℕ) → c ≡ k → inner c ≡ node
    here c e = at_same c k node (marked (es c) (h.nodes c)) e

    away : (c : ℕ) → c ≢ k → inner c ≡ marked (es c) (h.nodes c)
    away c ne = at_other c k node (marked (es c) (h.nodes c)) ne

    made_scheduler : is_scheduler (made.nodes k) ≡ is_scheduler node
    made_scheduler = scheduler-renewed (below k) h.now (inner k) ∙ ap is_scheduler (here k refl)

    made_thread : is_thread (made.nodes k) ≡ is_thread node
    made_thread = thread-renewed (below k) h.now (inner k) ∙ ap is_thread (here k refl)

    schedulers_listed : Lists made.schedulers (λ c. is_scheduler (made.nodes c))
    schedulers_listed =
        subst (λ b. Lists (listed (is_scheduler (h.nodes k)) b k h.schedulers)
        (λ c. is_scheduler (made.nodes c))) made_scheduler
        (listed_lists k h.schedulers (λ c. is_scheduler (h.nodes c)) (λ c. is_scheduler (made.nodes c))
        kept.schedulers
        (λ c ne. scheduler-renewed (below c) h.now (inner c) ∙ ap is_scheduler (away c ne)
        ∙ (like_marked c (es c) (h.nodes c)).scheduler))

    threads_listed : Lists made.threads (λ c. is_thread (made.nodes c))
    threads_listed =
        subst (λ b. Lists (listed (is_thread (h.nodes k)) b k h.threads) (λ c. is_thread (made.nodes c)))
        made_thread
        (listed_lists k h.threads (λ c. is_thread (h.nodes c)) (λ c. is_thread (made.nodes c)) kept.threads
        (λ c ne. thread-renewed (below c) h.now (inner c) ∙ ap is_thread (away c ne)
        ∙ (like_marked c (es c) (h.nodes c)).thread))

    name_here : (c : ℕ) → c ≡ k → name_of (made.nodes c) ≡ name_of node
    name_here c e = name-renewed (below c) h.now (inner c) ∙ ap name_of (here c e)

    name_away : (c : ℕ) → c ≢ k → name_of (made.nodes c) ≡ name_of (h.nodes c)
    name_away c ne = name-renewed (below c) h.now (inner c) ∙ ap name_of (away c ne)
        ∙ (like_marked c (es c) (h.nodes c)).name

    names_apart : (a b : ℕ) (name : List ℕ) → name_of (made.nodes a) ≡ Some name
        → name_of (made.nodes b) ≡ Some name → a ≡ b
    names_apart a b name e f = elim (cases_eq a k) [
      | inl x ↦ elim (cases_eq b k) [
        | inl y ↦ x ∙ sym y
        | inr y ↦ absurd (named name (sym (name_here a x) ∙ e) b y (sym (name_away b y) ∙ f))
      ]
      | inr x ↦ elim (cases_eq b k) [
        | inl y ↦ absurd (named name (sym (name_here b y) ∙ f) a x (sym (name_away a x) ∙ e))
        | inr y ↦ kept.names a b name (sym (name_away a x) ∙ e) (sym (name_away b y) ∙ f)
      ]
    ]

    abbrev begins : ℕ → Bool
    begins c = below c || c == k

    or_false : (a b : Bool) → (a || b) ≡ false → (a ≡ false) × (b ≡ false)
    or_false true b e = absurd (cc)
    or_false false b e = (refl, e)

    -- a thread that begins no stay has its old one
    old_stay : (c : ℕ) (stay : Stay) → begins c ≡ false → open_in c (made.nodes c) ≡ Some stay
        → Contains made.stays stay
    old_stay c stay off e =
        let neither = or_false (below c) (c == k) off in
        let ne : c ≢ k = λ is. (let yes = eq-eqb c k is in let no_k = neither.1 in cc) in
        let was : open_in c (h.nodes c) ≡ Some stay =
        sym (ap (λ b. open_in c (renewed b h.now (inner c))) neither.0 ∙ ap (open_in c) (away c ne)
        ∙ (like_marked c (es c) (h.nodes c)).stay) ∙ e in
        let there = kept.stays c stay was in
        let same : closed (begins stay.thread) h.now stay ≡ stay = stays_open (h.nodes c) was in
        Contains-append_left (map (λ (x : Stay). closed (begins x.thread) h.now x) h.stays)
        (opened h.now made.nodes begins made.threads) stay
        (subst (Contains (map (λ (x : Stay). closed (begins x.thread) h.now x) h.stays)) same
        (contains_map (λ (x : Stay). closed (begins x.thread) h.now x) h.stays stay there))
      where
        stays_open : (any : Option Node) → open_in c any ≡ Some stay
            → closed (begins stay.thread) h.now stay ≡ stay
        stays_open None f = cc
        stays_open (Some (Loaded s)) f = cc
        stays_open (Some (Admitted t)) f =
            let same : open_stay c t ≡ stay = cc in
            subst (λ (x : Stay). closed (begins x.thread) h.now x ≡ x) same (rw off refl)

    -- and one that begins one has it
    new_stay : (c : ℕ) (stay : Stay) → begins c ≡ true → (any : Option Node) → made.nodes c ≡ any
        → open_in c any ≡ Some stay → Contains made.stays stay
    new_stay c stay on None is e = cc
    new_stay c stay on (Some (Loaded s)) is e = cc
    new_stay c stay on (Some (Admitted t)) is e =
        let among = threads_listed.all c (ap is_thread is) in
        let now : t.stay ≡ h.now = begun_now h rank k node below owed c t on is in
        let same : record
        { thread = c; name = t.name; kept = t.seat.kept; since = h.now; until = None } ≡ stay =
        (let mine : open_stay c t ≡ stay = cc in
        ap (λ (n : ℕ). record { thread = c; name = t.name; kept = t.seat.kept; since = n; until = None })
        (sym now) ∙ mine) in
        Contains-append_right (map (λ (x : Stay). closed (begins x.thread) h.now x) h.stays)
        (opened h.now made.nodes begins made.threads) stay
        (opened_has h.now made.nodes begins made.threads c stay among on
        (rw is (subst (Contains (stay_of h.now c (Some (Admitted t)))) same (contains_first _ []))))

    has_stay : (c : ℕ) (stay : Stay) → open_in c (made.nodes c) ≡ Some stay → Contains made.stays stay
    has_stay c stay e = elim (cases_Bool (begins c)) [
      | inl on ↦ new_stay c stay on (made.nodes c) refl e
      | inr off ↦ old_stay c stay off e
    ]

    pub effect_lists : IsKeptList (effect h k node below)
    effect_lists =
        record {
          schedulers = schedulers_listed;
          threads = threads_listed;
          stays = has_stay;
          names =
              names_apart;
        }

-- each step
name-reseated : (seat : Seat) (node : Option Node) → name_of (reseated seat node) ≡ name_of node
name-reseated seat None = refl
name-reseated seat (Some (Loaded s)) = refl
name-reseated seat (Some (Admitted t)) = refl

new_name : (h : Hierarchy) (given : List ℕ) → ((other : ℕ) → name_of (h.nodes other) ≢ Some given)
    → (k : ℕ) (name : List ℕ) → Some given ≡ Some name → (c : ℕ) → c ≢ k → name_of (h.nodes c) ≢ Some name
new_name h given fresh k name e c ne f = fresh c (f ∙ sym e)

step_lists : (h : Hierarchy) (rank : ℕ → ℕ) (step : Step) → IsSound h rank → Can h step → IsKeptList h
    → IsKeptList (after h step)
step_lists h rank Refuse sound can kept = kept
step_lists h rank (Load k name config spare_ticks spare_marks seats) sound can kept =
    effect_lists h rank k (Some (Loaded (loaded h.now name config spare_ticks spare_marks seats))) nobody
    (step_owes h rank (Load k name config spare_ticks spare_marks seats) sound can) kept
    (new_name h name can.0.new.fresh k)
step_lists h rank (Admit k name seat) sound can kept =
    effect_lists h rank k (Some (Admitted (admitted h.now name seat))) nobody
    (step_owes h rank (Admit k name seat) sound can) kept (new_name h name can.new.fresh k)
step_lists h rank (End k) sound can kept =
    effect_lists h rank k None nobody (step_owes h rank (End k) sound can) kept (λ name e. cc)
step_lists h rank (Unload k) sound can kept =
    effect_lists h rank k None nobody (step_owes h rank (Unload k) sound can) kept (λ name e. cc)
step_lists h rank (Move k seat below) sound can kept = effect_lists h rank k (reseated seat (h.nodes k)) below
    (step_owes h rank (Move k seat below) sound can) kept
    (λ name e c ne f. ne (kept.names c k name f (sym (name-reseated seat (h.nodes k)) ∙ e)))
step_lists h rank (Rouse k burst) sound can kept =
    like_lists h (with_wake h k (wake_by burst h.now))
    (λ c. like_roused c (wake_by burst h.now) (c == k) (h.nodes c)) refl refl refl kept
step_lists h rank (Block k) sound can kept =
    like_lists h (with_wake h k Asleep) (λ c. like_roused c Asleep (c == k) (h.nodes c)) refl refl refl kept
step_lists h rank (Elapse asking masks path) sound can kept =
    like_lists h (elapsed h asking masks path)
    (λ c. like_ticked c (masks c) (hop_at (hops_of path) c) (h.nodes c)) refl refl refl kept

run_lists : (steps : List Step) (h : Hierarchy) → Kept h → IsLegal h steps → IsKeptList h
    → IsKeptList (state h steps)
run_lists [] h k legal kept = kept
run_lists (step ∷ steps) h k legal kept = run_lists steps (after h step) (step_keeps h step k legal.0) legal.1
    (step_lists h k.rank step k.sound legal.0 kept)

start_lists : IsKeptList start
start_lists = record {
  schedulers =
      record {
        all = λ k e. cc;
        only = λ k c. absurd (none_in k c);
        once =
            λ i j d lt le. absurd (omega arith);
      };
  threads = record
      { all = λ k e. cc; only = λ k c. absurd (none_in k c); once = λ i j d lt le. absurd (omega arith) };
  stays = λ k stay e. cc;
  names = λ k c name e f. cc;
}

pub run_listed : (steps : List Step) → IsLegal start steps → IsListed (state start steps)
run_listed steps legal =
    let kept = run_lists steps start start_kept legal start_lists in
    record {
      schedulers = kept.schedulers;
      threads = kept.threads;
      stays = λ k t e. kept.stays k (open_stay k t) (ap (open_in k) e);
      names = kept.names;
      sitters = run_seats steps start start_seats;
    }
