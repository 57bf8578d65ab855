-- What the steps of commands leave of stays.
use Rattle.std.proofs.Common.{◌≡◌, ℕ, suc, List, [], ◌∷◌, ◌++◌}
use Rattle.std.proofs.Common.{Bool, true, false, ◌||◌, ◌==◌, refl, sym, ap, ◌∙◌, subst}
use Rattle.std.specs.Prelude.{Option, Some, None, slice_get, if◌then◌else◌}
use Rattle.std.proofs.lemmas.Bool.{ne_eqb, eq-eqb}
use Rattle.std.proofs.lemmas.List.{append-nil}
use Rattle.hls_machine.specs.Hierarchy.{Hierarchy, Stay, Node, Loaded, Admitted, Wake, Seat}
use Rattle.hls_machine.specs.Steps.{closed, stay_of, opened, is_thread, listed, effect, nobody, nodes_after, with_wake}
use Rattle.hls_machine.specs.Steps.{admitted, after}
use Rattle.hls_machine.specs.Legal.{IsThread}
use Rattle.hls_machine.specs.Lists.{IsListed, open_stay}
use Rattle.hls_legal.proofs.Orders.{opened_without, opened_push, listed_same}
use Rattle.hls_core_stays.specs.Tallies.{AreTallies, AreStays, IsStanding, lasting}
use Rattle.hls_core_stays.specs.Inside.Steps.{HasOpen, HasNone, without}
use Rattle.hls_core_stays.specs.declared.stays.Stays.{Stays}
use Rattle.hls_core_stays.proofs.Lists.{same_map, place_of, contains_at}
use Rattle.hls_core_stays.proofs.Lasting.{has_kept, none_kept}
use Rattle.hls_core_stays.proofs.Ends.{closed_not}
use Rattle.hls_core_stays.proofs.Noted.{at_effect}
use Rattle.hls_scenario.specs.declared.scenario.Command.{Command}
use Rattle.hls_scenario.specs.declared.scenario.Command.TheVariants as said
use Rattle.hls_machine.specs.Hierarchy.{Asleep, seats_of}
use Rattle.hls_machine.specs.Steps.{Step, Load, Admit, End, Unload, Move}
use Rattle.hls_machine.specs.Steps.{Rouse, Block, marked, leavings, seatings}
use Rattle.hls_machine.specs.Steps.{loaded, wake_by}
use Rattle.hls_machine.specs.Legal.{Can}
use Rattle.hls_machine.proofs.Kept.{at_same}
use Rattle.hls_legal.specs.Tells.{Does, HasName}
use Rattle.hls_legal.proofs.Alike.{wake_of}
use Rattle.hls_core_stays.specs.Turnovers.{IsTurnover}
use Rattle.hls_core_stays.specs.declared.turnover.Turnover.TheVariants.{Nothing, Begins, Ends, Rouses}

pub thread_is : (node : Option Node) → is_thread node ≡ true → IsThread node
thread_is None is = absurd (cc)
thread_is (Some (Loaded s)) is = absurd (cc)
thread_is (Some (Admitted t)) is = record { thread = t; there = refl }

-- a thread has an open stay
pub has_open : (h : Hierarchy) (k : ℕ) → IsListed h → IsThread (h.nodes k) → HasOpen h.stays k
has_open h k listed thread =
    let at = place_of h.stays (open_stay k thread.thread) (listed.stays k thread.thread thread.there) in
    record { at = at.0; stay = open_stay k thread.thread; there = at.1; thread = refl; is_open = refl }

-- what is no thread has none
pub has_none : (h : Hierarchy) (k : ℕ) → IsStanding h → is_thread (h.nodes k) ≡ false → HasNone h.stays k
has_none h k standing off at stay e none is =
    let yes = standing.there at stay e none in
    let clash : true ≡ false = sym yes ∙ ap (λ n. is_thread (h.nodes n)) is ∙ off in absurd (cc)

-- where a node is no thread none of its stays ends
pub none_ends : (h : Hierarchy) (k : ℕ) → IsStanding h → is_thread (h.nodes k) ≡ false
    → without h.now k h.stays ≡ h.stays
none_ends h k standing off = same_map (λ (x : Stay). closed (x.thread == k) h.now x) h.stays
    (λ i x e. closed_not x (x.thread == k) h.now
    (λ none. ne_eqb x.thread k (λ is. has_none h k standing off i x e none is)))

pub opened_nothing : (now : ℕ) (nodes : ℕ → Option Node) (begins : ℕ → Bool) (ks : List ℕ)
    → ((i c : ℕ) → slice_get ks i ≡ Some c → begins c ≡ false) → opened now nodes begins ks ≡ []
opened_nothing now nodes begins [] off = refl
opened_nothing now nodes begins (k ∷ ks) off =
    ap (λ (b : Bool). (if b then stay_of now k (nodes k) else []) ++ opened now nodes begins ks) (off 0 k refl)
    ∙ opened_nothing now nodes begins ks (λ i c e. off (suc i) c e)

-- a node that is no thread is not on the list of threads
not_listed : (h : Hierarchy) (k : ℕ) → IsListed h → is_thread (h.nodes k) ≡ false → (i c : ℕ)
    → slice_get h.threads i ≡ Some c → (c == k) ≡ false
not_listed h k listed_is off i c e = ne_eqb c k (λ is.
    (let yes = listed_is.threads.only c (contains_at h.threads i c e) in
    let clash : true ≡ false = sym yes ∙ ap (λ n. is_thread (h.nodes n)) is ∙ off in absurd (cc)))

-- a scheduler comes or goes
pub quiet : (h : Hierarchy) (k : ℕ) (node : Option Node) → IsStanding h → IsListed h
    → is_thread (h.nodes k) ≡ false → is_thread node ≡ false → (effect h k node nobody).stays ≡ h.stays
quiet h k node standing listed_is was is =
    let nodes = nodes_after h k node nobody in
    let begins : ℕ → Bool = λ c. nobody c || c == k in
    ap (λ l. l ++ opened h.now nodes begins (listed (is_thread (h.nodes k)) (is_thread node) k h.threads))
    (none_ends h k standing was)
    ∙ ap (λ l. h.stays ++ opened h.now nodes begins l)
    (listed_same (is_thread (h.nodes k)) (is_thread node) false k h.threads was is)
    ∙ ap (λ l. h.stays ++ l)
    (opened_nothing h.now nodes begins h.threads (λ i c e. not_listed h k listed_is was i c e))
    ∙ append-nil h.stays

-- where a node is no thread it keeps what it has
keeps_none : (h : Hierarchy) (stays : List Stay) (k : ℕ) (node : Option Node) → HasNone stays k → HasOpen stays k
    → is_thread node ≡ true → (is_thread node ≡ is_thread (h.nodes k)) × (wake_of node ≡ wake_of (h.nodes k))
keeps_none h stays k node none has is = absurd (none has.at has.stay has.there has.is_open has.thread)

pub quiet_tallies : (s : Stays) (h : Hierarchy) (k : ℕ) (node : Option Node) → IsStanding h → IsListed h
    → is_thread (h.nodes k) ≡ false → is_thread node ≡ false → AreStays s h → AreStays s (effect h k node nobody)
quiet_tallies s h k node standing listed_is was is are =
    record {
      kept = are.kept;
      are = at_effect s h k node nobody are.kept
          (keeps_none h are.kept k node (none_kept h.stays are.kept k are.all (has_none h k standing was))) are.are;
      all = are.all ∙ ap lasting (sym (quiet h k node standing listed_is was is));
    }

-- a thread comes
pub admitted_threads : (h : Hierarchy) (k : ℕ) (name : List ℕ) (seat : Seat) → h.nodes k ≡ None
    → (effect h k (Some (Admitted (admitted h.now name seat))) nobody).threads ≡ h.threads ++ k ∷ []
admitted_threads h k name seat none = ap (λ n. listed (is_thread n) true k h.threads) none

pub admitted_stays : (h : Hierarchy) (k : ℕ) (name : List ℕ) (seat : Seat) → IsStanding h → IsListed h
    → h.nodes k ≡ None
    → (effect h k (Some (Admitted (admitted h.now name seat))) nobody).stays
    ≡ h.stays
    ++ stay_of h.now k ((effect h k (Some (Admitted (admitted h.now name seat))) nobody).nodes k)
admitted_stays h k name seat standing listed_is none =
    let node : Option Node = Some (Admitted (admitted h.now name seat)) in
    let nodes = nodes_after h k node nobody in
    let begins : ℕ → Bool = λ c. nobody c || c == k in
    let was : is_thread (h.nodes k) ≡ false = ap is_thread none in
    ap (λ l. l ++ opened h.now nodes begins (listed (is_thread (h.nodes k)) true k h.threads))
    (none_ends h k standing was)
    ∙ ap (λ l. h.stays ++ opened h.now nodes begins l) (admitted_threads h k name seat none)
    ∙ ap (λ l. h.stays ++ l)
    (opened_push h.now nodes begins h.threads k
    (opened_nothing h.now nodes begins h.threads (λ i c e. not_listed h k listed_is was i c e))
    (eq-eqb k k refl))

-- a thread goes
pub ended_stays : (h : Hierarchy) (k : ℕ) → is_thread (h.nodes k) ≡ true
    → (effect h k None nobody).stays ≡ without h.now k h.stays
ended_stays h k is =
    let nodes = nodes_after h k None nobody in
    let begins : ℕ → Bool = λ c. nobody c || c == k in
    ap (λ b. without h.now k h.stays ++ opened h.now nodes begins (listed b false k h.threads)) is
    ∙ ap (λ l. without h.now k h.stays ++ l) (opened_without h.now nodes k h.threads)
    ∙ append-nil (without h.now k h.stays)

-- ---- what each turnover comes to

pub follow_nothing : (s : Stays) (h : Hierarchy) (command : Command) (step : Step) → IsTurnover h command Nothing
    → Does h command step → Can h step → IsStanding h → IsListed h → AreStays s h → AreStays s (after h step)
follow_nothing s h (said.Load name config perches) (Load k new set ticks marks seats) of does can standing lists are =
    quiet_tallies s h k (Some (Loaded (loaded h.now new set ticks marks seats))) standing lists
    (ap is_thread can.0.new.unused) refl are
follow_nothing s h (said.Load name config perches) _ of does can standing lists are = absurd does
follow_nothing s h (said.Thread name perch) _ of does can standing lists are = absurd of
follow_nothing s h (said.End name) (End k) of does can standing lists are = absurd (of k does)
follow_nothing s h (said.End name) _ of does can standing lists are = absurd does
follow_nothing s h (said.Unload name) (Unload k) of does can standing lists are =
    quiet_tallies s h k None standing lists (ap is_thread can.there) refl are
follow_nothing s h (said.Unload name) _ of does can standing lists are = absurd does
follow_nothing s h (said.Move name perch) (Move k seat below) of does can standing lists are = absurd (of k does.0)
follow_nothing s h (said.Move name perch) _ of does can standing lists are = absurd does
follow_nothing s h (said.Wake name every burst) (Rouse k ticks) of does can standing lists are = absurd (of k does.0)
follow_nothing s h (said.Wake name every burst) _ of does can standing lists are = absurd does
follow_nothing s h (said.Block name) (Block k) of does can standing lists are = absurd (of k does)
follow_nothing s h (said.Block name) _ of does can standing lists are = absurd does

-- a thread has begun its first stay
pub record HasBegun (s : Stays) (h later : Hierarchy) (kept : List Stay) : Type 0 where
  pub k : ℕ
  pub front : List ℕ
  pub threads : later.threads ≡ front ++ k ∷ []
  pub thread : IsThread (later.nodes k)
  pub none : HasNone kept k
  pub stays : later.stays ≡ h.stays ++ stay_of later.now k (later.nodes k)
  pub are : AreTallies s later kept

pub follow_begins : (s : Stays) (h : Hierarchy) (command : Command) (step : Step) → IsTurnover h command Begins
    → Does h command step → Can h step → IsStanding h → IsListed h → (are : AreStays s h)
    → HasBegun s h (after h step) are.kept
follow_begins s h (said.Thread name perch) (Admit k new seat) of does can standing lists are = record {
  k = k;
  front = h.threads;
  threads = admitted_threads h k new seat can.new.unused;
  thread = record {
    thread = admitted h.now new seat;
    there = at_same k k (Some (Admitted (admitted h.now new seat)))
        (marked (leavings (seats_of (h.nodes k)) k ++ seatings (seat ∷ []) k) (h.nodes k)) refl;
  };
  none = none_kept h.stays are.kept k are.all (has_none h k standing (ap is_thread can.new.unused));
  stays = admitted_stays h k new seat standing lists can.new.unused;
  are = at_effect s h k (Some (Admitted (admitted h.now new seat))) nobody are.kept
      (keeps_none h are.kept k (Some (Admitted (admitted h.now new seat)))
      (none_kept h.stays are.kept k are.all (has_none h k standing (ap is_thread can.new.unused)))) are.are;
}
follow_begins s h (said.Thread name perch) _ of does can standing lists are = absurd does
follow_begins s h _ _ of does can standing lists are = absurd of

-- the stay of a thread has ended
pub record HasEnded (s : Stays) (h later : Hierarchy) (kept : List Stay) (k : ℕ) : Type 0 where
  pub has : HasOpen kept k
  pub stays : later.stays ≡ without later.now k h.stays
  pub are : AreTallies s later kept

ended_there : (node : Option Node) → IsThread node → is_thread node ≡ true
ended_there node thread = ap is_thread thread.there

pub follow_ends : (s : Stays) (h : Hierarchy) (id : ℕ) (command : Command) (step : Step)
    → IsTurnover h command (Ends id) → Does h command step → Can h step → IsStanding h → IsListed h
    → (are : AreStays s h) → HasEnded s h (after h step) are.kept id
follow_ends s h id (said.End name) (End k) of does can standing lists are =
    subst (HasEnded s h (effect h k None nobody) are.kept) (sym (lists.names id k name of does)) (record {
      has = has_kept h.stays are.kept k (sym are.all) (has_open h k lists can);
      stays = ended_stays h k (ended_there (h.nodes k) can);
      are = at_effect s h k None nobody are.kept (λ has is. absurd (cc)) are.are;
    })
follow_ends s h id (said.End name) _ of does can standing lists are = absurd does
follow_ends s h id _ _ of does can standing lists are = absurd of

-- a thread was woken or blocked
pub record HasRoused (h : Hierarchy) (step : Step) (k : ℕ) : Type 0 where
  pub how : Wake
  pub leads : after h step ≡ with_wake h k how
  pub has : HasOpen h.stays k
  pub thread : IsThread (h.nodes k)

roused_here : (h : Hierarchy) (step : Step) (id k : ℕ) (name : List ℕ) (how : Wake) → IsListed h → HasName h id name
    → HasName h k name → IsThread (h.nodes k) → after h step ≡ with_wake h k how → HasRoused h step id
roused_here h step id k name how lists named has thread leads =
    subst (HasRoused h step) (sym (lists.names id k name named has))
    (record { how = how; leads = leads; has = has_open h k lists thread; thread = thread })

pub follow_rouses : (h : Hierarchy) (id : ℕ) (command : Command) (step : Step) → IsTurnover h command (Rouses id)
    → Does h command step → Can h step → IsListed h → HasRoused h step id
follow_rouses h id (said.Wake name every burst) (Rouse k ticks) of does can lists =
    roused_here h (Rouse k ticks) id k name (wake_by ticks h.now) lists of does.0 can refl
follow_rouses h id (said.Wake name every burst) _ of does can lists = absurd does
follow_rouses h id (said.Block name) (Block k) of does can lists =
    roused_here h (Block k) id k name Asleep lists of does can refl
follow_rouses h id (said.Block name) _ of does can lists = absurd does
follow_rouses h id _ _ of does can lists = absurd of
