-- What a move of a thread, and of a scheduler, leaves of stays.
use Rattle.std.proofs.Common.{◌≡◌, ◌≢◌, ℕ, List, [], ◌∷◌, ◌++◌}
use Rattle.std.proofs.Common.{Bool, true, false, cond, ◌||◌, ◌==◌, refl, sym, ap, ◌∙◌, subst}
use Rattle.std.proofs.Common.{map, filter}
use Rattle.std.specs.Prelude.{Option, Some, None, slice_get, if◌then◌else◌}
use Rattle.std.proofs.lemmas.Bool.{ne_eqb, eqb-true}
use Rattle.std.proofs.lemmas.List.Kept.{AllPairs-filter}
use Rattle.hls_chron.specs.declared.book.Event.{Event}
use Rattle.hls_scenario.specs.declared.scenario.Command.{Command}
use Rattle.hls_scenario.specs.declared.scenario.Command.TheVariants as said
use Rattle.hls_machine.specs.Hierarchy.{Hierarchy, Stay, Thread, Node, Loaded, Admitted, Seat, seats_of}
use Rattle.hls_machine.specs.Steps.{Step, Move, closed, stay_of, opened, is_thread, effect, nodes_after}
use Rattle.hls_machine.specs.Steps.{reseated, after}
use Rattle.hls_machine.specs.Steps.{marked, renewed, leavings, seatings}
use Rattle.hls_machine.specs.Legal.{Can, IsBelow, IsThread}
use Rattle.hls_machine.specs.Lists.{IsListed, open_stay}
use Rattle.hls_machine.proofs.Listings.{filter_had}
use Rattle.hls_legal.specs.Tells.{Does}
use Rattle.hls_legal.proofs.Alike.{moved-reseated}
use Rattle.hls_legal.proofs.Orders.{listed_same}
use Rattle.hls_core_stays.specs.Tallies.{AreTallies, AreStays, IsStanding}
use Rattle.hls_core_stays.specs.Turnovers.{TellsBelow, IsTurnover}
use Rattle.hls_core_stays.specs.Inside.Steps.{HasOpen}
use Rattle.hls_core_stays.specs.Inside.Renewals.{IsApart, HasAlike, AreRenewable, renewed_one, renewed_all}
use Rattle.hls_core_stays.specs.declared.stays.Stays.{Stays}
use Rattle.hls_core_stays.specs.declared.turnover.Turnover.{Turnover}
use Rattle.hls_core_stays.specs.declared.turnover.Turnover.TheVariants.{Reseats, Renews}
use Rattle.hls_core_stays.proofs.Lists.{map_same, is_in, place_of, contains_at, apart_pairs}
use Rattle.hls_core_stays.proofs.Lasting.{open_in, has_kept}
use Rattle.hls_core_stays.proofs.Noted.{at_effect}
use Rattle.hls_core_stays.proofs.Renewed.{renewed_is, opened_filter, in_filter, closed_alike, shut_on}
use Rattle.hls_core_stays.proofs.Follows.{thread_is, has_open}

-- ---- the stays of the threads below

is_thread-reseated : (seat : Seat) (node : Option Node) → is_thread (reseated seat node) ≡ is_thread node
is_thread-reseated seat None = refl
is_thread-reseated seat (Some (Loaded s)) = refl
is_thread-reseated seat (Some (Admitted t)) = refl

or_itself : (below : ℕ → Bool) (k c : ℕ) → below k ≡ true → (below c || c == k) ≡ below c
or_itself below k c on = by (below c) refl
  where
    by : (b : Bool) → below c ≡ b → (b || c == k) ≡ b
    by true e = refl
    by false e = ne_eqb c k (λ is. (let clash : true ≡ false = sym on ∙ ap below (sym is) ∙ e in absurd (cc)))

opened_alike : (now : ℕ) (nodes : ℕ → Option Node) (one other : ℕ → Bool) (ks : List ℕ)
    → ((c : ℕ) → one c ≡ other c) → opened now nodes one ks ≡ opened now nodes other ks
opened_alike now nodes one other [] same = refl
opened_alike now nodes one other (k ∷ ks) same =
    ap (λ (b : Bool). (if b then stay_of now k (nodes k) else []) ++ opened now nodes one ks) (same k)
    ∙ ap (λ l. (if other k then stay_of now k (nodes k) else []) ++ l) (opened_alike now nodes one other ks same)

pub moved_threads : (h : Hierarchy) (k : ℕ) (seat : Seat) (below : ℕ → Bool)
    → (effect h k (reseated seat (h.nodes k)) below).threads ≡ h.threads
moved_threads h k seat below =
    listed_same (is_thread (h.nodes k)) (is_thread (reseated seat (h.nodes k))) (is_thread (h.nodes k)) k h.threads
    refl (is_thread-reseated seat (h.nodes k))

pub moved_stays : (h : Hierarchy) (k : ℕ) (seat : Seat) (below : ℕ → Bool) → IsStanding h → IsListed h
    → below k ≡ true → IsApart (filter below h.threads)
    → renewed_all (effect h k (reseated seat (h.nodes k)) below) h.stays (filter below h.threads)
    ≡ (effect h k (reseated seat (h.nodes k)) below).stays
moved_stays h k seat below standing listed_is on apart =
    let made = effect h k (reseated seat (h.nodes k)) below in
    let ks = filter below h.threads in
    let begins : ℕ → Bool = λ c. below c || c == k in
    renewed_is made h.stays ks apart
    ∙ ap (λ l. l ++ opened h.now made.nodes (λ c. true) ks)
    (map_same (λ (x : Stay). closed (begins x.thread) h.now x) (shut_on h.now ks) h.stays
    (λ i x e. closed_alike x (is_in ks x.thread) (begins x.thread) h.now
    (λ none. in_filter below h.threads x.thread
    (listed_is.threads.all x.thread (standing.there i x e none))
    ∙ sym (or_itself below k x.thread on))))
    ∙ ap (λ l. map (λ (x : Stay). closed (begins x.thread) h.now x) h.stays ++ l)
    (opened_filter h.now made.nodes below h.threads
    ∙ opened_alike h.now made.nodes below begins h.threads (λ c. sym (or_itself below k c on))
    ∙ ap (opened h.now made.nodes begins) (sym (moved_threads h k seat below)))

-- ---- what is known of them

is_thread-marked : (es : List Event) (node : Option Node) → is_thread (marked es node) ≡ is_thread node
is_thread-marked es None = refl
is_thread-marked es (Some (Loaded s)) = refl
is_thread-marked es (Some (Admitted t)) = refl

is_thread-renewed : (b : Bool) (now : ℕ) (node : Option Node) → is_thread (renewed b now node) ≡ is_thread node
is_thread-renewed false now any = refl
is_thread-renewed true now None = refl
is_thread-renewed true now (Some (Loaded s)) = refl
is_thread-renewed true now (Some (Admitted t)) = refl

moved_thread : (h : Hierarchy) (k c : ℕ) (seat : Seat) (below : ℕ → Bool)
    → is_thread (nodes_after h k (reseated seat (h.nodes k)) below c) ≡ is_thread (h.nodes c)
moved_thread h k c seat below =
    is_thread-renewed (below c) h.now (cond (c == k) (reseated seat (h.nodes k)) (marked es (h.nodes c)))
    ∙ by (c == k) refl
  where
    es : List Event
    es = leavings (seats_of (h.nodes k)) c ++ seatings (seats_of (reseated seat (h.nodes k))) c

    by : (b : Bool) → (c == k) ≡ b
        → is_thread (cond b (reseated seat (h.nodes k)) (marked es (h.nodes c))) ≡ is_thread (h.nodes c)
    by true on =
        is_thread-reseated seat (h.nodes k) ∙ ap (λ n. is_thread (h.nodes n)) (sym (eqb-true c k on))
    by false off = is_thread-marked es (h.nodes c)

moved_tallies : (s : Stays) (h : Hierarchy) (k : ℕ) (seat : Seat) (below : ℕ → Bool) (kept : List Stay)
    → AreTallies s h kept → AreTallies s (effect h k (reseated seat (h.nodes k)) below) kept
moved_tallies s h k seat below kept are =
    at_effect s h k (reseated seat (h.nodes k)) below kept
    (λ has is. (let moved = moved-reseated seat (h.nodes k) in (moved.sort, moved.wake))) are

apart_below : (h : Hierarchy) (below : ℕ → Bool) → IsListed h → IsApart (filter below h.threads)
apart_below h below lists =
    apart_pairs (filter below h.threads)
    (AllPairs-filter (λ (k c : ℕ). k ≢ c) below h.threads lists.threads.once)

-- the stay of a thread that was moved has ended, and another begun
pub record HasReseated (s : Stays) (h later : Hierarchy) (kept : List Stay) (k : ℕ) : Type 0 where
  pub are : AreTallies s later kept
  pub has : HasOpen kept k
  pub thread : IsThread (later.nodes k)
  pub stays : renewed_one later h.stays k ≡ later.stays

moved_alone : (s : Stays) (h : Hierarchy) (k : ℕ) (seat : Seat) (below : ℕ → Bool) → IsStanding h → IsListed h
    → below k ≡ true → is_thread (h.nodes k) ≡ true → k ∷ [] ≡ filter below h.threads → (are : AreStays s h)
    → HasReseated s h (effect h k (reseated seat (h.nodes k)) below) are.kept k
moved_alone s h k seat below standing lists on is alone are =
    let made = effect h k (reseated seat (h.nodes k)) below in
    record {
      are = moved_tallies s h k seat below are.kept are.are;
      has = has_kept h.stays are.kept k (sym are.all) (has_open h k lists (thread_is (h.nodes k) is));
      thread = thread_is (made.nodes k) (moved_thread h k k seat below ∙ is);
      stays = ap (renewed_all made h.stays) alone
          ∙ moved_stays h k seat below standing lists on (apart_below h below lists);
    }

-- a thread with the name of another, and its guarantee
record IsSameThread (t : Thread) (node : Option Node) : Type 0 where
  pub thread : IsThread node
  pub name : t.name ≡ thread.thread.name
  pub kept : t.seat.kept ≡ thread.thread.seat.kept

same_renewed : (b : Bool) (now : ℕ) (t : Thread) → IsSameThread t (renewed b now (Some (Admitted t)))
same_renewed false now t = record { thread = record { thread = t; there = refl }; name = refl; kept = refl }
same_renewed true now t = record {
  thread = record { thread = record t { stay = now }; there = refl };
  name = refl;
  kept = refl;
}

-- a thread that was not moved itself keeps its name and its guarantee
same_moved : (h : Hierarchy) (k c : ℕ) (node : Option Node) (below : ℕ → Bool) (t : Thread) → (c == k) ≡ false
    → h.nodes c ≡ Some (Admitted t) → IsSameThread t (nodes_after h k node below c)
same_moved h k c node below t off there =
    let es = leavings (seats_of (h.nodes k)) c ++ seatings (seats_of node) c in
    subst (IsSameThread t)
    (sym (ap (λ b. renewed (below c) h.now (cond b node (marked es (h.nodes c)))) off
    ∙ ap (λ (n : Option Node). renewed (below c) h.now (marked es n)) there))
    (same_renewed (below c) h.now t)

-- the stays of these threads have ended, and others begun
pub record HaveRenewed (s : Stays) (h later : Hierarchy) (kept : List Stay) (ids : List ℕ) : Type 0 where
  pub may : AreRenewable s later kept ids
  pub stays : renewed_all later h.stays ids ≡ later.stays

moved_above : (s : Stays) (h : Hierarchy) (k : ℕ) (seat : Seat) (below : ℕ → Bool) → IsStanding h → IsListed h
    → below k ≡ true → is_thread (h.nodes k) ≡ false → (are : AreStays s h)
    → HaveRenewed s h (effect h k (reseated seat (h.nodes k)) below) are.kept (filter below h.threads)
moved_above s h k seat below standing lists on off are =
    record {
      may = record {
        are = moved_tallies s h k seat below are.kept are.are;
        apart = apart_below h below lists;
        each = λ i c e. alike c (thread_is (h.nodes c) (was i c e));
      };
      stays = moved_stays h k seat below standing lists on (apart_below h below lists);
    }
  where
    was : (i c : ℕ) → slice_get (filter below h.threads) i ≡ Some c → is_thread (h.nodes c) ≡ true
    was i c e =
        lists.threads.only c (filter_had below h.threads c (contains_at (filter below h.threads) i c e))

    other : (c : ℕ) → IsThread (h.nodes c) → (c == k) ≡ false
    other c x = ne_eqb c k (λ same.
        (let clash : true ≡ false = sym (ap is_thread x.there) ∙ ap (λ n. is_thread (h.nodes n)) same ∙ off in
        absurd (cc)))

    alike : (c : ℕ) → IsThread (h.nodes c) → HasAlike (effect h k (reseated seat (h.nodes k)) below) are.kept c
    alike c x =
        let same = same_moved h k c (reseated seat (h.nodes k)) below x.thread (other c x) x.there in
        let was = place_of h.stays (open_stay c x.thread) (lists.stays c x.thread x.there) in
        let at = open_in h.stays are.kept was.0 (open_stay c x.thread) (sym are.all) was.1 refl in
        record {
          has = record {
            at = at.0;
            stay = open_stay c x.thread;
            there = at.1;
            thread = refl;
            is_open = refl;
          };
          thread = same.thread;
          name = same.name;
          kept = same.kept;
        }

pub follow_reseats : (s : Stays) (h : Hierarchy) (id : ℕ) (command : Command) (step : Step)
    → IsTurnover h command (Reseats id) → Does h command step → Can h step
    → ((k : ℕ) (below : ℕ → Bool) → IsBelow h k below → TellsBelow h k below) → IsStanding h → IsListed h
    → (are : AreStays s h) → HasReseated s h (after h step) are.kept id
follow_reseats s h id (said.Move name perch) (Move k seat below) of does can tells standing lists are =
    let is : k ≡ id = lists.names k id name does.0 of.0 in
    subst (HasReseated s h (effect h k (reseated seat (h.nodes k)) below) are.kept) is
    (moved_alone s h k seat below standing lists can.0.under.itself
    (ap (λ n. is_thread (h.nodes n)) is ∙ of.1)
    (ap (λ n. n ∷ []) is ∙ of.2 below (subst (λ n. TellsBelow h n below) is (tells k below can.0.under))) are)
follow_reseats s h id (said.Move name perch) _ of does can tells standing lists are = absurd does
follow_reseats s h id _ _ of does can tells standing lists are = absurd of

abbrev pub RenewsThese : Turnover → List ℕ → Type 0
RenewsThese (Renews threads) ids = threads.items ≡ ids
RenewsThese _ ids = ⊥

pub follow_renews : (s : Stays) (h : Hierarchy) (ids : List ℕ) (turnover : Turnover) (command : Command)
    (step : Step) → IsTurnover h command turnover → RenewsThese turnover ids → Does h command step → Can h step
    → ((k : ℕ) (below : ℕ → Bool) → IsBelow h k below → TellsBelow h k below) → IsStanding h → IsListed h
    → (are : AreStays s h) → HaveRenewed s h (after h step) are.kept ids
follow_renews s h ids (Renews threads) (said.Move name perch) (Move k seat below) of same does can tells standing lists
    are =
    let is : of.0 ≡ k = lists.names of.0 k name of.1 does.0 in
    let told : TellsBelow h of.0 below = subst (λ n. TellsBelow h n below) (sym is) (tells k below can.0.under) in
    subst (HaveRenewed s h (effect h k (reseated seat (h.nodes k)) below) are.kept)
    (sym (sym same ∙ of.3 below told))
    (moved_above s h k seat below standing lists can.0.under.itself
    (ap (λ n. is_thread (h.nodes n)) (sym is) ∙ of.2) are)
follow_renews s h ids (Renews threads) (said.Move name perch) _ of same does can tells standing lists are = absurd does
follow_renews s h ids (Renews threads) _ _ of same does can tells standing lists are = absurd of
follow_renews s h ids _ _ _ of same does can tells standing lists are = absurd same
