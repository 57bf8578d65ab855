-- Nobody sits on a thread, so it alone is at it or below it.
use Rattle.std.proofs.Common.{◌≡◌, ◌≢◌, ℕ, zero, suc, inl, inr, List, [], ◌∷◌, Bool, true, false, cond}
use Rattle.std.proofs.Common.{Option, Some, None, refl, sym, ap, ◌∙◌, subst, arith, filter}
use Rattle.std.specs.Prelude.{Contains, slice_get}
use Rattle.std.proofs.lemmas.Bool.{cases_eq, false_from_ne_true}
use Rattle.hls_sched.specs.Seen.{Seen}
use Rattle.hls_machine.specs.Hierarchy.{Hierarchy, Node, Loaded, Admitted, Seat, At, seats_of}
use Rattle.hls_machine.specs.Legal.{IsThread, SitsOn}
use Rattle.hls_machine.specs.Readings.{IsUnderBy}
use Rattle.hls_machine.specs.Seated.{SitsThere}
use Rattle.hls_machine.specs.Steps.{is_thread}
use Rattle.hls_machine.proofs.Commands.{thread_empty}
use Rattle.hls_machine.proofs.Listings.{First, Later, in_cases, none_in}
use Rattle.hls_sched.specs.Boxed.{boxed}
use Rattle.hls_tree_nodes.specs.Views.{shown_at}
use Rattle.hls_tree_nodes.proofs.Bare.{seats_same}
use Rattle.hls_tree.specs.Reads.{IsSort}
use Rattle.hls_tree.specs.Trees.{IsTreeOf, Stands, Any}
use Rattle.hls_tree.specs.declared.seat.Sort.TheVariants as sorts
use Rattle.hls_tree.specs.declared.tree.Tree.{Tree}
use Rattle.hls_core_stays.specs.Turnovers.{TellsBelow, AreBelow}
use Rattle.hls_core_stays.specs.Inside.Renewals.{IsApart}
use Rattle.hls_core_stays.proofs.Lists.{apart_pairs}
use Rattle.hls_core_stays.proofs.Renewed.{apart_rest}

-- ---- a test that one number of a list passes

filter_off : (test : ℕ → Bool) (k : ℕ) (ks : List ℕ) → test k ≡ false → filter test (k ∷ ks) ≡ filter test ks
filter_off test k ks off = ap (λ b. cond b (k ∷ filter test ks) (filter test ks)) off

filter_on : (test : ℕ → Bool) (k : ℕ) (ks : List ℕ) → test k ≡ true → filter test (k ∷ ks) ≡ k ∷ filter test ks
filter_on test k ks on = ap (λ b. cond b (k ∷ filter test ks) (filter test ks)) on

none_pass : (test : ℕ → Bool) (ks : List ℕ) → ((i k : ℕ) → slice_get ks i ≡ Some k → test k ≡ false)
    → filter test ks ≡ []
none_pass test [] off = refl
none_pass test (k ∷ ks) off = filter_off test k ks (off 0 k refl) ∙ none_pass test ks (λ i c e. off (suc i) c e)

module _ (test : ℕ → Bool) (k : ℕ) (on : test k ≡ true) (others : (c : ℕ) → c ≢ k → test c ≡ false) where
  one_passes : (ks : List ℕ) → IsApart ks → Contains ks k → filter test ks ≡ k ∷ []
  one_passes [] apart has = absurd (none_in k has)
  one_passes (c ∷ ks) apart has = elim (cases_eq c k) [
    | inl same ↦
        filter_on test c ks (ap test same ∙ on)
        ∙ ap (λ l. c ∷ l) (none_pass test ks (λ i d e. others d (λ is.
        (let clash = apart 0 (suc i) d (ap (λ (n : ℕ). Some n) (same ∙ sym is)) e in omega (arith, clash)))))
        ∙ ap (λ n. n ∷ []) same
    | inr ne ↦ elim (in_cases c ks k has) [
      | First same ↦ absurd (ne same)
      | Later rest ↦
          filter_off test c ks (others c ne) ∙ one_passes ks (apart_rest c ks apart) rest
    ]
  ]

-- ---- nobody is below a thread

pub thread_told : (node : Option Node) → IsSort node sorts.Thread → IsThread node
thread_told None is = absurd is
thread_told (Some (Loaded s)) is = absurd is
thread_told (Some (Admitted t)) is = record { thread = t; there = refl }

module _ (h : Hierarchy) (k : ℕ) (free : (c : ℕ) → ¬ SitsOn h c k) where
  itself : (count c : ℕ) → IsUnderBy h k count c → c ≡ k
  itself zero c under = under
  itself (suc count) c under =
      let parent = itself count under.0 under.2 in
      absurd (free c (subst (λ p. SitsOn h c p) parent under.1))

  not_below : (below : ℕ → Bool) → TellsBelow h k below → (c : ℕ) → c ≢ k → below c ≡ false
  not_below below tells c ne =
      false_from_ne_true (below c) (λ on. (let under = (tells c).0 on in ne (itself under.0 c under.1)))

-- V and P are what the checker knows a box by
module _ {V : Type 0} {P : V → Type 0} (seen : (x : V) × P x → Seen) (t : Tree V P) (id : ℕ)
    (x : Stands seen t Any)
    (sort : (h : Hierarchy) → IsTreeOf seen t h → IsSort (h.nodes id) sorts.Thread)
    (h : Hierarchy) (tree : IsTreeOf seen t h) where
  there : IsThread (x.h.nodes id)
  there = thread_told (x.h.nodes id) (sort x.h x.tree)

  seats_alike : (c : ℕ) → seats_of (h.nodes c) ≡ seats_of (x.h.nodes c)
  seats_alike c =
      seats_same (h.nodes c) (shown_at (boxed seen) t.nodes c) (tree.of.nodes c)
      ∙ sym (seats_same (x.h.nodes c) (shown_at (boxed seen) t.nodes c) (x.tree.of.nodes c))

  free : (c : ℕ) → ¬ SitsOn h c id
  free c on =
      let sits : SitsThere x.h c on.port (At id on.slot) = record {
        seat = on.seat;
        sits = ap (λ (seats : List Seat). slice_get seats on.port) (sym (seats_alike c)) ∙ on.sits;
        at_place = on.at_place;
      } in
      let taken = x.seated.taken c on.port id on.slot sits in
      let empty = thread_empty (x.h.nodes id) there on.slot in
      cc

  pub alone_below : AreBelow h id (id ∷ [])
  alone_below below tells =
      let listed = x.listed.threads.all id (ap is_thread there.there) in
      sym (ap (filter below) (tree.threads ∙ sym x.tree.threads)
      ∙ one_passes below id ((tells id).1 (0, refl)) (not_below h id free below tells) x.h.threads
      (apart_pairs x.h.threads x.listed.threads.once) listed)
