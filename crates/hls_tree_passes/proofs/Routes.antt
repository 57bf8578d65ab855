-- The processor is taken back along a route.
use Rattle.std.proofs.Common.{◌≡◌, ◌≢◌, inl, inr, ℕ, suc, ◌+◌, ◌≤◌, false, List, [], ◌∷◌, Option}
use Rattle.std.proofs.Common.{Some, None, refl, sym, ap, ◌∙◌, subst, arith, slice_get, length}
use Rattle.std.specs.Prelude.{is_some}
use Rattle.std.proofs.lemmas.Bool.{cases_eq, ne_eqb}
use Rattle.std.proofs.lemmas.Option.{slice_get_within}
use Rattle.hls_sched.specs.Seen.{revoked}
use Rattle.hls_machine.specs.Steps.{Hop, hop_at, hops_of, Path}
use Rattle.hls_tree_nodes.specs.Shown.{What, Scheduler, Thread, Shown, PostedIn, PostedWhat}
use Rattle.hls_tree_nodes.specs.Shown.{on_post, on_what, post_revoked, grant_in, grant_what}
use Rattle.hls_tree_nodes.specs.TreeOf.{IsOn, Ran, nodes_of, route_of, granted_by}
use Rattle.hls_tree_nodes.specs.Known.{IsOnRoute, IsAlongRoute}
use Rattle.hls_tree_nodes.proofs.Snapshots as snapshots
use Rattle.hls_tree_nodes.proofs.Snapshots.{Nodes}
use Rattle.hls_tree_nodes.proofs.Walks.{before_cases, IsChangedOn}
use Rattle.hls_tree_passes.proofs.Passes.{chosen}
use Rattle.hls_tree_nodes.specs.Behind.{behind_at, place_what}
use Rattle.hls_tree_nodes.proofs.Behind.{no_place}

-- twice is once
twice_what : (w : What) → on_what post_revoked (on_what post_revoked w) ≡ on_what post_revoked w
twice_what (Scheduler post) = refl
twice_what (Thread r) = refl

twice : (o : Option Shown) → on_post post_revoked (on_post post_revoked o) ≡ on_post post_revoked o
twice None = refl
twice (Some s) = ap (λ (w : What). Some (record s { what = w })) (twice_what s.what)

-- who is neither granted nor behind stays as it is
free_what : (w : What) → PostedWhat w → grant_what w ≡ None → place_what w ≡ None → on_what post_revoked w ≡ w
free_what (Scheduler post) posted free up =
    let off : post.granted ≡ false = posted.granted ∙ ap is_some free in
    let unit : revoked post.unit ≡ post.unit =
    ap (λ (grant : Option ℕ). record post.unit { grant = grant }) (sym free) in
    let lag : None ≡ post.lag = sym (no_place post.lag up) in
    λ i. Scheduler (record {
      unit = unit i;
      config = post.config;
      mask = post.mask;
      granted = sym off i;
      lag = lag i;
    })
free_what (Thread r) posted free up = refl

free_kept : (o : Option Shown) → PostedIn o → grant_in o ≡ None → behind_at o ≡ None → on_post post_revoked o ≡ o
free_kept None posted free up = refl
free_kept (Some s) posted free up = ap (λ (w : What). Some (record s { what = w })) (free_what s.what posted free up)

-- one node of the route more, which may have been on it before
pub revoked_step : (old mid new : Nodes) (l : List ℕ) (i key : ℕ) → slice_get l i ≡ Some key
    → IsChangedOn (λ o. o) (λ k. on_post post_revoked) old mid l i → ((k : ℕ) → k ≢ key → new k ≡ mid k)
    → new key ≡ on_post post_revoked (mid key)
    → IsChangedOn (λ o. o) (λ k. on_post post_revoked) old new l (i + 1)
revoked_step old mid new l i key at w others here =
    let there : new key ≡ on_post post_revoked (old key) = here ∙ (elim (before_cases l i key) [
      | inl b ↦ ap (on_post post_revoked) (w.done key b) ∙ twice (old key)
      | inr not ↦ ap (on_post post_revoked) (w.rest key not)
    ]) in
    record {
      done = λ k b. elim (cases_eq k key) [
        | inl e ↦ (let e' : key ≡ k = sym e in
            subst (λ n. new n ≡ on_post post_revoked (old n)) e' there)
        | inr ne ↦ others k ne ∙ w.done k (
          b.0,
          (let lt = b.1 in elim (cases_eq b.0 i) [
            | inl j ↦ absurd (ne (let same : Some k ≡ Some key = sym b.2 ∙ ap (slice_get l) j ∙ at in cc))
            | inr nj ↦ omega (arith, lt, nj)
          ]),
          b.2,
        )
      ];
      rest = λ k none. others k (λ e. none (i, omega arith, at ∙ ap Some (sym e)))
          ∙ w.rest k (λ b. none (b.0, (let lt = b.1 in omega (arith, lt)), b.2));
    }

pub still_posted : (old new : Nodes) (l : List ℕ) (i : ℕ) → ((k : ℕ) → PostedIn (old k))
    → IsChangedOn (λ o. o) (λ k. on_post post_revoked) old new l i → (k : ℕ) → PostedIn (new k)
still_posted old new l i posted w k = elim (before_cases l i k) [
  | inl b ↦ subst PostedIn (sym (w.done k b)) ((snapshots.revoked (old k)).posted (posted k))
  | inr not ↦ subst PostedIn (sym (w.rest k not)) (posted k)
]

none_or : (o : Option ℕ) → (o ≢ None → ⊥) → o ≡ None
none_or None never = refl
none_or (Some n) never = absurd (never (λ e. cc))

pub revoked_listed : (old new : Nodes) (l : List ℕ) (i : ℕ) → ((k : ℕ) → PostedIn (old k))
    → IsAlongRoute old (Some l) → ((k : ℕ) → behind_at (old k) ≡ None) → length l ≤ i
    → IsChangedOn (λ o. o) (λ k. on_post post_revoked) old new l i
    → (k : ℕ) → new k ≡ on_post post_revoked (old k)
revoked_listed old new l i posted along up le w k = elim (before_cases l i k) [
  | inl b ↦ w.done k b
  | inr not ↦ w.rest k not ∙ sym (free_kept (old k) (posted k) (none_or (grant_in (old k)) (λ some.
      let on = along k some in
      let lt = slice_get_within l on.0 k on.1 in
      not (on.0, omega (arith, lt, le), on.1))) (up k))
]

-- what is granted lies on the route
on_hops : (hops : List Hop) (thread k : ℕ) → hop_at hops k ≢ None → IsOn (nodes_of hops thread) k
on_hops [] thread k some = absurd (some refl)
on_hops (hop ∷ hops) thread k some = elim (cases_eq hop.node k) [
  | inl e ↦ (0, ap Some e)
  | inr ne ↦
      let rest = on_hops hops thread k (λ none. some (rw (ne_eqb hop.node k ne) none)) in
      (suc rest.0, rest.1)
]

on_path : (path : Option Path) (k : ℕ) → hop_at (hops_of path) k ≢ None → IsOnRoute (route_of path) k
on_path None k some = absurd (some refl)
on_path (Some path) k some = on_hops path.hops path.thread k some

pub along_ran : (mid new : Nodes) (choices : ℕ → Option ℕ) (root : Option ℕ) (route : Option (List ℕ))
    → ((k : ℕ) → grant_in (mid k) ≡ None) → Ran mid new choices root route → IsAlongRoute new route
along_ran mid new choices root route free ran k some =
    let c = chosen mid new choices root route ran in
    subst (λ r. IsOnRoute r k) (sym c.route_is) (on_path c.path k (λ none.
    some (ap grant_in (c.nodes k) ∙ ap (λ hop. grant_in (granted_by hop (mid k))) none ∙ free k)))
