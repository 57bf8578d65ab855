-- What is known since the last pass still holds after what changes no level, no seat, no grant and no telling.
use Rattle.std.proofs.Common.{◌≡◌, ◌≢◌, ℕ, Bool, List, Option, Some, None, refl, sym, ap, ◌∙◌, slice_get}
use Rattle.std.specs.Prelude.{option_map}
use Rattle.hls_kinds.specs.Asks.{slot_asks}
use Rattle.hls_machine.specs.Hierarchy.{Seat}
use Rattle.hls_machine.specs.Steps.{hop_at, hops_of, Hop}
use Rattle.hls_tree_nodes.specs.Shown.{Post, What, Scheduler, Thread, Shown, level_in, seats_in, place_in, mask_in}
use Rattle.hls_tree_nodes.specs.Shown.{grant_what, with_ready_what, on_what}
use Rattle.hls_tree_nodes.specs.Shown.{grant_in, is_sched, on_post, post_revoked, post_turned, post_granted, with_ready}
use Rattle.hls_tree_nodes.specs.Leapt.{post_leapt}
use Rattle.hls_tree_nodes.specs.TreeOf.{IsAlike, IsTelling, Each, Ran, granted_by, Passed}
use Rattle.hls_tree_nodes.specs.Levels.{AreByLevel}
use Rattle.hls_tree_nodes.specs.Known.{HaveTold, AreStill, AreKnown, IsKnown, IsFound, IsAlongRoute}
use Rattle.hls_tree_nodes.specs.declared.known.Known.{Known}
use Rattle.hls_tree_nodes.proofs.Snapshots.{Nodes, one_of}
use Rattle.hls_tree_passes.proofs.Levels.{by_level_alike}
use Rattle.hls_tree_passes.proofs.Voices.{voices_still}
use Rattle.hls_tree_passes.proofs.Passes.{chosen}

-- levels, seats, what was told, and which nodes are schedulers are the same
pub record IsKept (old new : Nodes) : Type 0 where
  pub levels : (k : ℕ) → level_in (new k) ≡ level_in (old k)
  pub seats : (k : ℕ) → seats_in (new k) ≡ seats_in (old k)
  pub masks : (k : ℕ) → mask_in (new k) ≡ mask_in (old k)
  pub schedulers : (k : ℕ) → is_sched (new k) ≡ is_sched (old k)

places_kept : (old new : Nodes) (l places : List ℕ) → ((k : ℕ) → level_in (new k) ≡ level_in (old k))
    → AreByLevel old l places → AreByLevel new l places
places_kept old new l places levels by level lt =
    let so = by level lt in
    record {
      all = λ at c early found is. so.all at c early found (sym (levels c) ∙ is);
      only = λ at bit. let x = so.only at bit in (x.0, x.1, levels x.0 ∙ x.2);
    }

place_kept : (old new : Nodes) → IsKept old new → (c port : ℕ) → place_in (new c) port ≡ place_in (old c) port
place_kept old new kept c port =
    ap (λ (seats : List Seat). option_map (λ (seat : Seat). seat.place) (slice_get seats port)) (kept.seats c)

voices_kept : (old new : Nodes) (l : List ℕ) (voices : ℕ) → IsKept old new → HaveTold old l voices
    → HaveTold new l voices
voices_kept old new l voices kept told at c port p slot lt on is sits =
    ap (λ m. slot_asks m slot) (kept.masks p)
    ∙ told at c port p slot lt on (sym (kept.schedulers c) ∙ is) (sym (place_kept old new kept c port) ∙ sits)

pub are_kept : (old new : Nodes) (l : List ℕ) (known : Known) → IsKept old new → AreKnown old l known
    → AreKnown new l known
are_kept old new l known kept are = record {
  places = places_kept old new l known.places kept.levels are.places;
  voices = voices_kept old new l known.voices kept are.voices;
}

along_kept : (old new : Nodes) (route : Option (List ℕ)) → ((k : ℕ) → grant_in (new k) ≡ grant_in (old k))
    → IsAlongRoute old route → IsAlongRoute new route
along_kept old new route grants along k some = along k (λ none. some (grants k ∙ none))

pub known_kept : (old new : Nodes) (l : List ℕ) (route : Option (List ℕ)) (known : Option Known)
    → IsKept old new → ((k : ℕ) → grant_in (new k) ≡ grant_in (old k)) → IsKnown old l route known
    → IsKnown new l route known
known_kept old new l route None kept grants is = tt
known_kept old new l route (Some known) kept grants is =
    (are_kept old new l known kept is.0, along_kept old new route grants is.1)

-- what a call leaves of a node
record IsLeftOf (o new : Option Shown) : Type 0 where
  level : level_in new ≡ level_in o
  seats : seats_in new ≡ seats_in o
  mask : mask_in new ≡ mask_in o
  sched : is_sched new ≡ is_sched o

left_is : (o : Option Shown) → IsLeftOf o o
left_is o = record { level = refl; seats = refl; mask = refl; sched = refl }

kept_by : (old new : Nodes) (f : ℕ → Option Shown → Option Shown) → ((k : ℕ) → new k ≡ f k (old k))
    → ((k : ℕ) (o : Option Shown) → IsLeftOf o (f k o)) → IsKept old new
kept_by old new f is left = record {
  levels = λ k. ap level_in (is k) ∙ (left k (old k)).level;
  seats = λ k. ap seats_in (is k) ∙ (left k (old k)).seats;
  masks = λ k. ap mask_in (is k) ∙ (left k (old k)).mask;
  schedulers = λ k. ap is_sched (is k) ∙ (left k (old k)).sched;
}

left_what : (f : Post → Post) → ((post : Post) → (f post).unit.mask ≡ post.unit.mask)
    → (name : List ℕ) (level : ℕ) (seats : List Seat) (w : What)
    → IsLeftOf (Some (record { name = name; level = level; seats = seats; what = w }))
    (on_post f (Some (record { name = name; level = level; seats = seats; what = w })))
left_what f same name level seats (Scheduler post) =
    record { level = refl; seats = refl; mask = same post; sched = refl }
left_what f same name level seats (Thread r) = record { level = refl; seats = refl; mask = refl; sched = refl }

left_post : (f : Post → Post) → ((post : Post) → (f post).unit.mask ≡ post.unit.mask) → (o : Option Shown)
    → IsLeftOf o (on_post f o)
left_post f same None = left_is None
left_post f same (Some s) = left_what f same s.name s.level s.seats s.what

-- of boxes, where the grant is the same
grant_by_what : (f : Post → Post) → ((post : Post) → (f post).unit.grant ≡ post.unit.grant) → (w : What)
    → grant_what (on_what f w) ≡ grant_what w
grant_by_what f same (Scheduler post) = same post
grant_by_what f same (Thread r) = refl

grant_by : (f : Post → Post) → ((post : Post) → (f post).unit.grant ≡ post.unit.grant) → (o : Option Shown)
    → grant_in (on_post f o) ≡ grant_in o
grant_by f same None = refl
grant_by f same (Some s) = grant_by_what f same s.what

module _ (old new : Nodes) (l : List ℕ) (route : Option (List ℕ)) (known : Option Known) where
  -- after a tick
  pub known_turned : (choices : ℕ → Option ℕ) → ((k : ℕ) → new k ≡ on_post (post_turned (choices k)) (old k))
      → IsKnown old l route known → IsKnown new l route known
  known_turned choices is = known_kept old new l route known
      (kept_by old new (λ k. on_post (post_turned (choices k))) is
      (λ k. left_post (post_turned (choices k)) (λ post. refl)))
      (λ k. ap grant_in (is k) ∙ grant_by (post_turned (choices k)) (λ post. refl) (old k))

  -- after some
  pub known_leapt : (n : ℕ) (choices : ℕ → Option ℕ)
      → ((k : ℕ) → new k ≡ on_post (post_leapt n (choices k)) (old k))
      → IsKnown old l route known → IsKnown new l route known
  known_leapt n choices is = known_kept old new l route known
      (kept_by old new (λ k. on_post (post_leapt n (choices k))) is
      (λ k. left_post (post_leapt n (choices k)) (λ post. refl)))
      (λ k. ap grant_in (is k) ∙ grant_by (post_leapt n (choices k)) (λ post. refl) (old k))

-- after a thread is ready or not
left_ready_what : (to : Bool) (name : List ℕ) (level : ℕ) (seats : List Seat) (w : What)
    → IsLeftOf (Some (record { name = name; level = level; seats = seats; what = w }))
    (with_ready to (Some (record { name = name; level = level; seats = seats; what = w })))
left_ready_what to name level seats (Scheduler post) = record { level = refl; seats = refl; mask = refl; sched = refl }
left_ready_what to name level seats (Thread r) = record { level = refl; seats = refl; mask = refl; sched = refl }

left_ready : (to : Bool) (o : Option Shown) → IsLeftOf o (with_ready to o)
left_ready to None = left_is None
left_ready to (Some s) = left_ready_what to s.name s.level s.seats s.what

grant_ready_what : (to : Bool) (w : What) → grant_what (with_ready_what to w) ≡ grant_what w
grant_ready_what to (Scheduler post) = refl
grant_ready_what to (Thread r) = refl

grant_ready : (to : Bool) (o : Option Shown) → grant_in (with_ready to o) ≡ grant_in o
grant_ready to None = refl
grant_ready to (Some s) = grant_ready_what to s.what

pub known_ready : (old new : Nodes) (l : List ℕ) (route : Option (List ℕ)) (known : Option Known) (to : Bool) (key : ℕ)
    → new key ≡ with_ready to (old key) → ((k : ℕ) → k ≢ key → new k ≡ old k) → IsKnown old l route known
    → IsKnown new l route known
known_ready old new l route known to key here others =
    known_kept old new l route known
    (record {
      levels = one_of (λ k. level_in (new k) ≡ level_in (old k)) key
          (ap level_in here ∙ (left_ready to (old key)).level) (λ k ne. ap level_in (others k ne));
      seats = one_of (λ k. seats_in (new k) ≡ seats_in (old k)) key
          (ap seats_in here ∙ (left_ready to (old key)).seats) (λ k ne. ap seats_in (others k ne));
      masks = one_of (λ k. mask_in (new k) ≡ mask_in (old k)) key
          (ap mask_in here ∙ (left_ready to (old key)).mask) (λ k ne. ap mask_in (others k ne));
      schedulers = one_of (λ k. is_sched (new k) ≡ is_sched (old k)) key
          (ap is_sched here ∙ (left_ready to (old key)).sched) (λ k ne. ap is_sched (others k ne));
    })
    (one_of (λ k. grant_in (new k) ≡ grant_in (old k)) key (ap grant_in here ∙ grant_ready to (old key))
    (λ k ne. ap grant_in (others k ne)))

-- after the grants along a way
left_granted : (hop : Option Hop) (o : Option Shown) → IsLeftOf o (granted_by hop o)
left_granted None o = left_is o
left_granted (Some hop) o = left_post (post_granted hop.port) (λ post. refl) o

pub kept_ran : (mid new : Nodes) (choices : ℕ → Option ℕ) (root : Option ℕ) (route : Option (List ℕ))
    → Ran mid new choices root route → IsKept mid new
kept_ran mid new choices root route ran =
    let c = chosen mid new choices root route ran in
    kept_by mid new (λ k. granted_by (hop_at (hops_of c.path) k)) c.nodes
    (λ k. left_granted (hop_at (hops_of c.path) k))

pub known_granted : (mid new : Nodes) (l : List ℕ) (route : Option (List ℕ)) (known : Option Known)
    (choices : ℕ → Option ℕ) (root : Option ℕ) → Ran mid new choices root route → IsAlongRoute new route
    → IsFound mid l known → IsKnown new l route known
known_granted mid new l route None choices root ran along found = tt
known_granted mid new l route (Some known) choices root ran along found =
    (are_kept mid new l known (kept_ran mid new choices root route ran) found, along)

-- a telling and the grants after it are a pass
pub passed_of : (old mid new : Nodes) (choices : ℕ → Option ℕ) (root : Option ℕ) (route : Option (List ℕ))
    → IsAlike old mid → IsTelling mid Each → Ran mid new choices root route → Passed old new choices root route
passed_of old mid new choices root route alike telling ran =
    record { mid = mid; alike = alike; telling = telling; ran = ran }

-- after the processor was taken back
left_revoked : (o : Option Shown) → IsLeftOf o (on_post post_revoked o)
left_revoked o = left_post post_revoked (λ post. refl) o

pub known_revoked : (old new : Nodes) (l : List ℕ) (known : Known)
    → ((k : ℕ) → new k ≡ on_post post_revoked (old k)) → AreKnown old l known → AreKnown new l known
known_revoked old new l known is =
    are_kept old new l known (kept_by old new (λ k. on_post post_revoked) is (λ k. left_revoked))

-- after threads told what they ask
pub known_still : (old new : Nodes) (l : List ℕ) (known : Known) → IsAlike old new → AreStill old new
    → AreKnown old l known → AreKnown new l known
known_still old new l known alike still are = record {
  places = by_level_alike old new l known.places alike are.places;
  voices = voices_still old new l known.voices alike still are.voices;
}
