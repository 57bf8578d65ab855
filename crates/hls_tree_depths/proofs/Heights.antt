-- Which sums stand in a tree: by levels where each sits as it does, and by levels and what is below one
-- where that one is thought to sit elsewhere.
use Rattle.std.proofs.Common.{◌≡◌, ◌≢◌, inl, inr, ℕ, zero, suc, ◌+◌, ◌-◌, ◌^◌, ◌<◌, ◌≤◌, min, ◌==◌}
use Rattle.std.proofs.Common.{if◌then◌else◌, List, [], length, get_or, Option, Some, None, Bool, true, false}
use Rattle.std.proofs.Common.{refl, sym, ap, ◌∙◌, subst, arith, slice_get, eq-eqb}
use Rattle.std.specs.Prelude.{option_map}
use Rattle.std.proofs.lemmas.List.{get_or_default}
use Rattle.std.proofs.lemmas.Bool.{cases_eq, ne_eqb}
use Rattle.hls_chron.specs.declared.plain.Config.{Config}
use Rattle.hls_chron.specs.declared.plain.Config.TheVariants as configs
use Rattle.hls_chron.specs.Seats.{terms_at}
use Rattle.hls_machine.specs.Hierarchy.{Hierarchy, Node, Loaded, Admitted, Scheduler, Seat, Place, Processor, At}
use Rattle.hls_machine.specs.Hierarchy.{seats_of, book_of, config_of}
use Rattle.hls_chron.specs.Kinds.{fair_queue}
use Rattle.hls_machine.specs.Legal.{SitsOn, scheduler_at}
use Rattle.hls_machine.specs.Lists.{Lists}
use Rattle.hls_machine.specs.Readings.{IsUnder, IsUnderBy}
use Rattle.hls_machine.specs.Steps.{is_scheduler}
use Rattle.hls_tree_nodes.specs.Shown.{Shown, What, PostedIn, PostedWhat, Bare, SchedulerNode, ThreadNode, bare}
use Rattle.hls_tree_nodes.specs.Shown.{bare_in, level_in, seats_in, place_in, book_in, most_bare, most_in}
use Rattle.hls_tree_nodes.specs.Shown.{Scheduler as SchedulerWhat, Thread as ThreadWhat}
use Rattle.hls_tree_nodes.specs.TreeOf.{IsLaid}
use Rattle.hls_tree_nodes.proofs.Snapshots.{Nodes, rise, empty_terms}
use Rattle.hls_tree_nodes.proofs.Bare.{seats_same, book_same}
use Rattle.hls_tree_depths.specs.Subtrees.{sum_at}
use Rattle.hls_tree_depths.specs.Inside.Sums.{sum_under, greatest_over, fair_in, fair_what, count_in, next_in}
use Rattle.hls_tree_depths.specs.Inside.Sums.{counts_in, IsSettled, IsLocal}
use Rattle.hls_tree_depths.specs.declared.question.Counted.{Counted}
use Rattle.hls_tree_depths.specs.declared.question.Counted.TheVariants as counts
use Rattle.hls_tree_depths.proofs.Chains.{over_each, top_seat, over_same, IsRanking, IsCapped}
use Rattle.hls_chron.proofs.ConfigLaws.{one_queue}

loaded_on : (node : Option Node) (slot : ℕ) → terms_at (book_of node) slot ≢ None
    → (s : Scheduler) × (node ≡ Some (Loaded s))
loaded_on None slot ne = absurd (ne (empty_terms slot))
loaded_on (Some (Loaded s)) slot ne = (s, refl)
loaded_on (Some (Admitted t)) slot ne = absurd (ne (empty_terms slot))

pub scheduler_there : (node : Option Node) → is_scheduler node ≡ true → (s : Scheduler) × (node ≡ Some (Loaded s))
scheduler_there None is = cc
scheduler_there (Some (Loaded s)) is = (s, refl)
scheduler_there (Some (Admitted t)) is = cc

at_slot : (place : Place) (p : ℕ) → scheduler_at place ≡ Some p → (slot : ℕ) × (place ≡ At p slot)
at_slot Processor p e = cc
at_slot (At q slot) p e = (slot, (let same : q ≡ p = cc in ap (λ n. At n slot) same))

fair_what_one : (what : What) → fair_what what ≤ 1
fair_what_one (SchedulerWhat post) = one_queue post.config
fair_what_one (ThreadWhat ready) = omega arith

fair_in_one : (o : Option Shown) → fair_in o ≤ 1
fair_in_one None = omega arith
fair_in_one (Some s) = fair_what_one s.what

if_one : (b : Bool) → (if b then 1 else 0) ≤ 1
if_one true = omega arith
if_one false = omega arith

pub count_one : (counted : Counted) (k : ℕ) (o : Option Shown) → count_in counted k o ≤ 1
count_one counts.Each k o = omega arith
count_one counts.FairQueues k o = fair_in_one o
count_one (counts.Only other) k o = if_one (k == other)

config_bare : Option Bare → Config
config_bare None = configs.Cpu
config_bare (Some (SchedulerNode s)) = s.config
config_bare (Some (ThreadNode name seats)) = configs.Cpu

config_of_bare : (node : Option Node) → config_of node ≡ config_bare (bare node)
unfolding config_bare
config_of_bare None = refl
config_of_bare (Some (Loaded s)) = refl
config_of_bare (Some (Admitted t)) = refl

fair_shown : (name : List ℕ) (level : ℕ) (seats : List Seat) (what : What) → PostedWhat what
    → fair_queue (config_bare (bare_in (Some (record { name = name; level = level; seats = seats; what = what }))))
    ≡ fair_what what
unfolding config_bare
fair_shown name level seats (SchedulerWhat post) posted = ap fair_queue posted.config
fair_shown name level seats (ThreadWhat ready) posted = refl

fair_bare : (o : Option Shown) → PostedIn o → fair_queue (config_bare (bare_in o)) ≡ fair_in o
unfolding config_bare
fair_bare None posted = refl
fair_bare (Some s) posted = fair_shown s.name s.level s.seats s.what posted

pub fair_same : (node : Option Node) (o : Option Shown) → bare node ≡ bare_in o → PostedIn o
    → fair_queue (config_of node) ≡ fair_in o
fair_same node o e posted = ap fair_queue (config_of_bare node ∙ ap config_bare e) ∙ fair_bare o posted

most_nine : (b : Option Bare) → most_bare b ≤ 9
most_nine None = omega arith
most_nine (Some (SchedulerNode s)) = omega arith
most_nine (Some (ThreadNode name seats)) = omega arith

most_eight : (node : Option Node) (s : Scheduler) → node ≡ Some (Loaded s) → most_bare (bare node) ≡ 8
most_eight at s e = ap (λ n. most_bare (bare n)) e

-- the tree as it is laid out, a hierarchy that it is of, and its list of schedulers
module _ (s : Nodes) (laid : IsLaid s) (h : Hierarchy) (nodes : (k : ℕ) → bare (h.nodes k) ≡ bare_in (s k)) where
  pub own_seats : (k : ℕ) (sched : Scheduler) → h.nodes k ≡ Some (Loaded sched) → seats_in (s k) ≡ sched.ports
  own_seats k sched there = sym (seats_same (h.nodes k) (s k) (nodes k)) ∙ ap seats_of there

  place_at : (k port : ℕ) (seat : Seat) → slice_get (seats_in (s k)) port ≡ Some seat
      → place_in (s k) port ≡ Some seat.place
  place_at k port seat e = ap (option_map (λ (seat : Seat). seat.place)) e

  pub seat_rise : (k port : ℕ) (seat : Seat) (p : ℕ) → slice_get (seats_in (s k)) port ≡ Some seat
      → scheduler_at seat.place ≡ Some p → level_in (s p) < level_in (s k)
  seat_rise k port seat p e on =
      let at = at_slot seat.place p on in
      rise s laid.ranked k port p at.0 (place_at k port seat e ∙ ap (λ (place : Place). Some place) at.1)

  pub seat_loaded : (k port : ℕ) (seat : Seat) (p : ℕ) → slice_get (seats_in (s k)) port ≡ Some seat
      → scheduler_at seat.place ≡ Some p → (parent : Scheduler) × (h.nodes p ≡ Some (Loaded parent))
  seat_loaded k port seat p e on =
      let at = at_slot seat.place p on in
      let taken : terms_at (book_in (s p)) at.0 ≢ None = laid.taken k port p at.0
      (place_at k port seat e ∙ ap (λ (place : Place). Some place) at.1) in
      loaded_on (h.nodes p) at.0 (λ none.
      taken (ap (λ b. terms_at b at.0) (sym (book_same (h.nodes p) (s p) (nodes p))) ∙ none))

  pub seat_on : (k port : ℕ) (seat : Seat) (p : ℕ) → slice_get (seats_in (s k)) port ≡ Some seat
      → scheduler_at seat.place ≡ Some p → SitsOn h k p
  seat_on k port seat p e on =
      let at = at_slot seat.place p on in
      record {
        port = port;
        seat = seat;
        slot = at.0;
        sits = ap (λ (l : List Seat). slice_get l port) (seats_same (h.nodes k) (s k) (nodes k)) ∙ e;
        at_place = at.1;
      }

  pub has_seats : (k : ℕ) (sched : Scheduler) → h.nodes k ≡ Some (Loaded sched) → sched.ports ≢ []
  has_seats k sched there none =
      let most : most_in (s k) ≡ 8 = ap most_bare (sym (nodes k)) ∙ most_eight (h.nodes k) sched there in
      laid.ranked.some k (omega (arith, most)) (own_seats k sched there ∙ none)

  pub level_eight : (k : ℕ) (sched : Scheduler) → h.nodes k ≡ Some (Loaded sched) → level_in (s k) ≤ 8
  level_eight k sched there =
      let most : most_in (s k) ≡ 8 = ap most_bare (sym (nodes k)) ∙ most_eight (h.nodes k) sched there in
      let few = laid.ranked.few k in
      omega (arith, most, few)

  pub level_nine : (k : ℕ) → level_in (s k) ≤ 9
  level_nine k = let most = most_nine (bare_in (s k)) in let few = laid.ranked.few k in omega (arith, most, few)

  -- each sits as it does
  pub levels_rank : IsRanking h (λ k. level_in (s k))
  levels_rank = record {
    some = has_seats;
    lower = λ k sched there port seat p e on. seat_rise k port seat p
        (ap (λ (l : List Seat). slice_get l port) (own_seats k sched there) ∙ e) on;
    loaded = λ k sched there port seat p e on. seat_loaded k port seat p
        (ap (λ (l : List Seat). slice_get l port) (own_seats k sched there) ∙ e) on;
  }

  module _ (order : List ℕ) (lists : Lists order (λ k. is_scheduler (h.nodes k))) where
    pub loaded_at : (at : ℕ) → at < length order
        → (sched : Scheduler) × (h.nodes (get_or order at 0) ≡ Some (Loaded sched))
    loaded_at at within = scheduler_there (h.nodes (get_or order at 0))
        (lists.only (get_or order at 0) (at, within, get_or_default order at (get_or order at 0) 0 within))

    pub right_there : (next : (ℕ → ℕ) → ℕ → ℕ) (sums : List ℕ) → IsSettled next order sums
        → (k : ℕ) (sched : Scheduler) → h.nodes k ≡ Some (Loaded sched)
        → sum_at order sums k ≡ next (sum_at order sums) k
    right_there next sums settled k sched there =
        let on = lists.all k (ap is_scheduler there) in
        let is : get_or order on.0 0 ≡ k = get_or_default order on.0 0 k on.1 ∙ on.2 in
        subst (λ n. sum_at order sums n ≡ next (sum_at order sums) n) is (settled on.0 on.1)

    module _ (counted : Counted) where
      pub levels_local : IsLocal (next_in (record { counted = counted; moved = None }) s) order (λ k. level_in (s k))
      levels_local at within one other same =
          let k = get_or order at 0 in
          ap (λ n. min (count_in counted k (s k) + n) (2 ^ 8 - 1))
          (over_same one other (seats_in (s k)) (λ port seat p e on. same p (seat_rise k port seat p e on)))

      pub levels_low : (at : ℕ) → at < length order → level_in (s (get_or order at 0)) < 18
      levels_low at within = let nine = level_nine (get_or order at 0) in omega (arith, nine)

      pub levels_capped : (sums : List ℕ)
          → IsSettled (next_in (record { counted = counted; moved = None }) s) order sums
          → IsCapped h (counts_in counted s) (sum_at order sums)
      levels_capped sums settled = record {
        one = λ k. count_one counted k (s k);
        next = λ k sched there.
            right_there (next_in (record { counted = counted; moved = None }) s) sums settled k sched there
            ∙ ap (λ l. min (count_in counted k (s k) + greatest_over (sum_at order sums) l) (2 ^ 8 - 1))
            (own_seats k sched there);
      }

    -- what is below one, by sums of that one
    module _ (upper : ℕ) (sums : List ℕ)
        (settled : IsSettled (next_in (record { counted = counts.Only upper; moved = None }) s) order sums) where
      counted_self : (c : ℕ) → c ≡ upper → count_in (counts.Only upper) c (s c) ≡ 1
      counted_self c e = ap (λ b. if b then 1 else 0) (eq-eqb c upper e)

      counted_other : (c : ℕ) → c ≢ upper → count_in (counts.Only upper) c (s c) ≡ 0
      counted_other c ne = ap (λ b. if b then 1 else 0) (ne_eqb c upper ne)

      under_seat : (n c : ℕ) → ((p : ℕ) → level_in (s p) < n
          → 0 < next_in (record { counted = counts.Only upper; moved = None }) s (sum_at order sums) p
          → IsUnder h upper p)
          → level_in (s c) < n + 1 → (port : ℕ) (seat : Seat) → slice_get (seats_in (s c)) port ≡ Some seat
          → (parent : Option ℕ) → scheduler_at seat.place ≡ parent → 0 < sum_under (sum_at order sums) parent
          → IsUnder h upper c
      under_seat n c before less port seat e None on some = absurd (omega (arith, some))
      under_seat n c before less port seat e (Some p) on some =
          let up = seat_rise c port seat p e on in
          let parent = seat_loaded c port seat p e on in
          let is = right_there (next_in (record { counted = counts.Only upper; moved = None }) s) sums settled
          p parent.0 parent.1 in
          let under = before p (omega (arith, up, less)) (omega (arith, is, some)) in
          (suc under.0, (p, seat_on c port seat p e on, under.1))

      under_by : (n c : ℕ) → level_in (s c) < n
          → 0 < next_in (record { counted = counts.Only upper; moved = None }) s (sum_at order sums) c
          → IsUnder h upper c
      under_by zero c less some = absurd (omega (arith, less))
      under_by (suc n) c less some =
          elim (cases_eq c upper) [
            | inl e ↦ (0, e)
            | inr ne ↦
                (let none = counted_other c ne in
                let over : 0 < greatest_over (sum_at order sums) (seats_in (s c)) = omega (arith, none, some) in
                let top = top_seat (sum_at order sums) (seats_in (s c))
                (λ e. (let nothing : greatest_over (sum_at order sums) (seats_in (s c)) ≡ 0 =
                ap (greatest_over (sum_at order sums)) e in omega (arith, nothing, over))) in
                let is = top.top in
                under_seat n c (under_by n) (omega (arith, less)) top.port top.seat top.sits
                (scheduler_at top.seat.place) refl (omega (arith, is, over)))
          ]

      pub below_yes : (c : ℕ)
          → 0 < next_in (record { counted = counts.Only upper; moved = None }) s (sum_at order sums) c
          → IsUnder h upper c
      below_yes c some = under_by (level_in (s c) + 1) c (omega arith) some

      pub under_some : (count c : ℕ) → IsUnderBy h upper count c
          → 0 < next_in (record { counted = counts.Only upper; moved = None }) s (sum_at order sums) c
      under_some zero c e = let one = counted_self c e in omega (arith, one)
      under_some (suc count) c x =
          let p = x.0 in
          let sits : slice_get (seats_in (s c)) x.1.port ≡ Some x.1.seat =
          ap (λ (l : List Seat). slice_get l x.1.port) (sym (seats_same (h.nodes c) (s c) (nodes c))) ∙ x.1.sits in
          let on : scheduler_at x.1.seat.place ≡ Some p = ap scheduler_at x.1.at_place in
          let parent = seat_loaded c x.1.port x.1.seat p sits on in
          let is = right_there (next_in (record { counted = counts.Only upper; moved = None }) s) sums settled
          p parent.0 parent.1 in
          let some = under_some count p x.2 in
          let over = over_each (sum_at order sums) (seats_in (s c)) x.1.port x.1.seat sits in
          let same : sum_under (sum_at order sums) (scheduler_at x.1.seat.place) ≡ sum_at order sums p =
          ap (sum_under (sum_at order sums)) on in
          let greatest : 0 < greatest_over (sum_at order sums) (seats_in (s c)) =
          omega (arith, is, some, over, same) in
          omega (arith, greatest)
