-- Sums where one scheduler is thought to sit elsewhere. What is below it comes after all that is not.
use Rattle.std.proofs.Common.{◌≡◌, ◌≢◌, ◌⊎◌, inl, inr, ℕ, zero, suc, ◌+◌, ◌-◌, ◌*◌, ◌^◌, ◌<◌, ◌≤◌, min, ◌==◌}
use Rattle.std.proofs.Common.{if◌then◌else◌, List, [], ◌∷◌, length, get_or, Option, Some, None}
use Rattle.std.proofs.Common.{refl, sym, ap, ◌∙◌, arith, slice_get, eq-eqb}
use Rattle.std.proofs.lemmas.List.{get_or_default}
use Rattle.std.proofs.lemmas.Bool.{cases_eq, cases_lt, ne_eqb}
use Rattle.hls_machine.specs.Hierarchy.{Hierarchy, Loaded, Scheduler, Seat}
use Rattle.hls_machine.specs.Legal.{scheduler_at}
use Rattle.hls_machine.specs.Lists.{Lists}
use Rattle.hls_machine.specs.Readings.{IsUnder}
use Rattle.hls_machine.specs.Steps.{is_scheduler, reseated}
use Rattle.hls_tree_nodes.specs.Shown.{bare, bare_in, level_in, seats_in}
use Rattle.hls_tree_nodes.specs.TreeOf.{IsLaid}
use Rattle.hls_tree_nodes.proofs.Snapshots.{Nodes}
use Rattle.hls_tree_depths.specs.Subtrees.{sum_at}
use Rattle.hls_tree_depths.specs.Paths.{IsGreatestSum, SitsAt}
use Rattle.hls_tree_depths.specs.Inside.Sums.{sum_under, greatest_over, greatest_in, count_in, next_in}
use Rattle.hls_tree_depths.specs.Inside.Sums.{counts_in, IsSettled, IsLocal}
use Rattle.hls_tree_depths.specs.declared.question.Counted.{Counted}
use Rattle.hls_tree_depths.proofs.Chains.{over_each, top_seat, over_same, over_low, under_same, IsRanking, IsCapped}
use Rattle.hls_tree_depths.proofs.Chains.{solved, greatest_is}
use Rattle.hls_tree_depths.proofs.Heights.{own_seats, seat_rise, seat_loaded, seat_on, has_seats, level_eight}
use Rattle.hls_tree_depths.proofs.Heights.{level_nine}
use Rattle.hls_tree_depths.proofs.Heights.{loaded_at, right_there, count_one}
use Rattle.hls_tree_depths.proofs.Sums.{at_place}

-- what is the scheduler of a number or below it, by so many steps
pub marked : Nodes → (id : ℕ) → ℕ → (k : ℕ) → ℕ
marked s id zero k = 0
marked s id (suc n) k = if k == id then 1 else greatest_over (marked s id n) (seats_in (s k))

marked_next : (s : Nodes) (id n k : ℕ) → k ≢ id → marked s id (suc n) k ≡ greatest_over (marked s id n) (seats_in (s k))
unfolding marked
marked_next s id n k ne = ap (λ b. if b then 1 else greatest_over (marked s id n) (seats_in (s k))) (ne_eqb k id ne)

marked_self : (s : Nodes) (id n k : ℕ) → k ≡ id → marked s id (suc n) k ≡ 1
unfolding marked
marked_self s id n k e = ap (λ b. if b then 1 else greatest_over (marked s id n) (seats_in (s k))) (eq-eqb k id e)

marked_none : (s : Nodes) (id k : ℕ) → marked s id zero k ≡ 0
unfolding marked
marked_none s id k = refl

marked_one : (s : Nodes) (id n k : ℕ) → marked s id n k ≤ 1
marked_one s id zero k = let none = marked_none s id k in omega (arith, none)
marked_one s id (suc n) k =
    elim (cases_eq k id) [
      | inl e ↦ (let is = marked_self s id n k e in omega (arith, is))
      | inr ne ↦ (let is = marked_next s id n k ne in
          let low = over_low (marked s id n) 1 (seats_in (s k)) (λ port seat p e on. marked_one s id n p) in
          omega (arith, is, low))
    ]

module _ (s : Nodes) (laid : IsLaid s) (h : Hierarchy) (nodes : (k : ℕ) → bare (h.nodes k) ≡ bare_in (s k)) where
  marked_stable : (id n k : ℕ) → level_in (s k) < n → marked s id n k ≡ marked s id (suc n) k
  marked_stable id zero k less = absurd (omega (arith, less))
  marked_stable id (suc n) k less =
      elim (cases_eq k id) [
        | inl e ↦ marked_self s id n k e ∙ sym (marked_self s id (suc n) k e)
        | inr ne ↦ marked_next s id n k ne
            ∙ over_same (marked s id n) (marked s id (suc n)) (seats_in (s k)) (λ port seat p e on.
            let up = seat_rise s laid h nodes k port seat p e on in
            marked_stable id n p (omega (arith, up, less)))
            ∙ sym (marked_next s id (suc n) k ne)
      ]

  marked_seat : (id n k : ℕ) → ((p : ℕ) → 0 < marked s id n p → IsUnder h id p)
      → (port : ℕ) (seat : Seat) → slice_get (seats_in (s k)) port ≡ Some seat
      → (parent : Option ℕ) → scheduler_at seat.place ≡ parent → 0 < sum_under (marked s id n) parent
      → IsUnder h id k
  marked_seat id n k before port seat e None on some = absurd (omega (arith, some))
  marked_seat id n k before port seat e (Some p) on some =
      let under = before p some in
      (suc under.0, (p, seat_on s laid h nodes k port seat p e on, under.1))

  marked_under : (id n k : ℕ) → 0 < marked s id n k → IsUnder h id k
  marked_under id zero k some = let none = marked_none s id k in absurd (omega (arith, some, none))
  marked_under id (suc n) k some =
      elim (cases_eq k id) [
        | inl e ↦ (0, e)
        | inr ne ↦
            (let is = marked_next s id n k ne in
            let over : 0 < greatest_over (marked s id n) (seats_in (s k)) = omega (arith, is, some) in
            let top = top_seat (marked s id n) (seats_in (s k))
            (λ e. (let nothing : greatest_over (marked s id n) (seats_in (s k)) ≡ 0 =
            ap (greatest_over (marked s id n)) e in omega (arith, nothing, over))) in
            let same = top.top in
            marked_seat id n k (marked_under id n) top.port top.seat top.sits
            (scheduler_at top.seat.place) refl (omega (arith, same, over)))
      ]

  pub unmarked : (id p : ℕ) → ¬ IsUnder h id p → marked s id 10 p ≡ 0
  unmarked id p none =
      elim (cases_lt 0 (marked s id 10 p)) [
        | inl some ↦ absurd (none (marked_under id 10 p some))
        | inr le ↦ omega (arith, le)
      ]

  mark_seat : (id k port : ℕ) (seat : Seat) (p : ℕ) → k ≢ id → slice_get (seats_in (s k)) port ≡ Some seat
      → scheduler_at seat.place ≡ Some p → marked s id 10 p ≤ marked s id 10 k
  mark_seat id k port seat p ne e on =
      let nine = level_nine s laid h nodes k in
      let is : marked s id 10 k ≡ greatest_over (marked s id 10) (seats_in (s k)) =
      marked_stable id 10 k (omega (arith, nine)) ∙ marked_next s id 10 k ne in
      let over = over_each (marked s id 10) (seats_in (s k)) port seat e in
      let same : sum_under (marked s id 10) (scheduler_at seat.place) ≡ marked s id 10 p =
      ap (sum_under (marked s id 10)) on in
      omega (arith, is, over, same)

lone_seat : (seat other : Seat) (port : ℕ) → slice_get (seat ∷ []) port ≡ Some other → seat ≡ other
lone_seat seat other zero e = cc
lone_seat seat other (suc port) e = cc

module _ (s : Nodes) (laid : IsLaid s) (h : Hierarchy) (nodes : (k : ℕ) → bare (h.nodes k) ≡ bare_in (s k))
    (id : ℕ) (own : Scheduler) (there : h.nodes id ≡ Some (Loaded own)) (parent : Option ℕ)
    (unmarked_parent : (p : ℕ) → parent ≡ Some p → marked s id 10 p ≡ 0)
    (loaded_parent : (p : ℕ) → parent ≡ Some p → (sched : Scheduler) × (h.nodes p ≡ Some (Loaded sched)))
    (later : Hierarchy) (new : SitsAt h later id parent) where
  moved_self : (k : ℕ) → k ≡ id → later.nodes k ≡ reseated new.seat (h.nodes k)
  moved_self k e = ap later.nodes e ∙ new.own ∙ ap (λ c. reseated new.seat (h.nodes c)) (sym e)

  -- a scheduler that stands there is the moved one, or stood there before
  stood : (k : ℕ) (sched : Scheduler) → later.nodes k ≡ Some (Loaded sched)
      → ((k ≡ id) × (sched.ports ≡ new.seat ∷ [])) ⊎ ((k ≢ id) × (h.nodes k ≡ Some (Loaded sched)))
  stood k sched now =
      elim (cases_eq k id) [
        | inl e ↦ inl (
          e,
          (let is : Some (Loaded sched) ≡ Some (Loaded (record own { ports = new.seat ∷ [] })) =
              sym now ∙ moved_self k e ∙ ap (reseated new.seat) (ap h.nodes e ∙ there) in
              let same : sched ≡ record own { ports = new.seat ∷ [] } = cc in
              ap (λ (x : Scheduler). x.ports) same),
        )
        | inr ne ↦ inr (ne, sym (new.others k ne) ∙ now)
      ]

  still : (k : ℕ) (sched : Scheduler) → h.nodes k ≡ Some (Loaded sched)
      → (now : Scheduler) × (later.nodes k ≡ Some (Loaded now))
  still k sched was =
      elim (cases_eq k id) [
        | inl e ↦ (record sched { ports = new.seat ∷ [] }, moved_self k e ∙ ap (reseated new.seat) was)
        | inr ne ↦ (sched, new.others k ne ∙ was)
      ]

  before : (k : ℕ) (sched : Scheduler) → later.nodes k ≡ Some (Loaded sched)
      → (was : Scheduler) × (h.nodes k ≡ Some (Loaded was))
  before k sched now =
      elim (stood k sched now) [
        | inl x ↦ (own, ap h.nodes x.0 ∙ there)
        | inr x ↦ (sched, x.1)
      ]

  pub rank : ℕ → ℕ
  rank k = level_in (s k) + 9 * marked s id 10 k

  rank_seat : (k port : ℕ) (other : Seat) (p : ℕ) → k ≢ id → slice_get (seats_in (s k)) port ≡ Some other
      → scheduler_at other.place ≡ Some p → rank p < rank k
  unfolding rank
  rank_seat k port other p ne e on =
      let up = seat_rise s laid h nodes k port other p e on in
      let mark = mark_seat s laid h nodes id k port other p ne e on in
      omega (arith, up, mark)

  rank_parent : (k p : ℕ) → k ≡ id → parent ≡ Some p → rank p < rank k
  unfolding rank
  rank_parent k p e on =
      let sched = loaded_parent p on in
      let eight = level_eight s laid h nodes p sched.0 sched.1 in
      let none = unmarked_parent p on in
      let mark = marked_self s id 9 k e in
      omega (arith, eight, none, mark)

  rank_low : (k : ℕ) (sched : Scheduler) → h.nodes k ≡ Some (Loaded sched) → rank k < 18
  unfolding rank
  rank_low k sched was =
      let eight = level_eight s laid h nodes k sched was in
      let one = marked_one s id 10 k in
      omega (arith, eight, one)

  ports_at : (k : ℕ) (sched : Scheduler) (port : ℕ) (other : Seat) → h.nodes k ≡ Some (Loaded sched)
      → slice_get sched.ports port ≡ Some other → slice_get (seats_in (s k)) port ≡ Some other
  ports_at k sched port other was e =
      ap (λ (l : List Seat). slice_get l port) (own_seats s laid h nodes k sched was) ∙ e

  moved_parent : (sched : Scheduler) (port : ℕ) (other : Seat) (p : ℕ) → sched.ports ≡ new.seat ∷ []
      → slice_get sched.ports port ≡ Some other → scheduler_at other.place ≡ Some p → parent ≡ Some p
  moved_parent sched port other p ports e on =
      let same : new.seat ≡ other =
      lone_seat new.seat other port (ap (λ (l : List Seat). slice_get l port) (sym ports) ∙ e) in
      sym new.under ∙ ap (λ (x : Seat). scheduler_at x.place) same ∙ on

  ranked : IsRanking later rank
  ranked = record {
    some = λ k sched now none. elim (stood k sched now) [
      | inl x ↦ (let clash : new.seat ∷ [] ≡ [] = sym x.1 ∙ none in cc)
      | inr x ↦ has_seats s laid h nodes k sched x.1 none
    ];
    lower = λ k sched now port other p e on. elim (stood k sched now) [
      | inl x ↦ rank_parent k p x.0 (moved_parent sched port other p x.1 e on)
      | inr x ↦ rank_seat k port other p x.0 (ports_at k sched port other x.1 e) on
    ];
    loaded = λ k sched now port other p e on. elim (stood k sched now) [
      | inl x ↦ (let up = loaded_parent p (moved_parent sched port other p x.1 e on) in still p up.0 up.1)
      | inr x ↦ (let up = seat_loaded s laid h nodes k port other p (ports_at k sched port other x.1 e) on in
          still p up.0 up.1)
    ];
  }

  module _ (counted : Counted) (order : List ℕ) (lists : Lists order (λ k. is_scheduler (h.nodes k))) where
    greatest_self : (sums : ℕ → ℕ) (k : ℕ) → k ≡ id
        → greatest_in (Some (record { key = id; parent = parent })) s sums k ≡ sum_under sums parent
    greatest_self sums k e =
        ap (λ b. if b then sum_under sums parent else greatest_over sums (seats_in (s k))) (eq-eqb k id e)

    greatest_other : (sums : ℕ → ℕ) (k : ℕ) → k ≢ id
        → greatest_in (Some (record { key = id; parent = parent })) s sums k ≡ greatest_over sums (seats_in (s k))
    greatest_other sums k ne =
        ap (λ b. if b then sum_under sums parent else greatest_over sums (seats_in (s k))) (ne_eqb k id ne)

    pub moved_local : IsLocal
        (next_in (record { counted = counted; moved = Some (record { key = id; parent = parent }) }) s) order rank
    moved_local at within one other same =
        let k = get_or order at 0 in
        ap (λ n. min (count_in counted k (s k) + n) (2 ^ 8 - 1))
        (elim (cases_eq (get_or order at 0) id) [
          | inl e ↦ greatest_self one (get_or order at 0) e
              ∙ under_same one other parent (λ p on. same p (rank_parent (get_or order at 0) p e on))
              ∙ sym (greatest_self other (get_or order at 0) e)
          | inr ne ↦ greatest_other one (get_or order at 0) ne
              ∙ over_same one other (seats_in (s (get_or order at 0)))
              (λ port seated p e on. same p (rank_seat (get_or order at 0) port seated p ne e on))
              ∙ sym (greatest_other other (get_or order at 0) ne)
        ])

    pub moved_low : (at : ℕ) → at < length order → rank (get_or order at 0) < 18
    moved_low at within =
        let sched = loaded_at s laid h nodes order lists at within in
        rank_low (get_or order at 0) sched.0 sched.1

    module _ (sums : List ℕ) (settled : IsSettled
        (next_in (record { counted = counted; moved = Some (record { key = id; parent = parent }) }) s)
        order sums) where
      greatest_moved : (k : ℕ) (sched : Scheduler) → later.nodes k ≡ Some (Loaded sched)
          → greatest_in (Some (record { key = id; parent = parent })) s (sum_at order sums) k
          ≡ greatest_over (sum_at order sums) sched.ports
      greatest_moved k sched now =
          elim (stood k sched now) [
            | inl x ↦ (let over : greatest_over (sum_at order sums) sched.ports
                ≡ greatest_over (sum_at order sums) (new.seat ∷ []) = ap (greatest_over (sum_at order sums)) x.1 in
                let under : sum_under (sum_at order sums) (scheduler_at new.seat.place)
                ≡ sum_under (sum_at order sums) parent = ap (sum_under (sum_at order sums)) new.under in
                let is = greatest_self (sum_at order sums) k x.0 in
                omega (arith, over, under, is))
            | inr x ↦ greatest_other (sum_at order sums) k x.0
                ∙ ap (greatest_over (sum_at order sums)) (own_seats s laid h nodes k sched x.1)
          ]

      capped : IsCapped later (counts_in counted s) (sum_at order sums)
      capped = record {
        one = λ k. count_one counted k (s k);
        next = λ k sched now.
            let was = before k sched now in
            right_there s laid h nodes order lists
            (next_in (record { counted = counted; moved = Some (record { key = id; parent = parent }) }) s)
            sums settled k was.0 was.1
            ∙ ap (λ n. min (count_in counted k (s k) + n) (2 ^ 8 - 1)) (greatest_moved k sched now);
      }

      module _ (long : length order ≤ length sums) (sum count : ℕ) (all : count ≡ length order)
          (most : (at : ℕ) → at < count → get_or sums at 0 ≤ sum)
          (some : (sum ≡ 0) ⊎ ((at : ℕ) × (at < count) × (get_or sums at 0 ≡ sum))) where
        place_sum : (k : ℕ) (sched : Scheduler) → h.nodes k ≡ Some (Loaded sched)
            → (at : ℕ) × (at < length order) × (sum_at order sums k ≡ get_or sums at 0)
        place_sum k sched was =
            let on = lists.all k (ap is_scheduler was) in
            let is : get_or order on.0 0 ≡ k = get_or_default order on.0 0 k on.1 ∙ on.2 in
            (on.0, on.1, ap (sum_at order sums) (sym is) ∙ at_place order sums on.0 lists.once on.1 long)

        pub moved_greatest : IsGreatestSum later (counts_in counted s) sum
        moved_greatest =
            greatest_is later (counts_in counted s) (sum_at order sums) rank ranked
            (solved later (counts_in counted s) (sum_at order sums) rank ranked capped
            (λ k sched now. let was = before k sched now in rank_low k was.0 was.1))
            sum
            (λ k sched now.
            let was = before k sched now in
            let on = place_sum k was.0 was.1 in
            let within = on.1 in
            let le = most on.0 (omega (arith, within, all)) in
            let same = on.2 in
            omega (arith, le, same))
            (elim some [
              | inl none ↦ inl none
              | inr x ↦ (let within : x.0 < length order = (let less = x.1 in omega (arith, less, all)) in
                  let was = loaded_at s laid h nodes order lists x.0 within in
                  let now = still (get_or order x.0 0) was.0 was.1 in
                  inr (get_or order x.0 0, now.0, now.1, at_place order sums x.0 lists.once within long ∙ x.2))
            ])
