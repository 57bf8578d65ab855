-- The greatest sums of counts on chains of schedulers, where a sum for each scheduler is its count and the
-- greatest sum of those that it sits on.
use Rattle.std.proofs.Common.{◌≡◌, ◌≢◌, ◌⊎◌, inl, inr, ℕ, zero, suc, ◌+◌, ◌-◌, ◌^◌, ◌<◌, ◌≤◌, min, List, [], ◌∷◌, ◌++◌}
use Rattle.std.proofs.Common.{Option, Some, None, refl, sym, ap, ◌∙◌, arith, slice_get}
use Rattle.std.proofs.lemmas.Bool.{cases_lt}
use Rattle.hls_machine.specs.Hierarchy.{Hierarchy, Loaded, Scheduler, Seat}
use Rattle.hls_machine.specs.Legal.{IsChain, SitsUnder, scheduler_at}
use Rattle.hls_tree_depths.specs.Paths.{sum_on, IsGreatestSum}
use Rattle.hls_tree_depths.specs.Inside.Sums.{sum_under, greatest_over}

-- one of the seats has the greatest sum
pub over_each : (sums : ℕ → ℕ) (seats : List Seat) (port : ℕ) (seat : Seat) → slice_get seats port ≡ Some seat
    → sum_under sums (scheduler_at seat.place) ≤ greatest_over sums seats
over_each sums [] port seat e = cc
over_each sums (first ∷ rest) zero seat e =
    let same : first ≡ seat = cc in
    let ones : sum_under sums (scheduler_at first.place) ≡ sum_under sums (scheduler_at seat.place) =
    ap (λ (x : Seat). sum_under sums (scheduler_at x.place)) same in
    omega (arith, ones)
over_each sums (first ∷ rest) (suc port) seat e = let later = over_each sums rest port seat e in omega (arith, later)

pub record IsTopSeat (sums : ℕ → ℕ) (seats : List Seat) : Type 0 where
  pub port : ℕ
  pub seat : Seat
  pub sits : slice_get seats port ≡ Some seat
  pub top : sum_under sums (scheduler_at seat.place) ≡ greatest_over sums seats

pub top_seat : (sums : ℕ → ℕ) (seats : List Seat) → seats ≢ [] → IsTopSeat sums seats
top_seat sums [] ne = absurd (ne refl)
top_seat sums (seat ∷ []) ne = record { port = 0; seat = seat; sits = refl; top = omega arith }
top_seat sums (seat ∷ (next ∷ rest)) ne =
    let later = top_seat sums (next ∷ rest) (λ e. cc) in
    elim (cases_lt (sum_under sums (scheduler_at seat.place)) (greatest_over sums (next ∷ rest))) [
      | inr le ↦ record { port = 0; seat = seat; sits = refl; top = omega (arith, le) }
      | inl gt ↦ record {
        port = suc later.port;
        seat = later.seat;
        sits = later.sits;
        top = later.top ∙ omega (arith, gt);
      }
    ]

pub under_same : (one other : ℕ → ℕ) (parent : Option ℕ) → ((p : ℕ) → parent ≡ Some p → one p ≡ other p)
    → sum_under one parent ≡ sum_under other parent
under_same one other None same = refl
under_same one other (Some p) same = same p refl

pub over_same : (one other : ℕ → ℕ) (seats : List Seat)
    → ((port : ℕ) (seat : Seat) (p : ℕ) → slice_get seats port ≡ Some seat → scheduler_at seat.place ≡ Some p
    → one p ≡ other p) → greatest_over one seats ≡ greatest_over other seats
over_same one other [] same = refl
over_same one other (seat ∷ seats) same =
    let first : sum_under one (scheduler_at seat.place) ≡ sum_under other (scheduler_at seat.place) =
    under_same one other (scheduler_at seat.place) (λ p on. same 0 seat p refl on) in
    let rest : greatest_over one seats ≡ greatest_over other seats =
    over_same one other seats (λ port next p e on. same (suc port) next p e on) in
    omega (arith, first, rest)

under_low : (sums : ℕ → ℕ) (n : ℕ) (parent : Option ℕ) → ((p : ℕ) → parent ≡ Some p → sums p ≤ n)
    → sum_under sums parent ≤ n
under_low sums n None low = omega arith
under_low sums n (Some p) low = low p refl

pub over_low : (sums : ℕ → ℕ) (n : ℕ) (seats : List Seat)
    → ((port : ℕ) (seat : Seat) (p : ℕ) → slice_get seats port ≡ Some seat → scheduler_at seat.place ≡ Some p
    → sums p ≤ n) → greatest_over sums seats ≤ n
over_low sums n [] low = omega arith
over_low sums n (seat ∷ seats) low =
    let first : sum_under sums (scheduler_at seat.place) ≤ n =
    under_low sums n (scheduler_at seat.place) (λ p on. low 0 seat p refl on) in
    let rest : greatest_over sums seats ≤ n =
    over_low sums n seats (λ port next p e on. low (suc port) next p e on) in
    omega (arith, first, rest)

-- a chain that goes on
chain_on : (h : Hierarchy) (parent : Option ℕ) (chain : List ℕ) (p k : ℕ) → IsChain h parent (chain ++ p ∷ [])
    → SitsUnder h (Some p) k → IsChain h parent ((chain ++ p ∷ []) ++ k ∷ [])
chain_on h parent [] p k c under = (c.0, (under, tt))
chain_on h parent (j ∷ chain) p k c under = (c.0, chain_on h (Some j) chain p k c.1 under)

sum_append : (count : ℕ → ℕ) (one other : List ℕ) → sum_on count (one ++ other) ≡ sum_on count one + sum_on count other
sum_append count [] other = omega arith
sum_append count (k ∷ one) other = let rest = sum_append count one other in omega (arith, rest)

-- a rank for each scheduler, above those that it sits on, which are loaded
pub record IsRanking (h : Hierarchy) (rank : ℕ → ℕ) : Type 0 where
  pub some : (k : ℕ) (s : Scheduler) → h.nodes k ≡ Some (Loaded s) → s.ports ≢ []
  pub lower : (k : ℕ) (s : Scheduler) → h.nodes k ≡ Some (Loaded s) → (port : ℕ) (seat : Seat) (p : ℕ)
      → slice_get s.ports port ≡ Some seat → scheduler_at seat.place ≡ Some p → rank p < rank k
  pub loaded : (k : ℕ) (s : Scheduler) → h.nodes k ≡ Some (Loaded s) → (port : ℕ) (seat : Seat) (p : ℕ)
      → slice_get s.ports port ≡ Some seat → scheduler_at seat.place ≡ Some p
      → (parent : Scheduler) × (h.nodes p ≡ Some (Loaded parent))

-- the sums of schedulers, as they are computed, and as they are
pub record IsCapped (h : Hierarchy) (count sums : ℕ → ℕ) : Type 0 where
  pub one : (k : ℕ) → count k ≤ 1
  pub next : (k : ℕ) (s : Scheduler) → h.nodes k ≡ Some (Loaded s)
      → sums k ≡ min (count k + greatest_over sums s.ports) (2 ^ 8 - 1)

abbrev pub IsSolved : Hierarchy → (count sums : ℕ → ℕ) → Type 0
IsSolved h count sums = (k : ℕ) (s : Scheduler) → h.nodes k ≡ Some (Loaded s)
    → sums k ≡ count k + greatest_over sums s.ports

module _ (h : Hierarchy) (count sums rank : ℕ → ℕ) (ranking : IsRanking h rank) where
  module _ (capped : IsCapped h count sums) where
    low : (n k : ℕ) (s : Scheduler) → h.nodes k ≡ Some (Loaded s) → rank k < n → sums k ≤ n
    low zero k s there less = absurd (omega (arith, less))
    low (suc n) k s there less =
        let over : greatest_over sums s.ports ≤ n = over_low sums n s.ports (λ port seat p e on.
        let up = ranking.lower k s there port seat p e on in
        let parent = ranking.loaded k s there port seat p e on in
        low n p parent.0 parent.1 (omega (arith, up, less))) in
        let one = capped.one k in
        let is : sums k ≡ min (count k + greatest_over sums s.ports) (2 ^ 8 - 1) = capped.next k s there in
        omega (arith, over, one, is)

    pub solved : ((k : ℕ) (s : Scheduler) → h.nodes k ≡ Some (Loaded s) → rank k < 18) → IsSolved h count sums
    solved below k s there =
        let over : greatest_over sums s.ports ≤ 18 = over_low sums 18 s.ports (λ port seat p e on.
        let up = ranking.lower k s there port seat p e on in
        let parent = ranking.loaded k s there port seat p e on in
        let less = below k s there in
        low 18 p parent.0 parent.1 (omega (arith, up, less))) in
        let one = capped.one k in
        let is : sums k ≡ min (count k + greatest_over sums s.ports) (2 ^ 8 - 1) = capped.next k s there in
        omega (arith, over, one, is)

  module _ (is : IsSolved h count sums) where
    step_low : (parent : Option ℕ) (k : ℕ) → SitsUnder h parent k → sum_under sums parent + count k ≤ sums k
    step_low parent k u =
        let over : sum_under sums (scheduler_at u.seat.place) ≤ greatest_over sums u.scheduler.ports =
        over_each sums u.scheduler.ports u.port u.seat u.sits in
        let same : sum_under sums (scheduler_at u.seat.place) ≡ sum_under sums parent = ap (sum_under sums) u.under in
        let own = is k u.scheduler u.there in
        omega (arith, over, same, own)

    pub path_low : (parent : Option ℕ) (chain : List ℕ) (k : ℕ) → IsChain h parent (chain ++ k ∷ [])
        → sum_under sums parent + sum_on count (chain ++ k ∷ []) ≤ sums k
    path_low parent [] k c = let up = step_low parent k c.0 in omega (arith, up)
    path_low parent (j ∷ chain) k c =
        let up = step_low parent j c.0 in
        let rest : sums j + sum_on count (chain ++ k ∷ []) ≤ sums k = path_low (Some j) chain k c.1 in
        omega (arith, up, rest)

    pub record IsReached (k : ℕ) : Type 0 where
      pub above : List ℕ
      pub chain : IsChain h None (above ++ k ∷ [])
      pub sum_is : sum_on count (above ++ k ∷ []) ≡ sums k

    reach_from : (n : ℕ)
        → ((p : ℕ) (parent : Scheduler) → h.nodes p ≡ Some (Loaded parent) → rank p < n → IsReached p)
        → (k : ℕ) (s : Scheduler) (there : h.nodes k ≡ Some (Loaded s)) (port : ℕ) (seat : Seat)
        → slice_get s.ports port ≡ Some seat → (parent : Option ℕ) → scheduler_at seat.place ≡ parent
        → sum_under sums parent ≡ greatest_over sums s.ports → rank k < n + 1 → IsReached k
    reach_from n before k s there port seat sits None at top less = record {
      above = [];
      chain = (
        record { scheduler = s; there = there; port = port; seat = seat; sits = sits; under = at },
        tt,
      );
      sum_is = (let own = is k s there in omega (arith, own, top));
    }
    reach_from n before k s there port seat sits (Some p) at top less =
        let lower = ranking.lower k s there port seat p sits at in
        let parent = ranking.loaded k s there port seat p sits at in
        let up = before p parent.0 parent.1 (omega (arith, lower, less)) in
        record {
          above = up.above ++ p ∷ [];
          chain = chain_on h None up.above p k up.chain
              (record { scheduler = s; there = there; port = port; seat = seat; sits = sits; under = at });
          sum_is = (let own = is k s there in let sum = up.sum_is in
              omega (arith, sum_append count (up.above ++ p ∷ []) (k ∷ []), own, top, sum));
        }

    reach : (n k : ℕ) (s : Scheduler) → h.nodes k ≡ Some (Loaded s) → rank k < n → IsReached k
    reach zero k s there less = absurd (omega (arith, less))
    reach (suc n) k s there less =
        let top = top_seat sums s.ports (ranking.some k s there) in
        reach_from n (reach n) k s there top.port top.seat top.sits (scheduler_at top.seat.place) refl top.top
        (omega (arith, less))

    pub reached : (k : ℕ) (s : Scheduler) → h.nodes k ≡ Some (Loaded s) → IsReached k
    reached k s there = reach (rank k + 1) k s there (omega arith)

    module _ (sum : ℕ) (most : (k : ℕ) (s : Scheduler) → h.nodes k ≡ Some (Loaded s) → sums k ≤ sum) where
      all_low : (parent : Option ℕ) (chain : List ℕ) → IsChain h parent chain → sum_under sums parent ≤ sum
          → sum_under sums parent + sum_on count chain ≤ sum
      all_low parent [] c le = omega (arith, le)
      all_low parent (j ∷ chain) c le =
          let up = step_low parent j c.0 in
          let under : sums j ≤ sum = most j c.0.scheduler c.0.there in
          let rest : sums j + sum_on count chain ≤ sum = all_low (Some j) chain c.1 under in
          omega (arith, up, rest)

      pub greatest_is : (sum ≡ 0) ⊎ ((k : ℕ) × (s : Scheduler) × (h.nodes k ≡ Some (Loaded s)) × (sums k ≡ sum))
          → IsGreatestSum h count sum
      greatest_is there =
          let low : (other : List ℕ) → IsChain h None other → sum_on count other ≤ sum =
          (λ other c.
          let le : 0 + sum_on count other ≤ sum = all_low None other c (omega arith) in
          omega (arith, le)) in
          elim there [
            | inl none ↦ record { chain = []; stands = tt; sum_is = sym none; greatest = low }
            | inr some ↦ (let up = reached some.0 some.1 some.2 in
                record {
                  chain = up.above ++ some.0 ∷ [];
                  stands = up.chain;
                  sum_is = up.sum_is ∙ some.3;
                  greatest = low;
                })
          ]
