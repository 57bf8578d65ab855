-- Sums of counts on paths of schedulers, as they are computed: a sum for each scheduler, by its place in
-- the list of schedulers.
use Rattle.std.specs.Prelude.{◌≡◌, ℕ, ◌+◌, ◌-◌, ◌^◌, ◌<◌, ◌≤◌, min, max, ◌==◌, if◌then◌else◌}
use Rattle.std.specs.Prelude.{List, [], ◌∷◌, length, slice_index, Option, Some, None}
use Rattle.hls_machine.specs.Hierarchy.{Seat}
use Rattle.hls_chron.specs.Kinds.{fair_queue}
use Rattle.hls_machine.specs.Legal.{scheduler_at}
use Rattle.hls_tree_nodes.specs.Shown.{Shown, What, Scheduler, Thread, seats_in}
use Rattle.hls_tree_depths.specs.Subtrees.{sum_at}
use Rattle.hls_tree_depths.specs.declared.question.Counted.{Counted}
use Rattle.hls_tree_depths.specs.declared.question.Counted.TheVariants as counts
use Rattle.hls_tree_depths.specs.declared.question.Moved.{Moved}
use Rattle.hls_tree_depths.specs.declared.question.Question.{Question}

-- the sum of a parent, 0 at the processor
abbrev pub sum_under : (sums : ℕ → ℕ) → (parent : Option ℕ) → ℕ
sum_under sums None = 0
sum_under sums (Some p) = sums p

-- the greatest sum of a parent
abbrev pub greatest_over : (sums : ℕ → ℕ) → List Seat → ℕ
greatest_over sums [] = 0
greatest_over sums (seat ∷ seats) = max (sum_under sums (scheduler_at seat.place)) (greatest_over sums seats)

-- where one scheduler is thought to sit elsewhere
abbrev pub greatest_in : Option Moved → (ℕ → Option Shown) → (sums : ℕ → ℕ) → (k : ℕ) → ℕ
greatest_in None s sums k = greatest_over sums (seats_in (s k))
greatest_in (Some m) s sums k = if k == m.key then sum_under sums m.parent else greatest_over sums (seats_in (s k))

abbrev pub fair_what : What → ℕ
fair_what (Scheduler post) = fair_queue post.config
fair_what (Thread ready) = 0

abbrev pub fair_in : Option Shown → ℕ
fair_in None = 0
fair_in (Some s) = fair_what s.what

-- what a node counts
abbrev pub count_in : Counted → (k : ℕ) → Option Shown → ℕ
count_in counts.Each k o = 1
count_in counts.FairQueues k o = fair_in o
count_in (counts.Only other) k o = if k == other then 1 else 0

-- what the sum of a node is, by those that it sits on
abbrev pub next_in : Question → (ℕ → Option Shown) → (sums : ℕ → ℕ) → (k : ℕ) → ℕ
next_in q s sums k = min (count_in q.counted k (s k) + greatest_in q.moved s sums k) (2 ^ 8 - 1)

-- the sum at a place in the list is what it is to be
abbrev pub IsRight : (next : (ℕ → ℕ) → ℕ → ℕ) → (order sums : List ℕ) → (at : ℕ) → Type 0
IsRight next order sums at =
    sum_at order sums (slice_index order at) ≡ next (sum_at order sums) (slice_index order at)

abbrev pub IsSettled : (next : (ℕ → ℕ) → ℕ → ℕ) → (order sums : List ℕ) → Type 0
IsSettled next order sums = (at : ℕ) → at < length order → IsRight next order sums at

-- what a sum is to be depends on sums of lesser rank alone
abbrev pub IsLocal : (next : (ℕ → ℕ) → ℕ → ℕ) → (order : List ℕ) → (rank : ℕ → ℕ) → Type 0
IsLocal next order rank = (at : ℕ) → at < length order → (one other : ℕ → ℕ)
    → ((p : ℕ) → rank p < rank (slice_index order at) → one p ≡ other p)
    → next one (slice_index order at) ≡ next other (slice_index order at)

-- sums of ranks below this one are right, and so are those of this rank among the first so many
abbrev pub IsSettledTo : (next : (ℕ → ℕ) → ℕ → ℕ) → (order : List ℕ) → (rank : ℕ → ℕ) → (now first : ℕ)
    → (sums : List ℕ) → Type 0
IsSettledTo next order rank now first sums = (at : ℕ) → at < length order → rank (slice_index order at) ≤ now
    → (first ≤ at → rank (slice_index order at) < now) → IsRight next order sums at

-- what a node counts, by what is shown of it
abbrev pub counts_in : Counted → (ℕ → Option Shown) → (k : ℕ) → ℕ
counts_in counted s k = count_in counted k (s k)

-- the sums that answer a question stand, where ranks are below the number of rounds
abbrev pub AreSums : Question → (ℕ → Option Shown) → (order sums : List ℕ) → Type 0
AreSums q s order sums = (rank : ℕ → ℕ) → IsLocal (next_in q s) order rank
    → ((at : ℕ) → at < length order → rank (slice_index order at) < 18) → IsSettled (next_in q s) order sums
