use Rattle.std.proofs.Common.{arith, ap, inl, inr, ◌≡◌, false}
use Rattle.std.proofs.lemmas.Bool.{cases_lt}
use Rattle.hls_tree_nodes.specs.Views.{shown_at, is_place, place_view}
use Rattle.hls_tree_nodes.specs.Shown.{place_in}
use Rattle.hls_tree_nodes.proofs.Walks.{none_at}
use Rattle.hls_tree_passes.proofs.granting.find_sitter.Goals as goal

pub returns-clause-none : goal.returns-clause-none
returns-clause-none g c = λ _ key port lt e. elim (cases_lt key c.loop-key.key) [
  | inl below ↦ c.loop-key.invariant key port below lt e
  | inr ge ↦
      let none = none_at (λ b. (goal.Scheduler-dyn g (b.vtable, b.value)).seen b.value) c.args.nodes.now key
      (omega (arith, ge, c.capacity-end.ensures.slots)) in
      let off : is_place (place_in (shown_at
      (λ b. (goal.Scheduler-dyn g (b.vtable, b.value)).seen b.value) c.args.nodes.now key) port)
      (place_view c.args.place) ≡ false =
      ap (λ o. is_place (place_in o port) (place_view c.args.place)) none in
      absurd (cc)
]
