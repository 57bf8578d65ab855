use Rattle.std.proofs.Common.{◌≡◌, arith, inl, inr, ℕ, List, Some, None, ap, sym, ◌∙◌, refl}
use Rattle.std.specs.Prelude.{Option, is_none, not}
use Rattle.std.proofs.lemmas.Grind.{get_or-set_at}
use Rattle.std.proofs.lemmas.Bool.{cases_lt}
use Rattle.std.proofs.lemmas.Grind.{common_steps}
use Rattle.hls_kinds.specs.Frames.{owner_in}
use Rattle.hls_kinds.proofs.TickLaws.{tick_laws}
use Rattle.hls_wheel_owners.proofs.Seating.{none_taken_from, free_taken, owned_kept}
use Rattle.hls_wheel_owners.proofs.owners.seat.Goals as goal
use Rattle.hls_wheel_owners.proofs.owners.seat.Goals.{then-is_none, else-is_none}

pub returns-then-free-places-clause-seated : goal.returns-then-free-places-clause-seated
returns-then-free-places-clause-seated c = λ p lt. elim (cases_lt p c.loop-place.place) [
  | inl below ↦ c.loop-place.invariant.past p below
  | inr here ↦
      c.loop-place.invariant.rest p here
      ∙ sym (none_taken_from (owner_in c.args.owners.now) c.args.slot c.args.places c.loop-place.place p
      (sym c.if-free-places.true ∙ c.loop-place.invariant.free) here)
]

pub loop-place-preserved : goal.loop-place-preserved
loop-place-preserved c =
    let at = c.loop-place.place in
    let before = c.loop-place.invariant in
    record {
      size = grind (arith, common_steps);
      free = elim c.if-is_none.branch [
        | then-is_none w ↦ grind (arith, common_steps, tick_laws, before.rest at)
        | else-is_none w ↦ grind (arith, common_steps, tick_laws, before.rest at)
      ];
      few = elim c.if-is_none.branch [ then-is_none w ↦ omega arith | else-is_none w ↦ omega arith ];
      asked = elim c.if-is_none.branch [ then-is_none w ↦ omega arith | else-is_none w ↦ omega arith ];
      past = λ p lt. elim (cases_lt p at) [
        | inl below ↦ grind (arith, common_steps, before.past p below)
        | inr here ↦
            let same : at ≡ p = omega (arith, lt, here) in
            let now = before.rest at (omega arith) in
            rw (← same) (elim c.if-is_none.branch [
              | then-is_none w ↦
                  ap (λ (owners : List (Option ℕ)). owner_in owners at) w.owners-is
                  ∙ get_or-set_at c.loop-place.owners at at (Some c.args.slot) None refl (omega arith)
                  ∙ sym (free_taken (owner_in c.args.owners.now) c.args.slot c.args.places at
                  (ap is_none (sym now) ∙ ap not w.if-is_none.ensures) (omega arith))
              | else-is_none w ↦
                  ap (λ (owners : List (Option ℕ)). owner_in owners at) w.owners-is
                  ∙ now
                  ∙ sym (owned_kept (owner_in c.args.owners.now) c.args.slot c.args.places at
                  (ap is_none (sym now) ∙ ap not w.if-is_none.ensures))
            ])
      ];
      rest = λ p le. grind (arith, common_steps, before.rest p);
    }
