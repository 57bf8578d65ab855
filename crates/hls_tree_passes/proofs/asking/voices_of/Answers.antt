use Rattle.std.proofs.Common.{◌≡◌, ◌<◌, length, Some, refl, arith, slice_get, ap, ◌∙◌, sym, inl, inr}
use Rattle.std.proofs.lemmas.Bool.{cases_eq}
use Rattle.std.proofs.lemmas.Option.{slice_get_read, slice_get_within}
use Rattle.hls_tree_nodes.specs.Shown.{asks_in}
use Rattle.hls_tree_nodes.specs.Known.{has_bit}
use Rattle.hls_tree_nodes.specs.Views.{shown_at}
use Rattle.hls_tree_passes.proofs.Tells.{entry_at}
use Rattle.hls_tree_passes.proofs.asking.voices_of.Goals as goal

pub loop-at-preserved : goal.loop-at-preserved
loop-at-preserved g c k n lt small here =
    let within : c.loop-at.at < length c.args.schedulers.now =
    omega (arith, c.loop-at-test.true, c.min-at-end.ensures) in
    let at : slice_get c.args.schedulers.now c.loop-at.at ≡ Some c.index-schedulers-at.result =
    slice_get_read c.args.schedulers.now _ c.loop-at.at c.index-schedulers-at.result refl within
    c.index-schedulers-at.is in
    elim (cases_eq k c.loop-at.at) [
      | inl e ↦
          let same : n ≡ c.key.result = entry_at c.args.schedulers.now c.loop-at.at n c.key.result
          (at ∙ ap Some (sym c.key.ensures.key)) (ap (slice_get c.args.schedulers.now) (sym e) ∙ here) in
          ap (has_bit c.with_bit-voices.result) e ∙ c.with_bit-voices.ensures.here ∙ c.asks_at-asks.ensures
          ∙ ap (λ i. asks_in
          (shown_at (λ b. (goal.Scheduler-dyn g (b.vtable, b.value)).seen b.value) c.args.nodes.now i)) (sym same)
      | inr ne ↦ c.with_bit-voices.ensures.others k small ne
          ∙ c.loop-at.invariant k n (omega (arith, lt, ne)) small here
    ]

pub returns : goal.returns
returns g c k n lt here = c.loop-at.invariant k n
    (let within = slice_get_within c.args.schedulers.now k n here in
    omega (arith, within, lt, c.loop-at-test.false, c.min-at-end.ensures)) lt here
