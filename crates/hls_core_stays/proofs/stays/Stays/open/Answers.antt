use Rattle.std.proofs.Common.{ap, ◌∙◌}
use Rattle.hls_core_stays.specs.declared.stays.Stays.{Stays}
use Rattle.hls_core_stays.proofs.Ends.{open_read}
use Rattle.hls_core_stays.proofs.stays.Stays.open.Goals.{then-is_like, else-is_like}
use Rattle.hls_core_stays.proofs.stays.Stays.open.Goals as goal

pub returns-clause-opened : goal.returns-clause-opened
returns-clause-opened g c = λ h stays tree ready thread are none.
    elim c.if-is_like.branch [
      | then-is_like w ↦ (let like = c.is_like.ensures w.if-is_like.true in
          open_read c.args.self.now _ h stays c.args.id like.tally.name like.tally.kept w.now.result
          w.ready_since.result thread are none (like.name h tree) (like.kept h tree) (w.now.ensures h tree)
          (w.ready_since.ensures.noted h tree ready) (w.ready_since.ensures.begun h tree)
          (ap (λ (s : Stays). s.tallies.items) w.self-is ∙ w.push_like.ensures.items like.tally like.there)
          (ap (λ (s : Stays). s.idle) w.self-is))
      | else-is_like w ↦ open_read c.args.self.now _ h stays c.args.id w.name.result.now w.kept.result
          w.now-else-is_like.result w.ready_since-else-is_like.result thread are none (w.name.ensures h tree)
          (w.kept.ensures h tree) (w.now-else-is_like.ensures h tree)
          (w.ready_since-else-is_like.ensures.noted h tree ready) (w.ready_since-else-is_like.ensures.begun h tree)
          (ap (λ (s : Stays). s.tallies.items) w.self-is ∙ w.push.ensures.items)
          (ap (λ (s : Stays). s.idle) w.self-is)
    ]
