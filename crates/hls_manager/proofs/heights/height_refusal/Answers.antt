use Rattle.std.proofs.Common.{[], arith}
use Rattle.hls_manager.proofs.HeightLaws.{too_deep, not_deep, not_too_deep, too_many_shares, not_many_shares}
use Rattle.hls_manager.proofs.Outcomes.{reached_listed}
use Rattle.hls_manager.proofs.heights.height_refusal.Goals as goal

pub returns-then-level-gt-LEVELS-clause-refused : goal.returns-then-level-gt-LEVELS-clause-refused
returns-then-level-gt-LEVELS-clause-refused g c = λ h name perches tree is are.
    too_deep h (reached_listed h is) name c.args.config.now perches c.args.seats.now are
    c.level_over-level.result (c.level_over-level.ensures.most h tree is) c.if-level-gt-LEVELS.true

pub returns-then-count-gt-SHARES-clause-refused : goal.returns-then-count-gt-SHARES-clause-refused
returns-then-count-gt-SHARES-clause-refused g c = λ h name perches tree is are.
    (let share = c.share_of.ensures.share in
    let one = c.share_of.ensures.within in
    let many = c.if-count-gt-SHARES.true in
    let low = c.if-level-gt-LEVELS.false in
    let listed = reached_listed h is in
    rw share (
      too_many_shares h listed name c.args.config.now perches c.args.seats.now are c.shares_over.result
          (c.shares_over.ensures.most h tree is) (omega (arith, one, many)) (omega (arith, share, many)),
      not_too_deep h listed name c.args.config.now perches c.args.seats.now are c.level_over-level.result
          (c.level_over-level.ensures.most h tree is) (omega (arith, low)),
    ))

pub returns-clause-low : goal.returns-clause-low
returns-clause-low g c = λ none h perches tree is are.
    (let share = c.share_of.ensures.share in
    let few = c.if-count-gt-SHARES.false in
    let low = c.if-level-gt-LEVELS.false in
    let listed = reached_listed h is in
    record {
      levels = not_deep h listed [] c.args.config.now perches c.args.seats.now are c.level_over-level.result
          (c.level_over-level.ensures.most h tree is) (omega (arith, low));
      shares = not_many_shares h listed [] c.args.config.now perches c.args.seats.now are c.shares_over.result
          (c.shares_over.ensures.most h tree is) (omega (arith, share, few));
    })
