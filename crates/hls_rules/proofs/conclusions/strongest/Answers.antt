use Rattle.hls_rules.proofs.BestOnes.{blocks-strongest, windows-strongest, other-lacks}
use Rattle.hls_rules.proofs.LongerOnes.{blocks-found, blocks-none, windows-found, windows-none}
use Rattle.hls_rules.proofs.conclusions.strongest.Goals as goal

pub returns-in-R4-Resb-clause-found : goal.returns-in-R4-Resb-clause-found
returns-in-R4-Resb-clause-found c =
    let share = c.share_of.ensures in
    blocks-strongest c.in-R4-Resb.is-0 c.in-R4-Resb.is-1 c.requires
    (record { rate = share.0; error = share.1; is = share.2; rate_is = share.3; error_is = share.4 })

pub returns-in-R5-Resc-clause-found : goal.returns-in-R5-Resc-clause-found
returns-in-R5-Resc-clause-found c =
    let share = c.share_of-in-R5-Resc.ensures in
    windows-strongest c.in-R5-Resc.is-0 c.in-R5-Resc.is-1 c.requires
    (record { rate = share.0; error = share.1; is = share.2; rate_is = share.3; error_is = share.4 })

pub returns-in_default-13-clause-lacks : goal.returns-in_default-13-clause-lacks
returns-in_default-13-clause-lacks c = λ _ h.
    let not = c.in_default in
    other-lacks c.args.rule c.args.g.now h (record {
      not_1 = not.not-R1-0;
      not_2 = not.not-R2-0;
      not_3 = not.not-R3-0;
      not_4 = not.not-R4-0;
      not_5 = not.not-R5-0;
      not_7 = not.not-R7-0;
      not_9 = not.not-R9-0;
      not_10 = not.not-R10-0;
      not_11 = not.not-R11-0;
    })

pub returns-in-R10-Resb-clause-found : goal.returns-in-R10-Resb-clause-found
returns-in-R10-Resb-clause-found c =
    let at = c.in-R10-Resb in
    blocks-found c.args.rule c.args.g.now _ at.x at.y c.windows_of_one.result at.is-0 at.is-1 c.requires
    c.windows_of_one.ensures.some

pub returns-in-R10-Resb-clause-lacks : goal.returns-in-R10-Resb-clause-lacks
returns-in-R10-Resb-clause-lacks c = λ none h strongest.
    let at = c.in-R10-Resb in
    blocks-none c.args.rule c.args.g.now h _ at.x at.y at.is-0 at.is-1 (c.windows_of_one.ensures.none none) strongest

pub returns-in-R11-Resc-clause-found : goal.returns-in-R11-Resc-clause-found
returns-in-R11-Resc-clause-found c =
    let at = c.in-R11-Resc in
    windows-found c.args.rule c.args.g.now _ at.x at.y c.windows_once.result at.is-0 at.is-1 c.requires
    c.windows_once.ensures.some

pub returns-in-R11-Resc-clause-lacks : goal.returns-in-R11-Resc-clause-lacks
returns-in-R11-Resc-clause-lacks c = λ none h strongest.
    let at = c.in-R11-Resc in
    windows-none c.args.rule c.args.g.now h _ at.x at.y at.is-0 at.is-1 (c.windows_once.ensures.none none) strongest
