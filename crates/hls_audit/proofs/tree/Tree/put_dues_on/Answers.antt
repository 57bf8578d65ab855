use Rattle.std.proofs.Common.{◌≡◌, ◌++◌, ◌<◌, map, length, get_or, arith}
use Rattle.hls_audit.specs.Inside.Told.{told}
use Rattle.hls_audit.proofs.DueLaws.{on_members, on-more}
use Rattle.hls_audit.proofs.tree.Tree.put_dues_on.Goals as goal

pub loop-member-preserved : goal.loop-member-preserved
loop-member-preserved c =
    let tree = c.args.self.now.members.items in
    let m = c.member-item.result in
    let here : m ≡ get_or tree c.loop-member.member-index m = cc in
    let within : c.loop-member.member-index < length tree = omega arith in
    on-more tree c.config_of-config.result c.args.moved.now c.args.has.now tree c.loop-member.member-index m
    c.loop-member.dues.items c.put_dues_under.new.dues.items
    (map told c.args.dues.now.items ++ on_members tree c.args.moved.now c.args.has.now tree)
    within here c.config_of-config.ensures c.in_ok-put_dues_under.ensures c.loop-member.invariant
