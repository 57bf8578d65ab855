use Rattle.std.proofs.Common.{◌≡◌, ◌∙◌, ◌++◌, ◌∷◌, [], ◌<◌, ◌+◌, ap, sym, subst, map, length, drop, get_or}
use Rattle.std.proofs.Common.{List, Vec, Global}
use Rattle.hls_scenario.specs.declared.scenario.Perch.{Perch}
use Rattle.hls_audit.specs.Inside.Told.{told, dues_under}
use Rattle.hls_audit.specs.declared.dues.Due as dues
use Rattle.hls_audit.proofs.DueLaws.{AreSoFar, under-more, under-past}
use Rattle.hls_audit.proofs.dues.put_dues_under.Goals as goal
use Rattle.hls_audit.proofs.dues.put_dues_under.Goals.{then-is_at+in_ok-due_under+in_ok-push, else-is_at}

pub loop-port-preserved : goal.loop-port-preserved
loop-port-preserved c =
    let config = c.args.config.now in
    let moved = c.args.moved.now in
    let has = c.args.has.now in
    let m = c.args.member.now in
    let port = c.loop-port.port in
    let perch = c.perch-item.result in
    let rest = dues_under config moved has m.name (port + 1) (drop (port + 1) m.perches) in
    let whole = map told c.args.dues.now.items ++ dues_under config moved has m.name 0 m.perches in
    let here : perch ≡ get_or m.perches port perch = cc in
    let within : port < length m.perches =
    subst (λ (perches : List Perch). port < length perches) c.items-perch-items.ensures c.loop-port-test.true in
    elim c.if-is_at.branch [
      | then-is_at+in_ok-due_under+in_ok-push w ↦
          let due = w.in_ok-due_under.field-0 in
          let is : c.if-is_at.dues.items ≡ c.loop-port.dues.items ++ due ∷ [] =
          ap (λ (ds : Vec dues.Due Global). ds.items) w.dues-is ∙ w.in_ok-push.ensures.items in
          subst (λ (items : List dues.Due). AreSoFar items rest whole) (sym is)
          (under-more config moved has m.name m.perches port perch c.loop-port.dues.items due whole within here
          (sym c.is_at.ensures ∙ w.if-is_at.true) w.in_ok-due_under.ensures c.loop-port.invariant)
      | else-is_at w ↦
          let is : c.if-is_at.dues.items ≡ c.loop-port.dues.items = cc in
          subst (λ (items : List dues.Due). AreSoFar items rest whole) (sym is)
          (under-past config moved has m.name m.perches port perch c.loop-port.dues.items whole within here
          (sym c.is_at.ensures ∙ w.if-is_at.false) c.loop-port.invariant)
    ]
