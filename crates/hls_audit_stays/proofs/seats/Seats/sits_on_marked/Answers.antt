use Rattle.std.proofs.Common.{◌≡◌, ◌∙◌, length, sym}
use Rattle.std.proofs.lemmas.Bool.{eqb-true}
use Rattle.hls_audit_stays.specs.Inside.Seats.{seated}
use Rattle.hls_audit_stays.proofs.BelowLaws.{sits-empty}
use Rattle.hls_audit_stays.proofs.seats.Seats.sits_on_marked.Goals as goal

pub returns-then-is_empty : goal.returns-then-is_empty
returns-then-is_empty c =
    let none : length c.args.marks.now ≡ 0 =
    eqb-true (length c.args.marks.now) 0 (sym c.is_empty.ensures ∙ c.if-is_empty.true) in
    sits-empty c.args.self.now c.args.marks.now none
    (seated c.args.self.now.last c.args.answered.now c.args.name.now)
