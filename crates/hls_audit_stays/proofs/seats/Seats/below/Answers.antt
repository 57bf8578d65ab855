use Rattle.std.proofs.Common.{◌∙◌, ap, sym, subst}
use Rattle.std.specs.List.{list_any}
use Rattle.std.specs.Prelude.{Bool, List}
use Rattle.hls_audit_stays.specs.Inside.Marks.{AreBelow}
use Rattle.hls_audit_stays.proofs.BelowLaws.{below-none}
use Rattle.hls_audit_stays.proofs.seats.Seats.below.Goals as goal

pub returns : goal.returns
returns c =
    let off = sym c.is_any.ensures ∙ c.if-is_any.false in
    subst (λ bs. AreBelow c.args.self.now c.args.answered.now c.args.place bs c.args.above.now)
    (sym c.new.ensures.items)
    (below-none c.args.self.now c.args.answered.now c.args.place c.args.above.now c.in_ok-marks.marks.items
    (ap (λ (bs : List Bool). list_any (λ (mark : Bool). mark) bs) (sym c.deref.ensures.value) ∙ off)
    c.in_ok-marks.ensures)
