use Rattle.hls_view.proofs.Promised.{can_be_told}
use Rattle.hls_view.proofs.showing.margins_text.Goals as goal

pub write_margins-requires : goal.write_margins-requires
write_margins-requires c =
    rw c.deref.ensures.value
    (can_be_told c.args.report.now c.in_ok-margins.margins.items c.requires.formed c.in_ok-margins.ensures)
