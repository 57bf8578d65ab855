use Rattle.std.proofs.Common.{◌∙◌, sym}
use Rattle.hls_kinds_lookup.specs.Rankings.{takes_part, key_of}
use Rattle.hls_kinds_lookup.proofs.RankingLaws.{best-none, best-hit, best-miss}
use Rattle.hls_kinds_lookup.proofs.choice.first_slot.Goals as goal
use Rattle.hls_kinds_lookup.proofs.choice.first_slot.Goals.{then-takes_part, else-takes_part}

pub loop-slot-init : goal.loop-slot-init
loop-slot-init c =
    best-none (takes_part c.args.ranking c.args.book.now c.args.mask)
    (key_of c.args.ranking c.args.book.now c.args.mask)

pub loop-slot-preserved : goal.loop-slot-preserved
loop-slot-preserved c =
    let test = takes_part c.args.ranking c.args.book.now c.args.mask in
    let key = key_of c.args.ranking c.args.book.now c.args.mask in
    let was = c.loop-slot.invariant in
    elim c.if-takes_part.branch [
      | then-takes_part w ↦ rw (w.best-is, w.better.ensures, w.key-key.ensures)
          (best-hit test key c.loop-slot.slot c.loop-slot.best was (sym c.takes_part.ensures
          ∙ w.if-takes_part.true))
      | else-takes_part w ↦ rw w.best-is
          (best-miss test key c.loop-slot.slot c.loop-slot.best was (sym c.takes_part.ensures
          ∙ w.if-takes_part.false))
    ]
