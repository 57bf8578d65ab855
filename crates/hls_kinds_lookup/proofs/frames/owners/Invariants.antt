use Rattle.std.proofs.Common.{◌≡◌, ℕ, ◌<◌, take, fold}
use Rattle.hls_chron.specs.declared.book.Mark.{Mark}
use Rattle.hls_kinds.specs.Frames.{owner_in, owner_after, unowned}
use Rattle.hls_kinds_lookup.proofs.frames.owners.Given as goal

abbrev pub invariant-loop-mark : goal.invariant-loop-mark
invariant-loop-mark l =
    (p : ℕ) → p < 1000 → owner_in l.owners p
    ≡ fold (λ owners (m : Mark). owner_after owners m.event) unowned (take l.mark-index l.mark-items) p
