use Rattle.std.proofs.Common.{◌≡◌, ℕ, ◌&&◌, ◌==◌, take}
use Rattle.std.specs.List.{list_any}
use Rattle.hls_view_signs.specs.declared.moments.Moment.{Moment}
use Rattle.hls_view_signs.specs.Inside.Found.{column_of, is_found}
use Rattle.hls_view_signs.specs.Inside.Moments.{has}
use Rattle.hls_view_signs.proofs.signs.found_in.Given as goal

abbrev pub invariant-loop-moment : goal.invariant-loop-moment
invariant-loop-moment l = (k : ℕ) → is_found l.found.items k
    ≡ list_any (λ (m : Moment). has l.event l.row m && column_of l.scale m.tick == k) (take l.moment-index l.moments)
