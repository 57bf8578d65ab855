use Rattle.std.proofs.Common.{ℕ, ◌-◌, arith, ap, ◌∙◌, refl}
use Rattle.hls_legal.specs.Schedule.{is_served}
use Rattle.hls_legal.specs.Ready.{is_ready}
use Rattle.hls_legal.specs.Accounts.{end_of}
use Rattle.hls_view_margins.specs.Rows.{IsLongestOf}
use Rattle.hls_view_margins.specs.Judged.{IsSpare}
use Rattle.hls_view_margins.specs.Rooms.{IsRoomOf}
use Rattle.hls_view_margins.specs.Margins.{waits}
use Rattle.hls_view_margins.proofs.MarginLaws.{moved, moved_count}
use Rattle.hls_view_margins.proofs.stays.margin_in.Goals as goal

pub returns : goal.returns
returns c = λ content ready served from until within.
    let stay = c.args.stay.now in
    let window = c.args.window.now in
    let some = window.some in
    let end : ℕ = end_of content stay in
    let f = is_ready content stay.name in
    let g = is_served content.stretches stay.name in
    record {
      name = refl;
      from = from;
      to = ap (λ (k : ℕ). k - 1) until;
      kept = refl;
      ready = c.count.ensures f content.horizon ready (omega (arith, some, within))
          ∙ moved_count f window.lo window.hi stay.since end from until;
      served = c.count-2.ensures g content.horizon served (omega (arith, some, within))
          ∙ moved_count g window.lo window.hi stay.since end from until;
      spare = moved (λ (lo hi : ℕ). IsSpare stay.kept f g lo hi c.spare_of.result) window.lo window.hi stay.since end
          from until (c.spare_of.ensures f g content.horizon ready served within);
      room = moved (λ (lo hi : ℕ). IsRoomOf stay.kept g lo hi c.room_of.result) window.lo window.hi stay.since end
          from until (c.room_of.ensures g content.horizon served within);
      wait = moved (λ (lo hi : ℕ). IsLongestOf (waits f g) lo hi c.longest_row.result) window.lo window.hi stay.since
          end from until (c.longest_row.ensures f g content.horizon ready served within);
      window = moved (λ (lo hi : ℕ). IsLongestOf f lo hi c.longest_row-2.result) window.lo window.hi stay.since end from
          until (c.longest_row-2.ensures f g content.horizon ready served within);
    }
