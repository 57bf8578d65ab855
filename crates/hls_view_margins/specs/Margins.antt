-- How near each stay of a report came to its guarantee and its cap.
use Rattle.std.specs.Prelude.{◌≡◌, ℕ, ◌-◌, List, [], ◌∷◌, filter, Bool, nat_lt, ◌&&◌, not}
use Rattle.hls_report_text.specs.Content.{Content}
use Rattle.hls_legal.specs.declared.stay.Stay.{Stay}
use Rattle.hls_legal.specs.Schedule.{is_served}
use Rattle.hls_legal.specs.Ready.{is_ready}
use Rattle.hls_legal.specs.Stays.{stays}
use Rattle.hls_legal.specs.Accounts.{end_of, ticks_in}
use Rattle.hls_view_margins.specs.declared.margin.Margin.{Margin}
use Rattle.hls_view_margins.specs.Rows.{IsLongestOf}
use Rattle.hls_view_margins.specs.Judged.{IsSpare}
use Rattle.hls_view_margins.specs.Rooms.{IsRoomOf}

-- ready and not served
abbrev pub waits : (ready served : ℕ → Bool) → ℕ → Bool
waits ready served t = ready t && not (served t)

pub record IsMargin (c : Content) (stay : Stay) (margin : Margin) : Type 0 where
  pub name : margin.name ≡ stay.name
  pub from : margin.from ≡ stay.since
  pub to : margin.to ≡ end_of c stay - 1
  pub kept : margin.kept ≡ stay.kept
  pub ready : margin.ready ≡ ticks_in c stay (is_ready c stay.name)
  pub served : margin.served ≡ ticks_in c stay (is_served c.stretches stay.name)
  pub spare : IsSpare stay.kept (is_ready c stay.name) (is_served c.stretches stay.name) stay.since (end_of c stay)
      margin.spare
  pub room : IsRoomOf stay.kept (is_served c.stretches stay.name) stay.since (end_of c stay) margin.room
  pub wait : IsLongestOf (waits (is_ready c stay.name) (is_served c.stretches stay.name)) stay.since (end_of c stay)
      margin.wait
  pub window : IsLongestOf (is_ready c stay.name) stay.since (end_of c stay) margin.window

-- a margin for each stay, in their order
abbrev pub AreMargins : Content → List Stay → List Margin → Type 0
AreMargins c [] [] = Unit {0}
AreMargins c (stay ∷ all) (margin ∷ margins) = IsMargin c stay margin × AreMargins c all margins
AreMargins c _ _ = ⊥

-- the stays that have a tick
abbrev pub lasting : Content → List Stay
lasting c = filter (λ (s : Stay). nat_lt s.since (end_of c s)) (stays c.answered)
