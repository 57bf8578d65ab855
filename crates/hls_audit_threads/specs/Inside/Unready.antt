-- A thread that runs and is not ready.
use Rattle.std.specs.Prelude.{◌≡◌, ℕ, true, false}
use Rattle.hls_text.specs.Lines.{Text}
use Rattle.hls_report_text.specs.Content.{Content}
use Rattle.hls_legal.specs.Schedule.{is_served}
use Rattle.hls_legal.specs.Ready.{is_ready}

pub record IsUnready (c : Content) (t : ℕ) (name : Text) : Type 0 where
  pub served : is_served c.stretches name t ≡ true
  pub unready : is_ready c name t ≡ false
