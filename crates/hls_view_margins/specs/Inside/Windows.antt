-- The windows of a stay, one after another.
use Rattle.std.specs.Prelude.{◌≡◌, ℕ, ◌+◌, ◌≤◌, ◌<◌, Bool, true, false, Option}
use Rattle.hls_guarantee.specs.declared.Guarantee.{Guarantee}
use Rattle.hls_view_margins.specs.declared.margin.Part.{Part}
use Rattle.hls_view_margins.specs.declared.scale.Scale.{Scale}
use Rattle.hls_view_margins.specs.First.{IsFirstOf}
use Rattle.hls_view_margins.specs.Rows.{IsWhole}
use Rattle.hls_view_margins.specs.Judged.{IsJudged, IsOver}

-- a part of a window that begins before a tick
pub record IsJudgedBefore (kept : Guarantee) (scale : Scale) (ready served : ℕ → Bool) (lo hi tick : ℕ) (p : Part)
    : Type 0 where
  pub from : ℕ
  pub until : ℕ
  pub before : from < tick
  pub window : IsWhole ready lo hi from until
  pub judged : IsJudged kept scale served from until p

-- what is found of the windows that begin before a tick, at which a window begins, unless it is the end
pub record AreJudged (kept : Guarantee) (scale : Scale) (ready served : ℕ → Bool) (lo hi tick : ℕ) (least : Option Part)
    : Type 0 where
  pub low : lo ≤ tick
  pub begins : tick < hi → ready tick ≡ true
  pub edge : tick < hi → (t : ℕ) → t + 1 ≡ tick → lo ≤ t → ready t ≡ false
  pub fits : (from until : ℕ) → from < tick → IsWhole ready lo hi from until → IsOver kept served from until → ⊥
  pub first : IsFirstOf scale (IsJudgedBefore kept scale ready served lo hi tick) least
