-- Conversions that were found.
use Rattle.std.specs.Prelude.{◌≡◌, ℕ, ◌≤◌, List, length}
use Rattle.hls_guarantee.specs.declared.Guarantee.{Guarantee}
use Rattle.hls_derive.specs.declared.derivation.Step.{Step}
use Rattle.hls_derive.specs.Derivation.{end_of}
use Rattle.hls_derive.specs.Derives.{FollowsBy}

-- at most n conversions that lead from g to h
pub record LeadsTo (n : ℕ) (g h : Guarantee) (steps : List Step) : Type 0 where
  pub follows : FollowsBy g steps
  pub ends : end_of g steps ≡ h
  pub fits : length steps ≤ n
