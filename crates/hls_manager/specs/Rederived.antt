-- The seats on a scheduler, once it has another guarantee.
use Rattle.std.specs.Prelude.{◌≡◌, ◌≢◌, List, Option, Some}
use Rattle.hls_chron.specs.declared.plain.Kind.TheVariants as kinds
use Rattle.hls_chron.specs.Kinds.{kind_of}
use Rattle.hls_machine.specs.Hierarchy.{Node, Loaded, Scheduler}
use Rattle.hls_legal.specs.Dues.{Due, AreSettled}
use Rattle.hls_legal.specs.Refusals.{IsFirstSuch, LacksDerivation}
use Rattle.hls_manager.specs.declared.rederiving.Rederived.{Rederived}
use Rattle.hls_manager.specs.declared.rederiving.Rederived.TheVariants.{All, Lacks}
use Rattle.std.specs.Prelude.{ℕ}

-- a loaded scheduler that is no join
pub record IsLone (node : Option Node) : Type 0 where
  pub scheduler : Scheduler
  pub there : node ≡ Some (Loaded scheduler)
  pub lone : kind_of scheduler.config ≢ kinds.Join

-- each is told with a derivation, or the first that has none
abbrev pub AreRederived : (depth : ℕ) → List Due → Rederived → Type 0
AreRederived depth dues (All seats) = AreSettled depth dues seats
AreRederived depth dues (Lacks name) = IsFirstSuch dues (LacksDerivation depth) name
