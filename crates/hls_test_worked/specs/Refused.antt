-- The smallest scenario, reported by someone who refuses its thread without cause and is right in all that comes of it:
-- nobody has the name that is woken, nobody runs, and there is no account.
use Rattle.std.specs.Prelude.{[], ◌∷◌, None, codes}
use Rattle.hls_chron.specs.declared.plain.Kind.TheVariants as kinds
use Rattle.hls_guarantee.specs.declared.Guarantee.TheVariants.{All}
use Rattle.hls_scenario.specs.declared.scenario.Command.TheVariants.{Wake}
use Rattle.hls_report_text.specs.declared.refusal.Refusal.TheVariants.{NoSuchName, NoDerivation}
use Rattle.hls_report_text.specs.Content.{Content}
use Rattle.hls_test_worked.specs.Said.{lent, seated, done, refused, stretch}
use Rattle.hls_test_worked.specs.Smallest.{load_root, admit_a}

abbrev pub refuses_the_thread : Content
refuses_the_thread = record {
  version = 1;
  horizon = 1;
  depth = 3;
  answered = done 0 load_root (seated (codes "root") 0 (lent All kinds.Cpu All) ∷ [])
      ∷ refused 0 admit_a (NoDerivation (codes "a") 3)
      ∷ refused 0 (Wake (codes "a") None None) (NoSuchName (codes "a"))
      ∷ [];
  stretches = stretch 0 0 None ∷ [];
  accounts = [];
  idle = 1;
}
