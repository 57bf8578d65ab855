-- Who refuses the thread of the smallest scenario does not answer as defined: with the defined answers the report would
-- be legal, and the right one is.
use Rattle.std.proofs.Common.{◌≡◌, refl, arith}
use Rattle.std.specs.Prelude.{codes}
use Rattle.hls_chron.specs.declared.plain.Kind.TheVariants as kinds
use Rattle.hls_chron.specs.declared.plain.Terms.TheVariants as terms
use Rattle.hls_chron.specs.Ticks.{count}
use Rattle.hls_guarantee.specs.declared.Guarantee.TheVariants.{All}
use Rattle.hls_report_text.specs.WellFormed.{IsContent}
use Rattle.hls_legal.specs.Accounts.{accounts_of, idle_of}
use Rattle.hls_legal.specs.Schedule.{path_at}
use Rattle.hls_legal.specs.Stays.{stays_from}
use Rattle.hls_legal.proofs.OneReport.{one_report}
use Rattle.hls_top.specs.Promises.{AnswersEach}
use Rattle.hls_top.proofs.Answered.{answered_run}
use Rattle.hls_test_worked.specs.Said.{full_kit}
use Rattle.hls_test_worked.specs.Smallest.{smallest, smallest_scenario}
use Rattle.hls_test_worked.specs.Refused.{refuses_the_thread}
use Rattle.hls_test_worked.proofs.Formed.{lent_formed, on_formed, cpu_formed}
use Rattle.hls_test_worked.proofs.Smallest.{smallest_legal}

formed : IsContent refuses_the_thread
formed = record {
  version = omega arith;
  horizon = omega arith;
  depth = omega arith;
  few = omega arith;
  answered = (
    (refl, ((tt, tt), cpu_formed All tt)),
    (tt, (lent_formed (codes "root") 0 All kinds.Cpu All refl (omega arith) tt tt, tt)),
    omega arith,
    omega arith,
    (
      (refl, on_formed (codes "root") (terms.Prio 0) All refl (omega arith) tt),
      (refl, omega arith),
      omega arith,
      omega arith,
      ((refl, tt), refl, omega arith, omega arith, tt),
    ),
  );
  cover = (refl, omega arith, tt, (λ e. cc), refl);
  names = (omega arith, tt);
  accounts = tt;
  idle = omega arith;
}

accounts_are : refuses_the_thread.accounts ≡ accounts_of refuses_the_thread
unfolding stays_from
accounts_are = refl

idle_is : refuses_the_thread.idle ≡ idle_of refuses_the_thread
unfolding count path_at
idle_is = refl

pub no_wrong_refusal : ¬ AnswersEach full_kit refuses_the_thread
no_wrong_refusal is =
    let run = answered_run full_kit refuses_the_thread is in
    (one_report smallest_scenario 3 full_kit smallest refuses_the_thread smallest_legal (record {
      formed = formed;
      version = refl;
      horizon = refl;
      depth = refl;
      commands = refl;
      steps = run.0;
      run = run.1;
      accounts = accounts_are;
      idle = idle_is;
    })).answered.1.0.answer
