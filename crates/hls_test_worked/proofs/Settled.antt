-- The report of a scheduler that moves is legal, and the one in which it is not settled is not.
use Rattle.std.proofs.Common.{◌≡◌, inl, inr, List, [], ◌∷◌, None, true, refl, sym}
use Rattle.std.proofs.Common.{arith}
use Rattle.std.specs.Prelude.{codes}
use Rattle.hls_chron.specs.declared.plain.Config.TheVariants as configs
use Rattle.hls_chron.specs.declared.plain.Kind.TheVariants as kinds
use Rattle.hls_chron.specs.declared.plain.Terms.TheVariants as terms
use Rattle.hls_chron.specs.Ticks.{count}
use Rattle.hls_guarantee.specs.declared.Guarantee.TheVariants.{All, Null}
use Rattle.hls_scenario.specs.declared.scenario.Command.{Command}
use Rattle.hls_scenario.specs.declared.scenario.Command.TheVariants.{Wake}
use Rattle.hls_report_text.specs.declared.report.Seated.{Seated}
use Rattle.hls_report_text.specs.declared.report.Answer.TheVariants.{Done}
use Rattle.hls_report_text.specs.WellFormed.{IsContent}
use Rattle.hls_machine.specs.Hierarchy.{Hierarchy, start}
use Rattle.hls_machine.specs.Steps.{Step, Rouse}
use Rattle.hls_machine.specs.Legal.{IsLegal}
use Rattle.hls_legal.specs.Accounts.{accounts_of, idle_of}
use Rattle.hls_legal.specs.Schedule.{path_at}
use Rattle.hls_legal.specs.Tells.{Tells}
use Rattle.hls_legal.proofs.Agreements.{accounts_told, idle_told}
use Rattle.hls_legal.proofs.Reached.{IsReached, reached_start, reached_next}
use Rattle.hls_legal.specs.Moment.{Boxes}
use Rattle.hls_legal.specs.Dues.{Due, due_at}
use Rattle.hls_legal.specs.Answers.{IsAnswer}
use Rattle.hls_legal.specs.Kit.{boxes_after}
use Rattle.hls_legal.specs.Along.{AnswersAlong}
use Rattle.hls_legal.specs.Legal.{IsLegalContent}
use Rattle.hls_legal.proofs.OneReport.{one_report}
use Rattle.hls_test_worked.specs.Said.{full_kit, on_cpu, on, lent, seated}
use Rattle.hls_test_worked.specs.Settled.{settled, settled_scenario, unsettled, answered, load_root, load_e}
use Rattle.hls_test_worked.specs.Settled.{admit_a}
use Rattle.hls_test_worked.specs.Settled.{move_e}
use Rattle.hls_test_worked.proofs.Formed.{lent_formed, on_formed, cpu_formed, account_formed}
use Rattle.hls_test_worked.proofs.Answering.{done_at, settled_lent, through_one, a_box}
use Rattle.hls_test_worked.proofs.SettledRun.{load, load_below, admit, tick, move, h1, h2, h3, h4, h5, can_load}
use Rattle.hls_test_worked.proofs.SettledRun.{can_load_below, can_admit, can_wake, can_tick4, can_move, can_tick6}

pub steps : List Step
steps = load ∷ load_below ∷ admit ∷ Rouse 2 None ∷ tick ∷ move ∷ tick ∷ []

legal : IsLegal start steps
unfolding steps
legal = (can_load, (can_load_below, (can_admit, (can_wake, (can_tick4, (can_move, (can_tick6, tt)))))))

r1 : IsReached h1
r1 = reached_next start load reached_start can_load

r2 : IsReached h2
r2 = reached_next h1 load_below r1 can_load_below

r3 : IsReached h3
r3 = reached_next h2 admit r2 can_admit

r4 : IsReached h4
r4 = reached_next h3 (Rouse 2 None) r3 can_wake

r5 : IsReached h5
r5 = reached_next h4 tick r4 can_tick4

abbrev kit1 : Boxes
kit1 = boxes_after full_kit load_root (Done [])

abbrev kit2 : Boxes
kit2 = boxes_after kit1 load_e (Done [])

abbrev Answered : Hierarchy → Boxes → Command → List Seated → Type 0
Answered h boxes c seats = IsAnswer (record { hierarchy = h; boxes = boxes; depth = 3 }) c (Done seats)

answer_root : Answered start full_kit load_root (seated (codes "root") 0 (lent All kinds.Cpu All) ∷ [])
answer_root = done_at start full_kit 3 reached_start load_root load
    (refl, refl, (record { place = tt; terms = refl; kept = refl }, tt)) can_load a_box
    (seated (codes "root") 0 (lent All kinds.Cpu All) ∷ []) (
      settled_lent (due_at start (codes "root") 0 (on_cpu All)) (codes "root") 0 All kinds.Cpu All refl refl refl refl
          (through_one configs.Cpu terms.Cpu All All (record { from = tt; to = tt; port_of = refl; lends = inl refl }))
          refl,
      tt,
    )

answer_e : Answered h1 kit1 load_e (seated (codes "e") 0 (lent All kinds.Fp Null) ∷ [])
answer_e = done_at h1 kit1 3 r1 load_e load_below
    (refl, refl, (record { place = refl; terms = refl; kept = refl }, tt)) can_load_below a_box
    (seated (codes "e") 0 (lent All kinds.Fp Null) ∷ []) (
      settled_lent (due_at h1 (codes "e") 0 (on (codes "root") (terms.Prio 0) Null)) (codes "e") 0 All kinds.Fp Null
          refl refl refl refl
          (through_one configs.Fp (terms.Prio 0) All Null
          (record { from = tt; to = tt; port_of = refl; lends = inr refl }))
          refl,
      tt,
    )

answer_a : Answered h2 kit2 admit_a (seated (codes "a") 0 (lent Null kinds.Edf Null) ∷ [])
answer_a = done_at h2 kit2 3 r2 admit_a admit (refl, record { place = refl; terms = refl; kept = refl }) can_admit tt
    (seated (codes "a") 0 (lent Null kinds.Edf Null) ∷ []) (
      settled_lent (due_at h2 (codes "a") 0 (on (codes "e") (terms.Res true 1 2) Null)) (codes "a") 0 Null kinds.Edf
          Null refl refl refl refl
          (through_one configs.Edf (terms.Res true 1 2) Null Null
          (record { from = tt; to = tt; port_of = refl; lends = inr refl })) refl,
      tt,
    )

wake_a : Answered h3 kit2 (Wake (codes "a") None None) []
wake_a = done_at h3 kit2 3 r3 (Wake (codes "a") None None) (Rouse 2 None) (refl, refl) can_wake tt [] tt

-- the seat on the moved scheduler, as it is derived anew
abbrev a_anew : Due
a_anew = record {
  name = codes "a";
  port = 0;
  place = record { config = configs.Edf; terms = terms.Res true 1 2 };
  haves = Null ∷ [];
  want = Null;
}

answer_move : Answered h5 kit2 move_e (seated (codes "e") 0 (lent All kinds.Fp Null)
    ∷ seated (codes "a") 0 (lent Null kinds.Edf Null) ∷ [])
answer_move = done_at h5 kit2 3 r5 move_e move (refl, record { place = refl; terms = refl; kept = refl }) can_move tt
    (seated (codes "e") 0 (lent All kinds.Fp Null) ∷ seated (codes "a") 0 (lent Null kinds.Edf Null) ∷ []) (
      settled_lent (due_at h5 (codes "e") 0 (on (codes "root") (terms.Prio 1) Null)) (codes "e") 0 All kinds.Fp Null
          refl refl refl refl
          (through_one configs.Fp (terms.Prio 1) All Null
          (record { from = tt; to = tt; port_of = refl; lends = inr refl })) refl,
      (
        settled_lent a_anew (codes "a") 0 Null kinds.Edf Null refl refl refl refl
            (through_one configs.Edf (terms.Res true 1 2) Null Null
            (record { from = tt; to = tt; port_of = refl; lends = inr refl })) refl,
        tt,
      ),
    )

along : AnswersAlong 3 start full_kit steps answered
unfolding steps
along = (answer_root, (answer_e, (answer_a, (wake_a, (answer_move, tt)))))

tells : Tells settled steps
unfolding steps path_at
tells = (
  refl,
  (refl, refl, (record { place = tt; terms = refl; kept = refl }, tt)),
  (
    refl,
    (refl, refl, (record { place = refl; terms = refl; kept = refl }, tt)),
    (
      refl,
      (refl, record { place = refl; terms = refl; kept = refl }),
      (
        refl,
        (refl, refl),
        (
          (omega arith, tt),
          refl,
          (refl, (refl, record { place = refl; terms = refl; kept = refl }), (tt, refl, refl)),
        ),
      ),
    ),
  ),
)

formed : IsContent settled
formed = record {
  version = omega arith;
  horizon = omega arith;
  depth = omega arith;
  few = omega arith;
  answered = (
    (refl, ((tt, tt), cpu_formed All tt)),
    (tt, (lent_formed (codes "root") 0 All kinds.Cpu All refl (omega arith) tt tt, tt)),
    omega arith,
    omega arith,
    (
      (refl, ((tt, tt), on_formed (codes "root") (terms.Prio 0) Null refl (omega arith) tt)),
      (tt, (lent_formed (codes "e") 0 All kinds.Fp Null refl (omega arith) tt tt, tt)),
      omega arith,
      omega arith,
      (
        (refl, on_formed (codes "e") (terms.Res true 1 2) Null refl (omega arith, omega arith, omega arith) tt),
        (tt, (lent_formed (codes "a") 0 Null kinds.Edf Null refl (omega arith) tt tt, tt)),
        omega arith,
        omega arith,
        (
          (refl, tt),
          tt,
          omega arith,
          omega arith,
          (
            (refl, on_formed (codes "root") (terms.Prio 1) Null refl (omega arith) tt),
            (
              tt,
              (
                lent_formed (codes "e") 0 All kinds.Fp Null refl (omega arith) tt tt,
                (lent_formed (codes "a") 0 Null kinds.Edf Null refl (omega arith) tt tt, tt),
              ),
            ),
            omega arith,
            omega arith,
            tt,
          ),
        ),
      ),
    ),
  );
  cover = (refl, omega arith, ((omega arith, omega arith), (refl, (refl, (refl, tt)))), (λ e. cc), refl);
  names = (omega arith, tt);
  accounts = (
    account_formed 2 (codes "a") 0 0 Null 1 1 refl (omega arith) (omega arith) tt (omega arith) (omega arith),
    (account_formed 2 (codes "a") 1 1 Null 1 1 refl (omega arith) (omega arith) tt (omega arith) (omega arith), tt),
  );
  idle = omega arith;
}

accounts_are : settled.accounts ≡ accounts_of settled
unfolding steps count
accounts_are = sym (accounts_told settled steps legal tells)

idle_is : settled.idle ≡ idle_of settled
unfolding steps count
idle_is = sym (idle_told settled steps legal tells)

pub settled_legal : IsLegalContent settled_scenario 3 full_kit settled
settled_legal = record {
  formed = formed;
  version = refl;
  horizon = refl;
  depth = refl;
  commands = refl;
  steps = steps;
  run = record { legal = legal; tells = tells; answers = along };
  accounts = accounts_are;
  idle = idle_is;
}

pub no_unsettled : ¬ IsLegalContent settled_scenario 3 full_kit unsettled
no_unsettled legal =
    let same = (one_report settled_scenario 3 full_kit settled unsettled settled_legal legal).idle in
    omega (arith, same)
