-- The report with a join is legal.
use Rattle.std.proofs.Common.{◌≡◌, ℕ, zero, suc, ◌≤◌, inl, inr, List, [], ◌∷◌, Some, None}
use Rattle.std.proofs.Common.{true, false, refl, sym, ap, ◌∙◌, arith, slice_get}
use Rattle.std.specs.Prelude.{codes}
use Rattle.hls_chron.specs.Ticks.{count}
use Rattle.hls_chron.specs.declared.plain.Config.TheVariants as configs
use Rattle.hls_chron.specs.declared.plain.Kind.TheVariants as kinds
use Rattle.hls_chron.specs.declared.plain.Terms.TheVariants as terms
use Rattle.hls_guarantee.specs.Limits.{IsReservation}
use Rattle.hls_guarantee.specs.declared.rule.RuleName.TheVariants.{R2}
use Rattle.hls_guarantee.specs.declared.Guarantee.TheVariants.{All, Null, Resb}
use Rattle.hls_scenario.specs.declared.scenario.Spot.{Spot}
use Rattle.hls_scenario.specs.declared.scenario.Spot.TheVariants.{Under}
use Rattle.hls_scenario.specs.declared.scenario.Command.{Command}
use Rattle.hls_scenario.specs.declared.scenario.Command.TheVariants.{Wake}
use Rattle.hls_report_text.specs.declared.refusal.Refusal.{Refusal}
use Rattle.hls_report_text.specs.declared.refusal.Refusal.TheVariants.{NameTaken, NoSuchName, WrongSort}
use Rattle.hls_report_text.specs.declared.report.Seated.{Seated}
use Rattle.hls_report_text.specs.declared.report.Answer.TheVariants.{Done, Refused}
use Rattle.hls_report_text.specs.WellFormed.{IsContent}
use Rattle.hls_machine.specs.Hierarchy.{Hierarchy, start}
use Rattle.hls_machine.specs.Steps.{Step, Refuse, Rouse, after}
use Rattle.hls_machine.specs.Legal.{IsLegal}
use Rattle.hls_test_runs.specs.Joined as run
use Rattle.hls_test_runs.proofs.Joined.{joining_legal}
use Rattle.hls_legal.specs.Accounts.{accounts_of, idle_of}
use Rattle.hls_legal.specs.Schedule.{path_at}
use Rattle.hls_legal.specs.Tells.{Tells}
use Rattle.hls_legal.proofs.Agreements.{accounts_told, idle_told}
use Rattle.hls_legal.proofs.Reached.{IsReached, reached_start, reached_next, listed}
use Rattle.hls_legal.specs.Moment.{Boxes, Moment, node_of, spots_of, spot_name}
use Rattle.hls_legal.specs.Refusals.{IsPlaceUnknown}
use Rattle.hls_legal.specs.Dues.{due_at}
use Rattle.hls_legal.specs.Answers.{number, Applies, IsAnswer}
use Rattle.hls_legal.specs.Kit.{boxes_after}
use Rattle.hls_legal.specs.Along.{AnswersAlong}
use Rattle.hls_legal.proofs.Found.{named_is}
use Rattle.hls_legal.specs.Legal.{IsLegalContent}
use Rattle.hls_test_worked.specs.Said.{full_kit}
use Rattle.hls_test_worked.specs.Joined.{joined, joined_scenario, answered, load_root, load_e, load_r, load_j}
use Rattle.hls_test_worked.specs.Joined.{admit_a, admit_b, move_j}
use Rattle.hls_test_worked.specs.Said.{on_cpu, on, lent, lent_after, seated}
use Rattle.hls_test_worked.proofs.Formed.{lent_formed, after_formed, on_formed, cpu_formed, account_formed}
use Rattle.hls_test_worked.proofs.Formed.{names_apart, paths_apart}
use Rattle.hls_test_worked.proofs.Answering.{done_at, settled_lent, settled_after, through_one, a_box}

-- ---- the hierarchies

abbrev h1 : Hierarchy
h1 = after start run.load_root

abbrev h2 : Hierarchy
h2 = after h1 run.load_reservations

abbrev h3 : Hierarchy
h3 = after h2 run.load_turns

abbrev h4 : Hierarchy
h4 = after h3 run.load_join

abbrev h5 : Hierarchy
h5 = after h4 run.admit_joined

abbrev h6 : Hierarchy
h6 = after h5 run.admit_other

abbrev h7 : Hierarchy
h7 = after h6 (Rouse run.joined None)

abbrev h8 : Hierarchy
h8 = after h7 (Rouse run.other None)

abbrev t1 : Hierarchy
t1 = after h8 (run.tick true run.by_reservation)

abbrev t2 : Hierarchy
t2 = after t1 (run.tick true run.by_reservation)

abbrev t3 : Hierarchy
t3 = after t2 (run.tick false run.by_turn)

r1 : IsReached h1
r1 = reached_next start run.load_root reached_start joining_legal.0

r2 : IsReached h2
r2 = reached_next h1 run.load_reservations r1 joining_legal.1.0

r3 : IsReached h3
r3 = reached_next h2 run.load_turns r2 joining_legal.1.1.0

r4 : IsReached h4
r4 = reached_next h3 run.load_join r3 joining_legal.1.1.1.0

r5 : IsReached h5
r5 = reached_next h4 run.admit_joined r4 joining_legal.1.1.1.1.0

r6 : IsReached h6
r6 = reached_next h5 run.admit_other r5 joining_legal.1.1.1.1.1.0

r7 : IsReached h7
r7 = reached_next h6 (Rouse run.joined None) r6 joining_legal.1.1.1.1.1.1.0

r8 : IsReached h8
r8 = reached_next h7 (Rouse run.other None) r7 joining_legal.1.1.1.1.1.1.1.0

u1 : IsReached t1
u1 = reached_next h8 (run.tick true run.by_reservation) r8 joining_legal.1.1.1.1.1.1.1.1.0

u2 : IsReached t2
u2 = reached_next t1 (run.tick true run.by_reservation) u1 joining_legal.1.1.1.1.1.1.1.1.1.0

u3 : IsReached t3
u3 = reached_next t2 (run.tick false run.by_turn) u2 joining_legal.1.1.1.1.1.1.1.1.1.1.0

pub steps : List Step
steps = run.load_root ∷ run.load_reservations ∷ run.load_turns ∷ run.load_join ∷ run.admit_joined ∷ run.admit_other
    ∷ Rouse run.joined None ∷ Rouse run.other None ∷ run.tick true run.by_reservation
    ∷ run.tick true run.by_reservation ∷ run.tick false run.by_turn ∷ Refuse ∷ run.tick false run.to_other ∷ []

legal : IsLegal start steps
unfolding steps
legal = (
  joining_legal.0,
  (
    joining_legal.1.0,
    (
      joining_legal.1.1.0,
      (
        joining_legal.1.1.1.0,
        (
          joining_legal.1.1.1.1.0,
          (
            joining_legal.1.1.1.1.1.0,
            (
              joining_legal.1.1.1.1.1.1.0,
              (
                joining_legal.1.1.1.1.1.1.1.0,
                (
                  joining_legal.1.1.1.1.1.1.1.1.0,
                  (
                    joining_legal.1.1.1.1.1.1.1.1.1.0,
                    (
                      joining_legal.1.1.1.1.1.1.1.1.1.1.0,
                      (tt, (joining_legal.1.1.1.1.1.1.1.1.1.1.1.0, tt)),
                    ),
                  ),
                ),
              ),
            ),
          ),
        ),
      ),
    ),
  ),
)

-- ---- the answers

abbrev kit1 : Boxes
kit1 = boxes_after full_kit load_root (Done [])

abbrev kit2 : Boxes
kit2 = boxes_after kit1 load_e (Done [])

abbrev kit3 : Boxes
kit3 = boxes_after kit2 load_r (Done [])

abbrev kit4 : Boxes
kit4 = boxes_after kit3 load_j (Done [])

abbrev Answered : Hierarchy → Boxes → Command → List Seated → Type 0
Answered h boxes c seats = IsAnswer (record { hierarchy = h; boxes = boxes; depth = 3 }) c (Done seats)

answer_root : Answered start full_kit load_root (seated (codes "root") 0 (lent All kinds.Cpu All) ∷ [])
answer_root = done_at start full_kit 3 reached_start load_root run.load_root
    (refl, refl, (record { place = tt; terms = refl; kept = refl }, tt)) joining_legal.0 a_box
    (seated (codes "root") 0 (lent All kinds.Cpu All) ∷ []) (
      settled_lent (due_at start (codes "root") 0 (on_cpu All)) (codes "root") 0 All kinds.Cpu All refl refl refl refl
          (through_one configs.Cpu terms.Cpu All All (record { from = tt; to = tt; port_of = refl; lends = inl refl }))
          refl,
      tt,
    )

answer_e : Answered h1 kit1 load_e (seated (codes "e") 0 (lent All kinds.Fp All) ∷ [])
answer_e = done_at h1 kit1 3 r1 load_e run.load_reservations
    (refl, refl, (record { place = refl; terms = refl; kept = refl }, tt)) joining_legal.1.0 a_box
    (seated (codes "e") 0 (lent All kinds.Fp All) ∷ []) (
      settled_lent (due_at h1 (codes "e") 0 (on (codes "root") (terms.Prio 0) All)) (codes "e") 0 All kinds.Fp All refl
          refl refl refl
          (through_one configs.Fp (terms.Prio 0) All All
          (record { from = tt; to = tt; port_of = refl; lends = inl (refl, refl) }))
          refl,
      tt,
    )

answer_r : Answered h2 kit2 load_r (seated (codes "r") 0 (lent All kinds.Fp Null) ∷ [])
answer_r = done_at h2 kit2 3 r2 load_r run.load_turns
    (refl, refl, (record { place = refl; terms = refl; kept = refl }, tt)) joining_legal.1.1.0 a_box
    (seated (codes "r") 0 (lent All kinds.Fp Null) ∷ []) (
      settled_lent (due_at h2 (codes "r") 0 (on (codes "root") (terms.Prio 1) Null)) (codes "r") 0 All kinds.Fp Null
          refl refl refl refl
          (through_one configs.Fp (terms.Prio 1) All Null
          (record { from = tt; to = tt; port_of = refl; lends = inr refl }))
          refl,
      tt,
    )

two_of_ten : IsReservation 2 10
two_of_ten = record { some = omega arith; fits = omega arith; size = omega arith }

answer_j : Answered h3 kit3 load_j (seated (codes "j") 0 (lent All kinds.Edf (Resb true 2 10))
    ∷ seated (codes "j") 1 (lent Null kinds.Rr Null) ∷ [])
answer_j = done_at h3 kit3 3 r3 load_j run.load_join (
  refl,
  refl,
  (record { place = refl; terms = refl; kept = refl }, (record { place = refl; terms = refl; kept = refl }, tt)),
)
    joining_legal.1.1.1.0 a_box
    (seated (codes "j") 0 (lent All kinds.Edf (Resb true 2 10)) ∷ seated (codes "j") 1 (lent Null kinds.Rr Null) ∷ []) (
      settled_lent (due_at h3 (codes "j") 0 (on (codes "e") (terms.Res true 2 10) (Resb true 2 10))) (codes "j") 0 All
          kinds.Edf (Resb true 2 10) refl refl refl refl
          (through_one configs.Edf (terms.Res true 2 10) All (Resb true 2 10)
          (record { from = tt; to = two_of_ten; port_of = refl; lends = inl refl })) refl,
      (
        settled_lent (due_at h3 (codes "j") 1 (on (codes "r") terms.Turn Null)) (codes "j") 1 Null kinds.Rr Null refl
            refl refl refl
            (through_one (configs.Rr 1) terms.Turn Null Null
            (record { from = tt; to = tt; port_of = refl; lends = inr refl })) refl,
        tt,
      ),
    )

answer_a : Answered h4 kit4 admit_a (seated (codes "a") 0
    (lent_after (Resb true 2 10) R2 (Resb false 2 10) kinds.Join (Resb false 2 10)) ∷ [])
answer_a = done_at h4 kit4 3 r4 admit_a run.admit_joined (refl, record { place = refl; terms = refl; kept = refl })
    joining_legal.1.1.1.1.0 tt
    (seated (codes "a") 0 (lent_after (Resb true 2 10) R2 (Resb false 2 10) kinds.Join (Resb false 2 10)) ∷ []) (
      settled_after (due_at h4 (codes "a") 0 (on (codes "j") terms.Sole (Resb false 2 10))) (codes "a") 0
          (Resb true 2 10) R2 (Resb false 2 10) kinds.Join (Resb false 2 10) refl refl refl
          (record { from = two_of_ten; to = two_of_ten; leads = refl }) refl
          (record {
            has = omega arith;
            through = record {
              from = two_of_ten;
              to = two_of_ten;
              port_of = omega arith;
              lends = inl (refl, refl);
            };
          }) refl,
      tt,
    )

answer_b : Answered h5 kit4 admit_b (seated (codes "b") 0 (lent Null kinds.Rr Null) ∷ [])
answer_b = done_at h5 kit4 3 r5 admit_b run.admit_other (refl, record { place = refl; terms = refl; kept = refl })
    joining_legal.1.1.1.1.1.0 tt (seated (codes "b") 0 (lent Null kinds.Rr Null) ∷ []) (
      settled_lent (due_at h5 (codes "b") 0 (on (codes "r") terms.Turn Null)) (codes "b") 0 Null kinds.Rr Null refl refl
          refl refl
          (through_one (configs.Rr 1) terms.Turn Null Null
          (record { from = tt; to = tt; port_of = refl; lends = inr refl }))
          refl,
      tt,
    )

wake_a : Answered h6 kit4 (Wake (codes "a") None None) []
wake_a = done_at h6 kit4 3 r6 (Wake (codes "a") None None) (Rouse run.joined None) (refl, refl)
    joining_legal.1.1.1.1.1.1.0 tt [] tt

wake_b : Answered h7 kit4 (Wake (codes "b") None None) []
wake_b = done_at h7 kit4 3 r7 (Wake (codes "b") None None) (Rouse run.other None) (refl, refl)
    joining_legal.1.1.1.1.1.1.1.0 tt [] tt

-- the refused move
abbrev before_move : Moment
before_move = record { hierarchy = t3; boxes = kit4; depth = 3 }

j_there : node_of t3 (codes "j") ≡ t3.nodes run.join
j_there = named_is t3 (listed t3 u3) run.join (codes "j") refl

r_there : node_of t3 (codes "r") ≡ t3.nodes run.turns
r_there = named_is t3 (listed t3 u3) run.turns (codes "r") refl

no_lesser : (r : Refusal) → Applies before_move move_j r → 12 ≤ number r
no_lesser (NameTaken name) (inl f) = absurd (let e = f.new in cc)
no_lesser (NameTaken name) (inr f) = absurd f.first.tells.refuses
no_lesser (NoSuchName name) (inl f) =
    absurd (let same : codes "j" ≡ name = (let e = f.old in cc) in
    let e = sym j_there ∙ ap (node_of t3) same ∙ f.unknown in cc)
no_lesser (NoSuchName name) (inr f) = absurd (known f.first.at f.first.item f.first.item_is f.first.tells.refuses)
  where
    known : (at : ℕ) (spot : Spot) → slice_get (spots_of move_j) at ≡ Some spot → ¬ IsPlaceUnknown t3 spot name
    known zero spot e unknown =
        (let here : Under (codes "r") terms.Turn ≡ spot = cc in
        let same : codes "r" ≡ name = (let e = ap spot_name here ∙ unknown.place in cc) in
        let e = sym r_there ∙ ap (node_of t3) same ∙ unknown.unknown in cc)
    known (suc at) spot e unknown = cc
no_lesser _ f = omega arith

move_refused : IsAnswer before_move move_j (Refused (WrongSort (Some (codes "j"))))
move_refused = record {
  applies = inl (record {
    old = refl;
    wrong = record { place = record { scheduler = _; there = j_there }; kind = refl };
  });
  least = no_lesser;
}

along : AnswersAlong 3 start full_kit steps answered
unfolding steps
along = (
  answer_root,
  (
    answer_e,
    (answer_r, (answer_j, (answer_a, (answer_b, (wake_a, (wake_b, (move_refused, tt))))))),
  ),
)

-- ---- what is told

tells : Tells joined steps
unfolding steps path_at
tells = (
  refl,
  (refl, refl, (record { place = tt; terms = refl; kept = refl }, tt)),
  (
    refl,
    (refl, refl, (record { place = refl; terms = refl; kept = refl }, tt)),
    (
      refl,
      (refl, refl, (record { place = refl; terms = refl; kept = refl }, tt)),
      (
        refl,
        (
          refl,
          refl,
          (
            record { place = refl; terms = refl; kept = refl },
            (record { place = refl; terms = refl; kept = refl }, tt),
          ),
        ),
        (
          refl,
          (refl, record { place = refl; terms = refl; kept = refl }),
          (
            refl,
            (refl, record { place = refl; terms = refl; kept = refl }),
            (
              refl,
              (refl, refl),
              (
                refl,
                (refl, refl),
                (
                  (omega arith, tt),
                  refl,
                  ((omega arith, tt), refl, ((omega arith, tt), refl, (refl, refl, (tt, refl, refl)))),
                ),
              ),
            ),
          ),
        ),
      ),
    ),
  ),
)

formed : IsContent joined
formed = record {
  version = omega arith;
  horizon = omega arith;
  depth = omega arith;
  few = omega arith;
  answered = (
    (refl, ((tt, tt), cpu_formed All tt)),
    (tt, (lent_formed (codes "root") 0 All kinds.Cpu All refl (omega arith) tt tt, tt)),
    omega arith,
    omega arith,
    (
      (refl, ((tt, tt), on_formed (codes "root") (terms.Prio 0) All refl (omega arith) tt)),
      (tt, (lent_formed (codes "e") 0 All kinds.Fp All refl (omega arith) tt tt, tt)),
      omega arith,
      omega arith,
      (
        (refl, (((omega arith, omega arith), tt), on_formed (codes "root") (terms.Prio 1) Null refl (omega arith) tt)),
        (tt, (lent_formed (codes "r") 0 All kinds.Fp Null refl (omega arith) tt tt, tt)),
        omega arith,
        omega arith,
        (
          (
            refl,
            (
              refl,
              (omega arith, omega arith),
              (
                on_formed (codes "e") (terms.Res true 2 10) (Resb true 2 10) refl
                    (omega arith, omega arith, omega arith) two_of_ten,
                (names_apart (codes "e") (codes "r") (λ e. omega (arith, e)), tt),
                (on_formed (codes "r") terms.Turn Null refl tt tt, tt, tt),
              ),
            ),
          ),
          (
            tt,
            (
              lent_formed (codes "j") 0 All kinds.Edf (Resb true 2 10) refl (omega arith) tt two_of_ten,
              (lent_formed (codes "j") 1 Null kinds.Rr Null refl (omega arith) tt tt, tt),
            ),
          ),
          omega arith,
          omega arith,
          (
            (refl, on_formed (codes "j") terms.Sole (Resb false 2 10) refl tt two_of_ten),
            (
              tt,
              (
                after_formed (codes "a") 0 (Resb true 2 10) R2 (Resb false 2 10) kinds.Join (Resb false 2 10) refl
                    (omega arith) two_of_ten two_of_ten two_of_ten,
                tt,
              ),
            ),
            omega arith,
            omega arith,
            (
              (refl, on_formed (codes "r") terms.Turn Null refl tt tt),
              (tt, (lent_formed (codes "b") 0 Null kinds.Rr Null refl (omega arith) tt tt, tt)),
              omega arith,
              omega arith,
              (
                (refl, tt),
                tt,
                omega arith,
                omega arith,
                (
                  (refl, tt),
                  tt,
                  omega arith,
                  omega arith,
                  (
                    (refl, on_formed (codes "r") terms.Turn Null refl tt tt),
                    refl,
                    omega arith,
                    omega arith,
                    tt,
                  ),
                ),
              ),
            ),
          ),
        ),
      ),
    ),
  );
  cover = (
    refl,
    omega arith,
    ((omega arith, omega arith), (refl, (refl, (refl, (refl, tt))))),
    (λ e. cc),
    (
      refl,
      omega arith,
      ((omega arith, omega arith), (refl, (refl, (refl, (refl, tt))))),
      paths_apart 1 _ _ (λ e. omega (arith, e)),
      (
        refl,
        omega arith,
        ((omega arith, omega arith), (refl, (refl, (refl, tt)))),
        paths_apart 2 _ _ (λ e. omega (arith, e)),
        refl,
      ),
    ),
  );
  names = (omega arith, (omega arith, (omega arith, tt)));
  accounts = (
    account_formed 4 (codes "a") 0 3 (Resb false 2 10) 4 3 refl (omega arith) (omega arith) two_of_ten (omega arith)
        (omega arith),
    (account_formed 4 (codes "b") 0 3 Null 4 1 refl (omega arith) (omega arith) tt (omega arith) (omega arith), tt),
  );
  idle = omega arith;
}

accounts_are : joined.accounts ≡ accounts_of joined
unfolding steps count
accounts_are = sym (accounts_told joined steps legal tells)

idle_is : joined.idle ≡ idle_of joined
unfolding steps count
idle_is = sym (idle_told joined steps legal tells)

pub joined_legal : IsLegalContent joined_scenario 3 full_kit joined
joined_legal = record {
  formed = formed;
  version = refl;
  horizon = refl;
  depth = refl;
  commands = refl;
  steps = steps;
  run = record { legal = legal; tells = tells; answers = along };
  accounts = accounts_are;
  idle = idle_is;
}
