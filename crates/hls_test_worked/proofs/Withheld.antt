-- The report of a reservation that is withdrawn is legal.
use Rattle.std.proofs.Common.{◌≡◌, ℕ, zero, suc, ◌≤◌, inl, inr, List, [], ◌∷◌, Option, Some, None}
use Rattle.std.proofs.Common.{true, refl, sym, ap, ◌∙◌, subst, arith, slice_get}
use Rattle.std.specs.Prelude.{codes}
use Rattle.hls_text.specs.Lines.{Text}
use Rattle.hls_chron.specs.declared.plain.Config.TheVariants as configs
use Rattle.hls_chron.specs.declared.plain.Kind.TheVariants as kinds
use Rattle.hls_chron.specs.declared.plain.Terms.{Terms}
use Rattle.hls_chron.specs.declared.plain.Terms.TheVariants as terms
use Rattle.hls_chron.specs.Ledger.{row_at}
use Rattle.hls_chron.specs.Parts.{parts}
use Rattle.hls_chron.specs.Seats.{terms_at, asked, served}
use Rattle.hls_chron.specs.Ticks.{count}
use Rattle.hls_kinds.specs.declared.fault.SeatFault.{SeatFault}
use Rattle.hls_kinds.specs.declared.fault.SeatFault.TheVariants as faults
use Rattle.hls_kinds.specs.Faults as seats
use Rattle.hls_kinds.specs.Slots.{sum_below}
use Rattle.hls_kinds.specs.Tenants.{tenant_at}
use Rattle.hls_kinds.specs.Reservations.{last_replenished, is_held}
use Rattle.hls_guarantee.specs.Limits.{IsReservation}
use Rattle.hls_guarantee.specs.declared.Guarantee.TheVariants.{All, Null, Resb}
use Rattle.hls_scenario.specs.declared.scenario.Spot.{Spot}
use Rattle.hls_scenario.specs.declared.scenario.Spot.TheVariants.{Under}
use Rattle.hls_scenario.specs.declared.scenario.Command.{Command}
use Rattle.hls_scenario.specs.declared.scenario.Command.TheVariants.{End, Wake}
use Rattle.hls_report_text.specs.declared.refusal.Refusal.{Refusal}
use Rattle.hls_report_text.specs.declared.refusal.Refusal.TheVariants as refusals
use Rattle.hls_report_text.specs.declared.report.Seated.{Seated}
use Rattle.hls_report_text.specs.declared.report.Answer.TheVariants.{Done, Refused}
use Rattle.hls_report_text.specs.WellFormed.{IsContent}
use Rattle.hls_machine.specs.Hierarchy.{Hierarchy, Node, Loaded, Scheduler, start}
use Rattle.hls_machine.specs.Steps.{Step, Refuse, Rouse, after, state}
use Rattle.hls_machine.specs.Steps as run
use Rattle.hls_machine.specs.Legal.{IsLegal}
use Rattle.hls_test_runs.specs.Reserved as reserved
use Rattle.hls_test_runs.proofs.Withdrawn.{expired_admits}
use Rattle.hls_legal.specs.Accounts.{accounts_of, idle_of}
use Rattle.hls_legal.specs.Schedule.{path_at}
use Rattle.hls_legal.specs.Tells.{Tells}
use Rattle.hls_legal.proofs.Agreements.{accounts_told, idle_told}
use Rattle.hls_legal.proofs.Reached.{IsReached, reached_start, reached_next, listed}
use Rattle.hls_legal.specs.Moment.{Boxes, Moment, node_of, spots_of}
use Rattle.hls_legal.specs.Dues.{due_at}
use Rattle.hls_legal.specs.Refusals.{HasFault}
use Rattle.hls_legal.specs.Answers.{number, RefusesCommand, RefusesPlace, Applies, IsAnswer}
use Rattle.hls_legal.specs.Kit.{boxes_after}
use Rattle.hls_legal.specs.Along.{AnswersAlong}
use Rattle.hls_legal.proofs.Found.{named_is}
use Rattle.hls_legal.specs.Legal.{IsLegalContent}
use Rattle.hls_test_worked.specs.Said.{full_kit, on_cpu, on, lent, seated}
use Rattle.hls_test_worked.specs.Withheld.{withheld, withheld_scenario, answered, load_root, admit_a, admit_b}
use Rattle.hls_test_worked.proofs.Formed.{lent_formed, on_formed, cpu_formed, account_formed}
use Rattle.hls_test_worked.proofs.Answering.{done_at, settled_lent, through_one, a_box}

-- ---- the run

abbrev h1 : Hierarchy
h1 = after start reserved.load_root

abbrev h2 : Hierarchy
h2 = after h1 reserved.admit_reserver

abbrev h3 : Hierarchy
h3 = after h2 (Rouse reserved.reserver None)

abbrev h4 : Hierarchy
h4 = after h3 reserved.served_tick

abbrev h5 : Hierarchy
h5 = after h4 (run.End reserved.reserver)

r1 : IsReached h1
r1 = reached_next start reserved.load_root reached_start expired_admits.0

r2 : IsReached h2
r2 = reached_next h1 reserved.admit_reserver r1 expired_admits.1.0

r3 : IsReached h3
r3 = reached_next h2 (Rouse reserved.reserver None) r2 expired_admits.1.1.0

r4 : IsReached h4
r4 = reached_next h3 reserved.served_tick r3 expired_admits.1.1.1.0

r5 : IsReached h5
r5 = reached_next h4 (run.End reserved.reserver) r4 expired_admits.1.1.1.1.0

pub steps : List Step
steps = reserved.load_root ∷ reserved.admit_reserver ∷ Rouse reserved.reserver None ∷ reserved.served_tick
    ∷ run.End reserved.reserver ∷ Refuse ∷ reserved.nobody_asks ∷ reserved.nobody_asks ∷ reserved.nobody_asks ∷ []

legal : IsLegal start steps
unfolding steps
legal = (
  expired_admits.0,
  (
    expired_admits.1.0,
    (
      expired_admits.1.1.0,
      (
        expired_admits.1.1.1.0,
        (
          expired_admits.1.1.1.1.0,
          (
            tt,
            (
              expired_admits.1.1.1.1.1.0,
              (expired_admits.1.1.1.1.1.1.0, (expired_admits.1.1.1.1.1.1.1.0, tt)),
            ),
          ),
        ),
      ),
    ),
  ),
)

-- ---- the answers

abbrev kit1 : Boxes
kit1 = boxes_after full_kit load_root (Done [])

abbrev Answered : Hierarchy → Boxes → Command → List Seated → Type 0
Answered h boxes c seats = IsAnswer (record { hierarchy = h; boxes = boxes; depth = 3 }) c (Done seats)

answer_root : Answered start full_kit load_root (seated (codes "root") 0 (lent All kinds.Cpu All) ∷ [])
answer_root = done_at start full_kit 3 reached_start load_root reserved.load_root
    (refl, refl, (record { place = tt; terms = refl; kept = refl }, tt)) expired_admits.0 a_box
    (seated (codes "root") 0 (lent All kinds.Cpu All) ∷ []) (
      settled_lent (due_at start (codes "root") 0 (on_cpu All)) (codes "root") 0 All kinds.Cpu All refl refl refl refl
          (through_one configs.Cpu terms.Cpu All All (record { from = tt; to = tt; port_of = refl; lends = inl refl }))
          refl,
      tt,
    )

two_of_four : IsReservation 2 4
two_of_four = record { some = omega arith; fits = omega arith; size = omega arith }

answer_a : Answered h1 kit1 admit_a (seated (codes "a") 0 (lent All kinds.Edf (Resb true 2 4)) ∷ [])
answer_a = done_at h1 kit1 3 r1 admit_a reserved.admit_reserver
    (refl, record { place = refl; terms = refl; kept = refl }) expired_admits.1.0 tt
    (seated (codes "a") 0 (lent All kinds.Edf (Resb true 2 4)) ∷ []) (
      settled_lent (due_at h1 (codes "a") 0 (on (codes "root") (terms.Res true 2 4) (Resb true 2 4))) (codes "a") 0
          All kinds.Edf (Resb true 2 4) refl refl refl refl
          (through_one configs.Edf (terms.Res true 2 4) All (Resb true 2 4)
          (record { from = tt; to = two_of_four; port_of = refl; lends = inl refl })) refl,
      tt,
    )

wake_a : Answered h2 kit1 (Wake (codes "a") None None) []
wake_a = done_at h2 kit1 3 r2 (Wake (codes "a") None None) (Rouse reserved.reserver None) (refl, refl)
    expired_admits.1.1.0 tt [] tt

end_a : Answered h4 kit1 (End (codes "a")) []
end_a = done_at h4 kit1 3 r4 (End (codes "a")) (run.End reserved.reserver) refl expired_admits.1.1.1.1.0 tt [] tt

-- ---- the refusal

abbrev moment : Moment
moment = record { hierarchy = h5; boxes = kit1; depth = 3 }

root_there : node_of h5 (codes "root") ≡ h5.nodes 0
root_there = named_is h5 (listed h5 r5) 0 (codes "root") refl

abbrev scheduler_in : Option Node → Scheduler
scheduler_in (Some (Loaded s)) = s
scheduler_in _ = record {
  name = [];
  config = configs.Cpu;
  book = Rattle.hls_machine.specs.Ledgers.empty_book 0 0 0;
  ports = [];
}

abbrev root : Scheduler
root = scheduler_in (h5.nodes 0)

lacks_room : seats.Applies root.config root.book (terms.Res true 3 4)
    (faults.NoRoom 66786643213290000 100179964819935000)
unfolding parts sum_below is_held tenant_at terms_at last_replenished asked served row_at count
lacks_room = record { left = refl; asks = refl; lacks = omega arith }

-- the fault of the root's name is the root's
fault_there : (name : Text) (fault : SeatFault) → HasFault h5 (Under (codes "root") (terms.Res true 3 4)) name fault
    → seats.Applies root.config root.book (terms.Res true 3 4) fault
fault_there name fault f =
    let both : Under (codes "root") (terms.Res true 3 4) ≡ Under name f.terms = f.place in
    let same : codes "root" ≡ name = cc in
    let own : terms.Res true 3 4 ≡ f.terms = cc in
    let found : Some (Loaded root) ≡ Some (Loaded f.scheduler) = sym root_there ∙ ap (node_of h5) same ∙ f.there in
    let scheduler : root ≡ f.scheduler = cc in
    subst (λ (s : Scheduler). seats.Applies s.config s.book (terms.Res true 3 4) fault) (sym scheduler)
    (subst (λ (t : Terms). seats.Applies f.scheduler.config f.scheduler.book t fault) (sym own) f.applies)

no_fault : (fault : SeatFault) → seats.Applies root.config root.book (terms.Res true 3 4) fault
    → 23 ≤ seats.fault_number fault
unfolding is_held tenant_at terms_at last_replenished asked served row_at count
no_fault faults.Unfit (inl f) = absurd (f refl)
no_fault faults.Unfit (inr f) = absurd f
no_fault (faults.PriorityTaken priority) f = absurd (let e = f.0 in cc)
no_fault (faults.Full n) f = absurd (f.0 1 (omega arith) refl)
no_fault (faults.NoRoom free wanted) f = omega arith

at_root : (at : ℕ) (spot : Spot) → slice_get (spots_of admit_b) at ≡ Some spot
    → Under (codes "root") (terms.Res true 3 4) ≡ spot
at_root zero spot e = cc
at_root (suc at) spot e = absurd (cc)

place_late : (r : Refusal) → RefusesPlace h5 admit_b (Under (codes "root") (terms.Res true 3 4)) r → 23 ≤ number r
place_late (refusals.NoSuchName name) f =
    absurd (let same : codes "root" ≡ name = (let e = f.place in cc) in
    let e = sym root_there ∙ ap (node_of h5) same ∙ f.unknown in cc)
place_late (refusals.WrongSort None) f = absurd f
place_late (refusals.WrongSort (Some name)) f = absurd (let e = sym root_there ∙ f.1.there in cc)
place_late (refusals.TermsUnfit name) f =
    absurd (let le = no_fault faults.Unfit (fault_there name faults.Unfit f) in omega (arith, le))
place_late (refusals.PriorityTaken priority) f =
    absurd (let le = no_fault (faults.PriorityTaken priority) (fault_there f.0 (faults.PriorityTaken priority) f.1) in
    omega (arith, le))
place_late (refusals.SeatsFull None n) f = absurd (let e = f.place in cc)
place_late (refusals.SeatsFull (Some name) n) f =
    absurd (let le = no_fault (faults.Full n) (fault_there name (faults.Full n) f) in omega (arith, le))
place_late (refusals.NoRoom free wanted) f = omega arith
place_late (refusals.NameTaken name) f = absurd f
place_late (refusals.TooManyNodes most) f = absurd f
place_late (refusals.TooManyThreads most) f = absurd f
place_late (refusals.NotEmpty name n) f = absurd f
place_late (refusals.Cycle name) f = absurd f
place_late (refusals.TooDeep level) f = absurd f
place_late (refusals.TooManyShares shares) f = absurd f
place_late (refusals.KitEmpty kind used) f = absurd f
place_late (refusals.NoDerivation name depth) f = absurd f

b_nowhere : node_of h5 (codes "b") ≡ None
b_nowhere = refl

command_late : (r : Refusal) → RefusesCommand moment admit_b r → 24 ≤ number r
command_late (refusals.NameTaken name) f =
    absurd (let same : codes "b" ≡ name = (let e = f.new in cc) in
    let e = ap Rattle.std.specs.Prelude.is_some (sym (ap (node_of h5) same) ∙ b_nowhere) in
    let both = sym f.taken ∙ e in cc)
command_late (refusals.NoSuchName name) f = absurd (let e = f.old in cc)
command_late (refusals.WrongSort None) f = absurd f
command_late (refusals.WrongSort (Some name)) f = absurd (let e = f.old in cc)
command_late (refusals.TooManyNodes most) f = absurd (let e = f.loads in cc)
command_late (refusals.TooManyThreads most) f = absurd (let many = f.many in omega (arith, many))
command_late (refusals.NotEmpty name n) f = absurd (let e = f.unloads in cc)
command_late (refusals.Cycle name) f = absurd (let e = f.moves in cc)
command_late (refusals.TooDeep level) f = absurd f.chain
command_late (refusals.TooManyShares shares) f = absurd f.chain
command_late (refusals.KitEmpty kind used) f = absurd (let e = f.loads in cc)
command_late (refusals.NoDerivation name depth) f = omega arith
command_late (refusals.TermsUnfit name) f = absurd f
command_late (refusals.PriorityTaken priority) f = absurd f
command_late (refusals.SeatsFull name n) f = absurd f
command_late (refusals.NoRoom free wanted) f = absurd f

late : (r : Refusal) → Applies moment admit_b r → 23 ≤ number r
late r (inl f) = (let le = command_late r f in omega (arith, le))
late r (inr f) =
    place_late r
    (subst (λ (s : Spot). RefusesPlace h5 admit_b s r) (sym (at_root f.first.at f.first.item f.first.item_is))
    f.first.tells.refuses)

refused_b : IsAnswer moment admit_b (Refused (refusals.NoRoom 66786643213290000 100179964819935000))
refused_b = record {
  applies = inr (record {
    first = record {
      at = 0;
      item = Under (codes "root") (terms.Res true 3 4);
      item_is = refl;
      tells = record {
        refuses = (
          codes "root",
          record {
            terms = terms.Res true 3 4;
            place = refl;
            scheduler = root;
            there = root_there;
            applies = lacks_room;
          },
        );
        number_is = refl;
      };
      first = λ before other some lt. absurd (omega (arith, lt));
    };
    only = λ other same f. (let le = command_late other f in omega (arith, le, same));
  });
  least = late;
}

along : AnswersAlong 3 start full_kit steps answered
unfolding steps
along = (answer_root, (answer_a, (wake_a, (end_a, (refused_b, tt)))))

-- ---- what is told

tells : Tells withheld steps
unfolding steps path_at
tells = (
  refl,
  (refl, refl, (record { place = tt; terms = refl; kept = refl }, tt)),
  (
    refl,
    (refl, record { place = refl; terms = refl; kept = refl }),
    (
      refl,
      (refl, refl),
      (
        (omega arith, (omega arith, tt)),
        refl,
        (refl, refl, (refl, refl, (tt, tt, (tt, tt, (tt, tt, refl))))),
      ),
    ),
  ),
)

formed : IsContent withheld
formed = record {
  version = omega arith;
  horizon = omega arith;
  depth = omega arith;
  few = omega arith;
  answered = (
    (refl, ((tt, tt), cpu_formed All tt)),
    (tt, (lent_formed (codes "root") 0 All kinds.Cpu All refl (omega arith) tt tt, tt)),
    omega arith,
    omega arith,
    (
      (
        refl,
        on_formed (codes "root") (terms.Res true 2 4) (Resb true 2 4) refl (omega arith, omega arith, omega arith)
            two_of_four,
      ),
      (tt, (lent_formed (codes "a") 0 All kinds.Edf (Resb true 2 4) refl (omega arith) tt two_of_four, tt)),
      omega arith,
      omega arith,
      (
        (refl, tt),
        tt,
        omega arith,
        omega arith,
        (
          refl,
          tt,
          omega arith,
          omega arith,
          (
            (
              refl,
              on_formed (codes "root") (terms.Res true 3 4) Null refl (omega arith, omega arith, omega arith) tt,
            ),
            (omega arith, omega arith),
            omega arith,
            omega arith,
            tt,
          ),
        ),
      ),
    ),
  );
  cover = (
    refl,
    omega arith,
    ((omega arith, omega arith), (refl, (refl, tt))),
    (λ e. cc),
    (refl, omega arith, tt, (λ e. cc), refl),
  );
  names = (omega arith, (omega arith, tt));
  accounts = (
    account_formed 4 (codes "a") 0 0 (Resb true 2 4) 1 1 refl (omega arith) (omega arith) two_of_four (omega arith)
        (omega arith),
    tt,
  );
  idle = omega arith;
}

accounts_are : withheld.accounts ≡ accounts_of withheld
unfolding steps count
accounts_are = sym (accounts_told withheld steps legal tells)

idle_is : withheld.idle ≡ idle_of withheld
unfolding steps count
idle_is = sym (idle_told withheld steps legal tells)

pub withheld_legal : IsLegalContent withheld_scenario 3 full_kit withheld
withheld_legal = record {
  formed = formed;
  version = refl;
  horizon = refl;
  depth = refl;
  commands = refl;
  steps = steps;
  run = record { legal = legal; tells = tells; answers = along };
  accounts = accounts_are;
  idle = idle_is;
}
