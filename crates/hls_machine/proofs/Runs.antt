-- Over whole runs.
use Rattle.std.proofs.Common.{◌≡◌, ℕ, List, [], ◌∷◌, Some, None, refl, arith, add-zero, length}
use Rattle.hls_chron.specs.declared.plain.Config.{Config}
use Rattle.hls_chron.proofs.BookLaws.{dated-unmarked}
use Rattle.hls_kinds.specs.Tenants.{settled_at}
use Rattle.hls_machine.specs.Ledgers.{empty_book}
use Rattle.hls_machine.specs.Hierarchy.{Hierarchy, Seat, Loaded, Admitted, start}
use Rattle.hls_machine.specs.Steps.{Step, Refuse, Load, Admit, End, Unload, Move, Rouse, Block, Elapse, nobody}
use Rattle.hls_machine.specs.Steps.{loaded, admitted, reseated, after, state}
use Rattle.hls_machine.specs.Legal.{Can, IsLegal}
use Rattle.hls_chron.specs.Kinds.{port_count}
use Rattle.hls_machine.specs.Linked.{KeepsPromises}
use Rattle.hls_machine.specs.Supplied.{KeepsStays}
use Rattle.hls_machine.proofs.Marks.{ports-empty}
use Rattle.hls_machine.proofs.Nodes.{IsUpTo}
use Rattle.hls_machine.proofs.Kept.{IsSound}
use Rattle.hls_machine.proofs.Effects.{Owed, effect_sound}
use Rattle.hls_machine.proofs.Commands.{load_owes, drop_owes, move_owes, thread_empty, unload_empty}
use Rattle.hls_machine.proofs.Rouses.{roused_sound}
use Rattle.hls_machine.proofs.Elapses.{elapsed_sound}
use Rattle.hls_machine.proofs.Moments.{linked, supplied}
use Rattle.std.specs.List.{AllByRecursion}
use Rattle.hls_machine.proofs.Stays.{Stands, stays_kept, effect_stays, roused_stays, elapsed_stays}

-- what is kept, with some ranks
pub record Kept (h : Hierarchy) : Type 0 where
  pub rank : ℕ → ℕ
  pub sound : IsSound h rank

settled_empty : (now spare_ticks spare_marks : ℕ) → settled_at (empty_book now spare_ticks spare_marks) ≡ now
unfolding settled_at
settled_empty now spare_ticks spare_marks = refl

pub load_current : (now : ℕ) (name : List ℕ) (config : Config) (spare_ticks spare_marks : ℕ)
    (seats : List Seat) → length seats ≡ port_count config
    → IsUpTo now (loaded now name config spare_ticks spare_marks seats)
load_current now name config spare_ticks spare_marks seats count = record {
  clock = add-zero now;
  dated = dated-unmarked (empty_book now spare_ticks spare_marks) refl;
  settled = omega (arith, settled_empty now spare_ticks spare_marks);
  seats = count;
  ports = ports-empty config now spare_ticks spare_marks;
}

-- what a command owes, by the kind of step
abbrev pub EffectOwed : (h : Hierarchy) → (ℕ → ℕ) → Step → Type 0
EffectOwed h rank Refuse = Unit {0}
EffectOwed h rank (Load k name config spare_ticks spare_marks seats) =
    Owed h rank k (Some (Loaded (loaded h.now name config spare_ticks spare_marks seats))) nobody
EffectOwed h rank (Admit k name seat) = Owed h rank k (Some (Admitted (admitted h.now name seat))) nobody
EffectOwed h rank (End k) = Owed h rank k None nobody
EffectOwed h rank (Unload k) = Owed h rank k None nobody
EffectOwed h rank (Move k seat below) = Owed h rank k (reseated seat (h.nodes k)) below
EffectOwed h rank (Rouse k burst) = Unit {0}
EffectOwed h rank (Block k) = Unit {0}
EffectOwed h rank (Elapse asking masks path) = Unit {0}

pub step_owes : (h : Hierarchy) (rank : ℕ → ℕ) (step : Step) → IsSound h rank → Can h step
    → EffectOwed h rank step
step_owes h rank Refuse sound can = tt
step_owes h rank (Load k name config spare_ticks spare_marks seats) sound can =
    load_owes h rank k (Loaded (loaded h.now name config spare_ticks spare_marks seats)) can.0.new.unused
    can.0.places (load_current h.now name config spare_ticks spare_marks seats can.0.ports)
    (settled_empty h.now spare_ticks spare_marks)
step_owes h rank (Admit k name seat) sound can = load_owes h rank k (Admitted (admitted h.now name seat))
    can.new.unused can.places (omega arith) refl
step_owes h rank (End k) sound can = drop_owes h rank k (thread_empty (h.nodes k) can)
step_owes h rank (Unload k) sound can = drop_owes h rank k (unload_empty (h.nodes k) can)
step_owes h rank (Move k seat below) sound can = move_owes h rank sound k seat below can.0
step_owes h rank (Rouse k burst) sound can = tt
step_owes h rank (Block k) sound can = tt
step_owes h rank (Elapse asking masks path) sound can = tt

pub step_keeps : (h : Hierarchy) (step : Step) → Kept h → Can h step → Kept (after h step)
step_keeps h Refuse k can = k
step_keeps h (Load c name config spare_ticks spare_marks seats) k can =
    record {
      rank = _;
      sound =
          effect_sound h k.rank k.sound c _ nobody
          (step_owes h k.rank (Load c name config spare_ticks spare_marks seats) k.sound can);
    }
step_keeps h (Admit c name seat) k can =
    record {
      rank = _;
      sound =
          effect_sound h k.rank k.sound c _ nobody (step_owes h k.rank (Admit c name seat) k.sound can);
    }
step_keeps h (End c) k can =
    record {
      rank = _;
      sound =
          effect_sound h k.rank k.sound c None nobody (step_owes h k.rank (End c) k.sound can);
    }
step_keeps h (Unload c) k can =
    record {
      rank = _;
      sound = effect_sound h k.rank k.sound c None nobody (step_owes h k.rank (Unload c) k.sound can);
    }
step_keeps h (Move c seat below) k can =
    record {
      rank = _;
      sound =
          effect_sound h k.rank k.sound c _ below (step_owes h k.rank (Move c seat below) k.sound can);
    }
step_keeps h (Rouse c burst) k can = record { rank = k.rank; sound = roused_sound h k.rank k.sound c _ }
step_keeps h (Block c) k can = record { rank = k.rank; sound = roused_sound h k.rank k.sound c _ }
step_keeps h (Elapse asking masks path) k can =
    record { rank = k.rank; sound = elapsed_sound h k.rank k.sound asking masks path can.0 can.1 }

-- the stays
pub step_stays : (h : Hierarchy) (step : Step) → Kept h → KeepsPromises h → Can h step
    → AllByRecursion (Stands h) h.stays
    → AllByRecursion (Stands (after h step)) (after h step).stays
step_stays h Refuse k promises can each = each
step_stays h (Load c name config spare_ticks spare_marks seats) k promises can each =
    effect_stays h k.rank c _ nobody
    (step_owes h k.rank (Load c name config spare_ticks spare_marks seats) k.sound can)
    (supplied h k.rank (linked h k.rank k.sound) promises) each
step_stays h (Admit c name seat) k promises can each =
    effect_stays h k.rank c _ nobody (step_owes h k.rank (Admit c name seat) k.sound can)
    (supplied h k.rank (linked h k.rank k.sound) promises) each
step_stays h (End c) k promises can each =
    effect_stays h k.rank c None nobody (step_owes h k.rank (End c) k.sound can)
    (supplied h k.rank (linked h k.rank k.sound) promises) each
step_stays h (Unload c) k promises can each =
    effect_stays h k.rank c None nobody (step_owes h k.rank (Unload c) k.sound can)
    (supplied h k.rank (linked h k.rank k.sound) promises) each
step_stays h (Move c seat below) k promises can each =
    effect_stays h k.rank c _ below (step_owes h k.rank (Move c seat below) k.sound can)
    (supplied h k.rank (linked h k.rank k.sound) promises) each
step_stays h (Rouse c burst) k promises can each = roused_stays h c _ each
step_stays h (Block c) k promises can each = roused_stays h c _ each
step_stays h (Elapse asking masks path) k promises can each = elapsed_stays h asking masks path each

pub run_keeps : (steps : List Step) (h : Hierarchy) → Kept h → IsLegal h steps → Kept (state h steps)
run_keeps [] h k legal = k
run_keeps (step ∷ steps) h k legal = run_keeps steps (after h step) (step_keeps h step k legal.0) legal.1

-- the books keep their promises after every step
abbrev pub KeepsPromisesAlong : Hierarchy → List Step → Type 0
KeepsPromisesAlong h [] = KeepsPromises h
KeepsPromisesAlong h (step ∷ steps) = KeepsPromises h × KeepsPromisesAlong (after h step) steps

pub run_stays : (steps : List Step) (h : Hierarchy) → Kept h → IsLegal h steps → KeepsPromisesAlong h steps
    → AllByRecursion (Stands h) h.stays → KeepsStays (state h steps)
run_stays [] h k legal promises each = stays_kept h (supplied h k.rank (linked h k.rank k.sound) promises)
    each
run_stays (step ∷ steps) h k legal promises each =
    run_stays steps (after h step) (step_keeps h step k legal.0) legal.1 promises.1
    (step_stays h step k promises.0 legal.0 each)

pub start_kept : Kept start
start_kept = record {
  rank = λ k. 0;
  sound = record {
    current = λ k. tt;
    sits = λ c port seat e. absurd (cc);
    alone = λ c d port q one two e. absurd (cc);
  };
}
