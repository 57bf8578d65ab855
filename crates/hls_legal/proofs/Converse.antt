-- What no refusal applies to, and what has derivations, can be done.
use Rattle.std.proofs.Common.{ℕ}
use Rattle.hls_scenario.specs.declared.scenario.Command.{Command}
use Rattle.hls_scenario.specs.declared.scenario.Command.TheVariants.{Load, Thread, End, Unload, Move, Wake, Block}
use Rattle.hls_scenario.specs.Grammar.{IsCommand}
use Rattle.hls_report_text.specs.declared.refusal.Refusal.{Refusal}
use Rattle.hls_legal.specs.Moment.{Moment}
use Rattle.hls_legal.specs.Answers.{Applies}
use Rattle.hls_legal.specs.Doable.{MayDo, AreDerivable}
use Rattle.hls_legal.proofs.Done.{IsReached, ends, blocks, wakes, unloads, admits, loads}
use Rattle.hls_legal.proofs.MovesDone.{moves}

pub may_do : (m : Moment) → IsReached m.hierarchy → (version : ℕ) (c : Command) → IsCommand version c
    → ((r : Refusal) → ¬ Applies m c r) → AreDerivable m c → MayDo m.hierarchy c
may_do m is_reached version (Load name config perches) is none are =
    loads m is_reached version name config perches is none are
may_do m is_reached version (Thread name perch) is none are = admits m is_reached version name perch is none are
may_do m is_reached version (End name) is none are = ends m is_reached name none
may_do m is_reached version (Unload name) is none are = unloads m is_reached name none
may_do m is_reached version (Move name perch) is none are = moves m is_reached version name perch is none are
may_do m is_reached version (Wake name every burst) is none are =
    wakes m is_reached name every burst none
may_do m is_reached version (Block name) is none are = blocks m is_reached name none
