use Rattle.std.proofs.Common.{refl, arith, ap, length, ◌≤◌}
use Rattle.std.proofs.lemmas.Option.{slice_get_within}
use Rattle.hls_scenario.specs.declared.scenario.Scenario.{Scenario}
use Rattle.hls_machine.specs.Hierarchy.{start}
use Rattle.hls_machine.specs.Steps.{state}
use Rattle.hls_core.specs.Inside.Sparing.{keeping}
use Rattle.hls_core.proofs.Going.{core_stands, core_may_note, carried, stayed, due_for, due_command_is, due_small}
use Rattle.hls_core.proofs.Sparing.{note_spared, noted_kept, on_fault}
use Rattle.hls_core.proofs.cores.Core.carry_next.Goals as goal

pub carry_along-requires-clause-command : goal.carry_along-requires-clause-command
carry_along-requires-clause-command g c =
    let due = due_for c.args.self.now.scenario c.requires.s _ _ _ _ c.requires.is.scenario c.ticks-now.ensures
    c.in-Some.ensures in
    due_command_is c.requires.s _ _ _ c.requires.is.within due

pub carry_along-requires-clause-stands : goal.carry_along-requires-clause-stands
carry_along-requires-clause-stands g c =
    let due = due_for c.args.self.now.scenario c.requires.s _ _ _ _ c.requires.is.scenario c.ticks-now.ensures
    c.in-Some.ensures in
    core_stands _ (keeping c.requires.answers c.args.self.now) c.requires.s c.requires.given c.requires.boxes
    c.in-Some.command.now c.requires.is due

pub note-requires : goal.note-requires
note-requires g c =
    let due = due_for c.args.self.now.scenario c.requires.s _ _ _ _ c.requires.is.scenario c.ticks-now.ensures
    c.in-Some.ensures in
    note_spared c.args.self.now.journal c.requires.answers c.in-Some.command.now c.requires.fewer c.requires.room
    (core_may_note _ (keeping c.requires.answers c.args.self.now) c.requires.s c.requires.given c.requires.boxes
    c.in-Some.command.now c.requires.is due)

pub advance-requires : goal.advance-requires
advance-requires g c =
    let due = due_for c.args.self.now.scenario c.requires.s _ _ _ _ c.requires.is.scenario c.ticks-now.ensures
    c.in-Some.ensures in
    due_small c.requires.s _ _ _ c.requires.is.within due

pub returns-in_err-answer-clause-is : goal.returns-in_err-answer-clause-is
returns-in_err-answer-clause-is g c =
    on_fault c.from_residual.result (λ answers s given boxes is.
    stayed _ (keeping answers c.args.self.now) c.carry_along.new.tree c.carry_along.new.kit c.carry_along.new.bursts
    c.carry_along.new.stays s given boxes is
    (c.in_err-answer.ensures.unchanged (state start is.steps) is.at_state) c.in_err-answer.ensures.same_kit
    c.carry_along.ensures.good c.carry_along.ensures.horizon
    (c.in_err-answer.ensures.kept_stays (state start is.steps) is.stays))

pub returns-clause-carried : goal.returns-clause-carried
returns-clause-carried g c = λ on. record {
  answer = c.in_ok-answer.answer;
  noted = c.note.ensures.answers;
  room = c.note.ensures.answers_room;
  due = (let due = due_for c.args.self.now.scenario c.requires.s _ _ _ _ c.requires.is.scenario c.ticks-now.ensures
      c.in-Some.ensures in
      let lt = slice_get_within c.requires.s.items _ due.item due.there in
      let own = ap (λ (x : Scenario). length x.items) c.requires.is.scenario in omega (arith, lt, own));
  agenda = c.advance.ensures;
  is = λ answers more s given boxes items room is.
      (let due = due_for c.args.self.now.scenario s _ _ _ _ is.scenario c.ticks-now.ensures c.in-Some.ensures in
      let count = ap length c.items.ensures in
      let own = ap (λ (x : Scenario). length x.items) is.scenario in
      let all : length s.items ≤ length c.items.result.now = omega (arith, count, own) in
      carried _ (keeping answers c.args.self.now) _ s given boxes _ c.in-Some.command.now c.in_ok-answer.answer is due
      all (c.in_ok-answer.ensures.carried _ is.at_state) c.in_ok-answer.ensures.boxes c.in_ok-answer.ensures.formed
      c.carry_along.ensures.good
      (noted_kept c.args.self.now.journal _ answers more c.in-Some.command.now c.in_ok-answer.answer items room
      c.note.ensures)
      c.advance.ensures refl refl c.carry_along.ensures.horizon c.in_ok-answer.ensures.stays);
}
