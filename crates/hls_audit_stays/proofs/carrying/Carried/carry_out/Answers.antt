use Rattle.std.proofs.Common.{refl, take}
use Rattle.hls_scenario.specs.declared.scenario.Command.TheVariants.{Load, Unload, Wake, Block}
use Rattle.hls_audit_stays.proofs.SeatLaws.{seats_pass}
use Rattle.hls_audit_stays.proofs.CarryLaws.{carried_quiet, quiet_load, other_seats, ok_then}
use Rattle.hls_audit_stays.proofs.carrying.Carried.carry_out.Goals as goal

pub returns-in-Load : goal.returns-in-Load
returns-in-Load c =
    let all = c.args.answered.now in
    let a = c.args.a.now in
    let command = Load c.in-Load.name c.in-Load.config c.in-Load.perches in
    ok_then c.note.result (λ seats. carried_quiet c.args.self.now _ all c.args.place a c.requires.there
    (quiet_load (take c.args.place all) a command c.requires.done c.in-Load.is (λ n. refl) refl (λ n. refl) refl)
    refl c.requires.carried.open_at c.requires.carried.fresh refl seats c.requires.carried) c.note.ensures

pub returns-in-Unload : goal.returns-in-Unload
returns-in-Unload c =
    let all = c.args.answered.now in
    let a = c.args.a.now in
    let done = c.requires.done in
    let command = Unload c.in-Unload.name in
    carried_quiet c.args.self.now c.args.self.now all c.args.place a c.requires.there
    (quiet_load (take c.args.place all) a command done c.in-Unload.is (λ n. refl) refl (λ n. refl) refl) refl
    c.requires.carried.open_at
    c.requires.carried.fresh refl
    (seats_pass c.args.self.now.seats all c.args.place a c.requires.there
    (other_seats a command done c.in-Unload.is (λ n. refl)) c.requires.carried.seats)
    c.requires.carried

pub returns-in-Wake : goal.returns-in-Wake
returns-in-Wake c =
    let all = c.args.answered.now in
    let a = c.args.a.now in
    let done = c.requires.done in
    let command = Wake c.in-Wake.name c.in-Wake.every c.in-Wake.burst in
    carried_quiet c.args.self.now c.args.self.now all c.args.place a c.requires.there
    (quiet_load (take c.args.place all) a command done c.in-Wake.is (λ n. refl) refl (λ n. refl) refl) refl
    c.requires.carried.open_at
    c.requires.carried.fresh refl
    (seats_pass c.args.self.now.seats all c.args.place a c.requires.there
    (other_seats a command done c.in-Wake.is (λ n. refl)) c.requires.carried.seats)
    c.requires.carried

pub returns-in-Block : goal.returns-in-Block
returns-in-Block c =
    let all = c.args.answered.now in
    let a = c.args.a.now in
    let done = c.requires.done in
    let command = Block c.in-Block.name in
    carried_quiet c.args.self.now c.args.self.now all c.args.place a c.requires.there
    (quiet_load (take c.args.place all) a command done c.in-Block.is (λ n. refl) refl (λ n. refl) refl) refl
    c.requires.carried.open_at
    c.requires.carried.fresh refl
    (seats_pass c.args.self.now.seats all c.args.place a c.requires.there
    (other_seats a command done c.in-Block.is (λ n. refl)) c.requires.carried.seats)
    c.requires.carried
