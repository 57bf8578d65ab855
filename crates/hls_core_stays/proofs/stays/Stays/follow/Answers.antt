use Rattle.std.proofs.Common.{◌++◌, ◌∷◌, [], sym, ap, ◌∙◌}
use Rattle.hls_machine.specs.Steps.{after, stay_of}
use Rattle.hls_core_stays.specs.Tallies.{lasting}
use Rattle.hls_core_stays.specs.Inside.Steps.{without}
use Rattle.hls_core_stays.specs.Inside.Renewals.{renewed_one}
use Rattle.hls_core_stays.proofs.Lasting.{lasting_append, lasting_without, lasting_renewed}
use Rattle.hls_core_stays.proofs.Turned.{turn_nothing, turn_begins, turn_ends, turn_renews, ends_may, renews_stands}
use Rattle.hls_core_stays.proofs.Turned.{turn_reseats, reseats_stands, reseats_may, these_are, rouses_may, turn_rouses}
use Rattle.hls_core_stays.proofs.stays.Stays.follow.Goals as goal

pub close-requires : goal.close-requires
close-requires g c =
    ends_may _ c.args.self.now c.args.tree.now c.args.turnover c.in-Ends.id c.in-Ends.is c.requires.may

pub renew_all-requires-clause-may : goal.renew_all-requires-clause-may
renew_all-requires-clause-may g c =
    renews_stands _ c.args.self.now c.args.tree.now c.args.turnover c.deref.result.now
    (these_are c.args.turnover c.in-Renews.ids c.deref.result.now c.in-Renews.is c.deref.ensures.value) c.requires.may

pub returns-in-Nothing : goal.returns-in-Nothing
returns-in-Nothing g c = λ h command step turns.
    turn_nothing _ c.args.self.now c.args.tree.now c.args.turnover h command step c.in-Nothing.is turns

pub returns-in-Begins : goal.returns-in-Begins
returns-in-Begins g c = λ h command step turns.
    let b = turn_begins _ c.args.self.now c.args.tree.now c.args.turnover h command step c.in-Begins.is turns in
    let begun = stay_of (after h step).now b.k ((after h step).nodes b.k) in
    record {
      kept = turns.stays.kept ++ begun;
      are = c.begin.ensures (after h step) turns.stays.kept b.front b.k turns.tree turns.ready b.thread b.threads b.are
          b.none;
      all = lasting_append turns.stays.kept h.stays begun turns.stays.all ∙ ap lasting (sym b.stays);
    }

pub returns-in-Ends : goal.returns-in-Ends
returns-in-Ends g c = λ h command step turns.
    let e = turn_ends _ c.args.self.now c.args.tree.now c.args.turnover h command step c.in-Ends.id c.in-Ends.is
    turns in
    record {
      kept = without (after h step).now c.in-Ends.id turns.stays.kept;
      are = c.close.ensures.closed (after h step) turns.stays.kept (sym (c.now.ensures (after h step) turns.tree)) e.are
          e.has;
      all = lasting_without (after h step).now c.in-Ends.id turns.stays.kept h.stays turns.stays.all
          ∙ ap lasting (sym e.stays);
    }

pub reseat-requires-clause-thread : goal.reseat-requires-clause-thread
reseat-requires-clause-thread g c =
    reseats_stands _ c.args.self.now c.args.tree.now c.args.turnover c.in-Reseats.id c.in-Reseats.is c.requires.may

pub reseat-requires-clause-close : goal.reseat-requires-clause-close
reseat-requires-clause-close g c =
    reseats_may _ c.args.self.now c.args.tree.now c.args.turnover c.in-Reseats.id c.in-Reseats.is c.requires.may

pub returns-in-Reseats : goal.returns-in-Reseats
returns-in-Reseats g c = λ h command step turns.
    let r = turn_reseats _ c.args.self.now c.args.tree.now c.args.turnover h command step c.in-Reseats.id
    c.in-Reseats.is turns in
    record {
      kept = renewed_one (after h step) turns.stays.kept c.in-Reseats.id;
      are = c.reseat.ensures (after h step) turns.stays.kept turns.tree turns.ready r.thread r.are r.has;
      all = lasting_renewed (after h step) turns.stays.kept h.stays (c.in-Reseats.id ∷ []) turns.stays.all
          ∙ ap lasting r.stays;
    }

pub returns-in-Renews : goal.returns-in-Renews
returns-in-Renews g c = λ h command step turns.
    let r = turn_renews _ c.args.self.now c.args.tree.now c.args.turnover h command step c.deref.result.now
    (these_are c.args.turnover c.in-Renews.ids c.deref.result.now c.in-Renews.is c.deref.ensures.value) turns in
    let now = c.renew_all.ensures (after h step) turns.stays.kept turns.tree turns.ready r.may in
    record {
      kept = now.kept;
      are = now.are;
      all = now.all ∙ lasting_renewed (after h step) turns.stays.kept h.stays c.deref.result.now turns.stays.all
          ∙ ap lasting r.stays;
    }

pub note-requires : goal.note-requires
note-requires g c =
    rouses_may _ c.args.self.now c.args.tree.now c.args.turnover c.in-Rouses.id c.in-Rouses.is c.requires.may

pub returns-in-Rouses : goal.returns-in-Rouses
returns-in-Rouses g c =
    turn_rouses _ c.args.self.now c.args.tree.now c.args.turnover c.in-Rouses.id c.note.new.self c.note.ensures
    c.in-Rouses.is
