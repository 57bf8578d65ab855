use Rattle.std.proofs.Common.{refl, arith, rules}
use Rattle.std.proofs.lemmas.List.Sorted.{IsNonDecreasingBy-from_sort_by_key}
use Rattle.hls_report_text.specs.Content.{content_of}
use Rattle.hls_view_signs.specs.declared.notes.Note.{Note}
use Rattle.hls_view_signs.proofs.NoteLaws.{notes_next, notes_all}
use Rattle.hls_view_signs.proofs.notes.notes_of.Goals as goal

pub loop-place-preserved : goal.loop-place-preserved
loop-place-preserved c =
    notes_next c.args.report.now.horizon c.args.scale.now c.args.report.now.answered c.loop-place.place
    c.loop-place.notes.items c.put_command.new.notes.items c.in_ok-put_command.ensures.grown
    c.in_ok-put_command.ensures.noted c.loop-place.invariant

pub returns : goal.returns
returns c =
    notes_all (content_of c.args.report.now) c.args.scale.now c.args.report.now.answered c.loop-place.place
    c.loop-place.notes.items c.sort_by_key.new.self.items refl (grind arith) c.loop-place.invariant
    c.in_ok-sort_by_key.ensures.permutation
    (IsNonDecreasingBy-from_sort_by_key (λ (n : Note). n.tick) _ c.in_ok-sort_by_key.ensures.sorted
    (λ a r q k. search rules))
