use Rattle.std.proofs.Common.{get_or}
use Rattle.std.specs.Prelude.{None}
use Rattle.std.proofs.lemmas.Option.{slice_get-get_or}
use Rattle.hls_view_jobs.specs.declared.job.Word.{Word}
use Rattle.hls_view_jobs.specs.declared.job.Sort.TheVariants.{Wakes}
use Rattle.hls_view_signs.proofs.NoteLaws.{words_noted_none, words_noted_more, words_noted_all}
use Rattle.hls_view_signs.proofs.notes.put_words.Goals as goal

pub loop-at-init : goal.loop-at-init
loop-at-init c = words_noted_none c.args.scale.now c.args.name.now c.args.words.now c.args.notes.now.items

pub loop-at-preserved : goal.loop-at-preserved
loop-at-preserved c =
    let ws = c.args.words.now in
    let at = c.loop-at.at in
    let none : Word = record { tick = 0; sort = Wakes None } in
    words_noted_more c.args.scale.now c.args.name.now ws at (get_or ws at none) c.args.notes.now.items
    c.loop-at.notes.items c.put_note.new.notes.items (slice_get-get_or ws at none c.loop-at-test.true)
    c.in_ok-put_note.ensures c.loop-at.invariant

pub returns : goal.returns
returns c =
    words_noted_all c.args.scale.now c.args.name.now c.args.words.now c.loop-at.at c.args.notes.now.items
    c.loop-at.notes.items c.loop-at-test.false c.loop-at.invariant
