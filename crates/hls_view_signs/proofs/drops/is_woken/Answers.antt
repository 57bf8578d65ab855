use Rattle.std.proofs.Common.{◌≡◌, true, false, sym, ◌∙◌, get_or}
use Rattle.std.specs.Prelude.{None}
use Rattle.std.proofs.lemmas.Option.{slice_get-get_or}
use Rattle.hls_view_jobs.specs.declared.job.Word.{Word}
use Rattle.hls_view_jobs.specs.declared.job.Sort.TheVariants.{Wakes}
use Rattle.hls_view_signs.specs.Happenings.{is_woken}
use Rattle.hls_view_signs.proofs.DropLaws.{woken_passed, woken_late, woken_here, woken_past, woken_end}
use Rattle.hls_view_signs.proofs.drops.is_woken.Goals as goal

pub loop-at-init : goal.loop-at-init
loop-at-init c =
    woken_passed c.args.tick c.args.words.now c.words_before-at.result c.words_before-at.ensures.early

pub returns-then-tick-word : goal.returns-then-tick-word
returns-then-tick-word c =
    let ws = c.args.words.now in
    let at = c.loop-at.at in
    let none : Word = record { tick = 0; sort = Wakes None } in
    sym (c.loop-at.invariant
    ∙ woken_late c.args.tick ws at (get_or ws at none) c.requires (slice_get-get_or ws at none c.loop-at-test.true)
    c.if-tick-word.true)

pub returns-then-wakes : goal.returns-then-wakes
returns-then-wakes c =
    let ws = c.args.words.now in
    let at = c.loop-at.at in
    let none : Word = record { tick = 0; sort = Wakes None } in
    let on : is_woken c.args.tick (get_or ws at none) ≡ true = sym c.wakes.ensures ∙ c.if-wakes.true in
    sym (c.loop-at.invariant
    ∙ woken_here c.args.tick ws at (get_or ws at none) (slice_get-get_or ws at none c.loop-at-test.true) on)

pub loop-at-preserved : goal.loop-at-preserved
loop-at-preserved c =
    let ws = c.args.words.now in
    let at = c.loop-at.at in
    let none : Word = record { tick = 0; sort = Wakes None } in
    let off : is_woken c.args.tick (get_or ws at none) ≡ false = sym c.wakes.ensures ∙ c.if-wakes.false in
    c.loop-at.invariant
    ∙ woken_past c.args.tick ws at (get_or ws at none) (slice_get-get_or ws at none c.loop-at-test.true) off

pub returns : goal.returns
returns c = sym (c.loop-at.invariant ∙ woken_end c.args.tick c.args.words.now c.loop-at.at c.loop-at-test.false)
