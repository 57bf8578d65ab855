use Rattle.std.proofs.Common.{◌≡◌, ◌<◌, true, false, sym, ap, subst, ◌∙◌, drop, get_or}
use Rattle.std.specs.Prelude.{Option, Some, None, IfSome, slice_get}
use Rattle.std.specs.List.{list_any}
use Rattle.std.proofs.lemmas.Option.{slice_get-get_or}
use Rattle.hls_view_jobs.specs.declared.job.Word.{Word}
use Rattle.hls_view_jobs.specs.declared.job.Sort.TheVariants.{Wakes}
use Rattle.hls_view_signs.specs.Happenings.{is_dropped}
use Rattle.hls_view_signs.specs.Inside.Words.{released, any_released}
use Rattle.hls_view_signs.proofs.DropLaws.{cut_at, left_at, early_at, last_early, passed_over, none_behind}
use Rattle.hls_view_signs.proofs.drops.is_dropped.Goals as goal

pub loop-at-init : goal.loop-at-init
loop-at-init c =
    let ws = c.args.words.now in
    let first = c.words_before-first.result in
    let parted = c.words_before-first.ensures in
    let last = c.last_of-last.ensures in
    record {
      last = λ t early.
          subst (λ (o : Option Word). IfSome o (λ (w : Word). w.tick < t)) (sym last) (last_early t ws first early);
      left = λ content name served early.
          passed_over content c.args.tick name ws first parted.early parted.within
          ∙ ap (λ (o : Option Word). any_released (is_dropped content c.args.tick name) o (drop first ws)) (sym last);
    }

pub returns-then-tick-word : goal.returns-then-tick-word
returns-then-tick-word c = λ content name served early.
    let ws = c.args.words.now in
    let at = c.loop-at.at in
    let none : Word = record { tick = 0; sort = Wakes None } in
    sym (c.loop-at.invariant.left content name served early
    ∙ none_behind content c.args.tick name c.loop-at.last ws at (get_or ws at none) c.requires.rising
    (slice_get-get_or ws at none c.loop-at-test.true) c.if-tick-word.true)

pub returns-then-is_cut_by : goal.returns-then-is_cut_by
returns-then-is_cut_by c = λ content name served early.
    let ws = c.args.words.now in
    let at = c.loop-at.at in
    let none : Word = record { tick = 0; sort = Wakes None } in
    let w = get_or ws at none in
    let there : slice_get ws at ≡ Some w = slice_get-get_or ws at none c.loop-at-test.true in
    let cut = is_dropped content c.args.tick name in
    let is : list_any cut (released c.loop-at.last (Some w)) ≡ true =
    sym (c.is_cut_by.ensures content name served (c.loop-at.invariant.last content.horizon early)
    (early_at content.horizon ws at w there early)) ∙ c.if-is_cut_by.true in
    sym (c.loop-at.invariant.left content name served early ∙ cut_at cut c.loop-at.last ws at w there is)

pub loop-at-preserved : goal.loop-at-preserved
loop-at-preserved c =
    let ws = c.args.words.now in
    let at = c.loop-at.at in
    let none : Word = record { tick = 0; sort = Wakes None } in
    let w = get_or ws at none in
    let there : slice_get ws at ≡ Some w = slice_get-get_or ws at none c.loop-at-test.true in
    record {
      last = λ t early. early_at t ws at w there early;
      left = λ content name served early.
          let cut = is_dropped content c.args.tick name in
          let whole : list_any cut (released c.loop-at.last (Some w)) ≡ false =
          sym (c.is_cut_by.ensures content name served (c.loop-at.invariant.last content.horizon early)
          (early_at content.horizon ws at w there early)) ∙ c.if-is_cut_by.false in
          c.loop-at.invariant.left content name served early ∙ left_at cut c.loop-at.last ws at w there whole;
    }
