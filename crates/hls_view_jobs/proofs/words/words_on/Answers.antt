use Rattle.std.proofs.Common.{◌≡◌, ◌+◌, List, ◌∷◌, [], ◌++◌, true, false, ◌∙◌, sym, ap, drop}
use Rattle.hls_report_text.specs.declared.report.Answered.{Answered}
use Rattle.hls_legal.specs.Commands.{has_done, rouses}
use Rattle.hls_view_jobs.specs.declared.job.Sort.{Sort}
use Rattle.hls_view_jobs.specs.declared.job.Word.{Word}
use Rattle.hls_view_jobs.specs.Words.{is_end, sort_of, word_of, first, repeat_of, last_by, later, words_on}
use Rattle.hls_view_jobs.proofs.WordLaws.{tail_at, words_end, words_more, words_less, words_none}
use Rattle.hls_view_jobs.proofs.words.words_on.Goals.{then-has_roused+in_ok-push+else-is_end+in_ok-put_later}
use Rattle.hls_view_jobs.proofs.words.words_on.Goals.{else-has_roused}
use Rattle.hls_view_jobs.proofs.words.words_on.Goals as goal

pub returns-then-is_end : goal.returns-then-is_end
returns-then-is_end c =
    let a = c.index-answered-at.result in
    let old = c.loop-at.words.items in
    let roused : has_done (rouses c.args.name.now) a ≡ true = sym c.has_roused.ensures ∙ c.if-has_roused.true in
    let sort : c.sort_of-sort.result ≡ sort_of a.command = c.sort_of-sort.ensures in
    let end : is_end (sort_of a.command) ≡ true = sym (ap is_end sort) ∙ sym c.is_end.ensures ∙ c.if-is_end.true in
    c.in_ok-push.ensures.items
    ∙ ap (λ (s : Sort). old ++ (record { tick = a.tick; sort = s } ∷ [])) sort
    ∙ sym (c.loop-at.invariant ∙ words_end c.args.horizon c.args.name.now c.args.answered.now c.loop-at.at a old
    c.loop-at-test.true c.index-answered-at.is roused end)

pub loop-at-preserved : goal.loop-at-preserved
loop-at-preserved c =
    let horizon = c.args.horizon in
    let name = c.args.name.now in
    let all = c.args.answered.now in
    let at = c.loop-at.at in
    let a = c.index-answered-at.result in
    let old = c.loop-at.words.items in
    elim c.if-has_roused.branch [
      | then-has_roused+in_ok-push+else-is_end+in_ok-put_later w ↦
          let roused : has_done (rouses name) a ≡ true = sym c.has_roused.ensures ∙ w.if-has_roused.true in
          let sort : w.sort_of-sort.result ≡ sort_of a.command = w.sort_of-sort.ensures in
          let more : is_end (sort_of a.command) ≡ false =
          sym (ap is_end sort) ∙ sym w.is_end.ensures ∙ w.if-is_end.false in
          let said : List Word =
          later a.tick (last_by horizon (first (words_on horizon name (drop (at + 1) all)))) (repeat_of a.command) in
          let one : w.push.new.self.items ≡ old ++ word_of a ∷ [] =
          w.in_ok-push.ensures.items ∙ ap (λ (s : Sort). old ++ (record { tick = a.tick; sort = s } ∷ [])) sort in
          let put : c.if-has_roused.words.items ≡ (old ++ word_of a ∷ []) ++ said =
          ap (λ v. v.items) w.words-is ∙ w.in_ok-put_later.ensures
          ∙ ap (λ (l : List Answered). w.push.new.self.items
          ++ later a.tick (last_by horizon (first (words_on horizon name l))) (repeat_of a.command))
          (tail_at all (at + 1))
          ∙ ap (λ (l : List Word). l ++ said) one in
          c.loop-at.invariant
          ∙ words_more horizon name all at a old c.loop-at-test.true c.index-answered-at.is roused more
          ∙ sym (ap (λ (l : List Word). l ++ words_on horizon name (drop (at + 1) all)) put)
      | else-has_roused w ↦
          let quiet : has_done (rouses name) a ≡ false = sym c.has_roused.ensures ∙ w.if-has_roused.false in
          let put : c.if-has_roused.words.items ≡ old = ap (λ v. v.items) w.words-is in
          c.loop-at.invariant
          ∙ words_less horizon name all at a old c.loop-at-test.true c.index-answered-at.is quiet
          ∙ sym (ap (λ (l : List Word). l ++ words_on horizon name (drop (at + 1) all)) put)
    ]

pub returns : goal.returns
returns c =
    sym (c.loop-at.invariant ∙ words_none c.args.horizon c.args.name.now c.args.answered.now c.loop-at.at
    c.loop-at.words.items c.loop-at-test.false)
