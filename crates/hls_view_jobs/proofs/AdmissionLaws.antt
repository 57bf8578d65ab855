-- The threads of a report, admission by admission.
use Rattle.std.proofs.Common.{◌≡◌, ℕ, ◌+◌, ◌<◌, ◌≤◌, List, [], ◌++◌, Bool, true, false, refl, sym, ap, ◌∙◌}
use Rattle.std.proofs.Common.{drop, length, get_or, filter, map, append_assoc, append-nil}
use Rattle.std.specs.Prelude.{Option, ◌&&◌, cond}
use Rattle.std.proofs.lemmas.List.{drop_all, map-append}
use Rattle.hls_text.specs.Lines.{Text}
use Rattle.hls_report_text.specs.declared.report.Answered.{Answered}
use Rattle.hls_legal.specs.Commands.{has_done, rouses}
use Rattle.hls_view_jobs.specs.declared.job.Word.{Word}
use Rattle.hls_view_jobs.specs.declared.admissions.Admission.{Admission}
use Rattle.hls_view_jobs.specs.Words.{sort_of, is_end, first, repeat_of, last_by, said_by, words_on, end_in}
use Rattle.hls_view_jobs.specs.Threads.{Life, lives, has_tick}
use Rattle.hls_view_jobs.specs.Inside.Sources.{life_by, listed}
use Rattle.hls_view_jobs.proofs.WordLaws.{here_on, said_on, dropped_at}
use Rattle.hls_view_jobs.proofs.AgainLaws.{later_goes_on}

-- ---- where a thread ends

ends_with : (horizon : ℕ) (roused end : Bool) (a : Answered) (more : List Word) → is_end (sort_of a.command) ≡ end
    → (roused && end) ≡ true → end_in horizon (cond roused (said_by horizon a more) more) ≡ a.tick
ends_with horizon true true a more e both = rw e refl
ends_with horizon true false a more e both = absurd cc
ends_with horizon false end a more e both = absurd cc

goes_on : (horizon : ℕ) (roused end : Bool) (a : Answered) (more : List Word) → is_end (sort_of a.command) ≡ end
    → (roused && end) ≡ false → end_in horizon (cond roused (said_by horizon a more) more) ≡ end_in horizon more
goes_on horizon true true a more e both = absurd cc
goes_on horizon true false a more e both =
    ap (end_in horizon) (said_on horizon a more e) ∙ rw e
    (later_goes_on horizon a.tick (last_by horizon (first more)) (repeat_of a.command) more)
goes_on horizon false end a more e both = refl

pub end_here : (horizon : ℕ) (name : Text) (all : List Answered) (i : ℕ) (a : Answered) → i < length all
    → a ≡ get_or all i a → (has_done (rouses name) a && is_end (sort_of a.command)) ≡ true
    → end_in horizon (words_on horizon name (drop i all)) ≡ a.tick
end_here horizon name all i a lt is both =
    ap (λ (l : List Answered). end_in horizon (words_on horizon name l)) (dropped_at all i a lt is)
    ∙ ap (end_in horizon) (here_on horizon name a (drop (i + 1) all))
    ∙ ends_with horizon (has_done (rouses name) a) (is_end (sort_of a.command)) a
    (words_on horizon name (drop (i + 1) all)) refl both

pub end_behind : (horizon : ℕ) (name : Text) (all : List Answered) (i : ℕ) (a : Answered) → i < length all
    → a ≡ get_or all i a → (has_done (rouses name) a && is_end (sort_of a.command)) ≡ false
    → end_in horizon (words_on horizon name (drop i all)) ≡ end_in horizon (words_on horizon name (drop (i + 1) all))
end_behind horizon name all i a lt is both =
    ap (λ (l : List Answered). end_in horizon (words_on horizon name l)) (dropped_at all i a lt is)
    ∙ ap (end_in horizon) (here_on horizon name a (drop (i + 1) all))
    ∙ goes_on horizon (has_done (rouses name) a) (is_end (sort_of a.command)) a
    (words_on horizon name (drop (i + 1) all)) refl both

none_left : (horizon : ℕ) (name : Text) → end_in horizon (words_on horizon name []) ≡ horizon
unfolding words_on
none_left horizon name = refl

pub end_nowhere : (horizon : ℕ) (name : Text) (all : List Answered) (i : ℕ) → length all ≤ i
    → end_in horizon (words_on horizon name (drop i all)) ≡ horizon
end_nowhere horizon name all i end =
    ap (λ (l : List Answered). end_in horizon (words_on horizon name l)) (drop_all i all end) ∙ none_left horizon name

-- ---- the threads from a place on

pub lives_next : (horizon : ℕ) (all : List Answered) (i : ℕ) (one : Option Admission) (old new : List Admission)
    → filter (has_tick horizon) (lives horizon (drop i all))
    ≡ map (life_by horizon all) (listed one) ++ filter (has_tick horizon) (lives horizon (drop (i + 1) all))
    → new ≡ old ++ listed one → (whole : List Life)
    → whole ≡ map (life_by horizon all) old ++ filter (has_tick horizon) (lives horizon (drop i all))
    → whole ≡ map (life_by horizon all) new ++ filter (has_tick horizon) (lives horizon (drop (i + 1) all))
lives_next horizon all i one old new here put whole was =
    was ∙ ap (λ (l : List Life). map (life_by horizon all) old ++ l) here
    ∙ sym (append_assoc (map (life_by horizon all) old) (map (life_by horizon all) (listed one))
    (filter (has_tick horizon) (lives horizon (drop (i + 1) all))))
    ∙ ap (λ (l : List Life). l ++ filter (has_tick horizon) (lives horizon (drop (i + 1) all)))
    (sym (map-append (life_by horizon all) old (listed one)) ∙ ap (map (life_by horizon all)) (sym put))

pub lives_all : (horizon : ℕ) (all : List Answered) (i : ℕ) (found : List Admission) (whole : List Life)
    → length all ≤ i → whole ≡ map (life_by horizon all) found ++ filter (has_tick horizon) (lives horizon (drop i all))
    → map (life_by horizon all) found ≡ whole
lives_all horizon all i found whole end was =
    sym (was
    ∙ ap (λ (l : List Answered). map (life_by horizon all) found ++ filter (has_tick horizon) (lives horizon l))
    (drop_all i all end) ∙ append-nil (map (life_by horizon all) found))
