-- The words on a thread, command by command.
use Rattle.std.proofs.Common.{◌≡◌, ℕ, ◌+◌, ◌-◌, ◌<◌, ◌≤◌, List, [], ◌∷◌, ◌++◌, true, false, drop, length}
use Rattle.std.proofs.Common.{get_or, suc, refl, sym, ap, ◌∙◌, drop-cons, add-one, append_assoc, append-nil, take}
use Rattle.std.proofs.Common.{arith}
use Rattle.std.specs.Prelude.{None, if◌then◌else◌}
use Rattle.std.proofs.lemmas.List.{drop_all, take_all, length-drop}
use Rattle.hls_text.specs.Lines.{Text}
use Rattle.hls_chron.specs.Ticks.{one_if}
use Rattle.hls_scenario.specs.declared.scenario.Command.{Command}
use Rattle.hls_scenario.specs.declared.scenario.Command.TheVariants.{Load, Thread, End, Unload, Move, Wake, Block}
use Rattle.hls_report_text.specs.declared.report.Answered.{Answered}
use Rattle.hls_legal.specs.Commands.{has_done, rouses}
use Rattle.hls_view_jobs.specs.declared.job.Sort.{Sort}
use Rattle.hls_view_jobs.specs.declared.job.Sort.TheVariants.{Wakes, Blocks, Ends}
use Rattle.hls_view_jobs.specs.declared.job.Word.{Word}
use Rattle.hls_view_jobs.specs.Words.{sort_of, word_of, is_end, is_wake, first, repeat_of, last_by, later, said_by}
use Rattle.hls_view_jobs.specs.Words.{words_on, wakes_on}

pub here_on : (horizon : ℕ) (name : Text) (a : Answered) (after : List Answered)
    → words_on horizon name (a ∷ after) ≡ (if has_done (rouses name) a
    then said_by horizon a (words_on horizon name after) else words_on horizon name after)
unfolding words_on
here_on horizon name a after = refl

-- ---- what a command says

-- what ends a thread is no periodic wake
end_repeats : (command : Command) → is_end (sort_of command) ≡ true → repeat_of command ≡ None
end_repeats (Load name config perches) end = refl
end_repeats (Thread name perch) end = refl
end_repeats (End name) end = refl
end_repeats (Unload name) end = refl
end_repeats (Move name perch) end = refl
end_repeats (Wake name every burst) end = absurd cc
end_repeats (Block name) end = refl

pub said_end : (horizon : ℕ) (a : Answered) (words : List Word) → is_end (sort_of a.command) ≡ true
    → said_by horizon a words ≡ word_of a ∷ []
said_end horizon a words end = rw (end, end_repeats a.command end) refl

pub said_on : (horizon : ℕ) (a : Answered) (words : List Word) → is_end (sort_of a.command) ≡ false
    → said_by horizon a words
    ≡ word_of a ∷ (later a.tick (last_by horizon (first words)) (repeat_of a.command) ++ words)
said_on horizon a words goes_on = rw goes_on refl

pub dropped_at : {A : Type 0} (all : List A) (i : ℕ) (a : A) → i < length all → a ≡ get_or all i a
    → drop i all ≡ a ∷ drop (i + 1) all
dropped_at all i a lt is = rw add-one (drop-cons all i a lt ∙ ap (λ x. x ∷ drop (suc i) all) (sym is))

-- a slice to the end
pub tail_at : {A : Type 0} (all : List A) (n : ℕ) → take (length all - n) (drop n all) ≡ drop n all
tail_at all n =
    let long = length-drop n all in take_all (length all - n) (drop n all) (omega (arith, long))

-- the words from a command on that says something
pub said_at : (horizon : ℕ) (name : Text) (all : List Answered) (i : ℕ) (a : Answered) → i < length all
    → a ≡ get_or all i a → has_done (rouses name) a ≡ true
    → words_on horizon name (drop i all) ≡ said_by horizon a (words_on horizon name (drop (i + 1) all))
said_at horizon name all i a lt is roused =
    ap (words_on horizon name) (dropped_at all i a lt is) ∙ here_on horizon name a (drop (i + 1) all) ∙ rw roused refl

-- and from one that does not
pub quiet_at : (horizon : ℕ) (name : Text) (all : List Answered) (i : ℕ) (a : Answered) → i < length all
    → a ≡ get_or all i a → has_done (rouses name) a ≡ false
    → words_on horizon name (drop i all) ≡ words_on horizon name (drop (i + 1) all)
quiet_at horizon name all i a lt is quiet =
    ap (words_on horizon name) (dropped_at all i a lt is) ∙ here_on horizon name a (drop (i + 1) all) ∙ rw quiet refl

none_on : (horizon : ℕ) (name : Text) → words_on horizon name [] ≡ []
unfolding words_on
none_on horizon name = refl

pub silent_at : (horizon : ℕ) (name : Text) (all : List Answered) (i : ℕ) → length all ≤ i
    → words_on horizon name (drop i all) ≡ []
silent_at horizon name all i end = ap (words_on horizon name) (drop_all i all end) ∙ none_on horizon name

-- ---- words so far

pub words_end : (horizon : ℕ) (name : Text) (all : List Answered) (i : ℕ) (a : Answered) (sofar : List Word)
    → i < length all → a ≡ get_or all i a → has_done (rouses name) a ≡ true → is_end (sort_of a.command) ≡ true
    → sofar ++ words_on horizon name (drop i all) ≡ sofar ++ word_of a ∷ []
words_end horizon name all i a sofar lt is roused end =
    ap (λ (l : List Word). sofar ++ l)
    (said_at horizon name all i a lt is roused ∙ said_end horizon a (words_on horizon name (drop (i + 1) all)) end)

pub words_more : (horizon : ℕ) (name : Text) (all : List Answered) (i : ℕ) (a : Answered) (sofar : List Word)
    → i < length all → a ≡ get_or all i a → has_done (rouses name) a ≡ true → is_end (sort_of a.command) ≡ false
    → sofar ++ words_on horizon name (drop i all)
    ≡ ((sofar ++ word_of a ∷ [])
    ++ later a.tick (last_by horizon (first (words_on horizon name (drop (i + 1) all)))) (repeat_of a.command))
    ++ words_on horizon name (drop (i + 1) all)
words_more horizon name all i a sofar lt is roused goes_on =
    let rest : List Word = words_on horizon name (drop (i + 1) all) in
    let more : List Word = later a.tick (last_by horizon (first rest)) (repeat_of a.command) in
    ap (λ (l : List Word). sofar ++ l) (said_at horizon name all i a lt is roused ∙ said_on horizon a rest goes_on)
    ∙ sym (append_assoc sofar (word_of a ∷ []) (more ++ rest))
    ∙ sym (append_assoc (sofar ++ word_of a ∷ []) more rest)

pub words_less : (horizon : ℕ) (name : Text) (all : List Answered) (i : ℕ) (a : Answered) (sofar : List Word)
    → i < length all → a ≡ get_or all i a → has_done (rouses name) a ≡ false
    → sofar ++ words_on horizon name (drop i all) ≡ sofar ++ words_on horizon name (drop (i + 1) all)
words_less horizon name all i a sofar lt is quiet =
    ap (λ (l : List Word). sofar ++ l) (quiet_at horizon name all i a lt is quiet)

pub words_none : (horizon : ℕ) (name : Text) (all : List Answered) (i : ℕ) (sofar : List Word) → length all ≤ i
    → sofar ++ words_on horizon name (drop i all) ≡ sofar
words_none horizon name all i sofar end =
    ap (λ (l : List Word). sofar ++ l) (silent_at horizon name all i end) ∙ append-nil sofar

-- ---- wakes

wakes_here : (name : Text) (a : Answered) (after : List Answered)
    → wakes_on name (a ∷ after) ≡ (if has_done (rouses name) a
    then one_if (is_wake (sort_of a.command)) + (if is_end (sort_of a.command) then 0 else wakes_on name after)
    else wakes_on name after)
unfolding wakes_on
wakes_here name a after = refl

pub wakes_end : (name : Text) (all : List Answered) (i : ℕ) (a : Answered) → i < length all → a ≡ get_or all i a
    → has_done (rouses name) a ≡ true → is_end (sort_of a.command) ≡ true → wakes_on name (drop i all) ≡ 0
wakes_end name all i a lt is roused end =
    ap (wakes_on name) (dropped_at all i a lt is) ∙ wakes_here name a (drop (i + 1) all)
    ∙ rw (roused, end) (no_wake (sort_of a.command) end)
  where
    no_wake : (sort : Sort) → is_end sort ≡ true → one_if (is_wake sort) + 0 ≡ 0
    no_wake (Wakes burst) end = absurd cc
    no_wake Blocks end = refl
    no_wake Ends end = refl

pub wakes_more : (name : Text) (all : List Answered) (i : ℕ) (a : Answered) → i < length all → a ≡ get_or all i a
    → has_done (rouses name) a ≡ true → is_end (sort_of a.command) ≡ false
    → wakes_on name (drop i all) ≡ one_if (is_wake (sort_of a.command)) + wakes_on name (drop (i + 1) all)
wakes_more name all i a lt is roused goes_on =
    ap (wakes_on name) (dropped_at all i a lt is) ∙ wakes_here name a (drop (i + 1) all) ∙ rw (roused, goes_on) refl

pub wakes_less : (name : Text) (all : List Answered) (i : ℕ) (a : Answered) → i < length all → a ≡ get_or all i a
    → has_done (rouses name) a ≡ false → wakes_on name (drop i all) ≡ wakes_on name (drop (i + 1) all)
wakes_less name all i a lt is quiet =
    ap (wakes_on name) (dropped_at all i a lt is) ∙ wakes_here name a (drop (i + 1) all) ∙ rw quiet refl

no_more_wakes : (name : Text) → wakes_on name [] ≡ 0
unfolding wakes_on
no_more_wakes name = refl

pub wakes_none : (name : Text) (all : List Answered) (i : ℕ) → length all ≤ i → wakes_on name (drop i all) ≡ 0
wakes_none name all i end = ap (wakes_on name) (drop_all i all end) ∙ no_more_wakes name
