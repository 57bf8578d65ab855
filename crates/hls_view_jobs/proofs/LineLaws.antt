-- The jobs and the lines of threads one after another.
use Rattle.std.proofs.Common.{◌≡◌, ℕ, ◌+◌, ◌<◌, ◌≤◌, List, [], ◌∷◌, ◌++◌, true, false, length, get_or, take, map}
use Rattle.std.proofs.Common.{filter, refl, sym, ap, ◌∙◌, subst, append-nil}
use Rattle.std.specs.Prelude.{flat_map}
use Rattle.std.proofs.lemmas.List.{take_more, take_all, map-append}
use Rattle.std.proofs.lemmas.Grind.{flat_map-append}
use Rattle.hls_text.specs.Lines.{Text}
use Rattle.hls_report_text.specs.declared.report.Answered.{Answered}
use Rattle.hls_report_text.specs.Content.{Content}
use Rattle.hls_audit_stays.proofs.Lists.{filter_append}
use Rattle.hls_view_jobs.specs.declared.job.Release.{Release}
use Rattle.hls_view_jobs.specs.declared.job.Job.{Job}
use Rattle.hls_view_jobs.specs.declared.summary.ThreadJobs.{ThreadJobs}
use Rattle.hls_view_jobs.specs.declared.admissions.Admission.{Admission}
use Rattle.hls_view_jobs.specs.Jobs.{releases, AreJobs}
use Rattle.hls_view_jobs.specs.Threads.{Life, is_named, lasting, AreJobsOf}
use Rattle.hls_view_jobs.specs.Summaries.{IsLine, AreLines}
use Rattle.hls_view_jobs.specs.Inside.Sources.{life_by}
use Rattle.hls_view_jobs.proofs.JobLaws.{jobs_append}

-- ---- jobs of the threads of one name

abbrev pub of_lives : (name : Text) → List Life → List Release
of_lives name lives = flat_map (λ (life : Life). releases life.words) (filter (is_named name) lives)

of_append : (name : Text) (one two : List Life) → of_lives name (one ++ two) ≡ of_lives name one ++ of_lives name two
of_append name one two =
    ap (flat_map (λ (life : Life). releases life.words)) (filter_append (is_named name) one two)
    ∙ flat_map-append (λ (life : Life). releases life.words) (filter (is_named name) one) (filter (is_named name) two)

of_next : (name : Text) (horizon : ℕ) (answered : List Answered) (all : List Admission) (i : ℕ) (one : Admission)
    → i < length all → one ≡ get_or all i one
    → of_lives name (map (life_by horizon answered) (take (i + 1) all))
    ≡ of_lives name (map (life_by horizon answered) (take i all)) ++ of_lives name (life_by horizon answered one ∷ [])
of_next name horizon answered all i one lt is =
    ap (λ (l : List Admission). of_lives name (map (life_by horizon answered) l))
    (take_more all i one lt ∙ ap (λ (x : Admission). take i all ++ x ∷ []) (sym is))
    ∙ ap (of_lives name) (map-append (life_by horizon answered) (take i all) (one ∷ []))
    ∙ of_append name (map (life_by horizon answered) (take i all)) (life_by horizon answered one ∷ [])

of_one : (name : Text) (life : Life) → is_named name life ≡ true → of_lives name (life ∷ []) ≡ releases life.words
of_one name life named = rw named (append-nil (releases life.words))

of_other : (name : Text) (life : Life) → is_named name life ≡ false → of_lives name (life ∷ []) ≡ []
of_other name life other = rw other refl

pub named_next : (c : Content) (name : Text) (all : List Admission) (i : ℕ) (one : Admission) (old more new : List Job)
    → i < length all → one ≡ get_or all i one → is_named name (life_by c.horizon c.answered one) ≡ true
    → AreJobs c name (releases (life_by c.horizon c.answered one).words) more → new ≡ old ++ more
    → AreJobs c name (of_lives name (map (life_by c.horizon c.answered) (take i all))) old
    → AreJobs c name (of_lives name (map (life_by c.horizon c.answered) (take (i + 1) all))) new
named_next c name all i one old more new lt is named found put are =
    subst (λ (l : List Release). AreJobs c name l new)
    (sym (of_next name c.horizon c.answered all i one lt is
    ∙ ap (λ (l : List Release). of_lives name (map (life_by c.horizon c.answered) (take i all)) ++ l)
    (of_one name (life_by c.horizon c.answered one) named)))
    (subst (AreJobs c name (of_lives name (map (life_by c.horizon c.answered) (take i all))
    ++ releases (life_by c.horizon c.answered one).words)) (sym put)
    (jobs_append c name (of_lives name (map (life_by c.horizon c.answered) (take i all)))
    (releases (life_by c.horizon c.answered one).words) old more are found))

pub other_next : (c : Content) (name : Text) (all : List Admission) (i : ℕ) (one : Admission) (old new : List Job)
    → i < length all → one ≡ get_or all i one → is_named name (life_by c.horizon c.answered one) ≡ false → new ≡ old
    → AreJobs c name (of_lives name (map (life_by c.horizon c.answered) (take i all))) old
    → AreJobs c name (of_lives name (map (life_by c.horizon c.answered) (take (i + 1) all))) new
other_next c name all i one old new lt is other put are =
    subst (λ (l : List Release). AreJobs c name l new)
    (sym (of_next name c.horizon c.answered all i one lt is
    ∙ ap (λ (l : List Release). of_lives name (map (life_by c.horizon c.answered) (take i all)) ++ l)
    (of_other name (life_by c.horizon c.answered one) other)
    ∙ append-nil (of_lives name (map (life_by c.horizon c.answered) (take i all)))))
    (subst (AreJobs c name (of_lives name (map (life_by c.horizon c.answered) (take i all)))) (sym put) are)

pub named_all : (c : Content) (name : Text) (all : List Admission) (i : ℕ) (jobs : List Job) → length all ≤ i
    → map (life_by c.horizon c.answered) all ≡ lasting c
    → AreJobs c name (of_lives name (map (life_by c.horizon c.answered) (take i all))) jobs → AreJobsOf c name jobs
named_all c name all i jobs end whole are =
    subst (λ (l : List Life). AreJobs c name (of_lives name l) jobs)
    (ap (map (life_by c.horizon c.answered)) (take_all i all end) ∙ whole) are

-- ---- lines

lines_append : (c : Content) (all more : List Life) (some others : List ThreadJobs) → AreLines c all some
    → AreLines c more others → AreLines c (all ++ more) (some ++ others)
lines_append c [] more [] others are rest = rest
lines_append c [] more (l ∷ some) others are rest = absurd are
lines_append c (x ∷ all) more [] others are rest = absurd are
lines_append c (x ∷ all) more (l ∷ some) others are rest = (are.0, lines_append c all more some others are.1 rest)

pub lines_next : (c : Content) (all : List Admission) (i : ℕ) (one : Admission) (line : ThreadJobs)
    (old new : List ThreadJobs) → i < length all → one ≡ get_or all i one
    → IsLine c (life_by c.horizon c.answered one) line → new ≡ old ++ line ∷ []
    → AreLines c (map (life_by c.horizon c.answered) (take i all)) old
    → AreLines c (map (life_by c.horizon c.answered) (take (i + 1) all)) new
lines_next c all i one line old new lt is made put are =
    subst (λ (l : List Life). AreLines c l new)
    (sym (ap (map (life_by c.horizon c.answered)) (take_more all i one lt
    ∙ ap (λ (x : Admission). take i all ++ x ∷ []) (sym is))
    ∙ map-append (life_by c.horizon c.answered) (take i all) (one ∷ [])))
    (subst (AreLines c (map (life_by c.horizon c.answered) (take i all) ++ life_by c.horizon c.answered one ∷ []))
    (sym put)
    (lines_append c (map (life_by c.horizon c.answered) (take i all)) (life_by c.horizon c.answered one ∷ []) old
    (line ∷ []) are
    (made, tt)))

pub lines_all : (c : Content) (all : List Admission) (i : ℕ) (lines : List ThreadJobs) → length all ≤ i
    → map (life_by c.horizon c.answered) all ≡ lasting c
    → AreLines c (map (life_by c.horizon c.answered) (take i all)) lines → AreLines c (lasting c) lines
lines_all c all i lines end whole are =
    subst (λ (l : List Life). AreLines c l lines)
    (ap (map (life_by c.horizon c.answered)) (take_all i all end) ∙ whole) are
