-- Jobs one after another.
use Rattle.std.proofs.Common.{◌≡◌, ℕ, ◌+◌, ◌<◌, ◌≤◌, List, [], ◌∷◌, ◌++◌, length, get_or, take, sym, ap, ◌∙◌, subst}
use Rattle.std.proofs.lemmas.List.{take_more, take_all}
use Rattle.hls_text.specs.Lines.{Text}
use Rattle.hls_report_text.specs.Content.{Content}
use Rattle.hls_view_jobs.specs.declared.job.Release.{Release}
use Rattle.hls_view_jobs.specs.declared.job.Job.{Job}
use Rattle.hls_view_jobs.specs.Jobs.{IsJob, AreJobs}

pub jobs_append : (c : Content) (name : Text) (all more : List Release) (some others : List Job)
    → AreJobs c name all some → AreJobs c name more others → AreJobs c name (all ++ more) (some ++ others)
jobs_append c name [] more [] others are rest = rest
jobs_append c name [] more (j ∷ some) others are rest = absurd are
jobs_append c name (r ∷ all) more [] others are rest = absurd are
jobs_append c name (r ∷ all) more (j ∷ some) others are rest =
    (are.0, jobs_append c name all more some others are.1 rest)

pub jobs_next : (c : Content) (name : Text) (all : List Release) (i : ℕ) (r : Release) (job : Job) (old new : List Job)
    → i < length all → r ≡ get_or all i r → IsJob c name r job → new ≡ old ++ job ∷ []
    → AreJobs c name (take i all) old → AreJobs c name (take (i + 1) all) new
jobs_next c name all i r job old new lt is made put are =
    subst (λ (l : List Release). AreJobs c name l new)
    (sym (take_more all i r lt ∙ ap (λ (x : Release). take i all ++ x ∷ []) (sym is)))
    (subst (AreJobs c name (take i all ++ r ∷ [])) (sym put)
    (jobs_append c name (take i all) (r ∷ []) old (job ∷ []) are (made, tt)))

pub jobs_all : (c : Content) (name : Text) (all : List Release) (i : ℕ) (jobs : List Job) → length all ≤ i
    → AreJobs c name (take i all) jobs → AreJobs c name all jobs
jobs_all c name all i jobs end are = subst (λ (l : List Release). AreJobs c name l jobs) (take_all i all end) are
