-- The jobs of one thread come one after the other.
use Rattle.std.proofs.Common.{◌≡◌, ℕ, zero, suc, ◌+◌, ◌<◌, ◌≤◌, List, [], ◌∷◌, ◌++◌, Bool, refl, ap, ◌∙◌, subst, arith}
use Rattle.std.proofs.Common.{length}
use Rattle.std.specs.Prelude.{Option, Some, None, slice_get}
use Rattle.std.specs.List.{AllByRecursion}
use Rattle.hls_text.specs.Lines.{Text}
use Rattle.hls_report_text.specs.declared.report.Answered.{Answered}
use Rattle.hls_report_text.specs.Content.{Content}
use Rattle.hls_report_text.specs.WellFormed.{AreAnswered, IsContent}
use Rattle.hls_legal.specs.Schedule.{is_served}
use Rattle.hls_view_jobs.specs.declared.job.Sort.{Sort}
use Rattle.hls_view_jobs.specs.declared.job.Sort.TheVariants.{Wakes, Blocks, Ends}
use Rattle.hls_view_jobs.specs.declared.job.Word.{Word}
use Rattle.hls_view_jobs.specs.declared.job.Release.{Release}
use Rattle.hls_view_jobs.specs.declared.job.Fate.{Fate}
use Rattle.hls_view_jobs.specs.declared.job.Fate.TheVariants.{Done, Dropped, Open}
use Rattle.hls_view_jobs.specs.declared.job.Job.{Job}
use Rattle.hls_view_jobs.specs.Words.{words_on, first}
use Rattle.hls_view_jobs.specs.Jobs.{release_of, releases, until, IsFate, AreJobs}
use Rattle.hls_view_jobs.specs.Inside.Sound.{AreWords}
use Rattle.hls_view_jobs.proofs.WordsSound.{words_sound}

-- ---- releases

-- each of them comes no sooner than a tick
abbrev ComeAfter : (tick : ℕ) → List Release → Type 0
ComeAfter tick rs = AllByRecursion (λ (r : Release). tick ≤ r.tick) rs

-- each lasts to before the next ones at most, and the last alone has no word behind it
abbrev AreApart : (horizon : ℕ) → List Release → Type 0
AreApart horizon [] = Unit {0}
AreApart horizon (r ∷ rs) =
    ComeAfter (until horizon r) rs × (r.next ≡ None → length rs ≡ 0) × AreApart horizon rs

onto_later : (tick later : ℕ) (sort : Sort) (next : Option Word) (rs : List Release) → tick ≤ later
    → ComeAfter tick rs → ComeAfter tick (release_of later sort next ++ rs)
onto_later tick later (Wakes (Some ticks)) next rs le come = (le, come)
onto_later tick later (Wakes None) next rs le come = come
onto_later tick later Blocks next rs le come = come
onto_later tick later Ends next rs le come = come

sooner : (tick later : ℕ) (rs : List Release) → tick ≤ later → ComeAfter later rs → ComeAfter tick rs
sooner tick later [] le come = tt
sooner tick later (r ∷ rs) le come = let here = come.0 in (omega (arith, le, here), sooner tick later rs le come.1)

come_after : (horizon last : ℕ) (words : List Word) → AreWords horizon last words → ComeAfter last (releases words)
come_after horizon last [] are = tt
come_after horizon last (word ∷ words) are =
    onto_later last word.tick word.sort (first words) (releases words) are.1
    (sooner last word.tick (releases words) are.1 (come_after horizon word.tick words are.3))

after_next : (horizon tick : ℕ) (words : List Word) → AreWords horizon tick words → (asked : ℕ)
    → ComeAfter (until horizon (record { tick = tick; asked = asked; next = first words })) (releases words)
after_next horizon tick [] are asked = tt
after_next horizon tick (word ∷ words) are asked =
    come_after horizon word.tick (word ∷ words) (are.0, omega arith, are.2, are.3)

none_next : (words : List Word) → first words ≡ None → length (releases words) ≡ 0
none_next [] none = refl
none_next (word ∷ words) none = absurd cc

onto_apart : (horizon tick : ℕ) (sort : Sort) (words : List Word) → AreWords horizon tick words
    → AreApart horizon (releases words) → AreApart horizon (release_of tick sort (first words) ++ releases words)
onto_apart horizon tick (Wakes (Some ticks)) words are apart =
    (after_next horizon tick words are ticks, none_next words, apart)
onto_apart horizon tick (Wakes None) words are apart = apart
onto_apart horizon tick Blocks words are apart = apart
onto_apart horizon tick Ends words are apart = apart

releases_apart : (horizon last : ℕ) (words : List Word) → AreWords horizon last words
    → AreApart horizon (releases words)
releases_apart horizon last [] are = tt
releases_apart horizon last (word ∷ words) are =
    onto_apart horizon word.tick word.sort words are.3 (releases_apart horizon word.tick words are.3)

-- ---- jobs

the_first : (job one : Job) (jobs : List Job) → slice_get (job ∷ jobs) zero ≡ Some one → job ≡ one
the_first job one jobs here = cc

ends_by : (f : ℕ → Bool) (end : ℕ) (next : Option Word) (job : Job) (fate : Fate) → IsFate f end next job fate
    → job.release + job.ticks ≤ end
ends_by f end next job (Done at) is = let last = is.last in let within = is.within in omega (arith, last, within)
ends_by f end next job (Dropped by) is = let ticks = is.1.ticks in omega (arith, ticks)
ends_by f end next job Open is = let ticks = is.1.ticks in omega (arith, ticks)

later_jobs : (c : Content) (name : Text) (tick : ℕ) (rs : List Release) (jobs : List Job) → ComeAfter tick rs
    → AreJobs c name rs jobs → (j : ℕ) (other : Job) → slice_get jobs j ≡ Some other → tick ≤ other.release
later_jobs c name tick [] [] come are j other there = absurd cc
later_jobs c name tick [] (job ∷ jobs) come are j other there = absurd are
later_jobs c name tick (r ∷ rs) [] come are j other there = absurd are
later_jobs c name tick (r ∷ rs) (job ∷ jobs) come are zero other there =
    let same = the_first job other jobs there in
    let release = are.0.release in
    let here = come.0 in
    subst (λ (j : Job). tick ≤ j.release) same (omega (arith, release, here))
later_jobs c name tick (r ∷ rs) (job ∷ jobs) come are (suc j) other there =
    later_jobs c name tick rs jobs come.1 are.1 j other there

apart_at : (c : Content) (name : Text) (rs : List Release) (jobs : List Job) → AreApart c.horizon rs
    → AreJobs c name rs jobs → (i j : ℕ) (one other : Job) → i < j → slice_get jobs i ≡ Some one
    → slice_get jobs j ≡ Some other → one.release + one.ticks ≤ other.release
apart_at c name [] [] apart are i j one other lt here there = absurd cc
apart_at c name [] (job ∷ jobs) apart are i j one other lt here there = absurd are
apart_at c name (r ∷ rs) [] apart are i j one other lt here there = absurd are
apart_at c name (r ∷ rs) (job ∷ jobs) apart are zero zero one other lt here there = absurd (omega (arith, lt))
apart_at c name (r ∷ rs) (job ∷ jobs) apart are zero (suc j) one other lt here there =
    let same = the_first job one jobs here in
    let ends = ends_by (is_served c.stretches name) (until c.horizon r) r.next job job.fate are.0.fate in
    let later = later_jobs c name (until c.horizon r) rs jobs apart.0 are.1 j other there in
    subst (λ (k : Job). k.release + k.ticks ≤ other.release) same (omega (arith, ends, later))
apart_at c name (r ∷ rs) (job ∷ jobs) apart are (suc i) zero one other lt here there = absurd (omega (arith, lt))
apart_at c name (r ∷ rs) (job ∷ jobs) apart are (suc i) (suc j) one other lt here there =
    apart_at c name rs jobs apart.2 are.1 i j one other (omega (arith, lt)) here there

no_next : (f : ℕ → Bool) (end : ℕ) (next : Option Word) (job : Job) (fate : Fate) → IsFate f end next job fate
    → fate ≡ Open → next ≡ None
no_next f end next job (Done at) is left = absurd cc
no_next f end next job (Dropped by) is left = absurd cc
no_next f end next job Open is left = is.0

as_many : (c : Content) (name : Text) (rs : List Release) (jobs : List Job) → AreJobs c name rs jobs
    → length jobs ≡ length rs
as_many c name [] [] are = refl
as_many c name [] (job ∷ jobs) are = absurd are
as_many c name (r ∷ rs) [] are = absurd are
as_many c name (r ∷ rs) (job ∷ jobs) are = ap suc (as_many c name rs jobs are.1)

open_at : (c : Content) (name : Text) (rs : List Release) (jobs : List Job) → AreApart c.horizon rs
    → AreJobs c name rs jobs → (i : ℕ) (one : Job) → slice_get jobs i ≡ Some one → one.fate ≡ Open
    → i + 1 ≡ length jobs
open_at c name [] [] apart are i one here left = absurd cc
open_at c name [] (job ∷ jobs) apart are i one here left = absurd are
open_at c name (r ∷ rs) [] apart are i one here left = absurd are
open_at c name (r ∷ rs) (job ∷ jobs) apart are zero one here left =
    let same : job.fate ≡ Open = ap (λ (k : Job). k.fate) (the_first job one jobs here) ∙ left in
    let none = no_next (is_served c.stretches name) (until c.horizon r) r.next job job.fate are.0.fate same in
    let few = apart.1 none in
    let many = as_many c name rs jobs are.1 in
    omega (arith, few, many)
open_at c name (r ∷ rs) (job ∷ jobs) apart are (suc i) one here left =
    let rest = open_at c name rs jobs apart.2 are.1 i one here left in
    omega (arith, rest)

-- ---- of the commands behind an admission

behind : (version horizon last : ℕ) (before : List Answered) (a : Answered) (after : List Answered)
    → AreAnswered version horizon last (before ++ a ∷ after) → AreAnswered version horizon a.tick after
behind version horizon last [] a after are = are.4
behind version horizon last (b ∷ before) a after are = behind version horizon b.tick before a after are.4

orders : (c : Content) (before : List Answered) (a : Answered) (after : List Answered) (name : Text) → IsContent c
    → c.answered ≡ before ++ a ∷ after → AreApart c.horizon (releases (words_on c.horizon name after))
orders c before a after name formed split =
    releases_apart c.horizon a.tick (words_on c.horizon name after)
    (words_sound c.version c.horizon a.tick name after
    (behind c.version c.horizon 0 before a after (subst (AreAnswered c.version c.horizon 0) split formed.answered)))

pub jobs_apart : (c : Content) (before : List Answered) (a : Answered) (after : List Answered) (name : Text)
    (jobs : List Job) (i j : ℕ) (one other : Job) → IsContent c → c.answered ≡ before ++ a ∷ after
    → AreJobs c name (releases (words_on c.horizon name after)) jobs → i < j → slice_get jobs i ≡ Some one
    → slice_get jobs j ≡ Some other → one.release + one.ticks ≤ other.release
jobs_apart c before a after name jobs i j one other formed split are lt here there =
    apart_at c name (releases (words_on c.horizon name after)) jobs (orders c before a after name formed split) are i j
    one other lt here there

pub open_last : (c : Content) (before : List Answered) (a : Answered) (after : List Answered) (name : Text)
    (jobs : List Job) (i : ℕ) (one : Job) → IsContent c → c.answered ≡ before ++ a ∷ after
    → AreJobs c name (releases (words_on c.horizon name after)) jobs → slice_get jobs i ≡ Some one → one.fate ≡ Open
    → i + 1 ≡ length jobs
open_last c before a after name jobs i one formed split are here left =
    open_at c name (releases (words_on c.horizon name after)) jobs (orders c before a after name formed split) are i one
    here left
