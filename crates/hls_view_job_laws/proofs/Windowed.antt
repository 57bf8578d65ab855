-- Where no thread is starved, jobs keep their bounds.
use Rattle.std.proofs.Common.{◌≡◌, ℕ, zero, suc, inl, inr, ◌+◌, ◌*◌, ◌-◌, ◌<◌, ◌≤◌, List, [], ◌∷◌, Bool, true, false}
use Rattle.std.proofs.Common.{cond}
use Rattle.std.proofs.Common.{slice_get, refl, sym, ap, ◌∙◌, subst, arith}
use Rattle.std.specs.Prelude.{Option, Some, None, All, find, nat_le, ◌&&◌}
use Rattle.std.specs.List.{AllByRecursion}
use Rattle.std.proofs.lemmas.Bool.{cases_Bool, cases_lt, leb-true, and_parts}
use Rattle.std.proofs.lemmas.List.Elements.{All-from_recursion, recursion_from_All}
use Rattle.std.proofs.lemmas.Option.{slice_get_within, get_or_from_slice_get}
use Rattle.std.proofs.lemmas.Slice.Eq.{bytes_eq-Decides}
use Rattle.hls_text.specs.Lines.{Text}
use Rattle.hls_chron.specs.Ticks.{count}
use Rattle.hls_guarantee.specs.declared.Guarantee.{Guarantee}
use Rattle.hls_guarantee.specs.declared.Guarantee.TheVariants as kept
use Rattle.hls_guarantee.specs.Limits.{IsValid}
use Rattle.hls_guarantee.specs.Satisfaction.{Satisfies}
use Rattle.hls_guarantee.proofs.Promises.{satisfies-part}
use Rattle.hls_report_text.specs.Content.{Content}
use Rattle.hls_report_text.specs.WellFormed.{IsContent}
use Rattle.hls_legal.specs.declared.stay.Stay.{Stay}
use Rattle.hls_legal.specs.Schedule.{is_served}
use Rattle.hls_legal.specs.Ready.{is_ready}
use Rattle.hls_legal.specs.Stays.{stays}
use Rattle.hls_legal.specs.Accounts.{end_by, end_of, IsWindow}
use Rattle.hls_legal.proofs.GoodStays.{stays_good}
use Rattle.hls_legal.proofs.KeepingAccounts.{IsReadySince, since_first, since_next, since_anew, since_longest}
use Rattle.hls_audit_clauses.specs.Clauses.{Supplied}
use Rattle.hls_audit_clauses.proofs.Decided.{satisfies_stable}
use Rattle.hls_view_jobs.specs.declared.job.Release.{Release}
use Rattle.hls_view_jobs.specs.declared.job.Job.{Job}
use Rattle.hls_view_jobs.specs.Jobs.{is_of, has_ticks, stay_with, bound_by, IsJob, AreJobs}
use Rattle.hls_view_jobs.specs.Promises.{IsWithinBound}
use Rattle.hls_view_jobs.specs.Threads.{releases_of, AreJobsOf}
use Rattle.hls_view_jobs.specs.Inside.Sound.{IsRelease}
use Rattle.hls_view_jobs.proofs.WordsSound.{releases_sound}
use Rattle.hls_view_jobs.proofs.Promised.{job_within}
use Rattle.hls_view_job_laws.specs.Jobs.{IsReadyThroughout, KeepsBound}
use Rattle.hls_view_job_laws.specs.Clauses.{NeverFails}
use Rattle.hls_view_job_laws.proofs.Admitted.{life_words, releases_all}
use Rattle.hls_view_job_laws.proofs.Readying.{all_ready}

-- ---- the windows of a stay

-- since when a thread is ready up to a tick
record ReadyFrom (c : Content) (name : Text) (since t : ℕ) : Type 0 where
  pub from : ℕ
  pub is : IsReadySince c name since from t

ready_from : (c : Content) (name : Text) (since n : ℕ) → ReadyFrom c name since (since + n)
ready_from c name since zero =
    let e : since ≡ since + 0 = omega arith in
    subst (ReadyFrom c name since) e (record { from = since; is = since_first c name since })
ready_from c name since (suc n) =
    let e : since + n + 1 ≡ since + suc n = omega arith in
    let r = ready_from c name since n in
    subst (ReadyFrom c name since) e (elim (cases_Bool (is_ready c name (since + n))) [
      | inl on ↦ record { from = r.from; is = since_next c name since r.from (since + n) r.is on }
      | inr off ↦ record { from = since + n + 1; is = since_anew c name since r.from (since + n) r.is off }
    ])

-- what cannot fail holds
stable : (g : Guarantee) (f : ℕ → Bool) (lo hi : ℕ) → IsValid g → ¬ ¬ Satisfies g f lo hi → Satisfies g f lo hi
stable kept.All f lo hi valid nn = satisfies_stable kept.All f lo hi tt nn
stable kept.Null f lo hi valid nn = tt
stable (kept.Resb hard x y) f lo hi valid nn = satisfies_stable (kept.Resb hard x y) f lo hi valid nn
stable (kept.Resc hard x y) f lo hi valid nn = satisfies_stable (kept.Resc hard x y) f lo hi valid nn
stable (kept.Psbe s d) f lo hi valid nn = λ i n a b.
    elim (cases_lt ((count f i n * d.den + d.num) * s.den) (s.num * n * d.den)) [
      | inl short ↦ absurd (nn (λ share. let le = share i n a b in omega (arith, le, short)))
      | inr le ↦ le
    ]

window_has : (c : Content) (stay : Stay) (number from until : ℕ) → NeverFails Supplied c
    → slice_get (stays c.answered) number ≡ Some stay → IsValid stay.kept → from < until
    → IsWindow c stay from until → Satisfies stay.kept (is_served c.stretches stay.name) from until
window_has c stay number from until met listed valid lt w =
    let f = is_served c.stretches stay.name in
    let begins = w.begins in
    let ends = w.ends in
    let e : until - 1 + 1 ≡ until = omega (arith, lt) in
    let long : stay.since + (until - stay.since) ≡ until = omega (arith, lt, begins) in
    let r : ReadyFrom c stay.name stay.since until =
    subst (ReadyFrom c stay.name stay.since) long (ready_from c stay.name stay.since (until - stay.since)) in
    let l = since_longest c stay r.from until ends r.is in
    let full : Satisfies stay.kept f r.from until = stable stay.kept f r.from until valid
    (λ short. met (until - 1) (record {
      stay = stay;
      now = record {
        number = number;
        listed = listed;
        since = omega (arith, begins, lt);
        until = omega (arith, ends, lt);
      };
      ready = w.ready (until - 1) (omega (arith, lt)) (omega (arith, lt));
      from = r.from;
      window = rw e l;
      short = λ s. short (rw e at s);
    })) in
    satisfies-part stay.kept f r.from until from until (l.longest from w) (omega arith) full

-- ---- the stay of a job

record IsFound {X : Type 0} (test : X → Bool) (xs : List X) (x : X) : Type 0 where
  pub place : ℕ
  pub there : slice_get xs place ≡ Some x
  pub passes : test x ≡ true

found : {X : Type 0} (test : X → Bool) (xs : List X) (x : X) → find test xs ≡ Some x → IsFound test xs x
found test [] x e = absurd cc
found test (y ∷ xs) x e = by (test y) refl (found test xs x) e
  where
    by : (b : Bool) → test y ≡ b → (find test xs ≡ Some x → IsFound test xs x)
        → cond b (Some y) (find test xs) ≡ Some x → IsFound test (y ∷ xs) x
    by true on rest e =
        let same : y ≡ x = cc in
        record { place = 0; there = ap Some same; passes = ap test (sym same) ∙ on }
    by false off rest e =
        let more = rest e in
        record { place = suc more.place; there = more.there; passes = more.passes }

-- a stay of the thread of a name has so many ticks from one on
record IsOver (c : Content) (name : Text) (from ticks : ℕ) (stay : Stay) : Type 0 where
  pub some : 1 ≤ ticks
  pub number : ℕ
  pub listed : slice_get (stays c.answered) number ≡ Some stay
  pub named : stay.name ≡ name
  pub since : stay.since ≤ from
  pub until : from + ticks ≤ end_of c stay

stay_over : (c : Content) (name : Text) (from ticks : ℕ) (stay : Stay) → stay_with c name from ticks ≡ Some stay
    → IsOver c name from ticks stay
stay_over c name from zero stay e = absurd cc
stay_over c name from (suc n) stay e =
    let f = found (λ (s : Stay). is_of name s && has_ticks c.horizon from (suc n) s) (stays c.answered) stay e in
    let both = and_parts (is_of name stay) (has_ticks c.horizon from (suc n) stay) f.passes in
    let ends = and_parts (nat_le stay.since from) (nat_le (from + suc n) (end_by c.horizon stay.until)) both.1 in
    record {
      some = omega arith;
      number = f.place;
      listed = f.there;
      named = (bytes_eq-Decides stay.name name).0 both.0;
      since = leb-true stay.since from ends.0;
      until = leb-true (from + suc n) (end_by c.horizon stay.until) ends.1;
    }

stay_valid : (c : Content) (number : ℕ) (stay : Stay) → IsContent c → slice_get (stays c.answered) number ≡ Some stay
    → IsValid stay.kept
stay_valid c number stay formed listed =
    subst (λ (s : Stay). IsValid s.kept) (get_or_from_slice_get (stays c.answered) number stay stay listed)
    (stays_good c.version c.horizon c.answered formed.answered number stay
    (slice_get_within (stays c.answered) number stay listed)).kept

-- ---- bounds

job_bounded : (c : Content) (name : Text) (r : Release) (job : Job) → IsContent c → NeverFails Supplied c
    → IsRelease c.horizon r → IsJob c name r job → IsReadyThroughout c name job → KeepsBound job
job_bounded c name r job formed met sound is ready = λ bound bounded.
    by bound bounded (stay_with c name job.release job.ticks) refl
  where
    by : (bound : ℕ) → job.bound ≡ Some bound → (o : Option Stay) → stay_with c name job.release job.ticks ≡ o
        → IsWithinBound bound job job.fate
    by bound bounded None e =
        absurd (let none : None ≡ Some bound = sym (is.bound ∙ ap (bound_by job.asked) e) ∙ bounded in cc)
    by bound bounded (Some stay) e =
        let o = stay_over c name job.release job.ticks stay e in
        let valid = stay_valid c o.number stay formed o.listed in
        let some = o.some in
        let has = window_has c stay o.number job.release (job.release + job.ticks) met o.listed valid
        (omega (arith, some))
        (record {
          begins = o.since;
          ends = o.until;
          ready = λ t from to. rw o.named (ready t (record { since = from; before = to }));
        }) in
        job_within c name r job stay bound valid sound.some is e bounded (rw o.named at has)

pub jobs_bounded : (c : Content) (name : Text) (all : List Release) (jobs : List Job) → IsContent c
    → NeverFails Supplied c → AllByRecursion (IsRelease c.horizon) all → AreJobs c name all jobs
    → AllByRecursion (IsReadyThroughout c name) jobs → AllByRecursion KeepsBound jobs
jobs_bounded c name [] [] formed met sound are ready = tt
jobs_bounded c name [] (job ∷ jobs) formed met sound are ready = absurd are
jobs_bounded c name (r ∷ all) [] formed met sound are ready = absurd are
jobs_bounded c name (r ∷ all) (job ∷ jobs) formed met sound are ready = (
  job_bounded c name r job formed met sound.0 are.0 ready.0,
  jobs_bounded c name all jobs formed met sound.1 are.1 ready.1,
)

pub all_bounded : (c : Content) (name : Text) (jobs : List Job) → IsContent c → NeverFails Supplied c
    → AreJobsOf c name jobs → All KeepsBound jobs
all_bounded c name jobs formed met are =
    All-from_recursion KeepsBound jobs
    (jobs_bounded c name (releases_of c name) jobs formed met
    (recursion_from_All (IsRelease c.horizon) (releases_of c name)
    (releases_all c name (λ (n : Text) (r : Release). IsRelease c.horizon r) formed
    (λ life is. releases_sound c.horizon life.from life.words (life_words c life is))))
    are (recursion_from_All (IsReadyThroughout c name) jobs (all_ready c name jobs formed are)))
