-- Windows, and what a run keeps in them.
use Rattle.std.proofs.Common.{◌≡◌, ℕ, inl, inr, ◌⊎◌, ◌+◌, ◌-◌, ◌<◌, ◌≤◌, List, [], ◌∷◌, true, false}
use Rattle.std.proofs.Common.{sym, ap, ◌∙◌, subst, arith}
use Rattle.std.specs.Prelude.{All, map}
use Rattle.std.specs.List.{AllByRecursion}
use Rattle.std.proofs.lemmas.Bool.{cases_eq, cases_lt}
use Rattle.std.proofs.lemmas.List.Elements.{All-from_recursion, recursion_from_All}
use Rattle.hls_text.specs.Lines.{Text}
use Rattle.hls_guarantee.specs.Cap.{KeepsCap}
use Rattle.hls_guarantee.proofs.Promises.{satisfies-agree, keeps_cap-agree}
use Rattle.hls_report_text.specs.Content.{Content}
use Rattle.hls_machine.specs.Hierarchy.{Hierarchy, start, was_served, had_asked}
use Rattle.hls_machine.specs.Hierarchy as run
use Rattle.hls_machine.specs.Steps.{Step, state}
use Rattle.hls_machine.specs.Legal.{IsLegal}
use Rattle.hls_machine.specs.Supplied.{end_of, IsKept, KeepsStays}
use Rattle.hls_legal.specs.declared.stay.Stay.{Stay}
use Rattle.hls_legal.specs.Schedule.{is_served}
use Rattle.hls_legal.specs.Ready.{is_ready}
use Rattle.hls_legal.specs.Stays.{stays}
use Rattle.hls_legal.specs.Accounts.{IsWindow, IsLongestWindow}
use Rattle.hls_legal.specs.Accounts as told
use Rattle.hls_legal.specs.Tells.{Tells}
use Rattle.hls_legal.specs.Agrees.{told_stay, IsKeptBy}
use Rattle.hls_legal.proofs.ToldSteps.{IsStayTold, AreStaysTold}
use Rattle.hls_legal.proofs.OrderRuns.{telling_run}
use Rattle.hls_legal.proofs.Agreements.{end_same, stays_told}

-- ---- the longest window

-- from a tick on, up to another, a thread was ready, and that began there
pub record IsReadySince (c : Content) (name : Text) (since from t : ℕ) : Type 0 where
  pub low : since ≤ from
  pub high : from ≤ t
  pub ready : (x : ℕ) → from ≤ x → x < t → is_ready c name x ≡ true
  pub began : since < from → is_ready c name (from - 1) ≡ false

pub since_first : (c : Content) (name : Text) (since : ℕ) → IsReadySince c name since since since
since_first c name since = record {
  low = omega arith;
  high = omega arith;
  ready = λ x lo hi. absurd (omega arith);
  began = λ lt. absurd (omega arith);
}

pub since_next : (c : Content) (name : Text) (since from t : ℕ) → IsReadySince c name since from t
    → is_ready c name t ≡ true → IsReadySince c name since from (t + 1)
since_next c name since from t s on = record {
  low = s.low;
  high = (let le = s.high in omega arith);
  ready = λ x lo hi. elim (cases_eq x t) [
    | inl e ↦ ap (is_ready c name) e ∙ on
    | inr ne ↦ s.ready x lo (omega arith)
  ];
  began = s.began;
}

pub since_anew : (c : Content) (name : Text) (since from t : ℕ) → IsReadySince c name since from t
    → is_ready c name t ≡ false → IsReadySince c name since (t + 1) (t + 1)
since_anew c name since from t s off =
    let low = s.low in
    let high = s.high in
    let same : t + 1 - 1 ≡ t = omega arith in
    record {
      low = omega arith;
      high = omega arith;
      ready = λ x lo hi. absurd (omega arith);
      began = λ lt. ap (is_ready c name) same ∙ off;
    }

starts : (c : Content) (stay : Stay) (from until : ℕ) → IsReadySince c stay.name stay.since from until
    → (earlier : ℕ) → IsWindow c stay earlier until → (earlier < from) ⊎ (from ≤ earlier) → from ≤ earlier
starts c stay from until s earlier w (inr le) = le
starts c stay from until s earlier w (inl lt) =
    let begins = w.begins in
    let high = s.high in
    let off = s.began (omega arith) in
    let on = w.ready (from - 1) (omega arith) (omega arith) in
    absurd (let wrong : true ≡ false = sym on ∙ off in cc)

pub since_longest : (c : Content) (stay : Stay) (from until : ℕ) → until ≤ told.end_of c stay
    → IsReadySince c stay.name stay.since from until → IsLongestWindow c stay from until
since_longest c stay from until within s = record {
  window = record { begins = s.low; ends = within; ready = s.ready };
  longest = λ earlier w. starts c stay from until s earlier w (cases_lt earlier from);
}

-- ---- what a run keeps

kept_by : (c : Content) (h : Hierarchy) (stay : run.Stay) → h.now ≡ c.horizon → IsStayTold c h stay stay.until
    → IsKept h stay → IsKeptBy c (told_stay stay)
kept_by c h stay now s k =
    let end = end_same c.horizon h.now stay.until now in
    record {
      windows = λ from until w.
          let begins = w.begins in
          let ends : until ≤ end_of h.now stay.until = subst (λ n. until ≤ n) end w.ends in
          satisfies-agree stay.kept (was_served h.past stay.thread) (is_served c.stretches stay.name) from
          until
          (λ t lo hi. s.served t (omega arith) (omega arith))
          (k.windows from until begins ends
          (λ t lo hi. s.asked t (omega arith) (omega arith) ∙ w.ready t lo hi));
      cap = subst (λ n. KeepsCap stay.kept (is_served c.stretches stay.name) stay.since n) (sym end)
          (keeps_cap-agree stay.kept (was_served h.past stay.thread) (is_served c.stretches stay.name)
          stay.since
          (end_of h.now stay.until) (λ t lo hi. s.served t lo hi) k.cap);
    }

each_kept : (c : Content) (h : Hierarchy) (all : List run.Stay) → h.now ≡ c.horizon → AreStaysTold c h all
    → AllByRecursion (IsKept h) all → AllByRecursion (IsKeptBy c) (map told_stay all)
each_kept c h [] now told kept = tt
each_kept c h (stay ∷ all) now told kept =
    (kept_by c h stay now told.0 kept.0, each_kept c h all now told.1 kept.1)

pub stays_kept : (c : Content) (steps : List Step) → IsLegal start steps → Tells c steps
    → KeepsStays (state start steps) → All (IsKeptBy c) (stays c.answered)
stays_kept c steps legal tells kept =
    let h = state start steps in
    let t = telling_run c steps legal tells in
    subst (All (IsKeptBy c)) (sym (stays_told c steps legal tells))
    (All-from_recursion (IsKeptBy c) (map told_stay h.stays)
    (each_kept c h h.stays t.now t.all.told.stays (recursion_from_All (IsKept h) h.stays kept)))
