-- The ticks of a run that have passed: which were idle, and that whoever was served was ready.
use Rattle.std.proofs.Common.{◌≡◌, ℕ, inl, inr, ◌+◌, ◌<◌, List, ◌++◌, Bool, true, refl, sym, ap, ◌∙◌, arith}
use Rattle.std.specs.Prelude.{Option, Some, None, is_none, option_and_then}
use Rattle.std.specs.List.{AllByRecursion}
use Rattle.std.proofs.lemmas.Bool.{cases_eq}
use Rattle.std.proofs.lemmas.Slice.Eq.{bytes_eq-Decides}
use Rattle.hls_text.specs.Lines.{Text}
use Rattle.hls_report_text.specs.declared.report.Answered.{Answered}
use Rattle.hls_report_text.specs.Content.{Content}
use Rattle.hls_machine.specs.Hierarchy.{Hierarchy, Processor, Tick}
use Rattle.hls_machine.specs.Steps.{Path, thread_of, is_thread, elapsed}
use Rattle.hls_machine.specs.Legal.{asks_now, MayRun}
use Rattle.hls_machine.proofs.Kept.{at_same, at_other}
use Rattle.hls_machine.proofs.Readings.{walk_ends}
use Rattle.hls_legal.specs.Schedule.{path_at, last_name, is_name, is_served}
use Rattle.hls_legal.specs.Ready.{is_ready}
use Rattle.hls_legal.specs.Tells.{Names}
use Rattle.hls_legal.proofs.Told.{IsThreadNamed, path_named, is_served-at, ready_now}
use Rattle.hls_legal.proofs.ToldSteps.{IsTold}

abbrev pub IdleTold : Content → Hierarchy → Type 0
IdleTold c h = (x : ℕ) → x < h.now → is_none (path_at c.stretches x) ≡ is_none (h.past x).to

abbrev pub RanReady : Content → (now : ℕ) → Type 0
RanReady c now = (x : ℕ) (name : Text) → x < now → is_served c.stretches name x ≡ true
    → is_ready c name x ≡ true

-- the past of a hierarchy is told
abbrev pub PastTold : Content → Hierarchy → Type 0
PastTold c h = IdleTold c h × RanReady c h.now

idle_names : (h : Hierarchy) (path : Option Path) (names : Option (List Text)) → Names h path names
    → is_none names ≡ is_none (thread_of path)
idle_names h None None told = refl
idle_names h None (Some names) told = absurd told
idle_names h (Some path) None told = absurd told
idle_names h (Some path) (Some names) told = refl

tick_idle : (c : Content) (h : Hierarchy) (asking : ℕ → Bool) (masks : ℕ → ℕ) (path : Option Path)
    → Names h path (path_at c.stretches h.now) → IdleTold c h → IdleTold c (elapsed h asking masks path)
tick_idle c h asking masks path told idle x lt = elim (cases_eq x h.now) [
  | inl e ↦ ap (λ t. is_none (path_at c.stretches t)) e
      ∙ idle_names h path (path_at c.stretches h.now) told
      ∙ sym (ap (λ (w : Tick). is_none w.to)
      (at_same x h.now (record { asking = asking; to = thread_of path }) (h.past x) e))
  | inr ne ↦ idle x (omega arith)
      ∙ sym (ap (λ (w : Tick). is_none w.to)
      (at_other x h.now (record { asking = asking; to = thread_of path }) (h.past x) ne))
]

-- the thread in which a path ends asks
record AsksNamed (h : Hierarchy) (name : Text) : Type 0 where
  pub k : ℕ
  pub thread : IsThreadNamed h.nodes k name
  pub asks : asks_now h k 0 (h.nodes k) ≡ true

named_by : (name : Text) (found : Option Text) → is_name name found ≡ true → found ≡ Some name
named_by name None is = absurd (cc)
named_by name (Some other) is = ap (λ (n : Text). Some n) ((bytes_eq-Decides other name).0 is)

ends_named : (h : Hierarchy) (asking : ℕ → Bool) (masks : ℕ → ℕ) (path : Option Path)
    (names : Option (List Text)) (name : Text) → MayRun h asking masks path → Names h path names
    → is_name name (option_and_then last_name names) ≡ true → AsksNamed h name
ends_named h asking masks None None name may told is = absurd (cc)
ends_named h asking masks None (Some names) name may told is = absurd told
ends_named h asking masks (Some path) None name may told is = absurd told
ends_named h asking masks (Some path) (Some names) name may told is =
    let ends = walk_ends h masks path.hops Processor path.thread may.1 in
    record {
      k = path.thread;
      thread = record {
        is = ap is_thread ends.there;
        named = sym (path_named h path names told) ∙ named_by name (last_name names) is;
      };
      asks = ap (asks_now h path.thread 0) ends.there ∙ ends.ready;
    }

tick_ran : (c : Content) (h : Hierarchy) (asking : ℕ → Bool) (masks : ℕ → ℕ) (path : Option Path)
    (before left : List Answered) → MayRun h asking masks path → Names h path (path_at c.stretches h.now)
    → c.answered ≡ before ++ left → AllByRecursion (λ (a : Answered). h.now < a.tick) left
    → IsTold c before h → RanReady c h.now → RanReady c (h.now + 1)
tick_ran c h asking masks path before left may names all late told ran x name lt on =
    elim (cases_eq x h.now) [
      | inl e ↦
          let served = sym (is_served-at c name h.now) ∙ ap (is_served c.stretches name) (sym e) ∙ on in
          let ends = ends_named h asking masks path (path_at c.stretches h.now) name may names served in
          ap (is_ready c name) e
          ∙ sym (ready_now c h before left ends.k 0 name all told.early late told.wakes told.serves
          ends.thread)
          ∙ ends.asks
      | inr ne ↦ ran x name (omega arith) on
    ]

pub tick_past : (c : Content) (h : Hierarchy) (asking : ℕ → Bool) (masks : ℕ → ℕ) (path : Option Path)
    (before left : List Answered) → MayRun h asking masks path → Names h path (path_at c.stretches h.now)
    → c.answered ≡ before ++ left → AllByRecursion (λ (a : Answered). h.now < a.tick) left
    → IsTold c before h → PastTold c h → PastTold c (elapsed h asking masks path)
tick_past c h asking masks path before left may names all late told past = (
  tick_idle c h asking masks path names past.0,
  tick_ran c h asking masks path before left may names all late told past.1,
)
