-- What a kept report promises: each stay has what is guaranteed in all its windows, and keeps its cap.
use Rattle.std.proofs.Common.{◌≡◌, ℕ, zero, suc, inl, inr, ◌+◌, ◌-◌, ◌<◌, ◌≤◌, List, [], ◌∷◌, ◌++◌, Bool, true, false}
use Rattle.std.proofs.Common.{cond, slice_get, map, refl, sym, subst, arith}
use Rattle.std.specs.Prelude.{Option, Some, None, All, find, reverse}
use Rattle.std.specs.List.{AllByRecursion}
use Rattle.std.proofs.lemmas.Bool.{cases_Bool, cases_lt}
use Rattle.std.proofs.lemmas.List.{reverse-append}
use Rattle.std.proofs.lemmas.List.Elements.{All-from_recursion}
use Rattle.hls_text.specs.Lines.{Text}
use Rattle.hls_guarantee.specs.Limits.{IsNarrow}
use Rattle.hls_guarantee.specs.Satisfaction.{Satisfies}
use Rattle.hls_guarantee.proofs.Promises.{satisfies-part}
use Rattle.hls_scenario.specs.declared.scenario.Command.{Command}
use Rattle.hls_scenario.specs.declared.scenario.Command.TheVariants as said
use Rattle.hls_scenario.specs.Grammar.{IsCommand}
use Rattle.hls_scenario.proofs.CanonicalLines.{all_append}
use Rattle.hls_report_text.specs.declared.report.Answered.{Answered}
use Rattle.hls_report_text.specs.Content.{Content}
use Rattle.hls_report_text.specs.WellFormed.{AreAnswered, IsContent}
use Rattle.hls_legal.specs.declared.stay.Stay.{Stay}
use Rattle.hls_legal.specs.Commands.{has_done, seats, last_seating}
use Rattle.hls_legal.specs.Schedule.{is_served}
use Rattle.hls_legal.specs.Ready.{is_ready}
use Rattle.hls_legal.specs.Stays.{want_in, want_of, stay_of, opened, stays_with, stays_from, stays}
use Rattle.hls_legal.specs.Accounts.{end_of, IsWindow, IsLongestWindow}
use Rattle.hls_legal.specs.Agrees.{IsKeptBy}
use Rattle.hls_legal.proofs.KeepingAccounts.{IsReadySince, since_first, since_next, since_anew, since_longest}
use Rattle.hls_audit_clauses.specs.Clauses.{Supplied, Capped, HasTick}
use Rattle.hls_audit_clauses.specs.Kept.{IsKept}
use Rattle.hls_audit_clauses.proofs.Decided.{satisfies_stable, satisfies_none, cap_by_ticks}

-- ---- what is guaranteed for a stay was wanted in a command

commands_in : (version horizon last : ℕ) (answered : List Answered) → AreAnswered version horizon last answered
    → AllByRecursion (λ (a : Answered). IsCommand version a.command) answered
commands_in version horizon last [] are = tt
commands_in version horizon last (a ∷ answered) are = (are.0, commands_in version horizon a.tick answered are.4)

narrow_in : (version : ℕ) (command : Command) → IsCommand version command → IsNarrow (want_in command)
narrow_in version (said.Load name config perches) is = tt
narrow_in version (said.Thread name perch) is = is.1.want
narrow_in version (said.End name) is = tt
narrow_in version (said.Unload name) is = tt
narrow_in version (said.Move name perch) is = is.1.want
narrow_in version (said.Wake name every burst) is = tt
narrow_in version (said.Block name) is = tt

found_keeps : {X : Type 0} (Q : Option X → Type 0) (test : X → Bool) (xs : List X) → Q None
    → AllByRecursion (λ (x : X). Q (Some x)) xs → Q (find test xs)
found_keeps Q test [] none all = none
found_keeps Q test (x ∷ xs) none all = elim (test x) as (λ b. Q (cond b (Some x) (find test xs))) [
  | true ↦ all.0
  | false ↦ found_keeps Q test xs none all.1
]

all_reverse : {X : Type 0} (P : X → Type 0) (xs : List X) → AllByRecursion P xs → AllByRecursion P (reverse xs)
all_reverse P [] all = tt
all_reverse P (x ∷ xs) all =
    subst (AllByRecursion P) (sym (reverse-append (x ∷ []) xs))
    (all_append P (reverse xs) (x ∷ []) (all_reverse P xs all.1) (all.0, tt))

abbrev AreCommands : (version : ℕ) → List Answered → Type 0
AreCommands version answered = AllByRecursion (λ (a : Answered). IsCommand version a.command) answered

narrow_want : (version : ℕ) (name : Text) (commands : List Answered) → AreCommands version commands
    → IsNarrow (want_of (last_seating name commands))
unfolding last_seating
narrow_want version name commands are =
    found_keeps (λ (o : Option Answered). IsNarrow (want_of o)) (has_done (seats name)) (reverse commands) tt
    (all_reverse (λ (a : Answered). IsNarrow (want_in a.command)) commands (narrow_all commands are))
  where
    narrow_all : (commands : List Answered) → AreCommands version commands
        → AllByRecursion (λ (a : Answered). IsNarrow (want_in a.command)) commands
    narrow_all [] are = tt
    narrow_all (a ∷ commands) are = (narrow_in version a.command are.0, narrow_all commands are.1)

abbrev AreNarrow : List Stay → Type 0
AreNarrow all = AllByRecursion (λ (stay : Stay). IsNarrow stay.kept) all

narrow_each : (version : ℕ) (commands after : List Answered) (since : ℕ) (names : List Text)
    → AreCommands version commands → AreNarrow (map (stay_of commands after since) names)
narrow_each version commands after since [] are = tt
narrow_each version commands after since (name ∷ names) are =
    (narrow_want version name commands are, narrow_each version commands after since names are)

narrow_from : (version : ℕ) (before after : List Answered) → AreCommands version before → AreCommands version after
    → AreNarrow (stays_from before after)
unfolding stays_from
narrow_from version before [] are rest = tt
narrow_from version before (a ∷ after) are rest =
    let more = all_append (λ (x : Answered). IsCommand version x.command) before (a ∷ []) are (rest.0, tt) in
    all_append (λ (stay : Stay). IsNarrow stay.kept) (stays_with before after a)
    (stays_from (before ++ a ∷ []) after)
    (narrow_each version (before ++ a ∷ []) after a.tick (opened before a) more)
    (narrow_from version (before ++ a ∷ []) after more rest.1)

-- ---- the longest window that ends before a tick

-- since when a thread is ready up to a tick
record ReadyFrom (c : Content) (name : Text) (since t : ℕ) : Type 0 where
  pub from : ℕ
  pub is : IsReadySince c name since from t

ready_from : (c : Content) (name : Text) (since n : ℕ) → ReadyFrom c name since (since + n)
ready_from c name since zero =
    let e : since ≡ since + 0 = omega arith in
    subst (ReadyFrom c name since) e (record { from = since; is = since_first c name since })
ready_from c name since (suc n) =
    let e : since + n + 1 ≡ since + suc n = omega arith in
    let r = ready_from c name since n in
    subst (ReadyFrom c name since) e (elim (cases_Bool (is_ready c name (since + n))) [
      | inl on ↦ record { from = r.from; is = since_next c name since r.from (since + n) r.is on }
      | inr off ↦ record { from = since + n + 1; is = since_anew c name since r.from (since + n) r.is off }
    ])

record Longest (c : Content) (stay : Stay) (until : ℕ) : Type 0 where
  pub from : ℕ
  pub window : IsLongestWindow c stay from until

longest : (c : Content) (stay : Stay) (until : ℕ) → stay.since ≤ until → until ≤ end_of c stay
    → Longest c stay until
longest c stay until lo hi =
    let e : stay.since + (until - stay.since) ≡ until = omega arith in
    let r : ReadyFrom c stay.name stay.since until =
    subst (ReadyFrom c stay.name stay.since) e (ready_from c stay.name stay.since (until - stay.since)) in
    record { from = r.from; window = since_longest c stay r.from until hi r.is }

-- ---- a stay

module _ (c : Content) (kept : IsKept c) (stay : Stay) (number : ℕ)
    (listed : slice_get (stays c.answered) number ≡ Some stay) (narrow : IsNarrow stay.kept) where
  abbrev served : ℕ → Bool
  served = is_served c.stretches stay.name

  has_tick : (t : ℕ) → stay.since ≤ t → t < end_of c stay → HasTick c stay t
  has_tick t lo hi = record { number = number; listed = listed; since = lo; until = hi }

  windows : (from until : ℕ) → IsWindow c stay from until → Satisfies stay.kept served from until
  windows from until w = elim (cases_lt from until) [
    | inr le ↦ satisfies_none stay.kept served from until narrow le
    | inl lt ↦
        let begins = w.begins in
        let ends = w.ends in
        let e : until - 1 + 1 ≡ until = omega arith in
        let l = longest c stay until (omega (arith, begins, lt)) ends in
        let full : Satisfies stay.kept served l.from until =
        satisfies_stable stay.kept served l.from until narrow
        (λ short. kept Supplied (until - 1) (record {
          stay = stay;
          now = has_tick (until - 1) (omega (arith, begins, lt)) (omega (arith, ends, lt));
          ready = w.ready (until - 1) (omega arith) (omega arith);
          from = l.from;
          window = subst (IsLongestWindow c stay l.from) (sym e) l.window;
          short = λ s. short (subst (Satisfies stay.kept served l.from) e s);
        })) in
        satisfies-part stay.kept served l.from until from until (l.window.longest from w) (omega arith) full
  ]

  kept_by : IsKeptBy c stay
  kept_by = record {
    windows = windows;
    cap = cap_by_ticks stay.kept served stay.since (end_of c stay)
        (λ t lo hi on over. kept Capped t (record {
          stay = stay;
          now = has_tick t lo hi;
          served = on;
          over = over;
        }));
  }

each_stay : (P Q : Stay → Type 0) (xs : List Stay)
    → ((n : ℕ) (x : Stay) → slice_get xs n ≡ Some x → P x → Q x) → AllByRecursion P xs → AllByRecursion Q xs
each_stay P Q [] on all = tt
each_stay P Q (x ∷ xs) on all =
    (on 0 x refl all.0, each_stay P Q xs (λ n y e. on (suc n) y e) all.1)

pub stays_promised : (c : Content) → IsContent c → IsKept c → All (IsKeptBy c) (stays c.answered)
stays_promised c is kept =
    All-from_recursion (IsKeptBy c) (stays c.answered)
    (each_stay (λ (stay : Stay). IsNarrow stay.kept) (IsKeptBy c) (stays c.answered)
    (λ n stay e narrow. kept_by c kept stay n e narrow)
    (narrow_from c.version [] c.answered tt (commands_in c.version c.horizon 0 c.answered is.answered)))
