-- A stay that is guaranteed every tick: it starves first where its thread is ready and not served.
use Rattle.std.proofs.Common.{◌≡◌, ℕ, zero, suc, ◌+◌, ◌-◌, ◌<◌, ◌≤◌, Bool, true, false, inl, inr}
use Rattle.std.proofs.Common.{sym, ap, ◌∙◌, subst, arith}
use Rattle.std.specs.Prelude.{Option, Some, None}
use Rattle.std.proofs.lemmas.Bool.{cases_Bool}
use Rattle.hls_text.specs.Lines.{Text}
use Rattle.hls_guarantee.specs.declared.Guarantee.{Guarantee}
use Rattle.hls_guarantee.specs.declared.Guarantee.TheVariants.{All}
use Rattle.hls_guarantee.specs.Satisfaction.{Satisfies}
use Rattle.hls_audit_watch.specs.First.{FirstAt}
use Rattle.hls_audit_spans.specs.Spans.{IsBeyondIn}
use Rattle.hls_report_text.specs.Content.{Content}
use Rattle.hls_legal.specs.declared.stay.Stay.{Stay}
use Rattle.hls_legal.specs.Accounts.{end_of, IsLongestWindow}
use Rattle.hls_legal.specs.Ready.{is_ready}
use Rattle.hls_legal.specs.Schedule.{is_served}
use Rattle.hls_legal.proofs.KeepingAccounts.{IsReadySince, since_first, since_next, since_anew, since_longest}
use Rattle.hls_audit_threads.specs.Inside.Sites.{Starves}

-- ---- the longest window that ends before a tick

record ReadyFrom (c : Content) (name : Text) (since t : ℕ) : Type 0 where
  from : ℕ
  is : IsReadySince c name since from t

ready_from : (c : Content) (name : Text) (since n : ℕ) → ReadyFrom c name since (since + n)
ready_from c name since zero =
    let e : since ≡ since + 0 = omega arith in
    subst (ReadyFrom c name since) e (record { from = since; is = since_first c name since })
ready_from c name since (suc n) =
    let e : since + n + 1 ≡ since + suc n = omega arith in
    let r = ready_from c name since n in
    subst (ReadyFrom c name since) e (elim (cases_Bool (is_ready c name (since + n))) [
      | inl on ↦ record { from = r.from; is = since_next c name since r.from (since + n) r.is on }
      | inr off ↦ record { from = since + n + 1; is = since_anew c name since r.from (since + n) r.is off }
    ])

record Longest (c : Content) (stay : Stay) (until : ℕ) : Type 0 where
  from : ℕ
  window : IsLongestWindow c stay from until

longest : (c : Content) (stay : Stay) (until : ℕ) → stay.since ≤ until → until ≤ end_of c stay
    → Longest c stay until
longest c stay until lo hi =
    let e : stay.since + (until - stay.since) ≡ until = omega (arith, lo) in
    let r : ReadyFrom c stay.name stay.since until =
    subst (ReadyFrom c stay.name stay.since) e (ready_from c stay.name stay.since (until - stay.since)) in
    record { from = r.from; window = since_longest c stay r.from until hi r.is }

-- ---- every tick

every_tick : (g : Guarantee) (f : ℕ → Bool) (lo hi : ℕ) → g ≡ All
    → ((t : ℕ) → lo ≤ t → t < hi → f t ≡ true) → Satisfies g f lo hi
every_tick g f lo hi is all = subst (λ (x : Guarantee). Satisfies x f lo hi) (sym is) all

each_tick : (g : Guarantee) (f : ℕ → Bool) (lo hi : ℕ) → g ≡ All → Satisfies g f lo hi
    → (t : ℕ) → lo ≤ t → t < hi → f t ≡ true
each_tick g f lo hi is kept = subst (λ (x : Guarantee). Satisfies x f lo hi) is kept

-- up to a tick it is served wherever it is ready
keeps_all : (c : Content) (stay : Stay) (t : ℕ) → stay.kept ≡ All
    → ((u : ℕ) → stay.since ≤ u → u < t + 1 → is_ready c stay.name u ≡ true
    → is_served c.stretches stay.name u ≡ true) → ¬ Starves c t stay
keeps_all c stay t is all starves =
    let begins = starves.window.window.begins in
    starves.short (every_tick stay.kept (is_served c.stretches stay.name) starves.from (t + 1) is
    (λ u lo hi. all u (omega (arith, begins, lo)) hi (starves.window.window.ready u lo hi)))

pub starves_beyond : (c : Content) (stay : Stay) (until : ℕ) (first : Option ℕ) → end_of c stay ≡ until
    → stay.kept ≡ All
    → IsBeyondIn (is_ready c stay.name) (is_served c.stretches stay.name) stay.since until first
    → FirstAt (λ t. Starves c t stay) first
starves_beyond c stay until None end is all = λ t starves.
    let within = starves.now.until in
    keeps_all c stay t is (λ u lo hi on. all u lo (omega (arith, hi, within, end)) on) starves
starves_beyond c stay until (Some t) end is beyond =
    let behind = beyond.behind in
    let within = beyond.within in
    let l = longest c stay (t + 1) (omega (arith, behind)) (omega (arith, within, end)) in
    let late : l.from ≤ t = l.window.longest t (record {
      begins = behind;
      ends = omega (arith, within, end);
      ready = λ u lo hi.
          let same : t ≡ u = omega (arith, lo, hi) in
          sym (ap (is_ready c stay.name) same) ∙ beyond.on;
    }) in
    record {
      here = record {
        now = record { since = behind; until = omega (arith, within, end) };
        ready = beyond.on;
        from = l.from;
        window = l.window;
        short = λ kept.
            let on = each_tick stay.kept (is_served c.stretches stay.name) l.from (t + 1) is kept t late
            (omega arith) in
            absurd (let wrong : true ≡ false = sym on ∙ beyond.off in cc);
      };
      earliest = λ k lt. keeps_all c stay k is (λ u lo hi on. beyond.none u lo (omega (arith, hi, lt)) on);
    }
