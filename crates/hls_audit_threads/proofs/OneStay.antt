-- The ticks of one stay, as lists.
use Rattle.std.proofs.Common.{◌≡◌, ℕ, ◌+◌, ◌-◌, ◌<◌, ◌≤◌, Bool, true, false, List, length, sym, ◌∙◌}
use Rattle.std.proofs.Common.{subst, arith, inl, inr}
use Rattle.std.proofs.lemmas.Bool.{cases_lt, cases_Bool}
use Rattle.std.proofs.lemmas.List.{get_or_past}
use Rattle.hls_guarantee.specs.declared.Guarantee.{Guarantee}
use Rattle.hls_guarantee.specs.Satisfaction.{Satisfies}
use Rattle.hls_guarantee.specs.Cap.{KeepsCap}
use Rattle.hls_guarantee.specs.Service.{schedule_of}
use Rattle.hls_guarantee.proofs.Promises.{satisfies-agree, keeps_cap-agree}
use Rattle.hls_guarantee.proofs.Windows.{satisfies-earlier, satisfies-later, keeps_cap-earlier, keeps_cap-later}
use Rattle.hls_audit_watch.specs.First.{IsFirstAt}
use Rattle.hls_audit_watch.specs.Shortages.{IsShort, IsOver}
use Rattle.hls_audit_spans.specs.Spans.{AreTicks}
use Rattle.hls_report_text.specs.Content.{Content}
use Rattle.hls_legal.specs.declared.stay.Stay.{Stay}
use Rattle.hls_legal.specs.Accounts.{end_of}
use Rattle.hls_legal.specs.Ready.{is_ready}
use Rattle.hls_legal.specs.Schedule.{is_served}
use Rattle.hls_audit_threads.specs.Inside.Sites.{Starves, Exceeds}

inside : (l : List Bool) (t : ℕ) → schedule_of l t ≡ true → t < length l
inside l t on = elim (cases_lt t (length l)) [
  | inl lt ↦ lt
  | inr past ↦ absurd (let no : false ≡ true = sym (get_or_past l t false past) ∙ on in cc)
]

-- a promise of a part of a list is one of a schedule
part_satisfies : (g : Guarantee) (f : ℕ → Bool) (from : ℕ) (l : List Bool) (lo hi : ℕ) → hi ≤ length l →
    ((t : ℕ) → t < length l → schedule_of l t ≡ f (t + from)) → Satisfies g f (lo + from) (hi + from) →
    Satisfies g (schedule_of l) lo hi
part_satisfies g f from l lo hi within tells s =
    satisfies-agree g (λ t. f (t + from)) (schedule_of l) lo hi (λ t a b. sym (tells t (omega arith)))
    (satisfies-earlier g f from lo hi s)

satisfies_part : (g : Guarantee) (f : ℕ → Bool) (from : ℕ) (l : List Bool) (lo hi : ℕ) → hi ≤ length l →
    ((t : ℕ) → t < length l → schedule_of l t ≡ f (t + from)) → Satisfies g (schedule_of l) lo hi →
    Satisfies g f (lo + from) (hi + from)
satisfies_part g f from l lo hi within tells s =
    satisfies-later g f from lo hi
    (satisfies-agree g (schedule_of l) (λ t. f (t + from)) lo hi (λ t a b. tells t (omega arith)) s)

part_capped : (g : Guarantee) (f : ℕ → Bool) (from : ℕ) (l : List Bool) (lo hi : ℕ) → hi ≤ length l →
    ((t : ℕ) → t < length l → schedule_of l t ≡ f (t + from)) → KeepsCap g f (lo + from) (hi + from) →
    KeepsCap g (schedule_of l) lo hi
part_capped g f from l lo hi within tells s =
    keeps_cap-agree g (λ t. f (t + from)) (schedule_of l) lo hi (λ t a b. sym (tells t (omega arith)))
    (keeps_cap-earlier g f from lo hi s)

capped_part : (g : Guarantee) (f : ℕ → Bool) (from : ℕ) (l : List Bool) (lo hi : ℕ) → hi ≤ length l →
    ((t : ℕ) → t < length l → schedule_of l t ≡ f (t + from)) → KeepsCap g (schedule_of l) lo hi →
    KeepsCap g f (lo + from) (hi + from)
capped_part g f from l lo hi within tells s =
    keeps_cap-later g f from lo hi
    (keeps_cap-agree g (schedule_of l) (λ t. f (t + from)) lo hi (λ t a b. tells t (omega arith)) s)

-- the two lists tell the ticks of a stay
pub record IsStayIn (c : Content) (stay : Stay) (until : ℕ) (ready served : List Bool) : Type 0 where
  pub end : end_of c stay ≡ until
  pub long_ready : stay.since + length ready ≡ until
  pub long_served : stay.since + length served ≡ until
  pub ready_is : (t : ℕ) → t < length ready → schedule_of ready t ≡ is_ready c stay.name (t + stay.since)
  pub served_is : (t : ℕ) → t < length served →
      schedule_of served t ≡ is_served c.stretches stay.name (t + stay.since)

moved : (f : ℕ → Bool) (t u : ℕ) → t ≡ u → f t ≡ true → f u ≡ true
moved f t u e on = subst (λ k. f k ≡ true) e on

short_starves : (c : Content) (stay : Stay) (until : ℕ) (ready served : List Bool) (i : ℕ) →
    IsStayIn c stay until ready served → IsShort stay.kept ready served i → Starves c (i + stay.since) stay
short_starves c stay until ready served i in_stay s =
    let end = in_stay.end in
    let long_ready = in_stay.long_ready in
    let long_served = in_stay.long_served in
    let lt = inside ready i s.now in
    let begins = s.begins in
    let f = is_served c.stretches stay.name in
    record {
      now = record { since = omega arith; until = omega arith };
      ready = sym (in_stay.ready_is i lt) ∙ s.now;
      from = s.from + stay.since;
      window = record {
        window = record {
          begins = omega arith;
          ends = omega arith;
          ready = λ t lo hi.
              let back : t - stay.since + stay.since ≡ t = omega (arith, lo) in
              elim (cases_lt (t - stay.since) i) [
                | inl old ↦
                    moved (is_ready c stay.name) (t - stay.since + stay.since) t back
                    (sym (in_stay.ready_is (t - stay.since) (omega arith)) ∙
                    s.all (t - stay.since) (omega (arith, lo)) old)
                | inr new ↦
                    let same : i + stay.since ≡ t = omega (arith, lo, hi) in
                    moved (is_ready c stay.name) (i + stay.since) t same (sym (in_stay.ready_is i lt) ∙ s.now)
              ];
        };
        longest = λ earlier w. elim (cases_lt earlier (s.from + stay.since)) [
          | inr ge ↦ ge
          | inl before ↦
              let from_stay = w.begins in
              let off = s.began (omega arith) in
              let on = w.ready (s.from - 1 + stay.since) (omega arith) (omega arith) in
              let at = in_stay.ready_is (s.from - 1) (omega arith) in
              absurd (let no : false ≡ true = sym off ∙ (at ∙ on) in cc)
        ];
      };
      short = λ kept. s.short
          (part_satisfies stay.kept f stay.since served s.from (i + 1) (omega arith) in_stay.served_is
          (let e : i + stay.since + 1 ≡ i + 1 + stay.since = omega arith in
          subst (λ k. Satisfies stay.kept f (s.from + stay.since) k) e kept));
    }

starves_short : (c : Content) (stay : Stay) (until : ℕ) (ready served : List Bool) (t : ℕ) →
    IsStayIn c stay until ready served → Starves c t stay → IsShort stay.kept ready served (t - stay.since)
starves_short c stay until ready served t in_stay s =
    let end = in_stay.end in
    let long_ready = in_stay.long_ready in
    let long_served = in_stay.long_served in
    let since = s.now.since in
    let within = s.now.until in
    let i : ℕ = t - stay.since in
    let back : i + stay.since ≡ t = omega arith in
    let begins = s.window.window.begins in
    let f = is_served c.stretches stay.name in
    let latest : s.from ≤ t = s.window.longest t (record {
      begins = since;
      ends = omega arith;
      ready = λ u lo hi.
          let e : t ≡ u = omega (arith, lo, hi) in
          moved (is_ready c stay.name) t u e s.ready;
    }) in
    record {
      now = in_stay.ready_is i (omega arith) ∙ moved (is_ready c stay.name) t (i + stay.since) (sym back) s.ready;
      from = s.from - stay.since;
      begins = omega arith;
      all = λ u lo hi.
          in_stay.ready_is u (omega (arith, hi)) ∙ s.window.window.ready (u + stay.since) (omega arith) (omega arith);
      began = λ some. elim (cases_Bool (schedule_of ready (s.from - stay.since - 1))) [
        | inr off ↦ off
        | inl on ↦
            let first : s.from - stay.since - 1 + stay.since ≡ s.from - 1 = omega arith in
            let at = in_stay.ready_is (s.from - stay.since - 1) (omega arith) in
            let on_first = moved (is_ready c stay.name) (s.from - stay.since - 1 + stay.since) (s.from - 1) first
            (sym at ∙ on) in
            let no = s.window.longest (s.from - 1) (record {
              begins = omega arith;
              ends = omega arith;
              ready = λ u lo hi. elim (cases_lt u s.from) [
                | inl front ↦
                    let e : s.from - 1 ≡ u = omega (arith, lo, front) in
                    moved (is_ready c stay.name) (s.from - 1) u e on_first
                | inr rest ↦ s.window.window.ready u rest hi
              ];
            }) in
            absurd (omega (arith, no, some))
      ];
      short = λ kept. s.short
          (let a : s.from - stay.since + stay.since ≡ s.from = omega arith in
          let b : i + 1 + stay.since ≡ t + 1 = omega arith in
          subst (λ k. Satisfies stay.kept f k (t + 1)) a
          (subst (λ k. Satisfies stay.kept f (s.from - stay.since + stay.since) k) b
          (satisfies_part stay.kept f stay.since served (s.from - stay.since) (i + 1) (omega arith)
          in_stay.served_is kept)));
    }

over_exceeds : (c : Content) (stay : Stay) (until : ℕ) (served : List Bool) (i : ℕ) → end_of c stay ≡ until →
    stay.since + length served ≡ until →
    ((t : ℕ) → t < length served → schedule_of served t ≡ is_served c.stretches stay.name (t + stay.since)) →
    IsOver stay.kept served i → Exceeds c (i + stay.since) stay
over_exceeds c stay until served i end long tells s =
    let lt = inside served i s.now in
    let f = is_served c.stretches stay.name in
    record {
      now = record { since = omega arith; until = omega arith };
      served = sym (tells i lt) ∙ s.now;
      over = λ kept. s.over
          (let a : stay.since ≡ 0 + stay.since = omega arith in
          let b : i + stay.since + 1 ≡ i + 1 + stay.since = omega arith in
          part_capped stay.kept f stay.since served 0 (i + 1) (omega arith) tells
          (subst (λ k. KeepsCap stay.kept f k (i + 1 + stay.since)) a
          (subst (λ k. KeepsCap stay.kept f stay.since k) b kept)));
    }

exceeds_over : (c : Content) (stay : Stay) (until : ℕ) (served : List Bool) (t : ℕ) → end_of c stay ≡ until →
    stay.since + length served ≡ until →
    ((t : ℕ) → t < length served → schedule_of served t ≡ is_served c.stretches stay.name (t + stay.since)) →
    Exceeds c t stay → IsOver stay.kept served (t - stay.since)
exceeds_over c stay until served t end long tells s =
    let since = s.now.since in
    let within = s.now.until in
    let i : ℕ = t - stay.since in
    let back : i + stay.since ≡ t = omega arith in
    let f = is_served c.stretches stay.name in
    record {
      now = tells i (omega arith) ∙ moved f t (i + stay.since) (sym back) s.served;
      over = λ kept. s.over
          (let a : 0 + stay.since ≡ stay.since = omega arith in
          let b : i + 1 + stay.since ≡ t + 1 = omega arith in
          subst (λ k. KeepsCap stay.kept f k (t + 1)) a
          (subst (λ k. KeepsCap stay.kept f (0 + stay.since) k) b
          (capped_part stay.kept f stay.since served 0 (i + 1) (omega arith) tells kept)));
    }

-- the two lists of the ticks of a stay
pub stay_in : (c : Content) (stay : Stay) (until : ℕ) (ready served : List Bool) → end_of c stay ≡ until
    → stay.since + length ready ≡ until → stay.since + length served ≡ until
    → AreTicks (is_ready c stay.name) stay.since ready → AreTicks (is_served c.stretches stay.name) stay.since served
    → IsStayIn c stay until ready served
stay_in c stay until ready served end lr ls tr ts = record {
  end = end;
  long_ready = lr;
  long_served = ls;
  ready_is = tr.each;
  served_is = ts.each;
}

pub starving_never : (c : Content) (stay : Stay) (until : ℕ) (r s : List Bool) → IsStayIn c stay until r s
    → ((i : ℕ) → ¬ IsShort stay.kept r s i) → (t : ℕ) → ¬ Starves c t stay
starving_never c stay until r s in_stay never t starves =
    never (t - stay.since) (starves_short c stay until r s t in_stay starves)

pub starving_first : (c : Content) (stay : Stay) (until : ℕ) (r s : List Bool) (i : ℕ) → IsStayIn c stay until r s
    → IsFirstAt (IsShort stay.kept r s) i → IsFirstAt (λ t. Starves c t stay) (stay.since + i)
starving_first c stay until r s i in_stay first =
    let e : i + stay.since ≡ stay.since + i = omega arith in
    record {
      here = subst (λ t. Starves c t stay) e (short_starves c stay until r s i in_stay first.here);
      earliest = λ t lt starves.
          let since = starves.now.since in
          first.earliest (t - stay.since) (omega (arith, since, lt)) (starves_short c stay until r s t in_stay starves);
    }

pub exceeding_never : (c : Content) (stay : Stay) (until : ℕ) (s : List Bool) → end_of c stay ≡ until
    → stay.since + length s ≡ until → AreTicks (is_served c.stretches stay.name) stay.since s
    → ((i : ℕ) → ¬ IsOver stay.kept s i) → (t : ℕ) → ¬ Exceeds c t stay
exceeding_never c stay until s end long ticks never t exceeds =
    never (t - stay.since) (exceeds_over c stay until s t end long ticks.each exceeds)

pub exceeding_first : (c : Content) (stay : Stay) (until : ℕ) (s : List Bool) (i : ℕ) → end_of c stay ≡ until
    → stay.since + length s ≡ until → AreTicks (is_served c.stretches stay.name) stay.since s
    → IsFirstAt (IsOver stay.kept s) i → IsFirstAt (λ t. Exceeds c t stay) (stay.since + i)
exceeding_first c stay until s i end long ticks first =
    let e : i + stay.since ≡ stay.since + i = omega arith in
    record {
      here = subst (λ t. Exceeds c t stay) e (over_exceeds c stay until s i end long ticks.each first.here);
      earliest = λ t lt exceeds.
          let since = exceeds.now.since in
          first.earliest (t - stay.since) (omega (arith, since, lt))
          (exceeds_over c stay until s t end long ticks.each exceeds);
    }
