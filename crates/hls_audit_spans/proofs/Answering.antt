-- What spans answer.
use Rattle.std.proofs.Common.{◌≡◌, ℕ, ◌+◌, ◌-◌, ◌<◌, ◌≤◌, List, Bool, true, false, length, get_or, inl, inr}
use Rattle.std.proofs.Common.{refl, sym, subst, arith}
use Rattle.std.specs.Prelude.{Option, Some, None, slice_get}
use Rattle.std.proofs.lemmas.Bool.{cases_lt}
use Rattle.std.proofs.lemmas.Option.{slice_get_read}
use Rattle.hls_chron.specs.Ticks.{count}
use Rattle.hls_audit_spans.specs.declared.span.Span.{Span}
use Rattle.hls_audit_spans.specs.Spans.{IsSpan, start, IsQuiet, Tell, IsNextAt, IsNthAt, IsReach}
use Rattle.hls_audit_spans.specs.Inside.Places.{IsBegun, IsPassed, is_in}
use Rattle.hls_audit_spans.proofs.Counts.{count_apart, count_same, count_up, count_next, count_first, count_few}
use Rattle.hls_audit_spans.proofs.SpanLaws.{upto_in, in_here, out_between}

-- ---- the next one

pub next_here : (f : ℕ → Bool) (spans : List Span) (end tick at : ℕ) → Tell f spans end → IsBegun spans tick at
    → is_in spans at tick ≡ true → IsNextAt f tick end tick
next_here f spans end tick at tell begun on =
    let one = in_here f spans end tick at tell begun on in record {
      behind = omega arith;
      within = one.within;
      on = one.on;
      none = λ t lo hi. absurd (omega (arith, lo, hi));
    }

pub next_span : (f : ℕ → Bool) (spans : List Span) (end tick at : ℕ) (s : Span) → Tell f spans end
    → IsBegun spans tick at → is_in spans at tick ≡ false → slice_get spans at ≡ Some s
    → IsNextAt f tick end s.from
next_span f spans end tick at s tell begun off there =
    let is = tell.each at s there in
    let some = is.some in
    let within = tell.within at s there in
    let less = begun.next s there in record {
      behind = omega (arith, less);
      within = omega (arith, some, within);
      on = is.on s.from (omega arith) some;
      none = λ t lo hi. out_between f spans end tick at tell begun off t lo
          (subst (λ (o : Option Span). t < start o end) (sym there) hi);
    }

pub next_none : (f : ℕ → Bool) (spans : List Span) (end tick at : ℕ) → Tell f spans end → IsBegun spans tick at
    → is_in spans at tick ≡ false → slice_get spans at ≡ None → (t : ℕ) → tick ≤ t → t < end → f t ≡ false
next_none f spans end tick at tell begun off none t lo hi =
    out_between f spans end tick at tell begun off t lo (subst (λ (o : Option Span). t < start o end) (sym none) hi)

-- ---- the one behind so many others

earlier_is : (f : ℕ → Bool) (s : Span) → IsSpan f s → s.from - s.idle ≡ count f 0 s.from
earlier_is f s is = let idle = is.idle in omega (arith, idle)

-- none behind so many, where no span that is left begins by then
few_left : (f : ℕ → Bool) (spans : List Span) (end since ticks at : ℕ) → Tell f spans end
    → ((s : Span) → slice_get spans at ≡ Some s → ticks < s.from - s.idle)
    → IsQuiet f since (slice_get spans at) end → count f 0 since ≤ ticks → count f 0 end ≤ ticks
few_left f spans end since ticks at tell next quiet few = by (slice_get spans at) refl
  where
    by : (o : Option Span) → slice_get spans at ≡ o → count f 0 end ≤ ticks
    by None e =
        let still : IsQuiet f since None end = subst (λ (o : Option Span). IsQuiet f since o end) e quiet in
        let same = count_same f since end still.order still.off in omega (arith, same, few)
    by (Some s) e =
        let still : IsQuiet f since (Some s) end = subst (λ (o : Option Span). IsQuiet f since o end) e quiet in
        let same = count_same f since s.from still.order still.off in
        let more = next s e in
        let earlier = earlier_is f s (tell.each at s e) in
        absurd (omega (arith, same, more, earlier, few))

pub nth_none : (f : ℕ → Bool) (spans : List Span) (end ticks at : ℕ) → Tell f spans end → IsPassed spans ticks at
    → at ≡ 0 → count f 0 end ≤ ticks
nth_none f spans end ticks at tell passed e =
    let first : IsQuiet f 0 (slice_get spans at) end =
    subst (λ n. IsQuiet f 0 (slice_get spans n) end) (sym e) tell.first in
    let none = count_first f in
    few_left f spans end 0 ticks at tell passed.next first (omega (arith, none))

-- the span that is passed last
pub record HasPassed (f : ℕ → Bool) (spans : List Span) (end ticks at : ℕ) (s : Span) : Type 0 where
  pub is : IsSpan f s
  pub within : s.until ≤ end
  pub few : s.from - s.idle ≤ ticks
  pub quiet : IsQuiet f s.until (slice_get spans at) end

pub last_passed : (f : ℕ → Bool) (spans : List Span) (end ticks at k : ℕ) (s : Span) → Tell f spans end
    → IsPassed spans ticks at → k + 1 ≡ at → slice_get spans k ≡ Some s → HasPassed f spans end ticks at s
last_passed f spans end ticks at k s tell passed e there = record {
  is = tell.each k s there;
  within = tell.within k s there;
  few = passed.last k s e there;
  quiet = subst (λ n. IsQuiet f s.until (slice_get spans n) end) e (tell.rest k s there);
}

pub passed_read : (f : ℕ → Bool) (spans : List Span) (end ticks at place : ℕ) (s : Span) → Tell f spans end
    → IsPassed spans ticks at → ¬ at ≡ 0 → place ≡ at - 1 → s ≡ get_or spans place s
    → HasPassed f spans end ticks at s
passed_read f spans end ticks at place s tell passed some e is =
    let within = passed.within in
    last_passed f spans end ticks at place s tell passed (omega (arith, some, e))
    (slice_get_read spans (length spans) place s refl (omega (arith, some, within, e)) is)

pub nth_here : (f : ℕ → Bool) (spans : List Span) (end ticks at : ℕ) (s : Span)
    → HasPassed f spans end ticks at s → ticks < s.until - s.idle → IsNthAt f ticks end (s.idle + ticks)
nth_here f spans end ticks at s has lt =
    let few = has.few in
    let idle = has.is.idle in
    let within = has.within in
    let count_is = upto_in f s (s.idle + ticks) has.is (omega (arith, few, idle)) (omega (arith, lt)) in record {
      within = omega (arith, lt, within);
      on = has.is.on (s.idle + ticks) (omega (arith, few, idle)) (omega (arith, lt));
      behind = omega (arith, count_is);
    }

pub nth_past : (f : ℕ → Bool) (spans : List Span) (end ticks at : ℕ) (s : Span) → Tell f spans end
    → IsPassed spans ticks at → HasPassed f spans end ticks at s → s.until - s.idle ≤ ticks → count f 0 end ≤ ticks
nth_past f spans end ticks at s tell passed has le =
    let some = has.is.some in
    let whole = upto_in f s s.until has.is (omega (arith, some)) (omega arith) in
    few_left f spans end s.until ticks at tell passed.next has.quiet (omega (arith, whole, le))

-- ---- so many since a tick

pub reach_now : (f : ℕ → Bool) (since ticks until : ℕ) → since ≤ until → ticks ≡ 0 → IsReach f since ticks until since
reach_now f since ticks until order none = record {
  begins = omega arith;
  ends = order;
  fewer = λ t lo hi. absurd (omega (arith, lo, hi));
  all = λ t lo hi. omega (arith, none);
}

pub reach_never : (f : ℕ → Bool) (since ticks until : ℕ) → since ≤ until → until - since ≤ ticks
    → IsReach f since ticks until until
reach_never f since ticks until order many = record {
  begins = order;
  ends = omega arith;
  fewer = λ t lo hi. let few = count_few f since (t - since) in omega (arith, lo, hi, few, many);
  all = λ t lo hi. absurd (omega (arith, lo, hi));
}

-- the last of them
pub reach_by : (f : ℕ → Bool) (end since ticks until before last : ℕ) → since ≤ until → 0 < ticks
    → before ≡ count f 0 since → last < until → IsNthAt f (before + (ticks - 1)) end last
    → IsReach f since ticks until (last + 1)
reach_by f end since ticks until before last order some is lt nth =
    let behind = nth.behind in
    let next = count_next f last nth.on in
    let late : since ≤ last = elim (cases_lt last since) [
      | inr le ↦ le
      | inl less ↦
          let up = count_up f (last + 1) since (omega (arith, less)) in
          absurd (omega (arith, up, next, behind, is, some))
    ] in
    record {
      begins = omega (arith, late);
      ends = omega (arith, lt);
      fewer = λ t lo hi.
          let split = count_apart f since t lo in
          let up = count_up f t last (omega (arith, hi)) in
          omega (arith, split, up, behind, is, some);
      all = λ t lo hi.
          let split = count_apart f since t (omega (arith, lo, late)) in
          let up = count_up f (last + 1) t lo in
          omega (arith, split, up, next, behind, is, some);
    }

pub reach_late : (f : ℕ → Bool) (end since ticks until before last : ℕ) → since ≤ until → 0 < ticks
    → before ≡ count f 0 since → until ≤ last → IsNthAt f (before + (ticks - 1)) end last
    → IsReach f since ticks until until
reach_late f end since ticks until before last order some is le nth =
    let behind = nth.behind in record {
      begins = order;
      ends = omega arith;
      fewer = λ t lo hi.
          let split = count_apart f since t lo in
          let up = count_up f t last (omega (arith, hi, le)) in
          omega (arith, split, up, behind, is, some);
      all = λ t lo hi. absurd (omega (arith, lo, hi));
    }

pub reach_none : (f : ℕ → Bool) (end since ticks until before : ℕ) → since ≤ until → until ≤ end → 0 < ticks
    → before ≡ count f 0 since → count f 0 end ≤ before + (ticks - 1) → IsReach f since ticks until until
reach_none f end since ticks until before order within some is few = record {
  begins = order;
  ends = omega arith;
  fewer = λ t lo hi.
      let split = count_apart f since t lo in
      let up = count_up f t end (omega (arith, hi, within)) in
      omega (arith, split, up, few, is, some);
  all = λ t lo hi. absurd (omega (arith, lo, hi));
}
