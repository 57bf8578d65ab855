-- What spans tell of a tick.
use Rattle.std.proofs.Common.{◌≡◌, ℕ, zero, suc, ◌+◌, ◌-◌, ◌<◌, ◌≤◌, List, Bool, true, false}
use Rattle.std.proofs.Common.{length, get_or}
use Rattle.std.proofs.Common.{refl, sym, ap, ◌∙◌, subst, arith, inl, inr}
use Rattle.std.specs.Prelude.{Option, Some, None, slice_get, min, nat_lt}
use Rattle.std.proofs.Math.Nat.{min-eq_left, min-eq_right}
use Rattle.std.proofs.lemmas.Bool.{cases_lt, ltb-true, ltb-false}
use Rattle.std.proofs.lemmas.Option.{slice_get_cases, get_or_from_slice_get, slice_get_read}
use Rattle.std.proofs.lemmas.Option.{slice_get_past, slice_get_within}
use Rattle.hls_chron.specs.Ticks.{count}
use Rattle.hls_audit_spans.specs.declared.span.Span.{Span}
use Rattle.hls_audit_spans.specs.Spans.{IsSpan, start, IsQuiet, Tell}
use Rattle.hls_audit_spans.specs.Inside.Places.{IsBegun, ends_behind, is_in}
use Rattle.hls_audit_spans.proofs.Counts.{count_all, count_same, count_first}

-- a tick in a span
pub upto_in : (f : ℕ → Bool) (s : Span) (t : ℕ) → IsSpan f s → s.from ≤ t → t ≤ s.until → s.idle + count f 0 t ≡ t
upto_in f s t is lo hi =
    let all = count_all f s.from t lo (λ k a b. is.on k a (omega (arith, b, hi))) in
    let idle = is.idle in omega (arith, all, idle)

-- before the next span, or before the end
pub ahead : (next : Option Span) (t end : ℕ) → ((s : Span) → next ≡ Some s → t < s.from) → t ≤ end → t ≤ start next end
ahead None t end less le = le
ahead (Some s) t end less le = let lt = less s refl in omega (arith, lt)

pub ahead_lt : (next : Option Span) (t end : ℕ) → ((s : Span) → next ≡ Some s → t < s.from) → t < end
    → t < start next end
ahead_lt None t end less lt = lt
ahead_lt (Some s) t end less lt = less s refl

-- the span that begins last
pub record HasLast (f : ℕ → Bool) (spans : List Span) (end tick at : ℕ) : Type 0 where
  pub s : Span
  pub k : ℕ
  pub place : at ≡ k + 1
  pub there : slice_get spans k ≡ Some s
  pub begins : s.from ≤ tick
  pub is : IsSpan f s
  pub within : s.until ≤ end
  pub quiet : IsQuiet f s.until (slice_get spans at) end

pub last_span : (f : ℕ → Bool) (spans : List Span) (end tick at : ℕ) → Tell f spans end → IsBegun spans tick at
    → 0 < at → HasLast f spans end tick at
last_span f spans end tick zero tell begun some = absurd (omega (arith, some))
last_span f spans end tick (suc k) tell begun some = elim (slice_get_cases spans k).1 [
  | inl g ↦
      let up : k + 1 ≡ suc k = omega arith in
      record {
        s = g.0;
        k = k;
        place = sym up;
        there = g.2;
        begins = begun.last k g.0 up g.2;
        is = tell.each k g.0 g.2;
        within = tell.within k g.0 g.2;
        quiet = subst (λ n. IsQuiet f g.0.until (slice_get spans n) end) up (tell.rest k g.0 g.2);
      }
  | inr past ↦ absurd (let le = past.0 in let within = begun.within in omega (arith, le, within))
]

-- the span that is read at its place
pub last_read : (f : ℕ → Bool) (spans : List Span) (end tick at place : ℕ) (here : Span)
    → (last : HasLast f spans end tick at) → place ≡ at - 1 → here ≡ get_or spans place here → here ≡ last.s
last_read f spans end tick at place here last e is =
    let there = last.there in
    let up = last.place in
    let same : place ≡ last.k = omega (arith, e, up) in
    is ∙ ap (λ n. get_or spans n here) same ∙ get_or_from_slice_get spans last.k last.s here there

-- all spans begin before the end
pub begun_all : (f : ℕ → Bool) (spans : List Span) (end at : ℕ) → at ≡ length spans → Tell f spans end
    → IsBegun spans end at
begun_all f spans end at is tell = record {
  within = omega (arith, is);
  last = λ k s up there.
      let some = (tell.each k s there).some in
      let within = tell.within k s there in omega (arith, some, within);
  next = λ s there. let lt = slice_get_within spans at s there in absurd (omega (arith, lt, is));
}

-- ---- how many before a tick

pub before_none : (f : ℕ → Bool) (spans : List Span) (end tick : ℕ) → Tell f spans end → IsBegun spans tick 0
    → tick ≤ end → 0 ≡ count f 0 tick
before_none f spans end tick tell begun le =
    let reach = ahead (slice_get spans 0) tick end begun.next le in
    let none = count_same f 0 tick (omega arith)
    (λ k lo hi. tell.first.off k lo (omega (arith, hi, reach))) in
    sym (none ∙ count_first f)

pub before_some : (f : ℕ → Bool) (spans : List Span) (end tick at : ℕ) (here : Span) (got : ℕ) → Tell f spans end
    → IsBegun spans tick at → tick ≤ end → (last : HasLast f spans end tick at) → here ≡ last.s
    → got ≡ min tick here.until - here.idle → got ≡ count f 0 tick
before_some f spans end tick at here got tell begun le last same is =
    let s = last.s in
    let told : got ≡ min tick s.until - s.idle =
    is ∙ ap (λ (x : Span). min tick x.until - x.idle) same in
    elim (cases_lt s.until tick) [
      | inl past ↦
          let least : min tick s.until ≡ s.until = min-eq_right (omega (arith, past)) in
          let some = last.is.some in
          let whole = upto_in f s s.until last.is (omega (arith, some)) (omega arith) in
          let reach = ahead (slice_get spans at) tick end begun.next le in
          let rest = count_same f s.until tick (omega (arith, past))
          (λ k lo hi. last.quiet.off k lo (omega (arith, hi, reach))) in
          told ∙ ap (λ n. n - s.idle) least ∙ omega (arith, whole, rest)
      | inr within ↦
          let least : min tick s.until ≡ tick = min-eq_left within in
          let part = upto_in f s tick last.is last.begins within in
          told ∙ ap (λ n. n - s.idle) least ∙ omega (arith, part)
    ]

-- ---- whether a tick is one

in_last : (f : ℕ → Bool) (spans : List Span) (end tick at : ℕ) (last : HasLast f spans end tick at)
    → is_in spans at tick ≡ nat_lt tick last.s.until
in_last f spans end tick at last =
    let up : suc last.k ≡ at = let place = last.place in omega (arith, place) in
    sym (ap (λ n. is_in spans n tick) up) ∙ ap (λ (o : Option Span). ends_behind o tick) last.there

pub record IsOne (f : ℕ → Bool) (tick end : ℕ) : Type 0 where
  pub on : f tick ≡ true
  pub within : tick < end

some_in : (spans : List Span) (at tick : ℕ) → is_in spans at tick ≡ true → 0 < at
some_in spans zero tick on = absurd (let wrong : false ≡ true = on in cc)
some_in spans (suc k) tick on = omega arith

pub in_here : (f : ℕ → Bool) (spans : List Span) (end tick at : ℕ) → Tell f spans end → IsBegun spans tick at
    → is_in spans at tick ≡ true → IsOne f tick end
in_here f spans end tick at tell begun on =
    let last = last_span f spans end tick at tell begun (some_in spans at tick on) in
    let lt = ltb-true tick last.s.until (sym (in_last f spans end tick at last) ∙ on) in
    let within = last.within in
    record { on = last.is.on tick last.begins lt; within = omega (arith, lt, within) }

pub out_between : (f : ℕ → Bool) (spans : List Span) (end tick at : ℕ) → Tell f spans end → IsBegun spans tick at
    → is_in spans at tick ≡ false → (t : ℕ) → tick ≤ t → t < start (slice_get spans at) end → f t ≡ false
out_between f spans end tick at tell begun off t lo hi = elim (cases_lt 0 at) [
  | inr none ↦
      let zero_at : at ≡ 0 = omega (arith, none) in
      tell.first.off t (omega arith) (subst (λ n. t < start (slice_get spans n) end) zero_at hi)
  | inl some ↦
      let last = last_span f spans end tick at tell begun some in
      let past = ltb-false tick last.s.until (sym (in_last f spans end tick at last) ∙ off) in
      last.quiet.off t (omega (arith, past, lo)) hi
]

pub in_is : (f : ℕ → Bool) (spans : List Span) (end tick at : ℕ) → Tell f spans end → IsBegun spans tick at
    → tick < end → (b : Bool) → is_in spans at tick ≡ b → b ≡ f tick
in_is f spans end tick at tell begun lt true on = sym (in_here f spans end tick at tell begun on).on
in_is f spans end tick at tell begun lt false off =
    sym (out_between f spans end tick at tell begun off tick (omega arith)
    (ahead_lt (slice_get spans at) tick end begun.next lt))

-- a place that is read
pub read_some : (spans items : List Span) (at : ℕ) (s : Span) → items ≡ spans → true ≡ nat_lt at (length items)
    → s ≡ get_or items at s → slice_get spans at ≡ Some s
read_some spans items at s same lt is =
    subst (λ (l : List Span). slice_get l at ≡ Some s) same
    (slice_get_read items (length items) at s refl (ltb-true at (length items) (sym lt)) is)

pub read_none : (spans items : List Span) (at : ℕ) → items ≡ spans → length items ≤ at → slice_get spans at ≡ None
read_none spans items at same past =
    subst (λ (l : List Span). slice_get l at ≡ None) same (slice_get_past items at past)
