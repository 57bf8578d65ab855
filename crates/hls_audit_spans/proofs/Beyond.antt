-- Ticks that are not among others.
use Rattle.std.proofs.Common.{◌≡◌, ℕ, zero, suc, ◌+◌, ◌-◌, ◌<◌, ◌≤◌, List, Bool, true, false, length, get_or}
use Rattle.std.proofs.Common.{refl, sym, ◌∙◌, subst, arith, inl, inr}
use Rattle.std.specs.Prelude.{Option, Some, None, slice_get, is_some, min, max}
use Rattle.std.proofs.lemmas.Bool.{cases_lt}
use Rattle.std.proofs.lemmas.Option.{slice_get_read, slice_get_past, slice_get_cases}
use Rattle.hls_audit_spans.specs.declared.span.Span.{Span}
use Rattle.hls_audit_spans.specs.Spans.{start, IsQuiet, Tell, IsNextAt, IsNext, IsBeyond, IsBeyondInAt, IsBeyondIn}
use Rattle.hls_audit_spans.specs.Inside.Places.{IsBegun}

-- ---- before an end

pub before_next : (f : ℕ → Bool) (tick until end next : ℕ) → next < until → IsNextAt f tick end next
    → IsNextAt f tick until next
before_next f tick until end next lt at = record { behind = at.behind; within = lt; on = at.on; none = at.none }

pub before_past : (f : ℕ → Bool) (tick until end next : ℕ) → until ≤ next → IsNextAt f tick end next
    → (t : ℕ) → tick ≤ t → t < until → f t ≡ false
before_past f tick until end next le at t lo hi = at.none t lo (omega (arith, hi, le))

-- ---- from one tick on all before some other are among the others, and none of these comes before their next span

pub record IsWithin (f g : ℕ → Bool) (since : ℕ) (next : Option Span) (end from : ℕ) : Type 0 where
  pub begins : since ≤ from
  pub early : from ≤ end
  pub off : (t : ℕ) → from ≤ t → t < start next end → g t ≡ false
  pub none : (t : ℕ) → since ≤ t → t < from → f t ≡ true → g t ≡ true

-- the span that begins last, or the first one
pub within_first : (f g : ℕ → Bool) (others : List Span) (end since begun at : ℕ) → Tell g others end
    → IsBegun others since begun → at ≡ begun - 1 → since ≤ end → IsWithin f g since (slice_get others at) end since
within_first f g others end since zero at tell is e le =
    let first : at ≡ 0 = omega (arith, e) in
    subst (λ n. IsWithin f g since (slice_get others n) end since) (sym first) (record {
      begins = omega arith;
      early = le;
      off = λ t lo hi. tell.first.off t (omega arith) hi;
      none = λ t lo hi. absurd (omega (arith, lo, hi));
    })
within_first f g others end since (suc k) at tell is e le =
    let same : at ≡ k = omega (arith, e) in
    subst (λ n. IsWithin f g since (slice_get others n) end since) (sym same) (elim (slice_get_cases others k).1 [
      | inl found ↦
          let up : k + 1 ≡ suc k = omega arith in
          let begins = is.last k found.0 up found.2 in
          subst (λ (o : Option Span). IsWithin f g since o end since) (sym found.2) (record {
            begins = omega arith;
            early = le;
            off = λ t lo hi. absurd (omega (arith, begins, lo, hi));
            none = λ t lo hi. absurd (omega (arith, lo, hi));
          })
      | inr past ↦ absurd (let le = past.0 in let within = is.within in omega (arith, le, within))
    ])

pub read : (others : List Span) (at : ℕ) (s : Span) → at < length others → s ≡ get_or others at s
    → slice_get others at ≡ Some s
read others at s lt is = slice_get_read others (length others) at s refl lt is

pub ends_within : (g : ℕ → Bool) (others : List Span) (end at : ℕ) (s : Span) → Tell g others end
    → at < length others → s ≡ get_or others at s → s.until ≤ end
ends_within g others end at s tell lt is = tell.within at s (read others at s lt is)

-- one that is found before a span
beyond_here : (f g : ℕ → Bool) (others : List Span) (end since until from at beyond : ℕ) (s : Span)
    → slice_get others at ≡ Some s → IsWithin f g since (slice_get others at) end from
    → IsNextAt f from (min s.from until) beyond → IsBeyondInAt f g since until beyond
beyond_here f g others end since until from at beyond s there within next =
    let begins = within.begins in
    let behind = next.behind in
    let before = next.within in record {
      behind = omega (arith, begins, behind);
      within = omega (arith, before);
      on = next.on;
      off = within.off beyond behind
          (subst (λ (o : Option Span). beyond < start o end) (sym there) (omega (arith, before)));
      none = λ t lo less on. elim (cases_lt t from) [
        | inl old ↦ within.none t lo old on
        | inr new ↦ absurd (let wrong : true ≡ false = sym on ∙ next.none t new less in cc)
      ];
    }

pub some_beyond : (f g : ℕ → Bool) (others : List Span) (end since until from at most : ℕ) (s : Span)
    (beyond : Option ℕ) → at < length others → s ≡ get_or others at s → most ≡ min s.from until
    → IsWithin f g since (slice_get others at) end from → is_some beyond ≡ true → IsNext f from most beyond
    → IsBeyondIn f g since until beyond
some_beyond f g others end since until from at most s None lt is least within some next =
    absurd (let wrong : false ≡ true = some in cc)
some_beyond f g others end since until from at most s (Some beyond) lt is least within some next =
    beyond_here f g others end since until from at beyond s (read others at s lt is) within
    (subst (λ n. IsNextAt f from n beyond) least next)

pub none_beyond : (f : ℕ → Bool) (from until : ℕ) (beyond : Option ℕ) → is_some beyond ≡ false
    → IsNext f from until beyond → (t : ℕ) → from ≤ t → t < until → f t ≡ false
none_beyond f from until None off next = next
none_beyond f from until (Some beyond) off next = absurd (let wrong : true ≡ false = off in cc)

-- a span more, before which there are none of them
among_more : (f g : ℕ → Bool) (others : List Span) (end since until from at t : ℕ) (s : Span) → Tell g others end
    → slice_get others at ≡ Some s → ((t : ℕ) → from ≤ t → t < min s.from until → f t ≡ false)
    → IsWithin f g since (slice_get others at) end from → since ≤ t → t < until → (from ≤ t → t < s.until)
    → f t ≡ true → g t ≡ true
among_more f g others end since until from at t s tell there none within lo hi ends on = elim (cases_lt t from) [
  | inl old ↦ within.none t lo old on
  | inr new ↦ elim (cases_lt t s.from) [
    | inl early ↦ absurd (let wrong : true ≡ false = sym on ∙ none t new (omega (arith, early, hi)) in cc)
    | inr in_span ↦ (tell.each at s there).on t in_span (ends new)
  ]
]

pub within_more : (f g : ℕ → Bool) (others : List Span) (end since until from at most next : ℕ) (s : Span)
    → Tell g others end → at < length others → s ≡ get_or others at s → most ≡ min s.from until → s.until < until
    → next ≡ max from s.until → ((t : ℕ) → from ≤ t → t < most → f t ≡ false)
    → IsWithin f g since (slice_get others at) end from → IsWithin f g since (slice_get others (at + 1)) end next
within_more f g others end since until from at most next s tell lt is least past e none within =
    let there = read others at s lt is in
    let begins = within.begins in
    let early = within.early in
    let ends = tell.within at s there in
    record {
      begins = omega (arith, e, begins);
      early = omega (arith, e, early, ends);
      off = λ t lo hi. (tell.rest at s there).off t (omega (arith, e, lo)) hi;
      none = λ t lo hi on. elim (cases_lt t from) [
        | inl old ↦ within.none t lo old on
        | inr new ↦
            among_more f g others end since until from at t s tell there
            (λ u a b. none u a (omega (arith, b, least))) within lo (omega (arith, hi, e, new, past))
            (λ late. omega (arith, hi, e, late)) on
      ];
    }

-- the last span that matters
pub among_all : (f g : ℕ → Bool) (others : List Span) (end since until from at most : ℕ) (s : Span)
    → Tell g others end → at < length others → s ≡ get_or others at s → most ≡ min s.from until → until ≤ s.until
    → ((t : ℕ) → from ≤ t → t < most → f t ≡ false) → IsWithin f g since (slice_get others at) end from
    → IsBeyondIn f g since until None
among_all f g others end since until from at most s tell lt is least far none within t lo hi on =
    among_more f g others end since until from at t s tell (read others at s lt is)
    (λ u a b. none u a (omega (arith, b, least))) within lo hi (λ late. omega (arith, hi, far)) on

pub beyond_end : (f g : ℕ → Bool) (others : List Span) (end since until from at : ℕ) (next : Option ℕ)
    → length others ≤ at → until ≤ end → IsWithin f g since (slice_get others at) end from
    → IsNext f from until next → IsBeyondIn f g since until next
beyond_end f g others end since until from at None past le within none = λ t lo hi on. elim (cases_lt t from) [
  | inl old ↦ within.none t lo old on
  | inr new ↦ absurd (let wrong : true ≡ false = sym on ∙ none t new hi in cc)
]
beyond_end f g others end since until from at (Some next) past le within is =
    let begins = within.begins in
    let behind = is.behind in
    let before = is.within in record {
      behind = omega (arith, begins, behind);
      within = before;
      on = is.on;
      off = within.off next behind (subst (λ (o : Option Span). next < start o end)
          (sym (slice_get_past others at past)) (omega (arith, before, le)));
      none = λ t lo less on. elim (cases_lt t from) [
        | inl old ↦ within.none t lo old on
        | inr new ↦ absurd (let wrong : true ≡ false = sym on ∙ is.none t new less in cc)
      ];
    }

-- ---- with no bounds

pub beyond_whole : (f g : ℕ → Bool) (last end : ℕ) (beyond : Option ℕ) → IsQuiet f last None end
    → IsBeyondIn f g 0 last beyond → IsBeyond f g end beyond
beyond_whole f g last end None quiet all = λ t lt on. elim (cases_lt t last) [
  | inl early ↦ all t (omega arith) early on
  | inr late ↦ absurd (let wrong : true ≡ false = sym on ∙ quiet.off t late lt in cc)
]
beyond_whole f g last end (Some beyond) quiet is =
    let order = quiet.order in
    let within = is.within in record {
      within = omega (arith, within, order);
      on = is.on;
      off = is.off;
      none = λ t less on. is.none t (omega arith) less on;
    }

-- behind the last span, if there is one
pub quiet_last : (f : ℕ → Bool) (spans : List Span) (end last : ℕ) (s : Span) → Tell f spans end
    → last ≡ length spans - 1 → slice_get spans last ≡ Some s → IsQuiet f s.until None end
quiet_last f spans end last s tell is there =
    subst (λ (o : Option Span). IsQuiet f s.until o end) (slice_get_past spans (last + 1) (omega (arith, is)))
    (tell.rest last s there)

pub quiet_none : (f : ℕ → Bool) (spans : List Span) (end : ℕ) → Tell f spans end → length spans ≡ 0
    → IsQuiet f 0 None end
quiet_none f spans end tell none =
    subst (λ (o : Option Span). IsQuiet f 0 o end) (slice_get_past spans 0 (omega (arith, none))) tell.first
