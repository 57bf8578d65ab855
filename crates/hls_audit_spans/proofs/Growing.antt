-- Spans that grow.
use Rattle.std.proofs.Common.{◌≡◌, ℕ, zero, suc, ◌+◌, ◌<◌, ◌≤◌, List, [], ◌∷◌, ◌++◌, Bool, false}
use Rattle.std.proofs.Common.{refl, sym, ap, ◌∙◌, subst, arith, inl, inr}
use Rattle.std.specs.Prelude.{Option, Some, None, slice_get}
use Rattle.std.proofs.lemmas.Bool.{cases_lt}
use Rattle.hls_audit_spans.specs.declared.span.Span.{Span}
use Rattle.hls_audit_spans.specs.Spans.{IsSpan, IsQuiet, Tell}

pub tell_none : (f : ℕ → Bool) → Tell f [] 0
tell_none f = record {
  first = record { order = omega arith; off = λ t lo hi. absurd (omega (arith, hi)) };
  each = λ k s there. absurd (cc);
  within = λ k s there. absurd (cc);
  rest = λ k s there. absurd (cc);
}

quiet_wider : (f : ℕ → Bool) (since end wide : ℕ) (next : Option Span) → end ≤ wide
    → ((t : ℕ) → end ≤ t → t < wide → f t ≡ false) → IsQuiet f since next end → IsQuiet f since next wide
quiet_wider f since end wide None le off quiet = record {
  order = let order = quiet.order in omega (arith, order, le);
  off = λ t lo hi. elim (cases_lt t end) [ inl lt ↦ quiet.off t lo lt | inr ge ↦ off t ge hi ];
}
quiet_wider f since end wide (Some s) le off quiet = record { order = quiet.order; off = quiet.off }

-- up to a later end, with no more ticks
pub tell_wider : (f : ℕ → Bool) (spans : List Span) (end wide : ℕ) → end ≤ wide
    → ((t : ℕ) → end ≤ t → t < wide → f t ≡ false) → Tell f spans end → Tell f spans wide
tell_wider f spans end wide le off tell = record {
  first = quiet_wider f 0 end wide (slice_get spans 0) le off tell.first;
  each = tell.each;
  within = λ k s there. let within = tell.within k s there in omega (arith, within, le);
  rest = λ k s there. quiet_wider f s.until end wide (slice_get spans (k + 1)) le off (tell.rest k s there);
}

-- ---- one span more

-- where it stands in the longer list
data IsWhere (spans : List Span) (s : Span) (k : ℕ) (x : Span) : Type 0 where
  Old : slice_get spans k ≡ Some x → (n : Span) → slice_get spans (suc k) ≡ Some n
      → slice_get (spans ++ s ∷ []) (suc k) ≡ Some n → IsWhere spans s k x
  Last : slice_get spans k ≡ Some x → slice_get spans (suc k) ≡ None
      → slice_get (spans ++ s ∷ []) (suc k) ≡ Some s → IsWhere spans s k x
  New : x ≡ s → slice_get (spans ++ s ∷ []) (suc k) ≡ None → IsWhere spans s k x

where_is : (spans : List Span) (s : Span) (k : ℕ) (x : Span) → slice_get (spans ++ s ∷ []) k ≡ Some x
    → IsWhere spans s k x
where_is [] s zero x there = let one : s ≡ x = cc in New (sym one) refl
where_is [] s (suc k) x there = absurd (cc)
where_is (a ∷ []) s zero x there = Last there refl refl
where_is (a ∷ b ∷ rest) s zero x there = Old there b refl refl
where_is (a ∷ rest) s (suc k) x there = by (where_is rest s k x there)
  where
    by : IsWhere rest s k x → IsWhere (a ∷ rest) s (suc k) x
    by (Old here n had next) = Old here n had next
    by (Last here none next) = Last here none next
    by (New is none) = New is none

up : (spans : List Span) (k : ℕ) → slice_get spans (k + 1) ≡ slice_get spans (suc k)
up spans k = let same : k + 1 ≡ suc k = omega arith in ap (slice_get spans) same

first_more : (f : ℕ → Bool) (spans : List Span) (s : Span) (end until : ℕ) → s.from ≡ end
    → IsQuiet f 0 (slice_get spans 0) end → IsQuiet f 0 (slice_get (spans ++ s ∷ []) 0) until
first_more f [] s end until at quiet = record {
  order = omega arith;
  off = λ t lo hi. quiet.off t lo (omega (arith, hi, at));
}
first_more f (a ∷ spans) s end until at quiet = record { order = quiet.order; off = quiet.off }

pub tell_more : (f : ℕ → Bool) (spans new : List Span) (s : Span) (end : ℕ) → new ≡ spans ++ s ∷ [] → s.from ≡ end
    → IsSpan f s → Tell f spans end → Tell f new s.until
tell_more f spans new s end made at is tell =
    subst (λ (l : List Span). Tell f l s.until) (sym made) (record {
      first = first_more f spans s end s.until at tell.first;
      each = λ k x there. each k x (where_is spans s k x there);
      within = λ k x there. within k x (where_is spans s k x there);
      rest = λ k x there. rest k x (where_is spans s k x there);
    })
  where
    each : (k : ℕ) (x : Span) → IsWhere spans s k x → IsSpan f x
    each k x (Old here n had next) = tell.each k x here
    each k x (Last here none next) = tell.each k x here
    each k x (New same none) = subst (IsSpan f) (sym same) is

    within : (k : ℕ) (x : Span) → IsWhere spans s k x → x.until ≤ s.until
    within k x (Old here n had next) =
        let le = tell.within k x here in let some = is.some in omega (arith, le, some, at)
    within k x (Last here none next) =
        let le = tell.within k x here in let some = is.some in omega (arith, le, some, at)
    within k x (New same none) = subst (λ (y : Span). y.until ≤ s.until) (sym same) (omega arith)

    rest : (k : ℕ) (x : Span) → IsWhere spans s k x
        → IsQuiet f x.until (slice_get (spans ++ s ∷ []) (k + 1)) s.until
    rest k x (Old here n had next) =
        let some : IsQuiet f x.until (Some n) end =
        subst (λ (o : Option Span). IsQuiet f x.until o end) (up spans k ∙ had) (tell.rest k x here) in
        subst (λ (o : Option Span). IsQuiet f x.until o s.until) (sym (up (spans ++ s ∷ []) k ∙ next))
        (record { order = some.order; off = some.off })
    rest k x (Last here none next) =
        let quiet : IsQuiet f x.until None end =
        subst (λ (o : Option Span). IsQuiet f x.until o end) (up spans k ∙ none) (tell.rest k x here) in
        subst (λ (o : Option Span). IsQuiet f x.until o s.until) (sym (up (spans ++ s ∷ []) k ∙ next)) (record {
          order = let order = quiet.order in omega (arith, order, at);
          off = λ t lo hi. quiet.off t lo (omega (arith, hi, at));
        })
    rest k x (New same none) =
        subst (λ (o : Option Span). IsQuiet f x.until o s.until) (sym (up (spans ++ s ∷ []) k ∙ none))
        (subst (λ (y : Span). IsQuiet f y.until None s.until) (sym same)
        (record { order = omega arith; off = λ t lo hi. absurd (omega (arith, lo, hi)) }))
