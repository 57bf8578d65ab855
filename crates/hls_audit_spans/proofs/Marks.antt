-- A list in which the ticks of spans are marked.
use Rattle.std.proofs.Common.{◌≡◌, ℕ, zero, suc, ◌+◌, ◌-◌, ◌<◌, ◌≤◌, List, Bool, true, false, length, get_or, set}
use Rattle.std.proofs.Common.{refl, sym, ◌∙◌, subst, arith, inl, inr, get_or-set_same, get_or-set_other}
use Rattle.std.specs.Prelude.{Option, Some, None, slice_get, min}
use Rattle.std.proofs.lemmas.Bool.{cases_lt}
use Rattle.std.proofs.lemmas.Option.{slice_get_cases, slice_get_past}
use Rattle.hls_audit_spans.specs.declared.span.Span.{Span}
use Rattle.hls_audit_spans.specs.Spans.{start, Tell, AreTicks}
use Rattle.hls_audit_spans.specs.Inside.Places.{IsBegun}

-- ---- one place

pub set_here : (xs : List Bool) (at t : ℕ) → at < length xs → t ≡ at → get_or (set xs at true) t false ≡ true
set_here xs at t within e = rw e (rw get_or-set_same refl)

pub set_there : (xs : List Bool) (at t : ℕ) → (t ≡ at → ⊥) → get_or (set xs at true) t false ≡ get_or xs t false
set_there xs at t ne = rw get_or-set_other refl

-- ---- all ticks before the next span are told, and no place behind is marked

pub record IsMarked (f : ℕ → Bool) (from : ℕ) (list : List Bool) (next : Option Span) (end : ℕ) : Type 0 where
  pub done : (t : ℕ) → t < length list → t + from < start next end → get_or list t false ≡ f (t + from)
  pub left : (t : ℕ) → start next end ≤ t + from → get_or list t false ≡ false

marked_before : (f : ℕ → Bool) (from end : ℕ) (list : List Bool) (next : Option Span) → start next end ≤ from
    → ((t : ℕ) → get_or list t false ≡ false) → IsMarked f from list next end
marked_before f from end list next le blank = record {
  done = λ t lt early. absurd (omega (arith, le, early));
  left = λ t late. blank t;
}

pub marked_none : (f : ℕ → Bool) (spans : List Span) (from end begun at : ℕ) (list : List Bool) → Tell f spans end
    → IsBegun spans from begun → at ≡ begun - 1 → ((t : ℕ) → get_or list t false ≡ false)
    → IsMarked f from list (slice_get spans at) end
marked_none f spans from end zero at list tell is e blank =
    let first : at ≡ 0 = omega (arith, e) in
    subst (λ n. IsMarked f from list (slice_get spans n) end) (sym first) (record {
      done = λ t lt early. blank t ∙ sym (tell.first.off (t + from) (omega arith) early);
      left = λ t late. blank t;
    })
marked_none f spans from end (suc k) at list tell is e blank =
    let same : at ≡ k = omega (arith, e) in
    subst (λ n. IsMarked f from list (slice_get spans n) end) (sym same) (elim (slice_get_cases spans k).1 [
      | inl g ↦
          let up : k + 1 ≡ suc k = omega arith in
          let begins = is.last k g.0 up g.2 in
          subst (λ (o : Option Span). IsMarked f from list o end) (sym g.2)
          (marked_before f from end list (Some g.0) begins blank)
      | inr past ↦ absurd (let le = past.0 in let within = is.within in omega (arith, le, within))
    ])

pub marked_more : (f : ℕ → Bool) (spans : List Span) (from until end at begin stop : ℕ) (s : Span)
    (list new : List Bool) → Tell f spans end → slice_get spans at ≡ Some s → from + length list ≡ until
    → begin ≡ s.from - from → stop ≡ min s.until until - from → length new ≡ length list
    → ((t : ℕ) → begin ≤ t → t < stop → get_or new t false ≡ true)
    → ((t : ℕ) → t < begin → get_or new t false ≡ get_or list t false)
    → ((t : ℕ) → stop ≤ t → get_or new t false ≡ get_or list t false)
    → IsMarked f from list (slice_get spans at) end → IsMarked f from new (slice_get spans (at + 1)) end
marked_more f spans from until end at begin stop s list new tell there long begin_is stop_is same on before behind
    marked =
    let old : IsMarked f from list (Some s) end =
    subst (λ (o : Option Span). IsMarked f from list o end) there marked in
    let rest = tell.rest at s there in
    let is = tell.each at s there in
    let some = is.some in
    let order = rest.order in
    record {
      done = λ t lt early. elim (cases_lt (t + from) s.from) [
        | inl ahead ↦ before t (omega (arith, ahead, begin_is)) ∙ old.done t (omega (arith, lt, same)) ahead
        | inr begun ↦ elim (cases_lt (t + from) s.until) [
          | inl inside ↦
              on t (omega (arith, begun, begin_is)) (omega (arith, inside, stop_is, lt, same, long))
              ∙ sym (is.on (t + from) begun inside)
          | inr past ↦
              behind t (omega (arith, past, stop_is)) ∙ old.left t begun ∙ sym (rest.off (t + from) past early)
        ]
      ];
      left = λ t late.
          behind t (omega (arith, late, order, stop_is)) ∙ old.left t (omega (arith, late, order, some));
    }

pub marked_ticks : (f : ℕ → Bool) (from until end : ℕ) (list : List Bool) (next : Option Span)
    → from + length list ≡ until → until ≤ start next end → IsMarked f from list next end → AreTicks f from list
marked_ticks f from until end list next long late marked =
    record { each = λ t lt. marked.done t lt (omega (arith, lt, long, late)) }

-- the next span begins too late, or there is none
pub marked_soon : (f : ℕ → Bool) (spans : List Span) (from until end at : ℕ) (s : Span) (list : List Bool)
    → slice_get spans at ≡ Some s → from + length list ≡ until → until ≤ s.from
    → IsMarked f from list (slice_get spans at) end → AreTicks f from list
marked_soon f spans from until end at s list there long late marked =
    marked_ticks f from until end list (Some s) long late
    (subst (λ (o : Option Span). IsMarked f from list o end) there marked)

pub marked_all : (f : ℕ → Bool) (spans : List Span) (from until end at : ℕ) (list : List Bool) → length spans ≤ at
    → from + length list ≡ until → until ≤ end → IsMarked f from list (slice_get spans at) end → AreTicks f from list
marked_all f spans from until end at list past long late marked =
    marked_ticks f from until end list None long late
    (subst (λ (o : Option Span). IsMarked f from list o end) (slice_get_past spans at past) marked)
