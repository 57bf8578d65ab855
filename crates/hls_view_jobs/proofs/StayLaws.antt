-- The stay that has all ticks of a job, among those of its thread.
use Rattle.std.proofs.Common.{◌≡◌, ℕ, zero, suc, ◌+◌, ◌<◌, List, [], ◌∷◌, true, inl, inr, refl, sym}
use Rattle.std.proofs.Common.{ap, ◌∙◌, arith, filter, find}
use Rattle.std.specs.Prelude.{nat_le, Option, Some, None, ◌&&◌}
use Rattle.std.proofs.lemmas.Bool.{cases_Bool, leb-true, lt-ltb}
use Rattle.hls_text.specs.Lines.{Text}
use Rattle.hls_text.proofs.NumberLaws.{and_left, and_right}
use Rattle.hls_report_text.specs.Content.{Content}
use Rattle.hls_legal.specs.declared.stay.Stay.{Stay}
use Rattle.hls_legal.specs.Stays.{stays}
use Rattle.hls_legal.specs.Accounts.{end_by}
use Rattle.hls_audit_stays.specs.Found.{lasts, is_later}
use Rattle.hls_view_jobs.specs.Jobs.{is_of, has_ticks, stay_with}
use Rattle.hls_view_jobs.specs.Inside.Sound.{AreStaysOf, stay_among}

later_by : (horizon since : ℕ) (end : Option ℕ) → since < end_by horizon end → is_later since end ≡ true
later_by horizon since None lt = refl
later_by horizon since (Some until) lt = lt-ltb since until lt

-- a stay that has a tick lasts
lasts_with : (horizon from n : ℕ) (s : Stay) → has_ticks horizon from (suc n) s ≡ true → lasts s ≡ true
lasts_with horizon from n s has =
    let begins = leb-true s.since from
    (and_left (nat_le s.since from) (nat_le (from + suc n) (end_by horizon s.until)) has) in
    let ends = leb-true (from + suc n) (end_by horizon s.until)
    (and_right (nat_le s.since from) (nat_le (from + suc n) (end_by horizon s.until)) has) in
    later_by horizon s.since s.until (omega (arith, begins, ends))

found_among : (name : Text) (horizon from n : ℕ) (all : List Stay)
    → find (λ (s : Stay). is_of name s && has_ticks horizon from (suc n) s) all
    ≡ find (has_ticks horizon from (suc n)) (filter (is_of name) (filter lasts all))
found_among name horizon from n [] = refl
found_among name horizon from n (s ∷ all) =
    let rest = found_among name horizon from n all in
    elim (cases_Bool (has_ticks horizon from (suc n) s)) [
      | inl has ↦
          let last = lasts_with horizon from n s has in
          elim (cases_Bool (is_of name s)) [
            | inl named ↦ rw (last, named, has) refl
            | inr other ↦ rw (last, other) rest
          ]
      | inr not ↦
          elim (cases_Bool (is_of name s)) [
            | inl named ↦ elim (cases_Bool (lasts s)) [
              | inl last ↦ rw (last, named, not) rest
              | inr short ↦ rw (short, named, not) rest
            ]
            | inr other ↦ elim (cases_Bool (lasts s)) [
              | inl last ↦ rw (last, other) rest
              | inr short ↦ rw (short, other) rest
            ]
          ]
    ]

pub stay_found : (c : Content) (name : Text) (from ticks : ℕ) (all : List Stay) → AreStaysOf c name all
    → stay_among c.horizon from ticks all ≡ stay_with c name from ticks
stay_found c name from zero all are = refl
stay_found c name from (suc n) all are =
    ap (λ (l : List Stay). find (has_ticks c.horizon from (suc n)) l) are.named
    ∙ sym (found_among name c.horizon from n (stays c.answered))
