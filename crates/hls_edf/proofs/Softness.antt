-- What each call leaves of whether a seat is soft.
use Rattle.std.proofs.Common.{◌≡◌, ℕ, Option, Some, Bool, true, false, refl, sym, ap, ◌∙◌, inl, inr, []}
use Rattle.std.specs.Prelude.{◌||◌, not}
use Rattle.std.proofs.lemmas.Bool.{cases_eq}
use Rattle.hls_chron.specs.declared.plain.Terms.{Terms}
use Rattle.hls_chron.specs.declared.plain.Terms.TheVariants.{Res}
use Rattle.hls_chron.specs.Ledger.{Ledger}
use Rattle.hls_chron.proofs.BookLaws.{terms_at-mark, terms_at-row, terms_at-same, terms_at-unmarked}
use Rattle.hls_sched.specs.Seen.{Seen, seated, left, settled, turned, leapt}
use Rattle.hls_box.proofs.Sounds.{seat_same, seat_other, leave_same, leave_other}
use Rattle.hls_edf.specs.Choice.{soft_in}
use Rattle.hls_edf.specs.Inside.Outlook.{IsHard}

pub hard_new : (soft : Bool) (b : Ledger) → b.marks ≡ [] → IsHard soft b
hard_new soft b marks = record { hard = λ off slot lt. ap soft_in (terms_at-unmarked b slot marks) }

pub hard_turn : (soft : Bool) (s t : Seen) (choice : Option ℕ) → t ≡ turned choice s → IsHard soft s.book
    → IsHard soft t.book
hard_turn soft s t choice is are = rw is (record { hard = λ off slot lt. rw terms_at-row (are.hard off slot lt) })

pub hard_leap : (soft : Bool) (s t : Seen) (choice : Option ℕ) (n : ℕ) → t ≡ leapt n choice s
    → IsHard soft s.book → IsHard soft t.book
hard_leap soft s t choice n is are = rw is (record {
  hard = λ off slot lt. ap soft_in (terms_at-same (leapt n choice s).book s.book slot refl) ∙ are.hard off slot lt;
})

pub hard_settle : (soft : Bool) (s t : Seen) → t ≡ settled s → IsHard soft s.book → IsHard soft t.book
hard_settle soft s t is are = rw is (record { hard = λ off slot lt. rw terms_at-mark (are.hard off slot lt) })

-- the flag is raised by a soft seat
neither : (soft hard : Bool) → (soft || not hard) ≡ false → soft ≡ false
neither false hard off = refl
neither true hard off = off

sits_hard : (soft hard : Bool) (x y : ℕ) → (soft || not hard) ≡ false → soft_in (Some (Res hard x y)) ≡ false
sits_hard soft true x y off = refl
sits_hard false false x y off = off
sits_hard true false x y off = off

pub hard_seat : (soft later hard : Bool) (s t : Seen) (slot : ℕ) (terms : Terms) (x y : ℕ)
    → t ≡ seated slot terms s → terms ≡ Res hard x y → later ≡ (soft || not hard) → IsHard soft s.book
    → IsHard later t.book
hard_seat soft later hard s t slot terms x y is its flag are = rw (is, its) (record {
  hard = λ off k lt.
      let both = sym flag ∙ off in
      elim (cases_eq slot k) [
        | inl same ↦ ap soft_in (seat_same s.book slot k (Res hard x y) same) ∙ sits_hard soft hard x y both
        | inr other ↦ ap soft_in (seat_other s.book slot k (Res hard x y) other)
            ∙ are.hard (neither soft hard both) k lt
      ];
})

pub hard_leave : (soft : Bool) (s t : Seen) (slot : ℕ) → t ≡ left slot s → IsHard soft s.book → IsHard soft t.book
hard_leave soft s t slot is are = rw is (record {
  hard = λ off k lt. elim (cases_eq slot k) [
    | inl same ↦ ap soft_in (leave_same s.book slot k same)
    | inr other ↦ ap soft_in (leave_other s.book slot k other) ∙ are.hard off k lt
  ];
})
