-- Boxes that are not granted, of kinds that stand always then.
use Rattle.std.proofs.Common.{◌≡◌, ℕ, ◌+◌, ◌-◌, ◌≤◌, true, Option, None, sym, ap, ◌∙◌, arith}
use Rattle.std.specs.Prelude.{is_some}
use Rattle.hls_chron.specs.Ledger.{with_rows}
use Rattle.hls_kinds.specs.Stands.{always, stands_of, stands_idle}
use Rattle.hls_kinds.proofs.Idle.{stands_while_idle}
use Rattle.hls_sched.specs.Seen.{Seen, IsConfigured, config_of, tick_row, leapt}
use Rattle.hls_sched.specs.Stands.{seen_stands}
use Rattle.hls_sched.proofs.Leaps.{leapt-none}
use Rattle.hls_tree_nodes.proofs.Behind.{leapt_add}

pub idle_stands : (choice : Option ℕ) (s : Seen) → stands_idle (config_of s) ≡ true → s.grant ≡ None
    → seen_stands choice s ≡ always
idle_stands choice s idle free =
    ap (λ (grant : Option ℕ). stands_of (config_of s) s.book s.mask (is_some grant) choice) free
    ∙ stands_while_idle (config_of s) s.book s.mask choice idle

-- what is not granted elapses the same by any choice
pub leapt_free : (choice other : Option ℕ) (n : ℕ) (s : Seen) → s.grant ≡ None → leapt n choice s ≡ leapt n other s
leapt_free choice other n s free =
    ap (λ (grant : Option ℕ). record s { book = with_rows s.book (tick_row s.mask grant choice) n }) free
    ∙ ap (λ (grant : Option ℕ). record s { book = with_rows s.book (tick_row s.mask grant other) n }) (sym free)

-- a box after some ticks of so many
pub record IsLeaping (old new : Seen) (ticks rest : ℕ) : Type 0 where
  pub left : rest ≤ ticks
  pub unit : new ≡ leapt (ticks - rest) None old

pub leaping_start : (s : Seen) (ticks : ℕ) → IsLeaping s s ticks ticks
leaping_start s ticks =
    let none : ticks - ticks ≡ 0 = omega arith in
    record { left = omega arith; unit = sym (ap (λ n. leapt n None s) none ∙ leapt-none None s) }

pub leaping_step : (choice : Option ℕ) (old mid new : Seen) (ticks left step next : ℕ) → old.grant ≡ None → step ≤ left
    → next ≡ left - step → IsLeaping old mid ticks left → new ≡ leapt step choice mid → IsLeaping old new ticks next
leaping_step choice old mid new ticks left step next free le next_is was is =
    let most = was.left in
    let here : mid.grant ≡ None = ap (λ (s : Seen). s.grant) was.unit ∙ free in
    let count : (ticks - left) + step ≡ ticks - next = omega (arith, most, le, next_is) in
    record {
      left = omega (arith, most, next_is);
      unit = is ∙ leapt_free choice None step mid here ∙ ap (λ s. leapt step None s) was.unit
          ∙ leapt_add None (ticks - left) step old ∙ ap (λ n. leapt n None old) count;
    }

pub leaping_end : (old new : Seen) (ticks left : ℕ) → left ≡ 0 → IsLeaping old new ticks left → new ≡ leapt ticks
    None old
leaping_end old new ticks left none is =
    let all : ticks - left ≡ ticks = omega (arith, none) in
    is.unit ∙ ap (λ n. leapt n None old) all

-- what is left of the room, and that it still stands
pub record MayGoOn (choice : Option ℕ) (step : ℕ) (s : Seen) : Type 0 where
  pub configured : IsConfigured s
  pub stands : step ≤ seen_stands choice s
  pub room : step ≤ s.book.spare_ticks

pub may_go_on : (choice : Option ℕ) (old mid : Seen) (ticks left step : ℕ) → IsConfigured old
    → stands_idle (config_of old) ≡ true → old.grant ≡ None → ticks ≤ old.book.spare_ticks → step ≤ left
    → step ≤ always → IsLeaping old mid ticks left → MayGoOn choice step mid
may_go_on choice old mid ticks left step configured idle free room le few was =
    let most = was.left in
    let spare : mid.book.spare_ticks ≡ old.book.spare_ticks - (ticks - left) =
    ap (λ (s : Seen). s.book.spare_ticks) was.unit in
    let stands : seen_stands choice mid ≡ always =
    idle_stands choice mid (ap (λ (s : Seen). stands_idle (config_of s)) was.unit ∙ idle)
    (ap (λ (s : Seen). s.grant) was.unit ∙ free) in
    record {
      configured = λ none. configured (sym (ap (λ (s : Seen). s.config) was.unit) ∙ none);
      stands = omega (arith, few, stands);
      room = omega (arith, spare, room, le, most);
    }
