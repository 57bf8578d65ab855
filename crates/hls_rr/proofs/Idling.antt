-- Ticks of a box that is not granted: whatever its choice is, nobody is served.
use Rattle.std.proofs.Common.{◌≡◌, ℕ, ◌<◌, ◌≤◌, Some, None, true, false, refl, ap, ◌∙◌}
use Rattle.std.specs.Prelude.{Option, is_some}
use Rattle.hls_chron.specs.declared.plain.Kind.TheVariants as kinds
use Rattle.hls_chron.specs.Kinds.{quantum_of}
use Rattle.hls_chron.specs.Ledger.{with_row, with_rows}
use Rattle.hls_sched.specs.Seen.{Seen, IsConfigured, config_of, turned, leapt, tick_row}
use Rattle.hls_sched.specs.Stands.{seen_stands}
use Rattle.hls_box.specs.Inside.Sound.{IsSound}
use Rattle.hls_box.proofs.Choosing.{after_turn}
use Rattle.hls_box.proofs.TurnLeaps.{turn_passed}
use Rattle.hls_box.specs.declared.turns.Turn.{Turn}
use Rattle.hls_box.specs.Turns.{KeepsTurn}
use Rattle.hls_rr.specs.Turns.{choice_of, idle_by}
use Rattle.hls_rr.proofs.Choices.{choice_right}
use Rattle.hls_rr.proofs.Leaping.{after_leap}

-- the row of a box that is not granted
row_ungranted : (mask : ℕ) (grant choice other : Option ℕ) → is_some grant ≡ false
    → tick_row mask grant choice ≡ tick_row mask grant other
row_ungranted mask None choice other none = refl
row_ungranted mask (Some port) choice other none = absurd cc

to_ungranted : (mask : ℕ) (grant choice : Option ℕ) → is_some grant ≡ false → None ≡ (tick_row mask grant choice).to
to_ungranted mask None choice none = refl
to_ungranted mask (Some port) choice none = absurd cc

turned_ungranted : (s : Seen) (choice other : Option ℕ) → is_some s.grant ≡ false
    → turned choice s ≡ turned other s
turned_ungranted s choice other none =
    ap (λ row. let after : Seen = record s { book = with_row s.book row } in after)
    (row_ungranted s.mask s.grant choice other none)

leapt_ungranted : (s : Seen) (choice other : Option ℕ) (n : ℕ) → is_some s.grant ≡ false
    → leapt n choice s ≡ leapt n other s
leapt_ungranted s choice other n none =
    ap (λ row. let after : Seen = record s { book = with_rows s.book row n } in after)
    (row_ungranted s.mask s.grant choice other none)

-- a box that is granted serves its choice
pub to_granted : (mask : ℕ) (grant choice : Option ℕ) → is_some grant ≡ true
    → choice ≡ (tick_row mask grant choice).to
to_granted mask None choice granted = absurd cc
to_granted mask (Some port) None granted = refl
to_granted mask (Some port) (Some slot) granted = refl

-- a tick, and many
pub idle_turn : (s t : Seen) (turn after : Turn) (mask : ℕ) → IsSound kinds.Rr s → IsConfigured s
    → KeepsTurn (quantum_of (config_of s)) s.book turn → is_some s.grant ≡ false → mask ≡ s.mask
    → after ≡ idle_by mask turn → t ≡ turned None s
    → IsSound kinds.Rr t × KeepsTurn (quantum_of (config_of t)) t.book after
idle_turn s t turn after mask sound configured kept none of_mask is_after is =
    let choice = choice_of (config_of s) s.book s.mask in
    let right = choice_right s choice sound configured refl in
    let same : t ≡ turned choice s = is ∙ turned_ungranted s None choice none in
    let quantum = quantum_of (config_of s) in (
      after_turn kinds.Rr choice s t same sound right,
      rw same (turn_passed s (turned choice s) choice None turn after quantum quantum mask refl kept refl of_mask
          (to_ungranted s.mask s.grant choice none) is_after right),
    )

pub idle_leap : (s t : Seen) (turn after : Turn) (n mask : ℕ) → IsSound kinds.Rr s → IsConfigured s
    → KeepsTurn (quantum_of (config_of s)) s.book turn → is_some s.grant ≡ false → mask ≡ s.mask
    → after ≡ idle_by mask turn → 0 < n → n ≤ seen_stands (choice_of (config_of s) s.book s.mask) s
    → t ≡ leapt n None s
    → IsSound kinds.Rr t × KeepsTurn (quantum_of (config_of t)) t.book after
idle_leap s t turn after n mask sound configured kept none of_mask is_after some le is =
    let choice = choice_of (config_of s) s.book s.mask in
    let same : t ≡ leapt n choice s = is ∙ leapt_ungranted s None choice n none in
    after_leap s t choice None turn after n (quantum_of (config_of s)) mask sound configured kept refl
    (to_ungranted s.mask s.grant choice none) some le same refl of_mask is_after
