-- Terms find no fault exactly where they are among what is left.
use Rattle.std.proofs.Common.{◌≡◌, ℕ, ◌≤◌, inl, inr, List, refl, sym, subst, arith}
use Rattle.std.specs.Prelude.{◌≢◌, ◌↔◌}
use Rattle.std.proofs.lemmas.Bool.{cases_lt}
use Rattle.hls_chron.specs.declared.plain.Config.{Config}
use Rattle.hls_chron.specs.declared.plain.Config.TheVariants as configs
use Rattle.hls_chron.specs.declared.plain.Sharing.{Sharing}
use Rattle.hls_chron.specs.declared.plain.Terms.{Terms}
use Rattle.hls_chron.specs.declared.plain.Terms.TheVariants as terms
use Rattle.hls_chron.specs.Kinds.{by_shares, kind_of, terms_kind}
use Rattle.hls_chron.proofs.ConfigLaws.{by_kind}
use Rattle.hls_chron.specs.Ledger.{Ledger}
use Rattle.hls_chron.specs.Ranges.{TermsInRange}
use Rattle.hls_chron.specs.Seats.{HasPriority, most_seats}
use Rattle.hls_chron.specs.Parts.{parts}
use Rattle.hls_kinds.specs.declared.fault.SeatFault.{SeatFault}
use Rattle.hls_kinds.specs.declared.fault.SeatFault.TheVariants as faults
use Rattle.hls_kinds.specs.Fits.{Exceeds}
use Rattle.hls_kinds.specs.Room.{IsFull, room_asked}
use Rattle.hls_kinds.specs.Faults.{Applies}
use Rattle.hls_offer_text.specs.declared.left.Left.{Left}
use Rattle.hls_offer_text.specs.declared.left.Left.TheVariants.{Full, Priorities, Parts, Weight, Slots, Turn, Sole}
use Rattle.hls_offer.specs.Left.{room_left, IsRoom, IsLeft}
use Rattle.hls_offer_reports.specs.Room.{HasTerms}
use Rattle.hls_offer_reports.proofs.Spans.{free_in_span, span_of_free}

abbrev Fitting : Config → Ledger → Terms → Type 0
Fitting config b its = (fault : SeatFault) → ¬ Applies config b its fault

-- ---- of any kind

room_of : (config : Config) (b : Ledger) (its : Terms) → Fitting config b its
    → room_asked config its ≤ room_left config b
room_of config b its none =
    elim (cases_lt (room_left config b) (room_asked config its)) [
      | inl lacks ↦ absurd (none (faults.NoRoom (room_left config b) (room_asked config its))
          (record { left = refl; asks = refl; lacks = lacks }))
      | inr enough ↦ enough
    ]

no_fault : (config : Config) (b : Ledger) (its : Terms) → terms_kind its ≡ kind_of config → ¬ Exceeds config its
    → ((priority : ℕ) → its ≡ terms.Prio priority → ¬ HasPriority b priority) → ¬ IsFull config b
    → room_asked config its ≤ room_left config b → Fitting config b its
no_fault config b its same within apart free room faults.Unfit (inl other) = other same
no_fault config b its same within apart free room faults.Unfit (inr over) = within over
no_fault config b its same within apart free room (faults.PriorityTaken priority) applies =
    apart priority applies.0 applies.1
no_fault config b its same within apart free room (faults.Full seats) applies = free applies.0
no_fault config b its same within apart free room (faults.NoRoom some asked) applies =
    let lacks = applies.lacks in
    let left = applies.left in
    let asks = applies.asks in
    omega (arith, lacks, left, asks, room)

unfit : (config : Config) (b : Ledger) (its : Terms) → terms_kind its ≢ kind_of config → Fitting config b its → ⊥
unfit config b its other none = none faults.Unfit (inl other)

-- ---- of each kind

fp_fits : (b : Ledger) (periods : List ℕ) (left : Left) (its : Terms) → TermsInRange its → ¬ IsFull configs.Fp b
    → IsRoom configs.Fp b periods left → Fitting configs.Fp b its ↔ HasTerms left its
fp_fits b periods (Priorities spans) (terms.Prio priority) small free room = (
  λ none.
      let in_span = span_of_free b 32 0 spans priority room (omega arith) (omega (arith, small))
      (λ has. none (faults.PriorityTaken priority) (refl, has)) in
      (in_span.span, in_span.has, in_span.from, in_span.to),
  λ has. no_fault configs.Fp b (terms.Prio priority) refl (λ over. over)
      (λ other same taken.
      let e : priority ≡ other = cc in
      free_in_span b 32 0 spans priority room
      (record { span = has.0; has = has.1; from = has.2; to = has.3 })
      (subst (λ (p : ℕ). HasPriority b p) (sym e) taken)) free (omega arith),
)
fp_fits b periods (Priorities spans) its small free room =
    (λ none. absurd (unfit configs.Fp b its (λ e. absurd (let no : ⊥ = cc in no)) none), λ has. absurd has)
fp_fits b periods _ its small free room = absurd room

edf_fits : (b : Ledger) (periods : List ℕ) (left : Left) (its : Terms) → ¬ IsFull configs.Edf b
    → IsRoom configs.Edf b periods left → Fitting configs.Edf b its ↔ HasTerms left its
edf_fits b periods (Parts some fits) (terms.Res hard x y) free room = (
  λ none. subst (λ (n : ℕ). parts x y ≤ n) (sym room.0) (room_of configs.Edf b (terms.Res hard x y) none),
  λ has. no_fault configs.Edf b (terms.Res hard x y) refl (λ over. over) (λ p same. absurd (let no : ⊥ = cc in no)) free
      (subst (λ (n : ℕ). parts x y ≤ n) room.0 has),
)
edf_fits b periods (Parts some fits) its free room =
    (λ none. absurd (unfit configs.Edf b its (λ e. absurd (let no : ⊥ = cc in no)) none), λ has. absurd has)
edf_fits b periods _ its free room = absurd room

sfq_fits : (s : Sharing) (b : Ledger) (periods : List ℕ) (left : Left) (its : Terms) → ¬ IsFull (by_shares s) b
    → IsRoom (by_shares s) b periods left → Fitting (by_shares s) b its ↔ HasTerms left its
sfq_fits s b periods (Weight some) (terms.Weight asked) free room = (
  λ none. subst (λ (n : ℕ). asked ≤ n) (sym room) (room_of (by_shares s) b (terms.Weight asked) none),
  λ has. no_fault (by_shares s) b (terms.Weight asked) refl (λ over. omega (arith, over, has, room))
      (λ p same. absurd (let no : ⊥ = cc in no)) free (subst (λ (n : ℕ). asked ≤ n) room has),
)
sfq_fits s b periods (Weight some) its free room =
    (λ none. absurd (unfit (by_shares s) b its (λ e. absurd (let no : ⊥ = cc in no)) none), λ has. absurd has)
sfq_fits s b periods _ its free room = absurd room

wheel_fits : (frame : ℕ) (b : Ledger) (periods : List ℕ) (left : Left) (its : Terms)
    → ¬ IsFull (configs.Wheel frame) b → IsRoom (configs.Wheel frame) b periods left
    → Fitting (configs.Wheel frame) b its ↔ HasTerms left its
wheel_fits frame b periods (Slots some) (terms.Slots asked) free room = (
  λ none. subst (λ (n : ℕ). asked ≤ n) (sym room) (room_of (configs.Wheel frame) b (terms.Slots asked) none),
  λ has. no_fault (configs.Wheel frame) b (terms.Slots asked) refl (λ over. omega (arith, over, has, room))
      (λ p same. absurd (let no : ⊥ = cc in no)) free (subst (λ (n : ℕ). asked ≤ n) room has),
)
wheel_fits frame b periods (Slots some) its free room =
    (λ none. absurd (unfit (configs.Wheel frame) b its (λ e. absurd (let no : ⊥ = cc in no)) none), λ has. absurd has)
wheel_fits frame b periods _ its free room = absurd room

rr_fits : (quantum : ℕ) (b : Ledger) (periods : List ℕ) (left : Left) (its : Terms) → ¬ IsFull (configs.Rr quantum) b
    → IsRoom (configs.Rr quantum) b periods left → Fitting (configs.Rr quantum) b its ↔ HasTerms left its
rr_fits quantum b periods Turn terms.Turn free room = (
  λ none. tt,
  λ has. no_fault (configs.Rr quantum) b terms.Turn refl (λ over. over) (λ p same. absurd (let no : ⊥ = cc in no)) free
      (omega arith),
)
rr_fits quantum b periods Turn its free room =
    (λ none. absurd (unfit (configs.Rr quantum) b its (λ e. absurd (let no : ⊥ = cc in no)) none), λ has. absurd has)
rr_fits quantum b periods _ its free room = absurd room

join_fits : (ports : ℕ) (b : Ledger) (periods : List ℕ) (left : Left) (its : Terms) → ¬ IsFull (configs.Join ports) b
    → IsRoom (configs.Join ports) b periods left → Fitting (configs.Join ports) b its ↔ HasTerms left its
join_fits ports b periods Sole terms.Sole free room = (
  λ none. tt,
  λ has. no_fault (configs.Join ports) b terms.Sole refl (λ over. over) (λ p same. absurd (let no : ⊥ = cc in no)) free
      (omega arith),
)
join_fits ports b periods Sole its free room =
    (λ none. absurd (unfit (configs.Join ports) b its (λ e. absurd (let no : ⊥ = cc in no)) none), λ has. absurd has)
join_fits ports b periods _ its free room = absurd room

-- ---- whichever it is

room_fits : (config : Config) (b : Ledger) (periods : List ℕ) (left : Left) (its : Terms) → config ≢ configs.Cpu
    → TermsInRange its → ¬ IsFull config b → IsRoom config b periods left → Fitting config b its ↔ HasTerms left its
room_fits config b periods left its some small =
    by_kind (λ config. config ≢ configs.Cpu → ¬ IsFull config b → IsRoom config b periods left
    → Fitting config b its ↔ HasTerms left its) (λ some. absurd (some refl))
    (λ some. fp_fits b periods left its small) (λ some. edf_fits b periods left its)
    (λ s some. sfq_fits s b periods left its) (λ quantum some. rr_fits quantum b periods left its)
    (λ frame some. wheel_fits frame b periods left its) (λ ports some. join_fits ports b periods left its) config some

pub left_fits : (config : Config) (b : Ledger) (periods : List ℕ) (left : Left) (its : Terms) → config ≢ configs.Cpu
    → TermsInRange its → IsLeft config b periods left → Fitting config b its ↔ HasTerms left its
left_fits config b periods Full its some small is =
    (λ none. absurd (none (faults.Full (most_seats config)) (is, refl)), λ has. absurd has)
left_fits config b periods (Priorities spans) its some small is =
    room_fits config b periods (Priorities spans) its some small is.0 is.1
left_fits config b periods (Parts free fits) its some small is =
    room_fits config b periods (Parts free fits) its some small is.0 is.1
left_fits config b periods (Weight weight) its some small is =
    room_fits config b periods (Weight weight) its some small is.0 is.1
left_fits config b periods (Slots places) its some small is =
    room_fits config b periods (Slots places) its some small is.0 is.1
left_fits config b periods Turn its some small is = room_fits config b periods Turn its some small is.0 is.1
left_fits config b periods Sole its some small is = room_fits config b periods Sole its some small is.0 is.1
