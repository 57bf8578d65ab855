-- What is said of a book does not go by the room that it has for more.
use Rattle.std.proofs.Common.{◌≡◌, ℕ, inl, inr, refl, sym, ap, ◌∙◌, subst, arith}
use Rattle.std.proofs.lemmas.Bool.{cases_lt}
use Rattle.hls_chron.specs.declared.plain.Config.{Config}
use Rattle.hls_chron.specs.declared.plain.Terms.{Terms}
use Rattle.hls_chron.specs.Ledger.{Ledger, now_of, row_at}
use Rattle.hls_chron.specs.Seats.{terms_at, asked, served}
use Rattle.hls_chron.proofs.ConfigLaws.{by_kind}
use Rattle.hls_kinds.specs.declared.fault.SeatFault.{SeatFault}
use Rattle.hls_kinds.specs.declared.fault.SeatFault.TheVariants as faults
use Rattle.hls_kinds.specs.Faults as seats
use Rattle.hls_kinds.specs.Tenants.{tenant_at, settled_at, left_at}
use Rattle.hls_kinds.specs.Reservations.{claim_at, is_held}
use Rattle.hls_kinds.specs.Turns.{turn_slot, turns_after}
use Rattle.hls_kinds.specs.Tags.{start_tag}
use Rattle.hls_kinds.specs.Frames.{owner_at}
use Rattle.hls_kinds.specs.Room.{occupant_at, room_used, IsFree}
use Rattle.hls_kinds.specs.Discipline.{HasLeastPriority, TakesTurn, Serves}
use Rattle.hls_kinds.proofs.Rooms.{roomless, tag-room, slot-room, serves-room}

pub terms-bare : (b : Ledger) (slot : ℕ) → terms_at (roomless b) slot ≡ terms_at b slot
unfolding terms_at
terms-bare b slot = refl

least-bare : (b : Ledger) (mask slot : ℕ) → HasLeastPriority (roomless b) mask slot → HasLeastPriority b mask slot
unfolding terms_at
least-bare b mask slot least = record { asks = least.asks; seated = least.seated; least = least.least }

turn-bare : (quantum : ℕ) (b : Ledger) (key : ℕ → ℕ) (mask slot : ℕ) → TakesTurn quantum (roomless b) key mask slot
    → TakesTurn quantum b key mask slot
unfolding asked served row_at settled_at left_at
turn-bare quantum b key mask slot turn = record { goes_on = turn.goes_on; passes = turn.passes }

serves-bare : (config : Config) (b : Ledger) (mask slot : ℕ) → Serves config (roomless b) mask slot
    → Serves config b mask slot
unfolding asked served row_at claim_at tenant_at owner_at
serves-bare config b mask slot = by_kind (λ config. Serves config (roomless b) mask slot → Serves config b mask slot)
    (λ serves. serves) (λ serves. least-bare b mask slot serves) (λ serves. serves)
    (λ sharing serves. subst (λ (key : ℕ → ℕ). TakesTurn sharing.quantum b key mask slot)
    (tag-room sharing.quantum b (now_of b))
    (turn-bare sharing.quantum b (start_tag sharing.quantum (roomless b) (now_of b)) mask slot serves))
    (λ quantum serves. subst (λ (n : ℕ). TakesTurn quantum b (turns_after n) mask slot) (slot-room b)
    (turn-bare quantum b (turns_after (turn_slot (roomless b))) mask slot serves))
    (λ frame serves. record { owns = serves.owns; asks = serves.asks }) (λ ports serves. serves) config

pub serves_like : (config : Config) (b c : Ledger) (mask slot : ℕ) → roomless b ≡ roomless c
    → Serves config c mask slot → Serves config b mask slot
serves_like config b c mask slot same serves =
    serves-bare config b mask slot
    (subst (λ (x : Ledger). Serves config x mask slot) (sym same) (serves-room config c mask slot serves))

occupant-bare : (config : Config) (b : Ledger) (slot : ℕ) → occupant_at config (roomless b) slot
    ≡ occupant_at config b slot
unfolding terms_at tenant_at is_held asked served row_at
occupant-bare config b slot = by_kind (λ config. occupant_at config (roomless b) slot ≡ occupant_at config b slot)
    refl refl refl (λ sharing. refl) (λ quantum. refl) (λ frame. refl) (λ ports. refl) config

pub occupant_like : (config : Config) (b c : Ledger) (slot : ℕ) → roomless b ≡ roomless c
    → occupant_at config b slot ≡ occupant_at config c slot
occupant_like config b c slot same =
    sym (occupant-bare config b slot) ∙ ap (λ (x : Ledger). occupant_at config x slot) same
    ∙ occupant-bare config c slot

used-bare : (config : Config) (b : Ledger) → room_used config (roomless b) ≡ room_used config b
unfolding terms_at tenant_at is_held asked served row_at owner_at
used-bare config b = by_kind (λ config. room_used config (roomless b) ≡ room_used config b)
    refl refl refl (λ sharing. refl) (λ quantum. refl) (λ frame. refl) (λ ports. refl) config

used_like : (config : Config) (b c : Ledger) → roomless b ≡ roomless c → room_used config b ≡ room_used config c
used_like config b c same =
    sym (used-bare config b) ∙ ap (room_used config) same ∙ used-bare config c

pub terms_like : (b c : Ledger) (slot : ℕ) → roomless b ≡ roomless c → terms_at b slot ≡ terms_at c slot
terms_like b c slot same =
    sym (terms-bare b slot) ∙ ap (λ (x : Ledger). terms_at x slot) same ∙ terms-bare c slot

-- the faults of a seat
pub fault_like : (config : Config) (b c : Ledger) (terms : Terms) (fault : SeatFault) → roomless b ≡ roomless c
    → seats.Applies config b terms fault → seats.Applies config c terms fault
fault_like config b c terms faults.Unfit same f = f
fault_like config b c terms (faults.PriorityTaken priority) same f = (
  f.0,
  record {
    slot = f.1.slot;
    has = ap Rattle.hls_chron.specs.Seats.priority_in (sym (terms_like b c f.1.slot same)) ∙ f.1.has;
  },
)
fault_like config b c terms (faults.Full n) same f =
    (λ slot lt none. f.0 slot lt (occupant_like config b c slot same ∙ none), f.1)
fault_like config b c terms (faults.NoRoom free asked) same f = record {
  left = f.left ∙ ap (λ n. Rattle.std.specs.Prelude.◌-◌ (Rattle.hls_kinds.specs.Room.room_total config) n)
      (used_like config b c same);
  asks = f.asks;
  lacks = f.lacks;
}

-- the free slot
pub free_like : (config : Config) (b c : Ledger) (slot other : ℕ) → roomless b ≡ roomless c
    → IsFree config b slot → IsFree config c other → slot ≡ other
free_like config b c slot other same f g = elim (cases_lt slot other) [
  | inl lt ↦ absurd (g.least slot lt (sym (occupant_like config b c slot same) ∙ f.free))
  | inr ge ↦ elim (cases_lt other slot) [
    | inl lt ↦ absurd (f.least other lt (occupant_like config b c other same ∙ g.free))
    | inr le ↦ omega (arith, ge, le)
  ]
]
