-- A wake or a block keeps what is to be kept.
use Rattle.std.proofs.Common.{◌≡◌, ℕ, slice_get, Option, Some, true, false, if◌then◌else◌, ◌==◌, refl, sym}
use Rattle.std.proofs.Common.{ap, ◌∙◌, arith, cond}
use Rattle.hls_kinds.specs.Tenants.{tenant_at}
use Rattle.hls_machine.specs.Hierarchy.{Hierarchy, Node, Wake, Place, Processor, At, Seat, seats_of, seat_of}
use Rattle.hls_machine.specs.Hierarchy.{book_of}
use Rattle.hls_machine.specs.Steps.{roused, with_wake}
use Rattle.hls_machine.specs.Linked.{config_at, SitsAt}
use Rattle.hls_machine.proofs.Nodes.{Grown, grown_same, grown_roused, seats-roused, book-roused}
use Rattle.hls_machine.proofs.Kept.{IsSound, follows_along, sits_kept, reigns_kept}

module _ (h : Hierarchy) (rank : ℕ → ℕ) (sound : IsSound h rank) (k : ℕ) (how : Wake) where
  abbrev made : Hierarchy
  made = with_wake h k how

  abbrev nodes : ℕ → Option Node
  nodes c = if c == k then roused how (h.nodes c) else h.nodes c

  grown : (c : ℕ) → Grown h.now h.past c (h.nodes c) (nodes c)
  grown c = elim
      (c == k) as (λ b. Grown h.now h.past c (h.nodes c) (cond b (roused how (h.nodes c)) (h.nodes c))) [
        | true ↦ grown_roused h.now h.past c how (h.nodes c) (sound.current c)
        | false ↦
            grown_same h.now h.past c (h.nodes c) (sound.current c)
      ]

  seats_same : (c : ℕ) → seats_of (nodes c) ≡ seats_of (h.nodes c)
  seats_same c =
      elim (c == k) as (λ b. seats_of (cond b (roused how (h.nodes c)) (h.nodes c)) ≡ seats_of (h.nodes c))
      [ true ↦ seats-roused how (h.nodes c) | false ↦ refl ]

  book_same : (c : ℕ) → book_of (nodes c) ≡ book_of (h.nodes c)
  book_same c =
      elim (c == k) as (λ b. book_of (cond b (roused how (h.nodes c)) (h.nodes c)) ≡ book_of (h.nodes c))
      [ true ↦ book-roused how (h.nodes c) | false ↦ refl ]

  was : (c port : ℕ) (seat : Seat) → seat_of (nodes c) port ≡ Some seat → seat_of (h.nodes c) port ≡ Some seat
  was c port seat e = sym (ap (λ seats. slice_get seats port) (seats_same c)) ∙ e

  sits_at : (c port : ℕ) (seat : Seat) (place : Place) → SitsAt h rank c port seat place
      → SitsAt made rank c port seat place
  sits_at c port seat Processor r = reigns_kept h made c port seat r (grown c) r.root
  sits_at c port seat (At p slot) s =
      sits_kept h made rank rank c port seat p slot s.from s (grown p) (grown c) s.below
      (ap (λ b. tenant_at b slot) (book_same p) ∙ s.sits) (omega (arith, s.since, (grown c).since))
      (follows_along (config_at h p) (config_at h p) seat.terms (h.nodes p) (nodes p) seat.kept refl
      (seats_same p) s.derived)

  pub roused_sound : IsSound (with_wake h k how) rank
  roused_sound = record {
    current = λ c. (grown c).current;
    sits = λ c port seat e. sits_at c port seat seat.place (sound.sits c port seat (was c port seat e));
    alone = λ c d port q one two e f same_place. sound.alone c d port q one two (was c port one e)
        (was d q two f) same_place;
  }
