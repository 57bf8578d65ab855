-- The seats of a node, by the spots of its member.
use Rattle.std.proofs.Common.{◌≡◌, ℕ, zero, suc, inl, inr, List, [], ◌∷◌, Bool, true, slice_get}
use Rattle.std.proofs.Common.{refl, sym, ap, ◌∙◌, subst}
use Rattle.std.specs.Prelude.{Some}
use Rattle.std.specs.List.{list_any}
use Rattle.std.specs.Str.{bytes_eq}
use Rattle.std.proofs.lemmas.Bool.{or_cases, or_left, or_right}
use Rattle.hls_text.specs.Lines.{Text}
use Rattle.hls_scenario.specs.declared.scenario.Spot.{Spot}
use Rattle.hls_scenario.specs.declared.scenario.Spot.TheVariants.{Cpu, Under}
use Rattle.hls_scenario.specs.declared.scenario.Perch.{Perch}
use Rattle.hls_machine.specs.Hierarchy.{Hierarchy, Place, Processor, At, Seat, name_of}
use Rattle.hls_legal.specs.Under.{is_on}
use Rattle.hls_legal.specs.Tells.{HasName, IsSpot, ArePerches}
use Rattle.hls_legal.proofs.Rousings.{names_same}
use Rattle.hls_audit_clauses.specs.declared.member.Member.{Member}
use Rattle.hls_audit_clauses.specs.Names.{is_cpu}
use Rattle.hls_audit_clauses.proofs.Trees.{IsMember, AreMembers}

-- ---- a seat whose spot passes a test

pub record IsSuchSeat (h : Hierarchy) (test : Spot → Bool) (held : List Seat) : Type 0 where
  pub port : ℕ
  pub seat : Seat
  pub spot : Spot
  pub sits : slice_get held port ≡ Some seat
  pub place : IsSpot h seat.place spot
  pub passes : test spot ≡ true

pub seat_found : (h : Hierarchy) (test : Spot → Bool) (held : List Seat) (perches : List Perch)
    → ArePerches h held perches → list_any (λ (perch : Perch). test perch.spot) perches ≡ true
    → IsSuchSeat h test held
seat_found h test [] [] are any = absurd (cc)
seat_found h test [] (perch ∷ perches) are any = absurd are
seat_found h test (seat ∷ held) [] are any = absurd are
seat_found h test (seat ∷ held) (perch ∷ perches) are any =
    elim (or_cases (test perch.spot) (list_any (λ (p : Perch). test p.spot) perches) any) [
      | inl on ↦ record {
        port = 0;
        seat = seat;
        spot = perch.spot;
        sits = refl;
        place = are.0.place;
        passes = on;
      }
      | inr later ↦
          let s = seat_found h test held perches are.1 later in
          record {
            port = suc s.port;
            seat = s.seat;
            spot = s.spot;
            sits = s.sits;
            place = s.place;
            passes = s.passes;
          }
    ]

pub seat_passes : (h : Hierarchy) (test : Spot → Bool) (held : List Seat) (perches : List Perch) (port : ℕ)
    (seat : Seat) → ArePerches h held perches → slice_get held port ≡ Some seat
    → ((spot : Spot) → IsSpot h seat.place spot → test spot ≡ true)
    → list_any (λ (perch : Perch). test perch.spot) perches ≡ true
seat_passes h test [] perches port seat are sits pass = absurd (cc)
seat_passes h test (first ∷ held) [] port seat are sits pass = absurd are
seat_passes h test (first ∷ held) (perch ∷ perches) zero seat are sits pass =
    let same : first ≡ seat = cc in
    or_left (test perch.spot) (list_any (λ (p : Perch). test p.spot) perches)
    (pass perch.spot (subst (λ (s : Seat). IsSpot h s.place perch.spot) same are.0.place))
seat_passes h test (first ∷ held) (perch ∷ perches) (suc port) seat are sits pass =
    or_right (test perch.spot) (list_any (λ (p : Perch). test p.spot) perches)
    (seat_passes h test held perches port seat are.1 sits pass)

-- ---- a member that passes a test

pub record IsSuchMember (h : Hierarchy) (test : Member → Bool) : Type 0 where
  pub d : ℕ
  pub m : Member
  pub is : IsMember h d m
  pub passes : test m ≡ true

pub such_member : (h : Hierarchy) (test : Member → Bool) (ks : List ℕ) (tree : List Member)
    → AreMembers h ks tree → list_any test tree ≡ true → IsSuchMember h test
such_member h test [] [] are any = absurd (cc)
such_member h test [] (m ∷ tree) are any = absurd are
such_member h test (d ∷ ks) [] are any = absurd are
such_member h test (d ∷ ks) (m ∷ tree) are any = elim (or_cases (test m) (list_any test tree) any) [
  | inl on ↦ record { d = d; m = m; is = are.0; passes = on }
  | inr later ↦ such_member h test ks tree are.1 later
]

-- ---- places and spots

pub cpu_spot : (h : Hierarchy) (place : Place) (spot : Spot) → place ≡ Processor → IsSpot h place spot
    → is_cpu spot ≡ true
cpu_spot h Processor Cpu e is = refl
cpu_spot h Processor (Under sched terms) e is = absurd is
cpu_spot h (At p slot) Cpu e is = absurd is
cpu_spot h (At p slot) (Under sched terms) e is = absurd (cc)

pub at_cpu : (h : Hierarchy) (place : Place) (spot : Spot) → IsSpot h place spot → is_cpu spot ≡ true
    → place ≡ Processor
at_cpu h Processor Cpu is on = refl
at_cpu h Processor (Under sched terms) is on = absurd is
at_cpu h (At p slot) Cpu is on = absurd is
at_cpu h (At p slot) (Under sched terms) is on = absurd (cc)

pub slot_spot : (h : Hierarchy) (p slot : ℕ) (name : Text) (place : Place) (spot : Spot) → HasName h p name
    → place ≡ At p slot → IsSpot h place spot → is_on (bytes_eq name) spot ≡ true
slot_spot h p slot name Processor Cpu has e is = absurd (cc)
slot_spot h p slot name Processor (Under sched terms) has e is = absurd is
slot_spot h p slot name (At q other) Cpu has e is = absurd is
slot_spot h p slot name (At q other) (Under sched terms) has e is =
    let it : q ≡ p = cc in
    let both : Some name ≡ Some sched = sym has ∙ ap (λ x. name_of (h.nodes x)) (sym it) ∙ is in
    let same : name ≡ sched = cc in
    names_same sched name same

-- a place on a scheduler whose name passes a test
pub record IsOnSuch (h : Hierarchy) (test : Text → Bool) (place : Place) : Type 0 where
  pub p : ℕ
  pub slot : ℕ
  pub sched : Text
  pub at_place : place ≡ At p slot
  pub named : HasName h p sched
  pub passes : test sched ≡ true

pub on_such : (h : Hierarchy) (test : Text → Bool) (place : Place) (spot : Spot) → IsSpot h place spot
    → is_on test spot ≡ true → IsOnSuch h test place
on_such h test Processor Cpu is on = absurd (cc)
on_such h test Processor (Under sched terms) is on = absurd is
on_such h test (At p slot) Cpu is on = absurd is
on_such h test (At p slot) (Under sched terms) is on =
    record { p = p; slot = slot; sched = sched; at_place = refl; named = is; passes = on }
