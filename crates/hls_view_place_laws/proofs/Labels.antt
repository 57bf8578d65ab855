-- The labels of those who sit somewhere.
use Rattle.std.proofs.Common.{◌≡◌, ℕ, zero, suc, ◌+◌, List, [], ◌∷◌, Bool, true, false, inl, inr}
use Rattle.std.proofs.Common.{refl, sym, ap, subst, ◌∙◌, if◌then◌else◌, arith}
use Rattle.std.specs.Prelude.{Option, Some, slice_get}
use Rattle.hls_text.specs.Lines.{Text}
use Rattle.hls_scenario.specs.declared.scenario.Perch.{Perch}
use Rattle.hls_audit_clauses.specs.declared.member.Member.{Member}
use Rattle.hls_view_tale.specs.declared.label.Label.{Label}
use Rattle.hls_view_tale.specs.Places.{is_at, label_of, label_if, labels_from, labels_on}
use Rattle.hls_view_place_laws.specs.Ways.{HasSeat}
use Rattle.hls_view_place_laws.proofs.Among.{IsIn, AreOnce, in-front, in-back, in-either, in-flat, of-flat, contained}
use Rattle.hls_view_place_laws.proofs.Among.{in-contained, once-append, once-flat, once-map, once-same}
use Rattle.hls_view_place_laws.proofs.Seats.{names_of}

-- ---- of one member

pub record IsSeatOf (m : Member) (above : Option Text) (port : ℕ) (perches : List Perch) (label : Label)
    : Type 0 where
  pub number : ℕ
  pub perch : Perch
  pub sits : slice_get perches number ≡ Some perch
  pub at : is_at above perch.spot ≡ true
  pub told : label ≡ label_of m (port + number) perch

of-if : (b : Bool) (label l : Label) → IsIn label (if b then l ∷ [] else []) → (b ≡ true) × (l ≡ label)
of-if true label l (inl is) = (refl, is)
of-if true label l (inr none) = absurd none
of-if false label l has = absurd has

of-from : (m : Member) (above : Option Text) (port : ℕ) (perches : List Perch) (label : Label)
    → IsIn label (labels_from m above port perches) → IsSeatOf m above port perches label
of-from m above port [] label has = absurd has
of-from m above port (perch ∷ perches) label has =
    elim (in-either label (label_if m above port perch) (labels_from m above (port + 1) perches) has) [
      | inl here ↦
          (let o = of-if (is_at above perch.spot) label (label_of m port perch) here in
          let e : port ≡ port + 0 = omega arith in
          record {
            number = 0;
            perch = perch;
            sits = refl;
            at = o.0;
            told = sym o.1 ∙ ap (λ n. label_of m n perch) e;
          })
      | inr rest ↦
          (let s = of-from m above (port + 1) perches label rest in
          let e : port + 1 + s.number ≡ port + suc s.number = omega arith in
          record {
            number = suc s.number;
            perch = s.perch;
            sits = s.sits;
            at = s.at;
            told = s.told ∙ ap (λ n. label_of m n s.perch) e;
          })
    ]

in-from : (m : Member) (above : Option Text) (port number : ℕ) (perches : List Perch) (perch : Perch)
    → slice_get perches number ≡ Some perch → is_at above perch.spot ≡ true
    → IsIn (label_of m (port + number) perch) (labels_from m above port perches)
in-from m above port number [] perch sits at = absurd (cc)
in-from m above port zero (p ∷ perches) perch sits at =
    let is : p ≡ perch = cc in
    let e : port ≡ port + 0 = omega arith in
    let on : is_at above p.spot ≡ true = ap (λ (q : Perch). is_at above q.spot) is ∙ at in
    in-front (label_of m (port + 0) perch) (label_if m above port p) (labels_from m above (port + 1) perches)
    (subst (λ (b : Bool). IsIn (label_of m (port + 0) perch) (if b then label_of m port p ∷ [] else [])) (sym on)
    (inl (ap (λ (q : Perch). label_of m port q) is ∙ ap (λ n. label_of m n perch) e)))
in-from m above port (suc number) (p ∷ perches) perch sits at =
    let e : port + 1 + number ≡ port + suc number = omega arith in
    in-back (label_of m (port + suc number) perch) (label_if m above port p) (labels_from m above (port + 1) perches)
    (subst (λ n. IsIn (label_of m n perch) (labels_from m above (port + 1) perches)) e
    (in-from m above (port + 1) number perches perch sits at))

if-once : (b : Bool) (l : Label) → AreOnce (if b then l ∷ [] else [])
if-once true l = (λ has. has, tt)
if-once false l = tt

from-once : (m : Member) (above : Option Text) (port : ℕ) (perches : List Perch)
    → AreOnce (labels_from m above port perches)
from-once m above port [] = tt
from-once m above port (perch ∷ perches) =
    once-append (label_if m above port perch) (labels_from m above (port + 1) perches)
    (if-once (is_at above perch.spot) (label_of m port perch)) (from-once m above (port + 1) perches)
    (λ label here rest. (
    let o = of-if (is_at above perch.spot) label (label_of m port perch) here in
    let s = of-from m above (port + 1) perches label rest in
    let one : port ≡ label.port = ap (λ (l : Label). l.port) o.1 in
    let two : label.port ≡ port + 1 + s.number = ap (λ (l : Label). l.port) s.told in
    absurd (omega (arith, one, two))))

-- ---- of all

pub of-labels : (members : List Member) (above : Option Text) (label : Label) → IsIn label (labels_on members above)
    → HasSeat members above label
of-labels members above label has =
    let o = of-flat (λ (m : Member). labels_from m above 0 m.perches) label members has in
    let s = of-from o.one above 0 o.one.perches label o.there in
    let e : 0 + s.number ≡ s.number = omega arith in
    record {
      member = o.one;
      there = contained o.one members o.has;
      port = s.number;
      perch = s.perch;
      sits = s.sits;
      at = s.at;
      told = s.told ∙ ap (λ n. label_of o.one n s.perch) e;
    }

pub in-labels : (members : List Member) (above : Option Text) (label : Label) → HasSeat members above label
    → IsIn label (labels_on members above)
in-labels members above label h =
    let e : 0 + h.port ≡ h.port = omega arith in
    let is : label_of h.member (0 + h.port) h.perch ≡ label =
    ap (λ n. label_of h.member n h.perch) e ∙ sym h.told in
    in-flat (λ (m : Member). labels_from m above 0 m.perches) h.member label members
    (in-contained h.member members h.there)
    (subst (λ l. IsIn l (labels_from h.member above 0 h.member.perches)) is
    (in-from h.member above 0 h.port h.member.perches h.perch h.sits h.at))

pub labels-once : (members : List Member) (above : Option Text) → AreOnce (names_of members)
    → AreOnce (labels_on members above)
labels-once members above once =
    once-flat (λ (m : Member). labels_from m above 0 m.perches) members
    (once-map (λ (m : Member). m.name) members once)
    (λ m has. from-once m above 0 m.perches)
    (λ m k label hm hk at_m at_k.
    once-same (λ (n : Member). n.name) members m k once hm hk
    (sym (ap (λ (l : Label). l.name) (of-from m above 0 m.perches label at_m).told)
    ∙ ap (λ (l : Label). l.name) (of-from k above 0 k.perches label at_k).told))

-- the same members have the same labels
pub seat-among : (members others : List Member) (above : Option Text) (label : Label)
    → ((m : Member) → IsIn m members → IsIn m others) → HasSeat members above label → HasSeat others above label
seat-among members others above label all h = record {
  member = h.member;
  there = contained h.member others (all h.member (in-contained h.member members h.there));
  port = h.port;
  perch = h.perch;
  sits = h.sits;
  at = h.at;
  told = h.told;
}
