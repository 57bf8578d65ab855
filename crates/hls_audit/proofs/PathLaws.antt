-- A path leads down where it goes on from the processor step by step.
use Rattle.std.proofs.Common.{◌≡◌, ℕ, zero, suc, ◌+◌, ◌<◌, ◌≤◌, List, [], ◌∷◌, Option, Some, None, true, false, refl}
use Rattle.std.proofs.Common.{ap, sym, ◌∙◌, subst, map, length, drop, get_or, arith, ◌&&◌}
use Rattle.std.specs.List.{AllByRecursion, slice_get}
use Rattle.std.proofs.Math.Seq.{drop-cons}
use Rattle.std.proofs.Math.ListN.{drop_of_length-le}
use Rattle.hls_text.specs.Lines.{Text}
use Rattle.hls_chron.specs.Name.{IsName}
use Rattle.hls_audit_clauses.specs.declared.member.Member.{Member}
use Rattle.hls_audit_clauses.specs.Ways.{leads_on, leads_down}
use Rattle.hls_audit.specs.Inside.Steps.{is_seat, is_step, is_last, goes_on}

leads_step : (tree : List Member) (above : Option Text) (name : Text) (names : List Text)
    → leads_on tree (is_seat above) (name ∷ names) ≡ goes_on tree above (name ∷ names)
leads_step tree above name [] = refl
leads_step tree above name (next ∷ names) =
    ap (λ b. is_step tree above name && b) (leads_step tree (Some name) next names)

pub leads_whole : (tree : List Member) (names : List Text) → leads_down tree names ≡ goes_on tree None names
leads_whole tree [] = refl
leads_whole tree (name ∷ names) = leads_step tree None name names

-- the names of places
abbrev pub named : List Text → List ℕ → List Text
named names places = map (λ place. get_or names place []) places

-- what is left of a path from place i on
pub record IsLeft (tree : List Member) (names : List Text) (places : List ℕ) (above : Option Text) (i : ℕ)
    : Type 0 where
  pub leads : leads_down tree (named names places) ≡ goes_on tree above (named names (drop i places))
  pub named : AllByRecursion IsName (named names (drop i places))

pub left-first : (tree : List Member) (names : List Text) (places : List ℕ)
    → AllByRecursion IsName (named names places) → IsLeft tree names places None 0
left-first tree names places are = record { leads = leads_whole tree (named names places); named = are }

-- the next place
record IsNext (tree : List Member) (names : List Text) (places : List ℕ) (above : Option Text) (i : ℕ) (name : Text)
    : Type 0 where
  leads : leads_down tree (named names places)
      ≡ (is_step tree above name && goes_on tree (Some name) (named names (drop (i + 1) places)))
  here : IsName name
  named : AllByRecursion IsName (named names (drop (i + 1) places))

next_left : (tree : List Member) (names : List Text) (places : List ℕ) (above : Option Text) (i : ℕ)
    → i < length places → IsLeft tree names places above i
    → IsNext tree names places above i (get_or names (get_or places i 0) [])
next_left tree names places above i lt left =
    let up : suc i ≡ i + 1 = omega arith in
    let split : drop i places ≡ get_or places i 0 ∷ drop (i + 1) places =
    drop-cons places i 0 lt ∙ ap (λ n. get_or places i 0 ∷ drop n places) up in
    let are : AllByRecursion IsName (named names (get_or places i 0 ∷ drop (i + 1) places)) =
    subst (λ ps. AllByRecursion IsName (named names ps)) split left.named in
    record {
      leads = left.leads ∙ ap (λ ps. goes_on tree above (named names ps)) split;
      here = are.0;
      named = are.1;
    }

got_none : (names : List Text) (place : ℕ) → slice_get names place ≡ None → get_or names place [] ≡ []
got_none [] place is = refl
got_none (name ∷ names) zero is = absurd (cc)
got_none (name ∷ names) (suc place) is = got_none names place is

got_some : (names : List Text) (place : ℕ) (name : Text) → slice_get names place ≡ Some name
    → name ≡ get_or names place []
got_some [] place name is = absurd (cc)
got_some (first ∷ names) zero name is = cc
got_some (first ∷ names) (suc place) name is = got_some names place name is

-- each place has a name
pub left-there : (tree : List Member) (names : List Text) (places : List ℕ) (above : Option Text) (i : ℕ)
    → i < length places → IsLeft tree names places above i → slice_get names (get_or places i 0) ≡ None → ⊥
left-there tree names places above i lt left is =
    let next = next_left tree names places above i lt left in
    let none : get_or names (get_or places i 0) [] ≡ [] = got_none names (get_or places i 0) is in
    let bad : IsName [] = subst (λ (t : Text). IsName t) none next.here in
    absurd (cc bad)

pub left-astray : (tree : List Member) (names : List Text) (places : List ℕ) (above : Option Text) (i : ℕ) (name : Text)
    → i < length places → IsLeft tree names places above i → slice_get names (get_or places i 0) ≡ Some name
    → is_step tree above name ≡ false → false ≡ leads_down tree (named names places)
left-astray tree names places above i name lt left there off =
    let is = got_some names (get_or places i 0) name there in
    let next = next_left tree names places above i lt left in
    sym (next.leads
    ∙ ap (λ n. is_step tree above n && goes_on tree (Some n) (named names (drop (i + 1) places))) (sym is)
    ∙ ap (λ b. b && goes_on tree (Some name) (named names (drop (i + 1) places))) off)

pub left-more : (tree : List Member) (names : List Text) (places : List ℕ) (above : Option Text) (i : ℕ) (name : Text)
    → i < length places → IsLeft tree names places above i → slice_get names (get_or places i 0) ≡ Some name
    → is_step tree above name ≡ true → IsLeft tree names places (Some name) (i + 1)
left-more tree names places above i name lt left there on =
    let is = got_some names (get_or places i 0) name there in
    let next = next_left tree names places above i lt left in
    record {
      leads = next.leads
          ∙ ap (λ n. is_step tree above n && goes_on tree (Some n) (named names (drop (i + 1) places))) (sym is)
          ∙ ap (λ b. b && goes_on tree (Some name) (named names (drop (i + 1) places))) on;
      named = next.named;
    }

pub left-end : (tree : List Member) (names : List Text) (places : List ℕ) (above : Option Text) (i : ℕ)
    → length places ≤ i → IsLeft tree names places above i
    → is_last tree above ≡ leads_down tree (named names places)
left-end tree names places above i le left =
    sym (left.leads ∙ ap (λ ps. goes_on tree above (named names ps)) (drop_of_length-le places le))
