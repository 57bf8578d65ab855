-- Names that are met one after the other.
use Rattle.std.proofs.Common.{◌≡◌, ℕ, zero, suc, ◌+◌, ◌<◌, ◌≤◌, List, [], ◌∷◌, ◌++◌, Bool, true, false}
use Rattle.std.proofs.Common.{◌||◌, refl, sym, ap, ◌∙◌, subst, length, arith, inl, inr}
use Rattle.std.specs.Prelude.{Some, slice_get, is_some}
use Rattle.std.specs.Str.{bytes_eq}
use Rattle.std.proofs.lemmas.Bool.{cases_lt}
use Rattle.hls_text.specs.Lines.{Text}
use Rattle.hls_chron.specs.declared.plain.Terms.{Terms}
use Rattle.hls_scenario.specs.declared.scenario.Spot.{Spot}
use Rattle.hls_scenario.specs.declared.scenario.Spot.TheVariants.{Cpu, Under}
use Rattle.hls_scenario.specs.declared.scenario.Perch.{Perch}
use Rattle.hls_legal.specs.Under.{is_on}
use Rattle.hls_audit_stays.specs.declared.places.Places.{Places}
use Rattle.hls_audit_stays.specs.Places.{place_in, Sets}
use Rattle.hls_audit_stays.proofs.Lists.{IsOf, Front, Last, of_either, get_front, get_last, get_within}
use Rattle.hls_audit_stays.proofs.Names.{AreSame, Same, Apart, are_same, bytes_self}
use Rattle.hls_audit_clauses.specs.Names.{sits}
use Rattle.hls_audit.specs.declared.rising.Rising.{Rising}
use Rattle.hls_audit.specs.Inside.Rising.{AreNamed, IsMet, Meets, MeetsName, MeetsSpot, MeetsAll}

-- ---- a name

meets_none : (r : Rising) (test : Text → Bool) → Meets r r test
meets_none r test = record {
  named = λ named. named;
  grows = λ name met. met;
  kept = λ at name e. e;
  passing = λ at name e off. e;
}

pub meet_again : (r : Rising) (name : Text) → is_some (place_in r.places name) ≡ true → MeetsName r r name
meet_again r name met = record { meets = meets_none r (λ other. bytes_eq other name); met = met }

named_more : (old new : Rising) (met : Text) → AreNamed old → new.names.items ≡ old.names.items ++ met ∷ []
    → Sets old.places new.places met (length old.names.items) → AreNamed new
named_more old new met named items put name place found = at (are_same met name)
  where
    at : AreSame met name → slice_get new.names.items place ≡ Some name
    at (Same e) =
        let here : Some (length old.names.items) ≡ Some place =
        sym put.here ∙ ap (place_in new.places) e ∙ found in
        let end : length old.names.items ≡ place = cc in
        ap (λ (l : List Text). slice_get l place) items
        ∙ ap (λ n. slice_get (old.names.items ++ met ∷ []) n) (sym end)
        ∙ get_last old.names.items met ∙ ap (λ (n : Text). Some n) e
    at (Apart ne f) =
        ap (λ (l : List Text). slice_get l place) items
        ∙ get_front old.names.items (met ∷ []) place name (named name place (sym (put.others name ne) ∙ found))

grows_more : (old new : Places) (met : Text) (place : ℕ) → Sets old new met place → (name : Text)
    → is_some (place_in old name) ≡ true → is_some (place_in new name) ≡ true
grows_more old new met place put name known = at (are_same met name)
  where
    at : AreSame met name → is_some (place_in new name) ≡ true
    at (Same e) = ap (λ n. is_some (place_in new n)) (sym e) ∙ ap is_some put.here
    at (Apart ne f) = ap is_some (put.others name ne) ∙ known

passing_more : (xs : List Text) (met : Text) (at : ℕ) (name : Text) → slice_get (xs ++ met ∷ []) at ≡ Some name
    → bytes_eq name met ≡ false → slice_get xs at ≡ Some name
passing_more xs met at name e off = by (of_either xs met at name e)
  where
    by : IsOf xs met at name → slice_get xs at ≡ Some name
    by (Front there) = there
    by (Last end is) =
        absurd (let wrong : true ≡ false =
        sym (bytes_self met) ∙ ap (λ n. bytes_eq n met) is ∙ off in cc)

pub meet_new : (old new : Rising) (name : Text) → new.names.items ≡ old.names.items ++ name ∷ []
    → Sets old.places new.places name (length old.names.items) → MeetsName old new name
meet_new old new name items put = record {
  meets = record {
    named = λ named. named_more old new name named items put;
    grows = grows_more old.places new.places name (length old.names.items) put;
    kept = λ at other e.
        ap (λ (l : List Text). slice_get l at) items ∙ get_front old.names.items (name ∷ []) at other e;
    passing = λ at other e off.
        passing_more old.names.items name at other (ap (λ (l : List Text). slice_get l at) (sym items) ∙ e) off;
  };
  met = ap is_some put.here;
}

-- ---- a seat, and all seats

pub meet_cpu : (r : Rising) → MeetsSpot r r Cpu
meet_cpu r = record { meets = meets_none r (λ name. is_on (bytes_eq name) Cpu); met = record {} }

pub meet_spot : (old new : Rising) (sched : Text) (spot : Spot) → ((terms : Terms) × (spot ≡ Under sched terms))
    → MeetsName old new sched → MeetsSpot old new spot
meet_spot old new sched spot is meets =
    subst (λ (x : Spot). MeetsSpot old new x) (sym is.1) (record { meets = meets.meets; met = meets.met })

meets_on : (a b c : Rising) (test other : Text → Bool) → Meets a b test → Meets b c other
    → ((name : Text) → test name ≡ false → other name ≡ false) → Meets a c test
meets_on a b c test other one two off = record {
  named = λ named. two.named (one.named named);
  grows = λ name met. two.grows name (one.grows name met);
  kept = λ at name e. two.kept at name (one.kept at name e);
  passing = λ at name e not. one.passing at name (two.passing at name e (off name not)) not;
}

met_on : (old new : Rising) (test : Text → Bool) → Meets old new test → (spot : Spot) → IsMet old spot
    → IsMet new spot
met_on old new test meets Cpu met = record {}
met_on old new test meets (Under sched terms) met = meets.grows sched met

or_first : (a b : Bool) → (a || b) ≡ false → a ≡ false
or_first true b e = absurd (cc)
or_first false b e = refl

or_last : (a b : Bool) → (a || b) ≡ false → b ≡ false
or_last true b e = absurd (cc)
or_last false b e = e

pub seat_off : (test : Text → Bool) (perches : List Perch) (at : ℕ) (perch : Perch)
    → slice_get perches at ≡ Some perch → sits test perches ≡ false → is_on test perch.spot ≡ false
seat_off test [] at perch there off = absurd (cc)
seat_off test (p ∷ perches) zero perch there off =
    let same : p ≡ perch = cc in
    ap (λ (x : Perch). is_on test x.spot) (sym same) ∙ or_first (is_on test p.spot) (sits test perches) off
seat_off test (p ∷ perches) (suc at) perch there off =
    seat_off test perches at perch there (or_last (is_on test p.spot) (sits test perches) off)

-- the schedulers of the first seats are met
pub record MeetsFirst (old new : Rising) (perches : List Perch) (count : ℕ) : Type 0 where
  pub meets : Meets old new (λ name. sits (bytes_eq name) perches)
  pub met : (at : ℕ) (perch : Perch) → at < count → slice_get perches at ≡ Some perch → IsMet new perch.spot

pub meets_start : (r : Rising) (perches : List Perch) → MeetsFirst r r perches 0
meets_start r perches = record {
  meets = meets_none r (λ name. sits (bytes_eq name) perches);
  met = λ at perch lt e. absurd (omega (arith, lt));
}

pub meets_more : (old now new : Rising) (perches : List Perch) (count : ℕ) (perch : Perch)
    → slice_get perches count ≡ Some perch → MeetsFirst old now perches count → MeetsSpot now new perch.spot
    → MeetsFirst old new perches (count + 1)
meets_more old now new perches count perch there first spot = record {
  meets = meets_on old now new (λ name. sits (bytes_eq name) perches) (λ name. is_on (bytes_eq name) perch.spot)
      first.meets spot.meets (λ name off. seat_off (bytes_eq name) perches count perch there off);
  met = met;
}
  where
    met : (at : ℕ) (p : Perch) → at < count + 1 → slice_get perches at ≡ Some p → IsMet new p.spot
    met at p lt e = elim (cases_lt at count) [
      | inl low ↦ met_on now new (λ name. is_on (bytes_eq name) perch.spot) spot.meets p.spot (first.met at p low e)
      | inr le ↦ (let last : at ≡ count = omega (arith, lt, le) in
          let same : Some perch ≡ Some p = sym there ∙ ap (λ n. slice_get perches n) (sym last) ∙ e in
          let is : perch ≡ p = cc in
          subst (λ (q : Perch). IsMet new q.spot) is spot.met)
    ]

pub meets_all : (old new : Rising) (perches : List Perch) (count : ℕ) → length perches ≤ count
    → MeetsFirst old new perches count → MeetsAll old new perches
meets_all old new perches count le first = record {
  meets = first.meets;
  met = λ at perch e. first.met at perch (let lt = get_within perches at perch e in omega (arith, lt, le)) e;
}
