-- The way up from a name, and what is under another one.
use Rattle.std.proofs.Common.{◌≡◌, ℕ, zero, suc, ◌+◌, ◌<◌, ◌≤◌, List, [], ◌∷◌, Bool, true, false, ◌||◌}
use Rattle.std.proofs.Common.{refl, sym, ap, ◌∙◌, subst, length, arith, inl, inr}
use Rattle.std.specs.Prelude.{Option, Some, None, slice_get, is_some}
use Rattle.std.specs.Str.{bytes_eq}
use Rattle.std.proofs.lemmas.Bool.{cases_lt, or_left}
use Rattle.std.proofs.lemmas.Slice.Eq.{bytes_eq-Decides}
use Rattle.hls_text.specs.Lines.{Text}
use Rattle.hls_scenario.specs.declared.scenario.Spot.{Spot}
use Rattle.hls_scenario.specs.declared.scenario.Spot.TheVariants.{Cpu, Under}
use Rattle.hls_scenario.specs.declared.scenario.Perch.{Perch}
use Rattle.hls_legal.specs.Under.{is_on}
use Rattle.hls_audit_stays.specs.Places.{place_in}
use Rattle.hls_audit_stays.proofs.Lists.{get_within}
use Rattle.hls_audit_clauses.specs.declared.member.Member.{Member}
use Rattle.hls_audit_clauses.specs.Names.{member_of, perches_of, sits, is_within, is_under}
use Rattle.hls_audit_clauses.proofs.Placing.{within_step, within_zero}
use Rattle.hls_audit.specs.declared.rising.Rising.{Rising}
use Rattle.hls_audit.specs.Inside.Rising.{AreNamed, IsMet, Meets, MeetsName, MeetsAll}
use Rattle.hls_audit.proofs.UnderLaws.{under_step, sits_more, or_right}

abbrev pub AreMet : Rising → List Perch → Type 0
AreMet r perches = (at : ℕ) (perch : Perch) → slice_get perches at ≡ Some perch → IsMet r perch.spot

-- a name that was passed: it is not the one above, and the schedulers of its seats were met
pub record IsPassed (tree : List Member) (above : Text) (r : Rising) (name : Text) : Type 0 where
  pub apart : bytes_eq name above ≡ false
  pub ups : AreMet r (perches_of (member_of tree name))

-- a way up from a name on which so many were passed
pub record IsWay (tree : List Member) (above start : Text) (r : Rising) (count : ℕ) : Type 0 where
  pub named : AreNamed r
  pub started : is_some (place_in r.places start) ≡ true
  pub leads : (at : ℕ) (name : Text) → slice_get r.names.items at ≡ Some name → is_under tree above name ≡ true
      → is_under tree above start ≡ true
  pub passed : (at : ℕ) (name : Text) → at < count → slice_get r.names.items at ≡ Some name
      → IsPassed tree above r name

met_later : (old new : Rising) (test : Text → Bool) → Meets old new test → (perches : List Perch) → AreMet old perches
    → AreMet new perches
met_later old new test meets perches met at perch there = on perch.spot (met at perch there)
  where
    on : (spot : Spot) → IsMet old spot → IsMet new spot
    on Cpu is = record {}
    on (Under sched terms) is = meets.grows sched is

-- ---- its beginning, and one name more

pub way_start : (tree : List Member) (above start : Text) (none r : Rising) → AreNamed none → none.names.items ≡ []
    → MeetsName none r start → IsWay tree above start r 0
way_start tree above start none r named empty meets = record {
  named = meets.meets.named named;
  started = meets.met;
  leads = λ at name there under. first at name there under (bytes_eq name start) refl;
  passed = λ at name lt there. absurd (omega (arith, lt));
}
  where
    first : (at : ℕ) (name : Text) → slice_get r.names.items at ≡ Some name → is_under tree above name ≡ true
        → (b : Bool) → bytes_eq name start ≡ b → is_under tree above start ≡ true
    first at name there under true same =
        let is : name ≡ start = (bytes_eq-Decides name start).0 same in
        ap (is_under tree above) (sym is) ∙ under
    first at name there under false off =
        absurd (let before : slice_get [] at ≡ Some name =
        ap (λ (l : List Text). slice_get l at) (sym empty) ∙ meets.meets.passing at name there off in cc)

under_by : (tree : List Member) (above low high : Text) → sits (bytes_eq high) (perches_of (member_of tree low)) ≡ true
    → is_under tree above high ≡ true → is_under tree above low ≡ true
under_by tree above low high on under =
    let up = perches_of (member_of tree low) in
    under_step tree above low
    ∙ or_right (bytes_eq low above) (sits (is_under tree above) up)
    (sits_more (bytes_eq high) (is_under tree above)
    (λ n same. ap (is_under tree above) (sym ((bytes_eq-Decides high n).0 same)) ∙ under) up on)

none_past : (xs : List Text) (at : ℕ) → slice_get xs at ≡ None → length xs ≤ at
none_past [] at e = omega arith
none_past (x ∷ xs) zero e = absurd (cc)
none_past (x ∷ xs) (suc at) e = omega (arith, none_past xs at e)

pub way_more : (tree : List Member) (above start : Text) (old new : Rising) (count : ℕ) (next : Text)
    → slice_get old.names.items count ≡ Some next → bytes_eq next above ≡ false → IsWay tree above start old count
    → MeetsAll old new (perches_of (member_of tree next)) → IsWay tree above start new (count + 1)
way_more tree above start old new count next there apart way meets = record {
  named = meets.meets.named way.named;
  started = meets.meets.grows start way.started;
  leads = λ at name is under. leads at name is under (sits (bytes_eq name) up) refl;
  passed = passed;
}
  where
    up : List Perch
    up = perches_of (member_of tree next)

    leads : (at : ℕ) (name : Text) → slice_get new.names.items at ≡ Some name → is_under tree above name ≡ true
        → (b : Bool) → sits (bytes_eq name) (perches_of (member_of tree next)) ≡ b → is_under tree above start ≡ true
    leads at name is under true on = way.leads count next there (under_by tree above next name on under)
    leads at name is under false off = way.leads at name (meets.meets.passing at name is off) under

    old_at : (at : ℕ) (name : Text) → at < length old.names.items → slice_get new.names.items at ≡ Some name
        → slice_get old.names.items at ≡ Some name
    old_at at name lt is = by (slice_get old.names.items at) refl
      where
        by : (found : Option Text) → slice_get old.names.items at ≡ found → slice_get old.names.items at ≡ Some name
        by None e = absurd (omega (arith, lt, none_past old.names.items at e))
        by (Some other) e =
            let same : Some other ≡ Some name = sym (meets.meets.kept at other e) ∙ is in e ∙ same

    passed : (at : ℕ) (name : Text) → at < count + 1 → slice_get new.names.items at ≡ Some name
        → IsPassed tree above new name
    passed at name lt is =
        let within = get_within old.names.items count next there in
        let before = old_at at name (omega (arith, lt, within)) is in
        elim (cases_lt at count) [
          | inl low ↦ (let p = way.passed at name low before in
              record {
                apart = p.apart;
                ups = met_later old new (λ n. sits (bytes_eq n) up) meets.meets
                    (perches_of (member_of tree name)) p.ups;
              })
          | inr le ↦ (let last : count ≡ at = omega (arith, lt, le) in
              let same : Some next ≡ Some name = sym there ∙ ap (λ n. slice_get old.names.items n) last ∙ before in
              let it : next ≡ name = cc in
              subst (λ (n : Text). IsPassed tree above new n) it (record { apart = apart; ups = meets.met }))
        ]

-- ---- its ends

pub way_found : (tree : List Member) (above start : Text) (r : Rising) (count : ℕ) (next : Text)
    → slice_get r.names.items count ≡ Some next → bytes_eq next above ≡ true → IsWay tree above start r count
    → true ≡ is_under tree above start
way_found tree above start r count next there same way =
    sym (way.leads count next there
    (under_step tree above next
    ∙ or_left (bytes_eq next above) (sits (is_under tree above) (perches_of (member_of tree next))) same))

none_sits : (test : Text → Bool) (perches : List Perch)
    → ((at : ℕ) (perch : Perch) → slice_get perches at ≡ Some perch → is_on test perch.spot ≡ false)
    → sits test perches ≡ false
none_sits test [] off = refl
none_sits test (perch ∷ perches) off =
    ap (λ b. b || sits test perches) (off 0 perch refl)
    ∙ none_sits test perches (λ at p there. off (suc at) p there)

place_of_some : (found : Option ℕ) → is_some found ≡ true → (place : ℕ) × (found ≡ Some place)
place_of_some None is = absurd (cc)
place_of_some (Some place) is = (place, refl)

passed_of : (tree : List Member) (above start : Text) (r : Rising) (count : ℕ) → length r.names.items ≤ count
    → IsWay tree above start r count → (name : Text) → is_some (place_in r.places name) ≡ true
    → IsPassed tree above r name
passed_of tree above start r count all way name met =
    let p = place_of_some (place_in r.places name) met in
    let there = way.named name p.0 p.1 in
    let lt = get_within r.names.items p.0 name there in
    way.passed p.0 name (omega (arith, lt, all)) there

off_spot : (r : Rising) (test : Text → Bool)
    → ((sched : Text) → is_some (place_in r.places sched) ≡ true → test sched ≡ false) → (spot : Spot)
    → IsMet r spot → is_on test spot ≡ false
off_spot r test off Cpu met = refl
off_spot r test off (Under sched terms) met = off sched met

-- who was met is not under the name above, once all were passed
not_within : (tree : List Member) (above start : Text) (r : Rising) (count : ℕ) → length r.names.items ≤ count
    → IsWay tree above start r count → (steps : ℕ) (name : Text) → is_some (place_in r.places name) ≡ true
    → is_within tree steps above name ≡ false
not_within tree above start r count all way zero name met =
    within_zero tree above name ∙ (passed_of tree above start r count all way name met).apart
not_within tree above start r count all way (suc steps) name met =
    let it = passed_of tree above start r count all way name met in
    let up = perches_of (member_of tree name) in
    within_step tree steps above name
    ∙ ap (λ b. b || sits (is_within tree steps above) up) it.apart
    ∙ none_sits (is_within tree steps above) up
    (λ at perch there. off_spot r (is_within tree steps above)
    (λ sched is. not_within tree above start r count all way steps sched is) perch.spot (it.ups at perch there))

pub way_end : (tree : List Member) (above start : Text) (r : Rising) (count : ℕ) → length r.names.items ≤ count
    → IsWay tree above start r count → false ≡ is_under tree above start
way_end tree above start r count all way =
    sym (not_within tree above start r count all way (length tree) start way.started)

pub way_past : (tree : List Member) (above start : Text) (r : Rising) (count : ℕ)
    → slice_get r.names.items count ≡ None → IsWay tree above start r count → false ≡ is_under tree above start
way_past tree above start r count past way =
    way_end tree above start r count (none_past r.names.items count past) way
