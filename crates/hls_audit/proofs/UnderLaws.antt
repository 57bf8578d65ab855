-- A name is under another one exactly where it is that one or sits on a scheduler that is: as many steps up as
-- there are members reach all that more steps reach.
use Rattle.std.proofs.Common.{◌≡◌, ℕ, zero, suc, ◌+◌, ◌-◌, ◌<◌, ◌≤◌, List, [], ◌∷◌, Option, Some, None}
use Rattle.std.proofs.Common.{Bool, true, false, ◌||◌, refl, ap, sym, ◌∙◌, subst, map, length, arith, inl, inr}
use Rattle.std.specs.Prelude.{if◌then◌else◌}
use Rattle.std.specs.Str.{bytes_eq}
use Rattle.std.proofs.Math.Path.{fun_ext}
use Rattle.std.proofs.lemmas.Bool.{or_left, or_cases}
use Rattle.std.proofs.lemmas.List.{length-map}
use Rattle.std.proofs.lemmas.Slice.Eq.{bytes_eq-Decides}
use Rattle.hls_text.specs.Lines.{Text}
use Rattle.hls_scenario.specs.declared.scenario.Spot.{Spot}
use Rattle.hls_scenario.specs.declared.scenario.Spot.TheVariants.{Cpu, Under}
use Rattle.hls_scenario.specs.declared.scenario.Perch.{Perch}
use Rattle.hls_legal.specs.Under.{is_on}
use Rattle.hls_audit_clauses.specs.declared.member.Member.{Member}
use Rattle.hls_audit_clauses.specs.Names.{has_name, member_of, perches_of, sits, is_within}
use Rattle.hls_audit_clauses.proofs.Placing.{within_step, within_zero}

-- ---- tests of seats

pub or_right : (a b : Bool) → b ≡ true → (a || b) ≡ true
or_right true b e = refl
or_right false b e = e

on_more : (test other : Text → Bool) → ((name : Text) → test name ≡ true → other name ≡ true) → (spot : Spot)
    → is_on test spot ≡ true → is_on other spot ≡ true
on_more test other more Cpu e = absurd (cc)
on_more test other more (Under sched terms) e = more sched e

pub sits_more : (test other : Text → Bool) → ((name : Text) → test name ≡ true → other name ≡ true)
    → (perches : List Perch) → sits test perches ≡ true → sits other perches ≡ true
sits_more test other more [] e = absurd (cc)
sits_more test other more (perch ∷ perches) e =
    elim (or_cases (is_on test perch.spot) (sits test perches) e) [
      | inl on ↦ or_left (is_on other perch.spot) (sits other perches) (on_more test other more perch.spot on)
      | inr rest ↦ or_right (is_on other perch.spot) (sits other perches) (sits_more test other more perches rest)
    ]

-- ---- more steps

within_more : (tree : List Member) (steps : ℕ) (above name : Text) → is_within tree steps above name ≡ true
    → is_within tree (suc steps) above name ≡ true
within_more tree zero above name e =
    within_step tree 0 above name
    ∙ or_left (bytes_eq name above) (sits (is_within tree 0 above) (perches_of (member_of tree name)))
    (sym (within_zero tree above name) ∙ e)
within_more tree (suc steps) above name e =
    let up = perches_of (member_of tree name) in
    within_step tree (suc steps) above name
    ∙ elim (or_cases (bytes_eq name above) (sits (is_within tree steps above) up)
    (sym (within_step tree steps above name) ∙ e)) [
      | inl same ↦ or_left (bytes_eq name above) (sits (is_within tree (suc steps) above) up) same
      | inr on ↦ or_right (bytes_eq name above) (sits (is_within tree (suc steps) above) up)
          (sits_more (is_within tree steps above) (is_within tree (suc steps) above)
          (λ n. within_more tree steps above n) up on)
    ]

-- ---- the members that are reached

within_marks : List Member → (steps : ℕ) → (above : Text) → List Bool
within_marks tree steps above = map (λ (m : Member). is_within tree steps above m.name) tree

-- the mark of the first one of a name; a name that nobody has is below no other
marked : List Member → List Bool → (above name : Text) → Bool
marked (m ∷ tree) (mark ∷ marks) above name = if has_name name m then mark else marked tree marks above name
marked _ _ above name = bytes_eq name above

or_none : (b : Bool) → (b || false) ≡ b
or_none true = refl
or_none false = refl

chosen : (b x y z : Bool) → (b ≡ true → x ≡ z) → (b ≡ false → y ≡ z) → (if b then x else y) ≡ z
chosen true x y z here past = here refl
chosen false x y z here past = past refl

found_past : {X : Type 0} (b : Bool) (x found : Option X) → b ≡ false → (if b then x else found) ≡ found
found_past true x found e = absurd (cc)
found_past false x found e = refl

past : (name : Text) (m : Member) (tree : List Member) → has_name name m ≡ false
    → member_of (m ∷ tree) name ≡ member_of tree name
past name m tree e = found_past (has_name name m) (Some m) (member_of tree name) e

-- names that members have by a test are marked by it; it is to say of any other name whether it is the one above
marked_by : (test : Text → Bool) (above name : Text) (tree : List Member)
    → (member_of tree name ≡ None → test name ≡ bytes_eq name above)
    → marked tree (map (λ (m : Member). test m.name) tree) above name ≡ test name
unfolding marked
marked_by test above name [] none = sym (none refl)
marked_by test above name (m ∷ tree) none =
    chosen (has_name name m) (test m.name) (marked tree (map (λ (m : Member). test m.name) tree) above name)
    (test name)
    (λ e. ap test ((bytes_eq-Decides m.name name).0 e))
    (λ e. marked_by test above name tree (λ gone. none (past name m tree e ∙ gone)))

within_gone : (tree : List Member) (steps : ℕ) (above name : Text) → member_of tree name ≡ None
    → is_within tree steps above name ≡ bytes_eq name above
within_gone tree zero above name gone = within_zero tree above name
within_gone tree (suc steps) above name gone =
    within_step tree steps above name
    ∙ ap (λ found. bytes_eq name above || sits (is_within tree steps above) (perches_of found)) gone
    ∙ or_none (bytes_eq name above)

marked_within : (tree : List Member) (steps : ℕ) (above name : Text)
    → marked tree (within_marks tree steps above) above name ≡ is_within tree steps above name
unfolding within_marks
marked_within tree steps above name =
    marked_by (is_within tree steps above) above name tree (within_gone tree steps above name)

-- marks that are the same say the same of all names
same_within : (tree : List Member) (steps more : ℕ) (above : Text)
    → within_marks tree steps above ≡ within_marks tree more above → (name : Text)
    → is_within tree steps above name ≡ is_within tree more above name
same_within tree steps more above same name =
    sym (marked_within tree steps above name)
    ∙ ap (λ marks. marked tree marks above name) same
    ∙ marked_within tree more above name

-- ---- a step that reaches nobody is the last one

Settled : List Member → (above : Text) → (steps : ℕ) → Type 0
Settled tree above steps = (name : Text) → is_within tree (suc steps) above name ≡ is_within tree steps above name

settled_on : (tree : List Member) (above : Text) (steps : ℕ) → Settled tree above steps
    → Settled tree above (suc steps)
unfolding Settled
settled_on tree above steps settled name =
    within_step tree (suc steps) above name
    ∙ ap (λ test. bytes_eq name above || sits test (perches_of (member_of tree name))) (fun_ext settled)
    ∙ sym (within_step tree steps above name)

settled_later : (tree : List Member) (above : Text) (steps more : ℕ) → Settled tree above steps
    → Settled tree above (more + steps)
settled_later tree above steps zero settled =
    let same : steps ≡ zero + steps = omega arith in subst (λ n. Settled tree above n) same settled
settled_later tree above steps (suc more) settled =
    let up : suc (more + steps) ≡ suc more + steps = omega arith in
    subst (λ n. Settled tree above n) up
    (settled_on tree above (more + steps) (settled_later tree above steps more settled))

-- ---- before it each step reaches one more

set : List Bool → ℕ
set [] = 0
set (true ∷ marks) = suc (set marks)
set (false ∷ marks) = set marks

set_most : (marks : List Bool) → set marks ≤ length marks
unfolding set
set_most [] = omega arith
set_most (true ∷ marks) = omega (arith, set_most marks)
set_most (false ∷ marks) = omega (arith, set_most marks)

data Grown (old new : List Bool) : Type 0 where
  Equal : new ≡ old → Grown old new
  More : set old < set new → Grown old new

grown : (test other : Member → Bool) → ((m : Member) → test m ≡ true → other m ≡ true) → (tree : List Member)
    → Grown (map test tree) (map other tree)
unfolding set
grown test other more [] = Equal refl
grown test other more (m ∷ tree) = by (test m) (other m) (more m) (grown test other more tree)
  where
    by : (a b : Bool) → (a ≡ true → b ≡ true) → Grown (map test tree) (map other tree)
        → Grown (a ∷ map test tree) (b ∷ map other tree)
    by true true on (Equal e) = Equal (ap (λ marks. true ∷ marks) e)
    by true true on (More lt) = More (omega (arith, lt))
    by true false on rest = absurd (let wrong : false ≡ true = on refl in cc)
    by false true on (Equal e) =
        let same : set (map other tree) ≡ set (map test tree) = ap set e in More (omega (arith, same))
    by false true on (More lt) = More (omega (arith, lt))
    by false false on (Equal e) = Equal (ap (λ marks. false ∷ marks) e)
    by false false on (More lt) = More (omega (arith, lt))

-- so many steps settle what is under a name, or reach as many members
data Reach (tree : List Member) (above : Text) (steps : ℕ) : Type 0 where
  Ended : (last : ℕ) → last < steps → Settled tree above last → Reach tree above steps
  Many : steps ≤ set (within_marks tree steps above) → Reach tree above steps

reach : (tree : List Member) (above : Text) (steps : ℕ) → Reach tree above steps
unfolding within_marks Settled
reach tree above zero = Many (omega arith)
reach tree above (suc steps) = by (reach tree above steps)
  where
    next : steps ≤ set (within_marks tree steps above)
        → Grown (within_marks tree steps above) (within_marks tree (suc steps) above) → Reach tree above (suc steps)
    next many (Equal e) = Ended steps (omega arith) (same_within tree (suc steps) steps above e)
    next many (More lt) = Many (omega (arith, many, lt))

    by : Reach tree above steps → Reach tree above (suc steps)
    by (Ended last lt settled) = Ended last (omega (arith, lt)) settled
    by (Many many) =
        next many
        (grown (λ (m : Member). is_within tree steps above m.name)
        (λ (m : Member). is_within tree (suc steps) above m.name)
        (λ m. within_more tree steps above m.name) tree)

settled : (tree : List Member) (above : Text) → Settled tree above (length tree)
unfolding within_marks Settled
settled tree above = by (reach tree above (suc (length tree)))
  where
    by : Reach tree above (suc (length tree)) → Settled tree above (length tree)
    by (Ended last lt settled) =
        let le : last ≤ length tree = omega (arith, lt) in
        let end : (length tree - last) + last ≡ length tree = omega (arith, le) in
        subst (λ n. Settled tree above n) end (settled_later tree above last (length tree - last) settled)
    by (Many many) =
        let most = set_most (within_marks tree (suc (length tree)) above) in
        let all = length-map tree (λ (m : Member). is_within tree (suc (length tree)) above m.name) in
        absurd (omega (arith, many, most, all))

pub under_step : (tree : List Member) (above name : Text)
    → is_within tree (length tree) above name
    ≡ (bytes_eq name above || sits (is_within tree (length tree) above) (perches_of (member_of tree name)))
unfolding Settled
under_step tree above name = sym (settled tree above name) ∙ within_step tree (length tree) above name
