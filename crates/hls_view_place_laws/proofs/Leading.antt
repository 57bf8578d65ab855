-- The names on a way down differ, so that it is no longer than the tree; and names that lead down are those of a way.
use Rattle.std.proofs.Common.{◌≡◌, ℕ, ◌<◌, ◌≤◌, List, [], ◌∷◌, Bool, true, false, inl, inr, ◌⊎◌}
use Rattle.std.proofs.Common.{refl, sym, ap, subst, ◌∙◌, ◌&&◌, cond, map, length, arith}
use Rattle.std.specs.Prelude.{Option, Some, None, find}
use Rattle.std.specs.List.{list_any}
use Rattle.std.specs.Str.{bytes_eq}
use Rattle.std.proofs.lemmas.Bool.{and_parts, and_from}
use Rattle.std.proofs.lemmas.List.{length-map}
use Rattle.hls_text.specs.Lines.{Text}
use Rattle.hls_scenario.specs.declared.scenario.Spot.{Spot}
use Rattle.hls_scenario.specs.declared.scenario.Spot.TheVariants.{Cpu, Under}
use Rattle.hls_scenario.specs.declared.scenario.Perch.{Perch}
use Rattle.hls_legal.specs.Under.{is_on}
use Rattle.hls_audit_clauses.specs.declared.member.Sort.{Sort}
use Rattle.hls_audit_clauses.specs.declared.member.Sort.TheVariants.{Scheduler, Thread}
use Rattle.hls_audit_clauses.specs.declared.member.Member.{Member}
use Rattle.hls_audit_clauses.specs.Names.{member_of, sort_of, sits_on, is_thread, is_thread_sort, is_scheduler_sort}
use Rattle.hls_audit_clauses.specs.Ways.{passes, leads_on}
use Rattle.hls_audit_stays.proofs.Names.{bytes_same, bytes_self}
use Rattle.hls_view_tale.specs.declared.label.Label.{Label}
use Rattle.hls_view_tale.specs.Places.{is_at, label_of}
use Rattle.hls_view_lanes.specs.Facts.{spells}
use Rattle.hls_view_lanes.specs.Leaves.{IsDown}
use Rattle.hls_view_lanes.specs.Leaves as leaves
use Rattle.hls_view_place_laws.specs.Ways.{HasSeat, IsWayDown}
use Rattle.hls_view_place_laws.proofs.Among.{IsIn, AreOnce, in-at, at-in, contained, in-contained, such, once-same}
use Rattle.hls_view_place_laws.proofs.Among.{no-longer}
use Rattle.hls_view_place_laws.proofs.Seats.{names_of, Has, schedules, SitsWell, IsRanked, named-in, member-found}
use Rattle.hls_view_place_laws.proofs.Seats.{found}

abbrev pub names_on : List Label → List Text
names_on way = map (λ (label : Label). label.name) way

-- ---- whoever sits on a name sits on a scheduler

named-seat : (tree : List Member) (top : Option Text) (label : Label) → (h : HasSeat tree top label)
    → label.name ≡ h.member.name
named-seat tree top label h = ap (λ (l : Label). l.name) h.told

seat-named : (tree : List Member) (top : Option Text) (label : Label) → HasSeat tree top label
    → IsIn label.name (names_of tree)
seat-named tree top label h =
    subst (λ (n : Text). IsIn n (names_of tree)) (sym (named-seat tree top label h))
    (named-in h.member tree (in-contained h.member tree h.there))

on-higher : (tree : List Member) (rank : Text → ℕ) (name owner : Text) (spot : Spot) → SitsWell tree rank owner spot
    → is_on (bytes_eq name) spot ≡ true → Has schedules tree name × (rank name < rank owner)
on-higher tree rank name owner Cpu sits on = absurd (let wrong : false ≡ true = on in cc)
on-higher tree rank name owner (Under sched terms) sits on =
    let e = bytes_same name sched on in (
      subst (λ (n : Text). Has schedules tree n) (sym e) sits.0,
      subst (λ (n : Text). rank n < rank owner) (sym e) sits.1,
    )

pub seat-higher : (tree : List Member) (rank : Text → ℕ) (name : Text) (label : Label) → IsRanked tree rank
    → HasSeat tree (Some name) label → Has schedules tree name × (rank name < rank label.name)
seat-higher tree rank name label ranked h =
    let r = on-higher tree rank name h.member.name h.perch.spot
    (ranked.seats h.member h.perch (in-contained h.member tree h.there)
    (in-at h.member.perches h.port h.perch h.sits)) h.at in
    (r.0, subst (λ (n : Text). rank name < rank n) (sym (named-seat tree (Some name) label h)) r.1)

-- ---- the names on a way differ

lower : (tree : List Member) (rank : Text → ℕ) (name other : Text) (way : List Label) → IsRanked tree rank
    → IsWayDown tree (Some name) way → IsIn other (names_on way) → rank name < rank other
lower tree rank name other [] ranked down has = absurd has
lower tree rank name other (label ∷ way) ranked down (inl is) =
    subst (λ (n : Text). rank name < rank n) is (seat-higher tree rank name label ranked down.0).1
lower tree rank name other (label ∷ way) ranked down (inr has) =
    let one = (seat-higher tree rank name label ranked down.0).1 in
    let two = lower tree rank label.name other way ranked down.1 has in
    omega (arith, one, two)

way-once : (tree : List Member) (rank : Text → ℕ) (top : Option Text) (way : List Label) → IsRanked tree rank
    → IsWayDown tree top way → AreOnce (names_on way)
way-once tree rank top [] ranked down = tt
way-once tree rank top (label ∷ way) ranked down = (
  λ has. (let lt = lower tree rank label.name label.name way ranked down.1 has in omega (arith, lt)),
  way-once tree rank (Some label.name) way ranked down.1,
)

way-named : (tree : List Member) (top : Option Text) (way : List Label) → IsWayDown tree top way → (name : Text)
    → IsIn name (names_on way) → IsIn name (names_of tree)
way-named tree top [] down name has = absurd has
way-named tree top (label ∷ way) down name (inl is) =
    subst (λ (n : Text). IsIn n (names_of tree)) is (seat-named tree top label down.0)
way-named tree top (label ∷ way) down name (inr has) = way-named tree (Some label.name) way down.1 name has

pub way-short : (tree : List Member) (rank : Text → ℕ) (top : Option Text) (way : List Label) → IsRanked tree rank
    → IsWayDown tree top way → length way ≤ length tree
way-short tree rank top way ranked down =
    let most = no-longer (names_on way) (names_of tree) (way-once tree rank top way ranked down)
    (way-named tree top way down) in
    let one = length-map way (λ (label : Label). label.name) in
    let two = length-map tree (λ (m : Member). m.name) in
    omega (arith, most, one, two)

-- ---- names that lead down are those of a way

abbrev sits_at : (top : Option Text) → Member → Bool
sits_at top m = list_any (λ (perch : Perch). is_at top perch.spot) m.perches

record IsSeated (tree : List Member) (top : Option Text) (name : Text) : Type 0 where
  label : Label
  seat : HasSeat tree top label
  named : label.name ≡ name

seated-there : (tree : List Member) (top : Option Text) (name : Text) (o : Option Member) → member_of tree name ≡ o
    → passes (sits_at top) o ≡ true → IsSeated tree top name
seated-there tree top name None is e = absurd (let wrong : false ≡ true = e in cc)
seated-there tree top name (Some m) is e =
    let f = found tree name m is in
    let s = such (λ (perch : Perch). is_at top perch.spot) m.perches e in
    let at = at-in s.one m.perches s.has in
    record {
      label = label_of m at.0 s.one;
      seat = record {
        member = m;
        there = contained m tree f.there;
        port = at.0;
        perch = s.one;
        sits = at.1;
        at = s.passes;
        told = refl;
      };
      named = f.named;
    }

pub record IsLed (tree : List Member) (top : Option Text) (names : List Text) : Type 0 where
  pub first : Label
  pub rest : List Label
  pub down : IsWayDown tree top (first ∷ rest)
  pub spelled : spells names (first ∷ rest) ≡ true

pub led : (tree : List Member) (top : Option Text) (names : List Text) → leads_on tree (sits_at top) names ≡ true
    → IsLed tree top names
led tree top [] e = absurd (let wrong : false ≡ true = e in cc)
led tree top (name ∷ []) e =
    let s = seated-there tree top name (member_of tree name) refl
    (and_parts (passes (sits_at top) (member_of tree name)) (is_thread tree name) e).0 in
    record {
      first = s.label;
      rest = [];
      down = (s.seat, tt);
      spelled = ap (λ b. b && true) (ap (bytes_eq name) s.named ∙ bytes_self name);
    }
led tree top (name ∷ next ∷ names) e =
    let parts =
    and_parts (passes (sits_at top) (member_of tree name)) (leads_on tree (sits_on name) (next ∷ names)) e in
    let s = seated-there tree top name (member_of tree name) refl parts.0 in
    let l = led tree (Some name) (next ∷ names) parts.1 in
    record {
      first = s.label;
      rest = l.first ∷ l.rest;
      down = (s.seat, subst (λ (n : Text). IsWayDown tree (Some n) (l.first ∷ l.rest)) (sym s.named) l.down);
      spelled = and_from (bytes_eq name s.label.name) (spells (next ∷ names) (l.first ∷ l.rest))
          (ap (bytes_eq name) s.named ∙ bytes_self name) l.spelled;
    }

-- ---- and each way of these names leads over schedulers to a thread

no-thread : (m : Member) → schedules m ≡ true → is_thread_sort (Some m.sort) ≡ false
no-thread m e = by m.sort e
  where
    by : (s : Sort) → is_scheduler_sort (Some s) ≡ true → is_thread_sort (Some s) ≡ false
    by Thread e = absurd (let wrong : false ≡ true = e in cc)
    by (Scheduler config) e = refl

over-scheduler : (tree : List Member) (top : Option Text) (label : Label) → AreOnce (names_of tree)
    → HasSeat tree top label → Has schedules tree label.name → leaves.is_thread label ≡ false
over-scheduler tree top label once h s =
    let same : h.member ≡ s.member =
    once-same (λ (m : Member). m.name) tree h.member s.member once (in-contained h.member tree h.there) s.there
    (sym (named-seat tree top label h) ∙ sym s.named) in
    ap (λ (l : Label). is_thread_sort (Some l.sort)) h.told
    ∙ no-thread h.member (ap schedules same ∙ s.such)

at-thread : (tree : List Member) (top : Option Text) (label : Label) (name : Text) → AreOnce (names_of tree)
    → HasSeat tree top label → label.name ≡ name → is_thread tree name ≡ true → leaves.is_thread label ≡ true
at-thread tree top label name once h named e =
    let there : member_of tree name ≡ Some h.member =
    ap (member_of tree) (sym named ∙ named-seat tree top label h)
    ∙ member-found tree h.member once (in-contained h.member tree h.there) in
    ap (λ (l : Label). is_thread_sort (Some l.sort)) h.told
    ∙ sym (ap (λ o. is_thread_sort (sort_of o)) there) ∙ e

wrong-false : {A : Type 0} → false ≡ true → A
wrong-false e = absurd (cc)

pub down-over : (tree : List Member) (rank : Text → ℕ) (top : Option Text) (test : Member → Bool) (names : List Text)
    (way : List Label) → IsRanked tree rank → IsWayDown tree top way → spells names way ≡ true
    → leads_on tree test names ≡ true → IsDown way
down-over tree rank top test [] way ranked down spelled e = wrong-false e
down-over tree rank top test (name ∷ names) [] ranked down spelled e = wrong-false spelled
down-over tree rank top test (name ∷ []) (label ∷ []) ranked down spelled e =
    at-thread tree top label name ranked.once down.0
    (sym (bytes_same name label.name (and_parts (bytes_eq name label.name) true spelled).0))
    (and_parts (passes test (member_of tree name)) (is_thread tree name) e).1
down-over tree rank top test (name ∷ []) (label ∷ next ∷ way) ranked down spelled e =
    wrong-false (and_parts (bytes_eq name label.name) false spelled).1
down-over tree rank top test (name ∷ other ∷ names) (label ∷ []) ranked down spelled e =
    wrong-false (and_parts (bytes_eq name label.name) false spelled).1
down-over tree rank top test (name ∷ other ∷ names) (label ∷ next ∷ way) ranked down spelled e = (
  over-scheduler tree top label ranked.once down.0 (seat-higher tree rank label.name next ranked down.1.0).0,
  down-over tree rank (Some label.name) (sits_on name) (other ∷ names) (next ∷ way) ranked down.1
      (and_parts (bytes_eq name label.name) (spells (other ∷ names) (next ∷ way)) spelled).1
      (and_parts (passes test (member_of tree name)) (leads_on tree (sits_on name) (other ∷ names)) e).1,
)

-- ---- the first that passes a test

pub record IsFirst {X : Type 0} (test : X → Bool) (xs : List X) : Type 0 where
  pub one : X
  pub is : find test xs ≡ Some one
  pub has : IsIn one xs
  pub passes : test one ≡ true

pub first-such : {X : Type 0} (test : X → Bool) (x : X) (xs : List X) → IsIn x xs → test x ≡ true → IsFirst test xs
first-such test x [] has e = absurd has
first-such {X = X} test x (y ∷ xs) has e = by (test y) refl has (λ h. first-such test x xs h e)
  where
    by : (b : Bool) → test y ≡ b → (y ≡ x) ⊎ IsIn x xs → (IsIn x xs → IsFirst test xs) → IsFirst test (y ∷ xs)
    by true on h more = record {
      one = y;
      is = ap (λ b. cond b (Some y) (find test xs)) on;
      has = inl refl;
      passes = on;
    }
    by false off (inl is) more = absurd (let wrong : false ≡ true = sym off ∙ ap test is ∙ e in cc)
    by false off (inr h) more =
        let f = more h in
        record {
          one = f.one;
          is = ap (λ b. cond b (Some y) (find test xs)) off ∙ f.is;
          has = inr f.has;
          passes = f.passes;
        }
