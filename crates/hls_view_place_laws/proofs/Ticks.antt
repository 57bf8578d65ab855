-- The tree of names at a tick of a tale, its places, and the way that the path of the tick names.
use Rattle.std.proofs.Common.{◌≡◌, ℕ, zero, suc, ◌<◌, ◌≤◌, List, [], ◌∷◌, ◌++◌, Bool, true, false, inl, inr}
use Rattle.std.proofs.Common.{refl, sym, ap, subst, ◌∙◌, cond, filter, take, length, arith}
use Rattle.std.specs.Prelude.{Option, Some, None, slice_get, find, option_and_then, nat_le}
use Rattle.std.proofs.lemmas.Bool.{cases_lt, le-leb, lt-leb, leb-true, false_from_ne_true, true_from_ne_false}
use Rattle.std.proofs.lemmas.List.{append_assoc}
use Rattle.hls_text.specs.Lines.{Text}
use Rattle.hls_report_text.specs.declared.report.Answered.{Answered}
use Rattle.hls_report_text.specs.Content.{Content}
use Rattle.hls_report_text.specs.WellFormed.{AreAnswered, IsContent}
use Rattle.hls_legal.specs.Commands.{is_done}
use Rattle.hls_legal.specs.Schedule.{path_at}
use Rattle.hls_legal.specs.Stays.{threads}
use Rattle.hls_audit_clauses.specs.declared.member.Member.{Member}
use Rattle.hls_audit_clauses.specs.Names.{tree_of, tree_at, sits_at_cpu}
use Rattle.hls_audit_clauses.specs.Misplaced.{is_misplaced}
use Rattle.hls_audit_clauses.specs.Ways.{leads_down}
use Rattle.hls_audit_clauses.specs.Clauses.{Placed, Leading}
use Rattle.hls_audit_stays.proofs.Lists.{kept_of}
use Rattle.hls_view_tale.specs.declared.label.Label.{Label}
use Rattle.hls_view_tale.specs.declared.place.Place.{Place}
use Rattle.hls_view_tale.specs.Places.{labels_of}
use Rattle.hls_view_tale.specs.Hierarchies.{came_by, standing_at, in_order, places_at}
use Rattle.hls_view_lanes.specs.Rows.{ways_at}
use Rattle.hls_view_lanes.specs.Facts.{spells}
use Rattle.hls_view_lanes.specs.Leaves.{HasWay, IsGiven}
use Rattle.hls_view_place_laws.specs.Tales.{TellsUpTo}
use Rattle.hls_view_place_laws.specs.Ways.{IsWayDown}
use Rattle.hls_view_place_laws.proofs.Among.{IsIn, AreOnce, in-map, of-map}
use Rattle.hls_view_place_laws.proofs.Followed.{IsSoFar, so-far, of-order, in-order, order-once}
use Rattle.hls_view_place_laws.proofs.Descending.{of-below, in-below, below-once, way-among}
use Rattle.hls_view_place_laws.proofs.Leading.{way-short, led, down-over, first-such}

-- ---- the commands that came are the first ones

none-early : (version horizon last t : ℕ) (all : List Answered) → AreAnswered version horizon last all → t < last
    → filter (λ (a : Answered). nat_le a.tick t) all ≡ []
none-early version horizon last t [] are late = refl
none-early version horizon last t (a ∷ all) are late =
    let first = are.2 in
    let behind : t < a.tick = omega (arith, first, late) in
    ap (λ (b : Bool). cond b (a ∷ filter (λ (a : Answered). nat_le a.tick t) all)
    (filter (λ (a : Answered). nat_le a.tick t) all)) (lt-leb a.tick t behind)
    ∙ none-early version horizon a.tick t all are.4 behind

came-first : (version horizon last t : ℕ) (all : List Answered) → AreAnswered version horizon last all
    → take (came_by t all) all ≡ filter (λ (a : Answered). nat_le a.tick t) all
came-first version horizon last t [] are = refl
came-first version horizon last t (a ∷ all) are =
    let rest = filter (λ (a : Answered). nat_le a.tick t) all in
    elim (cases_lt t a.tick) [
      | inl late ↦
          let none : (cond (nat_le a.tick t) (a ∷ rest) rest) ≡ [] =
          ap (λ (b : Bool). cond b (a ∷ rest) rest) (lt-leb a.tick t late)
          ∙ none-early version horizon a.tick t all are.4 late in
          ap (λ (l : List Answered). take (length l) (a ∷ all)) none ∙ sym none
      | inr early ↦
          let one : (cond (nat_le a.tick t) (a ∷ rest) rest) ≡ a ∷ rest =
          ap (λ (b : Bool). cond b (a ∷ rest) rest) (le-leb a.tick t early) in
          ap (λ (l : List Answered). take (length l) (a ∷ all)) one
          ∙ ap (λ (l : List Answered). a ∷ l) (came-first version horizon a.tick t all are.4)
          ∙ sym one
    ]

take-get : {X : Type 0} (n k : ℕ) (xs : List X) → k < n → slice_get (take n xs) k ≡ slice_get xs k
take-get zero k xs lt = absurd (omega (arith, lt))
take-get (suc n) k [] lt = refl
take-get (suc n) zero (x ∷ xs) lt = refl
take-get (suc n) (suc k) (x ∷ xs) lt = take-get n k xs (omega (arith, lt))

came-early : (c : Content) (t k : ℕ) (a : Answered) → IsContent c → k < came_by t c.answered
    → slice_get c.answered k ≡ Some a → a.tick ≤ t
came-early c t k a formed lt there =
    let here : slice_get (filter (λ (b : Answered). nat_le b.tick t) c.answered) k ≡ Some a =
    ap (λ (l : List Answered). slice_get l k) (sym (came-first c.version c.horizon 0 t c.answered formed.answered))
    ∙ take-get (came_by t c.answered) k c.answered lt ∙ there in
    leb-true a.tick t (kept_of (λ (b : Answered). nat_le b.tick t) c.answered k a here).passes

-- ---- so they are followed

not-misplaced : (c : Content) (t k : ℕ) (a : Answered) → IsContent c → TellsUpTo c t → k < came_by t c.answered
    → slice_get c.answered k ≡ Some a → is_done a.answer ≡ true
    → is_misplaced (tree_of (take k c.answered)) a.command ≡ false
not-misplaced c t k a formed tells lt there done =
    false_from_ne_true (is_misplaced (tree_of (take k c.answered)) a.command)
    (λ wrong. tells Placed a.tick (omega arith) (came-early c t k a formed lt there)
    (record { at = k; a = a; command = record { there = there; tick = refl; done = done }; misplaced = wrong }))

pub tale-here : (c : Content) (t : ℕ) → IsContent c → TellsUpTo c t
    → IsSoFar (tree_at t c.answered) (threads (take (came_by t c.answered) c.answered)) (standing_at c t)
tale-here c t formed tells =
    subst (λ (tree : List Member). IsSoFar tree (threads (take (came_by t c.answered) c.answered)) (standing_at c t))
    (ap tree_of (came-first c.version c.horizon 0 t c.answered formed.answered))
    (so-far c.answered (came_by t c.answered)
    (record { allowed = λ k a lt there done. not-misplaced c t k a formed tells lt there done }))

-- ---- places are ways down

record IsMore (way : List Label) : Type 0 where
  first : Label
  rest : List Label
  is : way ≡ first ∷ rest

more : (above : List Label) (label : Label) → IsMore (above ++ label ∷ [])
more [] label = record { first = label; rest = []; is = refl }
more (first ∷ above) label = record { first = first; rest = above ++ label ∷ []; is = refl }

pub record IsOfWay (way : List Label) : Type 0 where
  pub place : Place
  pub is : labels_of place ≡ way

pub placed-on : (above : List Label) (first : Label) (rest : List Label) → IsOfWay (above ++ first ∷ rest)
placed-on above first [] = record { place = record { above = above; label = first }; is = refl }
placed-on above first (next ∷ rest) =
    let p = placed-on (above ++ first ∷ []) next rest in
    record { place = p.place; is = p.is ∙ append_assoc above (first ∷ []) (next ∷ rest) }

module _ (c : Content) (t : ℕ) (formed : IsContent c) (tells : TellsUpTo c t) where
  abbrev tree : List Member
  tree = tree_at t c.answered

  abbrev members : List Member
  members = in_order tree (standing_at c t)

  here : IsSoFar tree (threads (take (came_by t c.answered) c.answered)) (standing_at c t)
  here = tale-here c t formed tells

  pub place-down : (place : Place) → IsIn place (places_at c t) → IsWayDown tree None (labels_of place)
  place-down place has =
      let b = of-below members (length tree) None [] place has in
      subst (λ (way : List Label). IsWayDown tree None way) (sym b.is)
      (way-among members tree None (b.first ∷ b.rest) (of-order tree _ (standing_at c t) here) b.down)

  pub down-place : (place : Place) → IsWayDown tree None (labels_of place) → IsIn place (places_at c t)
  down-place place down =
      let m = more place.above place.label in
      let way : IsWayDown tree None (m.first ∷ m.rest) = subst (λ (w : List Label). IsWayDown tree None w) m.is down in
      let short = way-short tree here.tree_is.rank None (m.first ∷ m.rest) here.tree_is.ranked way in
      in-below members (length tree) None [] m.first m.rest place
      (way-among tree members None (m.first ∷ m.rest) (in-order tree _ (standing_at c t) here) way)
      (omega (arith, short)) m.is

  pub places-once : AreOnce (places_at c t)
  places-once = below-once members (length tree) None [] (order-once tree _ (standing_at c t) here)

  -- ---- the path of the tick names a way

  pub way-given : (names : List Text) → path_at c.stretches t ≡ Some names → HasWay c t
  way-given names path =
      let down : leads_down tree names ≡ true =
      true_from_ne_false (leads_down tree names)
      (λ astray. tells Leading t (omega arith) (omega arith)
      (record { names = names; path = path; astray = astray })) in
      let l = led tree None names down in
      let p : IsOfWay (l.first ∷ l.rest) = placed-on [] l.first l.rest in
      let there : IsIn p.place (places_at c t) =
      down-place p.place (subst (λ (w : List Label). IsWayDown tree None w) (sym p.is) l.down) in
      let way : IsIn (l.first ∷ l.rest) (ways_at c t) =
      subst (λ (w : List Label). IsIn w (ways_at c t)) p.is (in-map labels_of p.place (places_at c t) there) in
      let f = first-such (spells names) (l.first ∷ l.rest) (ways_at c t) way l.spelled in
      let o = of-map labels_of f.one (places_at c t) f.has in
      record {
        names = names;
        way = f.one;
        path = path;
        given = ap (λ (o : Option (List Text)). option_and_then (λ ns. find (spells ns) (ways_at c t)) o) path ∙ f.is;
        down = down-over tree here.tree_is.rank None sits_at_cpu names f.one here.tree_is.ranked
            (subst (λ (w : List Label). IsWayDown tree None w) o.is (place-down o.one o.has)) f.passes down;
      }

given-by : (c : Content) (t : ℕ) (path : Option (List Text)) → path_at c.stretches t ≡ path
    → ((names : List Text) → path_at c.stretches t ≡ Some names → HasWay c t) → IsGiven c t
given-by c t None is way = inl is
given-by c t (Some names) is way = inr (way names is)

pub tick-given : (c : Content) (t : ℕ) → IsContent c → TellsUpTo c t → IsGiven c t
tick-given c t formed tells = given-by c t (path_at c.stretches t) refl (way-given c t formed tells)
