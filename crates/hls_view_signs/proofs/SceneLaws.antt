-- Who is told something in a tick, and to whom something happens.
use Rattle.std.proofs.Common.{◌≡◌, ℕ, suc, ◌+◌, ◌<◌, ◌≤◌, ◌==◌, List, [], ◌∷◌, ◌++◌, Bool, true, false, refl, sym, ap}
use Rattle.std.proofs.Common.{◌∙◌, ◌||◌, inl, inr, cond, length, arith}
use Rattle.std.specs.Prelude.{Option, Some, None, slice_get}
use Rattle.std.specs.List.{list_any}
use Rattle.std.specs.Str.{bytes_eq}
use Rattle.std.proofs.lemmas.Bool.{cases_eq, cases_lt, eqb-true}
use Rattle.std.proofs.lemmas.List.Folds.{list_any-append}
use Rattle.std.proofs.lemmas.Option.{slice_get_within}
use Rattle.hls_text.specs.Lines.{Text}
use Rattle.hls_report_text.specs.Content.{Content}
use Rattle.hls_view_tale.specs.declared.label.Label.{Label}
use Rattle.hls_view_tale.specs.declared.standing.Standing.{Standing}
use Rattle.hls_view_tale.specs.Hierarchies.{standing_at}
use Rattle.hls_view_tree.specs.Stays.{standing_of}
use Rattle.hls_view_signs.specs.declared.event.Event.{Event}
use Rattle.hls_view_signs.specs.declared.notes.Note.{Note}
use Rattle.hls_view_signs.specs.declared.event.Event.TheVariants.{Begun, Woken, Dropped}
use Rattle.hls_view_signs.specs.Happenings as told
use Rattle.hls_view_signs.specs.Inside.Nodes.{happens_to_any}
use Rattle.hls_view_signs.specs.Inside.Moments.{node_if, KnowsAll}
use Rattle.hls_view_signs.specs.Inside.Notes.{is_noted, AreInOrder}
use Rattle.hls_view_signs.specs.Inside.Scenes.{is_roused, AreBefore, AreHeard, AreNamed, AreSaid, AreRoused, any_begun}
use Rattle.hls_view_signs.proofs.Tests.{either, or_left, or_right, first_of_two, second_of_two}
use Rattle.hls_view_signs.proofs.CommandLaws.{woken_told, dropped_told}
use Rattle.hls_view_signs.proofs.MomentLaws.{node_happens}

-- ---- who is told something in a tick

pub heard_before : (all : List Note) (t came : ℕ) (names : List Text) → AreBefore all t came
    → AreHeard all t came names
heard_before all t came names before = record {
  heard = λ name k a lt there on.
      let early = before.early k a lt there in
      let now : a.tick ≡ t = eqb-true a.tick t (first_of_two (a.tick == t) (bytes_eq a.name name) on) in
      absurd (omega (arith, early, now));
}

pub heard_more : (all : List Note) (t came : ℕ) (a : Note) (old new : List Text) → slice_get all came ≡ Some a
    → new ≡ old ++ a.name ∷ []
    → AreHeard all t came old → AreHeard all t (came + 1) new
heard_more all t came a old new is put was = record {
  heard = λ name k b less there some. elim (cases_eq k came) [
    | inl same ↦
        let one : Some a ≡ Some b = sym is ∙ ap (slice_get all) (sym same) ∙ there in
        let same_note : a ≡ b = cc in
        more name ∙ or_right (is_roused old name) (bytes_eq a.name name || false)
        (or_left (bytes_eq a.name name) false
        (ap (λ (n : Note). bytes_eq n.name name) same_note ∙ second_of_two (b.tick == t) (bytes_eq b.name name) some))
    | inr ne ↦
        more name ∙ or_left (is_roused old name) (bytes_eq a.name name || false)
        (was.heard name k b (omega arith) there some)
  ];
}
  where
    more : (name : Text) → is_roused new name ≡ (is_roused old name || (bytes_eq a.name name || false))
    more name =
        ap (λ (l : List Text). is_roused l name) put
        ∙ list_any-append (λ other. bytes_eq other name) old (a.name ∷ [])

any_place : {A : Type 0} (p : A → Bool) (xs : List A) (Q : Type 0)
    → ((k : ℕ) (x : A) → slice_get xs k ≡ Some x → p x ≡ true → Q) → list_any p xs ≡ true → Q
any_place p [] Q each some = absurd (let no : false ≡ true = some in cc)
any_place p (x ∷ xs) Q each some = elim (either (p x) (list_any p xs) some) [
  | inl here ↦ each 0 x refl here
  | inr there ↦ any_place p xs Q (λ k. each (suc k)) there
]

pub heard_all : (all : List Note) (t came : ℕ) (names : List Text) → length all ≤ came → AreHeard all t came names
    → AreNamed all t names
heard_all all t came names end heard name some =
    any_place (is_noted t name) all (is_roused names name ≡ true)
    (λ k a there. heard.heard name k a
    (let lt = slice_get_within all k a there in omega (arith, lt, end)) there) some

-- all others come later
pub heard_on : (all : List Note) (t came : ℕ) (a : Note) (names : List Text) → AreInOrder all
    → slice_get all came ≡ Some a → t < a.tick → AreHeard all t came names → AreNamed all t names
heard_on all t came a names order at late heard name some =
    any_place (is_noted t name) all (is_roused names name ≡ true)
    (λ k b there on. elim (cases_lt k came) [
      | inl less ↦ heard.heard name k b less there on
      | inr more ↦
          let behind : a.tick ≤ b.tick = order came k a b more at there in
          let now : b.tick ≡ t = eqb-true b.tick t (first_of_two (b.tick == t) (bytes_eq b.name name) on) in
          absurd (omega (arith, late, behind, now))
    ]) some

pub roused_by_notes : (c : Content) (t : ℕ) (notes : List Note) (names : List Text) → AreSaid c t notes
    → AreNamed notes t names → AreRoused c t names
roused_by_notes c t notes names said named name k some = named name (said name k some)

-- ---- whatever happens may happen

-- who is found stands there
begun_here : (c : Content) (t : ℕ) (label : Label) (s : Standing) (here : Bool) (found : Option Standing) (rest : Bool)
    → (told.happens_if c t Begun label found ≡ true → rest ≡ true)
    → told.happens_if c t Begun label (cond here (Some s) found) ≡ true
    → (told.is_of t (slice_get c.answered s.opened) || rest) ≡ true
begun_here c t label s true found rest more on = or_left (told.is_of t (slice_get c.answered s.opened)) rest on
begun_here c t label s false found rest more on =
    or_right (told.is_of t (slice_get c.answered s.opened)) rest (more on)

begun_found : (c : Content) (t : ℕ) (label : Label) (standing : List Standing)
    → told.happens_if c t Begun label (standing_of standing label.name) ≡ true
    → any_begun c.answered t standing ≡ true
begun_found c t label [] on = absurd (let no : false ≡ true = on in cc)
begun_found c t label (s ∷ all) on =
    begun_here c t label s (bytes_eq s.name label.name) (standing_of all label.name) (any_begun c.answered t all)
    (begun_found c t label all) on

woken_roused : (c : Content) (t : ℕ) (names : List Text) (label : Label) (s : Option Standing)
    → AreRoused c t names → told.happens_if c t Woken label s ≡ true → is_roused names label.name ≡ true
woken_roused c t names label None roused on = absurd (let no : false ≡ true = on in cc)
woken_roused c t names label (Some s) roused on = roused label.name (s.born + 1) (woken_told c t label s on)

dropped_roused : (c : Content) (t : ℕ) (names : List Text) (label : Label) (s : Option Standing)
    → AreRoused c t names → told.happens_if c t Dropped label s ≡ true → is_roused names label.name ≡ true
dropped_roused c t names label None roused on = absurd (let no : false ≡ true = on in cc)
dropped_roused c t names label (Some s) roused on = roused label.name (s.born + 1) (dropped_told c t label s on)

pub knows_all : (c : Content) (t : ℕ) (names : List Text) (begins : Bool) (standing : List Standing)
    → standing ≡ standing_at c t → begins ≡ any_begun c.answered t standing → AreRoused c t names
    → KnowsAll c t names begins
knows_all c t names begins standing is begun roused Begun label on =
    begun ∙ ap (any_begun c.answered t) is ∙ begun_found c t label (standing_at c t) on
knows_all c t names begins standing is begun roused Woken label on =
    woken_roused c t names label (standing_of (standing_at c t) label.name) roused on
knows_all c t names begins standing is begun roused Dropped label on =
    dropped_roused c t names label (standing_of (standing_at c t) label.name) roused on

-- ---- who is not looked at

never : (b : Bool) → (b ≡ true → false ≡ true) → b ≡ false
never true on = sym (on refl)
never false on = refl

pub node_known : (c : Content) (t : ℕ) (event : Event) (label : Label) (s : Option Standing) (may : Bool)
    → (told.happens_if c t event label s ≡ true → may ≡ true)
    → happens_to_any c t event (node_if may label s) ≡ told.happens_if c t event label s
node_known c t event label s true known = node_happens c t event label s
node_known c t event label s false known = sym (never (told.happens_if c t event label s) known)
