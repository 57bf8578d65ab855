-- The slices of a flame that hold a tick.
use Rattle.std.proofs.Common.{◌≡◌, ◌∙◌, ℕ, ◌+◌, ◌≤◌, ◌<◌, List, [], ◌∷◌, ◌++◌, true, false, refl, ap, ap₂, sym, arith}
use Rattle.std.specs.Prelude.{Bool, cond, not, ◌&&◌, ◌||◌, nat_le, map, filter, Option, Some, None, find}
use Rattle.std.specs.Prelude.{option_and_then}
use Rattle.std.proofs.lemmas.Bool.{leb-true, leb-false, le-leb, lt-leb}
use Rattle.std.proofs.lemmas.List.{map-append}
use Rattle.std.proofs.lemmas.List.Elements.{filter-append}
use Rattle.hls_text.specs.Lines.{Text}
use Rattle.hls_report_text.specs.declared.stretch.Stretch.{Stretch}
use Rattle.hls_report_text.specs.Content.{Content}
use Rattle.hls_report_text.specs.WellFormed.{Cover, IsContent}
use Rattle.hls_legal.specs.Schedule.{path_at, has_tick}
use Rattle.hls_view_trace.specs.declared.event.Place.{Place}
use Rattle.hls_view_trace.specs.declared.event.Event.{Event}
use Rattle.hls_view_tracks.specs.Flame.{names_in, begins, last_tick, run_slice, slice_of, slices_below, flame}
use Rattle.hls_view_trace_laws.specs.Held.{holds, slice_name, names_at}
use Rattle.hls_view_trace_laws.proofs.Prefixes.{begins_less}
use Rattle.hls_view_trace_laws.proofs.Fresh.{fresh, fresh_same, fresh_none, fresh_all, merge}

names-append : (t : ℕ) (some more : List Event) → names_at t (some ++ more) ≡ names_at t some ++ names_at t more
names-append t some more =
    ap (map slice_name) (filter-append (holds t) some more)
    ∙ map-append slice_name (filter (holds t) some) (filter (holds t) more)

-- the names go on from a stretch to a tick
abbrev lasts : (s : Stretch) → (more : List Stretch) → (t : ℕ) → (names : List Text) → Bool
lasts s more t names = nat_le s.from t && nat_le t (last_tick names s.to more)

abbrev skips : (before : List Text) → (s : Stretch) → (more : List Stretch) → (t : ℕ) → (names : List Text) → Bool
skips before s more t names = begins names before || not (lasts s more t names)

one_slice : (place : Place) (before : List Text) (s : Stretch) (more : List Stretch) (t : ℕ) (names : List Text)
    (name : Text)
    → names_at t (slice_of place before s more names name) ≡ cond (skips before s more t names) [] (name ∷ [])
one_slice place before s more t names name = by (begins names before) (lasts s more t names) refl refl
  where
    kept : (held : Bool) → lasts s more t names ≡ held
        → names_at t (run_slice place name s.from (last_tick names s.to more) ∷ []) ≡ cond (not held) [] (name ∷ [])
    kept true is =
        ap (λ b. map slice_name (cond b (run_slice place name s.from (last_tick names s.to more) ∷ []) [])) is
    kept false is =
        ap (λ b. map slice_name (cond b (run_slice place name s.from (last_tick names s.to more) ∷ []) [])) is

    by : (begun held : Bool) → begins names before ≡ begun → lasts s more t names ≡ held
        → names_at t (slice_of place before s more names name) ≡ cond (skips before s more t names) [] (name ∷ [])
    by true held is last =
        ap (λ b. names_at t (cond b [] (run_slice place name s.from (last_tick names s.to more) ∷ []))) is
        ∙ ap (λ b. cond {A = List Text} (b || not (lasts s more t names)) [] (name ∷ [])) (sym is)
    by false held is last =
        ap (λ b. names_at t (cond b [] (run_slice place name s.from (last_tick names s.to more) ∷ []))) is
        ∙ kept held last
        ∙ ap (λ b. cond {A = List Text} (not b) [] (name ∷ [])) (sym last)
        ∙ ap (λ b. cond {A = List Text} (b || not (lasts s more t names)) [] (name ∷ [])) (sym is)

below_names : (place : Place) (before : List Text) (s : Stretch) (more : List Stretch) (t : ℕ) (above below : List Text)
    → names_at t (slices_below place before s more above below) ≡ fresh (skips before s more t) above below
below_names place before s more t above [] = refl
below_names place before s more t above (name ∷ below) =
    let down = above ++ name ∷ [] in
    names-append t (slice_of place before s more down name) (slices_below place before s more down below)
    ∙ ap₂ (λ (a b : List Text). a ++ b) (one_slice place before s more t down name)
    (below_names place before s more t down below)

-- ---- before and behind a tick

not_yet : (a b : ℕ) → b < a → nat_le a b ≡ false
not_yet a b lt = lt-leb a b lt

none_yet : (place : Place) (before : List Text) (t from end : ℕ) (last : Option (Option (List Text)))
    (ss : List Stretch) → Cover from last ss end → t < from → names_at t (flame place before ss) ≡ []
none_yet place before t from end last [] cover lt = refl
none_yet place before t from end last (s ∷ more) cover lt =
    let begun = cover.0 in
    let order = cover.1 in
    let later : nat_le s.from t ≡ false = not_yet s.from t (omega (arith, begun, lt)) in
    let out : (names : List Text) → skips before s more t names ≡ true = λ names.
    ap (λ b. begins names before || not (b && nat_le t (last_tick names s.to more))) later
    ∙ or_true (begins names before) in
    names-append t (slices_below place before s more [] (names_in s.path)) (flame place (names_in s.path) more)
    ∙ ap₂ (λ (a b : List Text). a ++ b)
    (below_names place before s more t [] (names_in s.path)
    ∙ fresh_none (skips before s more t) [] (names_in s.path) out)
    (none_yet place (names_in s.path) t (s.to + 1) end (Some s.path) more cover.4 (omega (arith, begun, order, lt)))
  where
    or_true : (b : Bool) → (b || true) ≡ true
    or_true true = refl
    or_true false = refl

-- the names begin the paths from here to that of a tick
abbrev goes : (ss : List Stretch) → (t : ℕ) → (names : List Text) → Bool
goes [] t names = false
goes (s ∷ more) t names = begins names (names_in s.path) && cond (nat_le t s.to) true (goes more t names)

and_off : (a : Bool) → (a && false) ≡ false
and_off true = refl
and_off false = refl

goes_down : (ss : List Stretch) (t : ℕ) (names more : List Text) → goes ss t names ≡ false
    → goes ss t (names ++ more) ≡ false
goes_down [] t names more off = refl
goes_down (s ∷ ss) t names more off =
    by (begins names (names_in s.path)) (nat_le t s.to) refl refl (goes_down ss t names more)
  where
    by : (begun here : Bool) → begins names (names_in s.path) ≡ begun → nat_le t s.to ≡ here
        → (goes ss t names ≡ false → goes ss t (names ++ more) ≡ false) → goes (s ∷ ss) t (names ++ more) ≡ false
    by true true is e less =
        let wrong : true ≡ false = sym (ap₂ (λ a b. a && cond b true (goes ss t names)) is e) ∙ off in
        absurd (cc)
    by true false is e less =
        let rest : goes ss t names ≡ false = sym (ap₂ (λ a b. a && cond b true (goes ss t names)) is e) ∙ off in
        ap (λ b. begins (names ++ more) (names_in s.path) && cond b true (goes ss t (names ++ more))) e
        ∙ ap (λ b. begins (names ++ more) (names_in s.path) && b) (less rest)
        ∙ and_off (begins (names ++ more) (names_in s.path))
    by false here is e less =
        ap (λ b. b && cond (nat_le t s.to) true (goes ss t (names ++ more)))
        (begins_less names more (names_in s.path) is)

pub later_last : (names : List Text) (to : ℕ) (ss : List Stretch) (from end : ℕ) (last : Option (Option (List Text)))
    → Cover from last ss end → to < from → to ≤ last_tick names to ss
later_last names to [] from end last cover lt = omega arith
later_last names to (s ∷ ss) from end last cover lt =
    by (begins names (names_in s.path)) refl
    (later_last names s.to ss (s.to + 1) end (Some s.path) cover.4 (omega arith))
  where
    by : (b : Bool) → begins names (names_in s.path) ≡ b → s.to ≤ last_tick names s.to ss
        → to ≤ last_tick names to (s ∷ ss)
    by true is more =
        let order = cover.1 in
        let at : last_tick names to (s ∷ ss) ≡ last_tick names s.to ss =
        ap (λ b. cond b (last_tick names s.to ss) to) is in
        omega (arith, order, more, at, lt)
    by false is more =
        let at : last_tick names to (s ∷ ss) ≡ to = ap (λ b. cond b (last_tick names s.to ss) to) is in
        omega (arith, at)

reached : (names : List Text) (to t : ℕ) (ss : List Stretch) (from end : ℕ) (last : Option (Option (List Text)))
    → Cover from last ss end → to < from → from ≤ t → t < end
    → nat_le t (last_tick names to ss) ≡ goes ss t names
reached names to t [] from end last cover lt le early = absurd (omega (arith, cover, le, early))
reached names to t (s ∷ ss) from end last cover lt le early =
    by (begins names (names_in s.path)) (nat_le t s.to) refl refl
    (λ past. reached names s.to t ss (s.to + 1) end (Some s.path) cover.4 (omega arith) (omega (arith, past)) early)
  where
    by : (begun here : Bool) → begins names (names_in s.path) ≡ begun → nat_le t s.to ≡ here
        → (s.to < t → nat_le t (last_tick names s.to ss) ≡ goes ss t names)
        → nat_le t (last_tick names to (s ∷ ss)) ≡ goes (s ∷ ss) t names
    by true true is e rest =
        let at : last_tick names to (s ∷ ss) ≡ last_tick names s.to ss =
        ap (λ b. cond b (last_tick names s.to ss) to) is in
        let here = leb-true t s.to e in
        let more = later_last names s.to ss (s.to + 1) end (Some s.path) cover.4 (omega arith) in
        le-leb t (last_tick names to (s ∷ ss)) (omega (arith, here, more, at))
        ∙ sym (ap₂ (λ a b. a && cond b true (goes ss t names)) is e)
    by true false is e rest =
        let at : last_tick names to (s ∷ ss) ≡ last_tick names s.to ss =
        ap (λ b. cond b (last_tick names s.to ss) to) is in
        let past = leb-false t s.to e in
        ap (nat_le t) at
        ∙ rest past
        ∙ sym (ap₂ (λ a b. a && cond b true (goes ss t names)) is e)
    by false here is e rest =
        let at : last_tick names to (s ∷ ss) ≡ to = ap (λ b. cond b (last_tick names s.to ss) to) is in
        ap (nat_le t) at ∙ not_yet t to (omega (arith, lt, le))
        ∙ sym (ap (λ b. b && cond (nat_le t s.to) true (goes ss t names)) is)

-- ---- the path of a tick

path_here : (t : ℕ) (s : Stretch) (more : List Stretch) → nat_le s.from t ≡ true → nat_le t s.to ≡ true
    → path_at (s ∷ more) t ≡ s.path
unfolding path_at
path_here t s more begun here =
    ap (λ b. option_and_then (λ (x : Stretch). x.path) (cond b (Some s) (find (has_tick t) more)))
    (ap₂ (λ a b. a && b) begun here)

path_later : (t : ℕ) (s : Stretch) (more : List Stretch) → nat_le t s.to ≡ false
    → path_at (s ∷ more) t ≡ path_at more t
unfolding path_at
path_later t s more past =
    ap (λ b. option_and_then (λ (x : Stretch). x.path) (cond b (Some s) (find (has_tick t) more)))
    (ap (λ b. nat_le s.from t && b) past ∙ and_off (nat_le s.from t))

goes_on_path : (t : ℕ) (names : List Text) (ss : List Stretch) (from end : ℕ) (last : Option (Option (List Text)))
    → Cover from last ss end → from ≤ t → goes ss t names ≡ true → begins names (names_in (path_at ss t)) ≡ true
goes_on_path t names [] from end last cover le on = absurd (cc)
goes_on_path t names (s ∷ ss) from end last cover le on =
    by (begins names (names_in s.path)) (nat_le t s.to) refl refl
    (λ past. goes_on_path t names ss (s.to + 1) end (Some s.path) cover.4 (omega (arith, past)))
  where
    by : (begun here : Bool) → begins names (names_in s.path) ≡ begun → nat_le t s.to ≡ here
        → (s.to < t → goes ss t names ≡ true → begins names (names_in (path_at ss t)) ≡ true)
        → begins names (names_in (path_at (s ∷ ss) t)) ≡ true
    by true true is e later =
        let start = cover.0 in
        ap (λ (p : Option (List Text)). begins names (names_in p))
        (path_here t s ss (le-leb s.from t (omega (arith, start, le))) e) ∙ is
    by true false is e later =
        let past = leb-false t s.to e in
        let rest : goes ss t names ≡ true = sym (ap₂ (λ a b. a && cond b true (goes ss t names)) is e) ∙ on in
        ap (λ (p : Option (List Text)). begins names (names_in p)) (path_later t s ss e)
        ∙ later past rest
    by false here is e later =
        let wrong : false ≡ true = sym (ap (λ b. b && cond (nat_le t s.to) true (goes ss t names)) is) ∙ on in
        absurd (cc)

-- ---- the slices of a tick

append_nothing : (names : List Text) → names ++ [] ≡ names
append_nothing [] = refl
append_nothing (name ∷ names) = ap (λ (l : List Text). name ∷ l) (append_nothing names)

or_off : (a : Bool) → (a || false) ≡ a
or_off true = refl
or_off false = refl

and_on : (a : Bool) → (a && true) ≡ a
and_on true = refl
and_on false = refl

abbrev stands : (before : List Text) → (ss : List Stretch) → (t : ℕ) → (names : List Text) → Bool
stands before ss t names = begins names before && goes ss t names

flame_names : (place : Place) (before : List Text) (t from end : ℕ) (last : Option (Option (List Text)))
    (ss : List Stretch) → Cover from last ss end → from ≤ t → t < end
    → names_at t (flame place before ss) ≡ fresh (stands before ss t) [] (names_in (path_at ss t))
flame_names place before t from end last [] cover le early = absurd (omega (arith, cover, le, early))
flame_names place before t from end last (s ∷ ss) cover le early =
    by (nat_le t s.to) refl
    (λ past. flame_names place (names_in s.path) t (s.to + 1) end (Some s.path) ss cover.4 (omega (arith, past)) early)
  where
    begun : nat_le s.from t ≡ true
    begun = let start = cover.0 in le-leb s.from t (omega (arith, start, le))

    path : List Text
    path = names_in s.path

    split : names_at t (flame place before (s ∷ ss))
        ≡ fresh (skips before s ss t) [] path ++ names_at t (flame place path ss)
    split =
        names-append t (slices_below place before s ss [] path) (flame place path ss)
        ∙ ap (λ (l : List Text). l ++ names_at t (flame place path ss)) (below_names place before s ss t [] path)

    by : (here : Bool) → nat_le t s.to ≡ here
        → (s.to < t
        → names_at t (flame place path ss) ≡ fresh (stands path ss t) [] (names_in (path_at ss t)))
        → names_at t (flame place before (s ∷ ss)) ≡ fresh (stands before (s ∷ ss) t) [] (names_in (path_at (s ∷ ss) t))
    by true e later =
        let at = leb-true t s.to e in
        let same : (names : List Text) → begins names path ≡ true
        → skips before s ss t names ≡ stands before (s ∷ ss) t names = λ names on.
        let long = later_last names s.to ss (s.to + 1) end (Some s.path) cover.4 (omega arith) in
        let held : lasts s ss t names ≡ true =
        ap₂ (λ a b. a && b) begun (le-leb t (last_tick names s.to ss) (omega (arith, at, long))) in
        ap (λ b. begins names before || not b) held ∙ or_off (begins names before) ∙ sym (and_on (begins names before))
        ∙ ap (λ b. begins names before && b) (sym (ap₂ (λ a b. a && cond b true (goes ss t names)) on e)) in
        split
        ∙ ap (λ (l : List Text). fresh (skips before s ss t) [] path ++ l)
        (none_yet place path t (s.to + 1) end (Some s.path) ss cover.4 (omega (arith, at)))
        ∙ append_nothing (fresh (skips before s ss t) [] path)
        ∙ fresh_same (skips before s ss t) (stands before (s ∷ ss) t) path [] path refl same
        ∙ ap (λ (p : Option (List Text)). fresh (stands before (s ∷ ss) t) [] (names_in p))
        (sym (path_here t s ss begun e))
    by false e later =
        let past = leb-false t s.to e in
        let rest : List Text = names_in (path_at ss t) in
        let ends : (names : List Text) → skips before s ss t names ≡ (begins names before || not (goes ss t names)) =
        λ names.
        ap (λ b. begins names before || not b) (ap₂ (λ a b. a && b) begun
        (reached names s.to t ss (s.to + 1) end (Some s.path) cover.4 (omega arith) (omega (arith, past)) early)) in
        let last_of : (names : List Text) → (begins names before && (begins names path && goes ss t names))
        ≡ stands before (s ∷ ss) t names = λ names.
        ap (λ b. begins names before && (begins names path && cond b true (goes ss t names))) (sym e) in
        split
        ∙ ap₂ (λ (a b : List Text). a ++ b)
        (fresh_same (skips before s ss t) (λ names. begins names before || not (goes ss t names)) path [] path refl
        (λ names on. ends names))
        (later past)
        ∙ merge (λ names. begins names before) (goes ss t) (λ names more. goes_down ss t names more) path rest [] path
        rest refl refl
        (λ names on. goes_on_path t names ss (s.to + 1) end (Some s.path) cover.4 (omega (arith, past)) on)
        ∙ fresh_same (λ names. begins names before && (begins names path && goes ss t names))
        (stands before (s ∷ ss) t) rest [] rest refl (λ names on. last_of names)
        ∙ ap (λ (p : Option (List Text)). fresh (stands before (s ∷ ss) t) [] (names_in p)) (sym (path_later t s ss e))

nothing_before : (ss : List Stretch) (t : ℕ) (front : List Text) (name : Text)
    → stands [] ss t (front ++ name ∷ []) ≡ false
nothing_before ss t [] name = refl
nothing_before ss t (first ∷ front) name = refl

pub names_are : (place : Place) (c : Content) (t : ℕ) → IsContent c → t < c.horizon
    → names_at t (flame place [] c.stretches) ≡ names_in (path_at c.stretches t)
names_are place c t formed early =
    flame_names place [] t 0 c.horizon None c.stretches formed.cover (omega arith) early
    ∙ fresh_all (stands [] c.stretches t) [] (names_in (path_at c.stretches t)) (nothing_before c.stretches t)
