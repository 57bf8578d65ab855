-- Of two slices of a flame the later one lies within the earlier or behind it.
use Rattle.std.proofs.Common.{◌≡◌, ◌∙◌, ℕ, ◌+◌, ◌≤◌, ◌<◌, List, [], ◌∷◌, ◌++◌, true, false, refl, ap, sym, arith}
use Rattle.std.proofs.Common.{subst, inl, inr}
use Rattle.std.proofs.Common.{append_assoc}
use Rattle.std.specs.Prelude.{Bool, cond, Option, Some, None}
use Rattle.std.specs.List.{AllByRecursion, AllPairs}
use Rattle.hls_text.specs.Lines.{Text}
use Rattle.hls_report_text.specs.declared.stretch.Stretch.{Stretch}
use Rattle.hls_report_text.specs.Content.{Content}
use Rattle.hls_report_text.specs.WellFormed.{Cover, IsContent}
use Rattle.hls_view_trace.specs.declared.event.Place.{Place}
use Rattle.hls_view_trace.specs.declared.event.Event.{Event}
use Rattle.hls_view_trace.specs.declared.event.Event.TheVariants.{Slice}
use Rattle.hls_view_tracks.specs.Flame.{names_in, begins, last_tick, run_slice, slice_of, slices_below, flame}
use Rattle.hls_view_trace_laws.specs.Nesting.{LiesBy, IsNested}
use Rattle.hls_view_trace_laws.proofs.Pairs.{Pairs, all-append, all-map, pairs-append, pairs-at}
use Rattle.hls_view_trace_laws.proofs.Prefixes.{begins_front, begins_all, longer}
use Rattle.hls_view_trace_laws.proofs.FlameTicks.{later_last}

-- more names last no longer
no_longer : (names other : List Text) (to : ℕ) (ss : List Stretch) (from end : ℕ)
    (last : Option (Option (List Text))) → begins names other ≡ true → Cover from last ss end → to < from
    → last_tick other to ss ≤ last_tick names to ss
no_longer names other to [] from end last begun cover lt = omega arith
no_longer names other to (s ∷ ss) from end last begun cover lt =
    by (begins other (names_in s.path)) refl
    (no_longer names other s.to ss (s.to + 1) end (Some s.path) begun cover.4 (omega arith))
  where
    by : (b : Bool) → begins other (names_in s.path) ≡ b → last_tick other s.to ss ≤ last_tick names s.to ss
        → last_tick other to (s ∷ ss) ≤ last_tick names to (s ∷ ss)
    by true is less =
        let on = begins_all names other (names_in s.path) begun is in
        let one : last_tick other to (s ∷ ss) ≡ last_tick other s.to ss =
        ap (λ b. cond b (last_tick other s.to ss) to) is in
        let two : last_tick names to (s ∷ ss) ≡ last_tick names s.to ss =
        ap (λ b. cond b (last_tick names s.to ss) to) on in
        omega (arith, one, two, less)
    by false is less =
        let one : last_tick other to (s ∷ ss) ≡ to = ap (λ b. cond b (last_tick other s.to ss) to) is in
        let late = later_last names to (s ∷ ss) from end last cover lt in
        omega (arith, one, late)

-- ---- the slices that one stretch begins

module _ (place : Place) (before : List Text) (s : Stretch) (more : List Stretch) where
  -- what holds of the slices of all names down a path that go on as some names holds of those that begin here
  each_below : (P : Event → Type 0) (path above below : List Text) → path ≡ above ++ below
      → ((names : List Text) (name : Text) → begins above names ≡ true → begins names path ≡ true
      → begins names before ≡ false → P (run_slice place name s.from (last_tick names s.to more)))
      → AllByRecursion P (slices_below place before s more above below)
  each_below P path above [] are each = tt
  each_below P path above (name ∷ below) are each =
      all-append P (slice_of place before s more down name) (slices_below place before s more down below)
      (by (begins down before) refl)
      (each_below P path down below all
      (λ names last begun on off. each names last
      (begins_all above down names (begins_front above (name ∷ [])) begun) on
      off))
    where
      down : List Text
      down = above ++ name ∷ []

      all : path ≡ down ++ below
      all = are ∙ sym (append_assoc above (name ∷ []) below)

      by : (b : Bool) → begins down before ≡ b → AllByRecursion P (slice_of place before s more down name)
      by true is =
          subst
          (λ (b : Bool). AllByRecursion P (cond b [] (run_slice place name s.from (last_tick down s.to more) ∷ [])))
          (sym is) tt
      by false is =
          subst
          (λ (b : Bool). AllByRecursion P (cond b [] (run_slice place name s.from (last_tick down s.to more) ∷ [])))
          (sym is)
          (each down name (begins_front above (name ∷ [])) (ap (begins down) all ∙ begins_front down below) is, tt)

  -- those below some names lie within the slice of these
  pairs_below : (path above below : List Text) (from end : ℕ) (last : Option (Option (List Text)))
      → path ≡ above ++ below → Cover from last more end → s.to < from
      → Pairs IsNested (slices_below place before s more above below)
  pairs_below path above [] from end last are cover lt = tt
  pairs_below path above (name ∷ below) from end last are cover lt =
      by (begins down before) refl (pairs_below path down below from end last all cover lt)
    where
      down : List Text
      down = above ++ name ∷ []

      all : path ≡ down ++ below
      all = are ∙ sym (append_assoc above (name ∷ []) below)

      slice : Event
      slice = run_slice place name s.from (last_tick down s.to more)

      rest : List Event
      rest = slices_below place before s more down below

      within : AllByRecursion (LiesBy s.from (last_tick down s.to more)) rest
      within =
          each_below (LiesBy s.from (last_tick down s.to more)) path down below all
          (λ names other begun on off. (omega arith, inr (no_longer down names s.to more from end last begun cover lt)))

      by : (b : Bool) → begins down before ≡ b → Pairs IsNested rest
          → Pairs IsNested (slice_of place before s more down name ++ rest)
      by true is pairs = subst (λ (b : Bool). Pairs IsNested (cond b [] (slice ∷ []) ++ rest)) (sym is) pairs
      by false is pairs =
          subst (λ (b : Bool). Pairs IsNested (cond b [] (slice ∷ []) ++ rest)) (sym is) (within, pairs)

-- ---- the slices of later stretches

abbrev StartsFrom : (from : ℕ) → Event → Type 0
StartsFrom from (Slice s) = from ≤ s.from
StartsFrom from _ = ⊥

module _ (place : Place) where
  starts_late : (before : List Text) (n from end : ℕ) (last : Option (Option (List Text))) (ss : List Stretch)
      → Cover from last ss end → n ≤ from → AllByRecursion (StartsFrom n) (flame place before ss)
  starts_late before n from end last [] cover le = tt
  starts_late before n from end last (s ∷ ss) cover le =
      let start = cover.0 in
      let order = cover.1 in
      let path = names_in s.path in
      all-append (StartsFrom n) (slices_below place before s ss [] path) (flame place path ss)
      (each_below place before s ss (StartsFrom n) path [] path refl
      (λ names name begun on off. omega (arith, start, le)))
      (starts_late path n (s.to + 1) end (Some s.path) ss cover.4 (omega (arith, order, le)))

  lies_behind : (start to from : ℕ) → to < from → start ≤ from → (e : Event) → StartsFrom from e → LiesBy start to e
  lies_behind start to from lt le (Slice s) late = (omega (arith, le, late), inl (omega (arith, lt, late)))
  lies_behind start to from lt le _ late = absurd late

  not_begun : (q names prev : List Text) → begins names prev ≡ true → begins q prev ≡ false → begins q names ≡ false
  not_begun q names prev begun off = by (begins q names) refl
    where
      by : (b : Bool) → begins q names ≡ b → begins q names ≡ false
      by true is =
          let on = begins_all q names prev is begun in
          absurd (cc)
      by false is = is

  lies_by : (names prev : List Text) (start to from end : ℕ) (last : Option (Option (List Text))) (ss : List Stretch)
      → begins names prev ≡ true → Cover from last ss end → to < from → start ≤ from
      → AllByRecursion (LiesBy start (last_tick names to ss)) (flame place prev ss)
  lies_by names prev start to from end last [] begun cover lt le = tt
  lies_by names prev start to from end last (s ∷ ss) begun cover lt le =
      by (begins names path) refl
      (λ on. lies_by names path start s.to (s.to + 1) end (Some s.path) ss on cover.4 (omega arith)
      (omega (arith, order, le)))
    where
      path : List Text
      path = names_in s.path

      order : from ≤ s.to
      order = cover.1

      by : (b : Bool) → begins names path ≡ b
          → (begins names path ≡ true → AllByRecursion (LiesBy start (last_tick names s.to ss)) (flame place path ss))
          → AllByRecursion (LiesBy start (last_tick names to (s ∷ ss))) (flame place prev (s ∷ ss))
      by true is later =
          let at : last_tick names to (s ∷ ss) ≡ last_tick names s.to ss =
          ap (λ b. cond b (last_tick names s.to ss) to) is in
          let begin = cover.0 in
          subst (λ (e : ℕ). AllByRecursion (LiesBy start e) (flame place prev (s ∷ ss))) (sym at)
          (all-append (LiesBy start (last_tick names s.to ss)) (slices_below place prev s ss [] path)
          (flame place path ss)
          (each_below place prev s ss (LiesBy start (last_tick names s.to ss)) path [] path refl
          (λ q name front on off. (
            omega (arith, begin, le),
            inr (no_longer names q s.to ss (s.to + 1) end (Some s.path)
                (longer names q path is on (not_begun q names prev begun off)) cover.4 (omega arith)),
          )))
          (later is))
      by false is later =
          let at : last_tick names to (s ∷ ss) ≡ to = ap (λ b. cond b (last_tick names s.to ss) to) is in
          subst (λ (e : ℕ). AllByRecursion (LiesBy start e) (flame place prev (s ∷ ss))) (sym at)
          (all-map (StartsFrom from) (LiesBy start to) (lies_behind start to from lt le) (flame place prev (s ∷ ss))
          (starts_late prev from from end last (s ∷ ss) cover (omega arith)))

  flame_pairs : (before : List Text) (from end : ℕ) (last : Option (Option (List Text))) (ss : List Stretch)
      → Cover from last ss end → Pairs IsNested (flame place before ss)
  flame_pairs before from end last [] cover = tt
  flame_pairs before from end last (s ∷ ss) cover =
      let path = names_in s.path in
      let start = cover.0 in
      let order = cover.1 in
      pairs-append IsNested (slices_below place before s ss [] path) (flame place path ss)
      (pairs_below place before s ss path [] path (s.to + 1) end (Some s.path) refl cover.4 (omega arith))
      (flame_pairs path (s.to + 1) end (Some s.path) ss cover.4)
      (each_below place before s ss (λ x. AllByRecursion (IsNested x) (flame place path ss)) path [] path refl
      (λ names name front on off. lies_by names path s.from s.to (s.to + 1) end (Some s.path) ss on cover.4
      (omega arith) (omega (arith, start, order))))

pub nested : (place : Place) (c : Content) → IsContent c → AllPairs IsNested (flame place [] c.stretches)
nested place c formed =
    pairs-at IsNested (flame place [] c.stretches)
    (flame_pairs place [] 0 c.horizon None c.stretches formed.cover)
