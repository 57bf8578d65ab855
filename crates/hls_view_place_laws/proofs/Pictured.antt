-- The strong bar of a column tells the path of its tick.
use Rattle.std.proofs.Common.{◌≡◌, ℕ, zero, suc, ◌+◌, ◌-◌, ◌<◌, ◌≤◌, min, List, [], ◌∷◌, ◌++◌, Bool, true, false}
use Rattle.std.proofs.Common.{refl, sym, ap, subst, ◌∙◌, ◌&&◌, ◌⊎◌, cond, map, length, inl, inr, arith}
use Rattle.std.specs.Prelude.{Option, Some, None, slice_get, get_or, find, option_and_then, is_none}
use Rattle.std.specs.List.{range_with_len, count_by}
use Rattle.std.specs.Str.{bytes_eq}
use Rattle.std.proofs.lemmas.Bool.{cases_Bool, and_parts}
use Rattle.std.proofs.lemmas.List.{length-map}
use Rattle.std.proofs.lemmas.List.Sums.{sum_by-cons}
use Rattle.std.proofs.lemmas.Option.{get_or_from_slice_get, slice_get_within, slice_get-get_or}
use Rattle.hls_text.specs.Lines.{Text}
use Rattle.hls_report_text.specs.declared.stretch.Stretch.{Stretch}
use Rattle.hls_report_text.specs.Content.{Content}
use Rattle.hls_report_text.specs.WellFormed.{IsContent, IsPath, Cover}
use Rattle.hls_legal.specs.Schedule.{path_at, has_tick}
use Rattle.hls_audit.specs.declared.auditing.Outcome.{Outcome}
use Rattle.hls_audit_stays.proofs.Names.{bytes_same}
use Rattle.hls_view_scale.specs.declared.scale.Scale.{Scale}
use Rattle.hls_view_tale.specs.declared.label.Label.{Label}
use Rattle.hls_view_lanes.specs.Rows.{ways_at}
use Rattle.hls_view_lanes.specs.Facts.{spells, facts, idle_facts}
use Rattle.hls_view_lanes.specs.Leaves.{is_leaf, IsDown, HasWay, goes_to}
use Rattle.hls_view_lanes.proofs.LeafLaws.{served-alone, idle-alone}
use Rattle.hls_view_signs.specs.declared.signs.Signs.{Signs}
use Rattle.hls_view_tights.specs.declared.tights.Tight.{Tight}
use Rattle.hls_view_picture_rows.specs.declared.picture.Picture.{Picture}
use Rattle.hls_view_drawing.specs.Rows.{RowData, data_of, last_label, name_at, row_above}
use Rattle.hls_view_drawing.specs.Drawing.{IsDrawing}
use Rattle.hls_view_place_laws.specs.Tales.{TellsUpTo}
use Rattle.hls_view_place_laws.specs.Shares.{shown_rows}
use Rattle.hls_view_place_laws.specs.Reading.{is_strong, names_to, path_by, path_to, path_shown}
use Rattle.hls_view_place_laws.proofs.Among.{IsIn, HasSuch, in-at, at-in, in-back, in-either, of-map}
use Rattle.hls_view_place_laws.proofs.Leading.{names_on, first-such}
use Rattle.hls_view_place_laws.proofs.Shares.{one-leaf}
use Rattle.hls_view_place_laws.proofs.Ticks.{tick-given}
use Rattle.hls_view_place_laws.proofs.Alike.{AreAlike, is-alike, alike-through, alike-long, EndsIn, ends-in, ends-alike}
use Rattle.hls_view_place_laws.proofs.Alike.{front-long}
use Rattle.hls_view_place_laws.proofs.Bars.{row, rows, last_row, row-there, strong-row, strong-last}
use Rattle.hls_view_place_laws.proofs.Naming.{IsClosed, above-of, name-last, names-push, names-told}
use Rattle.hls_view_place_laws.proofs.Closed.{rows-closed}

wrong : {A : Type 0} (b : Bool) → b ≡ false → b ≡ true → A
wrong b off on = absurd (let e : false ≡ true = sym off ∙ on in cc)

-- ---- what a path has

path-short : (from : ℕ) (last : Option (Option (List Text))) (ss : List Stretch) (end t : ℕ) (names : List Text)
    → Cover from last ss end → path_at ss t ≡ Some names → length names ≤ 9
unfolding path_at
path-short from last [] end t names cover e = absurd (cc)
path-short from last (s ∷ ss) end t names cover e =
    by (has_tick t s) (path-short (s.to + 1) (Some s.path) ss end t names cover.4) e
  where
    by : (b : Bool) → (path_at ss t ≡ Some names → length names ≤ 9)
        → option_and_then (λ (x : Stretch). x.path) (cond b (Some s) (find (has_tick t) ss)) ≡ Some names
        → length names ≤ 9
    by true later e = (subst IsPath e cover.2).0.1
    by false later e = later e

spelled-names : (names : List Text) (way : List Label) → spells names way ≡ true → names_on way ≡ names
spelled-names [] [] e = refl
spelled-names [] (label ∷ way) e = wrong false refl e
spelled-names (name ∷ names) [] e = wrong false refl e
spelled-names (name ∷ names) (label ∷ way) e =
    let parts = and_parts (bytes_eq name label.name) (spells names way) e in
    ap (λ (n : Text). n ∷ names_on way) (sym (bytes_same name label.name parts.0))
    ∙ ap (λ (ns : List Text). name ∷ ns) (spelled-names names way parts.1)

found-passes : (test : List Label → Bool) (ways : List (List Label)) (way : List Label) → find test ways ≡ Some way
    → test way ≡ true
found-passes test [] way e = absurd (cc)
found-passes test (first ∷ ways) way e = by (test first) refl e (λ f. found-passes test ways way f)
  where
    by : (b : Bool) → test first ≡ b → cond b (Some first) (find test ways) ≡ Some way
        → (find test ways ≡ Some way → test way ≡ true) → test way ≡ true
    by true on e more = let same : first ≡ way = cc in ap test (sym same) ∙ on
    by false off e more = more e

count-some : {X : Type 0} (p : X → Bool) (xs : List X) → count_by p xs ≡ 1 → HasSuch p xs
count-some p [] e = absurd (omega (arith, e))
count-some p (x ∷ xs) e = elim (cases_Bool (p x)) [
  | inl on ↦ record { one = x; has = inl refl; passes = on }
  | inr off ↦
      (let more = sum_by-cons (λ y. cond (p y) 1 0) x xs in
      let none : ◌≡◌ {A = ℕ} (cond (p x) 1 0) 0 = ap (λ b. cond b 1 0) off in
      let s = count-some p xs (omega (arith, e, more, none)) in
      record { one = s.one; has = inr s.has; passes = s.passes })
]

in-range : (j a n : ℕ) → IsIn j (range_with_len a n) → j < a + n
in-range j a zero has = absurd has
in-range j a (suc n) (inl is) = omega (arith, is)
in-range j a (suc n) (inr has) = let rest = in-range j (a + 1) n has in omega (arith, rest)

-- ---- the rows of a picture

-- one of the first so many rows
record IsRow (make : ℕ → RowData) (many : ℕ) (x : RowData) : Type 0 where
  number : ℕ
  lt : number < many
  is : make number ≡ x

off-and : (a b : Bool) → b ≡ false → (a && b) ≡ false
off-and true b e = e
off-and false b e = refl

way-ends : (way : List Label) → IsDown way → EndsIn way
way-ends [] down = absurd down
way-ends (first ∷ rest) down = ends-in first rest

module _ (c : Content) (s : Scale) (ways : List (List Label)) (signs : List Signs) (tights : List (Option Tight))
    (column : ℕ) (one : s.ticks ≡ 1) (within : s.from + column ≤ s.to) where
  abbrev drawn : List RowData
  drawn = rows c s ways signs tights

  abbrev drawn_row : ℕ → RowData
  drawn_row = row c s ways signs tights

  abbrev idle_last : RowData
  idle_last = last_row c s ways signs tights

  abbrev tick : ℕ
  tick = s.from + column

  which-row : (x : RowData) → IsIn x drawn → IsRow drawn_row (length ways) x ⊎ (idle_last ≡ x)
  which-row x has =
      elim (in-either x (map drawn_row (range_with_len 0 (length ways))) (idle_last ∷ []) has) [
        | inl front ↦
            (let o = of-map drawn_row x (range_with_len 0 (length ways)) front in
            let lt = in-range o.one 0 (length ways) o.has in
            inl (record { number = o.one; lt = omega (arith, lt); is = o.is }))
        | inr back ↦ elim back [ inl is ↦ inr is | inr gone ↦ absurd gone ]
      ]

  row-in : (number : ℕ) → number < length ways → IsIn (drawn_row number) drawn
  row-in number lt = in-at drawn number (drawn_row number) (row-there c s ways signs tights number lt)

  last-in : IsIn idle_last drawn
  last-in = in-back idle_last (map drawn_row (range_with_len 0 (length ways))) (idle_last ∷ []) (inl refl)

  -- ---- where nobody is served

  idle-told : path_at c.stretches tick ≡ None → path_shown drawn column ≡ None
  idle-told none =
      let idle = idle-alone c tick none in
      let f = first-such (is_strong column) idle_last drawn last-in
      (strong-last c s ways signs tights column one within ∙ idle.0) in
      ap (option_and_then (path_to drawn)) f.is
      ∙ elim (which-row f.one f.has) [
        | inl r ↦
            (let way = get_or ways r.number [] in
            let off : goes_to c tick way ≡ false = off-and (is_leaf way) (facts c tick way).served (idle.1 way) in
            wrong (goes_to c tick way) off
            (sym (strong-row c s ways signs tights r.number column one within r.lt)
            ∙ ap (is_strong column) r.is ∙ f.passes))
        | inr is ↦ ap (path_to drawn) (sym is)
      ]

  -- ---- where somebody is

  way-told : (number : ℕ) (way : List Label) (w : EndsIn way) → IsClosed ways → number < length ways
      → AreAlike (get_or ways number []) way → length way ≤ 9
      → path_to drawn (drawn_row number) ≡ Some (names_on way)
  way-told number way w closed lt alike few =
      let e = ends-alike (get_or ways number []) w.front w.last
      (subst (λ (x : List Label). AreAlike (get_or ways number []) x) w.is alike) in
      let here : slice_get ways number ≡ Some (e.above ++ e.end ∷ []) =
      slice_get-get_or ways number [] lt ∙ ap (λ x. Some x) e.is in
      let a = above-of ways number e.above e.end closed here in
      let made : List Label → Option (List Text) =
      λ x. path_by drawn (min (length x) 4294967295) (name_at (last_label x)) (row_above ways x) in
      let end = e.above ++ e.end ∷ [] in
      let name = name_at (last_label end) in
      let long = front-long e.above e.end in
      let front = alike-long e.above w.front e.fronts in
      let whole = front-long w.front w.last in
      let same : length way ≡ length (w.front ++ w.last ∷ []) = ap (λ (x : List Label). length x) w.is in
      let steps : min (length end) 4294967295 - 1 ≡ length w.front = omega (arith, long, front, whole, same, few) in
      ap made e.is
      ∙ ap (path_by drawn (min (length end) 4294967295) name) a.is
      ∙ ap (λ n. Some (names_to drawn n (Some a.number) ++ name ∷ [])) steps
      ∙ ap (λ (x : List Text). Some (x ++ name ∷ []))
      (names-told c s ways signs tights closed (length w.front) a.number a.one w.front refl a.there
      (alike-through a.one e.above w.front a.alike e.fronts))
      ∙ ap (λ (n : Text). Some (names_on w.front ++ n ∷ [])) (name-last e.above e.end w.last e.ends)
      ∙ ap (λ (x : List Text). Some x) (sym (names-push w.front w.last))
      ∙ ap (λ (x : List Label). Some (names_on x)) (sym w.is)

  served-told : IsClosed ways → (w : HasWay c tick) → IsContent c → count_by (goes_to c tick) ways ≡ 1
      → path_shown drawn column ≡ path_at c.stretches tick
  served-told closed w formed count =
      let such = count-some (goes_to c tick) ways count in
      let at = at-in such.one ways such.has in
      let lt_at = slice_get_within ways at.0 such.one at.1 in
      let strong : is_strong column (drawn_row at.0) ≡ true =
      strong-row c s ways signs tights at.0 column one within lt_at
      ∙ ap (goes_to c tick) (get_or_from_slice_get ways at.0 such.one [] at.1) ∙ such.passes in
      let f = first-such (is_strong column) (drawn_row at.0) drawn (row-in at.0 lt_at) strong in
      let spelled : spells w.names w.way ≡ true =
      found-passes (spells w.names) (ways_at c tick) w.way
      (sym (ap (λ (p : Option (List Text)). option_and_then (λ ns. find (spells ns) (ways_at c tick)) p) w.path)
      ∙ w.given) in
      let names = spelled-names w.names w.way spelled in
      let long : length (names_on w.way) ≡ length w.way = length-map w.way (λ (l : Label). l.name) in
      let short = path-short 0 None c.stretches c.horizon tick w.names formed.cover w.path in
      let as_long : length (names_on w.way) ≡ length w.names = ap (λ (l : List Text). length l) names in
      ap (option_and_then (path_to drawn)) f.is
      ∙ elim (which-row f.one f.has) [
        | inl r ↦
            (let way = get_or ways r.number [] in
            let goes : goes_to c tick way ≡ true =
            sym (strong-row c s ways signs tights r.number column one within r.lt)
            ∙ ap (is_strong column) r.is ∙ f.passes in
            let parts = and_parts (is_leaf way) (facts c tick way).served goes in
            let same = (served-alone c tick w.names w.way w.path w.given w.down).alone way parts.0 parts.1 in
            ap (path_to drawn) (sym r.is)
            ∙ way-told r.number w.way (way-ends w.way w.down) closed r.lt (is-alike way w.way same)
            (omega (arith, long, as_long, short))
            ∙ ap (λ (ns : List Text). Some ns) names ∙ sym w.path)
        | inr is ↦
            wrong (idle_facts c tick).served (ap is_none w.path)
            (sym (strong-last c s ways signs tights column one within) ∙ ap (is_strong column) is ∙ f.passes)
      ]

-- ---- a picture

pub path-told : (c : Content) (s : Scale) (signs : List Signs) (tights : List (Option Tight)) (column : ℕ)
    → IsContent c → TellsUpTo c s.to → s.ticks ≡ 1 → s.from + column ≤ s.to
    → path_shown (rows c s (shown_rows c s) signs tights) column ≡ path_at c.stretches (s.from + column)
path-told c s signs tights column formed tells one within =
    elim (tick-given c (s.from + column) formed (λ clause u few le. tells clause u few (omega (arith, le, within)))) [
      | inl none ↦ idle-told c s (shown_rows c s) signs tights column one within none ∙ sym none
      | inr w ↦
          served-told c s (shown_rows c s) signs tights column one within
          (rows-closed c s.from (s.to + 1 - s.from) formed
          (λ t lt clause u few le. tells clause u few (omega (arith, lt, le))))
          w formed
          (one-leaf c s.from (s.to + 1 - s.from) (s.from + column) (omega arith) (omega (arith, within)) w)
    ]

pub drawing-tells : (c : Content) (audit : Outcome) (s : Scale) (p : Picture) (column : ℕ) → IsContent c
    → TellsUpTo c s.to → IsDrawing c audit s p → s.ticks ≡ 1 → s.from + column ≤ s.to
    → path_shown (map data_of p.rows.items) column ≡ path_at c.stretches (s.from + column)
drawing-tells c audit s p column formed tells is one within =
    ap (λ (l : List RowData). path_shown l column) is.rows_are
    ∙ path-told c s is.signs is.tights column formed tells one within

pub same-drawn : (c d : Content) (audit other : Outcome) (s : Scale) (p : Picture) (t : ℕ) → IsContent c → IsContent d
    → TellsUpTo c s.to → TellsUpTo d s.to → IsDrawing c audit s p → IsDrawing d other s p → s.ticks ≡ 1
    → s.from ≤ t → t ≤ s.to → path_at c.stretches t ≡ path_at d.stretches t
same-drawn c d audit other s p t formed well tells told is too one le within =
    let column = t - s.from in
    let now : s.from + (t - s.from) ≡ t = omega (arith, le) in
    let inside : s.from + (t - s.from) ≤ s.to = omega (arith, le, within) in
    ap (path_at c.stretches) (sym now)
    ∙ sym (drawing-tells c audit s p column formed tells is one inside)
    ∙ drawing-tells d other s p column well told too one inside
    ∙ ap (path_at d.stretches) now
