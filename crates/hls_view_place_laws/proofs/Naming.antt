-- The names of a row, by the rows above it, are those of its way.
use Rattle.std.proofs.Common.{◌≡◌, ℕ, zero, suc, ◌+◌, List, [], ◌∷◌, ◌++◌, true, false}
use Rattle.std.proofs.Common.{refl, sym, ap, subst, ◌∙◌, length, arith}
use Rattle.std.specs.Prelude.{Option, Some, None, ◌==◌, slice_get, get_or, option_and_then, if◌then◌else◌}
use Rattle.std.proofs.lemmas.Bool.{ne_eqb}
use Rattle.std.proofs.lemmas.List.{map-append}
use Rattle.std.proofs.lemmas.Option.{slice_get_within, get_or_from_slice_get}
use Rattle.hls_text.specs.Lines.{Text}
use Rattle.hls_report_text.specs.Content.{Content}
use Rattle.hls_audit_stays.proofs.Names.{bytes_same}
use Rattle.hls_view_scale.specs.declared.scale.Scale.{Scale}
use Rattle.hls_view_tale.specs.declared.label.Label.{Label}
use Rattle.hls_view_lanes.specs.Likeness.{is_like, is_same}
use Rattle.hls_view_lanes.specs.Rows.{has_row, above_of}
use Rattle.hls_view_lanes.proofs.Selves.{like-parts}
use Rattle.hls_view_signs.specs.declared.signs.Signs.{Signs}
use Rattle.hls_view_tights.specs.declared.tights.Tight.{Tight}
use Rattle.hls_view_drawing.specs.Rows.{RowData, last_label, name_at, row_like, row_above}
use Rattle.hls_view_place_laws.specs.Reading.{named_below, names_to}
use Rattle.hls_view_place_laws.proofs.Leading.{names_on}
use Rattle.hls_view_place_laws.proofs.Alike.{AreAlike, is-alike, alike-through, ends-in}
use Rattle.hls_view_place_laws.proofs.Alike.{front-long, above-front, last-front, ends-alike, placed-first}
use Rattle.hls_view_place_laws.proofs.Bars.{rows, row-there}

-- each beginning of a row is a row
pub record IsClosed (ways : List (List Label)) : Type 0 where
  pub above : (number : ℕ) (front : List Label) (last : Label) → slice_get ways number ≡ Some (front ++ last ∷ [])
      → has_row ways front ≡ true

-- the row above one that ends in a label
pub record IsAbove (ways : List (List Label)) (way front : List Label) : Type 0 where
  pub number : ℕ
  pub one : List Label
  pub is : row_above ways way ≡ Some number
  pub there : slice_get ways number ≡ Some one
  pub alike : AreAlike one front

pub above-of : (ways : List (List Label)) (number : ℕ) (front : List Label) (last : Label) → IsClosed ways
    → slice_get ways number ≡ Some (front ++ last ∷ []) → IsAbove ways (front ++ last ∷ []) front
above-of ways number front last closed there =
    let way = front ++ last ∷ [] in
    let p = placed-first (λ r. is_same r front) ways (closed.above number front last there) in
    let long = front-long front last in
    let some : (length way == 0) ≡ false = ne_eqb (length way) 0 (λ e. absurd (omega (arith, long, e))) in
    record {
      number = p.number;
      one = p.one;
      is = ap (λ b. if b then None else row_like ways (above_of way)) some
          ∙ ap (row_like ways) (above-front front last) ∙ p.is;
      there = p.there;
      alike = is-alike p.one front p.passes;
    }

pub names-push : (front : List Label) (last : Label) → names_on (front ++ last ∷ []) ≡ names_on front ++ last.name ∷ []
names-push front last = map-append (λ (l : Label). l.name) front (last ∷ [])

pub name-last : (front : List Label) (end last : Label) → is_like end last ≡ true
    → name_at (last_label (front ++ end ∷ [])) ≡ last.name
name-last front end last like =
    ap name_at (last-front front end) ∙ bytes_same end.name last.name (like-parts end last like).name

names-zero : (all : List RowData) (number : Option ℕ) → names_to all zero number ≡ []
unfolding names_to
names-zero all number = refl

names-suc : (all : List RowData) (steps : ℕ) (number : Option ℕ)
    → names_to all (suc steps) number
    ≡ named_below (names_to all steps) (option_and_then (λ n. slice_get all n) number)
unfolding names_to
names-suc all steps number = refl

module _ (c : Content) (s : Scale) (ways : List (List Label)) (signs : List Signs) (tights : List (Option Tight))
    (closed : IsClosed ways) where
  abbrev drawn : List RowData
  drawn = rows c s ways signs tights

  row-of : (number : ℕ) (way : List Label) → slice_get ways number ≡ Some way → get_or ways number [] ≡ way
  row-of number way there = get_or_from_slice_get ways number way [] there

  pub names-told : (steps number : ℕ) (one way : List Label) → length way ≡ steps → slice_get ways number ≡ Some one
      → AreAlike one way → names_to drawn steps (Some number) ≡ names_on way
  names-told zero number one [] long there alike = names-zero drawn (Some number)
  names-told zero number one (first ∷ rest) long there alike = absurd (omega (arith, long))
  names-told (suc steps) number one [] long there alike = absurd (omega (arith, long))
  names-told (suc steps) number one (first ∷ rest) long there alike =
      let w = ends-in first rest in
      let e = ends-alike one w.front w.last (subst (λ (x : List Label). AreAlike one x) w.is alike) in
      let here : slice_get ways number ≡ Some (e.above ++ e.end ∷ []) = there ∙ ap (λ x. Some x) e.is in
      let a = above-of ways number e.above e.end closed here in
      let lt = slice_get_within ways number one there in
      let is : get_or ways number [] ≡ e.above ++ e.end ∷ [] = row-of number (e.above ++ e.end ∷ []) here in
      let all : suc (length rest) ≡ length w.front + 1 =
      ap (λ (x : List Label). length x) w.is ∙ front-long w.front w.last in
      let fewer : length w.front ≡ steps = omega (arith, long, all) in
      names-suc drawn steps (Some number)
      ∙ ap (named_below (names_to drawn steps)) (row-there c s ways signs tights number lt)
      ∙ ap (λ (x : List Label). names_to drawn steps (row_above ways x) ++ name_at (last_label x) ∷ []) is
      ∙ ap (λ o. names_to drawn steps o ++ name_at (last_label (e.above ++ e.end ∷ [])) ∷ []) a.is
      ∙ ap (λ (x : List Text). x ++ name_at (last_label (e.above ++ e.end ∷ [])) ∷ [])
      (names-told steps a.number a.one w.front fewer a.there (alike-through a.one e.above w.front a.alike e.fronts))
      ∙ ap (λ (n : Text). names_on w.front ++ n ∷ []) (name-last e.above e.end w.last e.ends)
      ∙ sym (names-push w.front w.last)
      ∙ ap names_on (sym w.is)
