-- Which of the rows that end in threads a tick goes to.
use Rattle.std.proofs.Common.{◌≡◌, ℕ, List, [], ◌∷◌, true, false, refl, ap, sym, ◌∙◌, ◌&&◌, Bool}
use Rattle.std.specs.Prelude.{Option, Some, None, find, option_and_then, is_none}
use Rattle.hls_text.specs.Lines.{Text}
use Rattle.hls_report_text.specs.Content.{Content}
use Rattle.hls_legal.specs.Schedule.{path_at}
use Rattle.hls_view_tale.specs.declared.label.Label.{Label}
use Rattle.hls_view_lanes.specs.Likeness.{is_like, begins, is_same}
use Rattle.hls_view_lanes.specs.Rows.{ways_at}
use Rattle.hls_view_lanes.specs.Facts.{spells, given_at, is_through, facts, idle_facts}
use Rattle.hls_view_lanes.specs.Leaves.{is_thread, is_leaf, IsDown, ServesAlone}
use Rattle.hls_view_lanes.proofs.Selves.{begins-self, first-of, second-of, like-parts, like-turned, same-thread}

pub wrong : {A : Type 0} (b : Bool) → b ≡ false → b ≡ true → A
wrong b off on = absurd (let e : false ≡ true = sym off ∙ on in cc)

-- a leaf with which a way down begins has no label less
pub back : (row way : List Label) → is_leaf row ≡ true → IsDown way → begins row way ≡ true → begins way row ≡ true
back [] way leaf down e = wrong false refl leaf
back (l ∷ row) [] leaf down e = wrong false refl e
back (l ∷ []) (m ∷ []) leaf down e =
    ap (λ b. b && true) (like-turned l m (first-of (is_like l m) true e))
back (l ∷ []) (m ∷ next ∷ way) leaf down e =
    let same = (like-parts l m (first-of (is_like l m) true e)).sort in
    wrong (is_thread m) down.0 (sym (same-thread l.sort m.sort same) ∙ leaf)
back (l ∷ other ∷ row) (m ∷ []) leaf down e = wrong false refl (second-of (is_like l m) false e)
back (l ∷ other ∷ row) (m ∷ next ∷ way) leaf down e =
    ap (λ b. b && begins (next ∷ way) (other ∷ row))
    (like-turned l m (first-of (is_like l m) (begins (other ∷ row) (next ∷ way)) e))
    ∙ back (other ∷ row) (next ∷ way) leaf down.1 (second-of (is_like l m) (begins (other ∷ row) (next ∷ way)) e)

leaf-same : (row way : List Label) → is_leaf row ≡ true → IsDown way → begins row way ≡ true
    → is_same row way ≡ true
leaf-same row way leaf down e = ap (λ b. b && begins way row) e ∙ back row way leaf down e

pub served-alone : (c : Content) (t : ℕ) (names : List Text) (way : List Label)
    → path_at c.stretches t ≡ Some names → given_at c t ≡ Some way → IsDown way → ServesAlone c t way
served-alone c t names way path given down = record {
  served = ap (is_through way) given ∙ begins-self way;
  idle = ap is_none path;
  alone = λ row leaf served. leaf-same row way leaf down (sym (ap (is_through row) given) ∙ served);
}

nothing : (c : Content) (t : ℕ) (row : List Label) → path_at c.stretches t ≡ None
    → (facts c t row).served ≡ false
nothing c t row none =
    ap (λ (path : Option (List Text)).
    is_through row (option_and_then (λ names. find (spells names) (ways_at c t)) path)) none

pub idle-alone : (c : Content) (t : ℕ) → path_at c.stretches t ≡ None
    → ((idle_facts c t).served ≡ true) × ((row : List Label) → (facts c t row).served ≡ false)
idle-alone c t none = (ap is_none none, λ row. nothing c t row none)
