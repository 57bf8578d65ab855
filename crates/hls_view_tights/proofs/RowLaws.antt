-- The least of each row, row by row.
use Rattle.std.proofs.Common.{◌≡◌, ℕ, ◌+◌, ◌<◌, List, [], ◌∷◌, ◌++◌, true, false, refl, sym, ap, ◌∙◌}
use Rattle.std.proofs.Common.{cond, take, length, get_or, subst}
use Rattle.std.specs.Prelude.{Option, Some}
use Rattle.std.proofs.lemmas.List.{take_more}
use Rattle.hls_report_text.specs.Content.{Content}
use Rattle.hls_view_scale.specs.declared.scale.Scale.{Scale}
use Rattle.hls_view_tale.specs.declared.label.Label.{Label}
use Rattle.hls_view_margins.specs.declared.margin.Margin.{Margin}
use Rattle.hls_view_tights.specs.declared.tights.Tight.{Tight}
use Rattle.hls_view_tights.specs.declared.sightings.Sighting.{Sighting}
use Rattle.hls_view_tights.specs.Surpluses.{IsLeastOf, IsFirstLeast}
use Rattle.hls_view_tights.specs.Tights.{tights_in, AreLeast}
use Rattle.hls_view_tights.specs.Inside.Sightings.{has, seen_in}
use Rattle.hls_view_tights.proofs.Sighted.{seen_more}

next_sighting : (row : List Label) (all : List Sighting) (i : ℕ) (g : Sighting) → i < length all → g ≡ get_or all i g
    → seen_in row (take (i + 1) all) ≡ seen_in row (take i all) ++ cond (has row g) (g.tight ∷ []) []
next_sighting row all i g lt is =
    ap (seen_in row) (take_more all i g lt ∙ ap (λ (x : Sighting). take i all ++ x ∷ []) (sym is))
    ∙ seen_more row (take i all) g

append_nothing : {A : Type 0} (xs : List A) → xs ++ [] ≡ xs
append_nothing [] = refl
append_nothing (x ∷ xs) = ap (λ l. x ∷ l) (append_nothing xs)

pub with_one : (row : List Label) (all : List Sighting) (i : ℕ) (g : Sighting) (least : Tight) → i < length all
    → g ≡ get_or all i g → has row g ≡ true → IsFirstLeast (seen_in row (take i all) ++ g.tight ∷ []) least
    → IsLeastOf (seen_in row (take (i + 1) all)) (Some least)
with_one row all i g least lt is on first =
    subst (λ (l : List Tight). IsFirstLeast l least)
    (sym (next_sighting row all i g lt is
    ∙ ap (λ b. seen_in row (take i all) ++ cond b (g.tight ∷ []) []) on))
    first

pub without_one : (row : List Label) (all : List Sighting) (i : ℕ) (g : Sighting) (least : Option Tight)
    → i < length all → g ≡ get_or all i g → has row g ≡ false → IsLeastOf (seen_in row (take i all)) least
    → IsLeastOf (seen_in row (take (i + 1) all)) least
without_one row all i g least lt is off was =
    subst (λ (l : List Tight). IsLeastOf l least)
    (sym (next_sighting row all i g lt is
    ∙ ap (λ b. seen_in row (take i all) ++ cond b (g.tight ∷ []) []) off
    ∙ append_nothing (seen_in row (take i all))))
    was

least_append : (c : Content) (s : Scale) (margins : List Margin) (rows : List (List Label)) (all : List (Option Tight))
    (row : List Label) (tight : Option Tight) → IsLeastOf (tights_in c s row margins) tight
    → AreLeast c s margins rows all → AreLeast c s margins (rows ++ row ∷ []) (all ++ tight ∷ [])
least_append c s margins [] [] row tight one are = (one, tt)
least_append c s margins [] (x ∷ all) row tight one are = absurd are
least_append c s margins (r ∷ rows) [] row tight one are = absurd are
least_append c s margins (r ∷ rows) (x ∷ all) row tight one are =
    (are.0, least_append c s margins rows all row tight one are.1)

next_row : (all : List (List Label)) (i : ℕ) (row : List Label) → i < length all → row ≡ get_or all i row
    → take (i + 1) all ≡ take i all ++ row ∷ []
next_row all i row lt is = take_more all i row lt ∙ ap (λ (x : List Label). take i all ++ x ∷ []) (sym is)

pub row_more : (c : Content) (s : Scale) (margins : List Margin) (all : List (List Label)) (i : ℕ) (row : List Label)
    (tight : Option Tight) (old new : List (Option Tight)) → i < length all → row ≡ get_or all i row
    → IsLeastOf (tights_in c s row margins) tight → new ≡ old ++ tight ∷ []
    → AreLeast c s margins (take i all) old → AreLeast c s margins (take (i + 1) all) new
row_more c s margins all i row tight old new lt is one put are =
    subst (AreLeast c s margins (take (i + 1) all)) (sym put)
    (subst (λ rows. AreLeast c s margins rows (old ++ tight ∷ [])) (sym (next_row all i row lt is))
    (least_append c s margins (take i all) old row tight one are))
