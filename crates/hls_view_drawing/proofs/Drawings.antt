-- What is found of a report makes its picture.
use Rattle.std.proofs.Common.{◌≡◌, ◌∙◌, ℕ, suc, ◌+◌, ◌-◌, ◌++◌, ◌∷◌, [], List, ap, refl, subst, sym, length, map, arith}
use Rattle.std.specs.Prelude.{Option}
use Rattle.std.specs.List.{AllByRecursion}
use Rattle.hls_scenario.specs.Grammar.{IsCommand}
use Rattle.hls_report_text.specs.declared.report.Answered.{Answered}
use Rattle.hls_report_text.specs.declared.report.Report.{Report}
use Rattle.hls_report_text.specs.Content.{Content, content_of}
use Rattle.hls_report_text.specs.WellFormed.{AreAnswered, IsWellFormed}
use Rattle.hls_view_scale.specs.declared.scale.Scale.{Scale}
use Rattle.hls_view_tale.specs.declared.label.Label.{Label}
use Rattle.hls_view_lanes.specs.declared.counts.Counts.{Counts}
use Rattle.hls_view_lanes.specs.Lanes.{all_counts, counts_of}
use Rattle.hls_view_lanes.specs.Facts.{facts, idle_facts}
use Rattle.hls_view_signs.specs.declared.signs.Signs.{Signs}
use Rattle.hls_view_signs.specs.Signs.{AreSigns}
use Rattle.hls_view_margins.specs.declared.margin.Margin.{Margin}
use Rattle.hls_view_tights.specs.declared.tights.Tight.{Tight}
use Rattle.hls_view_tights.specs.Tights.{AreTights, AreLeast}
use Rattle.hls_view_drawing.specs.Inside.Valid.{AreValid}
use Rattle.hls_view_drawing.specs.Drawing.{ways_shown}
use Rattle.hls_view_drawing.proofs.Spelled.{rows_valid}

pub valid_ways : (r : Report) (s : Scale) (rows : List (List Label)) → IsWellFormed r
    → rows ≡ ways_shown (content_of r) s → AreValid rows
valid_ways r s rows formed e = rows_valid (content_of r) formed.content s.from (s.to + 1 - s.from) rows e

length-one_more : {A B : Type 0} (f : A → B) (xs : List A) (y : B) → length (map f xs ++ y ∷ []) ≡ length xs + 1
length-one_more f [] y = refl
length-one_more f (x ∷ xs) y = let more = length-one_more f xs y in omega (arith, more)

pub counted_ways : (c : Content) (s : Scale) (rows : List (List Label)) (counts : List Counts)
    → counts ≡ all_counts c s rows → length counts ≡ length rows + 1
counted_ways c s rows counts e =
    ap (λ (cs : List Counts). length cs) e
    ∙ length-one_more (λ (row : List Label). counts_of s (λ t. facts c t row)) rows (counts_of s (idle_facts c))

pub signed_ways : (c : Content) (s : Scale) (rows : List (List Label)) (signs : List Signs) → AreSigns c s rows signs
    → length signs ≡ length rows
signed_ways c s [] [] are = refl
signed_ways c s [] (x ∷ signs) are = absurd are
signed_ways c s (row ∷ rows) [] are = absurd are
signed_ways c s (row ∷ rows) (x ∷ signs) are = ap suc (signed_ways c s rows signs are.1)

least_ways : (c : Content) (s : Scale) (ms : List Margin) (rows : List (List Label)) (all : List (Option Tight))
    → AreLeast c s ms rows all → length all ≡ length rows
least_ways c s ms [] [] are = refl
least_ways c s ms [] (x ∷ all) are = absurd are
least_ways c s ms (row ∷ rows) [] are = absurd are
least_ways c s ms (row ∷ rows) (x ∷ all) are = ap suc (least_ways c s ms rows all are.1)

pub tight_ways : (c : Content) (s : Scale) (rows : List (List Label)) (all : List (Option Tight))
    → AreTights c s rows all → length all ≡ length rows
tight_ways c s rows all are = least_ways c s are.margins rows all are.least

commands_in : (version horizon last : ℕ) (all : List Answered) → AreAnswered version horizon last all
    → AllByRecursion (λ (a : Answered). IsCommand version a.command) all
commands_in version horizon last [] are = tt
commands_in version horizon last (a ∷ all) are = (are.0, commands_in version horizon a.tick all are.4)

pub commands_told : (r : Report) (answered : List Answered) → IsWellFormed r → answered ≡ r.answered
    → AllByRecursion (λ (a : Answered). IsCommand r.version a.command) answered
commands_told r answered formed e =
    subst (AllByRecursion (λ (a : Answered). IsCommand r.version a.command)) (sym e)
    (commands_in r.version r.horizon 0 r.answered formed.content.answered)

-- what the calls for a picture ask for
pub ruleset drawn = (valid_ways, counted_ways, signed_ways, tight_ways, commands_told)
