-- What the printer writes piece by piece is the canonical text.
use Rattle.std.specs.Prelude.{◌≡◌, ℕ, List, [], ◌∷◌, ◌++◌, codes, flat_map, map}
use Rattle.std.specs.List.{AllByRecursion}
use Rattle.std.proofs.Common.{◌-◌, ◌≤◌, length, get_or, take, drop, refl, sym, ap, ◌∙◌, arith, append_assoc}
use Rattle.std.proofs.lemmas.List.{take_all}
use Rattle.std.proofs.lemmas.Grind.{flat_map-append}
use Rattle.std.proofs.lemmas.List.Folds.{flat_map-map}
use Rattle.hls_chron.specs.declared.plain.Config.{Config}
use Rattle.hls_text.specs.Lines.{Text}
use Rattle.hls_guarantee.specs.Limits.{IsNarrow}
use Rattle.hls_scenario.specs.declared.scenario.Perch.{Perch}
use Rattle.hls_scenario.specs.declared.scenario.Item.{Item}
use Rattle.hls_scenario.specs.declared.scenario.Scenario.{Scenario}
use Rattle.hls_scenario.specs.Forms.{Form, the, canonical, spaced, perch_forms, perches_forms}
use Rattle.hls_scenario.specs.Forms.{more_perches_forms, line_text}
use Rattle.hls_scenario.specs.Forms.{item_forms, header_forms, horizon_forms, depth_lines}
use Rattle.hls_scenario.specs.Forms.{scenario_text}
use Rattle.hls_scenario.specs.Grammar.{IsPerch, ArePorts, IsLoad, IsCommand, AreItems}
use Rattle.hls_scenario.specs.Printing.{comma_text}
use Rattle.hls_scenario.proofs.Loads.{by_load}

pub spaced-append : (xs ys : List Form) → spaced (xs ++ ys) ≡ spaced xs ++ spaced ys
spaced-append xs ys = flat_map-append (λ form. 32 ∷ canonical form) xs ys

pub more_spaced : (perches : List Perch) → spaced (more_perches_forms perches) ≡ flat_map comma_text perches
more_spaced [] = refl
more_spaced (perch ∷ perches) =
    spaced-append (the (codes ",") ∷ perch_forms perch) (more_perches_forms perches)
    ∙ ap (λ (t : Text). comma_text perch ++ t) (more_spaced perches)

pub perches_text : (out : Text) (first : Perch) (rest : List Perch)
    → (out ++ spaced (perch_forms first)) ++ flat_map comma_text rest ≡ out
    ++ spaced (perches_forms (first ∷ rest))
perches_text out first rest =
    append_assoc out (spaced (perch_forms first)) (flat_map comma_text rest)
    ∙ ap (λ (t : Text). out ++ t) (ap (λ (t : Text). spaced (perch_forms first) ++ t) (sym (more_spaced rest))
    ∙ sym (spaced-append (perch_forms first) (more_perches_forms rest)))

-- the first perch, and those after it
pub perches_whole : (out : Text) (perches : List Perch) (first : Perch) → 1 ≤ length perches
    → first ≡ get_or perches 0 first
    → (out ++ spaced (perch_forms first)) ++ flat_map comma_text (take (length perches - 1) (drop 1 perches))
    ≡ out ++ spaced (perches_forms perches)
perches_whole out [] first some is = absurd (omega arith)
perches_whole out (perch ∷ perches) first some is =
    let left : length (perch ∷ perches) - 1 ≡ length perches = omega arith in
    rw (left, take_all (length perches) perches (omega arith), is) (perches_text out perch perches)

ports_perches : (perches : List Perch) → ArePorts perches → AllByRecursion IsPerch perches
ports_perches [] are = tt
ports_perches (perch ∷ perches) are = (are.0, ports_perches perches are.2)

-- the perches of a load
pub load_perches : (version : ℕ) (config : Config) (perches : List Perch) → IsLoad version config perches
    → AllByRecursion IsPerch perches
load_perches version =
    by_load version (λ config perches. AllByRecursion IsPerch perches) (λ config perch solo is. (is, tt))
    (λ ports perches is. ports_perches perches is.2)

abbrev pub AreNarrow : List Perch → Type 0
AreNarrow perches = AllByRecursion (λ perch. IsNarrow perch.want) perches

perches_narrow : (perches : List Perch) → AllByRecursion IsPerch perches → AreNarrow perches
perches_narrow [] are = tt
perches_narrow (perch ∷ perches) are = (are.0.want, perches_narrow perches are.1)

pub load_narrow : (version : ℕ) (config : Config) (perches : List Perch) → IsLoad version config perches
    → AreNarrow perches
load_narrow version config perches is = perches_narrow perches (load_perches version config perches is)

pub items_commands : (version horizon last : ℕ) (items : List Item) → AreItems version horizon last items
    → AllByRecursion (λ item. IsCommand version item.command) items
items_commands version horizon last [] are = tt
items_commands version horizon last (item ∷ items) are =
    (are.0, items_commands version horizon item.tick items are.3)

lines_of_head : (version : ℕ) (lines : List (List Form)) (items : List Item)
    → flat_map line_text (lines ++ map (item_forms version) items)
    ≡ flat_map line_text lines ++ flat_map (λ item. line_text (item_forms version item)) items
lines_of_head version lines items =
    flat_map-append line_text lines (map (item_forms version) items)
    ∙ ap (λ (t : Text). flat_map line_text lines ++ t) (flat_map-map line_text (item_forms version) items)

pub whole_text : (s : Scenario)
    → flat_map line_text (header_forms s.version ∷ horizon_forms s.horizon ∷ depth_lines s.depth)
    ++ flat_map (λ item. line_text (item_forms s.version item)) s.items ≡ scenario_text s
unfolding scenario_text
whole_text s =
    sym (lines_of_head s.version (header_forms s.version ∷ horizon_forms s.horizon ∷ depth_lines s.depth)
    s.items)
