-- A scenario with a further command, and its text.
use Rattle.std.proofs.Common.{◌≡◌, ℕ, ◌≤◌, List, [], ◌∷◌, ◌++◌, Some, None, sym, ap, ◌∙◌, subst, arith}
use Rattle.std.proofs.Common.{true, length-append, append_assoc, map}
use Rattle.std.specs.Prelude.{Option}
use Rattle.std.specs.List.{AllByRecursion}
use Rattle.std.proofs.lemmas.List.{append-nil, map-append}
use Rattle.hls_text.specs.Lines.{Text, lines_of, is_clean_line}
use Rattle.hls_text.specs.Tokens.{tokens_of}
use Rattle.hls_scenario.specs.declared.scenario.Item.{Item}
use Rattle.hls_scenario.specs.declared.scenario.Scenario.{Scenario}
use Rattle.hls_scenario.specs.Forms.{Form, canonical, joined, item_forms, line_text, depth_lines, scenario_lines}
use Rattle.hls_scenario.specs.Forms.{header_forms, horizon_forms}
use Rattle.hls_scenario.specs.Grammar.{AreItems, IsScenario, AreLines, onto_lines, token_lines, AreScenarioLines}
use Rattle.hls_scenario.specs.Grammar.{IsScenarioText}
use Rattle.hls_scenario.proofs.CanonicalLines.{all_append, joined_tokens, joined_plain, shown_plain, text_lines}
use Rattle.hls_scenario.proofs.CanonicalLines.{lines_clean}
use Rattle.hls_scenario.proofs.CanonicalWords.{ArePrintableLines, IsPrintableLine, forms_words, lines_words}
use Rattle.hls_scenario.proofs.CanonicalWords.{canonical_lines}
use Rattle.hls_scenario.proofs.CanonicalForms.{scenario_printable}
use Rattle.hls_longer_texts.specs.Longer.{ends_line, with_item, MayFollow}
use Rattle.hls_longer_texts.proofs.Lines.{lines_behind, tokens_behind, lines_join}

-- ---- the scenario

items_more : (version horizon last : ℕ) (items : List Item) (item : Item) → AreItems version horizon last items
    → last ≤ item.tick → AllByRecursion (λ (other : Item). other.tick ≤ item.tick) items
    → AreItems version horizon item.tick (item ∷ []) → AreItems version horizon last (items ++ item ∷ [])
items_more version horizon last [] item are low late is = (is.0, low, is.2, tt)
items_more version horizon last (one ∷ items) item are low late is =
    (are.0, are.1, are.2, items_more version horizon one.tick items item are.3 late.0 late.1 is)

scenario_more : (s : Scenario) (item : Item) → IsScenario s → MayFollow s item → IsScenario (with_item s item)
scenario_more s item is may = record {
  version = is.version;
  horizon = is.horizon;
  depth = is.depth;
  few = let count = length-append s.items (item ∷ []) in let few = may.few in omega (arith, count, few);
  items = items_more s.version s.horizon 0 s.items item is.items (omega arith) may.last
      (may.command, omega arith, may.early, tt);
}

-- ---- its lines

lines_more : (s : Scenario) (item : Item)
    → scenario_lines (with_item s item) ≡ scenario_lines s ++ item_forms s.version item ∷ []
lines_more s item =
    let forms : Item → List Form = item_forms s.version in
    ap (λ (ls : List (List Form)). header_forms s.version ∷ horizon_forms s.horizon ∷ ls)
    (ap (λ (ls : List (List Form)). depth_lines s.depth ++ ls) (map-append forms s.items (item ∷ []))
    ∙ sym (append_assoc (depth_lines s.depth) (map forms s.items) (forms item ∷ [])))

last_printable : (depth : Option ℕ) (forms : List Form) → ArePrintableLines (depth_lines depth ++ forms ∷ [])
    → IsPrintableLine forms
last_printable None forms all = all.0
last_printable (Some depth) forms all = all.1.0

item_printable : (s : Scenario) (item : Item) → IsScenario s → MayFollow s item
    → ArePrintableLines (item_forms s.version item ∷ [])
item_printable s item is may =
    let alone : Scenario = record s { items = item ∷ [] } in
    let all = scenario_printable alone (record {
      version = is.version;
      horizon = is.horizon;
      depth = is.depth;
      few = omega arith;
      items = (may.command, omega arith, may.early, tt);
    }) in
    (last_printable s.depth (item_forms s.version item) all.1.1, tt)

line_tokens : (forms : List Form) → IsPrintableLine forms → ArePrintableLines (forms ∷ [])
    → token_lines (joined forms ∷ []) ≡ map canonical forms ∷ []
line_tokens [] is all = absurd is
line_tokens (form ∷ forms) is all =
    let words = forms_words (form ∷ forms) is in
    ap (λ (ts : List Text). onto_lines ts [])
    (ap tokens_of (shown_plain (joined (form ∷ forms)) (joined_plain (form ∷ forms) words))
    ∙ joined_tokens (form ∷ forms) words)

line_is : (forms : List Form) → ArePrintableLines (forms ∷ []) → lines_of (line_text forms) ≡ joined forms ∷ []
line_is forms all =
    ap lines_of (sym (append-nil (line_text forms))) ∙ text_lines (forms ∷ []) (lines_words (forms ∷ []) all)

pub goes_on : (text : Text) (s : Scenario) (item : Item) → IsScenarioText text s → ends_line text ≡ true
    → MayFollow s item → IsScenarioText (text ++ line_text (item_forms s.version item)) (with_item s item)
goes_on text s item is ends may =
    let forms : List Form = item_forms s.version item in
    let all = item_printable s item is.within may in
    let lines = lines_behind text (line_text forms) ends
    ∙ ap (λ (ls : List Text). lines_of text ++ ls) (line_is forms all)
    in
    let tokens = tokens_behind (lines_of text) (joined forms ∷ [])
    ∙ ap (λ (ls : List (List Text)). token_lines (lines_of text) ++ ls) (line_tokens forms all.0 all) in
    let words = lines_join (scenario_lines s) (forms ∷ []) (token_lines (lines_of text)) (map canonical forms ∷ [])
    is.words (canonical_lines (forms ∷ []) all) in
    subst (λ (ls : List Text). AreScenarioLines ls (with_item s item)) (sym lines)
    (record {
      within = scenario_more s item is.within may;
      clean = all_append (λ (line : Text). is_clean_line line ≡ true) (lines_of text) (joined forms ∷ []) is.clean
          (lines_clean (forms ∷ []) (lines_words (forms ∷ []) all));
      words = subst (λ (ls : List (List Text)). AreLines (scenario_lines (with_item s item)) ls) (sym tokens)
          (subst (λ (fs : List (List Form)). AreLines fs (token_lines (lines_of text) ++ map canonical forms ∷ []))
          (sym (lines_more s item)) words);
    })
