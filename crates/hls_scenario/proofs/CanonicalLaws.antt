-- The canonical text stands for its scenario, and for its command.
use Rattle.std.proofs.Common.{◌≡◌, ℕ, List, [], ◌∷◌}
use Rattle.std.proofs.Common.{refl, sym, ap, ◌∙◌, subst}
use Rattle.std.specs.Prelude.{map}
use Rattle.hls_text.specs.Lines.{Text, shown_of}
use Rattle.hls_text.specs.Tokens.{tokens_of}
use Rattle.hls_scenario.specs.declared.scenario.Command.{Command}
use Rattle.hls_scenario.specs.declared.scenario.Scenario.{Scenario}
use Rattle.hls_scenario.specs.Forms.{Form, canonical, joined, command_forms, command_text}
use Rattle.hls_scenario.specs.Forms.{scenario_lines, scenario_text}
use Rattle.hls_scenario.specs.Grammar.{IsCommand, IsScenario, IsLine, AreLines, token_lines, onto_lines}
use Rattle.hls_scenario.specs.Grammar.{AreScenarioLines, IsScenarioText}
use Rattle.hls_scenario.proofs.CanonicalLines.{AreWordLines, joined_tokens, joined_plain, shown_plain}
use Rattle.hls_scenario.proofs.CanonicalLines.{text_lines, lines_clean}
use Rattle.hls_scenario.proofs.CanonicalWords.{forms_words, canonical_line}
use Rattle.hls_scenario.proofs.CanonicalWords.{lines_words, canonical_lines}
use Rattle.hls_scenario.proofs.CanonicalForms.{command_printable, scenario_printable}

tokens_again : (lines : List (List Form)) → AreWordLines lines
    → token_lines (map joined lines) ≡ map (map canonical) lines
tokens_again [] are = refl
tokens_again ([] ∷ lines) are = absurd are.0
tokens_again ((form ∷ forms) ∷ lines) are =
    let line : Text = joined (form ∷ forms) in
    let tokens : tokens_of (shown_of line) ≡ map canonical (form ∷ forms) =
    ap tokens_of (shown_plain line (joined_plain (form ∷ forms) are.0))
    ∙ joined_tokens (form ∷ forms) are.0 in
    ap (λ (ts : List Text). onto_lines ts (token_lines (map joined lines))) tokens
    ∙ ap (λ (ls : List (List Text)). map canonical (form ∷ forms) ∷ ls) (tokens_again lines are.1)

lines_stand : (s : Scenario) → IsScenario s → AreScenarioLines (map joined (scenario_lines s)) s
lines_stand s is =
    let lines : List (List Form) = scenario_lines s in
    let printable = scenario_printable s is in
    let words = lines_words lines printable in
    record {
      within = is;
      clean = lines_clean lines words;
      words = subst (AreLines lines) (sym (tokens_again lines words)) (canonical_lines lines printable);
    }

-- the canonical text is one of the scenario's texts
pub canonical_stands : (s : Scenario) → IsScenario s → IsScenarioText (scenario_text s) s
unfolding scenario_text
canonical_stands s is =
    let words = lines_words (scenario_lines s) (scenario_printable s is) in
    subst (λ (ls : List Text). AreScenarioLines ls s) (sym (text_lines (scenario_lines s) words))
    (lines_stand s is)

-- ---- commands

-- the tokens of a command's canonical text stand for it
pub command_stands : (version : ℕ) (command : Command) → IsCommand version command
    → IsLine (command_forms version command) (tokens_of (command_text version command))
command_stands version command is =
    let forms : List Form = command_forms version command in
    let printable = command_printable version command is in
    subst (IsLine forms) (sym (joined_tokens forms (forms_words forms printable)))
    (canonical_line forms printable)
