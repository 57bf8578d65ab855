-- A text is of one scenario, and a canonical text of one command.
use Rattle.std.proofs.Common.{◌≡◌, ℕ, List, ◌∷◌}
use Rattle.std.proofs.Common.{refl, sym, ap, subst, arith}
use Rattle.std.specs.Prelude.{codes, decimal, Result, Ok}
use Rattle.hls_text.specs.Lines.{Text, lines_of}
use Rattle.hls_text.specs.Tokens.{tokens_of}
use Rattle.hls_lang.specs.declared.fault.Cause.{Cause}
use Rattle.hls_scenario.specs.declared.scenario.Command.{Command}
use Rattle.hls_scenario.specs.declared.scenario.Item.{Item}
use Rattle.hls_scenario.specs.declared.scenario.Scenario.{Scenario}
use Rattle.hls_scenario.specs.Forms.{command_forms, command_text, scenario_text}
use Rattle.hls_scenario.specs.Grammar.{IsCommand, IsScenario, IsLine, IsScenarioText}
use Rattle.hls_lang.specs.Reading.{item_at}
use Rattle.hls_lang.specs.ReadingLines.{Fault, scenario_of}
use Rattle.hls_scenario.proofs.CanonicalLaws.{canonical_stands, command_stands}
use Rattle.hls_lang.proofs.CommandLaws.{item_next}
use Rattle.hls_lang.proofs.ScenarioLaws.{lines_read}

-- a scenario's text is read as it
pub text_read : (text : Text) (s : Scenario) → IsScenarioText text s → scenario_of text ≡ Ok s
text_read text s is = lines_read (lines_of text) s is

one_read : (r : Result Scenario Fault) (s t : Scenario) → r ≡ Ok s → r ≡ Ok t → s ≡ t
one_read r s t a b = cc

-- a text stands for one scenario
pub text_of_one : (text : Text) (s t : Scenario) → IsScenarioText text s → IsScenarioText text t → s ≡ t
text_of_one text s t a b = one_read (scenario_of text) s t (text_read text s a) (text_read text t b)

-- no two scenarios have one canonical text
pub canonical_of_one : (s t : Scenario) → IsScenario s → IsScenario t → scenario_text s ≡ scenario_text t
    → s ≡ t
canonical_of_one s t a b e =
    let other = subst (λ (text : Text). IsScenarioText text t) (sym e) (canonical_stands t b) in
    text_of_one (scenario_text s) s t (canonical_stands s a) other

at_once : Command → Item
at_once command = record { tick = 0; command = command }

-- what is read of a command's tokens after a tick
tokens_read : (version : ℕ) (command : Command) (ts : List Text) → IsCommand version command
    → IsLine (command_forms version command) ts
    → item_at version 1 0 (codes "at" ∷ decimal 0 ∷ ts) ≡ Ok (at_once command)
unfolding at_once
tokens_read version command ts is line =
    item_next version 1 0 (codes "at" ∷ decimal 0 ∷ ts) (at_once command) (omega arith)
    (is, omega arith, omega arith, (refl, (refl, line)))

one_command : (r : Result Item Cause) (c d : Command) → r ≡ Ok (at_once c) → r ≡ Ok (at_once d) → c ≡ d
unfolding at_once
one_command r c d a b = let e : at_once c ≡ at_once d = cc in ap (λ (item : Item). item.command) e

-- no two commands of a version have one canonical text
pub command_of_one : (version : ℕ) (c d : Command) → IsCommand version c → IsCommand version d
    → command_text version c ≡ command_text version d → c ≡ d
command_of_one version c d a b e =
    let other = subst (λ (text : Text). IsLine (command_forms version d) (tokens_of text)) (sym e)
    (command_stands version d b) in
    let ts : List Text = tokens_of (command_text version c) in
    one_command (item_at version 1 0 (codes "at" ∷ decimal 0 ∷ ts)) c d
    (tokens_read version c ts a (command_stands version c a)) (tokens_read version d ts b other)
