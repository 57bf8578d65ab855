-- A scenario and its report without one of the commands.
use Rattle.std.specs.Prelude.{ℕ, zero, suc, List, [], ◌∷◌}
use Rattle.hls_scenario.specs.declared.scenario.Scenario.{Scenario}
use Rattle.hls_report_text.specs.Content.{Content}

-- the list without the item at a place
abbrev pub without : {A : Type 0} → (at : ℕ) → List A → List A
without at [] = []
without zero (x ∷ xs) = xs
without (suc at) (x ∷ xs) = x ∷ without at xs

abbrev pub scenario_without : (at : ℕ) → Scenario → Scenario
scenario_without at s = record s { items = without at s.items }

abbrev pub content_without : (at : ℕ) → Content → Content
content_without at c = record c { answered = without at c.answered }
