-- The lines of an answer.
use Rattle.std.specs.Prelude.{ℕ, List, [], ◌∷◌, ◌++◌, codes, decimal, flat_map, Option, Some, None}
use Rattle.hls_text.specs.Lines.{Text}
use Rattle.hls_chron.specs.declared.plain.Config.{Config}
use Rattle.hls_chron.specs.declared.plain.Terms.{Terms}
use Rattle.hls_guarantee.specs.declared.Guarantee.{Guarantee}
use Rattle.hls_guarantee.specs.Spelling.{spelling}
use Rattle.hls_scenario.specs.Forms.{spaced, config_forms, terms_forms}
use Rattle.hls_report_text.specs.declared.refusal.Refusal.{Refusal}
use Rattle.hls_report_text.specs.ReportText.{two_words, span_text, ended, refusal_text}
use Rattle.hls_offer_text.specs.declared.left.Span.{Span}
use Rattle.hls_offer_text.specs.declared.left.Fit.{Fit}
use Rattle.hls_offer_text.specs.declared.left.Left.{Left}
use Rattle.hls_offer_text.specs.declared.left.Left.TheVariants.{Full, Priorities, Parts, Weight, Slots, Turn, Sole}

-- ---- what is left on a scheduler

abbrev pub one_span_text : Span → Text
one_span_text span = codes " " ++ span_text span.first span.last

abbrev pub fit_text : Fit → Text
fit_text fit = codes " , res " ++ two_words (decimal fit.x) (decimal fit.y)

abbrev pub left_text : Left → Text
left_text Full = codes "full"
left_text (Priorities spans) = codes "prio" ++ flat_map one_span_text spans
left_text (Parts free fits) = codes "parts " ++ (decimal free ++ flat_map fit_text fits)
left_text (Weight weight) = codes "weight " ++ decimal weight
left_text (Slots places) = codes "slots " ++ decimal places
left_text Turn = codes "turn"
left_text Sole = codes "sole"

abbrev pub more_text : Guarantee → Text
more_text g = codes " , " ++ spelling g

-- with commas between them
abbrev pub guarantees_text : List Guarantee → Text
guarantees_text [] = []
guarantees_text (g ∷ gs) = spelling g ++ flat_map more_text gs

-- a loaded scheduler: its name, its configuration, what its ports are guaranteed, and what is left
pub record Free : Type 0 where
  pub name : Text
  pub config : Config
  pub haves : List Guarantee
  pub left : Left

-- the configuration is spelled as a load of this version spells it
abbrev pub free_text : (version : ℕ) → Free → Text
free_text version f = codes "free " ++ (f.name ++ (spaced (config_forms version f.config)
    ++ (codes " has " ++ (guarantees_text f.haves ++ (codes " : " ++ left_text f.left)))))

-- ---- what cannot be had

-- the terms that are told, if any are
abbrev pub stated_terms_text : Option Terms → Text
stated_terms_text None = []
stated_terms_text (Some its) = spaced (terms_forms its)

-- on a scheduler, with these terms if they are told, nothing can be had, and this is why
abbrev pub refused_text : (scheduler : Text) → Option Terms → Refusal → Text
refused_text scheduler its refusal = codes "no " ++ (scheduler ++ (stated_terms_text its
    ++ (codes " : " ++ refusal_text refusal)))

-- ---- the whole

abbrev pub head_lines : (tick depth : ℕ) → List Text
head_lines tick depth = codes "hls-offer 1" ∷ (codes "tick " ++ decimal tick) ∷ (codes "depth " ++ decimal depth) ∷ []

abbrev pub answer_text : (tick depth : ℕ) → (lines : List Text) → Text
answer_text tick depth lines = ended (head_lines tick depth ++ (lines ++ codes "end" ∷ []))
