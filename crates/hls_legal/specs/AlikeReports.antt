-- Reports that differ in derivations alone.
use Rattle.std.specs.Prelude.{◌≡◌, List, [], ◌∷◌}
use Rattle.hls_report_text.specs.declared.report.Answered.{Answered}
use Rattle.hls_report_text.specs.Content.{Content}
use Rattle.hls_legal.specs.AlikeAnswers.{IsAlikeAnswer}

pub record IsAlikeAnswered (one two : Answered) : Type 0 where
  pub tick : one.tick ≡ two.tick
  pub command : one.command ≡ two.command
  pub answer : IsAlikeAnswer one.answer two.answer

abbrev pub AreAlikeAnswered : List Answered → List Answered → Type 0
AreAlikeAnswered [] [] = Unit {0}
AreAlikeAnswered (a ∷ answered) (b ∷ others) = IsAlikeAnswered a b × AreAlikeAnswered answered others
AreAlikeAnswered _ _ = ⊥

pub record IsAlikeContent (c d : Content) : Type 0 where
  pub version : c.version ≡ d.version
  pub horizon : c.horizon ≡ d.horizon
  pub depth : c.depth ≡ d.depth
  pub answered : AreAlikeAnswered c.answered d.answered
  pub stretches : c.stretches ≡ d.stretches
  pub accounts : c.accounts ≡ d.accounts
  pub idle : c.idle ≡ d.idle
