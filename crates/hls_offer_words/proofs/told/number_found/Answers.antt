use Rattle.std.proofs.Common.{◌∙◌, subst, ℕ}
use Rattle.std.specs.Prelude.{IfSome, IsNone, Option}
use Rattle.clap.specs.Words.{found_of}
use Rattle.clap.proofs.WalkLemmas.{first_value-rows}
use Rattle.hls_offer_words.specs.Inside.Shapes.{TellsNumber}
use Rattle.hls_offer_words.proofs.told.number_found.Goals as goal

pub returns-clause-found : goal.returns-clause-found
returns-clause-found c =
    subst (λ v. IfSome c.stated.result (TellsNumber c.args.most v))
    (c.get_str.ensures ∙ first_value-rows (found_of c.args.matches.now) c.args.option.now) c.stated.ensures.found

pub returns-clause-none : goal.returns-clause-none
returns-clause-none c =
    subst (λ v. IsNone c.stated.result → (n : Option ℕ) → ¬ TellsNumber c.args.most v n)
    (c.get_str.ensures ∙ first_value-rows (found_of c.args.matches.now) c.args.option.now) c.stated.ensures.none
