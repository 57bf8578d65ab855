use Rattle.std.proofs.Common.{◌∙◌, subst, sym, refl, codes, ℕ}
use Rattle.std.specs.Prelude.{IfSome, IsNone}
use Rattle.clap.specs.Words.{found_of}
use Rattle.hls_top_words.specs.Inside.Shapes.{TellsDepth}
use Rattle.hls_top_words.proofs.Rows.{first_of-rows}
use Rattle.hls_top_words.proofs.told.depth_found.Goals as goal

pub returns-in-Some-clause-found : goal.returns-in-Some-clause-found
returns-in-Some-clause-found c =
    subst (λ v. IfSome c.depth_of.result (TellsDepth v))
    (c.in-Some.ensures ∙ sym (first_of-rows (found_of c.args.matches.now) (codes "depth")))
    c.depth_of.ensures.found

pub returns-in-Some-clause-none : goal.returns-in-Some-clause-none
returns-in-Some-clause-none c =
    subst (λ v. IsNone c.depth_of.result → (depth : ℕ) → TellsDepth v depth → ⊥)
    (c.in-Some.ensures ∙ sym (first_of-rows (found_of c.args.matches.now) (codes "depth")))
    (λ none depth tells. c.depth_of.ensures.none none depth tells.0 tells.1)

pub returns-in-None-clause-found : goal.returns-in-None-clause-found
returns-in-None-clause-found c =
    subst (λ v. TellsDepth v 3)
    (c.in-None.ensures ∙ sym (first_of-rows (found_of c.args.matches.now) (codes "depth"))) refl
