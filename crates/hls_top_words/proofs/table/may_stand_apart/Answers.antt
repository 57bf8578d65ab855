use Rattle.std.proofs.Common.{◌∙◌, ◌≡◌, subst, sym, true, arith}
use Rattle.hls_top_words.specs.Inside.Shapes.{begins_with_digit}
use Rattle.hls_top_words.proofs.Digits.{number_begins}
use Rattle.hls_top_words.proofs.table.may_stand_apart.Goals as goal

pub returns-then-eq-clause-no : goal.returns-then-eq-clause-no
returns-then-eq-clause-no c = λ no depth small option word.
    no (c.begins_with_digit.ensures
    ∙ subst (λ w. begins_with_digit w ≡ true) (sym word) (number_begins depth (omega (arith, small))))
