use Rattle.std.proofs.Common.{◌≡◌, ◌-◌, ◌+◌, [], ◌∷◌, arith, ap, ◌∙◌}
use Rattle.std.proofs.lemmas.Fmt.{decimal_digit}
use Rattle.hls_derive.proofs.words.port_of_digit.Goals as goal

pub returns-then-digit-le51-clause-found : goal.returns-then-digit-le51-clause-found
returns-then-digit-le51-clause-found c =
    let same : 48 + (c.args.digit - 48) ≡ c.args.digit = omega arith in
    (omega arith, decimal_digit (c.args.digit - 48) (omega arith) ∙ ap (λ d. d ∷ []) same)
