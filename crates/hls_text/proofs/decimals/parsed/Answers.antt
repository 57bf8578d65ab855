use Rattle.std.proofs.Common.{sym, subst, ◌∙◌, ap, arith}
use Rattle.std.specs.Str.{IsUtf8}
use Rattle.std.specs.Result.{result_ok}
use Rattle.std.proofs.lemmas.Str.{IsUtf8-from_ascii}
use Rattle.std.proofs.lemmas.Fmt.{IsAscii-decimal_wide, parse-decimal_wide}
use Rattle.hls_text.proofs.decimals.parsed.Goals as goal

pub returns-in-Ok-clause-exact : goal.returns-in-Ok-clause-exact
returns-in-Ok-clause-exact c = λ n lt is.
    let text = c.in-Ok.ensures.cases.0 ∙ is in
    let same = parse-decimal_wide 128 n c.in-Ok.digits.now c.parse.result lt (omega arith) text
    c.parse.ensures.value.0 in
    c.ok.ensures.value ∙ ap result_ok same

pub returns-in-Err-clause-exact : goal.returns-in-Err-clause-exact
returns-in-Err-clause-exact c = λ n lt is.
    absurd (c.in-Err.ensures.cases.0 (subst IsUtf8 (sym is) (IsUtf8-from_ascii _ (IsAscii-decimal_wide n
    (omega arith)))))
