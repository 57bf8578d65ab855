use Rattle.std.proofs.Common.{◌≡◌, sym, ◌∙◌, arith, false, true}
use Rattle.hls_report.proofs.DigitLaws.{count_is, count_again, may_begin_count, pair_parts}
use Rattle.hls_report.proofs.span_reading.count_before.Goals as goal
use Rattle.hls_report.proofs.span_reading.count_before.Goals.{in_default-via-in-Some+else-n-lt4294967296}
use Rattle.hls_report.proofs.span_reading.count_before.Goals.{in_default-via-in_default}

pub returns-then-not-may_begin-clause-exact : goal.returns-then-not-may_begin-clause-exact
returns-then-not-may_begin-clause-exact c = λ n rest small is.
    let yes = may_begin_count c.args.end n c.args.text.now rest small is in
    let no : c.may_begin.result ≡ false = c.if-not-may_begin.true in
    let e = sym no ∙ c.may_begin.ensures ∙ yes in cc

pub returns-in-Some-clause-found : goal.returns-in-Some-clause-found
returns-in-Some-clause-found c =
    let may : c.may_begin.result ≡ true = c.if-not-may_begin.false in
    count_is c.args.end c.in-Some.n c.args.text.now c.in-Some.rest.now c.requires c.if-n-lt4294967296.true
    (sym c.may_begin.ensures ∙ may) (sym c.in-Some.ensures)

pub returns-in-Some-clause-exact : goal.returns-in-Some-clause-exact
returns-in-Some-clause-exact c = λ n rest small is.
    pair_parts (c.in-Some.n, c.in-Some.rest.now) (n, rest)
    (sym c.in-Some.ensures ∙ count_again c.args.end n c.args.text.now rest c.requires small is)

pub returns-in_default-clause-exact : goal.returns-in_default-clause-exact
returns-in_default-clause-exact c = λ n rest small is.
    let again = count_again c.args.end n c.args.text.now rest c.requires small is in
    elim c.in_default.branch [
      | in_default-via-in-Some+else-n-lt4294967296 w ↦
          let p = pair_parts (w.in-Some.n, w.in-Some.rest.now) (n, rest) (sym w.in-Some.ensures ∙ again) in
          let same = p.0 in
          let large = w.if-n-lt4294967296.false in absurd (omega (arith, same, large, small))
      | in_default-via-in_default w ↦ absurd (let e = sym w.in_default.ensures ∙ again in cc)
    ]
