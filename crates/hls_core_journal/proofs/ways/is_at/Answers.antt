use Rattle.std.proofs.Common.{◌≡◌, [], true, sym, subst, ◌∙◌}
use Rattle.std.specs.Str.{bytes_eq}
use Rattle.std.proofs.lemmas.Option.{slice_get_within, get_or_from_slice_get}
use Rattle.hls_report_text.proofs.NameLaws.{equal-same, equal-self}
use Rattle.hls_core_journal.proofs.ways.is_at.Goals as goal

pub returns-in-Some-clause-yes : goal.returns-in-Some-clause-yes
returns-in-Some-clause-yes c = λ yes.
    let keys = c.args.names.now.keys in
    let there = sym c.in-Some.ensures.key in
    let same : bytes_eq c.in-Some.other.now c.args.name.now ≡ true = sym c.eq.ensures ∙ yes in (
      slice_get_within keys c.args.place c.in-Some.other.now there,
      get_or_from_slice_get keys c.args.place c.in-Some.other.now [] there
          ∙ equal-same c.in-Some.other.now c.args.name.now same,
    )

pub returns-in-Some-clause-no : goal.returns-in-Some-clause-no
returns-in-Some-clause-no c = λ at.
    let there = sym c.in-Some.ensures.key in
    let same : c.in-Some.other.now ≡ c.args.name.now = cc in
    c.eq.ensures
    ∙ subst (λ name. bytes_eq c.in-Some.other.now name ≡ true) same (equal-self c.in-Some.other.now)
