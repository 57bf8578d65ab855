use Rattle.std.proofs.Common.{◌≡◌, ℕ, suc, List, false, true, length, arith, sym, ap, ◌∙◌, inl, inr}
use Rattle.std.specs.Prelude.{◌==◌}
use Rattle.std.proofs.lemmas.List.{length-append}
use Rattle.hls_report.proofs.PathLaws.{none_yet, one_more, too_long, too_many, not_ended, all_read, is_none}
use Rattle.hls_report.proofs.path_reading.path.Goals as goal

pub loop-first-init : goal.loop-first-init
loop-first-init c = none_yet c.args.known.now.keys c.args.text.now c.requires

pub returns-then-path-eq-MOST_PARTS : goal.returns-then-path-eq-MOST_PARTS
returns-then-path-eq-MOST_PARTS c =
    too_long c.args.known.now.keys c.loop-first.known.keys c.args.text.now c.loop-first.rest.now
    c.in-Some.first.name c.in-Some.first.rest.now c.loop-first.path c.loop-first.invariant
    c.in-Some.ensures.read c.if-path-eq-MOST_PARTS.true

pub returns-then-len-gt-MOST_NAMES : goal.returns-then-len-gt-MOST_NAMES
returns-then-len-gt-MOST_NAMES c =
    too_many c.args.known.now.keys c.loop-first.known.keys c.place_in.new.known.keys c.args.text.now
    c.loop-first.rest.now c.in-Some.first.name c.in-Some.first.rest.now c.loop-first.path
    c.loop-first.invariant c.in-Some.ensures.read c.in_ok-place.ensures.known
    (let many = c.if-len-gt-MOST_NAMES.true in let len = c.len.ensures.len in omega (arith, many, len))

pub push-requires : goal.push-requires
push-requires c =
    let short = c.loop-first.invariant.short in let other = c.if-path-eq-MOST_PARTS.false in omega arith

pub loop-first-smaller : goal.loop-first-smaller
loop-first-smaller c =
    let len = ap (λ (t : List ℕ). length t) c.in-Some.ensures.found.1
    ∙ ap suc (length-append c.in-Some.first.name c.in-Some.first.rest.now) in omega (arith, len)

pub loop-first-preserved : goal.loop-first-preserved
loop-first-preserved c =
    one_more c.args.known.now.keys c.loop-first.known.keys c.place_in.new.known.keys c.args.text.now
    c.loop-first.rest.now c.in-Some.first.name c.in-Some.first.rest.now c.loop-first.path c.push.new.path
    c.in_ok-place.place c.loop-first.invariant (record {
      first = c.in-Some.ensures.read;
      is = c.in-Some.ensures.found.0;
      told = c.in-Some.ensures.found.1;
      added = c.in_ok-place.ensures.known;
      inside = c.in_ok-place.ensures.place.0;
      named = c.in_ok-place.ensures.place.1;
    }) (record { len = c.push.ensures.0; places = c.push.ensures.1 })
    (let short = c.loop-first.invariant.short in let other = c.if-path-eq-MOST_PARTS.false in omega arith)
    (let few = c.if-len-gt-MOST_NAMES.false in let len = c.len.ensures.len in omega (arith, few, len))

pub returns-then-path-gt0 : goal.returns-then-path-gt0
returns-then-path-gt0 c =
    all_read c.args.known.now.keys c.loop-first.known.keys c.args.text.now c.loop-first.rest.now
    c.loop-first.path c.loop-first.invariant (is_none c.loop-first.rest.now c.if-is_empty.ensures)
    c.if-path-gt0.true

pub returns-else-is_empty : goal.returns-else-is_empty
returns-else-is_empty c =
    not_ended c.args.known.now.keys c.loop-first.known.keys c.args.text.now c.loop-first.rest.now
    c.loop-first.path c.loop-first.invariant c.in_default.ensures.read
    (λ none some. elim c.else-is_empty.either [
      | inl e ↦ let zero = e.1 in omega (arith, zero, some)
      | inr e ↦
          let no : false ≡ true = sym e ∙ c.is_empty.ensures ∙ ap (λ (t : List ℕ). length t == 0) none in cc
    ])
