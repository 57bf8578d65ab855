use Rattle.std.proofs.Common.{◌≡◌, ◌≤◌, [], length, Some, ap, arith, sym, ◌∙◌, true, false, eq-eqb}
use Rattle.std.proofs.lemmas.Bool.{eqb-true}
use Rattle.hls_derive.specs.declared.derivation.Derivation.{Derivation}
use Rattle.hls_derive.specs.Derivation.{conversions}
use Rattle.hls_derive.proofs.Parses.{made, parts_of, ReadTwo, then_sched, read_all, all_same, few_read}
use Rattle.hls_derive.proofs.Parses.{within_grammar, spelled_whole}
use Rattle.hls_derive.proofs.reading.read_derivation.Goals as goal

pub returns-in_default-clause-exact : goal.returns-in_default-clause-exact
returns-in_default-clause-exact c = λ d within is.
    let p = parts_of c.args.text.now d within is in absurd (c.in_default.ensures d.from p.steps p.from)

pub returns-in_default-sched_step-clause-exact : goal.returns-in_default-sched_step-clause-exact
returns-in_default-sched_step-clause-exact c = λ d within is.
    let text = c.args.text.now in
    let p = parts_of text d within is in
    let two : ReadTwo text c.in-Some.from c.in_ok-before.before.items c.in_ok-before.rest.now =
    record { steps = c.in-Some.rest.now; from = c.in-Some.ensures; before = c.in_ok-before.ensures } in
    absurd (c.in_default-sched_step.ensures d.sched p.last_steps
    (then_sched text c.in-Some.from c.in_ok-before.before.items c.in_ok-before.rest.now d two p))

pub returns-then-not-is_empty-clause-exact : goal.returns-then-not-is_empty-clause-exact
returns-then-not-is_empty-clause-exact c = λ d within is.
    let text = c.args.text.now in
    let g = c.in-Some.from in
    let xs = c.in_ok-before.before.items in
    let s = c.in-Some-sched_step.sched in
    let ys = c.in_ok-after.after.items in
    let rest = c.in_ok-after.rest.now in
    let read = read_all text g c.in-Some.rest.now xs c.in_ok-before.rest.now s c.in-Some-sched_step.rest.now
    ys rest c.in-Some.ensures c.in_ok-before.ensures c.in-Some-sched_step.ensures c.in_ok-after.ensures in
    let p = parts_of text d within is in
    let end : rest ≡ [] = (all_same text (made g xs s ys) rest d read p).1 in
    let none : length rest ≡ 0 = ap (λ l. length l) end in
    let full : false ≡ true = c.if-not-is_empty.ensures ∙ eq-eqb (length rest) 0 none in cc

pub returns-then-len-gt-MOST_CONVERSIONS-clause-exact : goal.returns-then-len-gt-MOST_CONVERSIONS-clause-exact
returns-then-len-gt-MOST_CONVERSIONS-clause-exact c = λ d within is.
    let text = c.args.text.now in
    let g = c.in-Some.from in
    let xs = c.in_ok-before.before.items in
    let s = c.in-Some-sched_step.sched in
    let ys = c.in_ok-after.after.items in
    let rest = c.in_ok-after.rest.now in
    let read = read_all text g c.in-Some.rest.now xs c.in_ok-before.rest.now s c.in-Some-sched_step.rest.now
    ys rest c.in-Some.ensures c.in_ok-before.ensures c.in-Some-sched_step.ensures c.in_ok-after.ensures in
    let p = parts_of text d within is in
    let few = few_read text (made g xs s ys) rest d read p within.depth in
    absurd (omega (arith, few, c.len.ensures, c.len-2.ensures))

pub returns-clause-found : goal.returns-clause-found
returns-clause-found c =
    let text = c.args.text.now in
    let g = c.in-Some.from in
    let xs = c.in_ok-before.before.items in
    let s = c.in-Some-sched_step.sched in
    let ys = c.in_ok-after.after.items in
    let rest = c.in_ok-after.rest.now in
    let read = read_all text g c.in-Some.rest.now xs c.in_ok-before.rest.now s c.in-Some-sched_step.rest.now
    ys rest c.in-Some.ensures c.in_ok-before.ensures c.in-Some-sched_step.ensures c.in_ok-after.ensures in
    let few : conversions (made g xs s ys) ≤ 6 =
    omega (arith, c.len.ensures, c.len-2.ensures) in
    let none : length rest ≡ 0 = eqb-true (length rest) 0 (sym c.if-not-is_empty.ensures) in
    rw (c.of.ensures, c.of-2.ensures) (
      within_grammar text (made g xs s ys) rest read few,
      spelled_whole text (made g xs s ys) rest read none,
    )

pub returns-clause-exact : goal.returns-clause-exact
returns-clause-exact c = λ d within is.
    let text = c.args.text.now in
    let g = c.in-Some.from in
    let xs = c.in_ok-before.before.items in
    let s = c.in-Some-sched_step.sched in
    let ys = c.in_ok-after.after.items in
    let rest = c.in_ok-after.rest.now in
    let read = read_all text g c.in-Some.rest.now xs c.in_ok-before.rest.now s c.in-Some-sched_step.rest.now
    ys rest c.in-Some.ensures c.in_ok-before.ensures c.in-Some-sched_step.ensures c.in_ok-after.ensures in
    let p = parts_of text d within is in
    let same : made g xs s ys ≡ d = (all_same text (made g xs s ys) rest d read p).0 in
    rw (c.of.ensures, c.of-2.ensures) (ap (λ (e : Derivation). Some e) same)
