use Rattle.std.proofs.Common.{◌≡◌, true, false, arith, sym, ◌∙◌, ap, inl, inr}
use Rattle.std.specs.Prelude.{◌==◌, decimal}
use Rattle.std.specs.List.{list_any}
use Rattle.hls_guarantee.proofs.Spellings.{cases_whole, text_of_whole, text_of_ratio}
use Rattle.hls_text.proofs.Marks.{decimal-lacks}
use Rattle.hls_guarantee.proofs.Spellings.{has_mark, fits_num}
use Rattle.hls_guarantee.proofs.reading.fraction.Goals as goal

pub returns-in-Some-clause-exact : goal.returns-in-Some-clause-exact
returns-in-Some-clause-exact c = λ f within is. elim (cases_whole f) [
  | inl one ↦
      let has = has_mark 47 c.in-Some.num.now c.in-Some.den.now in
      let same = sym c.in-Some.ensures.found ∙ is ∙ text_of_whole f one in
      let lacks = decimal-lacks 47 f.num (omega arith) (fits_num f within) in
      absurd (let e : true ≡ false = sym has ∙ ap (list_any (λ b. b == 47)) same ∙ lacks in cc)
  | inr more ↦
      let lacks = decimal-lacks 47 f.num (omega arith) (fits_num f within) in
      let parts = c.in-Some.ensures.first (decimal f.num) (decimal f.den) (is ∙ text_of_ratio f more) lacks in
      c.ratio.ensures.exact f within parts.0 parts.1 more
]

pub returns-in-None-clause-exact : goal.returns-in-None-clause-exact
returns-in-None-clause-exact c = λ f within is. elim (cases_whole f) [
  | inl one ↦ c.whole.ensures.exact f within (is ∙ text_of_whole f one) one
  | inr more ↦
      let lacks = decimal-lacks 47 f.num (omega arith) (fits_num f within) in
      absurd (c.in-None.ensures.first (decimal f.num) (decimal f.den) (is ∙ text_of_ratio f more) lacks)
]
