use Rattle.std.proofs.Common.{◌≡◌, ◌⊎◌, List, ◌∙◌, sym, subst}
use Rattle.std.specs.Prelude.{Contains, Some, IfSome}
use Rattle.hls_guarantee.specs.declared.Guarantee.{Guarantee}
use Rattle.hls_offer_lines.specs.Lines.{AreApart, AreInOrder, Covers, IsCovered}
use Rattle.hls_offer_lines.specs.Inside.Listing.{IsValidShare}
use Rattle.hls_offer_lines.proofs.Placing.{when-false}
use Rattle.hls_offer_lines.proofs.Coverings.{with-from, with-kept, with-itself, with-apart, with-order}
use Rattle.hls_offer_lines.proofs.shares.with_share.Goals as goal

pub returns-clause-from : goal.returns-clause-from
returns-clause-from c = λ g has.
    let kept = c.in_ok-more.more.items in
    let share = c.in-Some.share in
    let from =
    subst (λ (v : List Guarantee). (h : Guarantee) → Contains kept h → Contains v h × (Covers share h → ⊥))
    c.deref-2.ensures.value c.in_ok-more.ensures.from in
    subst (λ v. Contains c.args.tops.items g ⊎ (v ≡ Some g)) (sym c.in-Some.is)
    (with-from c.args.tops.items kept c.push.new.self.items share g c.in_ok-push.ensures.items from has)

pub returns-clause-kept : goal.returns-clause-kept
returns-clause-kept c = λ g good by.
    let kept = c.in_ok-more.more.items in
    let share = c.in-Some.share in
    let each =
    subst (λ (v : List Guarantee). (h : Guarantee) → Contains v h → Contains kept h ⊎ Covers share h)
    c.deref-2.ensures.value c.in_ok-more.ensures.each in
    let ok = subst (λ v. IfSome v (λ h. IsValidShare h)) c.in-Some.is c.requires.share in
    with-kept c.args.tops.items kept c.push.new.self.items share g c.in_ok-push.ensures.items c.requires.tops ok good
    each by

pub returns-clause-itself : goal.returns-clause-itself
returns-clause-itself c = λ g is.
    let ok = subst (λ v. IfSome v (λ h. IsValidShare h)) c.in-Some.is c.requires.share in
    with-itself c.in_ok-more.more.items c.push.new.self.items c.in-Some.share g c.in_ok-push.ensures.items ok
    (sym c.in-Some.is ∙ is)

pub returns-clause-apart : goal.returns-clause-apart
returns-clause-apart c = λ whole.
    let kept = c.in_ok-more.more.items in
    let share = c.in-Some.share in
    let from =
    subst (λ (v : List Guarantee). (h : Guarantee) → Contains kept h → Contains v h × (Covers share h → ⊥))
    c.deref-2.ensures.value c.in_ok-more.ensures.from in
    let apart =
    subst (λ (v : List Guarantee). AreApart v → AreApart kept) c.deref-2.ensures.value c.in_ok-more.ensures.apart in
    with-apart c.args.tops.items kept c.push.new.self.items share c.in_ok-push.ensures.items from
    (λ by. when-false _ c.is_covered.result c.if-is_covered.false c.is_covered.ensures
    (subst (λ (v : List Guarantee). IsCovered v share) (sym c.deref.ensures.value) by)) (apart whole)

pub returns-clause-order : goal.returns-clause-order
returns-clause-order c = λ seat order ahead.
    let kept = c.in_ok-more.more.items in
    let share = c.in-Some.share in
    let from =
    subst (λ (v : List Guarantee). (h : Guarantee) → Contains kept h → Contains v h × (Covers share h → ⊥))
    c.deref-2.ensures.value c.in_ok-more.ensures.from in
    let left =
    subst (λ (v : List Guarantee). AreInOrder seat v → AreInOrder seat kept) c.deref-2.ensures.value
    (c.in_ok-more.ensures.order seat) order in
    with-order seat c.args.tops.items kept c.push.new.self.items share c.in_ok-push.ensures.items from left
    (λ g has. ahead g share has c.in-Some.is
    (λ by. when-false _ c.is_covered.result c.if-is_covered.false c.is_covered.ensures
    (subst (λ (v : List Guarantee). IsCovered v share) (sym c.deref.ensures.value) by)))
