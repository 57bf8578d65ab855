-- When accounts are the same.
use Rattle.std.proofs.Common.{◌≡◌, ℕ, refl, sym, ap, ◌∙◌, subst}
use Rattle.std.specs.Prelude.{Decides, Bool, true, false, ◌&&◌, ◌==◌}
use Rattle.std.specs.Str.{bytes_eq}
use Rattle.std.proofs.lemmas.Bool.{eq-eqb, eqb-true}
use Rattle.std.proofs.lemmas.Slice.Eq.{bytes_eq-Decides}
use Rattle.hls_report_text.specs.declared.report.Account.{Account}
use Rattle.hls_audit_threads.proofs.Counted.{account_by}

abbrev pub same_ticks : Account → Account → Bool
same_ticks a b = a.from == b.from && (a.to == b.to && (a.ready == b.ready && a.served == b.served))

tests_both : (a b : Bool) → (a && b) ≡ true → (a ≡ true) × (b ≡ true)
tests_both true b e = (refl, e)
tests_both false b e = absurd (let wrong : false ≡ true = e in cc)

ticks_same : (a b : Account) → same_ticks a b ≡ true
    → (a.from ≡ b.from) × (a.to ≡ b.to) × (a.ready ≡ b.ready) × (a.served ≡ b.served)
ticks_same a b e =
    let one = tests_both (a.from == b.from) (a.to == b.to && (a.ready == b.ready && a.served == b.served)) e in
    let two = tests_both (a.to == b.to) (a.ready == b.ready && a.served == b.served) one.1 in
    let three = tests_both (a.ready == b.ready) (a.served == b.served) two.1 in (
      eqb-true a.from b.from one.0,
      eqb-true a.to b.to two.0,
      eqb-true a.ready b.ready three.0,
      eqb-true a.served b.served three.1,
    )

ticks_self : (f t r v : ℕ) → (f == f && (t == t && (r == r && v == v))) ≡ true
ticks_self f t r v =
    ap (λ (b : Bool). b && (t == t && (r == r && v == v))) (eq-eqb f f refl)
    ∙ ap (λ (b : Bool). b && (r == r && v == v)) (eq-eqb t t refl)
    ∙ ap (λ (b : Bool). b && v == v) (eq-eqb r r refl) ∙ eq-eqb v v refl

pub by_ticks : (a b : Account) (r : Bool) → bytes_eq a.name b.name ≡ true → a.kept ≡ b.kept
    → r ≡ same_ticks a b → Decides r (a ≡ b)
by_ticks a b r named kept is = (
  λ on.
      let ticks = ticks_same a b (sym is ∙ on) in
      account_by a.name b.name a.from b.from a.to b.to a.kept b.kept a.ready b.ready a.served b.served
      ((bytes_eq-Decides a.name b.name).0 named) ticks.0 ticks.1 kept ticks.2 ticks.3,
  λ e. is ∙ subst (λ (x : Account). same_ticks a x ≡ true) e (ticks_self a.from a.to a.ready a.served),
)
