use Rattle.std.proofs.Common.{◌≢◌, ℕ, ◌<◌, Option, IfSome, sym, ap, ◌∙◌, subst}
use Rattle.std.proofs.lemmas.Bool.{eqb-false}
use Rattle.hls_chron.specs.Seats.{is_slot}
use Rattle.hls_edf.proofs.Bits.{kept_bit}
use Rattle.hls_edf.proofs.choosing.without.Goals as goal

pub returns-in-Some : goal.returns-in-Some
returns-in-Some c = λ other lt off miss.
    let slot : ℕ = c.in-Some.slot in
    let within : slot < 32 = subst (λ (at : Option ℕ). IfSome at (λ k. k < 32)) c.in-Some.is c.requires in
    let apart : other ≢ slot = λ e. eqb-false slot other (sym (ap (λ (at : Option ℕ). is_slot at other) c.in-Some.is)
    ∙ miss) (sym e) in
    sym (kept_bit c.args.slots slot other within lt apart) ∙ rw c.bit.ensures at off
