use Rattle.std.proofs.Common.{◌≡◌, ℕ, ◌+◌, ◌-◌, ◌*◌, ◌≤◌, Bool, true, subst, arith, ap, ◌∙◌}
use Rattle.std.specs.Prelude.{IsTrue, ◌↔◌}
use Rattle.hls_chron.specs.Parts.{all_parts, parts}
use Rattle.hls_chron.specs.Ticks.{one_if}
use Rattle.hls_guarantee.specs.declared.Guarantee.{Guarantee}
use Rattle.hls_guarantee.specs.declared.Guarantee.TheVariants.{Resb}
use Rattle.hls_audit_watch.specs.Inside.Carried.{IsCapCarried}
use Rattle.hls_audit_watch.proofs.Carrying.{hard_blocks, hard_blocks_carried, hard_windows}
use Rattle.hls_audit_watch.proofs.capping.stays_capped.Goals as goal

pub most_excess-requires : goal.most_excess-requires
most_excess-requires c =
    let valid = rw c.in-Resb-true-default-default.is at c.requires.valid in
    omega (arith, valid.fits, valid.size)

pub stays_within-requires-clause-small : goal.stays_within-requires-clause-small
stays_within-requires-clause-small c =
    let h = c.in-Resb-true-default-default in
    let hard : h.hard ≡ true = cc in
    let known : c.args.g.now ≡ Resb true h.x h.y = h.is ∙ ap (λ (b : Bool). Resb b h.x h.y) hard in
    let kept : IsCapCarried (Resb true h.x h.y) c.args.excess.now.had c.args.recent.now.list =
    subst (λ (g : Guarantee). IsCapCarried g c.args.excess.now.had c.args.recent.now.list) known c.requires.carried in
    let small = kept.small in
    omega (arith, small, c.most_excess.ensures.most)

pub returns-in-Resb-true-default-default-clause-capped :
    goal.returns-in-Resb-true-default-default-clause-capped
returns-in-Resb-true-default-default-clause-capped c =
    let h = c.in-Resb-true-default-default in
    let hard : h.hard ≡ true = cc in
    let rate = rw h.is at c.requires.rate in
    let sum : c.stays_within.new.self.had ≡ c.args.excess.now.had + all_parts * one_if c.args.served - parts h.x h.y =
    c.stays_within.ensures.had
    ∙ ap (λ (r : ℕ). c.args.excess.now.had + all_parts * one_if c.args.served - r) rate in
    let within : IsTrue c.stays_within.result ↔ (c.stays_within.new.self.had ≤ 2 * h.x * all_parts) =
    subst (λ (m : ℕ). IsTrue c.stays_within.result ↔ (c.stays_within.new.self.had ≤ m)) c.most_excess.ensures.most
    c.stays_within.ensures.within in
    hard_blocks c.args.g.now h.hard h.x h.y c.args.excess.now.had c.stays_within.new.self.had c.args.recent.now.list
    c.args.served c.stays_within.result h.is hard sum within c.requires.carried

pub returns-in-Resb-true-default-default-clause-carried :
    goal.returns-in-Resb-true-default-default-clause-carried
returns-in-Resb-true-default-default-clause-carried c =
    let h = c.in-Resb-true-default-default in
    let hard : h.hard ≡ true = cc in
    let rate = rw h.is at c.requires.rate in
    let sum : c.stays_within.new.self.had ≡ c.args.excess.now.had + all_parts * one_if c.args.served - parts h.x h.y =
    c.stays_within.ensures.had
    ∙ ap (λ (r : ℕ). c.args.excess.now.had + all_parts * one_if c.args.served - r) rate in
    let within : IsTrue c.stays_within.result ↔ (c.stays_within.new.self.had ≤ 2 * h.x * all_parts) =
    subst (λ (m : ℕ). IsTrue c.stays_within.result ↔ (c.stays_within.new.self.had ≤ m)) c.most_excess.ensures.most
    c.stays_within.ensures.within in
    hard_blocks_carried c.args.g.now h.hard h.x h.y c.args.excess.now.had c.stays_within.new.self.had
    c.args.recent.now.list c.args.served c.stays_within.result h.is hard sum within c.requires.carried

pub returns-in-Resc-true-default-default-clause-capped :
    goal.returns-in-Resc-true-default-default-clause-capped
returns-in-Resc-true-default-default-clause-capped c =
    let h = c.in-Resc-true-default-default in
    let hard : h.hard ≡ true = cc in
    hard_windows c.args.g.now h.hard h.x h.y c.last_window.result.got c.args.recent.now.list
    c.args.served h.is hard c.last_window.ensures.got c.requires.capped
