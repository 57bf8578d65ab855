use Rattle.std.proofs.Common.{◌≡◌, ◌∙◌, [], ap, filter, rules, refl}
use Rattle.std.specs.Prelude.{Bool, not}
use Rattle.std.specs.Str.{bytes_eq}
use Rattle.std.proofs.lemmas.Fn.{filter_same}
use Rattle.hls_text.specs.Lines.{Text}
use Rattle.hls_audit_stays.proofs.CarryLaws.{carried_end, closed_by}
use Rattle.hls_audit_stays.proofs.carrying.Carried.end.Goals as goal

pub close-requires : goal.close-requires
close-requires c = c.in_ok-settle.ensures.open_at c.requires.carried.open_at

pub returns : goal.returns
returns c =
    let settles = c.in_ok-settle.ensures in
    let closes = c.in_ok-close.ensures in
    let goes_on : Text → Bool = λ thread. not (bytes_eq c.args.name.now thread) in
    let left : c.retain.new.self.items ≡ filter goes_on c.close.new.self.threads.items =
    filter_same _ goes_on _ (λ x b f' k. search rules) c.close.new.self.threads.items c.retain.new.self.items
    c.retain.ensures.filtered in
    carried_end c.args.self.now c.close.new.self _ c.args.answered.now c.args.place c.args.a.now c.args.name.now
    c.requires.there c.requires.done c.requires.command
    (closed_by c.args.self.now c.settle.new.self c.close.new.self c.args.answered.now [] c.args.name.now
    c.args.a.now.tick settles closes) refl refl refl refl
    (left ∙ ap (λ v. filter goes_on v.items) (closes.threads ∙ settles.threads)) (closes.seats ∙ settles.seats)
    c.requires.carried
