use Rattle.std.proofs.Common.{◌∙◌, ◌++◌, ap, filter, rules}
use Rattle.std.proofs.lemmas.Fn.{filter_same}
use Rattle.hls_audit_stays.specs.Found.{has_lasted}
use Rattle.hls_audit_stays.proofs.carrying.Carried.settled.Goals as goal

pub returns : goal.returns
returns c =
    filter_same _ has_lasted _ (λ x b f' k. search rules) c.append.new.stays.items c.retain.new.self.items
    c.retain.ensures.filtered
    ∙ ap (filter has_lasted) (c.in_ok-append.ensures ∙ ap (λ l. c.args.self.stays.items ++ l) c.deref.ensures.value)
