use Rattle.std.proofs.Common.{◌∙◌, sym, ap, subst, map, List}
use Rattle.std.specs.List.{AllByRecursion}
use Rattle.hls_legal.specs.Dues.{Due}
use Rattle.hls_audit.specs.declared.dues.Due as dues
use Rattle.hls_audit.specs.Inside.Fits.{IsFitDue}
use Rattle.hls_audit.specs.Inside.Told.{told}
use Rattle.hls_audit.proofs.FitLaws.{dues_fit}
use Rattle.hls_audit.proofs.tree.Tree.is_underived.Goals as goal

pub are_settled-requires-clause-dues : goal.are_settled-requires-clause-dues
are_settled-requires-clause-dues c =
    let is = ap (λ (ds : List dues.Due). map told ds) c.deref.ensures.value ∙ c.in_ok-dues.ensures in
    subst (λ (ds : List Due). AllByRecursion IsFitDue ds) (sym is)
    (dues_fit c.args.self.now.members.items c.args.command.now c.requires.fit c.requires.command c.requires.placed)
