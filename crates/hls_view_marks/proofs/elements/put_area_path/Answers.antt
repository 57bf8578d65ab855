use Rattle.std.proofs.Common.{◌≡◌, ◌++◌, append_assoc}
use Rattle.std.specs.Prelude.{codes}
use Rattle.std.proofs.lemmas.Result.{IfOk-equal}
use Rattle.hls_text.specs.Lines.{Text}
use Rattle.hls_view_marks.specs.Elements.{path_of}
use Rattle.hls_view_marks.proofs.elements.put_area_path.Goals as goal

around : (out class area : Text)
    → ((out ++ (codes "<path class=\"" ++ (class ++ codes "\" d=\""))) ++ area) ++ codes "\"/>\n"
    ≡ out ++ path_of class area
unfolding path_of
around out class area = simp append_assoc

pub returns : goal.returns
returns c =
    IfOk-equal _ _ _ _ c.put_pieces-2.ensures
    (rw (c.in_ok-put_area.ensures, c.in_ok-put_pieces.ensures) (around c.args.out.now.items c.args.class.now _))
