use Rattle.std.proofs.Common.{◌≡◌, List, [], ◌∷◌, ◌++◌, ap, ◌∙◌, append_assoc}
use Rattle.hls_text.specs.Lines.{Text}
use Rattle.hls_view_table.specs.Tables.{cells_of}
use Rattle.hls_view_rows.proofs.jobs.push_dropped.Goals as goal

three : (a b c d : List Text) (x y z u v w : Text) → b ≡ a ++ x ∷ [] → c ≡ b ++ y ∷ [] → d ≡ c ++ z ∷ [] → x ≡ u
    → y ≡ v → z ≡ w → d ≡ a ++ (u ∷ v ∷ w ∷ [])
three a b c d x y z u v w first second third xu yv zw =
    third ∙ ap (λ (l : List Text). l ++ z ∷ []) (second ∙ ap (λ (l : List Text). l ++ y ∷ []) first)
    ∙ rw (xu, yv, zw) (simp append_assoc)

pub returns : goal.returns
returns c =
    three (cells_of c.args.row.now) (cells_of c.push.new.self) (cells_of c.push-2.new.self) (cells_of c.push-3.new.self)
    _ _ _ _ _ _ c.in_ok-push.ensures c.in_ok-push-2.ensures c.in_ok-push-3.ensures c.in_ok-dropped_cell.ensures
    c.in_ok-number_cell.ensures c.in_ok-word_cell.ensures
