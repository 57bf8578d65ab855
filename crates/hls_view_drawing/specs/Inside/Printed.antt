-- What is printed at a row, by the last label of its way.
use Rattle.std.specs.Prelude.{◌≡◌, Option}
use Rattle.hls_view_tale.specs.declared.label.Label.{Label}
use Rattle.hls_view_drawing.specs.declared.rows.Printed.{Printed}
use Rattle.hls_view_drawing.specs.Rows.{class_at, name_at, config_at, terms_at, guarantee_at}

pub record IsPrinted (label : Option Label) (p : Printed) : Type 0 where
  pub class : p.class ≡ class_at label
  pub name : p.name.items ≡ name_at label
  pub config : p.config.items ≡ config_at label
  pub terms : p.terms.items ≡ terms_at label
  pub guarantee : p.guarantee.items ≡ guarantee_at label
