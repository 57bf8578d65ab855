use Rattle.std.proofs.Common.{◌-◌, length, take, drop, sym, ap, ◌∙◌}
use Rattle.hls_text.specs.Lines.{Text}
use Rattle.hls_view_table.specs.Tables.{cells_of, spread}
use Rattle.hls_view_table.proofs.Trims.{line_done}
use Rattle.hls_view_table.proofs.writing.put_line.Goals as goal

pub returns : goal.returns
returns c =
    line_done c.args.out.now.items (spread c.args.lanes.now (cells_of c.args.row.now)) c.put_cells.new.out.items _
    c.truncate.new.self.items c.put.new.out.items c.len-start.result c.trimmed_len.result
    (c.len-start.ensures ∙ c.args.out.now.ok.0)
    (rw (sym c.deref.ensures.value) c.in_ok-put_cells.ensures)
    (ap (λ (t : Text). take (length t - c.len-start.result) (drop c.len-start.result t)) c.deref-2.ensures.value)
    c.trimmed_len.ensures.is c.truncate.ensures.items c.in_ok-put.ensures
