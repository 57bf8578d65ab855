-- A tick is put behind the runs of those before it.
use Rattle.std.proofs.Common.{◌≡◌, ℕ, inl, inr, ◌⊎◌, List, [], ◌∷◌, ◌++◌, ap}
use Rattle.std.specs.Prelude.{Option, Some, None}
use Rattle.hls_text.specs.Lines.{Text}
use Rattle.hls_report_text.specs.declared.report.Path.{Path}
use Rattle.hls_report_text.specs.declared.report.Run.{Run}
use Rattle.hls_core_journal.specs.Ways.{names_by, last_names, IsLonger}
use Rattle.hls_core_journal.proofs.Lists.{HasLast, last_or_none}
use Rattle.hls_core_journal.proofs.Keeps.{last_names_is}

pub goes_on : (names : List Text) (now : ℕ) (path : Option Path) (old new : List Run)
    → last_names names old ≡ Some (names_by names path)
    → ((front : List Run) (run : Run) → old ≡ front ++ run ∷ [] → new ≡ front ++ (record run { to = now }) ∷ [])
    → IsLonger names now path old new
goes_on names now path old new last longer = by (last_or_none old)
  where
    by : (old ≡ []) ⊎ HasLast old → IsLonger names now path old new
    by (inl none) =
        let nothing : last_names names old ≡ None = ap (last_names names) none in absurd (cc)
    by (inr l) =
        let here = last_names_is names old l.front l.last l.is in
        inl (record {
          front = l.front;
          run = l.last;
          last = l.is;
          same = cc;
          longer = longer l.front l.last l.is;
        })
