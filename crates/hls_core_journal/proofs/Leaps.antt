-- Ticks with one path, one after the other.
use Rattle.std.proofs.Common.{◌≡◌, ℕ, zero, suc, inl, inr, ◌+◌, ◌-◌, ◌<◌, List, [], ◌∷◌, ◌++◌, refl, sym, ap, ◌∙◌}
use Rattle.std.proofs.Common.{arith, subst}
use Rattle.std.specs.Prelude.{Option}
use Rattle.hls_text.specs.Lines.{Text}
use Rattle.hls_report_text.specs.declared.report.Path.{Path}
use Rattle.hls_report_text.specs.declared.report.Run.{Run}
use Rattle.hls_core_journal.specs.declared.journal.Journal.{Journal}
use Rattle.hls_core_journal.specs.Kept.{AreTicked}
use Rattle.hls_core_journal.specs.Ways.{names_by, IsLonger}

-- the last run has the path, and lasts up to a tick
record Lasts (names : List Text) (now : ℕ) (path : Option Path) (runs : List Run) : Type 0 where
  front : List Run
  run : Run
  last : runs ≡ front ++ (record run { to = now }) ∷ []
  same : names_by names run.path ≡ names_by names path

lasts : (names : List Text) (now : ℕ) (path : Option Path) (old new : List Run) → IsLonger names now path old new
    → Lasts names now path new
lasts names now path old new (inl on) = record {
  front = on.front;
  run = on.run;
  last = on.longer;
  same = on.same;
}
lasts names now path old new (inr begins) = record {
  front = old;
  run = record { from = now; to = now; path = path };
  last = begins.longer;
  same = refl;
}

module _ (path : Option Path) (old : Journal) (runs : List Run)
    (first : IsLonger old.names.keys old.ticks path old.runs.items runs) where
  abbrev l : Lasts old.names.keys old.ticks path runs
  l = lasts old.names.keys old.ticks path old.runs.items runs first

  -- the journal after one tick and so many more
  abbrev after : ℕ → Journal
  after more = record old {
    ticks = old.ticks + suc more;
    runs = record old.runs { items = l.front ++ (record l.run { to = old.ticks + more }) ∷ [] };
  }

  ticked_so : (more : ℕ) → AreTicked (suc more) path old (after more)
  ticked_so zero = (
    old,
    refl,
    record {
      runs = (let at : old.ticks + 0 ≡ old.ticks = omega arith in rw (at) (subst (IsLonger old.names.keys old.ticks path
          old.runs.items) l.last first));
      answers = refl;
      names = refl;
      ticks = refl;
      room = refl;
    },
  )
  ticked_so (suc more) = (
    after more,
    ticked_so more,
    record {
      runs = inl (record {
        front = l.front;
        run = record l.run { to = old.ticks + more };
        last = refl;
        same = l.same;
        longer = refl;
      });
      answers = refl;
      names = refl;
      ticks = (let sum : old.ticks + suc (suc more) ≡ old.ticks + suc more + 1 = omega arith in sum);
      room = refl;
    },
  )

  module _ (new : Journal) (answers : new.answers ≡ old.answers) (names : new.names ≡ old.names)
      (capacity : new.runs.capacity ≡ old.runs.capacity) where
    at_last : (more : ℕ) → new.runs.items ≡ l.front ++ (record l.run { to = old.ticks + more }) ∷ []
        → new.ticks ≡ old.ticks + suc more → AreTicked (suc more) path old new
    at_last zero items ticks = (
      old,
      refl,
      record {
        runs = subst (IsLonger old.names.keys old.ticks path old.runs.items)
            (l.last ∙ (let at : old.ticks ≡ old.ticks + 0 = omega arith in
            ap (λ n. l.front ++ (record l.run { to = n }) ∷ []) at) ∙ sym items) first;
        answers = answers;
        names = names;
        ticks = ticks;
        room = capacity;
      },
    )
    at_last (suc more) items ticks = (
      after more,
      ticked_so more,
      record {
        runs = inl (record {
          front = l.front;
          run = record l.run { to = old.ticks + more };
          last = refl;
          same = l.same;
          longer = items;
        });
        answers = answers;
        names = names;
        ticks = (let sum : old.ticks + suc (suc more) ≡ old.ticks + suc more + 1 = omega arith in ticks ∙ sum);
        room = capacity;
      },
    )

    pub leapt : (ticks : ℕ) → 0 < ticks
        → ((front : List Run) (run : Run) → runs ≡ front ++ run ∷ []
        → new.runs.items ≡ front ++ (record run { to = old.ticks + (ticks - 1) }) ∷ [])
        → new.ticks ≡ old.ticks + ticks → AreTicked ticks path old new
    leapt zero some items ticks = absurd (omega (arith, some))
    leapt (suc more) some items ticks =
        let less : suc more - 1 ≡ more = omega arith in
        at_last more
        (items l.front (record l.run { to = old.ticks }) l.last
        ∙ ap (λ n. l.front ++ (record l.run { to = old.ticks + n }) ∷ []) less) ticks
