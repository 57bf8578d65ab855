-- Rows in little room.
use Rattle.std.proofs.Common.{◌≡◌, ℕ, ◌+◌, ◌≤◌, List, [], ◌∷◌, ◌++◌, length, refl, sym, ap, ◌∙◌}
use Rattle.std.proofs.Common.{arith, append-nil, append_assoc}
use Rattle.std.specs.Prelude.{Option, Some, None, option_to_list}
use Rattle.std.proofs.lemmas.List.{length-append}
use Rattle.hls_core_journal.specs.declared.kept_rows.Held.{Held}
use Rattle.hls_core_journal.specs.declared.kept_rows.Held.TheVariants.{Long, One, Two}
use Rattle.hls_core_journal.specs.declared.kept_rows.Row.{Row}
use Rattle.hls_core_journal.specs.declared.kept_rows.Short.{Short}
use Rattle.hls_core_journal.specs.Inside.Shorts.{held, rows_held, end_held, longs_behind, long_count}
use Rattle.hls_core_journal.specs.Inside.Shorts.{rows_by, end_by, longs_by, rows_closed, IsPut}

-- ---- what one of them holds

-- long rows behind those that are wanted change nothing
record Alike (holds : Held) (longs more : List Row) (count : ℕ) : Type 0 where
  pub rows : rows_held holds (longs ++ more) ≡ rows_held holds longs
  pub ends : end_held holds (longs ++ more) ≡ end_held holds longs
  pub rest : longs_behind holds (longs ++ more) ≡ longs_behind holds longs ++ more
  pub fewer : count ≡ length (longs_behind holds longs)

alike : (holds : Held) (longs more : List Row) (count : ℕ)
    → long_count holds + count ≡ length longs → Alike holds longs more count
alike Long [] more count e = absurd (omega (arith, e))
alike Long (long ∷ longs) more count e = record { rows = refl; ends = refl; rest = refl; fewer = omega (arith, e) }
alike (One row) longs more count e = record { rows = refl; ends = refl; rest = refl; fewer = omega (arith, e) }
alike (Two row next) longs more count e = record { rows = refl; ends = refl; rest = refl; fewer = omega (arith, e) }

-- it is a row at least, and a long one at most
record IsFew (holds : Held) (longs : List Row) : Type 0 where
  pub some : 1 ≤ length (rows_held holds longs)
  pub one : long_count holds ≤ 1

few : (holds : Held) (longs : List Row) → IsFew holds longs
few Long longs = record { some = omega arith; one = omega arith }
few (One row) longs = record { some = omega arith; one = omega arith }
few (Two row next) longs = record { some = omega arith; one = omega arith }

-- ---- one more

rows_put : (before : ℕ) (shorts : List Short) (longs more : List Row) (short : Short)
    → longs_by before shorts longs ≡ length longs
    → rows_by before (shorts ++ short ∷ []) (longs ++ more)
    ≡ rows_by before shorts longs ++ rows_held (held (end_by before shorts longs) short) more
rows_put before [] [] more short e = append-nil (rows_held (held before short) more)
rows_put before [] (long ∷ longs) more short e = absurd (omega (arith, e))
rows_put before (s ∷ shorts) longs more short e =
    let holds = held before s in
    let end = end_held holds longs in
    let rest = longs_behind holds longs in
    let same = alike holds longs more (longs_by end shorts rest) e in
    let new = shorts ++ short ∷ [] in
    ap (λ (rows : List Row). rows ++ rows_by (end_held holds (longs ++ more)) new (longs_behind holds (longs ++ more)))
    same.rows
    ∙ ap (λ at. rows_held holds longs ++ rows_by at new (longs_behind holds (longs ++ more))) same.ends
    ∙ ap (λ (ls : List Row). rows_held holds longs ++ rows_by end new ls) same.rest
    ∙ ap (λ (rows : List Row). rows_held holds longs ++ rows) (rows_put end shorts rest more short same.fewer)
    ∙ sym (append_assoc (rows_held holds longs) (rows_by end shorts rest)
    (rows_held (held (end_by end shorts rest) short) more))

end_put : (before : ℕ) (shorts : List Short) (longs more : List Row) (short : Short)
    → longs_by before shorts longs ≡ length longs
    → end_by before (shorts ++ short ∷ []) (longs ++ more)
    ≡ end_held (held (end_by before shorts longs) short) more
end_put before [] [] more short e = refl
end_put before [] (long ∷ longs) more short e = absurd (omega (arith, e))
end_put before (s ∷ shorts) longs more short e =
    let holds = held before s in
    let end = end_held holds longs in
    let rest = longs_behind holds longs in
    let same = alike holds longs more (longs_by end shorts rest) e in
    let new = shorts ++ short ∷ [] in
    ap (λ at. end_by at new (longs_behind holds (longs ++ more))) same.ends
    ∙ ap (λ (ls : List Row). end_by end new ls) same.rest
    ∙ end_put end shorts rest more short same.fewer

count_put : (before : ℕ) (shorts : List Short) (longs more : List Row) (short : Short)
    → longs_by before shorts longs ≡ length longs
    → longs_by before (shorts ++ short ∷ []) (longs ++ more)
    ≡ longs_by before shorts longs + long_count (held (end_by before shorts longs) short)
count_put before [] [] more short e = omega arith
count_put before [] (long ∷ longs) more short e = absurd (omega (arith, e))
count_put before (s ∷ shorts) longs more short e =
    let holds = held before s in
    let end = end_held holds longs in
    let rest = longs_behind holds longs in
    let same = alike holds longs more (longs_by end shorts rest) e in
    let new = shorts ++ short ∷ [] in
    let one = ap (λ at. longs_by at new (longs_behind holds (longs ++ more))) same.ends in
    let two = ap (λ (ls : List Row). longs_by end new ls) same.rest in
    let three = count_put end shorts rest more short same.fewer in
    omega (arith, one, two, three)

length_rows : (before : ℕ) (shorts : List Short) (longs : List Row)
    → length shorts ≤ length (rows_by before shorts longs)
length_rows before [] longs = omega arith
length_rows before (s ∷ shorts) longs =
    let holds = held before s in
    let end = end_held holds longs in
    let rest = longs_behind holds longs in
    let some = (few holds longs).some in
    let both = length-append (rows_held holds longs) (rows_by end shorts rest) in
    let e = length_rows end shorts rest in omega (arith, some, both, e)

few_longs : (before : ℕ) (shorts : List Short) (longs : List Row) → longs_by before shorts longs ≤ length shorts
few_longs before [] longs = omega arith
few_longs before (s ∷ shorts) longs =
    let holds = held before s in
    let one = (few holds longs).one in
    let e = few_longs (end_held holds longs) shorts (longs_behind holds longs) in omega (arith, one, e)

-- ---- what is kept

pub shorts_fewer : (before : ℕ) (shorts : List Short) (longs : List Row) (waiting : Option Row)
    → length shorts ≤ length (rows_closed before shorts longs waiting)
shorts_fewer before shorts longs waiting =
    let fewer = length_rows before shorts longs in
    let all = length-append (rows_by before shorts longs) (option_to_list waiting) in omega (arith, fewer, all)

pub longs_fewer : (before : ℕ) (shorts : List Short) (longs : List Row) (waiting : Option Row)
    → longs_by before shorts longs ≡ length longs → length longs ≤ length (rows_closed before shorts longs waiting)
longs_fewer before shorts longs waiting counted =
    let fewer = few_longs before shorts longs in
    let more = shorts_fewer before shorts longs waiting in omega (arith, fewer, more, counted)

pub put_rows : (start before : ℕ) (rows : List Row) (end : ℕ) (shorts new : List Short) (longs longs_new : List Row)
    → longs_by start shorts longs ≡ length longs → before ≡ end_by start shorts longs
    → IsPut before rows end shorts longs new longs_new
    → rows_by start new longs_new ≡ rows_by start shorts longs ++ rows
put_rows start before rows end shorts new longs longs_new counted behind put =
    ap (λ (ss : List Short). rows_by start ss longs_new) put.shorts_are
    ∙ ap (λ (ls : List Row). rows_by start (shorts ++ put.short ∷ []) ls) put.longs_are
    ∙ rows_put start shorts longs put.more put.short counted
    ∙ ap (λ at. rows_by start shorts longs ++ rows_held (held at put.short) put.more) (sym behind)
    ∙ ap (λ (rs : List Row). rows_by start shorts longs ++ rs) put.stand

pub put_end : (start before : ℕ) (rows : List Row) (end : ℕ) (shorts new : List Short) (longs longs_new : List Row)
    → longs_by start shorts longs ≡ length longs → before ≡ end_by start shorts longs
    → IsPut before rows end shorts longs new longs_new → end ≡ end_by start new longs_new
put_end start before rows end shorts new longs longs_new counted behind put =
    sym (ap (λ (ss : List Short). end_by start ss longs_new) put.shorts_are
    ∙ ap (λ (ls : List Row). end_by start (shorts ++ put.short ∷ []) ls) put.longs_are
    ∙ end_put start shorts longs put.more put.short counted
    ∙ ap (λ at. end_held (held at put.short) put.more) (sym behind)
    ∙ put.ends)

pub put_count : (start before : ℕ) (rows : List Row) (end : ℕ) (shorts new : List Short) (longs longs_new : List Row)
    → longs_by start shorts longs ≡ length longs → before ≡ end_by start shorts longs
    → IsPut before rows end shorts longs new longs_new → longs_by start new longs_new ≡ length longs_new
put_count start before rows end shorts new longs longs_new counted behind put =
    let one = ap (λ (ss : List Short). longs_by start ss longs_new) put.shorts_are
    ∙ ap (λ (ls : List Row). longs_by start (shorts ++ put.short ∷ []) ls) put.longs_are
    ∙ count_put start shorts longs put.more put.short counted
    ∙ ap (λ at. longs_by start shorts longs + long_count (held at put.short)) (sym behind) in
    let two = ap length put.longs_are ∙ length-append longs put.more in
    let three = put.count in omega (arith, counted, one, two, three)

-- a pair leaves the long rows as they are
pub pair_put : (before : ℕ) (row next : Row) (short : Short) (shorts new : List Short) (longs : List Row)
    → held before short ≡ Two row next → new ≡ shorts ++ short ∷ []
    → IsPut before (row ∷ next ∷ []) next.to shorts longs new longs
pair_put before row next short shorts new longs holds are = record {
  short = short;
  more = [];
  shorts_are = are;
  longs_are = sym (append-nil longs);
  count = sym (ap long_count holds);
  stand = ap (λ (h : Held). rows_held h []) holds;
  ends = ap (λ (h : Held). end_held h []) holds;
}

-- the row that waited is put, and another waits
pub put_all : (start before : ℕ) (waiting row : Row) (shorts new : List Short) (longs longs_new : List Row)
    → longs_by start shorts longs ≡ length longs → before ≡ end_by start shorts longs
    → IsPut before (waiting ∷ []) waiting.to shorts longs new longs_new
    → rows_closed start new longs_new (Some row) ≡ rows_closed start shorts longs (Some waiting) ++ row ∷ []
put_all start before waiting row shorts new longs longs_new counted behind put =
    ap (λ (rows : List Row). rows ++ row ∷ [])
    (put_rows start before (waiting ∷ []) waiting.to shorts new longs longs_new counted behind put)

-- both are put
pub pair_all : (start before : ℕ) (waiting row : Row) (shorts new : List Short) (longs : List Row)
    → longs_by start shorts longs ≡ length longs → before ≡ end_by start shorts longs
    → IsPut before (waiting ∷ row ∷ []) row.to shorts longs new longs
    → rows_closed start new longs None ≡ rows_closed start shorts longs (Some waiting) ++ row ∷ []
pair_all start before waiting row shorts new longs counted behind put =
    append-nil (rows_by start new longs)
    ∙ put_rows start before (waiting ∷ row ∷ []) row.to shorts new longs longs counted behind put
    ∙ sym (append_assoc (rows_by start shorts longs) (waiting ∷ []) (row ∷ []))
