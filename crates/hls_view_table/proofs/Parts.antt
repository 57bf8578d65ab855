-- The cells of a line, read back from its text.
use Rattle.std.proofs.Common.{◌≡◌, ℕ, zero, suc, ◌-◌, ◌≤◌, Bool, true, false, not, List, [], ◌∷◌, ◌++◌, length}
use Rattle.std.proofs.Common.{refl, ap, sym, subst, ◌∙◌, append_assoc, arith, replicate, ◌==◌, ◌&&◌}
use Rattle.std.specs.Prelude.{if◌then◌else◌}
use Rattle.std.specs.List.{AllByRecursion}
use Rattle.std.proofs.lemmas.Bool.{eqb-true}
use Rattle.hls_text.specs.Lines.{Text, onto_first}
use Rattle.hls_text.proofs.NumberLaws.{and_right}
use Rattle.hls_view_table.specs.declared.table.Side.{Side}
use Rattle.hls_view_table.specs.declared.table.Side.TheVariants.{Left, Right}
use Rattle.hls_view_table.specs.declared.lanes.Lane.{Lane}
use Rattle.hls_view_table.specs.Tables.{fill, spread, before_text, trimmed}
use Rattle.hls_view_table.specs.Cells.{goes_on, IsCell}

abbrev begins_visible : Text → Bool
begins_visible [] = false
begins_visible (b ∷ bs) = not (b == 32)

-- a visible byte before a text with these parts
abbrev joined : ℕ → Text → List Text → List Text
joined b [] ps = (b ∷ []) ∷ ps
joined b (c ∷ cs) ps = if c == 32
    then (if begins_visible cs then onto_first b (onto_first 32 ps) else (b ∷ []) ∷ ps) else onto_first b ps

-- what stands between two blanks or more
abbrev pub parts : Text → List Text
parts [] = []
parts (b ∷ bs) = if b == 32 then parts bs else joined b bs (parts bs)

-- ---- a cell and two blanks

visible_more : (b c : ℕ) (cs rest : Text) (ps : List Text) → (b == 32) ≡ false → (c == 32) ≡ false
    → parts (c ∷ rest) ≡ (c ∷ cs) ∷ ps → parts (b ∷ c ∷ rest) ≡ (b ∷ c ∷ cs) ∷ ps
visible_more b c cs rest ps one two these =
    ap (λ v. if v then parts (c ∷ rest) else joined b (c ∷ rest) (parts (c ∷ rest))) one
    ∙ ap (λ (qs : List Text). joined b (c ∷ rest) qs) these
    ∙ ap (λ v. if v
    then (if begins_visible rest then onto_first b (onto_first 32 ((c ∷ cs) ∷ ps)) else (b ∷ []) ∷ ((c ∷ cs) ∷ ps))
    else onto_first b ((c ∷ cs) ∷ ps)) two

blank_more : (b d : ℕ) (ds rest : Text) (ps : List Text) → (b == 32) ≡ false → (d == 32) ≡ false
    → parts (d ∷ rest) ≡ (d ∷ ds) ∷ ps → parts (b ∷ 32 ∷ d ∷ rest) ≡ (b ∷ 32 ∷ d ∷ ds) ∷ ps
blank_more b d ds rest ps one two these =
    ap (λ v. if v then parts (d ∷ rest) else joined b (32 ∷ d ∷ rest) (parts (d ∷ rest))) one
    ∙ ap (λ (qs : List Text). joined b (32 ∷ d ∷ rest) qs) these
    ∙ ap (λ v. if not v then onto_first b (onto_first 32 ((d ∷ ds) ∷ ps)) else (b ∷ []) ∷ ((d ∷ ds) ∷ ps)) two

abbrev gap : Text → Text
gap rest = 32 ∷ 32 ∷ rest

alone : (b : ℕ) (rest : Text) → (b == 32) ≡ false → parts (b ∷ gap rest) ≡ (b ∷ []) ∷ parts rest
alone b rest one = ap (λ v. if v then parts rest else (b ∷ []) ∷ parts rest) one

-- what goes on with a visible byte
on_visible : (behind : Bool) (b : ℕ) (bs : Text) → (b == 32) ≡ false → goes_on behind (b ∷ bs) ≡ true
    → goes_on true bs ≡ true
on_visible behind b bs one on =
    and_right (not (b == 10)) (goes_on true bs)
    (sym (ap (λ v. if v then behind && goes_on false bs else (not (b == 10) && goes_on true bs)) one) ∙ on)

pub on_blank : (behind : Bool) (b : ℕ) (bs : Text) → (b == 32) ≡ true → goes_on behind (b ∷ bs) ≡ true
    → (behind && goes_on false bs) ≡ true
on_blank behind b bs one on =
    sym (ap (λ v. if v then behind && goes_on false bs else (not (b == 10) && goes_on true bs)) one) ∙ on

-- a cell does not begin with a blank
first_visible : (b : ℕ) (bs : Text) (v : Bool) → (b == 32) ≡ v → goes_on false (b ∷ bs) ≡ true
    → (b == 32) ≡ false
first_visible b bs true one on = absurd (let no : false ≡ true = on_blank false b bs one on in cc)
first_visible b bs false one on = one

last_visible : (b c : ℕ) (rest : Text) (v : Bool) → (c == 32) ≡ v → (b == 32) ≡ false
    → goes_on true (c ∷ []) ≡ true → parts (b ∷ c ∷ gap rest) ≡ (b ∷ c ∷ []) ∷ parts rest
last_visible b c rest true two one on = absurd (let no : false ≡ true = on_blank true c [] two on in cc)
last_visible b c rest false two one on = visible_more b c [] (gap rest) (parts rest) one two (alone c rest two)

more_parts : (b c d : ℕ) (ds rest : Text) (v : Bool) → (c == 32) ≡ v → (b == 32) ≡ false
    → goes_on true (c ∷ d ∷ ds) ≡ true
    → ((c == 32) ≡ false → goes_on true (d ∷ ds) ≡ true
    → parts (c ∷ d ∷ (ds ++ gap rest)) ≡ (c ∷ d ∷ ds) ∷ parts rest)
    → ((d == 32) ≡ false → goes_on true ds ≡ true → parts (d ∷ (ds ++ gap rest)) ≡ (d ∷ ds) ∷ parts rest)
    → parts (b ∷ c ∷ d ∷ (ds ++ gap rest)) ≡ (b ∷ c ∷ d ∷ ds) ∷ parts rest
more_parts b c d ds rest false two one on next behind =
    visible_more b c (d ∷ ds) (d ∷ (ds ++ gap rest)) (parts rest) one two (next two (on_visible true c (d ∷ ds) two on))
more_parts b c d ds rest true two one on next behind =
    let same : c ≡ 32 = eqb-true c 32 two in
    let goes : goes_on false (d ∷ ds) ≡ true = on_blank true c (d ∷ ds) two on in
    let third : (d == 32) ≡ false = first_visible d ds (d == 32) refl goes in
    subst (λ (k : ℕ). parts (b ∷ k ∷ d ∷ (ds ++ gap rest)) ≡ (b ∷ k ∷ d ∷ ds) ∷ parts rest) (sym same)
    (blank_more b d ds (ds ++ gap rest) (parts rest) one third (behind third (on_visible false d ds third goes)))

visible_part : (b : ℕ) (bs rest : Text) → (b == 32) ≡ false → goes_on true bs ≡ true
    → parts (b ∷ (bs ++ gap rest)) ≡ (b ∷ bs) ∷ parts rest
visible_part b [] rest one on = alone b rest one
visible_part b (c ∷ []) rest one on = last_visible b c rest (c == 32) refl one on
visible_part b (c ∷ d ∷ ds) rest one on =
    more_parts b c d ds rest (c == 32) refl one on (visible_part c (d ∷ ds) rest) (visible_part d ds rest)

cell_part : (cell rest : Text) → IsCell cell → parts (cell ++ gap rest) ≡ cell ∷ parts rest
cell_part [] rest is = absurd (let no : false ≡ true = is in cc)
cell_part (b ∷ bs) rest is =
    let one : (b == 32) ≡ false = first_visible b bs (b == 32) refl is in
    visible_part b bs rest one (on_visible false b bs one is)

-- ---- a line

blanks_part : (n : ℕ) (rest : Text) → parts (replicate n 32 ++ rest) ≡ parts rest
blanks_part zero rest = refl
blanks_part (suc n) rest = blanks_part n rest

blank_behind : (n : ℕ) (rest : Text) → replicate n 32 ++ (32 ∷ rest) ≡ 32 ∷ (replicate n 32 ++ rest)
blank_behind zero rest = refl
blank_behind (suc n) rest = ap (λ (t : Text). 32 ∷ t) (blank_behind n rest)

gap_behind : (n : ℕ) (rest : Text) → replicate n 32 ++ gap rest ≡ gap (replicate n 32 ++ rest)
gap_behind n rest = blank_behind n (32 ∷ rest) ∙ ap (λ (t : Text). 32 ∷ t) (blank_behind n rest)

filled_part : (side : Side) (cell rest : Text) (n : ℕ) → IsCell cell
    → parts ((fill side cell (replicate n 32) ++ (32 ∷ 32 ∷ [])) ++ rest) ≡ cell ∷ parts rest
filled_part Left cell rest n is =
    let blanks : Text = replicate n 32 in
    ap parts (append_assoc (cell ++ blanks) (32 ∷ 32 ∷ []) rest ∙ append_assoc cell blanks (gap rest)
    ∙ ap (λ (t : Text). cell ++ t) (gap_behind n rest))
    ∙ cell_part cell (blanks ++ rest) is
    ∙ ap (λ (ps : List Text). cell ∷ ps) (blanks_part n rest)
filled_part Right cell rest n is =
    let blanks : Text = replicate n 32 in
    ap parts (append_assoc (blanks ++ cell) (32 ∷ 32 ∷ []) rest ∙ append_assoc blanks cell (gap rest))
    ∙ blanks_part n (cell ++ gap rest)
    ∙ cell_part cell rest is

pub spread_parts : (lanes : List Lane) (cells : List Text) → length cells ≤ length lanes
    → AllByRecursion IsCell cells → parts (spread lanes cells) ≡ cells
spread_parts [] [] few are = refl
spread_parts (lane ∷ lanes) [] few are = refl
spread_parts [] (cell ∷ cells) few are = absurd (omega (arith, few))
spread_parts (lane ∷ lanes) (cell ∷ cells) few are =
    filled_part lane.side cell (spread lanes cells) (lane.wide - length cell) are.0
    ∙ ap (λ (ps : List Text). cell ∷ ps) (spread_parts lanes cells (omega (arith, few)) are.1)

-- ---- without the blanks at its end

begins_same_on : (d : ℕ) (ds short : Text) (v : Bool) → (d == 32) ≡ v
    → begins_visible (before_text d short) ≡ begins_visible (d ∷ ds)
begins_same_on d ds [] true one =
    ap (λ v. begins_visible (if v then [] else d ∷ [])) one ∙ sym (ap (λ v. not v) one)
begins_same_on d ds [] false one = ap (λ v. begins_visible (if v then [] else d ∷ [])) one
begins_same_on d ds (c ∷ cs) v one = refl

begins_same : (text : Text) → begins_visible (trimmed text) ≡ begins_visible text
begins_same [] = refl
begins_same (d ∷ ds) = begins_same_on d ds (trimmed ds) (d == 32) refl

joined_same_on : (b c : ℕ) (cs short : Text) (ps : List Text) (v : Bool) → (c == 32) ≡ v
    → begins_visible short ≡ begins_visible cs
    → joined b (before_text c short) ps ≡ joined b (c ∷ cs) ps
joined_same_on b c cs [] ps true one begins =
    ap (λ v. joined b (if v then [] else c ∷ []) ps) one
    ∙ sym (ap (λ v. if v
    then (if begins_visible cs then onto_first b (onto_first 32 ps) else (b ∷ []) ∷ ps) else onto_first b ps) one
    ∙ ap (λ v. if v then onto_first b (onto_first 32 ps) else (b ∷ []) ∷ ps) (sym begins))
joined_same_on b c cs [] ps false one begins =
    ap (λ v. joined b (if v then [] else c ∷ []) ps) one
    ∙ ap (λ v. if v then (b ∷ []) ∷ ps else onto_first b ps) one
    ∙ sym (ap (λ v. if v
    then (if begins_visible cs then onto_first b (onto_first 32 ps) else (b ∷ []) ∷ ps) else onto_first b ps) one)
joined_same_on b c cs (d ∷ ds) ps v one begins =
    ap (λ w. if c == 32
    then (if w then onto_first b (onto_first 32 ps) else (b ∷ []) ∷ ps) else onto_first b ps) begins

joined_same : (b : ℕ) (text : Text) (ps : List Text) → joined b (trimmed text) ps ≡ joined b text ps
joined_same b [] ps = refl
joined_same b (c ∷ cs) ps = joined_same_on b c cs (trimmed cs) ps (c == 32) refl (begins_same cs)

trimmed_on : (b : ℕ) (bs short : Text) (v : Bool) → (b == 32) ≡ v → parts short ≡ parts bs
    → ((ps : List Text) → joined b short ps ≡ joined b bs ps)
    → parts (before_text b short) ≡ parts (b ∷ bs)
trimmed_on b bs [] true one these joins =
    ap (λ v. parts (if v then [] else b ∷ [])) one ∙ these
    ∙ sym (ap (λ v. if v then parts bs else joined b bs (parts bs)) one)
trimmed_on b bs [] false one these joins =
    ap (λ v. parts (if v then [] else b ∷ [])) one
    ∙ ap (λ v. if v then [] else (b ∷ []) ∷ []) one
    ∙ ap (λ (ps : List Text). (b ∷ []) ∷ ps) these ∙ joins (parts bs)
    ∙ sym (ap (λ v. if v then parts bs else joined b bs (parts bs)) one)
trimmed_on b bs (c ∷ cs) true one these joins =
    ap (λ v. if v then parts (c ∷ cs) else joined b (c ∷ cs) (parts (c ∷ cs))) one ∙ these
    ∙ sym (ap (λ v. if v then parts bs else joined b bs (parts bs)) one)
trimmed_on b bs (c ∷ cs) false one these joins =
    ap (λ v. if v then parts (c ∷ cs) else joined b (c ∷ cs) (parts (c ∷ cs))) one
    ∙ ap (λ (ps : List Text). joined b (c ∷ cs) ps) these ∙ joins (parts bs)
    ∙ sym (ap (λ v. if v then parts bs else joined b bs (parts bs)) one)

pub trimmed_parts : (text : Text) → parts (trimmed text) ≡ parts text
trimmed_parts [] = refl
trimmed_parts (b ∷ bs) =
    trimmed_on b bs (trimmed bs) (b == 32) refl (trimmed_parts bs) (λ ps. joined_same b bs ps)
