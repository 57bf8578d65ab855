-- The text of a table determines its cells.
use Rattle.std.proofs.Common.{◌≡◌, ℕ, zero, suc, ◌-◌, ◌≤◌, Bool, true, false, not, List, [], ◌∷◌, ◌++◌, length}
use Rattle.std.proofs.Common.{refl, ap, ap₂, sym, ◌∙◌, append_assoc, arith, replicate, ◌==◌, ◌&&◌, ◌||◌, length-append}
use Rattle.std.specs.Prelude.{if◌then◌else◌}
use Rattle.std.specs.List.{AllByRecursion, list_any}
use Rattle.std.proofs.lemmas.Bool.{eqb-true}
use Rattle.hls_text.specs.Lines.{Text}
use Rattle.hls_text.proofs.Marks.{Lacks, lacks_both, cut_same}
use Rattle.hls_text.proofs.NumberLaws.{and_left, and_right}
use Rattle.hls_view_table.specs.declared.table.Side.{Side}
use Rattle.hls_view_table.specs.declared.table.Side.TheVariants.{Left, Right}
use Rattle.hls_view_table.specs.declared.lanes.Lane.{Lane}
use Rattle.hls_view_table.specs.Tables.{fill, spread, before_text, trimmed, line_text, lines_text}
use Rattle.hls_view_table.specs.Tables.{lanes_from, lanes_of, aligned}
use Rattle.hls_view_table.specs.Cells.{goes_on, IsCell, IsLine}
use Rattle.hls_view_table.proofs.Parts.{parts, on_blank, spread_parts, trimmed_parts}

either_false : (a b : Bool) → (a || b) ≡ false → (a ≡ false) × (b ≡ false)
either_false true b h = absurd (let e : true ≡ false = h in cc)
either_false false b h = (refl, h)

-- ---- no line ends in a line

abbrev LacksEnd : Text → Type 0
LacksEnd text = Lacks 10 text

not_end : (b : ℕ) (v : Bool) → (b == 10) ≡ v → not (b == 10) ≡ true → (b == 10) ≡ false
not_end b true is other = absurd (let e : false ≡ true = sym (ap (λ w. not w) is) ∙ other in cc)
not_end b false is other = is

byte_on : (b : ℕ) (bs : Text) → (b == 10) ≡ false → LacksEnd bs → LacksEnd (b ∷ bs)
byte_on b bs other lacks = rw other lacks

blank_no_end : (b : ℕ) → (b == 32) ≡ true → (b == 10) ≡ false
blank_no_end b is = let same : b ≡ 32 = eqb-true b 32 is in ap (λ (k : ℕ). k == 10) same

cell_lacks_on : (behind : Bool) (b : ℕ) (bs : Text) (v : Bool) → (b == 32) ≡ v → goes_on behind (b ∷ bs) ≡ true
    → ((flag : Bool) → goes_on flag bs ≡ true → LacksEnd bs) → LacksEnd (b ∷ bs)
cell_lacks_on behind b bs true one on rest =
    byte_on b bs (blank_no_end b one) (rest false (and_right behind (goes_on false bs) (on_blank behind b bs one on)))
cell_lacks_on behind b bs false one on rest =
    let both : (not (b == 10) && goes_on true bs) ≡ true =
    sym (ap (λ v. if v then behind && goes_on false bs else (not (b == 10) && goes_on true bs)) one) ∙ on in
    byte_on b bs (not_end b (b == 10) refl (and_left (not (b == 10)) (goes_on true bs) both))
    (rest true (and_right (not (b == 10)) (goes_on true bs) both))

cell_lacks : (behind : Bool) (cell : Text) → goes_on behind cell ≡ true → LacksEnd cell
cell_lacks behind [] on = refl
cell_lacks behind (b ∷ bs) on = cell_lacks_on behind b bs (b == 32) refl on (λ flag. cell_lacks flag bs)

blanks_lack : (n : ℕ) → LacksEnd (replicate n 32)
blanks_lack zero = refl
blanks_lack (suc n) = blanks_lack n

filled_lacks : (side : Side) (cell : Text) (n : ℕ) → IsCell cell → LacksEnd (fill side cell (replicate n 32))
filled_lacks Left cell n is = lacks_both 10 cell (replicate n 32) (cell_lacks false cell is) (blanks_lack n)
filled_lacks Right cell n is = lacks_both 10 (replicate n 32) cell (blanks_lack n) (cell_lacks false cell is)

spread_lacks : (lanes : List Lane) (cells : List Text) → AllByRecursion IsCell cells → LacksEnd (spread lanes cells)
spread_lacks [] cells are = refl
spread_lacks (lane ∷ lanes) [] are = refl
spread_lacks (lane ∷ lanes) (cell ∷ cells) are =
    let n = lane.wide - length cell in
    lacks_both 10 (fill lane.side cell (replicate n 32) ++ (32 ∷ 32 ∷ [])) (spread lanes cells)
    (lacks_both 10 (fill lane.side cell (replicate n 32)) (32 ∷ 32 ∷ []) (filled_lacks lane.side cell n are.0) refl)
    (spread_lacks lanes cells are.1)

before_lacks : (b : ℕ) (short : Text) (v w : Bool) → (b == 32) ≡ v → (b == 10) ≡ w → (w ≡ false) → LacksEnd short
    → LacksEnd (before_text b short)
before_lacks b [] true w blank is other lacks = ap (λ v. list_any (λ c. c == 10) (if v then [] else b ∷ [])) blank
before_lacks b [] false w blank is other lacks =
    ap (λ v. list_any (λ c. c == 10) (if v then [] else b ∷ [])) blank ∙ byte_on b [] (is ∙ other) refl
before_lacks b (c ∷ cs) v w blank is other lacks = byte_on b (c ∷ cs) (is ∙ other) lacks

trimmed_lacks : (text : Text) → LacksEnd text → LacksEnd (trimmed text)
trimmed_lacks [] lacks = refl
trimmed_lacks (b ∷ bs) lacks =
    let parts = either_false (b == 10) (list_any (λ c. c == 10) bs) lacks in
    before_lacks b (trimmed bs) (b == 32) (b == 10) refl refl parts.0 (trimmed_lacks bs parts.1)

line_lacks : (lanes : List Lane) (cells : List Text) → AllByRecursion IsCell cells
    → LacksEnd (line_text lanes cells)
line_lacks lanes cells are = trimmed_lacks (spread lanes cells) (spread_lacks lanes cells are)

-- ---- lines

line_read : (lanes : List Lane) (cells : List Text) → length cells ≤ length lanes → AllByRecursion IsCell cells
    → parts (line_text lanes cells) ≡ cells
line_read lanes cells few are = trimmed_parts (spread lanes cells) ∙ spread_parts lanes cells few are

record IsIn (lanes : List Lane) (cells : List Text) : Type 0 where
  pub few : length cells ≤ length lanes
  pub are : AllByRecursion IsCell cells

no_line : (text rest : Text) → [] ≡ (text ++ 10 ∷ []) ++ rest → ⊥
no_line text rest same =
    let long : length ((text ++ 10 ∷ []) ++ rest) ≡ 0 = sym (ap (λ (t : Text). length t) same) in
    omega (arith, long, length-append (text ++ 10 ∷ []) rest, length-append text (10 ∷ []))

same_lines : (lanes others : List Lane) (one two : List (List Text)) → AllByRecursion (IsIn lanes) one
    → AllByRecursion (IsIn others) two → lines_text lanes one ≡ lines_text others two → one ≡ two
same_lines lanes others [] [] are also same = refl
same_lines lanes others [] (y ∷ ys) are also same =
    absurd (no_line (line_text others y) (lines_text others ys) same)
same_lines lanes others (x ∷ xs) [] are also same =
    absurd (no_line (line_text lanes x) (lines_text lanes xs) (sym same))
same_lines lanes others (x ∷ xs) (y ∷ ys) are also same =
    let first : Text = line_text lanes x in
    let second : Text = line_text others y in
    let cut = cut_same 10 first (lines_text lanes xs) second (lines_text others ys)
    (sym (append_assoc first (10 ∷ []) (lines_text lanes xs)) ∙ same
    ∙ append_assoc second (10 ∷ []) (lines_text others ys))
    (line_lacks lanes x are.0.are) (line_lacks others y also.0.are) in
    let head : x ≡ y = sym (line_read lanes x are.0.few are.0.are) ∙ ap parts cut.0
    ∙ line_read others y also.0.few also.0.are in
    ap₂ (λ (l : List Text) (ls : List (List Text)). l ∷ ls) head
    (same_lines lanes others xs ys are.1 also.1 cut.1)

-- ---- tables

lanes_length : (at : ℕ) (sides : List Side) (lines : List (List Text))
    → length (lanes_from at sides lines) ≡ length sides
lanes_length at [] lines = refl
lanes_length at (side ∷ sides) lines = ap suc (lanes_length (suc at) sides lines)

all_in : (sides : List Side) (lines some : List (List Text)) → AllByRecursion (IsLine sides) some
    → AllByRecursion (IsIn (lanes_of sides lines)) some
all_in sides lines [] are = tt
all_in sides lines (x ∷ xs) are =
    let count = lanes_length 0 sides lines in
    let few = are.0.few in
    (record { few = omega (arith, count, few); are = are.0.are }, all_in sides lines xs are.1)

pub same_table : (sides others : List Side) (one two : List (List Text)) → AllByRecursion (IsLine sides) one
    → AllByRecursion (IsLine others) two → aligned sides one ≡ aligned others two → one ≡ two
same_table sides others one two are also same =
    same_lines (lanes_of sides one) (lanes_of others two) one two (all_in sides one one are)
    (all_in others two two also) same
